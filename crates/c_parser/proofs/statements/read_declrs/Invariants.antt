-- The declarators that are left, behind those so far, are those of the declaration.
use Rattle.std.proofs.Common.{◌≡◌, ◌-◌, []}
use Rattle.c_parser.specs.ReadStatements.{read_declrs}
use Rattle.c_parser.proofs.statements.read_declrs.Given as goal

abbrev pub invariant-loop-turn : goal.invariant-loop-turn
invariant-loop-turn l = read_declrs l.depth l.base (l.turns - l._turn) l.declrs l.left ≡ read_declrs l.depth l.base l.turns [] l.tokens
