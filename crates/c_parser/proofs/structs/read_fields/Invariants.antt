-- The fields that are left, behind those so far, are read as all.
use Rattle.std.proofs.Common.{◌≡◌, ◌-◌, length, []}
use Rattle.c_parser.specs.ReadFile.{read_fields}
use Rattle.c_parser.specs.Loops.{looped}
use Rattle.c_parser.specs.FileLoops.{fields_turn}
use Rattle.c_parser.proofs.structs.read_fields.Given as goal

abbrev pub invariant-loop-turn : goal.invariant-loop-turn
invariant-loop-turn l = looped fields_turn (length l.tokens - l._turn) l.fields l.left ≡ read_fields (length l.tokens) [] l.tokens
