-- The arguments that are left, behind those so far, are those of the call.
use Rattle.std.proofs.Common.{◌≡◌, ◌-◌}
use Rattle.c_parser.specs.ReadStatements.{read_more_args}
use Rattle.c_parser.proofs.calls.read_more_args.Given as goal

abbrev pub invariant-loop-turn : goal.invariant-loop-turn
invariant-loop-turn l = read_more_args l.depth (l.turns - l._turn) l.arguments l.left ≡ read_more_args l.depth l.turns l.fn.front l.fn.tokens
