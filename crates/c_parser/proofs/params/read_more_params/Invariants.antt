-- The parameters that are left, behind those so far, are read as all.
use Rattle.std.proofs.Common.{◌≡◌, ◌-◌}
use Rattle.c_parser.specs.ReadFile.{read_more_params}
use Rattle.c_parser.specs.Loops.{looped}
use Rattle.c_parser.specs.FileLoops.{param_turn}
use Rattle.c_parser.proofs.params.read_more_params.Given as goal

abbrev pub invariant-loop-turn : goal.invariant-loop-turn
invariant-loop-turn l = looped param_turn (l.turns - l._turn) l.params l.left ≡ read_more_params l.turns l.fn.front l.tokens
