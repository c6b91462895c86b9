-- The globals that are left, behind those so far, are read as all.
use Rattle.std.proofs.Common.{◌≡◌, ◌-◌, length, []}
use Rattle.c_parser.specs.ReadFile.{read_globals}
use Rattle.c_parser.specs.Loops.{looped}
use Rattle.c_parser.specs.FileLoops.{global_turn}
use Rattle.c_parser.proofs.globals.read_globals.Given as goal

abbrev pub invariant-loop-turn : goal.invariant-loop-turn
invariant-loop-turn l = looped (global_turn l.base) (length l.tokens - l._turn) l.globals l.left ≡ read_globals l.base (length l.tokens) [] l.tokens
