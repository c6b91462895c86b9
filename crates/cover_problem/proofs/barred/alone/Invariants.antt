use Rattle.std.proofs.Common.{take}
use Rattle.cover_problem.specs.Alone.{LeastOf}
use Rattle.cover_problem.proofs.barred.alone.Given as goal

abbrev pub invariant-loop-exit : goal.invariant-loop-exit
invariant-loop-exit l = LeastOf l.problem (take l.exit-index l.problem.exits) l.least
