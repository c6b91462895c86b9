use Rattle.std.proofs.Common.{◌≡◌, ◌++◌, length}
use Rattle.cfg_lower.proofs.places.path_from.Given as goal

abbrev pub invariant-loop-step : goal.invariant-loop-step
invariant-loop-step l = l.path ++ l.left ≡ l.fn.steps

abbrev pub decreases-loop-step : goal.decreases-loop-step
decreases-loop-step l = length l.left
