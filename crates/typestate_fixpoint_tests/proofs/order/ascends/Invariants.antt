use Rattle.std.proofs.Common.{◌≡◌, length}
use Rattle.c_tree.specs.Fill.{ascends}
use Rattle.typestate_fixpoint_tests.proofs.order.ascends.Given as goal

abbrev pub invariant-loop-left : goal.invariant-loop-left
invariant-loop-left l = ascends l.left ≡ ascends l.puts

abbrev pub decreases-loop-left : goal.decreases-loop-left
decreases-loop-left l = length l.left
