use Rattle.std.proofs.Common.{◌≡◌}
use Rattle.mf_set_tests.proofs.tests.set_of.Given as goal

abbrev pub invariant-loop-number : goal.invariant-loop-number
invariant-loop-number l = l.set.room ≡ l.room
