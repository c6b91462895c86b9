use Rattle.std.proofs.Common.{◌≡◌, length}
use Rattle.c_replay.specs.Changes.{revived}
use Rattle.c_replay.proofs.store.revive.Given as goal

abbrev pub invariant-loop-object : goal.invariant-loop-object
invariant-loop-object l = revived l.left l.objects ≡ revived l.fn.freed l.fn.objects

abbrev pub decreases-loop-object : goal.decreases-loop-object
decreases-loop-object l = length l.left
