use Rattle.std.proofs.Common.{◌≡◌}
use Rattle.alias_facts.proofs.following.all_pending.Given as goal

abbrev pub invariant-loop-write : goal.invariant-loop-write
invariant-loop-write l = l.pending.room ≡ l.count
