use Rattle.std.proofs.Common.{◌≡◌, ◌<◌, ℕ, true}
use Rattle.mf_set.specs.Numbers.{has as has_number}
use Rattle.path_facts.proofs.start.full.Given as goal

abbrev pub invariant-loop-number : goal.invariant-loop-number
invariant-loop-number l = (l.set.room ≡ l.room) × ((k : ℕ) → k < l.number → has_number l.set.items k ≡ true)
