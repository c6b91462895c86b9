use Rattle.std.proofs.Common.{◌≡◌, ℕ, ◌*◌, ◌<◌, ◌&&◌, false, nat_le}
use Rattle.mf_set.specs.Words.{has_bit}
use Rattle.mf_set.proofs.words.next_from.Given as goal

-- no number of the words below i is in the set and at `from` or above
abbrev pub invariant-loop-i : goal.invariant-loop-i
invariant-loop-i l = (n : ℕ) → n < 64 * l.i → (nat_le l.from n && has_bit l.words n) ≡ false
