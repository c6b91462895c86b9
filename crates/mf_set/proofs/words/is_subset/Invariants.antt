use Rattle.std.proofs.Common.{◌≡◌, ℕ, ◌*◌, ◌<◌, true}
use Rattle.mf_set.specs.Words.{has_bit}
use Rattle.mf_set.proofs.words.is_subset.Given as goal

-- the other set has the numbers of the words below i
abbrev pub invariant-loop-i : goal.invariant-loop-i
invariant-loop-i l = (n : ℕ) → n < 64 * l.i → has_bit l.words n ≡ true → has_bit l.other n ≡ true
