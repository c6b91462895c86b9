use Rattle.std.proofs.Common.{◌≡◌, ℕ, ◌*◌, ◌<◌, ◌&&◌, false}
use Rattle.mf_set.specs.Words.{has_bit}
use Rattle.mf_set.proofs.words.first_common.Given as goal

-- no number of the words below i is in both sets
abbrev pub invariant-loop-i : goal.invariant-loop-i
invariant-loop-i l = (n : ℕ) → n < 64 * l.i → (has_bit l.words n && has_bit l.other n) ≡ false
