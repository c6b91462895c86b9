use Rattle.std.proofs.Common.{◌≡◌, ℕ, ◌<◌, get_or}
use Rattle.mf_set.proofs.words.is_equal.Given as goal

-- the words below i are equal
abbrev pub invariant-loop-i : goal.invariant-loop-i
invariant-loop-i l = (k : ℕ) → k < l.i → get_or l.words k 0 ≡ get_or l.other k 0
