use Rattle.std.proofs.Common.{◌≡◌, ◌*◌, length}
use Rattle.mf_set.specs.Words.{has_bit}
use Rattle.mf_set.proofs.OrderLaws.{bits_cmp}
use Rattle.mf_set.proofs.words.compare.Given as goal

-- the words from i on are equal
abbrev pub invariant-loop-i : goal.invariant-loop-i
invariant-loop-i l = bits_cmp (has_bit l.words) (has_bit l.other) (64 * length l.words) ≡ bits_cmp (has_bit l.words) (has_bit l.other) (64 * l.i)
