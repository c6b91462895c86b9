use Rattle.std.proofs.Common.{◌≡◌, take}
use Rattle.mf_set.specs.Words.{numbers_of}
use Rattle.mf_set.proofs.words.push_all.Given as goal

-- the numbers of the words below i
abbrev pub invariant-loop-i : goal.invariant-loop-i
invariant-loop-i l = l.numbers.items ≡ numbers_of (take l.i l.words)
