use Rattle.std.proofs.Common.{◌≡◌, ◌++◌}
use Rattle.mf_set.specs.Words.{numbers_at}
use Rattle.mf_set.proofs.words.push_numbers.Given as goal

-- the numbers so far, and those of the bits that are left
abbrev pub invariant-loop-rest : goal.invariant-loop-rest
invariant-loop-rest l = l.numbers.items ++ numbers_at l.index l.rest ≡ l.fn.numbers.items ++ numbers_at l.index l.word

abbrev pub decreases-loop-rest : goal.decreases-loop-rest
decreases-loop-rest l = l.rest
