use Rattle.std.proofs.Common.{bit_or}
use Rattle.mf_set.proofs.WordLaws.{Combines, Changes}
use Rattle.mf_set.proofs.words.union_with.Given as goal

-- the words below i are combined, and the others are as they were
abbrev pub invariant-loop-i : goal.invariant-loop-i
invariant-loop-i l = record {
  combined : Combines bit_or l.fn.words l.other l.words l.i;
  changes : Changes bit_or l.fn.words l.other l.changed l.i;
}
