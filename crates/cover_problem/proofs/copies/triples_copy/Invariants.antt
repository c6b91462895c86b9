use Rattle.std.proofs.Common.{◌≡◌, take}
use Rattle.cover_problem.proofs.copies.triples_copy.Given as goal

abbrev pub invariant-loop-triple : goal.invariant-loop-triple
invariant-loop-triple l = l.copy ≡ take l.triple-index l.triples
