use Rattle.std.proofs.Common.{◌≡◌, take}
use Rattle.cover_clauses.specs.Conflicts.{triple_sets}
use Rattle.cover_clauses.proofs.candidates.triple_sets.Given as goal

abbrev pub invariant-loop-triple : goal.invariant-loop-triple
invariant-loop-triple l = l.sets.keys ≡ triple_sets l.usable (take l.triple-index l.triples)
