use Rattle.cover_clauses.proofs.LoopLaws.{Counted}
use Rattle.cover_clauses.proofs.listing.variables_of.Given as goal

abbrev pub invariant-loop-place : goal.invariant-loop-place
invariant-loop-place l = Counted l.problem l.place l.before l.count
