use Rattle.cover_clauses.proofs.LoopLaws.{Left}
use Rattle.cover_clauses.proofs.listing.has_more.Given as goal

abbrev pub invariant-loop-row : goal.invariant-loop-row
invariant-loop-row l = Left l.limit l.exits l.left l.rows l.row-index
