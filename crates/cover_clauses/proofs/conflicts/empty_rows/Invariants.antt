use Rattle.cover_clauses.specs.Conflicts.{AreEmpty}
use Rattle.cover_clauses.proofs.conflicts.empty_rows.Given as goal

abbrev pub invariant-loop : goal.invariant-loop
invariant-loop l = AreEmpty l.size l.counter l.rows
