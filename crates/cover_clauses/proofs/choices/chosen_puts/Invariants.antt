use Rattle.cover_clauses.proofs.ChoiceLaws.{Chosen}
use Rattle.cover_clauses.proofs.choices.chosen_puts.Given as goal

abbrev pub invariant-loop-place : goal.invariant-loop-place
invariant-loop-place l = Chosen l.problem l.bits l.place l.variable l.puts
