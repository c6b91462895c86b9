use Rattle.sat_core.specs.Learning.{clauses_of, Refutable}
use Rattle.sat_core.proofs.minimization.minimize.Given as goal

abbrev pub invariant-loop-place : goal.invariant-loop-place
invariant-loop-place l =
    (goal.iterator-loop-place).can_next l.place-iterator ×
    (goal.iterator-loop-place).is_finite l.place-iterator ×
    Refutable (clauses_of l.known) l.marks.list.items
