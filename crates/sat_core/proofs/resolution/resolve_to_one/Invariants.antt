use Rattle.sat_core.specs.Learning.{clauses_of, Refutable}
use Rattle.sat_core.proofs.resolution.resolve_to_one.Given as goal

abbrev pub invariant-loop-code : goal.invariant-loop-code
invariant-loop-code l =
    (goal.iterator-loop-code).can_next l.code-iterator ×
    (goal.iterator-loop-code).is_finite l.code-iterator ×
    Refutable (clauses_of l.known) l.marks.list.items
