use Rattle.std.proofs.Common.{take}
use Rattle.sat_core.specs.Learning.{clauses_of, IsWithin, Covers}
use Rattle.sat_core.proofs.resolution.mark_others.Given as goal

abbrev pub invariant-loop-lit : goal.invariant-loop-lit
invariant-loop-lit l =
    IsWithin l.initial.marks.list.items l.marks.list.items × Covers (clauses_of l.known) l.marks.list.items (take l.lit-index l.clause) l.pivot
