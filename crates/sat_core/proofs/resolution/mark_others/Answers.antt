use Rattle.std.proofs.Common.{false}
use Rattle.sat_log.specs.declared.problem.Lit.{Lit}
use Rattle.sat_core.specs.Learning.{clauses_of}
use Rattle.sat_core.proofs.ResolutionLaws.{covers_more, within_itself, within_along}
use Rattle.sat_core.proofs.resolution.mark_others.Goals as goal

abbrev none : Lit
none = record { var = 0; yes = false }

pub loop-lit-preserved-then-is_pivot : goal.loop-lit-preserved-then-is_pivot
loop-lit-preserved-then-is_pivot c =
    let marks = c.loop-lit.marks.list.items in
    let invariant = c.loop-lit.invariant in (
      invariant.0,
      covers_more (clauses_of c.args.known) marks marks c.args.clause.now c.args.pivot c.loop-lit.lit-index none c.loop-lit-test.true
          (within_itself marks) invariant.1 (λ n. absurd (n (c.is_pivot.ensures c.if-is_pivot.true))),
    )

pub loop-lit-preserved : goal.loop-lit-preserved
loop-lit-preserved c =
    let invariant = c.loop-lit.invariant in
    let ensured = c.in_ok-counts.ensures in (
      within_along c.args.marks.now.list.items c.loop-lit.marks.list.items c.mark.new.marks.list.items invariant.0 ensured.kept,
      covers_more (clauses_of c.args.known) c.loop-lit.marks.list.items c.mark.new.marks.list.items c.args.clause.now c.args.pivot c.loop-lit.lit-index none c.loop-lit-test.true
          ensured.kept invariant.1 (λ _. ensured.marked),
    )
