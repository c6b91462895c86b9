use Rattle.std.proofs.Common.{◌≡◌, true, subst, sym}
use Rattle.sat_log.specs.Clauses.{AreBelow}
use Rattle.sat_log.proofs.LogLaws.{log_exact, log_refutes, no_log_of_wide}
use Rattle.sat_log.proofs.FactLaws.{none_settled, none_places}
use Rattle.sat_log.proofs.log_check.refutes.Goals as goal

pub returns-then-not-are_below-clause-exact : goal.returns-then-not-are_below-clause-exact
returns-then-not-are_below-clause-exact c =
    let no = c.if-not-are_below.true in (
      λ h. absurd (cc),
      λ h. absurd (no_log_of_wide c.args.clauses.now c.args.log.now c.as_slice-list.result.now c.as_slice-list.ensures (λ below. let yes : c.are_below.result ≡ true = c.are_below.ensures.1 below in absurd (cc)) h),
    )

pub follows-requires-clause-settled : goal.follows-requires-clause-settled
follows-requires-clause-settled c = none_settled c.as_slice.result.now c.in_ok-facts.facts c.args.clauses.now.vars c.in_ok-facts.ensures.0

pub follows-requires-clause-given_below : goal.follows-requires-clause-given_below
follows-requires-clause-given_below c =
    subst (λ n. AreBelow n c.as_slice.result.now) (sym (none_places c.in_ok-facts.facts c.args.clauses.now.vars c.in_ok-facts.ensures.0))
    (subst (AreBelow c.args.clauses.now.vars) (sym c.as_slice.ensures) c.requires)

pub follows-requires-clause-list_below : goal.follows-requires-clause-list_below
follows-requires-clause-list_below c =
    subst (λ n. AreBelow n c.as_slice-list.result.now) (sym (none_places c.in_ok-facts.facts c.args.clauses.now.vars c.in_ok-facts.ensures.0))
    (c.are_below.ensures.0 c.if-not-are_below.false)

pub returns-clause-exact : goal.returns-clause-exact
returns-clause-exact c =
    log_exact c.args.clauses.now c.args.log.now c.as_slice.result.now c.as_slice-list.result.now c.in_ok-follows.follows c.as_slice.ensures c.as_slice-list.ensures (c.are_below.ensures.0 c.if-not-are_below.false) (c.ends_empty.ensures.0 c.if-not-ends_empty.false) c.in_ok-follows.ensures

pub returns-clause-refuted : goal.returns-clause-refuted
returns-clause-refuted c = λ h. log_refutes ((returns-clause-exact c).0 h)
