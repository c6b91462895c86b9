use Rattle.typestate_fixpoint.proofs.GoingLaws.{derived_is, no_wide_edge}
use Rattle.typestate_fixpoint.proofs.derivation.derive.Goals as goal

pub returns-clause-derived : goal.returns-clause-derived
returns-clause-derived c =
    let s = c.in_ok-state.state in
    let all = c.in_ok-state.ensures.ok in
    derived_is c.args.names.now c.args.graph.now c.args.facts.now all.done s.triples.keys s.forbidden s.pairs.keys all.going all.ended c.in_ok-derived.derived c.in_ok-derived.ensures

pub returns-clause-narrow : goal.returns-clause-narrow
returns-clause-narrow c =
    let s = c.in_ok-state.state in
    let all = c.in_ok-state.ensures.ok in
    no_wide_edge c.args.names.now c.args.graph.now c.args.facts.now all.done s.triples.keys s.forbidden s.pairs.keys all.going all.ended
