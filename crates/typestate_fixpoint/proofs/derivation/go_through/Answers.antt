use Rattle.std.proofs.Common.{rules, ◌≡◌, ◌<◌, length, slice_get, Some}
use Rattle.typestate_fixpoint.specs.Steps.{HasWide}
use Rattle.typestate_fixpoint.specs.Worklist.{Expands}
use Rattle.ts_domain.proofs.DerivedLaws.{derived_set}
use Rattle.typestate_fixpoint.proofs.GoingLaws.{going_on, passes_many, passes_wide}
use Rattle.ts_domain.proofs.KeyLaws.{element_from}
use Rattle.typestate_fixpoint.proofs.derivation.go_through.Goals as goal

pub returns-in_err-few-clause-limit : goal.returns-in_err-few-clause-limit
returns-in_err-few-clause-limit c refused =
    let s = c.args.state.now in
    let many : 100000 < length s.triples.keys = search rules in
    passes_many c.args.names.now c.args.graph.now c.args.facts.now c.args.done s.triples.keys s.forbidden s.pairs.keys c.requires.going many

pub expand-requires-clause-puts : goal.expand-requires-clause-puts
expand-requires-clause-puts c =
    let s = c.args.state.now in
    let t = c.in_ok-triple.triple in
    let at : slice_get s.triples.keys c.args.done ≡ Some t = c.in_ok-triple.ensures in
    (derived_set c.args.names.now c.args.graph.now c.args.facts.now t (c.requires.going.derived t (element_from s.triples.keys c.args.done t at))).1

pub returns-in_err-expand-clause-limit : goal.returns-in_err-expand-clause-limit
returns-in_err-expand-clause-limit c refused =
    let s = c.args.state.now in
    let t = c.in_ok-triple.triple in
    let wide : HasWide c.args.names.now c.args.graph.now c.args.facts.now t = search rules in
    passes_wide c.args.names.now c.args.graph.now c.args.facts.now c.args.done s.triples.keys s.forbidden s.pairs.keys t c.requires.going c.in_ok-triple.ensures wide

pub returns-clause-ok : goal.returns-clause-ok
returns-clause-ok c =
    let n = c.args.names.now in
    let g = c.args.graph.now in
    let f = c.args.facts.now in
    let s = c.args.state.now in
    let u = c.expand.new.state in
    let t = c.in_ok-triple.triple in
    let goes : Expands n g f t s.triples.keys u.triples.keys s.forbidden u.forbidden s.pairs.keys u.pairs.keys = search rules in
    going_on n g f c.args.done t s.triples.keys u.triples.keys s.forbidden u.forbidden s.pairs.keys u.pairs.keys c.requires.going c.in_ok-triple.ensures goes
