use Rattle.std.proofs.Common.{rules, ◌≡◌, ◌+◌, ◌<◌, ◌++◌, [], ◌∷◌, ap, sym, subst, ◌∙◌, arith, List, length, slice_get, get_or, take, true}
use Rattle.std.proofs.lemmas.List.{length-map, take_more}
use Rattle.std.proofs.lemmas.Option.{slice_get_within}
use Rattle.c_graph.specs.declared.graph.Edge.{Edge}
use Rattle.ts_domain.specs.declared.deed.Deed.{Deed}
use Rattle.ts_domain.specs.Deeds.{edge_deeds}
use Rattle.ts_domain.specs.Post.{is_wide_edge}
use Rattle.ts_domain.specs.Reaching.{BeginsAt}
use Rattle.typestate_fixpoint.specs.Steps.{Passes, PassesAll}
use Rattle.typestate_fixpoint.proofs.EdgeLaws.{deeds_at, passes_more}
use Rattle.ts_domain.proofs.KeyLaws.{element_from, one_element}
use Rattle.typestate_fixpoint.proofs.edges.over_edges.Goals as goal

pub at-edge-requires : goal.at-edge-requires
at-edge-requires c =
    let k = get_or c.args.places.now c.loop-place.place-index 0 in
    let begins : BeginsAt c.args.graph.now c.args.triple.now.node k = c.requires.places c.loop-place.place-index 0 c.loop-place-test.true in
    slice_get_within c.args.graph.now.edges k begins.0 begins.1

pub at-requires : goal.at-requires
at-requires c =
    let k = get_or c.args.places.now c.loop-place.place-index 0 in
    let begins : BeginsAt c.args.graph.now c.args.triple.now.node k = c.requires.places c.loop-place.place-index 0 c.loop-place-test.true in
    let within = slice_get_within c.args.graph.now.edges k begins.0 begins.1 in
    let long : length c.args.tables.now.deeds ≡ length c.args.graph.now.edges = ap (λ (xs : List (List Deed)). length xs) c.requires.tables.deeds ∙ length-map c.args.graph.now.edges (edge_deeds c.args.names.now c.args.graph.now) in
    omega (arith, within, long)

pub over_edge-requires-clause-deeds : goal.over_edge-requires-clause-deeds
over_edge-requires-clause-deeds c =
    let k = get_or c.args.places.now c.loop-place.place-index 0 in
    c.as_slice.ensures ∙ deeds_at c.args.names.now c.args.graph.now c.args.tables.now.deeds k c.at-edge.result.now c.at.result.now c.requires.tables.deeds c.at-edge.ensures c.at.ensures

pub over_edge-requires-clause-rooms : goal.over_edge-requires-clause-rooms
over_edge-requires-clause-rooms c = c.loop-place.invariant.forbidden.room ∙ c.requires.rooms

pub loop-place-preserved : goal.loop-place-preserved
loop-place-preserved c =
    let n = c.args.names.now in
    let g = c.args.graph.now in
    let f = c.args.facts.now in
    let t = c.args.triple.now in
    let held = c.args.held.now in
    let ps = c.args.places.now in
    let i = c.loop-place.place-index in
    let passed : Passes n g f c.at-edge.result.now t held c.loop-place.triples.keys c.over_edge.new.triples.keys c.loop-place.forbidden c.over_edge.new.forbidden = search rules in
    subst (λ ks. PassesAll n g f t held ks c.args.triples.now.keys c.over_edge.new.triples.keys c.args.forbidden.now c.over_edge.new.forbidden) (sym (take_more ps i 0 c.loop-place-test.true))
    (passes_more n g f c.at-edge.result.now t held (take i ps) (get_or ps i 0) c.args.triples.now.keys c.loop-place.triples.keys c.over_edge.new.triples.keys c.args.forbidden.now c.loop-place.forbidden c.over_edge.new.forbidden c.at-edge.ensures c.loop-place.invariant passed)

pub returns-in_err-over_edge-clause-limit : goal.returns-in_err-over_edge-clause-limit
returns-in_err-over_edge-clause-limit c refused =
    let g = c.args.graph.now in
    let k = get_or c.args.places.now c.loop-place.place-index 0 in
    let e = c.at-edge.result.now in
    let begins : BeginsAt g c.args.triple.now.node k = c.requires.places c.loop-place.place-index 0 c.loop-place-test.true in
    let one : begins.0 ≡ e = one_element (slice_get g.edges k) begins.0 e begins.1 c.at-edge.ensures in
    let wide : is_wide_edge c.args.names.now g c.args.facts.now e c.args.triple.now.mark ≡ true = search rules in
    (e, element_from g.edges k e c.at-edge.ensures, ap (λ (d : Edge). d.from) (sym one) ∙ begins.2, wide)
