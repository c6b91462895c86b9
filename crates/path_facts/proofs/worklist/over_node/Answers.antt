use Rattle.std.proofs.Common.{rules, ◌≡◌, ap, ◌∙◌, arith, List, length, get_or}
use Rattle.std.proofs.lemmas.List.{length-map}
use Rattle.std.proofs.lemmas.Option.{slice_get_within}
use Rattle.c_graph.specs.declared.graph.Edge.{Edge}
use Rattle.ts_domain.specs.declared.deed.Deed.{Deed}
use Rattle.ts_domain.specs.Deeds.{edge_deeds}
use Rattle.ts_domain.specs.Facts.{before_deeds}
use Rattle.path_facts.specs.Paths.{BeginsAt}
use Rattle.path_facts.specs.Worklist.{Applies}
use Rattle.path_facts.proofs.StepLaws.{deeds_at, passing_on}
use Rattle.path_facts.proofs.worklist.over_node.Goals as goal

pub at-edge-requires : goal.at-edge-requires
at-edge-requires c =
    let begins : BeginsAt c.args.graph.now c.args.node (get_or c.args.places.now c.loop-place.place-index 0) = c.requires.places c.loop-place.place-index 0 c.loop-place-test.true in
    slice_get_within c.args.graph.now.edges (get_or c.args.places.now c.loop-place.place-index 0) begins.0 begins.1

pub at-requires : goal.at-requires
at-requires c =
    let begins : BeginsAt c.args.graph.now c.args.node (get_or c.args.places.now c.loop-place.place-index 0) = c.requires.places c.loop-place.place-index 0 c.loop-place-test.true in
    let within = slice_get_within c.args.graph.now.edges (get_or c.args.places.now c.loop-place.place-index 0) begins.0 begins.1 in
    let long : length c.args.deeds.now ≡ length c.args.graph.now.edges = ap (λ (xs : List (List Deed)). length xs) c.requires.deeds ∙ length-map c.args.graph.now.edges (edge_deeds c.args.names.now c.args.graph.now) in
    omega (arith, within, long)

pub loop-place-preserved : goal.loop-place-preserved
loop-place-preserved c =
    let n = c.args.names.now in
    let g = c.args.graph.now in
    let i = c.loop-place.place-index in
    let edge : Edge = c.at-edge.result.now in
    let begins : BeginsAt g c.args.node (get_or c.args.places.now i 0) = c.requires.places i 0 c.loop-place-test.true in
    let same : c.at.result.now ≡ edge_deeds n g edge = deeds_at n g c.args.deeds.now (get_or c.args.places.now i 0) edge c.at.result.now c.requires.deeds c.at-edge.ensures c.at.ensures in
    let does : Applies n (before_deeds n c.as_slice.result.now) edge.from edge.to c.loop-place.state c.over_edge.new.state = search rules in
    passing_on n g c.args.node c.args.places.now i edge c.as_slice.result.now c.args.state.now c.loop-place.state c.over_edge.new.state c.loop-place-test.true begins c.at-edge.ensures (c.as_slice.ensures ∙ same) c.requires.ends c.loop-place.invariant does
