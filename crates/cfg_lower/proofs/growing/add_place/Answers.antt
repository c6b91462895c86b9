use Rattle.std.proofs.Common.{rules, ◌≡◌, Some, ap, ◌∙◌}
use Rattle.c_meaning.specs.Place.{Spot}
use Rattle.c_graph.specs.Nodes.{placed_at, spot_at}
use Rattle.cfg_lower.specs.Growth.{kind_at, leads_at}
use Rattle.cfg_lower.specs.Meant.{spot_of}
use Rattle.cfg_lower.specs.Sources.{program_of, contexts_of, grown_in, steps_for}
use Rattle.cfg_lower.proofs.Turns.{both_ok, place_done}
use Rattle.cfg_lower.proofs.growing.add_place.Goals as goal

pub returns : goal.returns
returns c =
    let s = c.args.source in
    let k = c.args.here.now.ctx in
    let f = c.args.here.now.fun in
    let path = c.args.path.now in
    let here : Spot = spot_of c.spot_at-spot.result in
    let spot : here ≡ spot_at (program_of s) f path = c.spot_at-spot.ensures in
    let kind : kind_at here ≡ Some c.in-Some.kind = search rules in
    let steps : c.as_slice.result.now ≡ steps_for s (leads_at (program_of s) (contexts_of s) k f path here) = search rules in
    both_ok c.add_node.result
    (λ nodes edges.
    place_done s c.args.graph.now c.add_node.new.graph k f path here c.in-Some.kind c.as_slice.result.now kind nodes edges steps
    ∙ ap (λ (o : Spot). grown_in s c.args.graph.now (placed_at (program_of s) (contexts_of s) k f path o)) spot)
    c.add_node.ensures.nodes c.add_node.ensures.edges
