use Rattle.std.proofs.Common.{rules, ◌≤◌, length, refl, ap, sym, ◌∙◌, List, ℕ, flat_map}
use Rattle.c_meaning.specs.Place.{Spot}
use Rattle.c_graph.specs.Nodes.{Placed, placed_at, placed_in, places, spot_at}
use Rattle.cfg_lower.specs.Sources.{program_of, contexts_of, grown_in}
use Rattle.cfg_lower.proofs.Grown.{grown_nothing}
use Rattle.cfg_lower.proofs.SourceLaws.{slot_at, no_places_at, places_at}
use Rattle.cfg_lower.proofs.Turns.{all_stand, loop_done}
use Rattle.cfg_lower.proofs.growing.add_context.Goals as goal

pub returns-in_default : goal.returns-in_default
returns-in_default c =
    let s = c.args.source in
    sym (grown_nothing (program_of s) (contexts_of s) c.args.graph.now)
    ∙ ap (λ (ps : List (List ℕ)). grown_in s c.args.graph.now (flat_map (λ q. placed_at (program_of s) (contexts_of s) c.args.ctx c.args.fun q (spot_at (program_of s) c.args.fun q)) ps))
    (sym (no_places_at s c.requires c.args.fun (sym c.in_default.ensures.value)))

pub here-requires-clause-slot : goal.here-requires-clause-slot
here-requires-clause-slot c = slot_at c.args.source c.requires c.args.fun c.in-Some.row.now (sym c.in-Some.ensures.value)

pub returns : goal.returns
returns c =
    let s = c.args.source in
    let place : List ℕ → Spot → List Placed = λ q spot. placed_at (program_of s) (contexts_of s) c.args.ctx c.args.fun q spot in
    let past : length c.as_slice-paths.result.now ≤ c.loop-path.path-index = search rules in
    loop_done s c.args.graph.now c.loop-path.graph (λ q. place q (spot_at (program_of s) c.args.fun q)) c.loop-path.path-index c.as_slice-paths.result.now (placed_in (program_of s) (contexts_of s) c.args.ctx c.args.fun)
    c.loop-path.invariant past
    (ap (flat_map (λ q. place q (spot_at (program_of s) c.args.fun q))) (c.as_slice-paths.ensures ∙ places_at s c.requires c.args.fun c.in-Some.row.now (sym c.in-Some.ensures.value))
    ∙ all_stand (program_of s) c.args.fun place (λ q. refl) (places (program_of s) c.args.fun))
