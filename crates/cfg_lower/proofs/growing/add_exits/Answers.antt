use Rattle.std.proofs.Common.{rules, ◌≤◌, length, refl, ap, sym, ◌∙◌, List, ℕ, flat_map}
use Rattle.c_graph.specs.Nodes.{exit_at, exits, places, spot_at}
use Rattle.cfg_lower.specs.Sources.{program_of, contexts_of, grown_in}
use Rattle.cfg_lower.proofs.Grown.{grown_nothing}
use Rattle.cfg_lower.proofs.SourceLaws.{slot_at, no_places_at, places_at}
use Rattle.cfg_lower.proofs.Turns.{all_stand, loop_done}
use Rattle.cfg_lower.proofs.growing.add_exits.Goals as goal

pub returns-in_default : goal.returns-in_default
returns-in_default c =
    let s = c.args.source in
    sym (grown_nothing (program_of s) (contexts_of s) c.args.graph.now)
    ∙ ap (λ (ps : List (List ℕ)). grown_in s c.args.graph.now (flat_map (λ q. exit_at q (spot_at (program_of s) (program_of s).main q)) ps))
    (sym (no_places_at s c.requires (program_of s).main (sym c.in_default.ensures.value)))

pub add_exit-requires : goal.add_exit-requires
add_exit-requires c = slot_at c.args.source c.requires (program_of c.args.source).main c.in-Some.row.now (sym c.in-Some.ensures.value)

pub returns : goal.returns
returns c =
    let s = c.args.source in
    let p = program_of s in
    let past : length c.as_slice-paths.result.now ≤ c.loop-path.path-index = search rules in
    loop_done s c.args.graph.now c.loop-path.graph (λ q. exit_at q (spot_at p p.main q)) c.loop-path.path-index c.as_slice-paths.result.now (exits p)
    c.loop-path.invariant past
    (ap (flat_map (λ q. exit_at q (spot_at p p.main q))) (c.as_slice-paths.ensures ∙ places_at s c.requires p.main c.in-Some.row.now (sym c.in-Some.ensures.value))
    ∙ all_stand p p.main exit_at (λ q. refl) (places p p.main))
