use Rattle.std.proofs.Common.{◌≡◌, drop, flat_map}
use Rattle.c_graph.specs.Nodes.{placed_at, spot_at}
use Rattle.cfg_lower.specs.Sources.{program_of, contexts_of, grown_in}
use Rattle.cfg_lower.proofs.growing.add_context.Given as goal

abbrev pub invariant-loop-path : goal.invariant-loop-path
invariant-loop-path l =
    grown_in l.source l.graph (flat_map (λ q. placed_at (program_of l.source) (contexts_of l.source) l.ctx l.fun q (spot_at (program_of l.source) l.fun q)) (drop l.path-index l.paths))
    ≡ grown_in l.source l.fn.graph (flat_map (λ q. placed_at (program_of l.source) (contexts_of l.source) l.ctx l.fun q (spot_at (program_of l.source) l.fun q)) l.paths)
