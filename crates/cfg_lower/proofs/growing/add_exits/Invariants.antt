use Rattle.std.proofs.Common.{◌≡◌, drop, flat_map}
use Rattle.c_graph.specs.Nodes.{exit_at, spot_at}
use Rattle.cfg_lower.specs.Sources.{program_of, grown_in}
use Rattle.cfg_lower.proofs.growing.add_exits.Given as goal

abbrev pub invariant-loop-path : goal.invariant-loop-path
invariant-loop-path l =
    grown_in l.source l.graph (flat_map (λ q. exit_at q (spot_at (program_of l.source) (program_of l.source).main q)) (drop l.path-index l.paths))
    ≡ grown_in l.source l.fn.graph (flat_map (λ q. exit_at q (spot_at (program_of l.source) (program_of l.source).main q)) l.paths)
