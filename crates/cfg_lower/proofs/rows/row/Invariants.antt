use Rattle.std.proofs.Common.{◌≡◌, take, flat_map}
use Rattle.c_graph.specs.Nodes.{spot_at}
use Rattle.cfg_lower.specs.Rows.{site_at}
use Rattle.cfg_lower.proofs.rows.row.Given as goal

abbrev pub invariant-loop-path : goal.invariant-loop-path
invariant-loop-path l = l.calls ≡ flat_map (λ q. site_at l.program l.fun q (spot_at l.program l.fun q)) (take l.path-index l.paths)
