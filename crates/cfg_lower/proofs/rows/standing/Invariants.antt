use Rattle.std.proofs.Common.{◌≡◌, ◌++◌, drop}
use Rattle.std.specs.List.{filter}
use Rattle.c_graph.specs.Nodes.{spot_at}
use Rattle.cfg_lower.specs.Rows.{stands}
use Rattle.cfg_lower.proofs.rows.standing.Given as goal

abbrev pub invariant-loop-path : goal.invariant-loop-path
invariant-loop-path l =
    filter (λ q. stands (spot_at l.program l.fun q)) l.paths ≡ l.list ++ filter (λ q. stands (spot_at l.program l.fun q)) (drop l.path-index l.paths)
