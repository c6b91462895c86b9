use Rattle.std.proofs.Common.{◌≡◌, ◌++◌, drop}
use Rattle.std.specs.List.{filter}
use Rattle.c_graph.specs.Nodes.{spot_at}
use Rattle.cfg_lower.specs.Rows.{goes_out}
use Rattle.cfg_lower.proofs.rows.exits.Given as goal

abbrev pub invariant-loop-path : goal.invariant-loop-path
invariant-loop-path l =
    filter (λ q. goes_out (spot_at l.program l.program.main q)) l.paths ≡ l.list ++ filter (λ q. goes_out (spot_at l.program l.program.main q)) (drop l.path-index l.paths)
