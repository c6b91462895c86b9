use Rattle.std.proofs.Common.{◌≡◌, ◌++◌, drop, map}
use Rattle.ts_domain.specs.Reaching.{from_of}
use Rattle.cert_checker.proofs.closed.edge_rows.Given as goal

abbrev pub invariant-loop-edge : goal.invariant-loop-edge
invariant-loop-edge l = l.keys ++ map from_of (drop l.edge-index l.graph.edges) ≡ map from_of l.graph.edges
