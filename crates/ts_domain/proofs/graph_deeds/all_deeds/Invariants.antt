use Rattle.std.proofs.Common.{◌≡◌, map, take}
use Rattle.ts_domain.specs.Deeds.{edge_deeds}
use Rattle.ts_domain.proofs.graph_deeds.all_deeds.Given as goal

abbrev pub invariant-loop-edge : goal.invariant-loop-edge
invariant-loop-edge l = l.list ≡ map (edge_deeds l.names l.graph) (take l.edge-index l.edges)
