use Rattle.std.proofs.Common.{◌≡◌, drop}
use Rattle.std.specs.List.{find}
use Rattle.c_graph.specs.Executes.{enters_into}
use Rattle.c_graph.proofs.callees.function_of.Given as goal

abbrev pub invariant-loop-edge : goal.invariant-loop-edge
invariant-loop-edge l = find (enters_into l.graph l.ctx) (drop l.edge-index l.edges) ≡ find (enters_into l.graph l.ctx) l.edges
