use Rattle.std.proofs.Common.{◌≡◌, map, take}
use Rattle.c_graph.specs.declared.graph.Node.{Node}
use Rattle.cover_problem.specs.Parts.{gap_of}
use Rattle.cover_problem.proofs.allowed.gap_keys.Given as goal

abbrev pub invariant-loop-node : goal.invariant-loop-node
invariant-loop-node l = l.keys ≡ map (λ (v : Node). gap_of v.kind) (take l.node-index l.nodes)
