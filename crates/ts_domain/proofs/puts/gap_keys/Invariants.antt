use Rattle.std.proofs.Common.{◌≡◌, map, take}
use Rattle.c_graph.specs.declared.graph.Node.{Node}
use Rattle.ts_domain.specs.Puts.{gap_key}
use Rattle.ts_domain.proofs.puts.gap_keys.Given as goal

abbrev pub invariant-loop-node : goal.invariant-loop-node
invariant-loop-node l = l.keys ≡ map (λ (v : Node). gap_key v.kind) (take l.node-index l.nodes)
