use Rattle.std.proofs.Common.{◌+◌, ◌-◌, length}
use Rattle.ts_domain.specs.Reaching.{Walked}
use Rattle.ts_domain.proofs.reaching.reached.Given as goal

abbrev pub invariant-loop-done : goal.invariant-loop-done
invariant-loop-done l = Walked l.graph l.done l.nodes.keys

abbrev pub decreases-loop-done : goal.decreases-loop-done
decreases-loop-done l = length l.graph.edges + 1 - l.done
