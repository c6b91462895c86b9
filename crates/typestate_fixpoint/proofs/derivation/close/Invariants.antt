use Rattle.std.proofs.Common.{◌≤◌, ◌-◌}
use Rattle.typestate_fixpoint.specs.Worklist.{Going}
use Rattle.typestate_fixpoint.proofs.derivation.close.Given as goal

abbrev pub invariant-loop-done : goal.invariant-loop-done
invariant-loop-done l = Going l.names l.graph l.facts l.done l.state.triples.keys l.state.forbidden l.state.pairs.keys × (l.done ≤ 100000)

abbrev pub decreases-loop-done : goal.decreases-loop-done
decreases-loop-done l = 100000 - l.done
