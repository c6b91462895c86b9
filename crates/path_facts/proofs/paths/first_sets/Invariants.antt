use Rattle.path_facts.specs.Start.{StartsAll}
use Rattle.path_facts.proofs.paths.first_sets.Given as goal

abbrev pub invariant-loop-node : goal.invariant-loop-node
invariant-loop-node l = StartsAll l.names l.node l.sets
