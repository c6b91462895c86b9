use Rattle.path_facts.specs.Paths.{CountsSome}
use Rattle.path_facts.proofs.paths.count_of.Given as goal

abbrev pub invariant-loop-edge : goal.invariant-loop-edge
invariant-loop-edge l = CountsSome l.graph l.edge-index l.count
