use Rattle.std.proofs.Common.{drop}
use Rattle.path_facts.specs.Worklist.{Passing}
use Rattle.path_facts.proofs.worklist.over_node.Given as goal

abbrev pub invariant-loop-place : goal.invariant-loop-place
invariant-loop-place l = Passing l.names l.graph l.node (drop l.place-index l.places) l.fn.state l.state
