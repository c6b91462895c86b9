use Rattle.std.proofs.Common.{◌≡◌, [], length}
use Rattle.path_facts.specs.Worklist.{Good, weight}
use Rattle.path_facts.proofs.worklist.solve.Given as goal

abbrev pub invariant-loop : goal.invariant-loop
invariant-loop l = Good l.names l.graph 0 [] l.state × (length l.state.at ≡ length l.fn.state.at)

abbrev pub decreases-loop : goal.decreases-loop
decreases-loop l = weight l.state
