use Rattle.c_graph.proofs.Follows.{calls_in_order}
use Rattle.c_graph.proofs.Kept.{has_laws}
use Rattle.c_graph.proofs.MetRuns.{runs_from}
use Rattle.c_graph.proofs.start.start_node.Goals as goal

pub returns-clause-runs : goal.returns-clause-runs
returns-clause-runs c p w = runs_from p (calls_in_order p w)

pub returns-clause-laws : goal.returns-clause-laws
returns-clause-laws c p w = has_laws p w
