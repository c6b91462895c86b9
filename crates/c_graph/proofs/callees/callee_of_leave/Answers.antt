use Rattle.std.proofs.Common.{rules, ◌≡◌}
use Rattle.c_graph.specs.Executes.{callee_of_leave}
use Rattle.c_graph.proofs.EdgeEnds.{leaves_back}
use Rattle.c_graph.proofs.callees.callee_of_leave.Goals as goal

pub returns-in-Some-clause-right : goal.returns-in-Some-clause-right
returns-in-Some-clause-right c p w is =
    let found : c.function_of.result ≡ callee_of_leave c.args.graph.now c.args.edge.now = search rules in
    leaves_back p w c.args.graph.now c.args.edge.now c.function_of.result is found
