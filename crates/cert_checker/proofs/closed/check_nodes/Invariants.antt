use Rattle.std.proofs.Common.{ℕ, ◌<◌}
use Rattle.cert_checker.specs.Checked.{IsSound}
use Rattle.cert_checker.proofs.closed.check_nodes.Given as goal

abbrev pub invariant-loop-node : goal.invariant-loop-node
invariant-loop-node l = (u : ℕ) → u < l.node → IsSound l.checking.names.now l.checking.graph.now l.checking.cert.now u
