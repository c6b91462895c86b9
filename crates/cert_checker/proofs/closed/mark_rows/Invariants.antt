use Rattle.std.proofs.Common.{◌≡◌, ◌++◌, drop, map}
use Rattle.cert_checker.specs.Checking.{node_of}
use Rattle.cert_checker.proofs.closed.mark_rows.Given as goal

abbrev pub invariant-loop-mark : goal.invariant-loop-mark
invariant-loop-mark l = l.keys ++ map node_of (drop l.mark-index l.cert.marks) ≡ map node_of l.cert.marks
