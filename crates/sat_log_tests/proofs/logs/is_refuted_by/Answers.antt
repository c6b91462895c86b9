-- What was found of the list is said of the problem.
use Rattle.std.proofs.Common.{subst}
use Rattle.sat_log.specs.Clauses.{AreBelow}
use Rattle.sat_log_tests.proofs.logs.is_refuted_by.Goals as goal

pub refutes-requires : goal.refutes-requires
refutes-requires c = subst (AreBelow c.args.clauses.now.vars) c.as_slice.ensures (c.are_below.ensures.0 c.if-not-are_below.false)
