-- What was found of the list is said of the problem.
use Rattle.std.proofs.Common.{subst}
use Rattle.sat_log.specs.Clauses.{AreBelow}
use Rattle.sat_core_tests.proofs.tests.answer_of.Goals as goal

pub solve-requires-clause-below : goal.solve-requires-clause-below
solve-requires-clause-below c = subst (AreBelow c.args.clauses.now.vars) c.as_slice.ensures (c.are_below.ensures.0 c.if-not-are_below.false)
