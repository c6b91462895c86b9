use Rattle.std.proofs.Common.{subst}
use Rattle.sat_log.specs.Clauses.{AreBelow}
use Rattle.sat_dimacs.proofs.print_check.Goals as goal

pub refutes-requires : goal.refutes-requires
refutes-requires c = subst (AreBelow c.args.clauses.now.vars) c.as_slice.ensures (c.are_below.ensures.0 c.if-not-are_below.false)
