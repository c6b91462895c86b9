use Rattle.std.proofs.Common.{subst}
use Rattle.sat_log.specs.Refutation.{Clashes}
use Rattle.sat_log.specs.Propagation.{base_of}
use Rattle.sat_log.proofs.log_check.settle.Goals as goal

pub returns-clause-clash : goal.returns-clause-clash
returns-clause-clash c = λ h. subst (Clashes (base_of c.args.claim.now)) c.requires.aimless (c.in_ok-clash.ensures.clash h)
