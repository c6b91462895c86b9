use Rattle.std.proofs.Common.{subst}
use Rattle.sat_log.specs.Propagation.{Finds}
use Rattle.sat_log.proofs.front.Front.turn_all.Goals as goal

pub returns-in-Clash-clause-clash : goal.returns-in-Clash-clause-clash
returns-in-Clash-clause-clash c = λ _. subst (Finds c.args.claim.now) c.in-Clash.is c.in_ok-turn.ensures.finds
