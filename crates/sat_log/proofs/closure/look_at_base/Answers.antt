use Rattle.sat_log.proofs.FactLaws.{says_later}
use Rattle.sat_log.proofs.closure.look_at_base.Goals as goal

pub returns-in-Rests : goal.returns-in-Rests
returns-in-Rests c =
    let claim = c.args.claim.now in
    says_later c.args.facts.now.bits.items claim.given.now claim.earlier.now c.look_at_all-in-Rests.result c.in-Rests.ensures c.look_at_all-in-Rests.ensures
