use Rattle.sat_log.proofs.FactLaws.{room_grown}
use Rattle.sat_log.proofs.log_check.clashes.Goals as goal

pub returns-then-shown-clause-clash : goal.returns-then-shown-clause-clash
returns-then-shown-clause-clash c = λ _. c.in_ok-shown.ensures.clash c.if-shown.true

pub holds-requires-clause-room : goal.holds-requires-clause-room
holds-requires-clause-room c = room_grown c.args.claim.now c.args.facts.now c.shows.new.facts c.requires.room c.in_ok-shown.ensures.grows
