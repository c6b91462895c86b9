use Rattle.sat_log.proofs.FactLaws.{grows_more}
use Rattle.sat_log.proofs.front.Front.take_up.Goals as goal

pub returns-then-clash-clause-clash : goal.returns-then-clash-clause-clash
returns-then-clash-clause-clash c = λ _. c.in_ok-clash.ensures.clash c.if-clash.true

pub returns-clause-grows : goal.returns-clause-grows
returns-clause-grows c = grows_more c.args.facts.now c.loop.facts c.propagate.new.facts c.loop.invariant.grows c.in_ok-found.ensures.grows
