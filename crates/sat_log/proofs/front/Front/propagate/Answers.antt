use Rattle.sat_log.proofs.front.Front.propagate.Goals as goal

pub returns-then-clash-clause-clash : goal.returns-then-clash-clause-clash
returns-then-clash-clause-clash c = λ _. c.in_ok-clash.ensures.clash c.if-clash.true
