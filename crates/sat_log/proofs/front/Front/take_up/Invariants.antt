use Rattle.sat_log.specs.Propagation.{Sound, Grows}
use Rattle.sat_log.proofs.front.Front.take_up.Given as goal

abbrev pub invariant-loop : goal.invariant-loop
invariant-loop l = record { sound : Sound l.claim l.facts; grows : Grows l.fn.facts l.facts }
