use Rattle.std.proofs.Common.{vec_len, ◌-◌}
use Rattle.sat_log.specs.Propagation.{Sound, Grows}
use Rattle.sat_log.proofs.front.Front.turn_all.Given as goal

abbrev pub invariant-loop-at : goal.invariant-loop-at
invariant-loop-at l = record { sound : Sound l.claim l.facts; grows : Grows l.fn.facts l.facts }

abbrev pub decreases-loop-at : goal.decreases-loop-at
decreases-loop-at l = vec_len l.list - l.at
