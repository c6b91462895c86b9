use Rattle.sat_log.specs.Propagation.{Sound, Grows, IsAimed, open_count}
use Rattle.sat_log.proofs.closure.holds.Given as goal

abbrev pub invariant-loop-lit : goal.invariant-loop-lit
invariant-loop-lit l = record { sound : Sound l.claim l.facts; grows : Grows l.fn.facts l.facts; aimed : IsAimed l.claim l.facts }

abbrev pub decreases-loop-lit : goal.decreases-loop-lit
decreases-loop-lit l = open_count l.facts.bits.items
