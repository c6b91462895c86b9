use Rattle.std.proofs.Common.{◌≡◌, length, Contains, vec_len}
use Rattle.sat_log.specs.Propagation.{IsKnown}
use Rattle.sat_log.specs.declared.problem.Lit.{Lit}
use Rattle.sat_log.proofs.facts.Facts.forget.Given as goal

-- what is known was known, and where it was on the trail it still is
abbrev pub invariant-loop-lit : goal.invariant-loop-lit
invariant-loop-lit l =
    record {
      known : (o : Lit) → IsKnown l.self.bits.items o → IsKnown l.initial.self.bits.items o × (Contains l.initial.self.trail.items o → Contains l.self.trail.items o);
      kept : length l.self.bits.items ≡ length l.initial.self.bits.items;
    }

abbrev pub decreases-loop-lit : goal.decreases-loop-lit
decreases-loop-lit l = vec_len l.self.trail
