use Rattle.std.specs.List.{AllWithin}
use Rattle.sat_log.specs.Propagation.{IsOut, Sound, Grows}
use Rattle.sat_log.proofs.infer.assume_all.Given as goal

-- the literals of the aim so far are false
abbrev pub invariant-loop-lit : goal.invariant-loop-lit
invariant-loop-lit l =
    record {
      sound : Sound l.claim l.facts;
      grows : Grows l.initial.facts l.facts;
      aimed : AllWithin (IsOut l.facts.bits.items) l.claim.aim.now 0 l.lit-index;
    }
