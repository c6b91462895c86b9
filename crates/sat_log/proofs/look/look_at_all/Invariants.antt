use Rattle.std.specs.List.{AllWithin}
use Rattle.sat_log.specs.Propagation.{IsAtRest}
use Rattle.sat_log.proofs.look.look_at_all.Given as goal

-- nothing follows of the clauses so far
abbrev pub invariant-loop-clause : goal.invariant-loop-clause
invariant-loop-clause l = AllWithin (IsAtRest l.facts.bits.items) l.clauses 0 l.clause-index
