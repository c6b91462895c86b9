use Rattle.std.proofs.Common.{◌≡◌, Some, ◌⊎◌}
use Rattle.std.specs.List.{AllWithin}
use Rattle.sat_log.specs.Propagation.{IsOut}
use Rattle.sat_log.proofs.look.free_besides.Given as goal

-- each literal so far is the one left out or false
abbrev pub invariant-loop-lit : goal.invariant-loop-lit
invariant-loop-lit l = AllWithin (λ o. (l.besides ≡ Some o) ⊎ IsOut l.facts.bits.items o) l.clause 0 l.lit-index
