use Rattle.std.proofs.Common.{◌≡◌, None}
use Rattle.cfg_lower.specs.Slots.{below_number}
use Rattle.cfg_lower.proofs.slots.no_slots.Given as goal

abbrev pub invariant-loop : goal.invariant-loop
invariant-loop l = l.slots ≡ below_number (λ f. None) l.counter
