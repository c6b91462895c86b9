use Rattle.std.proofs.Common.{◌≡◌, drop}
use Rattle.c_meaning.specs.Place.{result_slot, slot_from}
use Rattle.cfg_lower.proofs.parts.result_slot.Given as goal

abbrev pub invariant-loop-var : goal.invariant-loop-var
invariant-loop-var l = slot_from l.fun l.var (drop l.var l.vars) ≡ result_slot l.program l.fun
