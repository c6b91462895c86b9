use Rattle.std.proofs.Common.{◌≡◌, drop, length}
use Rattle.cfg_lower.specs.Slots.{slots_from}
use Rattle.cfg_lower.proofs.slots.slots.Given as goal

abbrev pub invariant-loop-var : goal.invariant-loop-var
invariant-loop-var l = l.slots ≡ slots_from (length l.program.funs) l.var (drop l.var l.vars)
