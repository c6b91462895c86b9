use Rattle.std.proofs.Common.{◌≡◌}
use Rattle.cfg_lower.specs.Rows.{row}
use Rattle.cfg_lower.specs.Slots.{below_number}
use Rattle.cfg_lower.proofs.rows.rows.Given as goal

abbrev pub invariant-loop-fun : goal.invariant-loop-fun
invariant-loop-fun l = l.rows ≡ below_number (row l.program) l.fun
