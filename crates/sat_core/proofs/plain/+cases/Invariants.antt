use Rattle.std.proofs.Common.{◌*◌, ◌-◌, length}
use Rattle.sat_core.proofs.plain.+cases.Given as goal

abbrev pub decreases-decide : goal.decreases-decide
decreases-decide l = 2 * (l.clauses.now.vars - length l.bits.now.items)

abbrev pub decreases-decide_with : goal.decreases-decide_with
decreases-decide_with l = 2 * (l.clauses.now.vars - length l.bits.now.items) - 1
