use Rattle.std.proofs.Common.{◌+◌, ◌-◌, length}
use Rattle.ts_domain.specs.Rows.{AreSame}
use Rattle.ts_domain.proofs.rows.grow.Given as goal

abbrev pub invariant-loop-alloc : goal.invariant-loop-alloc
invariant-loop-alloc l = AreSame l.fn.rows l.rows

abbrev pub decreases-loop-alloc : goal.decreases-loop-alloc
decreases-loop-alloc l = l.key + 1 - length l.rows
