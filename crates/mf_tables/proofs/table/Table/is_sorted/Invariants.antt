use Rattle.std.proofs.Common.{◌≡◌, ◌-◌, drop}
use Rattle.mf_tables.specs.Table.{ascends}
use Rattle.mf_tables.proofs.table.Table.is_sorted.Given as goal

abbrev pub invariant-loop-i : goal.invariant-loop-i
invariant-loop-i g l = ascends (drop (l.i - 1) l.self.rows.now) ≡ ascends l.self.rows.now
