use Rattle.std.proofs.Common.{◌≤◌, ◌-◌, length, drop, sym, ◌∙◌, arith, length-drop}
use Rattle.mf_tables.proofs.Search.{short_ascends}
use Rattle.mf_tables.proofs.table.Table.is_sorted.Goals as goal

pub returns : goal.returns
returns g c =
    let last : length (drop (c.loop-i.i - 1) c.args.self.now.rows.now) ≤ 1 = omega (arith, length-drop (c.loop-i.i - 1) c.args.self.now.rows.now, c.loop-i-test.false) in
    sym (short_ascends (drop (c.loop-i.i - 1) c.args.self.now.rows.now) last) ∙ c.loop-i.invariant
