use Rattle.std.proofs.Common.{◌<◌, ◌+◌, ◌-◌, ◌/◌, length, sym, arith}
use Rattle.mf_tables.proofs.Search.{found, apart, below_more, above_more}
use Rattle.mf_tables.proofs.table.Table.find.Goals as goal

pub loop-low-preserved-in-Less : goal.loop-low-preserved-in-Less
loop-low-preserved-in-Less g c =
    let middle = c.loop-low.low + (c.loop-low.high - c.loop-low.low) / 2 in
    let inside : middle < length c.args.self.now.rows.now = omega arith in
    record {
      order = omega arith;
      within = omega arith;
      below = below_more c.args.self.now.rows.now c.args.word.now middle _ c.requires inside (sym c.in-Less.ensures);
      above = c.loop-low.invariant.above;
    }

pub returns-in-Equal : goal.returns-in-Equal
returns-in-Equal g c =
    let middle = c.loop-low.low + (c.loop-low.high - c.loop-low.low) / 2 in
    let inside : middle < length c.args.self.now.rows.now = omega arith in
    sym (found c.args.self.now.rows.now c.args.word.now middle _ c.requires inside (sym c.in-Equal.ensures))

pub loop-low-preserved : goal.loop-low-preserved
loop-low-preserved g c =
    let middle = c.loop-low.low + (c.loop-low.high - c.loop-low.low) / 2 in
    let inside : middle < length c.args.self.now.rows.now = omega arith in
    record {
      order = omega arith;
      within = omega arith;
      below = c.loop-low.invariant.below;
      above = above_more c.args.self.now.rows.now c.args.word.now middle _ c.requires inside (sym c.in-Greater.ensures);
    }

pub returns : goal.returns
returns g c =
    let order = c.loop-low.invariant.order in
    sym (apart c.args.self.now.rows.now c.args.word.now c.loop-low.low c.loop-low.invariant.below (λ k d after. c.loop-low.invariant.above k d (omega (arith, c.loop-low-test.false))))
