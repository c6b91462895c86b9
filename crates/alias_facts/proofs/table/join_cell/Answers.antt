use Rattle.std.proofs.Common.{subst}
use Rattle.alias_facts.specs.Growth.{Joins}
use Rattle.alias_facts.proofs.GrowthLaws.{cell_joins}
use Rattle.alias_facts.proofs.table.join_cell.Goals as goal

pub returns : goal.returns
returns c =
    let joined : Joins c.args.table.now.bounds.sites c.args.field c.args.more.now.items c.join.result c.at_mut.result.now c.join.new.sets = subst (λ room. Joins room c.args.field c.args.more.now.items c.join.result c.at_mut.result.now c.join.new.sets) c.requires.room c.join.ensures in
    cell_joins c.args.site c.args.field c.args.more.now.items c.join.result c.args.table.now c.at_mut.result.now c.join.new.sets c.requires.sized c.at_mut.ensures.value joined
