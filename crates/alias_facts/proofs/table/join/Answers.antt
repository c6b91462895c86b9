use Rattle.alias_facts.proofs.GrowthLaws.{joins_at}
use Rattle.alias_facts.proofs.table.join.Goals as goal

pub returns : goal.returns
returns c =
    joins_at c.args.more.now.room c.args.at c.args.more.now.items c.union_with.result c.args.sets.now c.at_mut.result.now c.union_with.new.self c.at_mut.ensures.value c.requires.rooms
    c.union_with.ensures.numbers c.union_with.ensures.changed c.union_with.ensures.set
