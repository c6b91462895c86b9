use Rattle.std.proofs.Common.{sym, ◌∙◌}
use Rattle.cover_clauses.proofs.ConflictLaws.{adds_row}
use Rattle.cover_clauses.proofs.conflicts.join.Goals as goal

pub union_with-requires : goal.union_with-requires
union_with-requires c = (c.requires.square c.args.at c.at_mut.result.now c.at_mut.ensures.value).1 ∙ sym c.requires.room

pub returns : goal.returns
returns c = adds_row c.args.at c.args.more.now.items c.args.rows.now c.at_mut.result.now c.union_with.new.self c.requires.square c.at_mut.ensures.value c.union_with.ensures.set c.union_with.ensures.numbers
