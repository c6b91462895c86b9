use Rattle.std.proofs.Common.{sym}
use Rattle.cover_clauses.proofs.listing.add_exits.Goals as goal

pub one_of-requires : goal.one_of-requires
one_of-requires c = c.requires c.set-item.result (c.loop-set.set-index, c.loop-set-test.true, sym c.set-item.is)
