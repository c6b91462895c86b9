use Rattle.std.proofs.Common.{sym}
use Rattle.cover_clauses.proofs.candidates.exit_sets.Goals as goal

pub add-requires : goal.add-requires
add-requires c = c.requires c.exit-item.result (c.loop-exit.exit-index, c.loop-exit-test.true, sym c.exit-item.is)
