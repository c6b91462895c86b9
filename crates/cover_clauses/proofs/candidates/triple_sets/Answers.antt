use Rattle.std.proofs.Common.{sym}
use Rattle.cover_clauses.proofs.candidates.triple_sets.Goals as goal

pub add-requires : goal.add-requires
add-requires c = c.requires c.triple-item.result (c.loop-triple.triple-index, c.loop-triple-test.true, sym c.triple-item.is)
