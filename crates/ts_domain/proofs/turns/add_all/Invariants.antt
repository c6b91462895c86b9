use Rattle.std.proofs.Common.{◌≡◌, take}
use Rattle.ts_domain.specs.Post.{with_entries}
use Rattle.ts_domain.proofs.turns.add_all.Given as goal

abbrev pub invariant-loop-entry : goal.invariant-loop-entry
invariant-loop-entry l = l.entries.keys ≡ with_entries l.fn.entries.keys (take l.entry-index l.more)
