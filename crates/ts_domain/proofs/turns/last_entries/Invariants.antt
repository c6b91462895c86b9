use Rattle.std.proofs.Common.{◌≡◌, take}
use Rattle.ts_domain.specs.Marks.{knowledge}
use Rattle.ts_domain.specs.Post.{last_entries}
use Rattle.ts_domain.proofs.turns.last_entries.Given as goal

abbrev pub invariant-loop-before : goal.invariant-loop-before
invariant-loop-before l = l.last.keys ≡ last_entries (knowledge l.known) (take l.before-index l.entries)
