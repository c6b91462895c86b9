use Rattle.std.proofs.Common.{◌≡◌, take}
use Rattle.ts_domain.specs.Marks.{knowledge}
use Rattle.ts_domain.specs.Post.{turn}
use Rattle.ts_domain.proofs.turns.turn.Given as goal

abbrev pub invariant-loop-entry : goal.invariant-loop-entry
invariant-loop-entry l = l.next.keys ≡ turn (knowledge l.known) l.deed l.place (take l.entry-index l.entries)
