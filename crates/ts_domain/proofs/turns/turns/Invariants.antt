use Rattle.std.proofs.Common.{◌≡◌, ◌≤◌, drop, [], ◌∷◌}
use Rattle.ts_domain.specs.Marks.{knowledge}
use Rattle.ts_domain.specs.Post.{first_entry, is_wide, turns}
use Rattle.ts_domain.proofs.turns.turns.Given as goal

abbrev pub invariant-loop-deed : goal.invariant-loop-deed
invariant-loop-deed l =
    (turns (knowledge l.known) (drop l.deed-index l.deeds) l.place l.entries.keys ≡ turns (knowledge l.known) l.deeds 0 (first_entry l.mark ∷ []))
    × (is_wide (knowledge l.known) (drop l.deed-index l.deeds) l.place l.entries.keys ≡ is_wide (knowledge l.known) l.deeds 0 (first_entry l.mark ∷ []))
    × (l.place ≤ l.deed-index)
