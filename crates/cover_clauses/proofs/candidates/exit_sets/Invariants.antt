use Rattle.std.proofs.Common.{◌≡◌, take}
use Rattle.cover_clauses.specs.Conflicts.{exit_sets}
use Rattle.cover_clauses.proofs.candidates.exit_sets.Given as goal

abbrev pub invariant-loop-exit : goal.invariant-loop-exit
invariant-loop-exit l = l.sets.keys ≡ exit_sets l.usable (take l.exit-index l.exits)
