use Rattle.std.proofs.Common.{take}
use Rattle.std.specs.List.{list_any}
use Rattle.mf_set.specs.Numbers.{Numbers}
use Rattle.cover_clauses.specs.Conflicts.{shares, Adds}
use Rattle.cover_clauses.proofs.conflicts.add_sets.Given as goal

abbrev pub invariant-loop-set : goal.invariant-loop-set
invariant-loop-set l = Adds (λ j k. list_any (λ (s : Numbers). shares s.items j k) (take l.set-index l.sets)) l.fn.rows l.rows
