use Rattle.std.proofs.Common.{take}
use Rattle.std.specs.List.{list_any}
use Rattle.cover_clauses.specs.Conflicts.{is_pair, Adds}
use Rattle.cover_clauses.proofs.conflicts.add_pairs.Given as goal

abbrev pub invariant-loop-pair : goal.invariant-loop-pair
invariant-loop-pair l = Adds (λ j k. list_any (λ p. is_pair l.usable.items p j k) (take l.pair-index l.pairs)) l.fn.rows l.rows
