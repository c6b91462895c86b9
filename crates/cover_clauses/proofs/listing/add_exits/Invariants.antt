use Rattle.std.proofs.Common.{◌≡◌, ◌++◌, map, take}
use Rattle.mf_set.specs.Numbers.{Numbers}
use Rattle.cover_clauses.specs.Listing.{one_by}
use Rattle.cover_clauses.proofs.listing.add_exits.Given as goal

abbrev pub invariant-loop-set : goal.invariant-loop-set
invariant-loop-set l = l.list ≡ l.fn.list ++ map (λ (s : Numbers). one_by l.variables s.items) (take l.set-index l.sets)
