use Rattle.std.proofs.Common.{◌≡◌, ◌++◌, ◌-◌, map}
use Rattle.mf_set.specs.Numbers.{numbers_from}
use Rattle.cover_clauses.specs.Listing.{not_both_by}
use Rattle.cover_clauses.proofs.listing.add_row.Given as goal

abbrev pub invariant-loop-other : goal.invariant-loop-other
invariant-loop-other l = l.list ++ map (not_both_by l.variables l.place) (numbers_from l.row.items l.from) ≡ l.fn.list ++ map (not_both_by l.variables l.place) l.row.items

abbrev pub decreases-loop-other : goal.decreases-loop-other
decreases-loop-other l = l.row.room - l.from
