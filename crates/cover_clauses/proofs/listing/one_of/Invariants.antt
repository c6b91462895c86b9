use Rattle.std.proofs.Common.{◌≡◌, ◌++◌, ◌-◌}
use Rattle.mf_set.specs.Numbers.{numbers_from}
use Rattle.cover_clauses.specs.Listing.{one_by}
use Rattle.cover_clauses.proofs.listing.one_of.Given as goal

abbrev pub invariant-loop-place : goal.invariant-loop-place
invariant-loop-place l = l.clause ++ one_by l.variables (numbers_from l.set.items l.from) ≡ one_by l.variables l.set.items

abbrev pub decreases-loop-place : goal.decreases-loop-place
decreases-loop-place l = l.set.room - l.from
