use Rattle.std.proofs.Common.{◌≡◌, ◌++◌, drop}
use Rattle.cover_clauses.specs.Listing.{rows_by}
use Rattle.cover_clauses.proofs.listing.add_rows.Given as goal

abbrev pub invariant-loop-place : goal.invariant-loop-place
invariant-loop-place l = l.list ++ rows_by l.variables l.place (drop l.place l.rows) ≡ l.fn.list ++ rows_by l.variables 0 l.rows
