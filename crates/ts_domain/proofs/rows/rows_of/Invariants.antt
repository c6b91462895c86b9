use Rattle.std.proofs.Common.{◌≡◌, ℕ}
use Rattle.ts_domain.specs.Rows.{row, places_before}
use Rattle.ts_domain.proofs.rows.rows_of.Given as goal

abbrev pub invariant-loop-place : goal.invariant-loop-place
invariant-loop-place l = (k : ℕ) → row l.rows k ≡ places_before l.keys k l.place
