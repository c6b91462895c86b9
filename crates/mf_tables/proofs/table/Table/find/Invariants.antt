use Rattle.std.proofs.Common.{◌≡◌, ℕ, ◌-◌, ◌<◌, ◌≤◌, length, get_or}
use Rattle.std.specs.Ordering.{nat_cmp}
use Rattle.std.specs.Cmp.Lexicographic.{slice_cmp}
use Rattle.std.specs.declared.cmp.Ordering.TheVariants.{Less, Greater}
use Rattle.mf_tables.specs.declared.table.Row.{Row}
use Rattle.mf_tables.proofs.table.Table.find.Given as goal

-- the words before low are below the word sought, and those from high on are above it
abbrev pub invariant-loop-low : goal.invariant-loop-low
invariant-loop-low g l = record {
  order : l.low ≤ l.high;
  within : l.high ≤ length l.self.rows.now;
  below : (k : ℕ) (d : Row) → k < l.low → slice_cmp nat_cmp (get_or l.self.rows.now k d).word.now l.word ≡ Less;
  above : (k : ℕ) (d : Row) → l.high ≤ k → k < length l.self.rows.now → slice_cmp nat_cmp (get_or l.self.rows.now k d).word.now l.word ≡ Greater;
}

abbrev pub decreases-loop-low : goal.decreases-loop-low
decreases-loop-low g l = l.high - l.low
