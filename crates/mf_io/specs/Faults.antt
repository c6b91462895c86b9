-- Counts of faults and of calls, which stand still at 18446744073709551615.
use Rattle.std.specs.Prelude.{◌≡◌, ◌⊎◌, ℕ, ◌+◌, ◌<◌, min}

-- the count is greater than before, or stands at its last number
abbrev pub Rose : (before after : ℕ) → Type 0
Rose before after = (before < after) ⊎ (after ≡ 18446744073709551615)

-- the count after one more
abbrev pub next_count : ℕ → ℕ
next_count count = min (count + 1) 18446744073709551615
