-- The table before any write, and the answer that a table gives.
use Rattle.std.specs.Prelude.{ℕ, ◌+◌, List, [], ◌∷◌, ◌++◌, replicate, take}
use Rattle.mf_set.specs.Numbers.{Numbers}
use Rattle.ts_domain.specs.declared.facts.May.{May}
use Rattle.alias_facts.specs.declared.bounds.Bounds.{Bounds}
use Rattle.alias_facts.specs.declared.table.Table.{Table}

abbrev pub empty_set : ℕ → Numbers
empty_set room = record { items = []; room = room }

abbrev pub empty_row : ℕ → ℕ → List Numbers
empty_row count room = replicate count (empty_set room)

-- no site flows anywhere
abbrev pub empty_table : Bounds → Table
empty_table b = record { bounds = b; vars = empty_row b.vars b.sites; cells = replicate b.sites (empty_row b.fields b.sites) }

-- a set is noted where it isn't empty
abbrev pub noted_items : ℕ → ℕ → Numbers → List ℕ → List (ℕ × ℕ × Numbers)
noted_items t f x [] = []
noted_items t f x (s ∷ ss) = (t, f, x) ∷ []

abbrev pub noted : ℕ → ℕ → Numbers → List (ℕ × ℕ × Numbers)
noted t f x = noted_items t f x x.items

-- the fields of a site, from the f-th on
abbrev pub noted_row : ℕ → ℕ → List Numbers → List (ℕ × ℕ × Numbers)
noted_row t f [] = []
noted_row t f (x ∷ row) = noted t f x ++ noted_row t (f + 1) row

-- those of all sites, from the t-th on
abbrev pub noted_rows : ℕ → List (List Numbers) → List (ℕ × ℕ × Numbers)
noted_rows t [] = []
noted_rows t (row ∷ rows) = noted_row t 0 row ++ noted_rows (t + 1) rows

-- the answer: the sets of the first n variables, and those of fields that aren't empty
abbrev pub answer : ℕ → Table → May
answer n m = record { vars = take n m.vars; fields = noted_rows 0 m.cells }
