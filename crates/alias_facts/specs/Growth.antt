-- Tables that grow: their rooms, how many sites they could still get, and what joining more sites to one of their sets does.
use Rattle.std.specs.Prelude.{◌≡◌, ℕ, ◌+◌, ◌-◌, ◌<◌, ◌==◌, ◌&&◌, ◌||◌, Bool, true, false, List, [], ◌∷◌, length, slice_get, Some}
use Rattle.mf_set.specs.Numbers.{Numbers, has as has_number}
use Rattle.alias_facts.specs.declared.table.Table.{Table}
use Rattle.alias_facts.specs.Flow.{cell_items, items_of, var_items}

-- all sets have that room
abbrev pub AreRooms : ℕ → List Numbers → Type 0
AreRooms room xs = (i : ℕ) (x : Numbers) → slice_get xs i ≡ Some x → x.room ≡ room

-- how many numbers the sets could still get
abbrev pub missing : List Numbers → ℕ
missing [] = 0
missing (x ∷ xs) = (x.room - length x.items) + missing xs

abbrev pub missing_rows : List (List Numbers) → ℕ
missing_rows [] = 0
missing_rows (row ∷ rows) = missing row + missing_rows rows

abbrev pub missing_in : Table → ℕ
missing_in m = missing m.vars + missing_rows m.cells

-- a table has a set for each variable and for each field of each site, with room for all sites
pub record IsSized (m : Table) : Type 0 where
  pub vars : length m.vars ≡ m.bounds.vars
  pub var_rooms : AreRooms m.bounds.sites m.vars
  pub cells : length m.cells ≡ m.bounds.sites
  pub rows : (t : ℕ) (row : List Numbers) → slice_get m.cells t ≡ Some row → length row ≡ m.bounds.fields
  pub cell_rooms : (t : ℕ) (row : List Numbers) → slice_get m.cells t ≡ Some row → AreRooms m.bounds.sites row

-- numbers are joined to the set at a place
pub record Joins (room at : ℕ) (more : List ℕ) (changed : Bool) (old new : List Numbers) : Type 0 where
  pub items : (j s : ℕ) → has_number (items_of (slice_get new j)) s ≡ (has_number (items_of (slice_get old j)) s || (j == at && has_number more s))
  pub rooms : AreRooms room new
  pub long : length new ≡ length old
  pub same : changed ≡ false → new ≡ old
  pub less : changed ≡ true → missing new < missing old

-- a table has grown, or is the same
pub record Grows (changed : Bool) (old new : Table) : Type 0 where
  pub sized : IsSized new
  pub bounds : new.bounds ≡ old.bounds
  pub same : changed ≡ false → new ≡ old
  pub less : changed ≡ true → missing_in new < missing_in old

-- by sites that are joined to those of a variable
pub record VarJoins (k : ℕ) (more : List ℕ) (changed : Bool) (old new : Table) : Type 0 where
  pub grows : Grows changed old new
  pub vars : (j s : ℕ) → has_number (var_items new j) s ≡ (has_number (var_items old j) s || (j == k && has_number more s))
  pub cells : new.cells ≡ old.cells

-- by sites that are joined to those of a field of a site
pub record CellJoins (t f : ℕ) (more : List ℕ) (changed : Bool) (old new : Table) : Type 0 where
  pub grows : Grows changed old new
  pub vars : new.vars ≡ old.vars
  pub cells : (u d s : ℕ) → has_number (cell_items new u d) s ≡ (has_number (cell_items old u d) s || ((u == t && d == f) && has_number more s))

-- sets that are worked out

-- a set has those numbers that pass a test
pub record IsFound (limit : ℕ) (test : ℕ → Bool) (x : Numbers) : Type 0 where
  pub room : x.room ≡ limit
  pub items : (s : ℕ) → has_number x.items s ≡ test s

-- some numbers are added to a set
pub record Adds (more : List ℕ) (old new : Numbers) : Type 0 where
  pub room : new.room ≡ old.room
  pub items : (s : ℕ) → has_number new.items s ≡ (has_number old.items s || has_number more s)
