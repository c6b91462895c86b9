-- What a write does to a table, and a round over all writes.
use Rattle.std.specs.Prelude.{◌≡◌, ℕ, ◌<◌, ◌==◌, ◌&&◌, ◌||◌, Bool, false, List, length}
use Rattle.std.specs.List.{All}
use Rattle.c_graph.specs.declared.graph.Graph.{Graph}
use Rattle.mf_set.specs.Numbers.{has as has_number}
use Rattle.ts_domain.specs.declared.deed.Deed.{Deed}
use Rattle.ts_domain.specs.declared.deed.Deed.TheVariants.{Reads, Follows, Says, Sets, SetsField}
use Rattle.ts_domain.specs.declared.names.Names.{Names}
use Rattle.ts_domain.specs.Ranges.{SourceFits}
use Rattle.alias_facts.specs.declared.bounds.Bounds.{Bounds}
use Rattle.alias_facts.specs.declared.table.Table.{Table}
use Rattle.alias_facts.specs.Flow.{IsFieldSetBy, IsSetBy, IsSound, cell_items, is_of_struct}
use Rattle.alias_facts.specs.Growth.{Grows, IsSized}

-- what a deed writes is within the bounds
abbrev pub DeedFits : Bounds → Deed → Type 0
DeedFits b (Reads r noted) = Unit {0}
DeedFits b (Follows k) = Unit {0}
DeedFits b (Says s) = Unit {0}
DeedFits b (Sets k v) = (k < b.vars) × SourceFits b.sites v
DeedFits b (SetsField r c f v) = (f < b.fields) × SourceFits b.sites v

-- what a deed adds to a table
abbrev pub IsApplied : Names → Graph → Deed → Table → Table → Type 0
IsApplied n g (Reads r noted) old new = new ≡ old
IsApplied n g (Follows k) old new = new ≡ old
IsApplied n g (Says s) old new = new ≡ old
IsApplied n g (Sets k v) old new = IsSetBy n g k v old new
IsApplied n g (SetsField r c f v) old new = IsFieldSetBy n g r c f v old new

-- a deed is applied, and whether that changed the table
pub record Applies (n : Names) (g : Graph) (d : Deed) (changed : Bool) (old new : Table) : Type 0 where
  pub grows : Grows changed old new
  pub does : IsApplied n g d old new

-- whether a write to field f of a struct, behind a base with these sites, writes field d of site t
abbrev pub is_target : Names → Graph → List ℕ → ℕ → ℕ → ℕ → ℕ → Bool
is_target n g sites c f t d = d == f && (has_number sites t && is_of_struct n g c t)

-- the fields that it writes have got the numbers
pub record TargetsSet (n : Names) (g : Graph) (sites : List ℕ) (c f : ℕ) (more : List ℕ) (changed : Bool) (old new : Table) : Type 0 where
  pub grows : Grows changed old new
  pub vars : new.vars ≡ old.vars
  pub cells : (t d s : ℕ) → has_number (cell_items new t d) s ≡ (has_number (cell_items old t d) s || (is_target n g sites c f t d && has_number more s))

-- some writes are applied in turn: a sound table stays sound, and where none of them changed it, it is closed under them
pub record Rounds (n : Names) (g : Graph) (ds : List Deed) (changed : Bool) (old new : Table) : Type 0 where
  pub grows : Grows changed old new
  pub sound : IsSound n g old → IsSound n g new
  pub closed : changed ≡ false → All (λ d. IsApplied n g d new new) ds

-- all writes are applied until none of them changes the table
pub record Settles (n : Names) (g : Graph) (ds : List Deed) (old new : Table) : Type 0 where
  pub sized : IsSized new
  pub bounds : new.bounds ≡ old.bounds
  pub sound : IsSound n g old → IsSound n g new
  pub closed : All (λ d. IsApplied n g d new new) ds

-- a table on the way
pub record Settling (n : Names) (g : Graph) (old new : Table) : Type 0 where
  pub sized : IsSized new
  pub bounds : new.bounds ≡ old.bounds
  pub sound : IsSound n g old → IsSound n g new

-- a table of all that flows by some writes, with room for the sites alone
pub record Ended (n : Names) (g : Graph) (ds : List Deed) (m : Table) : Type 0 where
  pub vars : length m.vars ≡ length n.vars
  pub sized : IsSized m
  pub sites : m.bounds.sites ≡ length n.sites
  pub sound : IsSound n g m
  pub closed : All (λ d. IsApplied n g d m m) ds
