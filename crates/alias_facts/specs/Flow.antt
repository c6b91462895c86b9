-- What a table of flows finds for reads and sources, and what it means that it is sound, and that it is closed under all writes.
use Rattle.std.specs.Prelude.{◌≡◌, ℕ, ◌-◌, ◌==◌, ◌&&◌, ◌||◌, Bool, true, false, nat_lt, List, [], length, slice_get, Option, None, Some, if◌then◌else◌}
use Rattle.std.specs.List.{filter, list_any, range_with_len}
use Rattle.std.specs.Option.{option_and_then}
use Rattle.c_tree.specs.Typing.{has}
use Rattle.c_graph.specs.declared.graph.Graph.{Graph}
use Rattle.mf_set.specs.Numbers.{Numbers, has as has_number}
use Rattle.ts_domain.specs.declared.deed.Deed.TheVariants.{Sets, SetsField}
use Rattle.ts_domain.specs.declared.deed.Source.{Source}
use Rattle.ts_domain.specs.declared.deed.Source.TheVariants.{Content, Null, New, Undef}
use Rattle.ts_domain.specs.declared.names.Names.{Names}
use Rattle.ts_domain.specs.declared.names.Read.{Read}
use Rattle.ts_domain.specs.declared.names.Read.TheVariants as read
use Rattle.ts_domain.specs.May.{Flows, IsDone, Variable, FieldOf, Found, Of, Term, read_of, struct_of}
use Rattle.alias_facts.specs.declared.table.Table.{Table}

-- what the table has

-- the numbers of a set, if there is one
abbrev pub items_of : Option Numbers → List ℕ
items_of None = []
items_of (Some x) = x.items

-- the sites of a variable
abbrev pub var_items : Table → ℕ → List ℕ
var_items m k = items_of (slice_get m.vars k)

-- the set of field f of site t
abbrev pub cell_in : List (List Numbers) → ℕ → ℕ → Option Numbers
cell_in cells t f = option_and_then (λ (row : List Numbers). slice_get row f) (slice_get cells t)

abbrev pub cell_at : Table → ℕ → ℕ → Option Numbers
cell_at m t f = cell_in m.cells t f

-- its sites
abbrev pub cell_items : Table → ℕ → ℕ → List ℕ
cell_items m t f = items_of (cell_at m t f)

-- whether s flows to field f of one of the sites
abbrev pub in_cells : Table → ℕ → List ℕ → ℕ → Bool
in_cells m f ts s = list_any (λ t. has_number (cell_items m t f) s) ts

-- what reads and sources find in it

-- whether a site makes objects of a struct
abbrev pub is_of_struct : Names → Graph → ℕ → ℕ → Bool
is_of_struct n g c t = has (λ d. d == c) (struct_of n g t)

-- the sites of a struct
abbrev pub sites_of_struct : Names → Graph → ℕ → List ℕ
sites_of_struct n g c = filter (is_of_struct n g c) (range_with_len 0 (length n.sites))

-- whether s flows to a field of a variable
abbrev pub in_field : Table → Option (ℕ × ℕ) → ℕ → Bool
in_field m None s = false
in_field m (Some x) s = in_cells m x.1 (var_items m x.0) s

-- whether it flows to what a read finds
abbrev pub in_found : Names → Graph → Table → Read → ℕ → Bool
in_found n g m (read.Name k) s = if nat_lt k (length n.vars) then has_number (var_items m k) s else in_field m (slice_get n.fields (k - length n.vars)) s
in_found n g m (read.Deep c f) s = in_cells m f (sites_of_struct n g c) s

-- whether it flows to what a write takes
abbrev pub in_source : Names → Graph → Table → Source → ℕ → Bool
in_source n g m (Content l) s = in_found n g m (read_of l) s
in_source n g m Null s = false
in_source n g m (New t) s = t == s
in_source n g m Undef s = false

-- whether it flows to a term
abbrev pub in_term : Names → Graph → Table → Term → ℕ → Bool
in_term n g m (Variable k) s = has_number (var_items m k) s
in_term n g m (FieldOf t f) s = has_number (cell_items m t f) s
in_term n g m (Found r) s = in_found n g m r s
in_term n g m (Of v) s = in_source n g m v s

-- whether a write to a field is one to field f of site t
abbrev pub writes_cell : Names → Graph → Table → Read → ℕ → ℕ → ℕ → ℕ → Bool
writes_cell n g m r c d t f = f == d && (in_found n g m r t && is_of_struct n g c t)

-- tables

-- what it has flows there
pub record IsSound (n : Names) (g : Graph) (m : Table) : Type 0 where
  pub vars : (k s : ℕ) → has_number (var_items m k) s ≡ true → Flows n g s (Variable k)
  pub cells : (t f s : ℕ) → has_number (cell_items m t f) s ≡ true → Flows n g s (FieldOf t f)

-- each write of each edge adds nothing
pub record IsClosed (n : Names) (g : Graph) (m : Table) : Type 0 where
  pub vars : (k : ℕ) (v : Source) → IsDone n g (Sets k v) → (s : ℕ) → in_source n g m v s ≡ true → has_number (var_items m k) s ≡ true
  pub cells : (r : Read) (c f : ℕ) (v : Source) → IsDone n g (SetsField r c f v) → (t s : ℕ) → writes_cell n g m r c f t f ≡ true → in_source n g m v s ≡ true → has_number (cell_items m t f) s ≡ true

-- what a write to variable k adds
pub record IsSetBy (n : Names) (g : Graph) (k : ℕ) (v : Source) (m new : Table) : Type 0 where
  pub vars : (j s : ℕ) → has_number (var_items new j) s ≡ (has_number (var_items m j) s || (j == k && in_source n g m v s))
  pub cells : new.cells ≡ m.cells

-- what a write to field f of the objects of struct c that a read finds adds
pub record IsFieldSetBy (n : Names) (g : Graph) (r : Read) (c f : ℕ) (v : Source) (m new : Table) : Type 0 where
  pub vars : new.vars ≡ m.vars
  pub cells : (t d s : ℕ) → has_number (cell_items new t d) s ≡ (has_number (cell_items m t d) s || (writes_cell n g m r c f t d && in_source n g m v s))
