-- The writes among deeds, and bounds for them.
use Rattle.std.specs.Prelude.{◌≡◌, ℕ, ◌<◌, List, [], ◌∷◌, length, map}
use Rattle.std.specs.List.{All, flat_map}
use Rattle.c_graph.specs.declared.graph.Graph.{Graph}
use Rattle.ts_domain.specs.declared.deed.Deed.{Deed}
use Rattle.ts_domain.specs.declared.deed.Deed.TheVariants.{Reads, Follows, Says, Sets, SetsField}
use Rattle.ts_domain.specs.declared.names.Names.{Names}
use Rattle.ts_domain.specs.Deeds.{edge_deeds}
use Rattle.alias_facts.specs.declared.bounds.Bounds.{Bounds}
use Rattle.alias_facts.specs.Writing.{DeedFits}

-- a deed, if it writes
abbrev pub written : Deed → List Deed
written (Reads r noted) = []
written (Follows k) = []
written (Says s) = []
written (Sets k v) = Sets k v ∷ []
written (SetsField r c f v) = SetsField r c f v ∷ []

abbrev pub writes_in : List Deed → List Deed
writes_in ds = flat_map written ds

abbrev pub writes_of : List (List Deed) → List Deed
writes_of all = flat_map writes_in all

-- those of all edges
abbrev pub all_writes : Names → Graph → List Deed
all_writes n g = writes_of (map (edge_deeds n g) g.edges)

-- the field that a deed writes is below a bound
abbrev pub FieldFits : ℕ → Deed → Type 0
FieldFits bound (Reads r noted) = Unit {0}
FieldFits bound (Follows k) = Unit {0}
FieldFits bound (Says s) = Unit {0}
FieldFits bound (Sets k v) = Unit {0}
FieldFits bound (SetsField r c f v) = f < bound

-- bounds of a table for the names, which all writes are within
pub record IsBound (n : Names) (ds : List Deed) (b : Bounds) : Type 0 where
  pub vars : b.vars ≡ length n.vars
  pub sites : b.sites ≡ length n.sites
  pub fit : All (DeedFits b) ds
