-- Which sites flow where: an object of a site may come to a variable, or to a field of the objects of a site, by some write.
use Rattle.std.specs.Prelude.{◌≡◌, ◌≢◌, ◌↔◌, ◌⊎◌, ℕ, ◌+◌, ◌<◌, ◌==◌, ◌&&◌, Bool, true, false, List, [], ◌∷◌, length, slice_get, Option, None, Some}
use Rattle.std.specs.List.{All, AllPairs, Contains, list_any}
use Rattle.std.specs.Option.{option_and_then}
use Rattle.c_tree.specs.Typing.{has}
use Rattle.c_tree.specs.declared.program.Size.{Size}
use Rattle.c_tree.specs.declared.program.Size.TheVariants as size
use Rattle.c_graph.specs.declared.graph.Action.{Action}
use Rattle.c_graph.specs.declared.graph.Action.TheVariants as action
use Rattle.c_graph.specs.declared.graph.Edge.{Edge}
use Rattle.c_graph.specs.declared.graph.Graph.{Graph}
use Rattle.c_graph.specs.declared.graph.Node.{Node}
use Rattle.c_graph.specs.declared.graph.NodeKind.{NodeKind}
use Rattle.c_graph.specs.declared.graph.NodeKind.TheVariants as kind
use Rattle.mf_set.specs.Numbers.{Numbers, has as has_number}
use Rattle.ts_domain.specs.declared.deed.Deed.{Deed}
use Rattle.ts_domain.specs.declared.deed.Deed.TheVariants.{Sets, SetsField}
use Rattle.ts_domain.specs.declared.deed.Looked.{Looked}
use Rattle.ts_domain.specs.declared.deed.Looked.TheVariants as looked
use Rattle.ts_domain.specs.declared.deed.Source.{Source}
use Rattle.ts_domain.specs.declared.deed.Source.TheVariants.{Content, New}
use Rattle.ts_domain.specs.declared.facts.May.{May}
use Rattle.ts_domain.specs.declared.names.Names.{Names}
use Rattle.ts_domain.specs.declared.names.Read.{Read}
use Rattle.ts_domain.specs.declared.names.Read.TheVariants as read
use Rattle.ts_domain.specs.Deeds.{edge_deeds}

-- sites

-- the struct of the objects that a request makes; it may make numbers
abbrev pub struct_of_size : Size → Option ℕ
struct_of_size (size.Fields s) = Some s
struct_of_size (size.Ints count) = None

abbrev pub struct_of_action : Action → Option ℕ
struct_of_action (action.Unset x) = None
struct_of_action (action.Assign s) = None
struct_of_action (action.Malloc place s at) = struct_of_size s
struct_of_action (action.Getchar place) = None
struct_of_action (action.Putchar e) = None
struct_of_action (action.Printf text es) = None
struct_of_action (action.Test e) = None
struct_of_action (action.Call f es) = None
struct_of_action (action.Return e) = None
struct_of_action action.Close = None

abbrev pub struct_of_kind : NodeKind → Option ℕ
struct_of_kind (kind.Gap number frees) = None
struct_of_kind (kind.Act a) = struct_of_action a
struct_of_kind (kind.Exit offset) = None

-- the struct of the objects of a site, by its place among the sites
abbrev pub struct_of : Names → Graph → ℕ → Option ℕ
struct_of n g t = option_and_then (λ v. option_and_then (λ (node : Node). struct_of_kind node.kind) (slice_get g.nodes v)) (slice_get n.sites t)

-- flows

-- some edge of the graph does that, whether a node that is reached or another
abbrev pub IsDone : Names → Graph → Deed → Type 0
IsDone n g d = (e : Edge) × Contains g.edges e × Contains (edge_deeds n g e) d

-- what sites flow to: a variable, by its place; a field of the objects of a site; what a read finds; what a write takes
pub data Term : Type 0 where
  Variable : (k : ℕ) → Term
  FieldOf : (site field : ℕ) → Term
  Found : (r : Read) → Term
  Of : (v : Source) → Term

-- the read by which a pointer was looked at
abbrev pub read_of : Looked → Read
read_of (looked.Name k) = read.Name k
read_of (looked.Deep s f note) = read.Deep s f

-- site s flows there: the least relation that is closed under all writes
pub data Flows (n : Names) (g : Graph) : (s : ℕ) → Term → Type 0 where
  -- a variable is written
  sets : (k : ℕ) (v : Source) (s : ℕ) → IsDone n g (Sets k v) → Flows n g s (Of v) → Flows n g s (Variable k)
  -- a field is written, of each object that the base may point to and that has the field
  sets_field : (r : Read) (c f : ℕ) (v : Source) (s t : ℕ) → IsDone n g (SetsField r c f v) → Flows n g t (Found r) → struct_of n g t ≡ Some c → Flows n g s (Of v) → Flows n g s (FieldOf t f)
  -- a variable is read
  of_variable : (k s : ℕ) → k < length n.vars → Flows n g s (Variable k) → Flows n g s (Found (read.Name k))
  -- a field of a variable is read
  of_field : (j k f s t : ℕ) → slice_get n.fields j ≡ Some (k, f) → Flows n g t (Variable k) → Flows n g s (FieldOf t f) → Flows n g s (Found (read.Name (length n.vars + j)))
  -- a field of a struct is read behind a longer chain
  deep : (c f s t : ℕ) → struct_of n g t ≡ Some c → Flows n g s (FieldOf t f) → Flows n g s (Found (read.Deep c f))
  -- a write takes what was read
  content : (l : Looked) (s : ℕ) → Flows n g s (Found (read_of l)) → Flows n g s (Of (Content l))
  -- or the object that its site makes
  new : (s : ℕ) → Flows n g s (Of (New s))

-- the answer

-- whether a site is among those that flow to a variable
abbrev pub flows_to : May → ℕ → ℕ → Bool
flows_to m k s = has (λ (x : Numbers). has_number x.items s) (slice_get m.vars k)

-- whether it is among those that flow to a field of a site
abbrev pub flows_into : May → ℕ → ℕ → ℕ → Bool
flows_into m t f s = list_any (λ (x : ℕ × ℕ × Numbers). x.0 == t && x.1 == f && has_number x.2.items s) m.fields

-- an entry stands before another: by site, and then by field
abbrev pub precedes : ℕ × ℕ × Numbers → ℕ × ℕ × Numbers → Type 0
precedes x y = (x.0 < y.0) ⊎ ((x.0 ≡ y.0) × (x.1 < y.1))

-- the sites that flow to variables and to fields are those of the relation, in sets with room for all sites; the fields to
-- which some site flows stand in order, each once
pub record IsMay (n : Names) (g : Graph) (m : May) : Type 0 where
  pub counted : length m.vars ≡ length n.vars
  pub variables : (k s : ℕ) → k < length n.vars → (flows_to m k s ≡ true) ↔ Flows n g s (Variable k)
  pub fields : (t f s : ℕ) → (flows_into m t f s ≡ true) ↔ Flows n g s (FieldOf t f)
  pub var_rooms : All (λ (x : Numbers). x.room ≡ length n.sites) m.vars
  pub field_rooms : All (λ (x : ℕ × ℕ × Numbers). x.2.room ≡ length n.sites) m.fields
  pub some : All (λ (x : ℕ × ℕ × Numbers). x.2.items ≢ []) m.fields
  pub ascending : AllPairs precedes m.fields
