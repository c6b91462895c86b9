-- What deeds mean for a machine: what its pointer variables and pointer cells hold, and what one deed makes of that.
use Rattle.std.specs.Prelude.{◌≡◌, ℕ, ◌+◌, ◌-◌, ◌==◌, ◌&&◌, nat_lt, Bool, true, false, List, [], ◌∷◌, ◌++◌, length, slice_get, Option, None, Some, if◌then◌else◌}
use Rattle.std.specs.Option.{option_and_then}
use Rattle.c_tree.specs.declared.program.Program.{Program}
use Rattle.c_tree.specs.declared.program.Size.{Size}
use Rattle.c_tree.specs.declared.program.Size.TheVariants as size
use Rattle.c_tree.specs.declared.program.Ty.{Ty}
use Rattle.c_tree.specs.declared.program.Ty.TheVariants as ty
use Rattle.c_meaning.specs.declared.value.Value.{Value}
use Rattle.c_meaning.specs.declared.value.Value.TheVariants as value
use Rattle.c_meaning.specs.declared.machine.Location.TheVariants.{Slot, Cell}
use Rattle.c_meaning.specs.Eval.{content_of}
use Rattle.c_meaning.specs.Machine.{Store}
use Rattle.c_graph.specs.declared.graph.Action.TheVariants as action
use Rattle.c_graph.specs.declared.graph.Edge.{Edge}
use Rattle.c_graph.specs.declared.graph.Graph.{Graph}
use Rattle.c_graph.specs.declared.graph.Node.{Node}
use Rattle.c_graph.specs.declared.graph.NodeKind.{NodeKind}
use Rattle.c_graph.specs.declared.graph.NodeKind.TheVariants as kind
use Rattle.c_graph.specs.Executes.{sites_over}
use Rattle.ts_domain.specs.declared.deed.Deed.{Deed}
use Rattle.ts_domain.specs.declared.deed.Deed.TheVariants.{Reads, Follows, Says, Sets, SetsField}
use Rattle.ts_domain.specs.declared.deed.Looked.{Looked}
use Rattle.ts_domain.specs.declared.deed.Looked.TheVariants as looked
use Rattle.ts_domain.specs.declared.deed.Saying.{Saying}
use Rattle.ts_domain.specs.declared.deed.Saying.TheVariants.{IsNull, IsntNull, AreEqual, Differ}
use Rattle.ts_domain.specs.declared.deed.Source.{Source}
use Rattle.ts_domain.specs.declared.deed.Source.TheVariants as source
use Rattle.ts_domain.specs.declared.names.Names.{Names}
use Rattle.ts_domain.specs.declared.names.Read.{Read}
use Rattle.ts_domain.specs.declared.names.Read.TheVariants as read
use Rattle.ts_domain.specs.Deeds.{edge_deeds}
use Rattle.ts_domain.specs.Looks.{is_noted_read}
use Rattle.ts_domain.specs.Numbering.{pointer_vars, pointing_fields, sites_of}

-- the numbers are those of a program and its graph
pub record AreNames (p : Program) (g : Graph) (n : Names) : Type 0 where
  pub decls : n.decls ≡ p.vars
  pub structs : n.structs ≡ p.structs
  pub vars : n.vars ≡ pointer_vars n.decls
  pub fields : n.fields ≡ pointing_fields n.structs n.decls n.vars
  pub sites : n.sites ≡ sites_of g.nodes

-- views

-- what the pointer variables hold, by their places, and the pointer cells of objects; nothing else of a machine is seen
pub record View : Type 0 where
  pub slot : (place : ℕ) → Value
  pub cell : (object field : ℕ) → Value

-- a content as far as it is a pointer: numbers are not seen
abbrev pub pointing : Value → Value
pointing value.Undef = value.Undef
pointing (value.Int n) = value.Undef
pointing value.Null = value.Null
pointing (value.Ptr o) = value.Ptr o

-- what a slot holds, if there is one
abbrev pub slot_seen : Store → Option ℕ → Value
slot_seen s None = value.Undef
slot_seen s (Some x) = pointing (content_of s.slots s.objects (Slot x))

-- the view of a machine
abbrev pub view_of : Names → Store → View
view_of n s = record {
  slot = λ k. slot_seen s (slice_get n.vars k);
  cell = λ o f. pointing (content_of s.slots s.objects (Cell o f));
}

-- two views that show the same
pub record IsSame (v w : View) : Type 0 where
  pub slot : (k : ℕ) → v.slot k ≡ w.slot k
  pub cell : (o f : ℕ) → v.cell o f ≡ w.cell o f

-- another content in a slot, and in a cell
abbrev pub with_slot : ℕ → Value → View → View
with_slot k c v = record v { slot = λ j. if j == k then c else v.slot j }

abbrev pub with_field : ℕ → ℕ → Value → View → View
with_field o f c v = record v { cell = λ q h. if q == o && h == f then c else v.cell q h }

-- peeking

-- the content of a field of the object that a content points to
abbrev pub field_seen : View → ℕ → Value → Value
field_seen v f value.Undef = value.Undef
field_seen v f (value.Int n) = value.Undef
field_seen v f value.Null = value.Undef
field_seen v f (value.Ptr o) = v.cell o f

-- the field of a variable, by its place among the fields
abbrev pub peek_field : View → Option (ℕ × ℕ) → Value
peek_field v None = value.Undef
peek_field v (Some p) = field_seen v p.1 (v.slot p.0)

-- what an expression holds, by its number; indeterminate where there is nothing
abbrev pub peek : Names → View → ℕ → Value
peek n v k = if nat_lt k (length n.vars) then v.slot k else peek_field v (slice_get n.fields (k - length n.vars))

-- objects

-- the type of the pointers to what a request makes (7.20.3.3)
abbrev pub size_type : Size → Ty
size_type (size.Fields s) = ty.StructPtr s
size_type (size.Ints count) = ty.IntPtr

abbrev pub kind_type : NodeKind → Option Ty
kind_type (kind.Act (action.Malloc place s at)) = Some (size_type s)
kind_type _ = None

-- the type of the pointers to the objects that a node makes
abbrev pub site_type : Graph → ℕ → Option Ty
site_type g v = option_and_then (λ (node : Node). kind_type node.kind) (slice_get g.nodes v)

-- the type of the pointers to an object, from the nodes that made the objects
abbrev pub object_type : Graph → List ℕ → ℕ → Option Ty
object_type g sites o = option_and_then (site_type g) (slice_get sites o)

-- deeds

-- what is seen in the middle of an edge: a view, and what the noted reads through longer chains found so far
pub record Seen : Type 0 where
  pub view : View
  pub found : List Value

-- at the beginning of an edge
abbrev pub first_seen : View → Seen
first_seen v = record { view = v; found = [] }

-- another content of a slot, and of a cell
abbrev pub slot_set : ℕ → Value → Seen → Seen
slot_set k c s = record s { view = with_slot k c s.view }

abbrev pub field_set : ℕ → ℕ → Value → Seen → Seen
field_set o f c s = record s { view = with_field o f c s.view }

-- what was found, and a content more where its read is noted
abbrev pub added : Bool → Value → List Value → List Value
added true c found = found ++ c ∷ []
added false c found = found

abbrev pub remembered : Bool → Value → Seen → Seen
remembered b c s = record s { found = added b c s.found }

-- no slot and no cell holds the object, and its cells are indeterminate
pub record IsFresh (v : View) (o : ℕ) : Type 0 where
  pub slots : (k : ℕ) → v.slot k ≡ value.Ptr o → ⊥
  pub cells : (q f : ℕ) → v.cell q f ≡ value.Ptr o → ⊥
  pub own : (f : ℕ) → v.cell o f ≡ value.Undef

-- in a program with these names and this graph, where those nodes made the objects
module _ (n : Names) (g : Graph) (sites : List ℕ) where
  -- what a read finds: the content of an expression, or of that field of some object of that struct
  abbrev pub Finds : View → Read → Value → Type 0
  Finds v (read.Name k) c = peek n v k ≡ c
  Finds v (read.Deep s f) c = (o : ℕ) × (object_type g sites o ≡ Some (ty.StructPtr s)) × (v.cell o f ≡ c)

  -- what a test or a write looks at: the content of an expression, or what a noted read found, which such a read still finds
  abbrev pub LooksAt : Seen → Looked → Value → Type 0
  LooksAt s (looked.Name k) c = peek n s.view k ≡ c
  LooksAt s (looked.Deep t f note) c = (slice_get s.found note ≡ Some c) × Finds s.view (read.Deep t f) c

  -- what a write takes; a content that is copied was read, so it is not indeterminate; a new object is the last of all
  abbrev pub Gives : Seen → Source → Value → Type 0
  Gives s (source.Content l) c = LooksAt s l c × (c ≡ value.Undef → ⊥)
  Gives s source.Null c = c ≡ value.Null
  Gives s (source.New site) c = (o : ℕ) × (v : ℕ) × (c ≡ value.Ptr o) × (slice_get n.sites site ≡ Some v) × (slice_get sites o ≡ Some v) × IsFresh s.view o × (length sites ≡ o + 1)
  Gives s source.Undef c = c ≡ value.Undef

  -- what a test says is so (6.5.9)
  abbrev pub IsSo : Seen → Saying → Type 0
  IsSo s (IsNull k) = peek n s.view k ≡ value.Null
  IsSo s (IsntNull k) = (o : ℕ) × (peek n s.view k ≡ value.Ptr o)
  IsSo s (AreEqual l r) = (c : Value) × LooksAt s l c × LooksAt s r c
  IsSo s (Differ l r) = (c d : Value) × LooksAt s l c × LooksAt s r d × (c ≡ d → ⊥)

  -- one deed: what is read and what is stored is not indeterminate, and what is followed holds an object
  abbrev pub Does : Deed → Seen → Seen → Type 0
  Does (Reads r noted) s t = (c : Value) × Finds s.view r c × (c ≡ value.Undef → ⊥) × (t ≡ remembered (is_noted_read r noted) c s)
  Does (Follows k) s t = (o : ℕ) × (s.view.slot k ≡ value.Ptr o) × (t ≡ s)
  Does (Says w) s t = IsSo s w × (t ≡ s)
  Does (Sets k v) s t = (c : Value) × Gives s v c × (t ≡ slot_set k c s)
  Does (SetsField r c f v) s t = (o : ℕ) × (u : Value) × Finds s.view r (value.Ptr o) × (object_type g sites o ≡ Some (ty.StructPtr c)) × Gives s v u × (u ≡ value.Undef → ⊥) × (t ≡ field_set o f u s)

  -- deeds in order
  abbrev pub DoesAll : List Deed → Seen → Seen → Type 0
  DoesAll [] s t = t ≡ s
  DoesAll (d ∷ ds) s t = (u : Seen) × Does d s u × DoesAll ds u t

-- an edge does its deeds, from the view of one machine to that of another; the sites are those behind it
abbrev pub EdgeDoes : Names → Graph → List ℕ → Edge → Store → Store → Type 0
EdgeDoes n g sites e s t = (u : Seen) × DoesAll n g (sites_over e sites) (edge_deeds n g e) (first_seen (view_of n s)) u × IsSame u.view (view_of n t)
