-- The pointer variables, their pointer fields and the sites, in order; gaps and puts need scopes besides.
use Rattle.std.specs.Prelude.{ℕ, ◌+◌, Bool, true, false, List, [], ◌∷◌, ◌++◌, length, map, slice_get, option_map, Option, None, Some}
use Rattle.std.specs.List.{filter, range_with_len}
use Rattle.c_tree.specs.Typing.{has}
use Rattle.c_tree.specs.declared.program.FieldDef.{FieldDef}
use Rattle.c_tree.specs.declared.program.StructDef.{StructDef}
use Rattle.c_tree.specs.declared.program.Ty.{Ty}
use Rattle.c_tree.specs.declared.program.Ty.TheVariants as ty
use Rattle.c_tree.specs.declared.program.VarDef.{VarDef}
use Rattle.c_graph.specs.declared.graph.Action.TheVariants as action
use Rattle.c_graph.specs.declared.graph.Node.{Node}
use Rattle.c_graph.specs.declared.graph.NodeKind.{NodeKind}
use Rattle.c_graph.specs.declared.graph.NodeKind.TheVariants as kind
use Rattle.ts_domain.specs.Pointers.{is_pointer}

-- the places at which a list has what passes a test
abbrev pub places_passing : {A : Type 0} → (A → Bool) → List A → List ℕ
places_passing test xs = filter (λ i. has test (slice_get xs i)) (range_with_len 0 (length xs))

-- the pointer variables, nameless slots of results among them
abbrev pub pointer_vars : List VarDef → List ℕ
pointer_vars decls = places_passing (λ (v : VarDef). is_pointer v.ty) decls

-- the pointer fields of a struct
abbrev pub pointer_fields : List FieldDef → List ℕ
pointer_fields fields = places_passing (λ (f : FieldDef). is_pointer f.ty) fields

-- whether a node makes objects
abbrev pub makes : NodeKind → Bool
makes (kind.Act (action.Malloc place size at)) = true
makes _ = false

-- the nodes that make objects
abbrev pub sites_of : List Node → List ℕ
sites_of nodes = places_passing (λ (v : Node). makes v.kind) nodes

-- those of a struct, if there is one
abbrev pub defined_fields : Option StructDef → List ℕ
defined_fields None = []
defined_fields (Some d) = pointer_fields d.fields

-- those of the struct that a pointer of some type leads to
abbrev pub type_fields : List StructDef → Option Ty → List ℕ
type_fields structs None = []
type_fields structs (Some ty.Int) = []
type_fields structs (Some ty.IntPtr) = []
type_fields structs (Some (ty.StructPtr s)) = defined_fields (slice_get structs s)

-- those of a variable
abbrev pub var_fields : List StructDef → List VarDef → ℕ → List ℕ
var_fields structs decls x = type_fields structs (option_map (λ (v : VarDef). v.ty) (slice_get decls x))

-- the fields of pointer variables, each by the place of its variable, from place k on
abbrev pub paired_from : List StructDef → List VarDef → ℕ → List ℕ → List (ℕ × ℕ)
paired_from structs decls k [] = []
paired_from structs decls k (x ∷ xs) = map (λ f. (k, f)) (var_fields structs decls x) ++ paired_from structs decls (k + 1) xs

-- by variable and then by field
abbrev pub pointing_fields : List StructDef → List VarDef → List ℕ → List (ℕ × ℕ)
pointing_fields structs decls vars = paired_from structs decls 0 vars
