-- Machines whose contents have the types of their variables and objects.
use Rattle.std.specs.Prelude.{◌≡◌, ℕ, true, List, length, Option, None, Some}
use Rattle.std.specs.Option.{option_and_then}
use Rattle.c_tree.specs.declared.program.Ty.{Ty}
use Rattle.c_tree.specs.declared.program.Ty.TheVariants as ty
use Rattle.c_meaning.specs.declared.value.Value.{Value}
use Rattle.c_meaning.specs.declared.value.Value.TheVariants as value
use Rattle.c_meaning.specs.declared.machine.Location.{Location}
use Rattle.c_meaning.specs.declared.machine.Location.TheVariants.{Slot, Cell}
use Rattle.c_meaning.specs.Eval.{content_of}
use Rattle.c_meaning.specs.Machine.{Store}
use Rattle.c_graph.specs.declared.graph.Graph.{Graph}
use Rattle.ts_domain.specs.declared.names.Names.{Names}
use Rattle.ts_domain.specs.Pointers.{is_pointer, type_of, field_type}
use Rattle.ts_domain.specs.Views.{object_type}

-- a content of that type, or an indeterminate one; what an object is pointed to by has the type that it was made with
abbrev pub Fits : Graph → List ℕ → Ty → Value → Type 0
Fits g sites t value.Undef = Unit {0}
Fits g sites t (value.Int n) = t ≡ ty.Int
Fits g sites t value.Null = is_pointer t ≡ true
Fits g sites t (value.Ptr o) = (object_type g sites o ≡ Some t) × (is_pointer t ≡ true)

-- the type of cell f of an object that is pointed to by that type
abbrev pub cell_type : Names → ℕ → Ty → Option Ty
cell_type n f ty.Int = None
cell_type n f ty.IntPtr = Some ty.Int
cell_type n f (ty.StructPtr s) = field_type n s f

-- the type of what a location holds
abbrev pub location_type : Names → Graph → List ℕ → Location → Option Ty
location_type n g sites (Slot x) = type_of n x
location_type n g sites (Cell o f) = option_and_then (cell_type n f) (object_type g sites o)

-- all contents fit the types of their places, what has no type is indeterminate, and there is a slot for each variable
pub record HasTypes (n : Names) (g : Graph) (sites : List ℕ) (s : Store) : Type 0 where
  pub slots : length s.slots ≡ length n.decls
  pub contents : (l : Location) (t : Ty) → location_type n g sites l ≡ Some t → Fits g sites t (content_of s.slots s.objects l)
  pub others : (l : Location) → location_type n g sites l ≡ None → content_of s.slots s.objects l ≡ value.Undef

-- and there is a site for each object
pub record IsTyped (n : Names) (g : Graph) (sites : List ℕ) (s : Store) : Type 0 where
  pub types : HasTypes n g sites s
  pub objects : length s.objects ≡ length sites
