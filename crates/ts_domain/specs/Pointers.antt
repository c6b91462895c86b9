-- Which variables and fields are pointers, and their numbers.
use Rattle.std.specs.Prelude.{ℕ, ◌+◌, ◌==◌, ◌&&◌, nat_lt, Bool, true, false, List, length, slice_get, position, option_map, Option, None, Some}
use Rattle.std.specs.List.{filter, range_with_len}
use Rattle.std.specs.Option.{option_and_then}
use Rattle.c_tree.specs.Typing.{has}
use Rattle.c_tree.specs.declared.program.FieldDef.{FieldDef}
use Rattle.c_tree.specs.declared.program.Home.{Home}
use Rattle.c_tree.specs.declared.program.Home.TheVariants as home
use Rattle.c_tree.specs.declared.program.Ty.{Ty}
use Rattle.c_tree.specs.declared.program.Ty.TheVariants as ty
use Rattle.c_tree.specs.declared.program.VarDef.{VarDef}
use Rattle.ts_domain.specs.declared.names.Names.{Names}
use Rattle.ts_domain.specs.declared.names.Read.{Read}
use Rattle.ts_domain.specs.declared.names.Read.TheVariants as read
use Rattle.ts_domain.specs.declared.pointers.Pointer.{Pointer}

-- whether a type is one of pointers
abbrev pub is_pointer : Ty → Bool
is_pointer ty.Int = false
is_pointer ty.IntPtr = true
is_pointer (ty.StructPtr s) = true

-- the place of a variable among the pointer variables
abbrev pub place_of : Names → ℕ → Option ℕ
place_of n x = position (λ y. y == x) n.vars

-- the place of a field of a pointer variable among the fields
abbrev pub field_place : List (ℕ × ℕ) → ℕ → ℕ → Option ℕ
field_place fields k f = position (λ (y : ℕ × ℕ). y.0 == k && y.1 == f) fields

-- the type of a variable
abbrev pub type_of : Names → ℕ → Option Ty
type_of n x = option_map (λ (v : VarDef). v.ty) (slice_get n.decls x)

-- the type of field f of a struct
abbrev pub field_type : Names → ℕ → ℕ → Option Ty
field_type n s f = option_map (λ (d : FieldDef). d.ty) (option_and_then (λ d. slice_get d.fields f) (slice_get n.structs s))

-- a variable, if it is a pointer
abbrev pub pointer_at : Ty → ℕ → Pointer
pointer_at t k = record { ty = t; read = read.Name k }

abbrev pub var_pointer : Names → ℕ → Option Pointer
var_pointer n x = option_and_then (λ t. option_map (pointer_at t) (place_of n x)) (type_of n x)

-- the fields have their numbers behind the variables
abbrev pub numbered : Names → ℕ → ℕ → Option Read
numbered n k f = option_map (λ j. read.Name (length n.vars + j)) (field_place n.fields k f)

-- a field of what a read finds: of a variable it has a number, behind a longer chain it has not
abbrev pub chained : Names → ℕ → ℕ → ℕ → Bool → Option Read
chained n k s f true = numbered n k f
chained n k s f false = Some (read.Deep s f)

abbrev pub field_read : Names → Read → ℕ → ℕ → Option Read
field_read n (read.Name k) s f = chained n k s f (nat_lt k (length n.vars))
field_read n (read.Deep t g) s f = Some (read.Deep s f)

-- field f of a struct that a read leads to, if it is a pointer
abbrev pub pointer_if : Option Read → Ty → Bool → Option Pointer
pointer_if r t true = option_map (λ r. record { ty = t; read = r }) r
pointer_if r t false = None

abbrev pub field_of_struct : Names → Read → ℕ → ℕ → Option Pointer
field_of_struct n r s f = option_and_then (λ t. pointer_if (field_read n r s f) t (is_pointer t)) (field_type n s f)

abbrev pub field_pointer_at : Names → Read → ℕ → Ty → Option Pointer
field_pointer_at n r f ty.Int = None
field_pointer_at n r f ty.IntPtr = None
field_pointer_at n r f (ty.StructPtr s) = field_of_struct n r s f

-- field f behind a pointer, if it is one itself
abbrev pub field_pointer : Names → ℕ → Pointer → Option Pointer
field_pointer n f p = field_pointer_at n p.read f p.ty

-- whether a variable is of a function: a parameter, one of a block, or the slot of the result
abbrev pub is_of : ℕ → Home → Bool
is_of f (home.Global n) = false
is_of f (home.Param g) = g == f
is_of f (home.Local g) = g == f
is_of f (home.Result g) = g == f

abbrev pub is_parameter_of : ℕ → Home → Bool
is_parameter_of f (home.Global n) = false
is_parameter_of f (home.Param g) = g == f
is_parameter_of f (home.Local g) = false
is_parameter_of f (home.Result g) = false

-- whether the home of a variable passes a test
abbrev pub has_home : Names → (Home → Bool) → ℕ → Bool
has_home n test x = has (λ (v : VarDef). test v.home) (slice_get n.decls x)

-- the parameters of function f, in their order
abbrev pub parameters : Names → ℕ → List ℕ
parameters n f = filter (has_home n (is_parameter_of f)) (range_with_len 0 (length n.decls))

-- the pointer variables of function f, by their places
abbrev pub owned : Names → ℕ → List ℕ
owned n f = filter (λ k. has (has_home n (is_of f)) (slice_get n.vars k)) (range_with_len 0 (length n.vars))
