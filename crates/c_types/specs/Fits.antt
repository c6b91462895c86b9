-- Which values fit which types (C99 6.5.4 to 6.5.16, 6.3.2.3).
use Rattle.std.specs.Prelude.{ℕ, Bool, true, false, ◌==◌, ◌&&◌, ◌||◌, pos, List, [], ◌∷◌, Option, None, Some, if◌then◌else◌}
use Rattle.std.specs.Ordering.{int_eq}
use Rattle.c_tree.specs.AlikeTest.{same_ty}
use Rattle.c_tree.specs.declared.expr.Expr.{Expr, Expr-F, out-Expr}
use Rattle.c_tree.specs.declared.expr.Expr.TheOpen.{Const, Null, Var, Field, Deref, Index, Unary, Binary}
use Rattle.c_tree.specs.declared.expr.Expr.TheVariants as expr
use Rattle.c_tree.specs.declared.program.Right.{Right}
use Rattle.c_tree.specs.declared.program.Right.TheVariants as right
use Rattle.c_tree.specs.declared.program.Ty.{Ty}
use Rattle.c_tree.specs.declared.program.Ty.TheVariants as ty
use Rattle.c_types.specs.declared.faults.Fault.{Fault}
use Rattle.c_types.specs.declared.faults.Rule.{Rule}
use Rattle.c_types.specs.declared.faults.Rule.TheVariants as rule
use Rattle.c_types.specs.declared.judged.Request.{Request}
use Rattle.c_types.specs.declared.judged.RightValue.{RightValue}
use Rattle.c_types.specs.declared.judged.RightValue.TheVariants as value
use Rattle.c_types.specs.declared.judged.Sort.{Sort}
use Rattle.c_types.specs.declared.judged.Sort.TheVariants.{Of, AnyPointer}
use Rattle.c_types.specs.declared.judged.Value.{Value}

abbrev pub fault : Rule → ℕ → Fault
fault r n = record { at = n; rule = r }

-- no fault, or that one
abbrev pub unless : Bool → Rule → ℕ → List Fault
unless holds r n = if holds then [] else (fault r n ∷ [])

abbrev pub is_pointer : Ty → Bool
is_pointer ty.Int = false
is_pointer ty.IntPtr = true
is_pointer (ty.StructPtr s) = true

abbrev pub points : Sort → Bool
points (Of t) = is_pointer t
points AnyPointer = true

abbrev pub is_int : Sort → Bool
is_int (Of ty.Int) = true
is_int (Of ty.IntPtr) = false
is_int (Of (ty.StructPtr s)) = false
is_int AnyPointer = false

abbrev pub same_sort : Sort → Sort → Bool
same_sort (Of t) (Of u) = same_ty t u
same_sort AnyPointer AnyPointer = true
same_sort _ _ = false

-- the constant 0, which is a null pointer where a pointer is wanted (6.3.2.3)
abbrev pub is_zero_layer : Expr-F Expr → Bool
is_zero_layer (Const n at) = int_eq n (pos 0)
is_zero_layer _ = false

abbrev pub is_zero : Expr → Bool
is_zero e = is_zero_layer (out-Expr e)

-- an expression where a pointer is wanted
abbrev pub pointer_layer : Expr → Expr-F Expr → Expr
pointer_layer e (Const n at) = if int_eq n (pos 0) then expr.Null at else e
pointer_layer e _ = e

abbrev pub as_pointer : Expr → Expr
as_pointer e = pointer_layer e (out-Expr e)

-- an expression where a value of that type is wanted
abbrev pub converted : Ty → Expr → Expr
converted ty.Int e = e
converted ty.IntPtr e = as_pointer e
converted (ty.StructPtr s) e = as_pointer e

-- a value is of that type, or a null pointer where a pointer is wanted (6.5.16.1)
abbrev pub fits : Ty → Value → Bool
fits t v = same_sort (Of t) v.sort || (is_pointer t && (same_sort AnyPointer v.sort || is_zero v.expr))

-- a null pointer (6.3.2.3)
abbrev pub is_null : Value → Bool
is_null v = same_sort AnyPointer v.sort || is_zero v.expr

-- `==` and `!=` take two values of one type, or a pointer and a null pointer (6.5.9)
abbrev pub is_comparable : Value → Value → Bool
is_comparable v w = same_sort v.sort w.sort || (points v.sort && is_null w) || (is_null v && points w.sort)

-- an operand of `==` or `!=` beside one of that type
abbrev pub beside : Value → Sort → Expr
beside v s = if points s then as_pointer v.expr else v.expr

-- a request fits a target that points to its unit, as its cast does (Wrong 8)
abbrev pub cast_fits : Ty → Option Ty → Bool
cast_fits t None = true
cast_fits t (Some c) = same_ty t c

abbrev pub request_fits : Ty → Request → Bool
request_fits t r = same_ty t r.points && cast_fits t r.cast

-- Wrong 3 and Wrong 8: a value given to a target of another type, at that offset; a request that doesn't fit
abbrev pub misfits : Ty → ℕ → RightValue → List Fault
misfits t n (value.Plain v) = unless (fits t v) rule.TypesDiffer n
misfits t n (value.Result c u) = unless (same_ty t u) rule.TypesDiffer n
misfits t n (value.Requested c r) = unless (request_fits t r) rule.Request r.at

-- a right side as it stands in the program, for a target of that type
abbrev pub right_for : Ty → RightValue → Right
right_for t (value.Plain v) = right.Plain (converted t v.expr)
right_for t (value.Result c u) = right.Call c
right_for t (value.Requested c r) = right.Call c

-- a right side without a target
abbrev pub right_of : RightValue → Right
right_of (value.Plain v) = right.Plain v.expr
right_of (value.Result c u) = right.Call c
right_of (value.Requested c r) = right.Call c
