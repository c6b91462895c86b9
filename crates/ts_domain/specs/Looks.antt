-- What evaluating an expression does to pointers (C99 6.5), in the order of the evaluation.
use Rattle.std.specs.Prelude.{ℕ, ◌&&◌, nat_lt, Bool, true, false, List, [], ◌∷◌, ◌++◌, length, Option, None, Some, if◌then◌else◌}
use Rattle.std.specs.List.{filter}
use Rattle.std.specs.Option.{option_and_then, is_some}
use Rattle.c_tree.specs.declared.expr.Expr.{Expr, Expr-F, fold-Expr}
use Rattle.c_tree.specs.declared.expr.Expr.TheOpen.{Const, Null, Var, Field, Deref, Index, Unary, Binary}
use Rattle.c_tree.specs.declared.expr.Oper.{Oper}
use Rattle.c_tree.specs.declared.expr.Oper.TheVariants as oper
use Rattle.ts_domain.specs.declared.deed.Deed.{Deed}
use Rattle.ts_domain.specs.declared.deed.Deed.TheVariants.{Reads, Follows, Says, Sets, SetsField}
use Rattle.ts_domain.specs.declared.names.Names.{Names}
use Rattle.ts_domain.specs.declared.names.Read.{Read}
use Rattle.ts_domain.specs.declared.names.Read.TheVariants as read
use Rattle.ts_domain.specs.declared.pointers.Pointer.{Pointer}
use Rattle.ts_domain.specs.Pointers.{var_pointer, field_pointer}

-- an expression: the pointer that it is, if it is a variable or a field of pointer type, and what its operands do
pub record Look : Type 0 where
  pub pointer : Option Pointer
  pub within : List Deed

-- an expression that is no pointer variable and no pointer field
abbrev pub plain : List Deed → Look
plain ds = record { pointer = None; within = ds }

-- the read of a pointer itself; whether it is noted
abbrev pub itself : Bool → Option Pointer → List Deed
itself noted None = []
itself noted (Some p) = Reads p.read noted ∷ []

-- an expression as a value: its operands, then its own read
abbrev pub valued : Bool → Look → List Deed
valued noted e = e.within ++ itself noted e.pointer

-- a variable that is followed to a cell
abbrev pub followed_read : Names → Read → List Deed
followed_read n (read.Name k) = if nat_lt k (length n.vars) then Follows k ∷ [] else []
followed_read n (read.Deep s f) = []

abbrev pub followed : Names → Option Pointer → List Deed
followed n None = []
followed n (Some p) = followed_read n p.read

-- an expression as the base of `*` or `->`
abbrev pub based : Names → Look → List Deed
based n e = valued false e ++ followed n e.pointer

abbrev pub is_equality : Oper → Bool
is_equality oper.Eq = true
is_equality oper.Ne = true
is_equality oper.Mul = false
is_equality oper.Div = false
is_equality oper.Rem = false
is_equality oper.Add = false
is_equality oper.Sub = false
is_equality oper.Lt = false
is_equality oper.Le = false
is_equality oper.Gt = false
is_equality oper.Ge = false
is_equality oper.And = false
is_equality oper.Or = false

-- a comparison of two pointers that are read notes both reads
abbrev pub compares : Oper → Option Pointer → Option Pointer → Bool
compares o p q = is_equality o && is_some p && is_some q

-- an expression from its operands
abbrev pub look_layer : Names → Expr-F Look → Look
look_layer n (Const v at) = plain []
look_layer n (Null at) = plain []
look_layer n (Var x at) = record { pointer = var_pointer n x; within = [] }
look_layer n (Field e f at) = record { pointer = option_and_then (field_pointer n f) e.pointer; within = based n e }
look_layer n (Deref e at) = plain (based n e)
look_layer n (Index e i at) = plain (valued false e ++ valued false i ++ followed n e.pointer)
look_layer n (Unary s e at) = plain (valued false e)
look_layer n (Binary o a b at) = let noted = compares o a.pointer b.pointer in plain (valued noted a ++ valued noted b)

abbrev pub look : Names → Expr → Look
look n = fold-Expr Look (look_layer n)

-- the pointer that an expression is, if it is a variable or a field of pointer type
abbrev pub pointer_of : Names → Expr → Option Pointer
pointer_of n e = (look n e).pointer

-- what the operands of an expression do; of a place it is what working it out does (6.5.16)
abbrev pub within : Names → Expr → List Deed
within n e = (look n e).within

-- what the evaluation of an expression does
abbrev pub value_deeds : Names → Bool → Expr → List Deed
value_deeds n noted e = valued noted (look n e)

-- what an expression does as the base of `*` or `->`
abbrev pub based_deeds : Names → Expr → List Deed
based_deeds n e = based n (look n e)

-- the noted reads through longer chains
abbrev pub is_noted_read : Read → Bool → Bool
is_noted_read (read.Deep s f) noted = noted
is_noted_read (read.Name k) noted = false

abbrev pub is_noted : Deed → Bool
is_noted (Reads r noted) = is_noted_read r noted
is_noted (Follows k) = false
is_noted (Says s) = false
is_noted (Sets k v) = false
is_noted (SetsField r s f v) = false

abbrev pub notes : List Deed → ℕ
notes ds = length (filter is_noted ds)
