-- The types of expressions (C99 6.5), by the names and structs that are visible.
use Rattle.std.specs.Prelude.{ℕ, Bool, true, false, List, [], ◌∷◌, Option, None, Some, slice_get, if◌then◌else◌}
use Rattle.c_tree.specs.declared.expr.Expr.{Expr as Made}
use Rattle.c_tree.specs.declared.expr.Expr.TheVariants as expr
use Rattle.c_tree.specs.declared.expr.Oper.{Oper}
use Rattle.c_tree.specs.declared.expr.Oper.TheVariants as oper
use Rattle.c_tree.specs.declared.expr.Sign.{Sign}
use Rattle.c_tree.specs.declared.expr.Sign.TheVariants as sign
use Rattle.c_tree.specs.declared.program.Ty.{Ty}
use Rattle.c_tree.specs.declared.program.Ty.TheVariants as ty
use Rattle.c_tree.specs.declared.tree.Expr.{Expr, Expr-F, fold-Expr}
use Rattle.c_tree.specs.declared.tree.Expr.TheOpen.{Const, Null, Var, Field, Deref, Index, Unary, Binary}
use Rattle.c_tree.specs.declared.tree.Word.{Word}
use Rattle.c_types.specs.declared.faults.Rule.TheVariants as rule
use Rattle.c_types.specs.declared.judged.Judged.{Judged}
use Rattle.c_types.specs.declared.judged.Judged.TheVariants.{Typed, Broken}
use Rattle.c_types.specs.declared.judged.Sort.{Sort}
use Rattle.c_types.specs.declared.judged.Sort.TheVariants.{Of, AnyPointer}
use Rattle.c_types.specs.declared.judged.Value.{Value}
use Rattle.c_types.specs.declared.scope.Entry.{Entry}
use Rattle.c_types.specs.declared.scope.Meaning.{Meaning}
use Rattle.c_types.specs.declared.scope.Meaning.TheVariants as meaning
use Rattle.c_types.specs.declared.scope.Scope.{Scope}
use Rattle.c_types.specs.declared.scope.StructRow.{StructRow}
use Rattle.c_types.specs.declared.scope.Written.{Written}
use Rattle.c_types.specs.declared.scope.Written.TheVariants.{Good, Bad}
use Rattle.c_types.specs.Fits.{points, is_int, same_sort, is_comparable, beside}
use Rattle.c_types.specs.Judged.{breaks, of_one, of_two}
use Rattle.c_types.specs.Tables.{found, place_of}

abbrev pub typed : Made → Sort → Judged Value
typed e s = Typed (record { expr = e; sort = s })

abbrev pub of_int : Made → Judged Value
of_int e = typed e (Of ty.Int)

-- Unknown: a name that is no variable
abbrev pub variable_as : Word → Meaning → Judged Value
variable_as w (meaning.Variable n t) = typed (expr.Var n w.at) (Of t)
variable_as w (meaning.Alias s) = breaks rule.Unknown w.at
variable_as w (meaning.Function f) = breaks rule.Unknown w.at
variable_as w (meaning.Bad f) = Broken (f ∷ [])

-- Unknown: a name that isn't visible
abbrev pub variable_by : Word → Option Entry → Judged Value
variable_by w None = breaks rule.Unknown w.at
variable_by w (Some e) = variable_as w e.meaning

abbrev pub variable : Scope → Word → Judged Value
variable s w = variable_by w (found s.names w.text)

-- Unknown: a field that its struct doesn't have
abbrev pub field_by : Made → Word → ℕ → Option ℕ → Option Written → Judged Value
field_by e w at (Some k) (Some (Good t)) = typed (expr.Field e k at) (Of t)
field_by e w at (Some k) (Some (Bad f)) = Broken (f ∷ [])
field_by e w at _ _ = breaks rule.Unknown w.at

-- Wrong 14: fields of a struct without a body so far
abbrev pub field_in : Made → Word → ℕ → StructRow → Option ℕ → Judged Value
field_in e w at row None = breaks rule.NoBody at
field_in e w at row (Some body) = field_by e w at (place_of row.fields w.text) (found row.fields w.text)

abbrev pub field_of_row : Made → Word → ℕ → Option StructRow → Judged Value
field_of_row e w at None = breaks rule.NoBody at
field_of_row e w at (Some row) = field_in e w at row row.body

-- Wrong 4: `->` on what points to no struct
abbrev pub field_at : Scope → Word → ℕ → Made → Sort → Judged Value
field_at s w at e (Of (ty.StructPtr n)) = field_of_row e w at (slice_get s.structs n)
field_at s w at e (Of ty.Int) = breaks rule.Operands at
field_at s w at e (Of ty.IntPtr) = breaks rule.Operands at
field_at s w at e AnyPointer = breaks rule.Operands at

abbrev pub field : Scope → Word → ℕ → Value → Judged Value
field s w at v = field_at s w at v.expr v.sort

-- Wrong 4: `*` and `[ ]` take `int *`
abbrev pub points_to_int : Sort → Bool
points_to_int s = same_sort s (Of ty.IntPtr)

abbrev pub deref : ℕ → Value → Judged Value
deref at v = if points_to_int v.sort then of_int (expr.Deref v.expr at) else breaks rule.Operands at

abbrev pub index : ℕ → Value → Value → Judged Value
index at v i =
    if points_to_int v.sort
    then (if is_int i.sort then of_int (expr.Index v.expr i.expr at) else breaks rule.Operands at)
    else breaks rule.Operands at

-- Wrong 4: `-` takes `int`; `!` takes `int` or a pointer
abbrev pub signed : Sign → ℕ → Value → Judged Value
signed sign.Minus at v = if is_int v.sort then of_int (expr.Unary sign.Minus v.expr at) else breaks rule.Operands at
signed sign.Not at v = of_int (expr.Unary sign.Not v.expr at)

-- Wrong 4: arithmetic and order take `int`
abbrev pub computed : Oper → ℕ → Value → Value → Judged Value
computed o at v w =
    if is_int v.sort
    then (if is_int w.sort then of_int (expr.Binary o v.expr w.expr at) else breaks rule.Operands at)
    else breaks rule.Operands at

-- Wrong 4: `==` and `!=` take what can be compared
abbrev pub compared : Oper → ℕ → Value → Value → Judged Value
compared o at v w =
    if is_comparable v w then of_int (expr.Binary o (beside v w.sort) (beside w v.sort) at) else breaks rule.Operands at

-- Wrong 5: `&&` or `||` outside a condition
abbrev pub joined : Oper → ℕ → Bool → Value → Value → Judged Value
joined o at is_test v w = if is_test then of_int (expr.Binary o v.expr w.expr at) else breaks rule.LooseLogic at

abbrev pub combined : Oper → ℕ → Bool → Value → Value → Judged Value
combined oper.And at is_test v w = joined oper.And at is_test v w
combined oper.Or at is_test v w = joined oper.Or at is_test v w
combined oper.Eq at is_test v w = compared oper.Eq at v w
combined oper.Ne at is_test v w = compared oper.Ne at v w
combined o at is_test v w = computed o at v w

-- the operands of `!`, `&&` and `||` in a condition are conditions
abbrev pub under_sign : Sign → Bool → Bool
under_sign sign.Minus is_test = false
under_sign sign.Not is_test = is_test

abbrev pub under_oper : Oper → Bool → Bool
under_oper oper.And is_test = is_test
under_oper oper.Or is_test = is_test
under_oper _ is_test = false

-- a part of an expression, by whether it stands as a condition
abbrev pub judged_layer : Scope → Expr-F (Bool → Judged Value) → Bool → Judged Value
judged_layer s (Const n at) is_test = of_int (expr.Const n at)
judged_layer s (Null at) is_test = typed (expr.Null at) AnyPointer
judged_layer s (Var w) is_test = variable s w
judged_layer s (Field e w at) is_test = of_one (field s w at) (e false)
judged_layer s (Deref e at) is_test = of_one (deref at) (e false)
judged_layer s (Index e i at) is_test = of_two (index at) (e false) (i false)
judged_layer s (Unary g e at) is_test = of_one (signed g at) (e (under_sign g is_test))
judged_layer s (Binary o a b at) is_test = of_two (combined o at is_test) (a (under_oper o is_test)) (b (under_oper o is_test))

-- an expression, by whether it is a condition
abbrev pub judged : Scope → Expr → Bool → Judged Value
judged s = fold-Expr (Bool → Judged Value) (judged_layer s)
