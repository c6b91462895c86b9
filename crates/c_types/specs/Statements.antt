-- Right sides, assignments, declarations within functions, and returns (C99 6.5.16, 6.7.8, 6.8.6.4).
use Rattle.std.specs.Prelude.{ℕ, Bool, true, false, List, [], ◌∷◌, ◌++◌, length, Option, None, Some, option_map, if◌then◌else◌}
use Rattle.c_tree.specs.declared.expr.Expr.{Expr as Made, Expr-F, out-Expr}
use Rattle.c_tree.specs.declared.expr.Expr.TheOpen.{Const, Null, Var, Field, Deref, Index, Unary, Binary}
use Rattle.c_tree.specs.declared.expr.Op.{Op}
use Rattle.c_tree.specs.declared.expr.Op.TheVariants as op
use Rattle.c_tree.specs.declared.program.Call.{Call as MadeCall}
use Rattle.c_tree.specs.declared.program.Call.TheVariants as made
use Rattle.c_tree.specs.declared.program.Declr.{Declr as MadeDeclr}
use Rattle.c_tree.specs.declared.program.Home.TheVariants as home
use Rattle.c_tree.specs.declared.program.Item.{Item as MadeItem}
use Rattle.c_tree.specs.declared.program.Item.TheVariants as item
use Rattle.c_tree.specs.declared.program.Right.{Right as MadeRight}
use Rattle.c_tree.specs.declared.program.Simple.{Simple as MadeSimple}
use Rattle.c_tree.specs.declared.program.Ty.{Ty}
use Rattle.c_tree.specs.declared.tree.Call.{Call}
use Rattle.c_tree.specs.declared.tree.Declr.{Declr}
use Rattle.c_tree.specs.declared.tree.Right.{Right}
use Rattle.c_tree.specs.declared.tree.Right.TheVariants as right
use Rattle.c_tree.specs.declared.tree.Simple.{Simple}
use Rattle.c_types.specs.declared.faults.Fault.{Fault}
use Rattle.c_types.specs.declared.faults.Rule.TheVariants as rule
use Rattle.c_types.specs.declared.judged.Called.{Called}
use Rattle.c_types.specs.declared.judged.Checked.{Checked}
use Rattle.c_types.specs.declared.judged.Gives.{Gives}
use Rattle.c_types.specs.declared.judged.Gives.TheVariants as gives
use Rattle.c_types.specs.declared.judged.Judged.{Judged}
use Rattle.c_types.specs.declared.judged.Judged.TheVariants.{Typed, Broken}
use Rattle.c_types.specs.declared.judged.RightValue.{RightValue}
use Rattle.c_types.specs.declared.judged.RightValue.TheVariants as value
use Rattle.c_types.specs.declared.judged.Sort.{Sort}
use Rattle.c_types.specs.declared.judged.Sort.TheVariants.{Of, AnyPointer}
use Rattle.c_types.specs.declared.judged.Value.{Value}
use Rattle.c_types.specs.declared.scope.Nesting.{Nesting}
use Rattle.c_types.specs.declared.scope.Returned.{Returned}
use Rattle.c_types.specs.declared.scope.Returned.TheVariants as returned
use Rattle.c_types.specs.declared.scope.Walk.{Walk}
use Rattle.c_types.specs.declared.scope.Written.{Written}
use Rattle.c_types.specs.declared.scope.Written.TheVariants.{Good, Bad}
use Rattle.c_types.specs.Calls.{walked_call}
use Rattle.c_types.specs.Expressions.{judged}
use Rattle.c_types.specs.Fits.{unless, is_int, misfits, right_for, right_of}
use Rattle.c_types.specs.Judged.{breaks, of_one, joint_faults, checked, or_null, or_null_right}
use Rattle.c_types.specs.Scopes.{declared, noted}

-- right sides

-- Wrong 9: a void call, a `printf` or a `putchar` as a value
abbrev pub call_value : MadeCall → ℕ → Gives → Judged RightValue
call_value c at gives.Nothing = breaks rule.VoidValue at
call_value c at (gives.Result t) = Typed (value.Result c t)
call_value c at (gives.Requested r) = Typed (value.Requested c r)

abbrev pub value_of_call : Called → Judged RightValue
value_of_call c = call_value c.call c.at c.gives

abbrev pub plain_value : Value → Judged RightValue
plain_value v = Typed (value.Plain v)

abbrev pub walked_right : Right → Walk → Walk × Judged RightValue
walked_right (right.Plain a) w = (w, of_one plain_value (judged w.scope a.expr false))
walked_right (right.Call c) w = let r = walked_call c w in (r.0, of_one value_of_call r.1)

-- assignments

abbrev pub is_place_layer : Expr-F Made → Bool
is_place_layer (Var x at) = true
is_place_layer (Field e f at) = true
is_place_layer (Deref e at) = true
is_place_layer (Index e i at) = true
is_place_layer (Const n at) = false
is_place_layer (Null at) = false
is_place_layer (Unary s e at) = false
is_place_layer (Binary o a b at) = false

abbrev pub is_place : Made → Bool
is_place e = is_place_layer (out-Expr e)

abbrev pub is_variable_layer : Expr-F Made → Bool
is_variable_layer (Var x at) = true
is_variable_layer _ = false

abbrev pub is_variable : Made → Bool
is_variable e = is_variable_layer (out-Expr e)

-- Wrong 11: a user's call assigned to something that isn't a variable
abbrev pub loose_target : Bool → ℕ → MadeCall → List Fault
loose_target is_var at (made.User n f args offset) = unless is_var rule.CallTarget at
loose_target is_var at (made.Malloc size offset) = []
loose_target is_var at (made.Getchar offset) = []
loose_target is_var at (made.Putchar e offset) = []
loose_target is_var at (made.Printf text args offset) = []

abbrev pub call_target : Bool → ℕ → RightValue → List Fault
call_target is_var at (value.Plain v) = []
call_target is_var at (value.Result c t) = loose_target is_var at c
call_target is_var at (value.Requested c r) = []

abbrev pub is_plain_int : RightValue → Bool
is_plain_int (value.Plain v) = is_int v.sort
is_plain_int (value.Result c t) = false
is_plain_int (value.Requested c r) = false

-- Wrong 4: `+=`, `-=` and `*=` take `int`
abbrev pub change_faults : Sort → ℕ → RightValue → List Fault
change_faults s at r = unless (if is_int s then is_plain_int r else false) rule.Operands at

-- what `=` asks of both sides; no place has the type of every pointer
abbrev pub put_faults : Value → ℕ → Sort → RightValue → List Fault
put_faults p at (Of t) r = misfits t at r ++ call_target (is_variable p.expr) at r
put_faults p at AnyPointer r = []

abbrev pub assign_faults : Op → Value → ℕ → RightValue → List Fault
assign_faults op.Put p at r = put_faults p at p.sort r
assign_faults op.Add p at r = change_faults p.sort at r
assign_faults op.Sub p at r = change_faults p.sort at r
assign_faults op.Mul p at r = change_faults p.sort at r

abbrev pub right_at : Sort → RightValue → MadeRight
right_at (Of t) r = right_for t r
right_at AnyPointer r = right_of r

-- Wrong 2: the left side isn't a variable, `e->f`, `*p` or `p[e]`
abbrev pub typed_faults : Simple → Value → RightValue → List Fault
typed_faults s p r = unless (is_place p.expr) rule.NoPlace s.place.at ++ assign_faults s.op p s.at r

abbrev pub assigned : Simple → Judged Value → Judged RightValue → Checked MadeSimple
assigned s (Typed p) (Typed r) =
    checked (record { place = p.expr; op = s.op; right = right_at p.sort r; at = s.at }) (typed_faults s p r)
assigned s p r =
    checked (record { place = or_null p; op = s.op; right = or_null_right r; at = s.at }) (joint_faults p r)

-- what a part becomes, with its faults noted
abbrev pub noting : {A : Type 0} → Walk → Checked A → Walk × A
noting w c = (noted c.faults w, c.made)

abbrev pub walked_simple : Simple → Walk → Walk × MadeSimple
walked_simple s w = let r = walked_right s.right w in noting r.0 (assigned s (judged w.scope s.place.expr false) r.1)

-- declarations

abbrev pub initial : Written → ℕ → Judged RightValue → Checked MadeRight
initial t at (Broken fs) = checked (or_null_right (Broken fs)) fs
initial (Good t) at (Typed r) = checked (right_for t r) (misfits t at r)
initial (Bad f) at (Typed r) = checked (right_of r) []

abbrev pub walked_initial : Written → ℕ → Option Right → Walk → Walk × Option MadeRight
walked_initial t at None w = (w, None)
walked_initial t at (Some r) w =
    let v = walked_right r w in let c = noting v.0 (initial t at v.1) in (c.0, Some c.1)

abbrev pub declr_behind : Declr → ℕ → Walk × Written → Walk × MadeDeclr
declr_behind d n v = let r = walked_initial v.1 d.at d.right v.0 in (r.0, record { var = n; right = r.1; at = d.at })

-- a variable is visible in its own initialiser
abbrev pub walked_declr : Nesting → Declr → Walk → Walk × MadeDeclr
walked_declr p d w = declr_behind d (length w.vars) (declared d.spec (home.Local p.function) p.depth w)

-- returns

-- Wrong 9: `return` with or without a value against the result
abbrev pub returned_value : Returned → ℕ → Judged RightValue → Checked MadeRight
returned_value t at (Broken fs) = checked (or_null_right (Broken fs)) fs
returned_value returned.Nothing at (Typed r) = checked (right_of r) (unless false rule.VoidValue at)
returned_value (returned.Value t) at (Typed r) = checked (right_for t r) (misfits t at r)
returned_value (returned.Bad f) at (Typed r) = checked (right_of r) []

abbrev pub bare_return : Returned → ℕ → List Fault
bare_return returned.Nothing at = []
bare_return (returned.Value t) at = unless false rule.VoidValue at
bare_return (returned.Bad f) at = []

abbrev pub walked_return : Returned → ℕ → Option Right → Walk → Walk × MadeItem
walked_return t at None w = (noted (bare_return t at) w, item.Return None at)
walked_return t at (Some r) w =
    let v = walked_right r w in let c = noting v.0 (returned_value t at v.1) in (c.0, item.Return (Some c.1) at)

-- calls as statements

abbrev pub call_item : Judged Called → Checked MadeItem
call_item (Typed c) = checked (item.Do c.call) []
call_item (Broken fs) = checked (item.Declare []) fs

abbrev pub walked_do : Call → Walk → Walk × MadeItem
walked_do c w = let r = walked_call c w in noting r.0 (call_item r.1)
