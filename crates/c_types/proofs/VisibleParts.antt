-- The variables that stand in what a walk makes of expressions, calls and statements are visible there.
use Rattle.std.proofs.Common.{◌≡◌, ℕ, ◌+◌, Bool, true, false, ◌&&◌, List, [], ◌∷◌, ◌++◌, flat_map, slice_get, Option, Some, None, refl, sym, ap, subst, ◌∙◌, nat_eq}
use Rattle.std.specs.Prelude.{pos, replicate, if◌then◌else◌}
use Rattle.std.specs.List.{list_all}
use Rattle.std.specs.Ordering.{int_eq}
use Rattle.std.specs.Set.{is_member}
use Rattle.std.proofs.lemmas.Bool.{and_parts}
use Rattle.c_tree.specs.Scopes.{vars_layer, vars_of, call_vars, right_vars, simple_vars}
use Rattle.c_tree.specs.declared.expr.Expr.{Expr as Made, Expr-F as Made-F, roll-Expr as roll-Made, out-Expr as out-Made, fold-roll-Expr as fold-roll-Made, map-Expr as map-Made}
use Rattle.c_tree.specs.declared.expr.Expr.TheOpen as layer
use Rattle.c_tree.specs.declared.expr.Expr.TheVariants as expr
use Rattle.c_tree.specs.declared.expr.Oper.{Oper}
use Rattle.c_tree.specs.declared.expr.Oper.TheVariants as oper
use Rattle.c_tree.specs.declared.expr.Sign.{Sign}
use Rattle.c_tree.specs.declared.expr.Sign.TheVariants as sign
use Rattle.c_tree.specs.declared.program.Call.{Call as MadeCall}
use Rattle.c_tree.specs.declared.program.Right.TheVariants as made_right
use Rattle.c_tree.specs.declared.program.Size.TheVariants as size
use Rattle.c_tree.specs.declared.program.Ty.{Ty}
use Rattle.c_tree.specs.declared.program.Ty.TheVariants as ty
use Rattle.c_tree.specs.declared.tree.Arg.{Arg}
use Rattle.c_tree.specs.declared.tree.Base.{Base}
use Rattle.c_tree.specs.declared.tree.Base.TheVariants as base
use Rattle.c_tree.specs.declared.tree.Call.{Call}
use Rattle.c_tree.specs.declared.tree.Call.TheVariants as call
use Rattle.c_tree.specs.declared.tree.Expr.{Expr, Expr-F, roll-Expr, fold-roll-Expr, map-Expr, ind-Expr}
use Rattle.c_tree.specs.declared.tree.Expr.TheOpen.{Const, Null, Var, Field, Deref, Index, Unary, Binary}
use Rattle.c_tree.specs.declared.tree.Right.{Right}
use Rattle.c_tree.specs.declared.tree.Right.TheVariants as right
use Rattle.c_tree.specs.declared.tree.Simple.{Simple}
use Rattle.c_tree.specs.declared.tree.Size.{Size}
use Rattle.c_tree.specs.declared.tree.Spec.{Spec}
use Rattle.c_tree.specs.declared.tree.Unit.{Unit as MeasuredUnit}
use Rattle.c_tree.specs.declared.tree.Unit.TheVariants as unit
use Rattle.c_tree.specs.declared.tree.Word.{Word}
use Rattle.c_types.specs.declared.faults.Fault.{Fault}
use Rattle.c_types.specs.declared.faults.Rule.{Rule}
use Rattle.c_types.specs.declared.faults.Rule.TheVariants as rule
use Rattle.c_types.specs.declared.judged.Called.{Called}
use Rattle.c_types.specs.declared.judged.Callee.{Callee}
use Rattle.c_types.specs.declared.judged.Callee.TheVariants as callee
use Rattle.c_types.specs.declared.judged.Gives.{Gives}
use Rattle.c_types.specs.declared.judged.Gives.TheVariants as gives
use Rattle.c_types.specs.declared.judged.Judged.{Judged}
use Rattle.c_types.specs.declared.judged.Judged.TheVariants.{Typed, Broken}
use Rattle.c_types.specs.declared.judged.Measured.{Measured}
use Rattle.c_types.specs.declared.judged.Measured.TheVariants as measured
use Rattle.c_types.specs.declared.judged.RightValue.{RightValue}
use Rattle.c_types.specs.declared.judged.RightValue.TheVariants as value
use Rattle.c_types.specs.declared.judged.Sort.{Sort}
use Rattle.c_types.specs.declared.judged.Sort.TheVariants.{Of, AnyPointer}
use Rattle.c_types.specs.declared.judged.Value.{Value}
use Rattle.c_types.specs.declared.scope.Entry.{Entry}
use Rattle.c_types.specs.declared.scope.Meaning.{Meaning}
use Rattle.c_types.specs.declared.scope.Meaning.TheVariants as meaning
use Rattle.c_types.specs.declared.scope.Returned.{Returned}
use Rattle.c_types.specs.declared.scope.Returned.TheVariants as returned
use Rattle.c_types.specs.declared.scope.Scope.{Scope}
use Rattle.c_types.specs.declared.scope.Signature.{Signature}
use Rattle.c_types.specs.declared.scope.StructRow.{StructRow}
use Rattle.c_types.specs.declared.scope.Walk.{Walk}
use Rattle.c_types.specs.declared.scope.Written.{Written}
use Rattle.c_types.specs.declared.scope.Written.TheVariants.{Good, Bad}
use Rattle.c_types.specs.Calls.{argument_by, argument, arguments_from, callee_of, user_declared, user_by, user_call, counted, request_one, request_many, request_of, behind, cast_of, unit_measured, request, requested, directives, printed_by, walked_call}
use Rattle.c_types.specs.Expressions.{variable_as, variable_by, field_by, field_in, field_of_row, field_at, field, deref, index, points_to_int, signed, computed, compared, joined, combined, under_sign, under_oper, of_int, judged_layer, judged}
use Rattle.c_types.specs.Fits.{points, is_int, is_comparable, pointer_layer, as_pointer, converted, beside, right_for, right_of}
use Rattle.c_types.specs.Judged.{breaks, of_one, of_two, unless_broken, or_null, or_null_right}
use Rattle.c_types.specs.Scopes.{tagged_by, based}
use Rattle.c_types.specs.Statements.{call_value, value_of_call, plain_value, walked_right, right_at, assigned, initial, returned_value}
use Rattle.c_types.specs.Tables.{found, place_of}

-- these variables are among the visible ones
abbrev pub shown : List ℕ → List ℕ → Bool
shown seen xs = list_all (is_member nat_eq seen) xs

-- each variable that a name stands for is visible
abbrev pub Covers : Scope → List ℕ → Type 0
Covers s seen = (n : List ℕ) (e : Entry) (k : ℕ) (t : Ty) → found s.names n ≡ Some e → e.meaning ≡ meaning.Variable k t → is_member nat_eq seen k ≡ true

pub shown_both : (seen xs ys : List ℕ) → shown seen xs ≡ true → shown seen ys ≡ true → shown seen (xs ++ ys) ≡ true
shown_both seen [] ys h g = g
shown_both seen (x ∷ xs) ys h g =
    let parts = and_parts (is_member nat_eq seen x) (shown seen xs) h in
    ap (λ (b : Bool). b && shown seen (xs ++ ys)) parts.0 ∙ shown_both seen xs ys parts.1 g

-- expressions, one level opened

made_opened : (x : Made-F Made) (e : Made) → roll-Made x ≡ e → vars_of e ≡ vars_layer (map-Made Made (List ℕ) vars_of x)
made_opened x e is = ap vars_of (sym is) ∙ fold-roll-Made (List ℕ) vars_layer x

-- a value, or a call, whose variables are visible

abbrev pub Shows : List ℕ → Judged Value → Type 0
Shows seen (Typed v) = shown seen (vars_of v.expr) ≡ true
Shows seen (Broken fs) = Unit {0}

abbrev pub CallShows : List ℕ → Judged Called → Type 0
CallShows seen (Typed c) = shown seen (call_vars c.call) ≡ true
CallShows seen (Broken fs) = Unit {0}

abbrev pub RightShows : List ℕ → Judged RightValue → Type 0
RightShows seen (Typed (value.Plain v)) = shown seen (vars_of v.expr) ≡ true
RightShows seen (Typed (value.Result c t)) = shown seen (call_vars c) ≡ true
RightShows seen (Typed (value.Requested c r)) = shown seen (call_vars c) ≡ true
RightShows seen (Broken fs) = Unit {0}

module _ (seen : List ℕ) where
  -- where a pointer is wanted

  null_shown : (at : ℕ) → shown seen (vars_of (expr.Null at)) ≡ true
  null_shown at = ap (shown seen) (made_opened (layer.Null at) (expr.Null at) (expr.rolls-Null at))

  pointer_shown : (e : Made) (l : Made-F Made) → shown seen (vars_of e) ≡ true → shown seen (vars_of (pointer_layer e l)) ≡ true
  pointer_shown e (layer.Const n at) h = by_zero (int_eq n (pos 0))
    where
      by_zero : (b : Bool) → shown seen (vars_of (if b then expr.Null at else e)) ≡ true
      by_zero true = null_shown at
      by_zero false = h
  pointer_shown e (layer.Null at) h = h
  pointer_shown e (layer.Var x at) h = h
  pointer_shown e (layer.Field d f at) h = h
  pointer_shown e (layer.Deref d at) h = h
  pointer_shown e (layer.Index d i at) h = h
  pointer_shown e (layer.Unary g d at) h = h
  pointer_shown e (layer.Binary o d f at) h = h

  as_pointer_shown : (e : Made) → shown seen (vars_of e) ≡ true → shown seen (vars_of (as_pointer e)) ≡ true
  as_pointer_shown e = pointer_shown e (out-Made e)

  converted_shown : (t : Ty) (e : Made) → shown seen (vars_of e) ≡ true → shown seen (vars_of (converted t e)) ≡ true
  converted_shown ty.Int e h = h
  converted_shown ty.IntPtr e h = as_pointer_shown e h
  converted_shown (ty.StructPtr n) e h = as_pointer_shown e h

  beside_shown : (v : Value) (g : Sort) → shown seen (vars_of v.expr) ≡ true → shown seen (vars_of (beside v g)) ≡ true
  beside_shown v g h = by_pointer (points g)
    where
      by_pointer : (b : Bool) → shown seen (vars_of (if b then as_pointer v.expr else v.expr)) ≡ true
      by_pointer true = as_pointer_shown v.expr h
      by_pointer false = h

module _ (s : Scope) (seen : List ℕ) (covers : Covers s seen) where
  variable_shows : (w : Word) (o : Option Entry) → found s.names w.text ≡ o → Shows seen (variable_by w o)
  variable_shows w None is = tt
  variable_shows w (Some e) is = by_meaning e.meaning refl
    where
      by_meaning : (m : Meaning) → e.meaning ≡ m → Shows seen (variable_as w m)
      by_meaning (meaning.Variable k t) means =
          ap (shown seen) (made_opened (layer.Var k w.at) (expr.Var k w.at) (expr.rolls-Var k w.at)) ∙ ap (λ (b : Bool). b && true) (covers w.text e k t is means)
      by_meaning (meaning.Alias n) means = tt
      by_meaning (meaning.Function f) means = tt
      by_meaning (meaning.Bad f) means = tt

  field_shows : (w : Word) (at : ℕ) (v : Value) → shown seen (vars_of v.expr) ≡ true → Shows seen (field s w at v)
  field_shows w at v h = by_sort v.sort
    where
      by_field : (o : Option ℕ) (p : Option Written) → Shows seen (field_by v.expr w at o p)
      by_field (Some k) (Some (Good t)) = ap (shown seen) (made_opened (layer.Field v.expr k at) (expr.Field v.expr k at) (expr.rolls-Field v.expr k at)) ∙ h
      by_field (Some k) (Some (Bad f)) = tt
      by_field (Some k) None = tt
      by_field None p = tt

      by_body : (row : StructRow) (o : Option ℕ) → Shows seen (field_in v.expr w at row o)
      by_body row None = tt
      by_body row (Some b) = by_field (place_of row.fields w.text) (found row.fields w.text)

      by_row : (o : Option StructRow) → Shows seen (field_of_row v.expr w at o)
      by_row None = tt
      by_row (Some row) = by_body row row.body

      by_sort : (g : Sort) → Shows seen (field_at s w at v.expr g)
      by_sort (Of (ty.StructPtr n)) = by_row (slice_get s.structs n)
      by_sort (Of ty.Int) = tt
      by_sort (Of ty.IntPtr) = tt
      by_sort AnyPointer = tt

  -- a test that something stands for what is asked
  if_shows : (b : Bool) (j : Judged Value) (r : Rule) (at : ℕ) → Shows seen j → Shows seen (if b then j else breaks r at)
  if_shows true j r at h = h
  if_shows false j r at h = tt

  deref_shows : (at : ℕ) (v : Value) → shown seen (vars_of v.expr) ≡ true → Shows seen (deref at v)
  deref_shows at v h =
      if_shows (points_to_int v.sort) (of_int (expr.Deref v.expr at)) rule.Operands at
      (ap (shown seen) (made_opened (layer.Deref v.expr at) (expr.Deref v.expr at) (expr.rolls-Deref v.expr at)) ∙ h)

  index_shows : (at : ℕ) (v i : Value) → shown seen (vars_of v.expr) ≡ true → shown seen (vars_of i.expr) ≡ true → Shows seen (index at v i)
  index_shows at v i h g =
      if_shows (points_to_int v.sort) (if is_int i.sort then of_int (expr.Index v.expr i.expr at) else breaks rule.Operands at) rule.Operands at
      (if_shows (is_int i.sort) (of_int (expr.Index v.expr i.expr at)) rule.Operands at
      (ap (shown seen) (made_opened (layer.Index v.expr i.expr at) (expr.Index v.expr i.expr at) (expr.rolls-Index v.expr i.expr at)) ∙ shown_both seen (vars_of v.expr) (vars_of i.expr) h g))

  unary_shows : (g : Sign) (at : ℕ) (e : Made) → shown seen (vars_of e) ≡ true → Shows seen (of_int (expr.Unary g e at))
  unary_shows g at e h = ap (shown seen) (made_opened (layer.Unary g e at) (expr.Unary g e at) (expr.rolls-Unary g e at)) ∙ h

  signed_shows : (g : Sign) (at : ℕ) (v : Value) → shown seen (vars_of v.expr) ≡ true → Shows seen (signed g at v)
  signed_shows sign.Minus at v h = if_shows (is_int v.sort) (of_int (expr.Unary sign.Minus v.expr at)) rule.Operands at (unary_shows sign.Minus at v.expr h)
  signed_shows sign.Not at v h = unary_shows sign.Not at v.expr h

  binary_shows : (o : Oper) (at : ℕ) (d e : Made) → shown seen (vars_of d) ≡ true → shown seen (vars_of e) ≡ true → Shows seen (of_int (expr.Binary o d e at))
  binary_shows o at d e h g =
      ap (shown seen) (made_opened (layer.Binary o d e at) (expr.Binary o d e at) (expr.rolls-Binary o d e at)) ∙ shown_both seen (vars_of d) (vars_of e) h g

  computed_shows : (o : Oper) (at : ℕ) (v u : Value) → shown seen (vars_of v.expr) ≡ true → shown seen (vars_of u.expr) ≡ true → Shows seen (computed o at v u)
  computed_shows o at v u h g =
      if_shows (is_int v.sort) (if is_int u.sort then of_int (expr.Binary o v.expr u.expr at) else breaks rule.Operands at) rule.Operands at
      (if_shows (is_int u.sort) (of_int (expr.Binary o v.expr u.expr at)) rule.Operands at (binary_shows o at v.expr u.expr h g))

  compared_shows : (o : Oper) (at : ℕ) (v u : Value) → shown seen (vars_of v.expr) ≡ true → shown seen (vars_of u.expr) ≡ true → Shows seen (compared o at v u)
  compared_shows o at v u h g =
      if_shows (is_comparable v u) (of_int (expr.Binary o (beside v u.sort) (beside u v.sort) at)) rule.Operands at
      (binary_shows o at (beside v u.sort) (beside u v.sort) (beside_shown seen v u.sort h) (beside_shown seen u v.sort g))

  joined_shows : (o : Oper) (at : ℕ) (is_test : Bool) (v u : Value) → shown seen (vars_of v.expr) ≡ true → shown seen (vars_of u.expr) ≡ true → Shows seen (joined o at is_test v u)
  joined_shows o at is_test v u h g = if_shows is_test (of_int (expr.Binary o v.expr u.expr at)) rule.LooseLogic at (binary_shows o at v.expr u.expr h g)

  combined_shows : (o : Oper) (at : ℕ) (is_test : Bool) (v u : Value) → shown seen (vars_of v.expr) ≡ true → shown seen (vars_of u.expr) ≡ true → Shows seen (combined o at is_test v u)
  combined_shows oper.And at is_test v u h g = joined_shows oper.And at is_test v u h g
  combined_shows oper.Or at is_test v u h g = joined_shows oper.Or at is_test v u h g
  combined_shows oper.Eq at is_test v u h g = compared_shows oper.Eq at v u h g
  combined_shows oper.Ne at is_test v u h g = compared_shows oper.Ne at v u h g
  combined_shows oper.Mul at is_test v u h g = computed_shows oper.Mul at v u h g
  combined_shows oper.Div at is_test v u h g = computed_shows oper.Div at v u h g
  combined_shows oper.Rem at is_test v u h g = computed_shows oper.Rem at v u h g
  combined_shows oper.Add at is_test v u h g = computed_shows oper.Add at v u h g
  combined_shows oper.Sub at is_test v u h g = computed_shows oper.Sub at v u h g
  combined_shows oper.Lt at is_test v u h g = computed_shows oper.Lt at v u h g
  combined_shows oper.Le at is_test v u h g = computed_shows oper.Le at v u h g
  combined_shows oper.Gt at is_test v u h g = computed_shows oper.Gt at v u h g
  combined_shows oper.Ge at is_test v u h g = computed_shows oper.Ge at v u h g

  one_shows : (f : Value → Judged Value) → ((v : Value) → shown seen (vars_of v.expr) ≡ true → Shows seen (f v)) → (j : Judged Value) → Shows seen j → Shows seen (of_one f j)
  one_shows f each_shows (Typed v) h = each_shows v h
  one_shows f each_shows (Broken fs) h = tt

  two_show : (f : Value → Value → Judged Value) → ((v u : Value) → shown seen (vars_of v.expr) ≡ true → shown seen (vars_of u.expr) ≡ true → Shows seen (f v u)) → (i j : Judged Value) → Shows seen i → Shows seen j → Shows seen (of_two f i j)
  two_show f each_shows (Typed v) (Typed u) h g = each_shows v u h g
  two_show f each_shows (Typed v) (Broken gs) h g = tt
  two_show f each_shows (Broken fs) (Typed u) h g = tt
  two_show f each_shows (Broken fs) (Broken gs) h g = tt

  abbrev Judges : Expr → Type 0
  Judges e = (is_test : Bool) → Shows seen (judged s e is_test)

  judge_layer : (y : Expr-F ((e : Expr) × Judges e)) (is_test : Bool) → Shows seen (judged_layer s (map-Expr Expr (Bool → Judged Value) (judged s) (map-Expr ((e : Expr) × Judges e) Expr (λ z. z.0) y)) is_test)
  judge_layer (Const n at) is_test = ap (shown seen) (made_opened (layer.Const n at) (expr.Const n at) (expr.rolls-Const n at))
  judge_layer (Null at) is_test = null_shown seen at
  judge_layer (Var w) is_test = variable_shows w (found s.names w.text) refl
  judge_layer (Field e w at) is_test = one_shows (field s w at) (field_shows w at) (judged s e.0 false) (e.1 false)
  judge_layer (Deref e at) is_test = one_shows (deref at) (deref_shows at) (judged s e.0 false) (e.1 false)
  judge_layer (Index e i at) is_test = two_show (index at) (index_shows at) (judged s e.0 false) (judged s i.0 false) (e.1 false) (i.1 false)
  judge_layer (Unary g e at) is_test = one_shows (signed g at) (signed_shows g at) (judged s e.0 (under_sign g is_test)) (e.1 (under_sign g is_test))
  judge_layer (Binary o a b at) is_test =
      two_show (combined o at is_test) (combined_shows o at is_test) (judged s a.0 (under_oper o is_test)) (judged s b.0 (under_oper o is_test)) (a.1 (under_oper o is_test)) (b.1 (under_oper o is_test))

  judge_step : (x : Expr-F Expr) (y : Expr-F ((e : Expr) × Judges e)) → map-Expr ((e : Expr) × Judges e) Expr (λ z. z.0) y ≡ x → Judges (roll-Expr x)
  judge_step x y is is_test =
      subst (λ (f : Bool → Judged Value). Shows seen (f is_test)) (sym (fold-roll-Expr (Bool → Judged Value) (judged_layer s) x))
      (subst (λ (z : Expr-F Expr). Shows seen (judged_layer s (map-Expr Expr (Bool → Judged Value) (judged s) z) is_test)) is (judge_layer y is_test))

  -- the variables of an expression with a type are visible
  pub judged_shows : (e : Expr) (is_test : Bool) → Shows seen (judged s e is_test)
  judged_shows = ind-Expr Judges judge_step

  null_or_shown : (j : Judged Value) → Shows seen j → shown seen (vars_of (or_null j)) ≡ true
  null_or_shown (Typed v) h = h
  null_or_shown (Broken fs) h = null_shown seen 0

  -- and of what stands for one without
  pub judged_shown : (e : Expr) (is_test : Bool) → shown seen (vars_of (or_null (judged s e is_test))) ≡ true
  judged_shown e is_test = null_or_shown (judged s e is_test) (judged_shows e is_test)

  -- arguments

  argument_by_shown : (o : Option Ty) (at : ℕ) (j : Judged Value) → Shows seen j → shown seen (vars_of (argument_by o at j).made) ≡ true
  argument_by_shown o at (Broken fs) h = null_shown seen 0
  argument_by_shown None at (Typed v) h = h
  argument_by_shown (Some t) at (Typed v) h = converted_shown seen t v.expr h

  argument_shown : (o : Option Ty) (a : Arg) → shown seen (vars_of (argument s o a).made) ≡ true
  argument_shown o a = argument_by_shown o a.at (judged s a.expr false) (judged_shows a.expr false)

  arguments_shown : (ts : List Ty) (k : ℕ) (args : List Arg) → shown seen (flat_map vars_of (arguments_from s ts k args).made) ≡ true
  arguments_shown ts k [] = refl
  arguments_shown ts k (a ∷ args) =
      shown_both seen (vars_of (argument s (slice_get ts k) a).made) (flat_map vars_of (arguments_from s ts (k + 1) args).made) (argument_shown (slice_get ts k) a) (arguments_shown ts (k + 1) args)

  -- calls

  unless_shows : (c : Called) (fs : List Fault) → shown seen (call_vars c.call) ≡ true → CallShows seen (unless_broken c fs)
  unless_shows c [] h = h
  unless_shows c (f ∷ fs) h = tt

  request_one_shows : (cast : Option Ty) (at : ℕ) (u : Judged Measured) → CallShows seen (of_one (request_one cast at) u)
  request_one_shows cast at (Typed measured.Int) = refl
  request_one_shows cast at (Typed (measured.Struct n)) = refl
  request_one_shows cast at (Broken fs) = tt

  many_shows : (cast : Option Ty) (at : ℕ) (m : Measured) (v : Value) → shown seen (vars_of v.expr) ≡ true → CallShows seen (request_many cast at m v)
  many_shows cast at (measured.Struct n) v h = tt
  many_shows cast at measured.Int v h = by_int (is_int v.sort)
    where
      by_int : (b : Bool) → CallShows seen (if b then request (size.Ints (Some v.expr)) ty.IntPtr cast at else breaks rule.Request at)
      by_int true = h
      by_int false = tt

  request_many_shows : (cast : Option Ty) (at : ℕ) (u : Judged Measured) (j : Judged Value) → Shows seen j → CallShows seen (of_two (request_many cast at) u j)
  request_many_shows cast at (Typed m) (Typed v) h = many_shows cast at m v h
  request_many_shows cast at (Typed m) (Broken gs) h = tt
  request_many_shows cast at (Broken fs) (Typed v) h = tt
  request_many_shows cast at (Broken fs) (Broken gs) h = tt

  request_shows : (cast : Option Ty) (at : ℕ) (u : Judged Measured) (o : Option Expr) → CallShows seen (request_of s cast at u o)
  request_shows cast at u None = request_one_shows cast at u
  request_shows cast at u (Some e) = request_many_shows cast at u (judged s e false) (judged_shows e false)

  pub behind_shows : (fs : List Fault) (j : Judged Called) → CallShows seen j → CallShows seen (behind fs j)
  behind_shows [] j h = h
  behind_shows (f ∷ fs) j h = tt

  printed_shows : (text : List ℕ) (text_at : ℕ) (args : List Arg) (at close : ℕ) (o : Option ℕ) → CallShows seen (printed_by s text text_at args at close o)
  printed_shows text text_at args at close None = tt
  printed_shows text text_at args at close (Some n) = unless_shows _ _ (arguments_shown (replicate n ty.Int) 0 args)

-- what changes in a scope at a call are tags, not names

pub tagged_names : (n : Word) (s : Scope) (o : Option ℕ) → (tagged_by n s o).0.names ≡ s.names
tagged_names n s None = refl
tagged_names n s (Some k) = refl

pub based_names : (b : Base) (s : Scope) → (based b s).0.names ≡ s.names
based_names base.Void s = refl
based_names base.Int s = refl
based_names (base.Tag n) s = tagged_names n s (found s.tags n.text)
based_names (base.Alias n) s = refl

cast_names : (cast : Option Spec) (s : Scope) → (cast_of cast s).0.names ≡ s.names
cast_names None s = refl
cast_names (Some d) s = based_names d.base s

unit_names : (u : MeasuredUnit) (at : ℕ) (s : Scope) → (unit_measured u at s).0.names ≡ s.names
unit_names (unit.Of d) at s = based_names d.base s
unit_names (unit.Star x) at s = refl

pub covers_on : (s r : Scope) (seen : List ℕ) → r.names ≡ s.names → Covers s seen → Covers r seen
covers_on s r seen same covers n e k t is = covers n e k t (ap (λ (xs : List (List ℕ × Entry)). found xs n) (sym same) ∙ is)

requested_shows : (cast : Option Spec) (z : Size) (at : ℕ) (s : Scope) (seen : List ℕ) → Covers s seen → CallShows seen (requested cast z at s).1
requested_shows cast z at s seen covers =
    let c = cast_of cast s in
    let u = unit_measured z.unit z.at c.0 in
    let here : Covers u.0 seen = covers_on s u.0 seen (unit_names z.unit z.at c.0 ∙ cast_names cast s) covers in
    behind_shows u.0 seen here c.1.faults (request_of u.0 c.1.made at u.1 z.count) (request_shows u.0 seen here c.1.made at u.1 z.count)

requested_names : (cast : Option Spec) (z : Size) (at : ℕ) (s : Scope) → (requested cast z at s).0.names ≡ s.names
requested_names cast z at s = unit_names z.unit z.at (cast_of cast s).0 ∙ cast_names cast s

module _ (w : Walk) (seen : List ℕ) (covers : Covers w.scope seen) where
  declared_shows : (n : Word) (f : ℕ) (args : List Arg) (close : ℕ) (o : Option Signature) → CallShows seen (user_declared w n f args close o)
  declared_shows n f args close None = tt
  declared_shows n f args close (Some g) = unless_shows w.scope seen covers _ _ (arguments_shown w.scope seen covers g.params 0 args)

  callee_shows : (n : Word) (args : List Arg) (close : ℕ) (c : Callee) → CallShows seen (user_by w n args close c)
  callee_shows n args close (callee.Refused f) = tt
  callee_shows n args close (callee.Defined f k) = declared_shows n f args close (slice_get w.signatures k)

  pub call_shows : (c : Call) → CallShows seen (walked_call c w).1
  call_shows (call.User n args close) = callee_shows n args close (callee_of w n)
  call_shows (call.Malloc cast z at) = requested_shows cast z at w.scope seen covers
  call_shows (call.Getchar at) = refl
  call_shows (call.Putchar a at) = unless_shows w.scope seen covers _ _ (argument_shown w.scope seen covers (Some ty.Int) a)
  call_shows (call.Printf text text_at args at close) = printed_shows w.scope seen covers text text_at args at close (directives text)

  -- right sides

  plain_shows : (j : Judged Value) → Shows seen j → RightShows seen (of_one plain_value j)
  plain_shows (Typed v) h = h
  plain_shows (Broken fs) h = tt

  answer_shows : (c : MadeCall) (at : ℕ) (g : Gives) → shown seen (call_vars c) ≡ true → RightShows seen (call_value c at g)
  answer_shows c at gives.Nothing h = tt
  answer_shows c at (gives.Result t) h = h
  answer_shows c at (gives.Requested r) h = h

  value_shows : (j : Judged Called) → CallShows seen j → RightShows seen (of_one value_of_call j)
  value_shows (Typed c) h = answer_shows c.call c.at c.gives h
  value_shows (Broken fs) h = tt

  pub right_shows : (r : Right) → RightShows seen (walked_right r w).1
  right_shows (right.Plain a) = plain_shows (judged w.scope a.expr false) (judged_shows w.scope seen covers a.expr false)
  right_shows (right.Call c) = value_shows (walked_call c w).1 (call_shows c)

counted_names : (j : Judged Called) (w : Walk) → (counted j w).scope.names ≡ w.scope.names
counted_names (Typed c) w = refl
counted_names (Broken fs) w = refl

pub call_names : (c : Call) (w : Walk) → (walked_call c w).0.scope.names ≡ w.scope.names
call_names (call.User n args close) w = counted_names (user_call w n args close) w
call_names (call.Malloc cast z at) w = requested_names cast z at w.scope
call_names (call.Getchar at) w = refl
call_names (call.Putchar a at) w = refl
call_names (call.Printf text text_at args at close) w = refl

pub right_names : (r : Right) (w : Walk) → (walked_right r w).0.scope.names ≡ w.scope.names
right_names (right.Plain a) w = refl
right_names (right.Call c) w = call_names c w

-- what is made of right sides

module _ (seen : List ℕ) where
  no_variable : (at : ℕ) → shown seen (right_vars (made_right.Plain (expr.Null at))) ≡ true
  no_variable at = ap (shown seen) (made_opened (layer.Null at) (expr.Null at) (expr.rolls-Null at))

  null_right_shown : (j : Judged RightValue) → RightShows seen j → shown seen (right_vars (or_null_right j)) ≡ true
  null_right_shown (Typed (value.Plain v)) h = h
  null_right_shown (Typed (value.Result c t)) h = h
  null_right_shown (Typed (value.Requested c r)) h = h
  null_right_shown (Broken fs) h = no_variable 0

  of_shown : (r : RightValue) → RightShows seen (Typed r) → shown seen (right_vars (right_of r)) ≡ true
  of_shown (value.Plain v) h = h
  of_shown (value.Result c t) h = h
  of_shown (value.Requested c r) h = h

  for_shown : (t : Ty) (r : RightValue) → RightShows seen (Typed r) → shown seen (right_vars (right_for t r)) ≡ true
  for_shown t (value.Plain v) h = converted_shown seen t v.expr h
  for_shown t (value.Result c u) h = h
  for_shown t (value.Requested c r) h = h

  at_shown : (g : Sort) (r : RightValue) → RightShows seen (Typed r) → shown seen (right_vars (right_at g r)) ≡ true
  at_shown (Of t) r h = for_shown t r h
  at_shown AnyPointer r h = of_shown r h

  pub assigned_shown : (m : Simple) (p : Judged Value) (r : Judged RightValue) → Shows seen p → RightShows seen r → shown seen (simple_vars (assigned m p r).made) ≡ true
  assigned_shown m (Typed p) (Typed r) h g = shown_both seen (vars_of p.expr) (right_vars (right_at p.sort r)) h (at_shown p.sort r g)
  assigned_shown m (Typed p) (Broken fs) h g = shown_both seen (vars_of p.expr) (right_vars (or_null_right (Broken fs))) h (no_variable 0)
  assigned_shown m (Broken fs) (Typed r) h g = shown_both seen (vars_of (expr.Null 0)) (right_vars (or_null_right (Typed r))) (no_variable 0) (null_right_shown (Typed r) g)
  assigned_shown m (Broken fs) (Broken gs) h g = shown_both seen (vars_of (expr.Null 0)) (right_vars (or_null_right (Broken gs))) (no_variable 0) (no_variable 0)

  pub initial_shown : (t : Written) (at : ℕ) (j : Judged RightValue) → RightShows seen j → shown seen (right_vars (initial t at j).made) ≡ true
  initial_shown t at (Broken fs) h = no_variable 0
  initial_shown (Good t) at (Typed r) h = for_shown t r h
  initial_shown (Bad f) at (Typed r) h = of_shown r h

  pub returned_shown : (t : Returned) (at : ℕ) (j : Judged RightValue) → RightShows seen j → shown seen (right_vars (returned_value t at j).made) ≡ true
  returned_shown t at (Broken fs) h = no_variable 0
  returned_shown returned.Nothing at (Typed r) h = of_shown r h
  returned_shown (returned.Value t) at (Typed r) h = for_shown t r h
  returned_shown (returned.Bad f) at (Typed r) h = of_shown r h
