-- A right side, an assignment, an initialiser or a returned value that breaks no rule in the walk through a text fits in the program.
use Rattle.std.proofs.Common.{◌≡◌, ℕ, Bool, true, false, ◌&&◌, [], ◌++◌, Option, Some, None, option_map, refl, sym, ap, subst, ◌∙◌}
use Rattle.std.specs.Prelude.{slice_get, if◌then◌else◌}
use Rattle.std.specs.Option.{option_and_then}
use Rattle.std.proofs.lemmas.Bool.{and_parts}
use Rattle.c_tree.specs.AlikeTest.{same_ty}
use Rattle.c_tree.specs.Typing.{Declarations, has, is_int as is_made_int, var_type, field_type, member, pointee, element, valued, Sort as MadeSort, Of as MadeOf, AnyPointer as MadeAny, Judged as MadeJudged, judged as made_judged, sort_of, gives_int, call_fits, call_type, is_place as made_place, is_variable as made_variable, place_takes, right_fits, value_fits, change_fits, assigned_fits, type_of, simple_fits, return_fits}
use Rattle.c_tree.specs.declared.expr.Expr.{Expr as Made, Expr-F as Made-F, out-Expr, roll-Expr as roll-Made, roll-out-Expr}
use Rattle.c_tree.specs.declared.expr.Expr.TheOpen as made
use Rattle.c_tree.specs.declared.expr.Op.{Op}
use Rattle.c_tree.specs.declared.expr.Op.TheVariants as op
use Rattle.c_tree.specs.declared.program.Call.{Call as MadeCall}
use Rattle.c_tree.specs.declared.program.Call.TheVariants as made_call
use Rattle.c_tree.specs.declared.program.Right.{Right as MadeRight}
use Rattle.c_tree.specs.declared.program.Right.TheVariants as made_right
use Rattle.c_tree.specs.declared.program.Simple.{Simple as MadeSimple}
use Rattle.c_tree.specs.declared.program.Ty.{Ty}
use Rattle.c_tree.specs.declared.program.Ty.TheVariants as ty
use Rattle.c_tree.specs.declared.tree.Right.{Right}
use Rattle.c_tree.specs.declared.tree.Right.TheVariants as right
use Rattle.c_tree.specs.declared.tree.Simple.{Simple}
use Rattle.c_tree.specs.declared.tree.Word.{Word}
use Rattle.c_types.specs.declared.faults.Rule.TheVariants as rule
use Rattle.c_types.specs.declared.judged.Called.{Called}
use Rattle.c_types.specs.declared.judged.Callee.TheVariants as callee
use Rattle.c_types.specs.declared.judged.Gives.{Gives}
use Rattle.c_types.specs.declared.judged.Gives.TheVariants as gives
use Rattle.c_types.specs.declared.judged.Judged.{Judged}
use Rattle.c_types.specs.declared.judged.Judged.TheVariants.{Typed, Broken}
use Rattle.c_types.specs.declared.judged.RightValue.{RightValue}
use Rattle.c_types.specs.declared.judged.RightValue.TheVariants as value
use Rattle.c_types.specs.declared.judged.Sort.{Sort}
use Rattle.c_types.specs.declared.judged.Sort.TheVariants.{Of, AnyPointer}
use Rattle.c_types.specs.declared.judged.Value.{Value}
use Rattle.c_types.specs.declared.scope.Returned.{Returned}
use Rattle.c_types.specs.declared.scope.Returned.TheVariants as returned
use Rattle.c_types.specs.declared.scope.Signature.{Signature}
use Rattle.c_types.specs.declared.scope.Walk.{Walk}
use Rattle.c_types.specs.declared.scope.Written.TheVariants.{Good}
use Rattle.c_types.specs.Calls.{callee_of, walked_call}
use Rattle.c_types.specs.Expressions.{judged}
use Rattle.c_types.specs.Fits.{unless, fits, is_int, cast_fits, request_fits, misfits, right_for}
use Rattle.c_types.specs.Functions.{result_or_none}
use Rattle.c_types.specs.Judged.{of_one}
use Rattle.c_types.specs.Offsets.{right_stands}
use Rattle.c_types.specs.Statements.{call_value, value_of_call, plain_value, walked_right, is_place_layer, is_place, is_variable_layer, is_variable, loose_target, call_target, is_plain_int, change_faults, put_faults, assign_faults, right_at, assigned, initial, returned_value, bare_return}
use Rattle.c_types.proofs.Headings.{clean_unless}
use Rattle.c_types.proofs.Numbering.{first_empty}
use Rattle.c_types.proofs.NumberingCalls.{second_empty}
use Rattle.c_types.proofs.TypedExpressions.{made_sort, Stands, IsRight, AllRight, opens, expr_right}
use Rattle.c_types.proofs.TypedCalls.{IsCallee, value_goes, CallRight, AllCall, call_right}

-- a result whose type broke no rule
abbrev pub IsGood : Returned → Type 0
IsGood returned.Nothing = Unit {0}
IsGood (returned.Value t) = Unit {0}
IsGood (returned.Bad f) = ⊥

-- places

places_agree : (x : Made-F Made) → is_place_layer x ≡ true → made_place x ≡ true
places_agree (made.Var x at) h = refl
places_agree (made.Field e f at) h = refl
places_agree (made.Deref e at) h = refl
places_agree (made.Index e i at) h = refl
places_agree (made.Const n at) h = absurd cc
places_agree (made.Null at) h = absurd cc
places_agree (made.Unary s e at) h = absurd cc
places_agree (made.Binary o a b at) h = absurd cc

variables_agree : (x : Made-F Made) → is_variable_layer x ≡ true → made_variable x ≡ true
variables_agree (made.Var x at) h = refl
variables_agree (made.Field e f at) h = absurd cc
variables_agree (made.Deref e at) h = absurd cc
variables_agree (made.Index e i at) h = absurd cc
variables_agree (made.Const n at) h = absurd cc
variables_agree (made.Null at) h = absurd cc
variables_agree (made.Unary s e at) h = absurd cc
variables_agree (made.Binary o a b at) h = absurd cc

module _ (d : Declarations) where
  -- no place has the type of every pointer

  no_pointee : (o : Option MadeSort) → option_and_then pointee o ≡ Some MadeAny → ⊥
  no_pointee None h = absurd cc
  no_pointee (Some (MadeOf ty.Int)) h = absurd cc
  no_pointee (Some (MadeOf ty.IntPtr)) h = absurd cc
  no_pointee (Some (MadeOf (ty.StructPtr n))) h = absurd cc
  no_pointee (Some MadeAny) h = absurd cc

  no_type : (o : Option Ty) → option_map MadeOf o ≡ Some MadeAny → ⊥
  no_type None h = absurd cc
  no_type (Some t) h = absurd cc

  no_member : (at f : ℕ) (o : Option MadeSort) → option_and_then (member d at f) o ≡ Some MadeAny → ⊥
  no_member at f None h = absurd cc
  no_member at f (Some (MadeOf ty.Int)) h = absurd cc
  no_member at f (Some (MadeOf ty.IntPtr)) h = absurd cc
  no_member at f (Some (MadeOf (ty.StructPtr n))) h = no_type (field_type d at f n) h
  no_member at f (Some MadeAny) h = absurd cc

  no_element : (b : Bool) (o : Option MadeSort) → (if b then option_and_then pointee o else None) ≡ Some MadeAny → ⊥
  no_element true o h = no_pointee o h
  no_element false o h = absurd cc

  no_place : (e : Made) → is_place e ≡ true → sort_of d e ≡ Some MadeAny → ⊥
  no_place e is h = by_layer (out-Expr e) (roll-out-Expr e) is
    where
      value_of : (x : Made-F Made) (o : Option MadeSort) → made_judged d e ≡ valued o → o ≡ Some MadeAny
      value_of x o k = sym (ap (λ (j : MadeJudged). j.value) k) ∙ h

      by_layer : (x : Made-F Made) → roll-Made x ≡ e → is_place_layer x ≡ true → ⊥
      by_layer (made.Var x at) r is = no_type (var_type d x) (value_of (made.Var x at) (option_map MadeOf (var_type d x)) (opens d (made.Var x at) e r))
      by_layer (made.Field a f at) r is = no_member at f (sort_of d a) (value_of (made.Field a f at) (option_and_then (member d at f) (sort_of d a)) (opens d (made.Field a f at) e r))
      by_layer (made.Deref a at) r is = no_pointee (sort_of d a) (value_of (made.Deref a at) (option_and_then pointee (sort_of d a)) (opens d (made.Deref a at) e r))
      by_layer (made.Index a i at) r is = no_element (gives_int d i) (sort_of d a) (value_of (made.Index a i at) (element (made_judged d a) (made_judged d i)) (opens d (made.Index a i at) e r))
      by_layer (made.Const n at) r is = absurd cc
      by_layer (made.Null at) r is = absurd cc
      by_layer (made.Unary s a at) r is = absurd cc
      by_layer (made.Binary o a b at) r is = absurd cc

  -- right sides

  abbrev pub ValueRight : RightValue → Type 0
  ValueRight (value.Plain v) = IsRight d false v.expr v.sort
  ValueRight (value.Result c t) = (call_fits d c ≡ true) × (call_type d c ≡ Some t)
  ValueRight (value.Requested c r) = (call_fits d c ≡ true) × (call_type d c ≡ Some r.points) × ((place : Made-F Made) → place_takes place c ≡ true)

  abbrev pub AllValue : Judged RightValue → Type 0
  AllValue (Typed r) = ValueRight r
  AllValue (Broken fs) = fs ≡ [] → ⊥

  called_value : (c : MadeCall) (at : ℕ) (g : Gives) → CallRight d c g → AllValue (call_value c at g)
  called_value c at gives.Nothing h = λ none. absurd cc
  called_value c at (gives.Result t) h = (h.fits, h.gives)
  called_value c at (gives.Requested r) h = (h.fits, h.gives.0, h.gives.1)

  by_called : (j : Judged Called) → AllCall d j → AllValue (of_one value_of_call j)
  by_called (Typed c) h = called_value c.call c.at c.gives h
  by_called (Broken fs) h = h

  by_plain : (j : Judged Value) → AllRight d false j → AllValue (of_one plain_value j)
  by_plain (Typed v) h = h
  by_plain (Broken fs) h = h

  pub right_right : (behind : ℕ → Bool) (w : Walk) → Stands d behind w.scope
      → ((n : Word) (f k : ℕ) (g : Signature) → callee_of w n ≡ callee.Defined f k → slice_get w.signatures k ≡ Some g → IsCallee d f g)
      → (r : Right) → right_stands behind r ≡ true → AllValue (walked_right r w).1
  right_right behind w here callees (right.Plain a) h = by_plain (judged w.scope a.expr false) (expr_right d behind w.scope here a.expr h false)
  right_right behind w here callees (right.Call c) h = by_called (walked_call c w).1 (call_right d behind w here callees c h)

  -- a right side that a target of some type takes

  -- a target takes the call of a right side
  abbrev Takes : (MadeCall → Bool) → RightValue → Type 0
  Takes takes (value.Plain v) = Unit {0}
  Takes takes (value.Result c t) = takes c ≡ true
  Takes takes (value.Requested c r) = takes c ≡ true

  call_goes : (takes : MadeCall → Bool) (t u : Ty) (c : MadeCall) → call_fits d c ≡ true → call_type d c ≡ Some u → same_ty t u ≡ true → takes c ≡ true
      → right_fits d takes t (made_right.Call c) ≡ true
  call_goes takes t u c fits is same take =
      ap (λ (b : Bool). b && has (same_ty t) (call_type d c) && takes c) fits ∙ ap (λ (o : Option Ty). has (same_ty t) o && takes c) is ∙ ap (λ (b : Bool). b && takes c) same ∙ take

  typed_fits : (takes : MadeCall → Bool) (t : Ty) (at : ℕ) (r : RightValue) → ValueRight r → Takes takes r → misfits t at r ≡ [] → right_fits d takes t (right_for t r) ≡ true
  typed_fits takes t at (value.Plain v) h take none = value_goes d t v h (clean_unless (fits t v) rule.TypesDiffer at none)
  typed_fits takes t at (value.Result c u) h take none = call_goes takes t u c h.0 h.1 (clean_unless (same_ty t u) rule.TypesDiffer at none) take
  typed_fits takes t at (value.Requested c r) h take none =
      call_goes takes t r.points c h.0 h.1 (and_parts (same_ty t r.points) (cast_fits t r.cast) (clean_unless (request_fits t r) rule.Request r.at none)).0 take

  all_taken : (r : RightValue) → Takes (λ c. true) r
  all_taken (value.Plain v) = tt
  all_taken (value.Result c t) = refl
  all_taken (value.Requested c r) = refl

  -- an initialiser
  pub initial_right : (t : Ty) (at : ℕ) (j : Judged RightValue) → AllValue j → (initial (Good t) at j).faults ≡ [] → value_fits d t (initial (Good t) at j).made ≡ true
  initial_right t at (Broken fs) h none = absurd (h none)
  initial_right t at (Typed r) h none = typed_fits (λ c. true) t at r h (all_taken r) none

  -- a returned value
  pub returned_right : (t : Returned) → IsGood t → (at : ℕ) (j : Judged RightValue) → AllValue j → (returned_value t at j).faults ≡ []
      → return_fits d (result_or_none t) (Some (returned_value t at j).made) ≡ true
  returned_right t good at (Broken fs) h none = absurd (h none)
  returned_right returned.Nothing good at (Typed r) h none = absurd cc
  returned_right (returned.Value t) good at (Typed r) h none = typed_fits (λ c. true) t at r h (all_taken r) none
  returned_right (returned.Bad f) good at (Typed r) h none = absurd good

  -- a return without a value
  pub bare_right : (t : Returned) → IsGood t → (at : ℕ) → bare_return t at ≡ [] → return_fits d (result_or_none t) None ≡ true
  bare_right returned.Nothing good at none = refl
  bare_right (returned.Value t) good at none = absurd cc
  bare_right (returned.Bad f) good at none = absurd good

  -- assignments

  loose_taken : (place : Made-F Made) (at : ℕ) (c : MadeCall) → loose_target (is_variable_layer place) at c ≡ [] → place_takes place c ≡ true
  loose_taken place at (made_call.User n f args offset) none = variables_agree place (clean_unless (is_variable_layer place) rule.CallTarget at none)
  loose_taken place at (made_call.Malloc size offset) none = refl
  loose_taken place at (made_call.Getchar offset) none = refl
  loose_taken place at (made_call.Putchar e offset) none = refl
  loose_taken place at (made_call.Printf text args offset) none = refl

  place_taken : (e : Made) (at : ℕ) (r : RightValue) → ValueRight r → call_target (is_variable e) at r ≡ [] → Takes (place_takes (out-Expr e)) r
  place_taken e at (value.Plain v) h none = tt
  place_taken e at (value.Result c t) h none = loose_taken (out-Expr e) at c none
  place_taken e at (value.Requested c r) h none = h.2 (out-Expr e)

  change_right : (t : Ty) (at : ℕ) (r : RightValue) → ValueRight r → change_faults (Of t) at r ≡ [] → change_fits d t (right_for t r) ≡ true
  change_right t at r h none = by_type t r h (clean_unless (if is_int (Of t) then is_plain_int r else false) rule.Operands at none)
    where
      by_sort : (e : Made) (g : Sort) → IsRight d false e g → is_int g ≡ true → gives_int d e ≡ true
      by_sort e (Of ty.Int) h is = ap (has is_made_int) (h.value refl)
      by_sort e (Of ty.IntPtr) h is = absurd cc
      by_sort e (Of (ty.StructPtr n)) h is = absurd cc
      by_sort e AnyPointer h is = absurd cc

      by_type : (t : Ty) (r : RightValue) → ValueRight r → (if is_int (Of t) then is_plain_int r else false) ≡ true → change_fits d t (right_for t r) ≡ true
      by_type ty.IntPtr r h is = absurd cc
      by_type (ty.StructPtr n) r h is = absurd cc
      by_type ty.Int (value.Plain v) h is = by_sort v.expr v.sort h is
      by_type ty.Int (value.Result c u) h is = absurd cc
      by_type ty.Int (value.Requested c q) h is = absurd cc

  -- what a place of some type takes by an operator
  assigned_right : (s : MadeSimple) (o : Op) (p : Value) (t : Ty) (at : ℕ) (r : RightValue) → s.place ≡ p.expr → s.right ≡ right_for t r → p.sort ≡ Of t → ValueRight r
      → assign_faults o p at r ≡ [] → assigned_fits d s o t ≡ true
  assigned_right s op.Put p t at r place side is h none =
      let put : misfits t at r ++ call_target (is_variable p.expr) at r ≡ [] = subst (λ (g : Sort). put_faults p at g r ≡ []) is none in
      let take : Takes (place_takes (out-Expr p.expr)) r = place_taken p.expr at r h (second_empty (misfits t at r) (call_target (is_variable p.expr) at r) put) in
      subst (λ (e : Made). right_fits d (place_takes (out-Expr e)) t s.right ≡ true) (sym place)
      (subst (λ (m : MadeRight). right_fits d (place_takes (out-Expr p.expr)) t m ≡ true) (sym side)
      (typed_fits (place_takes (out-Expr p.expr)) t at r h take (first_empty (misfits t at r) (call_target (is_variable p.expr) at r) put)))
  assigned_right s op.Add p t at r place side is h none =
      subst (λ (m : MadeRight). change_fits d t m ≡ true) (sym side) (change_right t at r h (subst (λ (g : Sort). change_faults g at r ≡ []) is none))
  assigned_right s op.Sub p t at r place side is h none =
      subst (λ (m : MadeRight). change_fits d t m ≡ true) (sym side) (change_right t at r h (subst (λ (g : Sort). change_faults g at r ≡ []) is none))
  assigned_right s op.Mul p t at r place side is h none =
      subst (λ (m : MadeRight). change_fits d t m ≡ true) (sym side) (change_right t at r h (subst (λ (g : Sort). change_faults g at r ≡ []) is none))

  -- an assignment
  pub simple_right : (s : Simple) (p : Judged Value) (j : Judged RightValue) → AllRight d false p → AllValue j → (assigned s p j).faults ≡ [] → simple_fits d (assigned s p j).made ≡ true
  simple_right s (Broken fs) (Typed r) h g none = absurd (h none)
  simple_right s (Broken fs) (Broken gs) h g none = absurd (h (first_empty fs gs none))
  simple_right s (Typed p) (Broken gs) h g none = absurd (g none)
  simple_right s (Typed p) (Typed r) h g none = by_sort p.sort refl
    where
      on_place : is_place p.expr ≡ true
      on_place = clean_unless (is_place p.expr) rule.NoPlace s.place.at (first_empty (unless (is_place p.expr) rule.NoPlace s.place.at) (assign_faults s.op p s.at r) none)

      by_sort : (g : Sort) → p.sort ≡ g → simple_fits d (assigned s (Typed p) (Typed r)).made ≡ true
      by_sort AnyPointer is = absurd (no_place p.expr on_place (h.value refl ∙ ap (λ (k : Sort). Some (made_sort k)) is))
      by_sort (Of t) is =
          let m : MadeSimple = (assigned s (Typed p) (Typed r)).made in
          ap (λ (b : Bool). b && has (assigned_fits d m s.op) (option_and_then type_of (sort_of d p.expr))) (places_agree (out-Expr p.expr) on_place)
          ∙ ap (λ (o : Option MadeSort). has (assigned_fits d m s.op) (option_and_then type_of o)) (h.value refl ∙ ap (λ (k : Sort). Some (made_sort k)) is)
          ∙ assigned_right m s.op p t s.at r refl (ap (λ (k : Sort). right_at k r) is) is g
          (second_empty (unless (is_place p.expr) rule.NoPlace s.place.at) (assign_faults s.op p s.at r) none)
