-- A call that breaks no rule in the walk through a text fits in the program, and gives what the walk has found.
use Rattle.std.proofs.Common.{◌≡◌, ℕ, zero, suc, ◌+◌, ◌==◌, Bool, true, false, not, ◌&&◌, ◌||◌, List, [], ◌∷◌, ◌++◌, length, map, Option, Some, None, option_map, refl, sym, ap, subst, ◌∙◌, arith}
use Rattle.std.specs.Prelude.{slice_get, if◌then◌else◌, replicate}
use Rattle.std.specs.List.{fold, list_all}
use Rattle.std.specs.Option.{is_some, option_and_then}
use Rattle.std.proofs.lemmas.Bool.{and_parts, eqb-true, eq-eqb}
use Rattle.c_tree.specs.AlikeTest.{same_ty}
use Rattle.c_tree.specs.Typing.{Prototype, Declarations, has, if_any, var_type, fields_of, goes_into, is_int as made_int, Sort as MadeSort, Of as MadeOf, AnyPointer as MadeAny, sort_of, gives_int, arguments_fit, user_call_fits, call_fits, call_type, place_takes, directives as made_directives, directive as made_directive}
use Rattle.c_tree.specs.declared.expr.Expr.{Expr as Made, Expr-F as Made-F}
use Rattle.c_tree.specs.declared.program.Call.{Call as MadeCall}
use Rattle.c_tree.specs.declared.program.Call.TheVariants as made
use Rattle.c_tree.specs.declared.program.Size.TheVariants as size
use Rattle.c_tree.specs.declared.program.Ty.{Ty}
use Rattle.c_tree.specs.declared.program.Ty.TheVariants as ty
use Rattle.c_tree.specs.declared.tree.Arg.{Arg}
use Rattle.c_tree.specs.declared.tree.Base.{Base}
use Rattle.c_tree.specs.declared.tree.Base.TheVariants as base
use Rattle.c_tree.specs.declared.tree.Call.{Call}
use Rattle.c_tree.specs.declared.tree.Call.TheVariants as call
use Rattle.c_tree.specs.declared.tree.Expr.{Expr}
use Rattle.c_tree.specs.declared.tree.Size.{Size}
use Rattle.c_tree.specs.declared.tree.Spec.{Spec}
use Rattle.c_tree.specs.declared.tree.Unit.{Unit as MeasuredUnit}
use Rattle.c_tree.specs.declared.tree.Unit.TheVariants as unit
use Rattle.c_tree.specs.declared.tree.Word.{Word}
use Rattle.c_types.specs.declared.faults.Fault.{Fault}
use Rattle.c_types.specs.declared.faults.Rule.TheVariants as rule
use Rattle.c_types.specs.declared.judged.Called.{Called}
use Rattle.c_types.specs.declared.judged.Callee.{Callee}
use Rattle.c_types.specs.declared.judged.Callee.TheVariants as callee
use Rattle.c_types.specs.declared.judged.Directives.TheVariants as asked
use Rattle.c_types.specs.declared.judged.Gives.{Gives}
use Rattle.c_types.specs.declared.judged.Gives.TheVariants as gives
use Rattle.c_types.specs.declared.judged.Judged.{Judged}
use Rattle.c_types.specs.declared.judged.Judged.TheVariants.{Typed, Broken}
use Rattle.c_types.specs.declared.judged.Measured.{Measured}
use Rattle.c_types.specs.declared.judged.Measured.TheVariants as measured
use Rattle.c_types.specs.declared.judged.Sort.{Sort}
use Rattle.c_types.specs.declared.judged.Sort.TheVariants.{Of, AnyPointer}
use Rattle.c_types.specs.declared.judged.Value.{Value}
use Rattle.c_types.specs.declared.scope.BaseType.{BaseType}
use Rattle.c_types.specs.declared.scope.BaseType.TheVariants as type
use Rattle.c_types.specs.declared.scope.Scope.{Scope}
use Rattle.c_types.specs.declared.scope.Signature.{Signature}
use Rattle.c_types.specs.declared.scope.StructRow.{StructRow}
use Rattle.c_types.specs.declared.scope.Walk.{Walk}
use Rattle.c_types.specs.Calls.{argument_by, argument, arguments_from, arguments, miscounted, callee_of, result_or_nothing, user_called, user_declared, user_by, user_call, struct_row_measured, row_measured, struct_measured, type_measured, target_measured, unit_measured, request, request_one, request_many, request_of, behind as behind_faults, cast_of, requested, next_directive, asked_for, directives, printed_by, printed, put_char, walked_call}
use Rattle.c_types.specs.Expressions.{judged, variable}
use Rattle.c_types.specs.Fits.{fits, converted, is_int, is_pointer, same_sort, is_zero}
use Rattle.c_types.specs.Judged.{breaks, of_one, of_two, unless_broken}
use Rattle.c_types.specs.Offsets.{expr_stands, arg_stands, size_stands, call_stands}
use Rattle.c_types.specs.Scopes.{new_struct, tagged_by, based}
use Rattle.c_types.specs.Tables.{found}
use Rattle.c_types.proofs.Headings.{clean_unless}
use Rattle.c_types.proofs.Numbering.{first_empty}
use Rattle.c_types.proofs.NumberingCalls.{second_empty}
use Rattle.c_types.proofs.Rows.{get_one}
use Rattle.c_types.proofs.TypedExpressions.{made_sort, Stands, IsRight, AllRight, pointer_sort, variable_right, expr_right}

or_false : (b : Bool) → (b || false) ≡ true → b ≡ true
or_false true h = refl
or_false false h = absurd cc

-- where a value of some type is wanted

-- the type of a value that is converted to the wanted type
abbrev as_wanted : Ty → Bool → Sort → MadeSort
as_wanted t is_zero g = if is_pointer t then (if is_zero then MadeAny else made_sort g) else made_sort g

goes : (t : Ty) (z : Bool) (g : Sort) → (same_sort (Of t) g || (is_pointer t && (same_sort AnyPointer g || z))) ≡ true → goes_into t (as_wanted t z g) ≡ true
goes ty.Int z (Of ty.Int) h = refl
goes ty.Int z (Of ty.IntPtr) h = absurd cc
goes ty.Int z (Of (ty.StructPtr m)) h = absurd cc
goes ty.Int z AnyPointer h = absurd cc
goes ty.IntPtr true g h = refl
goes ty.IntPtr false (Of ty.Int) h = absurd cc
goes ty.IntPtr false (Of ty.IntPtr) h = refl
goes ty.IntPtr false (Of (ty.StructPtr m)) h = absurd cc
goes ty.IntPtr false AnyPointer h = refl
goes (ty.StructPtr n) true g h = refl
goes (ty.StructPtr n) false (Of ty.Int) h = absurd cc
goes (ty.StructPtr n) false (Of ty.IntPtr) h = absurd cc
goes (ty.StructPtr n) false (Of (ty.StructPtr m)) h = or_false (same_ty (ty.StructPtr n) (ty.StructPtr m)) h
goes (ty.StructPtr n) false AnyPointer h = refl

-- what goes into an int is one
int_goes : (o : Option MadeSort) → has (goes_into ty.Int) o ≡ true → has made_int o ≡ true
int_goes None h = absurd cc
int_goes (Some (MadeOf ty.Int)) h = refl
int_goes (Some (MadeOf ty.IntPtr)) h = absurd cc
int_goes (Some (MadeOf (ty.StructPtr n))) h = absurd cc
int_goes (Some MadeAny) h = absurd cc

-- printf's text asks for as many values by the walk as in the program

more_asked : (n : ℕ) (o : Option ℕ) → option_map (λ k. (n + 1) + k) o ≡ option_map (λ k. n + k) (option_map suc o)
more_asked n None = refl
more_asked n (Some k) = let e : (n + 1) + k ≡ n + suc k = omega arith in ap (λ (j : ℕ). Some j) e

asked_other : (text : List ℕ) → asked_for (fold next_directive asked.Other text) ≡ None
asked_other [] = refl
asked_other (c ∷ text) = asked_other text

mutual
  asked_plain : (text : List ℕ) (n : ℕ) → asked_for (fold next_directive (asked.Plain n) text) ≡ option_map (λ k. n + k) (made_directives text)
  asked_plain [] n = let e : n + 0 ≡ n = omega arith in ap (λ (k : ℕ). Some k) (sym e)
  asked_plain (c ∷ text) n = behind_byte (c == 37) (asked_open text n) (asked_plain text n)
    where
      behind_byte : (b : Bool) → asked_for (fold next_directive (asked.Open n) text) ≡ option_map (λ k. n + k) (made_directive text)
          → asked_for (fold next_directive (asked.Plain n) text) ≡ option_map (λ k. n + k) (made_directives text)
          → asked_for (fold next_directive (if b then asked.Open n else asked.Plain n) text) ≡ option_map (λ k. n + k) (if b then made_directive text else made_directives text)
      behind_byte true opened plain = opened
      behind_byte false opened plain = plain

  asked_open : (text : List ℕ) (n : ℕ) → asked_for (fold next_directive (asked.Open n) text) ≡ option_map (λ k. n + k) (made_directive text)
  asked_open [] n = refl
  asked_open (c ∷ text) n = behind_percent (c == 100) (c == 37) (asked_plain text (n + 1)) (asked_plain text n)
    where
      behind_percent : (b p : Bool) → asked_for (fold next_directive (asked.Plain (n + 1)) text) ≡ option_map (λ k. (n + 1) + k) (made_directives text)
          → asked_for (fold next_directive (asked.Plain n) text) ≡ option_map (λ k. n + k) (made_directives text)
          → asked_for (fold next_directive (if b then asked.Plain (n + 1) else if p then asked.Plain n else asked.Other) text)
          ≡ option_map (λ k. n + k) (if b then option_map suc (made_directives text) else if p then made_directives text else None)
      behind_percent true p more same = more ∙ more_asked n (made_directives text)
      behind_percent false true more same = same
      behind_percent false false more same = asked_other text

same_directives : (text : List ℕ) → directives text ≡ made_directives text
same_directives text = asked_plain text 0 ∙ from_zero (made_directives text)
  where
    from_zero : (o : Option ℕ) → option_map (λ k. 0 + k) o ≡ o
    from_zero None = refl
    from_zero (Some k) = let e : 0 + k ≡ k = omega arith in ap (λ (j : ℕ). Some j) e

-- structs without a body that are named

-- a struct with a body is none of those that come behind, which have none
pub row_before : (rows more : List StructRow) → ((k : ℕ) (row : StructRow) → slice_get more k ≡ Some row → row.body ≡ None)
    → (n : ℕ) (row : StructRow) (body : ℕ) → slice_get (rows ++ more) n ≡ Some row → row.body ≡ Some body → slice_get rows n ≡ Some row
row_before [] more bare n row body is b = let no : None ≡ Some body = sym (bare n row is) ∙ b in absurd cc
row_before (x ∷ rows) more bare zero row body is b = is
row_before (x ∷ rows) more bare (suc n) row body is b = row_before rows more bare n row body is b

module _ (d : Declarations) (behind : ℕ → Bool) where
  based_stands : (b : Base) (s : Scope) → Stands d behind s → Stands d behind (based b s).0
  based_stands base.Void s h = h
  based_stands base.Int s h = h
  based_stands (base.Alias w) s h = h
  based_stands (base.Tag w) s h = by_tag (found s.tags w.text)
    where
      by_tag : (o : Option ℕ) → Stands d behind (tagged_by w s o).0
      by_tag (Some n) = h
      by_tag None = record {
        variables = h.variables;
        structs = λ n row body at is b after. h.structs n row body at (row_before s.structs (new_struct ∷ []) (λ k row. get_one (λ (r : StructRow). r.body ≡ None) new_struct refl k row) n row body is b) b after;
      }

  cast_stands : (c : Option Spec) (s : Scope) → Stands d behind s → Stands d behind (cast_of c s).0
  cast_stands None s h = h
  cast_stands (Some c) s h = based_stands c.base s h

-- the function of that number has those types, and isn't main
pub record IsCallee (d : Declarations) (f : ℕ) (g : Signature) : Type 0 where
  pub fun : Prototype
  pub is : slice_get d.funs f ≡ Some fun
  pub result : fun.result ≡ g.result
  pub params : map (var_type d) fun.params ≡ map Some g.params
  pub no_main : (f == d.main) ≡ false

module _ (d : Declarations) where
  -- arguments

  converted_sort : (t : Ty) (e : Made) (g : Sort) → IsRight d false e g → sort_of d (converted t e) ≡ Some (as_wanted t (is_zero e) g)
  converted_sort ty.Int e g h = h.value refl
  converted_sort ty.IntPtr e g h = pointer_sort d e g h
  converted_sort (ty.StructPtr n) e g h = pointer_sort d e g h

  pub value_goes : (t : Ty) (v : Value) → IsRight d false v.expr v.sort → fits t v ≡ true → has (goes_into t) (sort_of d (converted t v.expr)) ≡ true
  value_goes t v h f = ap (has (goes_into t)) (converted_sort t v.expr v.sort h) ∙ goes t (is_zero v.expr) v.sort f

  argument_goes : (t : Ty) (at : ℕ) (j : Judged Value) → AllRight d false j → (argument_by (Some t) at j).faults ≡ []
      → has (goes_into t) (sort_of d (argument_by (Some t) at j).made) ≡ true
  argument_goes t at (Broken fs) h none = absurd (h none)
  argument_goes t at (Typed v) h none = value_goes t v h (clean_unless (fits t v) rule.TypesDiffer at none)

  -- each of these goes into its type
  abbrev Go : List Ty → List Made → Type 0
  Go [] [] = Unit {0}
  Go (t ∷ ts) (e ∷ es) = (has (goes_into t) (sort_of d e) ≡ true) × Go ts es
  Go [] (e ∷ es) = ⊥
  Go (t ∷ ts) [] = ⊥

  arguments_go : (xs : List ℕ) (ts : List Ty) (es : List Made) → map (var_type d) xs ≡ map Some ts → Go ts es → arguments_fit d xs es ≡ true
  arguments_go [] [] [] m g = refl
  arguments_go [] [] (e ∷ es) m g = absurd g
  arguments_go [] (t ∷ ts) es m g = absurd cc
  arguments_go (x ∷ xs) [] es m g = absurd cc
  arguments_go (x ∷ xs) (t ∷ ts) [] m g = absurd g
  arguments_go (x ∷ xs) (t ∷ ts) (e ∷ es) m g =
      let first : var_type d x ≡ Some t = cc in
      let rest : map (var_type d) xs ≡ map Some ts = cc in
      ap (λ (b : Bool). b && arguments_fit d xs es) (ap (has (λ t. has (goes_into t) (sort_of d e))) first ∙ g.0) ∙ arguments_go xs ts es rest g.1

  ints_go : (n : ℕ) (es : List Made) → Go (replicate n ty.Int) es → (list_all (gives_int d) es ≡ true) × (n ≡ length es)
  ints_go zero [] g = (refl, refl)
  ints_go zero (e ∷ es) g = absurd g
  ints_go (suc n) [] g = absurd g
  ints_go (suc n) (e ∷ es) g =
      let rest = ints_go n es g.1 in
      (ap (λ (b : Bool). b && list_all (gives_int d) es) (int_goes (sort_of d e) g.0) ∙ rest.0, ap suc rest.1)

  -- what a call gives, as the walk has it

  abbrev pub GivesRight : MadeCall → Gives → Type 0
  GivesRight c gives.Nothing = Unit {0}
  GivesRight c (gives.Result t) = call_type d c ≡ Some t
  GivesRight c (gives.Requested r) = (call_type d c ≡ Some r.points) × ((place : Made-F Made) → place_takes place c ≡ true)

  pub record CallRight (c : MadeCall) (g : Gives) : Type 0 where
    pub fits : call_fits d c ≡ true
    pub gives : GivesRight c g

  abbrev pub AllCall : Judged Called → Type 0
  AllCall (Typed c) = CallRight c.call c.gives
  AllCall (Broken fs) = fs ≡ [] → ⊥

  counted_right : (fs : List Fault) (wanted given at : ℕ) → miscounted fs wanted given at ≡ [] → (fs ≡ []) × (wanted ≡ given)
  counted_right [] wanted given at h = (refl, eqb-true wanted given (clean_unless (wanted == given) rule.ArgumentCount at h))
  counted_right (f ∷ fs) wanted given at h = absurd cc

  unless_right : (c : Called) (fs : List Fault) → (fs ≡ [] → CallRight c.call c.gives) → AllCall (unless_broken c fs)
  unless_right c [] h = h refl
  unless_right c (f ∷ fs) h = λ none. absurd cc

  module _ (behind : ℕ → Bool) where
    abbrev Here : Scope → Type 0
    Here s = Stands d behind s

    args_go : (s : Scope) → Here s → (ts us : List Ty) (k : ℕ) (args : List Arg) → ((i : ℕ) → slice_get ts (k + i) ≡ slice_get us i) → list_all (arg_stands behind) args ≡ true
        → length us ≡ length args → (arguments_from s ts k args).faults ≡ [] → Go us (arguments_from s ts k args).made
    args_go s here ts [] k [] at h long none = tt
    args_go s here ts [] k (a ∷ args) at h long none = absurd cc
    args_go s here ts (u ∷ us) k [] at h long none = absurd cc
    args_go s here ts (u ∷ us) k (a ∷ args) at h long none =
        let parts = and_parts (arg_stands behind a) (list_all (arg_stands behind) args) h in
        let j = judged s a.expr false in
        let z : k + 0 ≡ k = omega arith in
        let this : slice_get ts k ≡ Some u = ap (slice_get ts) (sym z) ∙ at 0 in
        let clean : (argument s (slice_get ts k) a).faults ≡ [] = first_empty (argument s (slice_get ts k) a).faults (arguments_from s ts (k + 1) args).faults none in
        let first : (argument_by (Some u) a.at j).faults ≡ [] = subst (λ (o : Option Ty). (argument_by o a.at j).faults ≡ []) this clean in
        let right = argument_goes u a.at j (expr_right d behind s here a.expr parts.0 false) first in
        let behind_it : length us ≡ length args = cc in (
          subst (λ (o : Option Ty). has (goes_into u) (sort_of d (argument_by o a.at j).made) ≡ true) (sym this) right,
          args_go s here ts us (k + 1) args (λ i. let e : (k + 1) + i ≡ k + suc i = omega arith in ap (slice_get ts) e ∙ at (suc i)) parts.1 behind_it
              (second_empty (argument s (slice_get ts k) a).faults (arguments_from s ts (k + 1) args).faults none),
        )

    all_go : (s : Scope) → Here s → (ts : List Ty) (args : List Arg) → list_all (arg_stands behind) args ≡ true → length ts ≡ length args → (arguments s ts args).faults ≡ []
        → Go ts (arguments s ts args).made
    all_go s here ts args h = args_go s here ts ts 0 args (λ i. let e : 0 + i ≡ i = omega arith in ap (slice_get ts) e) h

    -- users' calls

    user_right : (w : Walk) → Here w.scope
        → ((n : Word) (f k : ℕ) (g : Signature) → callee_of w n ≡ callee.Defined f k → slice_get w.signatures k ≡ Some g → IsCallee d f g)
        → (n : Word) (args : List Arg) (close : ℕ) → list_all (arg_stands behind) args ≡ true → AllCall (user_call w n args close)
    user_right w here callees n args close h = by_callee (callee_of w n) refl
      where
        by_result : (c : MadeCall) (o : Option Ty) → call_type d c ≡ o → GivesRight c (result_or_nothing o)
        by_result c None e = tt
        by_result c (Some t) e = e

        called : (f : ℕ) (g : Signature) → IsCallee d f g → AllCall (user_called w n f g args close (arguments w.scope g.params args))
        called f g is =
            let cs = arguments w.scope g.params args in
            unless_right (record { call = made.User w.calls f cs.made n.at; gives = result_or_nothing g.result; at = n.at }) (miscounted cs.faults (length g.params) (length args) close)
            (λ none.
            let right = counted_right cs.faults (length g.params) (length args) close none in
            let go : Go g.params cs.made = all_go w.scope here g.params args h right.1 right.0 in
            record {
              fits = ap (user_call_fits d f cs.made) is.is
                  ∙ ap (λ (b : Bool). not b && arguments_fit d is.fun.params cs.made) is.no_main
                  ∙ arguments_go is.fun.params g.params cs.made is.params go;
              gives = by_result (made.User w.calls f cs.made n.at) g.result (ap (option_and_then (λ (p : Prototype). p.result)) is.is ∙ is.result);
            })

        by_signature : (f k : ℕ) (o : Option Signature) → callee_of w n ≡ callee.Defined f k → slice_get w.signatures k ≡ o → AllCall (user_declared w n f args close o)
        by_signature f k None c e = λ none. absurd cc
        by_signature f k (Some g) c e = called f g (callees n f k g c e)

        by_callee : (c : Callee) → callee_of w n ≡ c → AllCall (user_by w n args close c)
        by_callee (callee.Refused f) e = λ none. absurd cc
        by_callee (callee.Defined f k) e = by_signature f k (slice_get w.signatures k) e refl

    -- requests

    abbrev MeasuredRight : ℕ → Measured → Type 0
    MeasuredRight at measured.Int = Unit {0}
    MeasuredRight at (measured.Struct n) = is_some (fields_of d at n) ≡ true

    abbrev AllMeasured : ℕ → Judged Measured → Type 0
    AllMeasured at (Typed m) = MeasuredRight at m
    AllMeasured at (Broken fs) = fs ≡ [] → ⊥

    struct_right : (s : Scope) → Here s → (at word n : ℕ) → behind at ≡ true → AllMeasured at (struct_measured s word n)
    struct_right s here at word n after = by_row (slice_get s.structs n) refl
      where
        by_body : (row : StructRow) (o : Option ℕ) → slice_get s.structs n ≡ Some row → row.body ≡ o → AllMeasured at (struct_row_measured n word o)
        by_body row None is e = λ none. absurd cc
        by_body row (Some body) is e = ap is_some (here.structs n row body at is e after)

        by_row : (o : Option StructRow) → slice_get s.structs n ≡ o → AllMeasured at (row_measured n word o)
        by_row None is = λ none. absurd cc
        by_row (Some row) is = by_body row row.body is refl

    -- no `*` behind the type
    where_bare : (at word : ℕ) (b : Bool) (j : Judged Measured) → AllMeasured at j → AllMeasured at (if b then j else breaks rule.Operands word)
    where_bare at word true j h = h
    where_bare at word false j h = λ none. absurd cc

    type_right : (s : Scope) → Here s → (at word stars : ℕ) (t : BaseType) → behind at ≡ true → AllMeasured at (type_measured s word stars t)
    type_right s here at word stars (type.Bad f) after = λ none. absurd cc
    type_right s here at word stars type.Void after = λ none. absurd cc
    type_right s here at word stars type.Int after = where_bare at word (stars == 0) (Typed measured.Int) tt
    type_right s here at word stars (type.Struct n) after = where_bare at word (stars == 0) (struct_measured s word n) (struct_right s here at word n after)

    target_right : (s : Scope) → Here s → (at word : ℕ) (g : Sort) → behind at ≡ true → AllMeasured at (target_measured s word g)
    target_right s here at word (Of ty.IntPtr) after = tt
    target_right s here at word (Of (ty.StructPtr n)) after = struct_right s here at word n after
    target_right s here at word (Of ty.Int) after = λ none. absurd cc
    target_right s here at word AnyPointer after = λ none. absurd cc

    unit_right : (u : MeasuredUnit) (at word : ℕ) (s : Scope) → Here s → behind at ≡ true → AllMeasured at (unit_measured u word s).1
    unit_right (unit.Of c) at word s here after =
        let r = based c.base s in type_right r.0 (based_stands d behind c.base s here) at word c.stars r.1 after
    unit_right (unit.Star x) at word s here after = by_value (variable s x) (variable_right d behind s here false x)
      where
        by_value : (j : Judged Value) → AllRight d false j → AllMeasured at (of_one (λ v. target_measured s word v.sort) j)
        by_value (Typed v) h = target_right s here at word v.sort after
        by_value (Broken fs) h = h

    unit_stands : (u : MeasuredUnit) (word : ℕ) (s : Scope) → Here s → Here (unit_measured u word s).0
    unit_stands (unit.Of c) word s here = based_stands d behind c.base s here
    unit_stands (unit.Star x) word s here = here

    one_right : (cast : Option Ty) (at : ℕ) (m : Measured) → MeasuredRight at m → AllCall (request_one cast at m)
    one_right cast at measured.Int h = record { fits = refl; gives = (refl, λ place. refl) }
    one_right cast at (measured.Struct n) h = record { fits = h; gives = (refl, λ place. refl) }

    many_right : (cast : Option Ty) (at : ℕ) (m : Measured) (v : Value) → IsRight d false v.expr v.sort → AllCall (request_many cast at m v)
    many_right cast at (measured.Struct n) v h = λ none. absurd cc
    many_right cast at measured.Int v h = by_sort v.sort (h.value refl)
      where
        by_sort : (g : Sort) → sort_of d v.expr ≡ Some (made_sort g) → AllCall (if is_int g then request (size.Ints (Some v.expr)) ty.IntPtr cast at else breaks rule.Request at)
        by_sort (Of ty.Int) e = record { fits = ap (has made_int) e; gives = (refl, λ place. refl) }
        by_sort (Of ty.IntPtr) e = λ none. absurd cc
        by_sort (Of (ty.StructPtr n)) e = λ none. absurd cc
        by_sort AnyPointer e = λ none. absurd cc

    request_right : (s : Scope) → Here s → (cast : Option Ty) (at : ℕ) (u : Judged Measured) (o : Option Expr) → AllMeasured at u → if_any (expr_stands behind) o ≡ true → AllCall (request_of s cast at u o)
    request_right s here cast at (Typed m) None h e = one_right cast at m h
    request_right s here cast at (Broken fs) None h e = h
    request_right s here cast at u (Some c) h e = by_both u (judged s c false) h (expr_right d behind s here c e false)
      where
        by_both : (u : Judged Measured) (j : Judged Value) → AllMeasured at u → AllRight d false j → AllCall (of_two (request_many cast at) u j)
        by_both (Typed m) (Typed v) h g = many_right cast at m v g
        by_both (Typed m) (Broken gs) h g = g
        by_both (Broken fs) (Typed v) h g = h
        by_both (Broken fs) (Broken gs) h g = λ none. h (first_empty fs gs none)

    behind_right : (fs : List Fault) (j : Judged Called) → AllCall j → AllCall (behind_faults fs j)
    behind_right [] j h = h
    behind_right (f ∷ fs) j h = λ none. absurd cc

    requested_right : (cast : Option Spec) (z : Size) (at : ℕ) (s : Scope) → Here s → behind at ≡ true → size_stands behind z ≡ true → AllCall (requested cast z at s).1
    requested_right cast z at s here after h =
        let c = cast_of cast s in
        let first : Here c.0 = cast_stands d behind cast s here in
        let u = unit_measured z.unit z.at c.0 in
        behind_right c.1.faults (request_of u.0 c.1.made at u.1 z.count)
        (request_right u.0 (unit_stands z.unit z.at c.0 first) c.1.made at u.1 z.count (unit_right z.unit at z.at c.0 first after) h)

    -- printing

    put_right : (s : Scope) → Here s → (at : ℕ) (a : Arg) → arg_stands behind a ≡ true → AllCall (put_char at (argument s (Some ty.Int) a))
    put_right s here at a h =
        let c = argument s (Some ty.Int) a in
        unless_right (record { call = made.Putchar c.made at; gives = gives.Nothing; at = at }) c.faults
        (λ none. record { fits = int_goes (sort_of d c.made) (argument_goes ty.Int a.at (judged s a.expr false) (expr_right d behind s here a.expr h false) none); gives = tt })

    printed_right : (s : Scope) → Here s → (text : List ℕ) (text_at : ℕ) (args : List Arg) (at close : ℕ) → list_all (arg_stands behind) args ≡ true → AllCall (printed s text text_at args at close)
    printed_right s here text text_at args at close h = by_text (directives text) refl
      where
        long : (n : ℕ) → length (replicate n ty.Int) ≡ n
        long zero = refl
        long (suc n) = ap suc (long n)

        by_text : (o : Option ℕ) → directives text ≡ o → AllCall (printed_by s text text_at args at close o)
        by_text None e = λ none. absurd cc
        by_text (Some n) e =
            let cs = arguments s (replicate n ty.Int) args in
            unless_right (record { call = made.Printf text cs.made at; gives = gives.Nothing; at = at }) (miscounted cs.faults n (length args) close)
            (λ none.
            let right = counted_right cs.faults n (length args) close none in
            let ints = ints_go n cs.made (all_go s here (replicate n ty.Int) args h (long n ∙ right.1) right.0) in
            record {
              fits = ap (λ (b : Bool). b && has (λ k. k == length cs.made) (made_directives text)) ints.0
                  ∙ ap (has (λ k. k == length cs.made)) (sym (same_directives text) ∙ e) ∙ eq-eqb n (length cs.made) ints.1;
              gives = tt;
            })

    -- a call that breaks no rule fits
    pub call_right : (w : Walk) → Here w.scope
        → ((n : Word) (f k : ℕ) (g : Signature) → callee_of w n ≡ callee.Defined f k → slice_get w.signatures k ≡ Some g → IsCallee d f g)
        → (c : Call) → call_stands behind c ≡ true → AllCall (walked_call c w).1
    call_right w here callees (call.User n args close) h = user_right w here callees n args close h
    call_right w here callees (call.Malloc cast z at) h =
        let parts = and_parts (behind at) (size_stands behind z) h in requested_right cast z at w.scope here parts.0 parts.1
    call_right w here callees (call.Getchar at) h = record { fits = refl; gives = refl }
    call_right w here callees (call.Putchar a at) h = put_right w.scope here at a h
    call_right w here callees (call.Printf text text_at args at close) h = printed_right w.scope here text text_at args at close h
