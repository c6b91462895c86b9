-- The variables of a text's program have types, constants and names that fit their homes.
use Rattle.std.proofs.Common.{◌≡◌, ℕ, zero, suc, ◌<◌, ◌≤◌, ◌==◌, Bool, true, false, ◌&&◌, ◌||◌, ℤ, List, [], ◌∷◌, ◌++◌, length, map, Option, Some, None, option_map, refl, sym, ap, subst, ◌∙◌, arith, append-nil, append_assoc}
use Rattle.std.specs.Prelude.{slice_get, slice_set, nat_lt, pos, negsuc, neg_ℤ, ◌^◌, if◌then◌else◌, IsTrue}
use Rattle.std.specs.List.{fold, list_all}
use Rattle.std.specs.Option.{option_and_then}
use Rattle.std.specs.Ordering.{int_eq}
use Rattle.std.proofs.lemmas.Bool.{and_parts, eq-eqb, ltb-true, ltb-false, lt-ltb}
use Rattle.std.proofs.lemmas.Bool.Decides.{Decides-int_eq}
use Rattle.std.proofs.lemmas.List.{map-append}
use Rattle.std.proofs.lemmas.List.Folds.{list_all-append}
use Rattle.std.proofs.lemmas.Option.{slice_get-map}
use Rattle.c_tree.specs.AlikeTest.{same_ty}
use Rattle.c_tree.specs.Typing.{Prototype, Declarations, declarations, prototype, has, if_any, fits as fits_int, result_of}
use Rattle.c_tree.specs.WellFormed.{type_exists, home_fits, name_fits, variable_fits}
use Rattle.c_tree.specs.declared.expr.Expr.TheVariants as expr
use Rattle.c_tree.specs.declared.expr.Sign.TheVariants as sign
use Rattle.c_tree.specs.declared.program.FunDef.{FunDef}
use Rattle.c_tree.specs.declared.program.Home.{Home}
use Rattle.c_tree.specs.declared.program.Home.TheVariants as home
use Rattle.c_tree.specs.declared.program.Program.{Program}
use Rattle.c_tree.specs.declared.program.Ty.{Ty}
use Rattle.c_tree.specs.declared.program.Ty.TheVariants as ty
use Rattle.c_tree.specs.declared.program.VarDef.{VarDef}
use Rattle.c_tree.specs.declared.tree.Block.{Block}
use Rattle.c_tree.specs.declared.tree.Body.{Body}
use Rattle.c_tree.specs.declared.tree.Expr.{Expr, Expr-F, map-Expr, fold-roll-Expr, ind-Expr}
use Rattle.c_tree.specs.declared.tree.Expr.TheOpen.{Const, Null, Var, Field, Deref, Index, Unary, Binary}
use Rattle.c_tree.specs.declared.tree.GlobalDecl.{GlobalDecl}
use Rattle.c_tree.specs.declared.tree.Head.{Head}
use Rattle.c_tree.specs.declared.tree.Top.{Top}
use Rattle.c_tree.specs.declared.tree.Top.TheVariants as top
use Rattle.c_tree.specs.declared.tree.Tree.{Tree}
use Rattle.c_tree.specs.declared.tree.Word.{Word}
use Rattle.c_types.specs.declared.faults.Fault.{Fault}
use Rattle.c_types.specs.declared.faults.Rule.TheVariants as rule
use Rattle.c_types.specs.declared.judged.Judged.{Judged}
use Rattle.c_types.specs.declared.judged.Judged.TheVariants.{Typed, Broken}
use Rattle.c_types.specs.declared.judged.Sort.TheVariants.{Of, AnyPointer}
use Rattle.c_types.specs.declared.judged.Value.{Value}
use Rattle.c_types.specs.declared.scope.Entry.{Entry}
use Rattle.c_types.specs.declared.scope.Heading.{Heading}
use Rattle.c_types.specs.declared.scope.Heading.TheVariants as heading
use Rattle.c_types.specs.declared.scope.Meaning.{Meaning}
use Rattle.c_types.specs.declared.scope.Meaning.TheVariants as meaning
use Rattle.c_types.specs.declared.scope.Returned.{Returned}
use Rattle.c_types.specs.declared.scope.Returned.TheVariants as returned
use Rattle.c_types.specs.declared.scope.Scope.{Scope}
use Rattle.c_types.specs.declared.scope.Signature.{Signature}
use Rattle.c_types.specs.declared.scope.StructRow.{StructRow}
use Rattle.c_types.specs.declared.scope.Walk.{Walk}
use Rattle.c_types.specs.declared.scope.Written.{Written}
use Rattle.c_types.specs.declared.scope.Written.TheVariants.{Good, Bad}
use Rattle.c_types.specs.Expressions.{typed, of_int, signed, judged_layer, judged}
use Rattle.c_types.specs.Fits.{fits, is_int, is_zero, is_zero_layer}
use Rattle.c_types.specs.Functions.{noted_again, marked, with_body, function_as, function_by, main_faults, function_named, walked_heading, slot_of, with_slot, result_or_none, brace_of, walked_fun, walked_proto}
use Rattle.c_types.specs.Judged.{breaks, of_one}
use Rattle.c_types.specs.Offsets.{layer_stands, expr_stands, global_stands, bodies_of, is_behind_all, StandsFrom, FitsText}
use Rattle.c_types.specs.Program.{start, walked_top, walked_from, walked, definitions, IsProgram}
use Rattle.c_types.specs.Scopes.{noted, with_scope, named_by, or_int, var_of, declared, type_faults}
use Rattle.c_types.specs.Structs.{with_row, row_again, walked_fields, body_if, alias_if, numbered, walked_struct, opposite, opposite_of, constant_layer, constant, number_or_zero, start_number, start_faults, start_noted, walked_global}
use Rattle.c_types.specs.Tables.{found}
use Rattle.c_types.proofs.Functionwise.{all_sofar, headed_clean, definition_funs}
use Rattle.c_types.proofs.Headings.{clean_unless}
use Rattle.c_types.proofs.Growing.{declared_grows}
use Rattle.c_types.proofs.Numbering.{Keeps, first_empty}
use Rattle.c_types.proofs.NumberingCalls.{second_empty}
use Rattle.c_types.proofs.NumberingLeaves.{gap_numbers, gap_count}
use Rattle.c_types.proofs.NumberingTops.{gap_tops, heading_quiet, struct_quiet}
use Rattle.c_types.proofs.Passing.{no_home, types_of, head_types, types_grow, numbered_grows, fields_grow, headed, with_params, inside, left, made_of, params_grow, inside_grows}
use Rattle.c_types.proofs.ProgramRules.{type_known}
use Rattle.c_types.proofs.Rows.{get_first, get_last, all_weaker}
use Rattle.c_types.proofs.Standing.{there, Grows}
use Rattle.c_types.proofs.TypedParts.{declared_good, declared_vars}

-- constants

-- the opposite of a number that has one fits
opposite_fits : (m n : ℤ) → fits_int m ≡ true → opposite m ≡ Some n → fits_int n ≡ true
opposite_fits m n h o = by_least (int_eq m (neg_ℤ (pos (2 ^ 31)))) refl o
  where
    turned : (m : ℤ) → fits_int m ≡ true → int_eq m (neg_ℤ (pos (2 ^ 31))) ≡ false → fits_int (neg_ℤ m) ≡ true
    turned (pos zero) h e = refl
    turned (pos (suc k)) h e =
        let within : suc k < 2 ^ 31 = ltb-true (suc k) (2 ^ 31) h in
        let less : k < 2 ^ 31 = omega arith in
        lt-ltb k (2 ^ 31) less
    turned (negsuc k) h e = by_next (nat_lt (suc k) (2 ^ 31)) refl
      where
        by_next : (b : Bool) → nat_lt (suc k) (2 ^ 31) ≡ b → b ≡ true
        by_next true less = refl
        by_next false less =
            let within : k < 2 ^ 31 = ltb-true k (2 ^ 31) h in
            let not_more : 2 ^ 31 ≤ suc k = ltb-false (suc k) (2 ^ 31) less in
            let last : k ≡ 2147483647 = omega arith in
            let two : false ≡ true = sym e ∙ (Decides-int_eq (negsuc k) (neg_ℤ (pos (2 ^ 31)))).1 (ap negsuc last) in
            absurd cc

    by_least : (b : Bool) → int_eq m (neg_ℤ (pos (2 ^ 31))) ≡ b → (if b then None else Some (neg_ℤ m)) ≡ Some n → fits_int n ≡ true
    by_least true e o = absurd cc
    by_least false e o = let is : neg_ℤ m ≡ n = cc in subst (λ (z : ℤ). fits_int z ≡ true) is (turned m h e)

-- a constant fits a type of a global where its value does: a pointer starts at null
abbrev global_fits : Ty → ℤ → Bool
global_fits t n = fits_int n && (same_ty t ty.Int || int_eq n (pos 0))

-- what is found of a constant
record IsConstant (n : ℤ) (j : Judged Value) : Type 0 where
  number : fits_int n ≡ true
  value : (v : Value) (t : Ty) → j ≡ Typed v → fits t v ≡ true → (same_ty t ty.Int || int_eq n (pos 0)) ≡ true
  broken : j ≡ Broken [] → ⊥

or_true : (b : Bool) → (b || true) ≡ true
or_true true = refl
or_true false = refl

module _ (behind : ℕ → Bool) (s : Scope) where
  abbrev Constantly : (Bool → Judged Value) → Bool → Option ℤ → Type 0
  Constantly j stands c = stands ≡ true → (n : ℤ) → c ≡ Some n → IsConstant n (j false)

  abbrev Holds : Expr → Type 0
  Holds e = Constantly (judged s e) (expr_stands behind e) (constant e)

  abbrev bare : Expr-F ((e : Expr) × Holds e) → Expr-F Expr
  bare = map-Expr ((e : Expr) × Holds e) Expr (λ e. e.0)

  abbrev LayerHolds : Expr-F Expr → Type 0
  LayerHolds x = Constantly (judged_layer s (map-Expr Expr (Bool → Judged Value) (judged s) x)) (layer_stands behind (map-Expr Expr Bool (expr_stands behind) x)) (constant_layer (map-Expr Expr (Option ℤ) constant x))

  zero_of : (n : ℤ) (at : ℕ) → is_zero (expr.Const n at) ≡ int_eq n (pos 0)
  zero_of n at = ap is_zero_layer (expr.outs-Const n at)

  constant_holds : (m : ℤ) (at : ℕ) → fits_int m ≡ true → IsConstant m (of_int (expr.Const m at))
  constant_holds m at h = record {
    number = h;
    value = λ v t is f.
        let same : record { expr = expr.Const m at; sort = Of ty.Int } ≡ v = cc in
        by_type t (subst (λ (u : Value). fits t u ≡ true) (sym same) f);
    broken = λ is. absurd cc;
  }
    where
      by_type : (t : Ty) → fits t (record { expr = expr.Const m at; sort = Of ty.Int }) ≡ true → (same_ty t ty.Int || int_eq m (pos 0)) ≡ true
      by_type ty.Int f = refl
      by_type ty.IntPtr f = sym (zero_of m at) ∙ f
      by_type (ty.StructPtr n) f = sym (zero_of m at) ∙ f

  -- a number with a sign
  minus_holds : (n : ℤ) (at : ℕ) (j : Judged Value) → fits_int n ≡ true → (j ≡ Broken [] → ⊥) → IsConstant n (of_one (signed sign.Minus at) j)
  minus_holds n at (Broken fs) h b = record {
    number = h;
    value = λ v t is f. absurd cc;
    broken = λ is. b is;
  }
  minus_holds n at (Typed u) h b = by_sort (is_int u.sort)
    where
      by_type : (t : Ty) → fits t (record { expr = expr.Unary sign.Minus u.expr at; sort = Of ty.Int }) ≡ true → (same_ty t ty.Int || int_eq n (pos 0)) ≡ true
      by_type ty.Int f = refl
      by_type ty.IntPtr f = let no : false ≡ true = sym (ap is_zero_layer (expr.outs-Unary sign.Minus u.expr at)) ∙ f in absurd cc
      by_type (ty.StructPtr n) f = let no : false ≡ true = sym (ap is_zero_layer (expr.outs-Unary sign.Minus u.expr at)) ∙ f in absurd cc

      by_sort : (b : Bool) → IsConstant n (if b then of_int (expr.Unary sign.Minus u.expr at) else breaks rule.Operands at)
      by_sort true = record {
        number = h;
        value = λ v t is f.
            let same : record { expr = expr.Unary sign.Minus u.expr at; sort = Of ty.Int } ≡ v = cc in
            by_type t (subst (λ (u : Value). fits t u ≡ true) (sym same) f);
        broken = λ is. absurd cc;
      }
      by_sort false = record { number = h; value = λ v t is f. absurd cc; broken = λ is. absurd cc }

  layer_holds : (y : Expr-F ((e : Expr) × Holds e)) → LayerHolds (bare y)
  layer_holds (Const m at) h n c = let same : m ≡ n = cc in subst (λ (k : ℤ). IsConstant k (of_int (expr.Const m at))) same (constant_holds m at h)
  layer_holds (Null at) h n c =
      let same : pos 0 ≡ n = cc in
      subst (λ (k : ℤ). IsConstant k (typed (expr.Null at) AnyPointer)) same (record { number = refl; value = λ v t is f. or_true (same_ty t ty.Int); broken = λ is. absurd cc })
  layer_holds (Var w) h n c = absurd cc
  layer_holds (Field e w at) h n c = absurd cc
  layer_holds (Deref e at) h n c = absurd cc
  layer_holds (Index e i at) h n c = absurd cc
  layer_holds (Unary sign.Not e at) h n c = absurd cc
  layer_holds (Binary o a b at) h n c = absurd cc
  layer_holds (Unary sign.Minus e at) h n c = by_inner (constant e.0) refl c
    where
      by_inner : (o : Option ℤ) → constant e.0 ≡ o → opposite_of o ≡ Some n → IsConstant n (of_one (signed sign.Minus at) (judged s e.0 false))
      by_inner None is c = absurd cc
      by_inner (Some m) is c =
          let inner = e.1 h m is in
          minus_holds n at (judged s e.0 false) (opposite_fits m n inner.number c) inner.broken

  -- what is found of a constant expression
  constant_right : (e : Expr) → Holds e
  constant_right = ind-Expr Holds (λ x y is.
      let layer : LayerHolds x = subst LayerHolds is (layer_holds y) in
      λ h n c.
      subst (λ (j : Bool → Judged Value). IsConstant n (j false)) (sym (fold-roll-Expr (Bool → Judged Value) (judged_layer s) x))
      (layer (sym (fold-roll-Expr Bool (layer_stands behind) x) ∙ h) n (sym (fold-roll-Expr (Option ℤ) constant_layer x) ∙ c)))

  -- a global whose initialiser breaks no rule starts with a number that fits
  start_fits : (t : Ty) (at : ℕ) (e : Expr) → expr_stands behind e ≡ true → start_faults (Good t) at (constant e) (judged s e false) ≡ [] → global_fits t (number_or_zero (constant e)) ≡ true
  start_fits t at e h none = by_constant (constant e) refl none
    where
      by_judged : (n : ℤ) (j : Judged Value) → IsConstant n j → start_faults (Good t) at (Some n) j ≡ [] → global_fits t n ≡ true
      by_judged n (Typed v) c none = ap (λ (b : Bool). b && (same_ty t ty.Int || int_eq n (pos 0))) c.number ∙ c.value v t refl (clean_unless (fits t v) rule.TypesDiffer at none)
      by_judged n (Broken fs) c none = absurd (c.broken (ap (λ (gs : List Fault). Broken gs) none))

      by_constant : (o : Option ℤ) → constant e ≡ o → start_faults (Good t) at o (judged s e false) ≡ [] → global_fits t (number_or_zero o) ≡ true
      by_constant None is none = or_true (same_ty t ty.Int)
      by_constant (Some n) is none = by_judged n (judged s e false) (constant_right e h n is) none

-- homes, so far

-- the types of the functions so far
abbrev functions_only : List FunDef → Declarations
functions_only funs = record { structs = []; known = λ at body. true; vars = []; funs = map prototype funs; main = 0 }

-- a variable fits its home
abbrev fits_home : List FunDef → VarDef → Bool
fits_home funs v = home_fits (functions_only funs) v.ty v.home && name_fits v.name v.home

-- parameters and locals
abbrev is_own_home : Home → Bool
is_own_home (home.Param f) = true
is_own_home (home.Local f) = true
is_own_home (home.Global n) = false
is_own_home (home.Result f) = false

abbrev is_own : VarDef → Bool
is_own v = is_own_home v.home

same_type : (t : Ty) → same_ty t t ≡ true
same_type ty.Int = refl
same_type ty.IntPtr = refl
same_type (ty.StructPtr n) = eq-eqb n n refl

own_fits : (funs : List FunDef) (v : VarDef) → is_own v ≡ true → fits_home funs v ≡ true
own_fits funs v h = by_home v.home h
  where
    by_home : (x : Home) → is_own_home x ≡ true → (home_fits (functions_only funs) v.ty x && name_fits v.name x) ≡ true
    by_home (home.Param f) h = refl
    by_home (home.Local f) h = refl
    by_home (home.Global n) h = absurd cc
    by_home (home.Result f) h = absurd cc

-- with a function more a variable still fits its home
home_more : (funs : List FunDef) (d : FunDef) (v : VarDef) → fits_home funs v ≡ true → fits_home (funs ++ d ∷ []) v ≡ true
home_more funs d v h = by_home v.home h
  where
    by_function : (f : ℕ) (o : Option Prototype) → slice_get (map prototype funs) f ≡ o → has (same_ty v.ty) (option_and_then (λ (q : Prototype). q.result) o) ≡ true
        → has (same_ty v.ty) (result_of (functions_only (funs ++ d ∷ [])) f) ≡ true
    by_function f None is h = absurd cc
    by_function f (Some q) is h =
        ap (λ (o : Option Prototype). has (same_ty v.ty) (option_and_then (λ (q : Prototype). q.result) o))
        (ap (λ (qs : List Prototype). slice_get qs f) (map-append prototype funs (d ∷ [])) ∙ get_first (map prototype funs) (prototype d ∷ []) f q is) ∙ h

    by_home : (x : Home) → (home_fits (functions_only funs) v.ty x && name_fits v.name x) ≡ true → (home_fits (functions_only (funs ++ d ∷ [])) v.ty x && name_fits v.name x) ≡ true
    by_home (home.Global n) h = h
    by_home (home.Param f) h = h
    by_home (home.Local f) h = h
    by_home (home.Result f) h =
        let parts = and_parts (has (same_ty v.ty) (result_of (functions_only funs) f)) (length v.name == 0) h in
        ap (λ (b : Bool). b && (length v.name == 0)) (by_function f (slice_get (map prototype funs) f) refl parts.0) ∙ parts.1

-- the way through a file

-- from one walk to another only parameters and locals are declared
record Adds (w u : Walk) : Type 0 where
  more : List VarDef
  vars : u.vars ≡ w.vars ++ more
  own : list_all is_own more ≡ true

adds_none : (w u : Walk) → u.vars ≡ w.vars → Adds w u
adds_none w u same = record { more = []; vars = same ∙ sym (append-nil w.vars); own = refl }

adds_both : (w u v : Walk) → Adds w u → Adds u v → Adds w v
adds_both w u v a b = record {
  more = a.more ++ b.more;
  vars = b.vars ∙ ap (λ (xs : List VarDef). xs ++ b.more) a.vars ∙ append_assoc w.vars a.more b.more;
  own = list_all-append is_own a.more b.more ∙ ap (λ (t : Bool). t && list_all is_own b.more) a.own ∙ b.own;
}

all_own : (h : Home) (vs : List VarDef) → is_own_home h ≡ true → ((k : ℕ) (v : VarDef) → slice_get vs k ≡ Some v → v.home ≡ h) → list_all is_own vs ≡ true
all_own h [] own homes = refl
all_own h (v ∷ vs) own homes =
    ap (λ (t : Bool). t && list_all is_own vs) (ap is_own_home (homes 0 v refl) ∙ own) ∙ all_own h vs own (λ k x is. homes (suc k) x is)

grows_adds : (h : Home) (w u : Walk) → is_own_home h ≡ true → Grows h w u → Adds w u
grows_adds h w u own g = record { more = g.more_vars; vars = g.vars; own = all_own h g.more_vars own g.homes }

-- headings

marked_vars : (k : ℕ) (o : Option Signature) (w : Walk) → (marked k o w).vars ≡ w.vars
marked_vars k None w = refl
marked_vars k (Some g) w = refl

again_vars : (n : Word) (body : Bool) (h : Heading) (o : Option Signature) (w : Walk) → (noted_again n body h o w).vars ≡ w.vars
again_vars n body h None w = refl
again_vars n body h (Some g) w = refl

come_vars : (body : Bool) (k : ℕ) (w : Walk) → (with_body body k w).vars ≡ w.vars
come_vars true k w = marked_vars k (slice_get w.signatures k) w
come_vars false k w = refl

as_vars : (n : Word) (body : Bool) (h : Heading) (m : Meaning) (w : Walk) → (function_as n body h m w).vars ≡ w.vars
as_vars n body h (meaning.Function k) w = come_vars body k (noted_again n body h (slice_get w.signatures k) w) ∙ again_vars n body h (slice_get w.signatures k) w
as_vars n body h (meaning.Bad f) w = refl
as_vars n body h (meaning.Variable m t) w = refl
as_vars n body h (meaning.Alias s) w = refl

by_vars : (n : Word) (body : Bool) (h : Heading) (o : Option Entry) (w : Walk) → (function_by n body h o w).vars ≡ w.vars
by_vars n body (heading.Bad f) None w = refl
by_vars n body (heading.Good g) None w = refl
by_vars n body h (Some e) w = as_vars n body h e.meaning w

named_vars : (h : Head) (body : Bool) (t : Heading) (o : Option Word) (w : Walk) → (function_named h body t o w).vars ≡ w.vars
named_vars h body t None w = refl
named_vars h body t (Some n) w = by_vars n body t (found w.scope.names n.text) (noted (main_faults h n) w)

heading_adds : (h : Head) (body : Bool) (w : Walk) → Adds w (walked_heading h body w).0
heading_adds h body w =
    adds_both w (head_types h w) (walked_heading h body w).0 (grows_adds no_home w (head_types h w) refl (types_grow no_home h w))
    (adds_none (head_types h w) (walked_heading h body w).0 (named_vars h body (types_of h w) h.result.name (head_types h w)))

-- structs

row_vars : (k : ℕ) (row : StructRow) (w : Walk) → (with_row k row w).vars ≡ w.vars
row_vars k row w = by_place (nat_lt k (length w.scope.structs))
  where
    by_place : (b : Bool) → (if b then with_scope w (record w.scope { structs = slice_set w.scope.structs k row }) else w).vars ≡ w.vars
    by_place true = refl
    by_place false = refl

body_adds : (tag : Option Word) (k : ℕ) (o : Option Body) (w : Walk) → Adds w (body_if tag k o w)
body_adds tag k None w = adds_none w w refl
body_adds tag k (Some b) w =
    let u = noted (row_again (slice_get w.scope.structs k) tag) w in
    let r = walked_fields b.fields u in
    adds_both w r.0 (body_if tag k (Some b) w)
    (adds_both w u r.0 (adds_none w u refl) (grows_adds no_home u r.0 refl (fields_grow no_home b.fields (u, []))))
    (adds_none r.0 (body_if tag k (Some b) w) (row_vars k (record { fields = r.1; body = Some b.at }) r.0))

older_vars : (n : Word) (e : Entry) (w : Walk) (o : Option Entry) → (named_by n e w o).vars ≡ w.vars
older_vars n e w None = refl
older_vars n e w (Some older) = refl

alias_vars : (n : ℕ) (o : Option Word) (w : Walk) → (alias_if n o w).vars ≡ w.vars
alias_vars n None w = refl
alias_vars n (Some a) w = older_vars a (record { meaning = meaning.Alias n; depth = 0 }) w (found w.scope.names a.text)

struct_adds : (tag : Option Word) (body : Option Body) (alias : Option Word) (w : Walk) → Adds w (walked_struct tag body alias w)
struct_adds tag body alias w =
    let r = numbered tag w.scope in
    let v = with_scope w r.0 in
    let u = body_if tag r.1 body v in
    adds_both w u (walked_struct tag body alias w)
    (adds_both w v u (grows_adds no_home w v refl (numbered_grows no_home tag w)) (body_adds tag r.1 body v)) (adds_none u (walked_struct tag body alias w) (alias_vars r.1 alias u))

-- where no rule is broken, the variables so far fit their homes
record Homed (w : Walk) : Type 0 where
  fit : w.faults ≡ [] → list_all (fits_home w.funs) w.vars ≡ true

-- a declaration that is no function, by what it adds
quiet_homed : (w u : Walk) → Keeps gap_count w u → Adds w u → Homed w → Homed u
quiet_homed w u k a h = record {
  fit = λ c.
      ap (λ (ds : List FunDef). list_all (fits_home ds) u.vars) k.funs
      ∙ ap (list_all (fits_home w.funs)) a.vars ∙ list_all-append (fits_home w.funs) w.vars a.more
      ∙ ap (λ (b : Bool). b && list_all (fits_home w.funs) a.more) (h.fit (k.clean c))
      ∙ all_weaker is_own (fits_home w.funs) (own_fits w.funs) a.more a.own;
}

-- variables of the file

noted_vars : (at : ℕ) (o : Option Expr) (r : Walk × Written) → (start_noted at o r).vars ≡ r.0.vars
noted_vars at None r = refl
noted_vars at (Some e) r = refl

noted_funs : (at : ℕ) (o : Option Expr) (r : Walk × Written) → (start_noted at o r).funs ≡ r.0.funs
noted_funs at None r = refl
noted_funs at (Some e) r = refl

noted_clean : (at : ℕ) (o : Option Expr) (r : Walk × Written) → (start_noted at o r).faults ≡ [] → r.0.faults ≡ []
noted_clean at None r c = c
noted_clean at (Some e) r c = first_empty r.0.faults (start_faults r.1 at (constant e) (judged r.0.scope e false)) c

-- a global fits its home
global_good : (behind : ℕ → Bool) (at : ℕ) (o : Option Expr) (r : Walk × Written) → if_any (expr_stands behind) o ≡ true → type_faults r.1 ≡ [] → (start_noted at o r).faults ≡ []
    → global_fits (or_int r.1) (start_number o) ≡ true
global_good behind at None r h good c = or_true (same_ty (or_int r.1) ty.Int)
global_good behind at (Some e) r h good c =
    by_written r.1 good (second_empty r.0.faults (start_faults r.1 at (constant e) (judged r.0.scope e false)) c)
  where
    by_written : (t : Written) → type_faults t ≡ [] → start_faults t at (constant e) (judged r.0.scope e false) ≡ [] → global_fits (or_int t) (start_number (Some e)) ≡ true
    by_written (Bad f) good none = absurd cc
    by_written (Good t) good none = start_fits behind r.0.scope t at e h none

global_homed : (behind : ℕ → Bool) (d : GlobalDecl) (w : Walk) → global_stands behind d ≡ true → Homed w → Homed (walked_global d w)
global_homed behind d w h homed = record {
  fit = λ c.
      let p = home.Global (start_number d.value) in
      let r = declared d.spec p 0 w in
      let u = walked_global d w in
      let x = var_of d.spec r.1 p in
      let g = declared_grows d.spec p 0 w in
      let clean : r.0.faults ≡ [] = noted_clean d.at d.value r c in
      let vars : u.vars ≡ w.vars ++ x ∷ [] = noted_vars d.at d.value r ∙ declared_vars d.spec p 0 w in
      let one : fits_home w.funs x ≡ true = ap (λ (b : Bool). b && true) (global_good behind d.at d.value r h (declared_good d.spec p 0 w clean) c) in
      ap (λ (ds : List FunDef). list_all (fits_home ds) u.vars) (noted_funs d.at d.value r ∙ g.funs)
      ∙ ap (list_all (fits_home w.funs)) vars ∙ list_all-append (fits_home w.funs) w.vars (x ∷ [])
      ∙ ap (λ (b : Bool). b && list_all (fits_home w.funs) (x ∷ [])) (homed.fit (g.clean clean)) ∙ ap (λ (b : Bool). b && true) one;
}

globals_homed : (behind : ℕ → Bool) (ds : List GlobalDecl) (w : Walk) → list_all (global_stands behind) ds ≡ true → Homed w → Homed (fold (λ v d. walked_global d v) w ds)
globals_homed behind [] w h homed = homed
globals_homed behind (d ∷ ds) w h homed =
    let parts = and_parts (global_stands behind d) (list_all (global_stands behind) ds) h in
    globals_homed behind ds (walked_global d w) parts.1 (global_homed behind d w parts.0 homed)

-- functions

-- behind a function's slot its variables fit
slot_homed : (t : Returned) (funs : List FunDef) (x : FunDef) (at : ℕ) (v : Walk) → x.result ≡ result_or_none t → list_all (fits_home (funs ++ x ∷ [])) v.vars ≡ true
    → list_all (fits_home (funs ++ x ∷ [])) (with_slot t (length funs) at v).vars ≡ true
slot_homed returned.Nothing funs x at v is h = h
slot_homed (returned.Bad e) funs x at v is h = h
slot_homed (returned.Value t) funs x at v is h =
    let all = funs ++ x ∷ [] in
    let s = slot_of t (length funs) at in
    let here : slice_get (map prototype all) (length funs) ≡ Some (prototype x) =
    slice_get-map prototype all (length funs) ∙ ap (option_map prototype) (get_last funs x) in
    let same : has (same_ty t) (result_of (functions_only all) (length funs)) ≡ true =
    ap (λ (o : Option Prototype). has (same_ty t) (option_and_then (λ (q : Prototype). q.result) o)) here ∙ ap (has (same_ty t)) is ∙ same_type t in
    list_all-append (fits_home all) v.vars (s ∷ []) ∙ ap (λ (b : Bool). b && list_all (fits_home all) (s ∷ [])) h ∙ ap (λ (b : Bool). b && true && true) same

function_homed : (h : Head) (body : Block) (w : Walk) → Homed w → Homed (walked_fun h body w)
function_homed h body w homed = record {
  fit = λ c.
      let f = length w.funs in
      let r = headed h body w in
      let ps = with_params h body w in
      let b = inside h body w in
      let l = left h body w in
      let x = made_of h body w in
      let all = w.funs ++ x ∷ [] in
      let a = adds_both w r.0 b.0 (heading_adds h true w)
      (adds_both r.0 ps.0 b.0 (grows_adds (home.Param f) r.0 ps.0 refl (params_grow h body w)) (grows_adds (home.Local f) ps.0 b.0 refl (inside_grows h body w))) in
      let before : w.faults ≡ [] = (heading_quiet gap_numbers gap_count gap_tops h true w).clean (headed_clean h body w c) in
      let old : list_all (fits_home all) w.vars ≡ true = all_weaker (fits_home w.funs) (fits_home all) (home_more w.funs x) w.vars (homed.fit before) in
      let new : list_all (fits_home all) a.more ≡ true = all_weaker is_own (fits_home all) (own_fits all) a.more a.own in
      let both : list_all (fits_home all) l.vars ≡ true =
      ap (list_all (fits_home all)) a.vars ∙ list_all-append (fits_home all) w.vars a.more ∙ ap (λ (t : Bool). t && list_all (fits_home all) a.more) old ∙ new in
      ap (λ (ds : List FunDef). list_all (fits_home ds) (walked_fun h body w).vars) (definition_funs h body w)
      ∙ slot_homed r.1 w.funs x (brace_of body) l refl both;
}

-- a file

tops_homed : (bodies : List ℕ) (ts : List Top) (w : Walk) → StandsFrom bodies ts → Homed w → Homed (walked_from w ts)
tops_homed bodies [] w h homed = homed
tops_homed bodies (top.Struct tag body alias ∷ ts) w h homed =
    tops_homed (bodies ++ bodies_of (top.Struct tag body alias)) ts (walked_struct tag body alias w) h.1
    (quiet_homed w (walked_struct tag body alias w) (struct_quiet gap_numbers gap_count gap_tops tag body alias w) (struct_adds tag body alias w) homed)
tops_homed bodies (top.Globals ds ∷ ts) w h homed =
    tops_homed (bodies ++ bodies_of (top.Globals ds)) ts (walked_top w (top.Globals ds)) h.1 (globals_homed (is_behind_all bodies) ds w h.0 homed)
tops_homed bodies (top.Proto d ∷ ts) w h homed =
    tops_homed (bodies ++ bodies_of (top.Proto d)) ts (walked_proto d w) h.1
    (quiet_homed w (walked_proto d w) (heading_quiet gap_numbers gap_count gap_tops d false w) (heading_adds d false w) homed)
tops_homed bodies (top.Fun d body ∷ ts) w h homed =
    tops_homed (bodies ++ bodies_of (top.Fun d body)) ts (walked_fun d body w) h.1 (function_homed d body w homed)

same_homes : (p : Program) (v : VarDef) → fits_home p.funs v ≡ true → (home_fits (declarations p) v.ty v.home && name_fits v.name v.home) ≡ true
same_homes p v h = by_home v.home h
  where
    by_home : (x : Home) → (home_fits (functions_only p.funs) v.ty x && name_fits v.name x) ≡ true → (home_fits (declarations p) v.ty x && name_fits v.name x) ≡ true
    by_home (home.Global n) h = h
    by_home (home.Param f) h = h
    by_home (home.Local f) h = h
    by_home (home.Result f) h = h

-- variables have constants and names that fit their homes
program_homes : (t : Tree) (p : Program) → IsProgram t p → FitsText t → IsTrue (list_all (λ (v : VarDef). home_fits (declarations p) v.ty v.home && name_fits v.name v.home) p.vars)
program_homes t p is fits =
    let all = (tops_homed [] t.tops (start (definitions t.tops)) fits (record { fit = λ c. refl })).fit is.clean in
    all_weaker (fits_home p.funs) (λ (v : VarDef). home_fits (declarations p) v.ty v.home && name_fits v.name v.home) (same_homes p) p.vars
    (subst (λ (q : Program). list_all (fits_home q.funs) q.vars ≡ true) (sym is.made) all)

both_fit : (d : Declarations) (vs : List VarDef) → list_all (λ (v : VarDef). type_exists d v.ty) vs ≡ true → list_all (λ (v : VarDef). home_fits d v.ty v.home && name_fits v.name v.home) vs ≡ true
    → list_all (variable_fits d) vs ≡ true
both_fit d [] h g = refl
both_fit d (v ∷ vs) h g =
    let types = and_parts (type_exists d v.ty) (list_all (λ (v : VarDef). type_exists d v.ty) vs) h in
    let homes = and_parts (home_fits d v.ty v.home && name_fits v.name v.home) (list_all (λ (v : VarDef). home_fits d v.ty v.home && name_fits v.name v.home) vs) g in
    let parts = and_parts (home_fits d v.ty v.home) (name_fits v.name v.home) homes.0 in
    ap (λ (b : Bool). b && home_fits d v.ty v.home && name_fits v.name v.home && list_all (variable_fits d) vs) types.0
    ∙ ap (λ (b : Bool). b && name_fits v.name v.home && list_all (variable_fits d) vs) parts.0 ∙ ap (λ (b : Bool). b && list_all (variable_fits d) vs) parts.1 ∙ both_fit d vs types.1 homes.1

-- variables are what they are declared as
pub program_variables : (t : Tree) (p : Program) → IsProgram t p → FitsText t → IsTrue (list_all (variable_fits (declarations p)) p.vars)
program_variables t p is fits =
    let known = all_weaker (λ (v : VarDef). there (length (walked t).scope.structs) v.ty) (λ (v : VarDef). type_exists (declarations p) v.ty) (λ v. type_known t p is v.ty) (walked t).vars (all_sofar t is.clean).standing.vars in
    both_fit (declarations p) p.vars (subst (λ (q : Program). list_all (λ (v : VarDef). type_exists (declarations p) v.ty) q.vars ≡ true) (sym is.made) known) (program_homes t p is fits)
