-- An expression that has a type in the walk through a text has that type in the program.
use Rattle.std.proofs.Common.{◌≡◌, ℕ, suc, Bool, true, false, cond, ◌&&◌, ◌||◌, List, [], ◌∷◌, map, Option, Some, None, option_map, refl, sym, ap, subst, ◌∙◌}
use Rattle.std.specs.Prelude.{slice_get, if◌then◌else◌, pos}
use Rattle.std.specs.Option.{option_and_then}
use Rattle.std.specs.Ordering.{int_eq}
use Rattle.std.proofs.lemmas.Bool.{and_parts}
use Rattle.std.proofs.lemmas.Option.{slice_get-map}
use Rattle.c_tree.specs.AlikeTest.{same_ty}
use Rattle.c_tree.specs.Typing.{Declarations, var_type, fields_of, field_type, has, fits as fits_int, member, pointee, valued, int_if, on_numbers, is_int as made_int, are_comparable, on_comparable, on_conditions, Sort as MadeSort, Of as MadeOf, AnyPointer as MadeAny, Judged as MadeJudged, judged as made_judged, judged_layer as made_layer, combined as made_combined, sort_of, is_condition}
use Rattle.c_tree.specs.declared.expr.Expr.{Expr as Made, Expr-F as Made-F, out-Expr, roll-Expr as roll-Made, roll-out-Expr, map-Expr as map-Made, fold-roll-Expr as fold-roll-Made}
use Rattle.c_tree.specs.declared.expr.Expr.TheOpen as made
use Rattle.c_tree.specs.declared.expr.Expr.TheVariants as expr
use Rattle.c_tree.specs.declared.expr.Oper.{Oper}
use Rattle.c_tree.specs.declared.expr.Oper.TheVariants as oper
use Rattle.c_tree.specs.declared.expr.Sign.{Sign}
use Rattle.c_tree.specs.declared.expr.Sign.TheVariants as sign
use Rattle.c_tree.specs.declared.program.FieldDef.{FieldDef}
use Rattle.c_tree.specs.declared.program.Ty.{Ty}
use Rattle.c_tree.specs.declared.program.Ty.TheVariants as ty
use Rattle.c_tree.specs.declared.tree.Expr.{Expr, Expr-F, map-Expr, fold-roll-Expr, ind-Expr}
use Rattle.c_tree.specs.declared.tree.Expr.TheOpen.{Const, Null, Var, Field, Deref, Index, Unary, Binary}
use Rattle.c_tree.specs.declared.tree.Word.{Word}
use Rattle.c_types.specs.declared.faults.Rule.{Rule}
use Rattle.c_types.specs.declared.faults.Rule.TheVariants as rule
use Rattle.c_types.specs.declared.judged.Judged.{Judged}
use Rattle.c_types.specs.declared.judged.Judged.TheVariants.{Typed, Broken}
use Rattle.c_types.specs.declared.judged.Sort.{Sort}
use Rattle.c_types.specs.declared.judged.Sort.TheVariants.{Of, AnyPointer}
use Rattle.c_types.specs.declared.judged.Value.{Value}
use Rattle.c_types.specs.declared.scope.Entry.{Entry}
use Rattle.c_types.specs.declared.scope.Meaning.{Meaning}
use Rattle.c_types.specs.declared.scope.Meaning.TheVariants as meaning
use Rattle.c_types.specs.declared.scope.Scope.{Scope}
use Rattle.c_types.specs.declared.scope.StructRow.{StructRow}
use Rattle.c_types.specs.declared.scope.Written.{Written}
use Rattle.c_types.specs.declared.scope.Written.TheVariants.{Good, Bad}
use Rattle.c_types.specs.Expressions.{of_int, variable_as, variable_by, variable, field_by, field_in, field_of_row, field_at, field, points_to_int, deref, index, signed, computed, compared, joined, combined, under_sign, under_oper, judged_layer, judged}
use Rattle.c_types.specs.Fits.{points, is_int, same_sort, is_zero, is_zero_layer, pointer_layer, as_pointer, is_comparable, beside}
use Rattle.c_types.specs.Judged.{breaks, of_one, of_two}
use Rattle.c_types.specs.Offsets.{layer_stands, expr_stands}
use Rattle.c_types.specs.Program.{field_def}
use Rattle.c_types.specs.Scopes.{or_int}
use Rattle.c_types.specs.Tables.{same_name, found, place_of}
use Rattle.c_types.proofs.Numbering.{first_empty}

-- the type of a value, as the program's rules have it
abbrev pub made_sort : Sort → MadeSort
made_sort (Of t) = MadeOf t
made_sort AnyPointer = MadeAny

-- what the names and structs of a scope are in a program, at the offsets that `behind` allows
pub record Stands (d : Declarations) (behind : ℕ → Bool) (s : Scope) : Type 0 where
  pub variables : (name : List ℕ) (e : Entry) (n : ℕ) (t : Ty) → found s.names name ≡ Some e → e.meaning ≡ meaning.Variable n t → var_type d n ≡ Some t
  pub structs : (n : ℕ) (row : StructRow) (body at : ℕ) → slice_get s.structs n ≡ Some row → row.body ≡ Some body → behind at ≡ true
      → fields_of d at n ≡ Some (map field_def row.fields)

-- the value of a row by its place
value_at : {A : Type 0} (rows : List (List ℕ × A)) (name : List ℕ) (k : ℕ) (x : A) → place_of rows name ≡ Some k → found rows name ≡ Some x
    → option_map (λ (r : List ℕ × A). r.1) (slice_get rows k) ≡ Some x
value_at [] name k x p f = absurd cc
value_at {A} (row ∷ rows) name k x p f = by_head (same_name name row.0) (place_of rows name) p f (λ j. value_at rows name j x)
  where
    by_head : (b : Bool) (o : Option ℕ) → cond b (Some 0) (option_map suc o) ≡ Some k → cond b (Some row.1) (found rows name) ≡ Some x
        → ((j : ℕ) → o ≡ Some j → found rows name ≡ Some x → option_map (λ (r : List ℕ × A). r.1) (slice_get rows j) ≡ Some x)
        → option_map (λ (r : List ℕ × A). r.1) (slice_get (row ∷ rows) k) ≡ Some x
    by_head true o p f rest =
        let e : 0 ≡ k = cc in
        subst (λ (j : ℕ). option_map (λ (r : List ℕ × A). r.1) (slice_get (row ∷ rows) j) ≡ Some x) e f
    by_head false None p f rest = absurd cc
    by_head false (Some j) p f rest =
        let e : suc j ≡ k = cc in
        subst (λ (i : ℕ). option_map (λ (r : List ℕ × A). r.1) (slice_get (row ∷ rows) i) ≡ Some x) e (rest j refl f)

module _ (d : Declarations) where
  -- an expression has that type in the program, and is a condition; one that stands as a condition may have no type
  pub record IsRight (is_test : Bool) (e : Made) (g : Sort) : Type 0 where
    pub condition : is_condition d e ≡ true
    pub value : is_test ≡ false → sort_of d e ≡ Some (made_sort g)

  -- what is found of an expression holds of it, and one without a type has broken a rule
  abbrev pub AllRight : Bool → Judged Value → Type 0
  AllRight is_test (Typed v) = IsRight is_test v.expr v.sort
  AllRight is_test (Broken fs) = fs ≡ [] → ⊥

  -- expressions of the program, one level opened

  pub opens : (x : Made-F Made) (e : Made) → roll-Made x ≡ e → made_judged d e ≡ made_layer d (map-Made Made MadeJudged (made_judged d) x)
  opens x e is = ap (made_judged d) (sym is) ∙ fold-roll-Made MadeJudged (made_layer d) x

  right_value : (is_test : Bool) (e : Made) (g : Sort) → made_judged d e ≡ valued (Some (made_sort g)) → IsRight is_test e g
  right_value is_test e g h = record { condition = ap (λ (j : MadeJudged). j.condition) h; value = λ no. ap (λ (j : MadeJudged). j.value) h }

  right_int : (is_test : Bool) (e : Made) (b : Bool) → made_judged d e ≡ int_if b → b ≡ true → IsRight is_test e (Of ty.Int)
  right_int is_test e b h is = right_value is_test e (Of ty.Int) (h ∙ ap int_if is)

  -- a rule is kept, or broken
  where_kept : (is_test b : Bool) (e : Made) (r : Rule) (at : ℕ) → (b ≡ true → IsRight is_test e (Of ty.Int)) → AllRight is_test (if b then of_int e else breaks r at)
  where_kept is_test true e r at h = h refl
  where_kept is_test false e r at h = λ none. absurd cc

  one_right : (is_test inner : Bool) (f : Value → Judged Value) (j : Judged Value) → AllRight inner j → ((v : Value) → IsRight inner v.expr v.sort → AllRight is_test (f v)) → AllRight is_test (of_one f j)
  one_right is_test inner f (Typed v) h k = k v h
  one_right is_test inner f (Broken fs) h k = h

  two_right : (is_test inner : Bool) (f : Value → Value → Judged Value) (i j : Judged Value) → AllRight inner i → AllRight inner j
      → ((v w : Value) → IsRight inner v.expr v.sort → IsRight inner w.expr w.sort → AllRight is_test (f v w)) → AllRight is_test (of_two f i j)
  two_right is_test inner f (Typed v) (Typed w) h g k = k v w h g
  two_right is_test inner f (Typed v) (Broken gs) h g k = g
  two_right is_test inner f (Broken fs) (Typed w) h g k = h
  two_right is_test inner f (Broken fs) (Broken gs) h g k = λ none. h (first_empty fs gs none)

  -- operators

  follows : (g : Sort) → points_to_int g ≡ true → pointee (made_sort g) ≡ Some (MadeOf ty.Int)
  follows (Of ty.Int) h = absurd cc
  follows (Of ty.IntPtr) h = refl
  follows (Of (ty.StructPtr n)) h = absurd cc
  follows AnyPointer h = absurd cc

  int_sort : (g : Sort) → is_int g ≡ true → g ≡ Of ty.Int
  int_sort (Of ty.Int) h = refl
  int_sort (Of ty.IntPtr) h = absurd cc
  int_sort (Of (ty.StructPtr n)) h = absurd cc
  int_sort AnyPointer h = absurd cc

  -- an operand that is an int
  has_int : (e : Made) (g : Sort) → IsRight false e g → is_int g ≡ true → sort_of d e ≡ Some (MadeOf ty.Int)
  has_int e g h is = h.value refl ∙ ap (λ (k : Sort). Some (made_sort k)) (int_sort g is)

  deref_right : (is_test : Bool) (at : ℕ) (v : Value) → IsRight false v.expr v.sort → AllRight is_test (deref at v)
  deref_right is_test at v h =
      where_kept is_test (points_to_int v.sort) (expr.Deref v.expr at) rule.Operands at
      (λ is. right_value is_test (expr.Deref v.expr at) (Of ty.Int)
      (opens (made.Deref v.expr at) (expr.Deref v.expr at) (expr.rolls-Deref v.expr at)
      ∙ ap (λ (o : Option MadeSort). valued (option_and_then pointee o)) (h.value refl) ∙ ap valued (follows v.sort is)))

  index_right : (is_test : Bool) (at : ℕ) (v i : Value) → IsRight false v.expr v.sort → IsRight false i.expr i.sort → AllRight is_test (index at v i)
  index_right is_test at v i h g = by_place (points_to_int v.sort) refl
    where
      made_as : points_to_int v.sort ≡ true → is_int i.sort ≡ true → made_judged d (expr.Index v.expr i.expr at) ≡ valued (Some (MadeOf ty.Int))
      made_as is int =
          opens (made.Index v.expr i.expr at) (expr.Index v.expr i.expr at) (expr.rolls-Index v.expr i.expr at)
          ∙ ap (λ (o : Option MadeSort). valued (if has made_int o then option_and_then pointee (made_judged d v.expr).value else None)) (has_int i.expr i.sort g int)
          ∙ ap (λ (o : Option MadeSort). valued (option_and_then pointee o)) (h.value refl) ∙ ap valued (follows v.sort is)

      by_place : (b : Bool) → points_to_int v.sort ≡ b
          → AllRight is_test (if b then (if is_int i.sort then of_int (expr.Index v.expr i.expr at) else breaks rule.Operands at) else breaks rule.Operands at)
      by_place false is = λ none. absurd cc
      by_place true is =
          where_kept is_test (is_int i.sort) (expr.Index v.expr i.expr at) rule.Operands at
          (λ int. right_value is_test (expr.Index v.expr i.expr at) (Of ty.Int) (made_as is int))

  signed_right : (s : Sign) (is_test : Bool) (at : ℕ) (v : Value) → IsRight (under_sign s is_test) v.expr v.sort → AllRight is_test (signed s at v)
  signed_right sign.Minus is_test at v h =
      where_kept is_test (is_int v.sort) (expr.Unary sign.Minus v.expr at) rule.Operands at
      (λ is. right_value is_test (expr.Unary sign.Minus v.expr at) (Of ty.Int)
      (opens (made.Unary sign.Minus v.expr at) (expr.Unary sign.Minus v.expr at) (expr.rolls-Unary sign.Minus v.expr at)
      ∙ ap (λ (o : Option MadeSort). int_if (has made_int o)) (has_int v.expr v.sort h is)))
  signed_right sign.Not is_test at v h =
      let opened = opens (made.Unary sign.Not v.expr at) (expr.Unary sign.Not v.expr at) (expr.rolls-Unary sign.Not v.expr at) in
      record {
        condition = ap (λ (j : MadeJudged). j.condition) opened ∙ h.condition;
        value = λ no. ap (λ (j : MadeJudged). j.value) opened ∙ ap (option_map (λ g. MadeOf ty.Int)) (h.value no);
      }

  -- arithmetic and order
  numbers_right : (o : Oper) (is_test : Bool) (at : ℕ) (v w : Value)
      → made_judged d (expr.Binary o v.expr w.expr at) ≡ on_numbers (made_judged d v.expr) (made_judged d w.expr)
      → IsRight false v.expr v.sort → IsRight false w.expr w.sort → AllRight is_test (computed o at v w)
  numbers_right o is_test at v w opened h g = by_first (is_int v.sort) refl
    where
      by_first : (b : Bool) → is_int v.sort ≡ b
          → AllRight is_test (if b then (if is_int w.sort then of_int (expr.Binary o v.expr w.expr at) else breaks rule.Operands at) else breaks rule.Operands at)
      by_first false is = λ none. absurd cc
      by_first true is =
          where_kept is_test (is_int w.sort) (expr.Binary o v.expr w.expr at) rule.Operands at
          (λ int. right_value is_test (expr.Binary o v.expr w.expr at) (Of ty.Int)
          (opened
          ∙ ap (λ (g : Option MadeSort). int_if (has (λ a. has (λ b. made_int a && made_int b) (made_judged d w.expr).value) g)) (has_int v.expr v.sort h is)
          ∙ ap (λ (g : Option MadeSort). int_if (has made_int g)) (has_int w.expr w.sort g int)))

  -- the operand of a comparison: the constant 0 beside a pointer is a null pointer
  abbrev side : Bool → Sort → Sort → MadeSort
  side is_zero g beside = if points beside then (if is_zero then MadeAny else made_sort g) else made_sort g

  sides_compare : (y z : Bool) (g h : Sort) → (y ≡ true → g ≡ Of ty.Int) → (z ≡ true → h ≡ Of ty.Int)
      → (same_sort g h || (points g && (same_sort AnyPointer h || z)) || ((same_sort AnyPointer g || y) && points h)) ≡ true
      → are_comparable (side y g h) (side z h g) ≡ true
  sides_compare y z (Of ty.Int) (Of ty.Int) no_y no_z c = refl
  sides_compare true z (Of ty.Int) (Of ty.IntPtr) no_y no_z c = refl
  sides_compare false z (Of ty.Int) (Of ty.IntPtr) no_y no_z c = absurd cc
  sides_compare true z (Of ty.Int) (Of (ty.StructPtr n)) no_y no_z c = refl
  sides_compare false z (Of ty.Int) (Of (ty.StructPtr n)) no_y no_z c = absurd cc
  sides_compare true z (Of ty.Int) AnyPointer no_y no_z c = refl
  sides_compare false z (Of ty.Int) AnyPointer no_y no_z c = absurd cc
  sides_compare y true (Of ty.IntPtr) (Of ty.Int) no_y no_z c = refl
  sides_compare true false (Of ty.IntPtr) (Of ty.Int) no_y no_z c = absurd cc
  sides_compare false false (Of ty.IntPtr) (Of ty.Int) no_y no_z c = absurd cc
  sides_compare y true (Of (ty.StructPtr n)) (Of ty.Int) no_y no_z c = refl
  sides_compare true false (Of (ty.StructPtr n)) (Of ty.Int) no_y no_z c = absurd cc
  sides_compare false false (Of (ty.StructPtr n)) (Of ty.Int) no_y no_z c = absurd cc
  sides_compare y true AnyPointer (Of ty.Int) no_y no_z c = refl
  sides_compare true false AnyPointer (Of ty.Int) no_y no_z c = absurd cc
  sides_compare false false AnyPointer (Of ty.Int) no_y no_z c = absurd cc
  sides_compare true z (Of ty.IntPtr) h no_y no_z c = let e : Of ty.IntPtr ≡ Of ty.Int = no_y refl in absurd cc
  sides_compare true z (Of (ty.StructPtr n)) h no_y no_z c = let e : Of (ty.StructPtr n) ≡ Of ty.Int = no_y refl in absurd cc
  sides_compare true z AnyPointer h no_y no_z c = let e : AnyPointer ≡ Of ty.Int = no_y refl in absurd cc
  sides_compare false true g (Of ty.IntPtr) no_y no_z c = let e : Of ty.IntPtr ≡ Of ty.Int = no_z refl in absurd cc
  sides_compare false true g (Of (ty.StructPtr n)) no_y no_z c = let e : Of (ty.StructPtr n) ≡ Of ty.Int = no_z refl in absurd cc
  sides_compare false true g AnyPointer no_y no_z c = let e : AnyPointer ≡ Of ty.Int = no_z refl in absurd cc
  sides_compare false false (Of ty.IntPtr) (Of ty.IntPtr) no_y no_z c = refl
  sides_compare false false (Of ty.IntPtr) (Of (ty.StructPtr m)) no_y no_z c = absurd cc
  sides_compare false false (Of (ty.StructPtr n)) (Of ty.IntPtr) no_y no_z c = absurd cc
  sides_compare false false (Of (ty.StructPtr n)) (Of (ty.StructPtr m)) no_y no_z c = or_falses (same_ty (ty.StructPtr n) (ty.StructPtr m)) c
    where
      or_falses : (b : Bool) → (b || false || false) ≡ true → b ≡ true
      or_falses true e = refl
      or_falses false e = absurd cc
  sides_compare false false (Of ty.IntPtr) AnyPointer no_y no_z c = refl
  sides_compare false false (Of (ty.StructPtr n)) AnyPointer no_y no_z c = refl
  sides_compare false false AnyPointer (Of ty.IntPtr) no_y no_z c = refl
  sides_compare false false AnyPointer (Of (ty.StructPtr n)) no_y no_z c = refl
  sides_compare false false AnyPointer AnyPointer no_y no_z c = refl

  -- the constant 0 is an int, and becomes a null pointer

  zero_int : (e : Made) (g : Sort) → IsRight false e g → is_zero e ≡ true → g ≡ Of ty.Int
  zero_int e g h is = of_layer (out-Expr e) (roll-out-Expr e) is
    where
      of_sort : (b : Bool) (g : Sort) → (if b then Some (MadeOf ty.Int) else None) ≡ Some (made_sort g) → g ≡ Of ty.Int
      of_sort true (Of ty.Int) e = refl
      of_sort true (Of ty.IntPtr) e = absurd cc
      of_sort true (Of (ty.StructPtr n)) e = absurd cc
      of_sort true AnyPointer e = absurd cc
      of_sort false g e = absurd cc

      of_layer : (x : Made-F Made) → roll-Made x ≡ e → is_zero_layer x ≡ true → g ≡ Of ty.Int
      of_layer (made.Const n at) rolled is = of_sort (fits_int n) g (sym (ap (λ (j : MadeJudged). j.value) (opens (made.Const n at) e rolled)) ∙ h.value refl)
      of_layer (made.Null at) rolled is = absurd cc
      of_layer (made.Var x at) rolled is = absurd cc
      of_layer (made.Field a f at) rolled is = absurd cc
      of_layer (made.Deref a at) rolled is = absurd cc
      of_layer (made.Index a i at) rolled is = absurd cc
      of_layer (made.Unary s a at) rolled is = absurd cc
      of_layer (made.Binary o a b at) rolled is = absurd cc

  null_judged : (at : ℕ) → made_judged d (expr.Null at) ≡ valued (Some MadeAny)
  null_judged at = opens (made.Null at) (expr.Null at) (expr.rolls-Null at)

  pub pointer_sort : (e : Made) (g : Sort) → IsRight false e g → sort_of d (as_pointer e) ≡ Some (if is_zero e then MadeAny else made_sort g)
  pointer_sort e g h = of_layer (out-Expr e)
    where
      by_zero : (b : Bool) (at : ℕ) → sort_of d (if b then expr.Null at else e) ≡ Some (if b then MadeAny else made_sort g)
      by_zero true at = ap (λ (j : MadeJudged). j.value) (null_judged at)
      by_zero false at = h.value refl

      of_layer : (x : Made-F Made) → sort_of d (pointer_layer e x) ≡ Some (if is_zero_layer x then MadeAny else made_sort g)
      of_layer (made.Const n at) = by_zero (int_eq n (pos 0)) at
      of_layer (made.Null at) = h.value refl
      of_layer (made.Var x at) = h.value refl
      of_layer (made.Field a f at) = h.value refl
      of_layer (made.Deref a at) = h.value refl
      of_layer (made.Index a i at) = h.value refl
      of_layer (made.Unary s a at) = h.value refl
      of_layer (made.Binary o a b at) = h.value refl

  side_sort : (v : Value) (g : Sort) → IsRight false v.expr v.sort → sort_of d (beside v g) ≡ Some (side (is_zero v.expr) v.sort g)
  side_sort v g h = by_pointer (points g)
    where
      by_pointer : (b : Bool) → sort_of d (if b then as_pointer v.expr else v.expr) ≡ Some (if b then (if is_zero v.expr then MadeAny else made_sort v.sort) else made_sort v.sort)
      by_pointer true = pointer_sort v.expr v.sort h
      by_pointer false = h.value refl

  -- comparisons for equality
  equal_right : (o : Oper) (is_test : Bool) (at : ℕ) (v w : Value)
      → ((a b : Made) → made_judged d (expr.Binary o a b at) ≡ on_comparable (made_judged d a) (made_judged d b))
      → IsRight false v.expr v.sort → IsRight false w.expr w.sort → AllRight is_test (compared o at v w)
  equal_right o is_test at v w opened h g =
      let a = beside v w.sort in
      let b = beside w v.sort in
      where_kept is_test (is_comparable v w) (expr.Binary o a b at) rule.Operands at
      (λ is. right_value is_test (expr.Binary o a b at) (Of ty.Int)
      (opened a b
      ∙ ap (λ (s : Option MadeSort). int_if (has (λ x. has (are_comparable x) (sort_of d b)) s)) (side_sort v w.sort h)
      ∙ ap (λ (s : Option MadeSort). int_if (has (are_comparable (side (is_zero v.expr) v.sort w.sort)) s)) (side_sort w v.sort g)
      ∙ ap int_if (sides_compare (is_zero v.expr) (is_zero w.expr) v.sort w.sort (zero_int v.expr v.sort h) (zero_int w.expr w.sort g) is)))

  -- conditions with `&&` and `||`
  joined_right : (o : Oper) (is_test : Bool) (at : ℕ) (v w : Value)
      → made_judged d (expr.Binary o v.expr w.expr at) ≡ on_conditions (made_judged d v.expr) (made_judged d w.expr)
      → is_condition d v.expr ≡ true → is_condition d w.expr ≡ true → AllRight is_test (joined o at is_test v w)
  joined_right o false at v w opened h g = λ none. absurd cc
  joined_right o true at v w opened h g = record {
    condition = ap (λ (j : MadeJudged). j.condition) opened ∙ ap (λ (b : Bool). b && is_condition d w.expr) h ∙ g;
    value = λ no. absurd cc;
  }

  binary_opens : (o : Oper) (a b : Made) (at : ℕ) → made_judged d (expr.Binary o a b at) ≡ made_combined o (made_judged d a) (made_judged d b)
  binary_opens o a b at = opens (made.Binary o a b at) (expr.Binary o a b at) (expr.rolls-Binary o a b at)

  binary_right : (o : Oper) (is_test : Bool) (at : ℕ) (v w : Value) → IsRight (under_oper o is_test) v.expr v.sort → IsRight (under_oper o is_test) w.expr w.sort
      → AllRight is_test (combined o at is_test v w)
  binary_right oper.Mul is_test at v w h g = numbers_right oper.Mul is_test at v w (binary_opens oper.Mul v.expr w.expr at) h g
  binary_right oper.Div is_test at v w h g = numbers_right oper.Div is_test at v w (binary_opens oper.Div v.expr w.expr at) h g
  binary_right oper.Rem is_test at v w h g = numbers_right oper.Rem is_test at v w (binary_opens oper.Rem v.expr w.expr at) h g
  binary_right oper.Add is_test at v w h g = numbers_right oper.Add is_test at v w (binary_opens oper.Add v.expr w.expr at) h g
  binary_right oper.Sub is_test at v w h g = numbers_right oper.Sub is_test at v w (binary_opens oper.Sub v.expr w.expr at) h g
  binary_right oper.Lt is_test at v w h g = numbers_right oper.Lt is_test at v w (binary_opens oper.Lt v.expr w.expr at) h g
  binary_right oper.Le is_test at v w h g = numbers_right oper.Le is_test at v w (binary_opens oper.Le v.expr w.expr at) h g
  binary_right oper.Gt is_test at v w h g = numbers_right oper.Gt is_test at v w (binary_opens oper.Gt v.expr w.expr at) h g
  binary_right oper.Ge is_test at v w h g = numbers_right oper.Ge is_test at v w (binary_opens oper.Ge v.expr w.expr at) h g
  binary_right oper.Eq is_test at v w h g = equal_right oper.Eq is_test at v w (λ a b. binary_opens oper.Eq a b at) h g
  binary_right oper.Ne is_test at v w h g = equal_right oper.Ne is_test at v w (λ a b. binary_opens oper.Ne a b at) h g
  binary_right oper.And is_test at v w h g = joined_right oper.And is_test at v w (binary_opens oper.And v.expr w.expr at) h.condition g.condition
  binary_right oper.Or is_test at v w h g = joined_right oper.Or is_test at v w (binary_opens oper.Or v.expr w.expr at) h.condition g.condition

  module _ (behind : ℕ → Bool) (s : Scope) (stands : Stands d behind s) where
    -- names

    pub variable_right : (is_test : Bool) (w : Word) → AllRight is_test (variable s w)
    variable_right is_test w = by_entry (found s.names w.text) refl
      where
        by_meaning : (e : Entry) (m : Meaning) → found s.names w.text ≡ Some e → e.meaning ≡ m → AllRight is_test (variable_as w m)
        by_meaning e (meaning.Variable n t) f is =
            right_value is_test (expr.Var n w.at) (Of t)
            (opens (made.Var n w.at) (expr.Var n w.at) (expr.rolls-Var n w.at) ∙ ap (λ (o : Option Ty). valued (option_map MadeOf o)) (stands.variables w.text e n t f is))
        by_meaning e (meaning.Alias n) f is = λ none. absurd cc
        by_meaning e (meaning.Function n) f is = λ none. absurd cc
        by_meaning e (meaning.Bad g) f is = λ none. absurd cc

        by_entry : (o : Option Entry) → found s.names w.text ≡ o → AllRight is_test (variable_by w o)
        by_entry None f = λ none. absurd cc
        by_entry (Some e) f = by_meaning e e.meaning f refl

    -- fields

    field_right : (is_test : Bool) (w : Word) (at : ℕ) (v : Value) → behind at ≡ true → IsRight false v.expr v.sort → AllRight is_test (field s w at v)
    field_right is_test w at v after h = by_sort v.sort (h.value refl)
      where
        field_judged : (n k : ℕ) → sort_of d v.expr ≡ Some (MadeOf (ty.StructPtr n)) → made_judged d (expr.Field v.expr k at) ≡ valued (option_map MadeOf (field_type d at k n))
        field_judged n k e =
            opens (made.Field v.expr k at) (expr.Field v.expr k at) (expr.rolls-Field v.expr k at) ∙ ap (λ (o : Option MadeSort). valued (option_and_then (member d at k) o)) e

        type_of_field : (n k : ℕ) (fields : List (List ℕ × Written)) (t : Ty) → fields_of d at n ≡ Some (map field_def fields)
            → place_of fields w.text ≡ Some k → found fields w.text ≡ Some (Good t) → field_type d at k n ≡ Some t
        type_of_field n k fields t is p f =
            ap (λ (o : Option (List FieldDef)). option_map (λ (c : FieldDef). c.ty) (option_and_then (λ cs. slice_get cs k) o)) is
            ∙ ap (option_map (λ (c : FieldDef). c.ty)) (slice_get-map field_def fields k)
            ∙ by_row (slice_get fields k) (value_at fields w.text k (Good t) p f)
          where
            by_row : (o : Option (List ℕ × Written)) → option_map (λ (r : List ℕ × Written). r.1) o ≡ Some (Good t)
                → option_map (λ (c : FieldDef). c.ty) (option_map field_def o) ≡ Some t
            by_row None e = absurd cc
            by_row (Some r) e =
                let is : r.1 ≡ Good t = cc in
                ap (λ (u : Written). Some (or_int u)) is

        by_field : (n : ℕ) (fields : List (List ℕ × Written)) (o : Option ℕ) (u : Option Written) → sort_of d v.expr ≡ Some (MadeOf (ty.StructPtr n))
            → fields_of d at n ≡ Some (map field_def fields) → place_of fields w.text ≡ o → found fields w.text ≡ u → AllRight is_test (field_by v.expr w at o u)
        by_field n fields (Some k) (Some (Good t)) e is p f =
            right_value is_test (expr.Field v.expr k at) (Of t) (field_judged n k e ∙ ap (λ (o : Option Ty). valued (option_map MadeOf o)) (type_of_field n k fields t is p f))
        by_field n fields (Some k) (Some (Bad g)) e is p f = λ none. absurd cc
        by_field n fields (Some k) None e is p f = λ none. absurd cc
        by_field n fields None (Some (Good t)) e is p f = λ none. absurd cc
        by_field n fields None (Some (Bad g)) e is p f = λ none. absurd cc
        by_field n fields None None e is p f = λ none. absurd cc

        by_body : (n : ℕ) (row : StructRow) (o : Option ℕ) → sort_of d v.expr ≡ Some (MadeOf (ty.StructPtr n)) → slice_get s.structs n ≡ Some row → row.body ≡ o
            → AllRight is_test (field_in v.expr w at row o)
        by_body n row None e r is = λ none. absurd cc
        by_body n row (Some body) e r is = by_field n row.fields (place_of row.fields w.text) (found row.fields w.text) e (stands.structs n row body at r is after) refl refl

        by_row : (n : ℕ) (o : Option StructRow) → sort_of d v.expr ≡ Some (MadeOf (ty.StructPtr n)) → slice_get s.structs n ≡ o → AllRight is_test (field_of_row v.expr w at o)
        by_row n None e r = λ none. absurd cc
        by_row n (Some row) e r = by_body n row row.body e r refl

        by_sort : (g : Sort) → sort_of d v.expr ≡ Some (made_sort g) → AllRight is_test (field_at s w at v.expr g)
        by_sort (Of ty.Int) e = λ none. absurd cc
        by_sort (Of ty.IntPtr) e = λ none. absurd cc
        by_sort (Of (ty.StructPtr n)) e = by_row n (slice_get s.structs n) e refl
        by_sort AnyPointer e = λ none. absurd cc

    -- expressions

    abbrev TypedRight : (Bool → Judged Value) → Bool → Type 0
    TypedRight j holds = holds ≡ true → (is_test : Bool) → AllRight is_test (j is_test)

    abbrev Holds : Expr → Type 0
    Holds e = TypedRight (judged s e) (expr_stands behind e)

    abbrev bare : Expr-F ((e : Expr) × Holds e) → Expr-F Expr
    bare = map-Expr ((e : Expr) × Holds e) Expr (λ e. e.0)

    abbrev walked_layer : Expr-F Expr → Bool → Judged Value
    walked_layer x = judged_layer s (map-Expr Expr (Bool → Judged Value) (judged s) x)

    abbrev stands_layer : Expr-F Expr → Bool
    stands_layer x = layer_stands behind (map-Expr Expr Bool (expr_stands behind) x)

    layer_right : (y : Expr-F ((e : Expr) × Holds e)) → TypedRight (walked_layer (bare y)) (stands_layer (bare y))
    layer_right (Const n at) h is_test =
        right_int is_test (expr.Const n at) (fits_int n) (opens (made.Const n at) (expr.Const n at) (expr.rolls-Const n at)) h
    layer_right (Null at) h is_test = right_value is_test (expr.Null at) AnyPointer (null_judged at)
    layer_right (Var w) h is_test = variable_right is_test w
    layer_right (Field e w at) h is_test =
        let parts = and_parts (behind at) (expr_stands behind e.0) h in
        one_right is_test false (field s w at) (judged s e.0 false) (e.1 parts.1 false) (λ v k. field_right is_test w at v parts.0 k)
    layer_right (Deref e at) h is_test = one_right is_test false (deref at) (judged s e.0 false) (e.1 h false) (deref_right is_test at)
    layer_right (Index e i at) h is_test =
        let parts = and_parts (expr_stands behind e.0) (expr_stands behind i.0) h in
        two_right is_test false (index at) (judged s e.0 false) (judged s i.0 false) (e.1 parts.0 false) (i.1 parts.1 false) (index_right is_test at)
    layer_right (Unary g e at) h is_test =
        one_right is_test (under_sign g is_test) (signed g at) (judged s e.0 (under_sign g is_test)) (e.1 h (under_sign g is_test)) (signed_right g is_test at)
    layer_right (Binary o a b at) h is_test =
        let parts = and_parts (expr_stands behind a.0) (expr_stands behind b.0) h in
        two_right is_test (under_oper o is_test) (combined o at is_test) (judged s a.0 (under_oper o is_test)) (judged s b.0 (under_oper o is_test))
        (a.1 parts.0 (under_oper o is_test)) (b.1 parts.1 (under_oper o is_test)) (binary_right o is_test at)

    -- what the walk finds of an expression holds of it in the program
    pub expr_right : (e : Expr) → expr_stands behind e ≡ true → (is_test : Bool) → AllRight is_test (judged s e is_test)
    expr_right = ind-Expr Holds (λ x y is.
        let layer : TypedRight (walked_layer x) (stands_layer x) = subst (λ (z : Expr-F Expr). TypedRight (walked_layer z) (stands_layer z)) is (layer_right y) in
        λ h is_test.
        let holds : stands_layer x ≡ true = sym (fold-roll-Expr Bool (layer_stands behind) x) ∙ h in
        subst (λ (j : Bool → Judged Value). AllRight is_test (j is_test)) (sym (fold-roll-Expr (Bool → Judged Value) (judged_layer s) x)) (layer holds is_test))
