-- Expressions of pointer types are the null pointer, or have a pointer that is looked at; all others have none.
use Rattle.std.proofs.Common.{◌≡◌, ℕ, ◌+◌, ◌<◌, Bool, true, false, List, slice_get, length, Option, Some, None, option_map, option_and_then, refl, ap, sym, subst, ◌∙◌, arith}
use Rattle.std.specs.Prelude.{nat_lt, ◌&&◌, if◌then◌else◌}
use Rattle.std.proofs.lemmas.Bool.{ltb-true}
use Rattle.std.proofs.lemmas.Option.{slice_get_within}
use Rattle.c_tree.specs.Typing.{Declarations, var_type, fields_if, field_type as declared_type, fits, Sort, Of, AnyPointer, points, is_int, are_comparable, pointee, member, Judged, int_if, has, have, signed, combined, element, judged_layer, judged, sort_of}
use Rattle.c_tree.specs.declared.expr.Expr.{Expr, Expr-F, roll-Expr, out-Expr, map-Expr, fold-roll-Expr, fold_out-Expr, ind-Expr}
use Rattle.c_tree.specs.declared.expr.Expr.TheOpen.{Const, Null, Var, Field, Deref, Index, Unary, Binary}
use Rattle.c_tree.specs.declared.expr.Oper.{Oper}
use Rattle.c_tree.specs.declared.expr.Oper.TheVariants as oper
use Rattle.c_tree.specs.declared.expr.Sign.{Sign}
use Rattle.c_tree.specs.declared.expr.Sign.TheVariants as sign
use Rattle.c_tree.specs.declared.program.FieldDef.{FieldDef}
use Rattle.c_tree.specs.declared.program.StructDef.{StructDef}
use Rattle.c_tree.specs.declared.program.Ty.{Ty}
use Rattle.c_tree.specs.declared.program.Ty.TheVariants as ty
use Rattle.c_tree.specs.declared.program.VarDef.{VarDef}
use Rattle.ts_domain.specs.declared.names.Names.{Names}
use Rattle.ts_domain.specs.declared.names.Read.{Read}
use Rattle.ts_domain.specs.declared.names.Read.TheVariants as read
use Rattle.ts_domain.specs.declared.pointers.Pointer.{Pointer}
use Rattle.ts_domain.specs.Deeds.{is_null_layer, is_null}
use Rattle.ts_domain.specs.Looks.{Look, look_layer, look, pointer_of}
use Rattle.ts_domain.specs.Pointers.{is_pointer, place_of, field_place, type_of, field_type, pointer_at, var_pointer, numbered, chained, field_read, pointer_if, field_of_struct, field_pointer}
use Rattle.ts_domain.proofs.NameLaws.{HasPlaces, missing_within}

-- the variables and structs that names speak of are the declared ones
pub record AreDeclared (d : Declarations) (n : Names) : Type 0 where
  pub vars : d.vars ≡ n.decls
  pub structs : d.structs ≡ n.structs

-- a number, if anything
abbrev pub IsIntIf : Option Sort → Type 0
IsIntIf None = Unit {0}
IsIntIf (Some (Of ty.Int)) = Unit {0}
IsIntIf (Some (Of ty.IntPtr)) = ⊥
IsIntIf (Some (Of (ty.StructPtr s))) = ⊥
IsIntIf (Some AnyPointer) = ⊥

if_int : (b : Bool) → IsIntIf (if b then Some (Of ty.Int) else None)
if_int true = tt
if_int false = tt

pointee_int : (o : Option Sort) → IsIntIf (option_and_then pointee o)
pointee_int None = tt
pointee_int (Some (Of ty.Int)) = tt
pointee_int (Some (Of ty.IntPtr)) = tt
pointee_int (Some (Of (ty.StructPtr s))) = tt
pointee_int (Some AnyPointer) = tt

element_int : (b : Bool) (o : Option Sort) → IsIntIf (if b then option_and_then pointee o else None)
element_int true o = pointee_int o
element_int false o = tt

not_int : (o : Option Sort) → IsIntIf (option_map (λ (g : Sort). Of ty.Int) o)
not_int None = tt
not_int (Some g) = tt

signed_int : (s : Sign) (a : Judged) → IsIntIf (signed s a).value
signed_int sign.Minus a = if_int (has is_int a.value)
signed_int sign.Not a = not_int a.value

combined_int : (o : Oper) (a b : Judged) → IsIntIf (combined o a b).value
combined_int oper.Mul a b = if_int (have (λ g h. is_int g && is_int h) a b)
combined_int oper.Div a b = if_int (have (λ g h. is_int g && is_int h) a b)
combined_int oper.Rem a b = if_int (have (λ g h. is_int g && is_int h) a b)
combined_int oper.Add a b = if_int (have (λ g h. is_int g && is_int h) a b)
combined_int oper.Sub a b = if_int (have (λ g h. is_int g && is_int h) a b)
combined_int oper.Lt a b = if_int (have (λ g h. is_int g && is_int h) a b)
combined_int oper.Le a b = if_int (have (λ g h. is_int g && is_int h) a b)
combined_int oper.Gt a b = if_int (have (λ g h. is_int g && is_int h) a b)
combined_int oper.Ge a b = if_int (have (λ g h. is_int g && is_int h) a b)
combined_int oper.Eq a b = if_int (have are_comparable a b)
combined_int oper.Ne a b = if_int (have are_comparable a b)
combined_int oper.And a b = tt
combined_int oper.Or a b = tt

module _ (n : Names) where
  -- a variable that a read names has that type
  abbrev pub LeadsTo : Read → Ty → Type 0
  LeadsTo (read.Name k) t = (x : ℕ) → slice_get n.vars k ≡ Some x → type_of n x ≡ Some t
  LeadsTo (read.Deep s f) t = Unit {0}

  -- the pointer that is looked at has that type, where that is one of pointers; else there is none
  abbrev pub AgreesWith : Bool → Ty → Option Pointer → Type 0
  AgreesWith true t q = (r : Read) × (q ≡ Some (record { ty = t; read = r })) × LeadsTo r t
  AgreesWith false t q = q ≡ None

  abbrev pub Agrees : Option Sort → Option Pointer → Type 0
  Agrees None q = Unit {0}
  Agrees (Some AnyPointer) q = q ≡ None
  Agrees (Some (Of t)) q = AgreesWith (is_pointer t) t q

module _ (n : Names) (d : Declarations) (same : AreDeclared d n) (places : HasPlaces n) where
  int_agrees : (o : Option Sort) → IsIntIf o → Agrees n o None
  int_agrees None h = tt
  int_agrees (Some (Of ty.Int)) h = refl
  int_agrees (Some (Of ty.IntPtr)) h = absurd h
  int_agrees (Some (Of (ty.StructPtr s))) h = absurd h
  int_agrees (Some AnyPointer) h = absurd h

  -- variables

  pub var_declared : (x : ℕ) → var_type d x ≡ type_of n x
  var_declared x = ap (λ (vs : List VarDef). option_map (λ (v : VarDef). v.ty) (slice_get vs x)) same.vars

  var_by : (x : ℕ) (t : Ty) (b : Bool) (o : Option ℕ) → type_of n x ≡ Some t → is_pointer t ≡ b → place_of n x ≡ o → AgreesWith n b t (option_map (pointer_at t) o)
  var_by x t true (Some k) typed points at = (read.Name k, refl, λ y there. let e : Some x ≡ Some y = sym (places.there x k at) ∙ there in let e' : x ≡ y = cc in subst (λ (z : ℕ). type_of n z ≡ Some t) e' typed)
  var_by x t true None typed points at = let it = places.has x t typed points in let never : None ≡ Some it.0 = sym at ∙ it.1 in absurd cc
  var_by x t false (Some k) typed points at =
      let it = places.pointers k x (places.there x k at) in
      let e : Some t ≡ Some it.0 = sym typed ∙ it.1 in
      let e' : t ≡ it.0 = cc in
      let never : true ≡ false = sym it.2 ∙ ap is_pointer (sym e') ∙ points in
      absurd cc
  var_by x t false None typed points at = refl

  var_agrees : (x : ℕ) (o : Option Ty) → type_of n x ≡ o → Agrees n (option_map Of o) (option_and_then (λ t. option_map (pointer_at t) (place_of n x)) o)
  var_agrees x None is = tt
  var_agrees x (Some t) is = var_by x t (is_pointer t) (place_of n x) is refl refl

  -- fields

  declared_by : (b : Bool) (c : StructDef) (f : ℕ) (t : Ty) → option_map (λ (c : FieldDef). c.ty) (option_and_then (λ fields. slice_get fields f) (fields_if b c)) ≡ Some t → option_map (λ (c : FieldDef). c.ty) (slice_get c.fields f) ≡ Some t
  declared_by true c f t h = h
  declared_by false c f t h = absurd cc

  declared_in : (o : Option StructDef) (at f : ℕ) (t : Ty) →
      option_map (λ (c : FieldDef). c.ty) (option_and_then (λ fields. slice_get fields f) (option_and_then (λ c. fields_if (d.known at c.body) c) o)) ≡ Some t →
      option_map (λ (c : FieldDef). c.ty) (option_and_then (λ c. slice_get c.fields f) o) ≡ Some t
  declared_in None at f t h = absurd cc
  declared_in (Some c) at f t h = declared_by (d.known at c.body) c f t h

  pub field_declared : (at f c : ℕ) (t : Ty) → declared_type d at f c ≡ Some t → field_type n c f ≡ Some t
  field_declared at f c t h =
      subst (λ (ss : List StructDef). option_map (λ (c : FieldDef). c.ty) (option_and_then (λ c. slice_get c.fields f) (slice_get ss c)) ≡ Some t) same.structs (declared_in (slice_get d.structs c) at f t h)

  -- a field of what a read leads to is read
  chained_read : (k c f : ℕ) (t : Ty) (b : Bool) → nat_lt k (length n.vars) ≡ b → LeadsTo n (read.Name k) (ty.StructPtr c) → field_type n c f ≡ Some t → is_pointer t ≡ true → (r : Read) × (chained n k c f b ≡ Some r)
  chained_read k c f t true below leads typed points = by_var (slice_get n.vars k) refl
    where
      by_var : (o : Option ℕ) → slice_get n.vars k ≡ o → (r : Read) × (numbered n k f ≡ Some r)
      by_var (Some x) is =
          let it = places.has_field k x c f t is (leads x is) typed points in
          (read.Name (length n.vars + it.0), ap (option_map (λ j. read.Name (length n.vars + j))) it.1)
      by_var None is = let low : k < length n.vars = ltb-true k (length n.vars) below in absurd (missing_within n.vars k low is)
  chained_read k c f t false past leads typed points = (read.Deep c f, refl)

  pub has_read : (r : Read) (c f : ℕ) (t : Ty) → LeadsTo n r (ty.StructPtr c) → field_type n c f ≡ Some t → is_pointer t ≡ true → (q : Read) × (field_read n r c f ≡ Some q)
  has_read (read.Name k) c f t leads typed points = chained_read k c f t (nat_lt k (length n.vars)) refl leads typed points
  has_read (read.Deep s g) c f t leads typed points = (read.Deep c f, refl)

  -- a read of a field names no variable
  numbered_leads : (k f : ℕ) (t : Ty) (o : Option ℕ) (q : Read) → option_map (λ j. read.Name (length n.vars + j)) o ≡ Some q → LeadsTo n q t
  numbered_leads k f t None q h = absurd cc
  numbered_leads k f t (Some j) q h =
      let e : read.Name (length n.vars + j) ≡ q = cc in
      subst (λ (r : Read). LeadsTo n r t) e (λ x there. let past : length n.vars + j < length n.vars = slice_get_within n.vars (length n.vars + j) x there in absurd (omega arith))

  chained_leads : (k c f : ℕ) (t : Ty) (b : Bool) (q : Read) → chained n k c f b ≡ Some q → LeadsTo n q t
  chained_leads k c f t true q h = numbered_leads k f t (field_place n.fields k f) q h
  chained_leads k c f t false q h = let e : read.Deep c f ≡ q = cc in subst (λ (r : Read). LeadsTo n r t) e tt

  read_leads : (r : Read) (c f : ℕ) (t : Ty) (q : Read) → field_read n r c f ≡ Some q → LeadsTo n q t
  read_leads (read.Name k) c f t q h = chained_leads k c f t (nat_lt k (length n.vars)) q h
  read_leads (read.Deep s g) c f t q h = let e : read.Deep c f ≡ q = cc in subst (λ (r : Read). LeadsTo n r t) e tt

  field_by : (r : Read) (c f : ℕ) (t : Ty) (b : Bool) → is_pointer t ≡ b → LeadsTo n r (ty.StructPtr c) → field_type n c f ≡ Some t → AgreesWith n b t (pointer_if (field_read n r c f) t b)
  field_by r c f t true points leads typed =
      let it = has_read r c f t leads typed points in
      (it.0, ap (option_map (λ (q : Read). record { ty = t; read = q })) it.1, read_leads r c f t it.0 it.1)
  field_by r c f t false points leads typed = refl

  field_agrees : (at f c : ℕ) (o : Option Ty) (r : Read) → declared_type d at f c ≡ o → LeadsTo n r (ty.StructPtr c) → Agrees n (option_map Of o) (field_of_struct n r c f)
  field_agrees at f c None r is leads = tt
  field_agrees at f c (Some t) r is leads =
      let typed = field_declared at f c t is in
      subst (λ (q : Option Pointer). AgreesWith n (is_pointer t) t q) (sym (ap (option_and_then (λ t. pointer_if (field_read n r c f) t (is_pointer t))) typed)) (field_by r c f t (is_pointer t) refl leads typed)

  member_agrees : (at f : ℕ) (o : Option Sort) (q : Option Pointer) → Agrees n o q → Agrees n (option_and_then (member d at f) o) (option_and_then (field_pointer n f) q)
  member_agrees at f None q h = tt
  member_agrees at f (Some AnyPointer) q h = tt
  member_agrees at f (Some (Of ty.Int)) q h = tt
  member_agrees at f (Some (Of ty.IntPtr)) q h = tt
  member_agrees at f (Some (Of (ty.StructPtr c))) q h =
      subst (λ (p : Option Pointer). Agrees n (option_map Of (declared_type d at f c)) (option_and_then (field_pointer n f) p)) (sym h.1) (field_agrees at f c (declared_type d at f c) h.0 refl h.2)

  -- expressions

  abbrev ExprAgrees : Expr → Type 0
  ExprAgrees e = Agrees n (sort_of d e) (pointer_of n e)

  abbrev plain : Expr-F ((e : Expr) × ExprAgrees e) → Expr-F Expr
  plain = map-Expr ((e : Expr) × ExprAgrees e) Expr (λ e. e.0)

  abbrev sort_layer : Expr-F Expr → Option Sort
  sort_layer x = (judged_layer d (map-Expr Expr Judged (judged d) x)).value

  abbrev pointer_layer : Expr-F Expr → Option Pointer
  pointer_layer x = (look_layer n (map-Expr Expr Look (look n) x)).pointer

  layer_agrees : (y : Expr-F ((e : Expr) × ExprAgrees e)) → Agrees n (sort_layer (plain y)) (pointer_layer (plain y))
  layer_agrees (Const v at) = int_agrees (int_if (fits v)).value (if_int (fits v))
  layer_agrees (Null at) = refl
  layer_agrees (Var x at) = subst (λ (o : Option Ty). Agrees n (option_map Of o) (var_pointer n x)) (sym (var_declared x)) (var_agrees x (type_of n x) refl)
  layer_agrees (Field e f at) = member_agrees at f (sort_of d e.0) (pointer_of n e.0) e.1
  layer_agrees (Deref e at) = int_agrees (option_and_then pointee (sort_of d e.0)) (pointee_int (sort_of d e.0))
  layer_agrees (Index e i at) = int_agrees (element (judged d e.0) (judged d i.0)) (element_int (has is_int (sort_of d i.0)) (sort_of d e.0))
  layer_agrees (Unary s e at) = int_agrees (signed s (judged d e.0)).value (signed_int s (judged d e.0))
  layer_agrees (Binary o a b at) = int_agrees (combined o (judged d a.0) (judged d b.0)).value (combined_int o (judged d a.0) (judged d b.0))

  pub sort_rolls : (x : Expr-F Expr) → sort_of d (roll-Expr x) ≡ sort_layer x
  sort_rolls x = ap (λ (j : Judged). j.value) (fold-roll-Expr Judged (judged_layer d) x)

  pub pointer_rolls : (x : Expr-F Expr) → pointer_of n (roll-Expr x) ≡ pointer_layer x
  pointer_rolls x = ap (λ (k : Look). k.pointer) (fold-roll-Expr Look (look_layer n) x)

  pub expr_agrees : (e : Expr) → Agrees n (sort_of d e) (pointer_of n e)
  expr_agrees = ind-Expr ExprAgrees (λ x y is.
      subst (λ (o : Option Sort). Agrees n o (pointer_of n (roll-Expr x))) (sym (sort_rolls x))
      (subst (λ (q : Option Pointer). Agrees n (sort_layer x) q) (sym (pointer_rolls x))
      (subst (λ (z : Expr-F Expr). Agrees n (sort_layer z) (pointer_layer z)) is (layer_agrees y))))

  -- null pointers

  -- what is written as a null pointer has no pointer type of its own
  null_by : (x : Expr-F Expr) (t : Ty) → is_null_layer x ≡ true → sort_layer x ≡ Some (Of t) → is_pointer t ≡ false
  null_by (Const v at) t h typed = const_by (fits v) typed
    where
      const_by : (b : Bool) → (if b then Some (Of ty.Int) else None) ≡ Some (Of t) → is_pointer t ≡ false
      const_by true typed = let e : ty.Int ≡ t = cc in ap is_pointer (sym e)
      const_by false typed = absurd cc
  null_by (Null at) t h typed = absurd cc
  null_by (Var x at) t h typed = absurd cc
  null_by (Field e f at) t h typed = absurd cc
  null_by (Deref e at) t h typed = absurd cc
  null_by (Index e i at) t h typed = absurd cc
  null_by (Unary s e at) t h typed = absurd cc
  null_by (Binary o a b at) t h typed = absurd cc

  pub sort_opens : (e : Expr) → sort_of d e ≡ sort_layer (out-Expr e)
  sort_opens e = ap (λ (j : Judged). j.value) (fold_out-Expr Judged (judged_layer d) e)

  not_null_by : (e : Expr) (t : Ty) (b : Bool) → is_null e ≡ b → sort_of d e ≡ Some (Of t) → is_pointer t ≡ true → b ≡ false
  not_null_by e t true is typed points = let never : true ≡ false = sym points ∙ null_by (out-Expr e) t is (sym (sort_opens e) ∙ typed) in absurd cc
  not_null_by e t false is typed points = refl

  -- an expression of a pointer type is looked at
  pub is_looked_at : (e : Expr) (t : Ty) → sort_of d e ≡ Some (Of t) → is_pointer t ≡ true → (r : Read) × (pointer_of n e ≡ Some (record { ty = t; read = r })) × (is_null e ≡ false)
  is_looked_at e t typed points =
      let it : AgreesWith n true t (pointer_of n e) = subst (λ (b : Bool). AgreesWith n b t (pointer_of n e)) points (subst (λ (o : Option Sort). Agrees n o (pointer_of n e)) typed (expr_agrees e)) in
      (it.0, it.1, not_null_by e t (is_null e) refl typed points)

  no_pointer_any : (o : Option Sort) → IsIntIf o → o ≡ Some AnyPointer → ⊥
  no_pointer_any None h e = absurd cc
  no_pointer_any (Some (Of ty.Int)) h e = absurd cc
  no_pointer_any (Some (Of ty.IntPtr)) h e = absurd h
  no_pointer_any (Some (Of (ty.StructPtr s))) h e = absurd h
  no_pointer_any (Some AnyPointer) h e = absurd h

  no_type_any : (o : Option Ty) → option_map Of o ≡ Some AnyPointer → ⊥
  no_type_any None e = absurd cc
  no_type_any (Some t) e = absurd cc

  no_member_any : (at f : ℕ) (o : Option Sort) → option_and_then (member d at f) o ≡ Some AnyPointer → ⊥
  no_member_any at f None e = absurd cc
  no_member_any at f (Some AnyPointer) e = absurd cc
  no_member_any at f (Some (Of ty.Int)) e = absurd cc
  no_member_any at f (Some (Of ty.IntPtr)) e = absurd cc
  no_member_any at f (Some (Of (ty.StructPtr c))) e = no_type_any (declared_type d at f c) e

  any_by : (x : Expr-F Expr) → sort_layer x ≡ Some AnyPointer → is_null_layer x ≡ true
  any_by (Const v at) typed = absurd (no_pointer_any (int_if (fits v)).value (if_int (fits v)) typed)
  any_by (Null at) typed = refl
  any_by (Var x at) typed = absurd (no_type_any (var_type d x) typed)
  any_by (Field e f at) typed = absurd (no_member_any at f (sort_of d e) typed)
  any_by (Deref e at) typed = absurd (no_pointer_any (option_and_then pointee (sort_of d e)) (pointee_int (sort_of d e)) typed)
  any_by (Index e i at) typed = absurd (no_pointer_any (element (judged d e) (judged d i)) (element_int (has is_int (sort_of d i)) (sort_of d e)) typed)
  any_by (Unary s e at) typed = absurd (no_pointer_any (signed s (judged d e)).value (signed_int s (judged d e)) typed)
  any_by (Binary o a b at) typed = absurd (no_pointer_any (combined o (judged d a) (judged d b)).value (combined_int o (judged d a) (judged d b)) typed)

  -- an expression of the type of every pointer is the null pointer
  pub null_sorted : (e : Expr) → sort_of d e ≡ Some AnyPointer → is_null e ≡ true
  null_sorted e typed = any_by (out-Expr e) (sym (sort_opens e) ∙ typed)
