-- Writes of values that fit do the deeds of the place, and sources give the values that were evaluated.
use Rattle.std.proofs.Common.{◌≡◌, ℕ, suc, ◌+◌, ◌<◌, Bool, true, false, List, [], ◌∷◌, ◌++◌, slice_get, length, Option, Some, None, Result, Ok, option_map, option_and_then, refl, ap, sym, subst, ◌∙◌, arith}
use Rattle.std.specs.Prelude.{if◌then◌else◌}
use Rattle.std.specs.Option.{is_some}
use Rattle.std.proofs.lemmas.Bool.{eqb-true}
use Rattle.std.proofs.lemmas.Option.{slice_get_within}
use Rattle.c_tree.specs.AlikeTest.{same_ty}
use Rattle.c_tree.specs.Typing.{Declarations, Sort, Of, AnyPointer, points, goes_into, sort_of}
use Rattle.c_tree.specs.declared.expr.Expr.{Expr, Expr-F}
use Rattle.c_tree.specs.declared.expr.Expr.TheOpen.{Const, Null, Var, Field, Deref, Index, Unary, Binary}
use Rattle.c_tree.specs.declared.program.Ty.{Ty}
use Rattle.c_tree.specs.declared.program.Ty.TheVariants as ty
use Rattle.c_meaning.specs.declared.value.Value.{Value}
use Rattle.c_meaning.specs.declared.value.Value.TheVariants as value
use Rattle.c_meaning.specs.declared.machine.Location.{Location}
use Rattle.c_meaning.specs.declared.machine.Location.TheVariants.{Slot, Cell}
use Rattle.c_meaning.specs.declared.machine.Stop.{Stop}
use Rattle.c_meaning.specs.Eval.{cells_of}
use Rattle.c_meaning.specs.Machine.{Store, stored}
use Rattle.c_graph.specs.declared.graph.Graph.{Graph}
use Rattle.ts_domain.specs.declared.deed.Deed.{Deed}
use Rattle.ts_domain.specs.declared.deed.Deed.TheVariants.{Sets}
use Rattle.ts_domain.specs.declared.deed.Source.{Source}
use Rattle.ts_domain.specs.declared.deed.Source.TheVariants as source
use Rattle.ts_domain.specs.declared.names.Names.{Names}
use Rattle.ts_domain.specs.declared.pointers.Pointer.{Pointer}
use Rattle.ts_domain.specs.Deeds.{looked_at, content as content_source, source_of, sets, sets_field_of, sets_field, written_layer}
use Rattle.ts_domain.specs.Looks.{pointer_of, within, is_noted, notes}
use Rattle.ts_domain.specs.Pointers.{is_pointer, type_of, place_of, field_pointer}
use Rattle.ts_domain.specs.TypedMachines.{Fits, location_type, HasTypes}
use Rattle.ts_domain.specs.Views.{view_of, pointing, IsSame, object_type, Seen, slot_set, field_set, Finds, LooksAt, Gives, DoesAll}
use Rattle.ts_domain.proofs.Courses.{seen_with, Course, all_done, meets_freed, faults, is_excluded}
use Rattle.ts_domain.proofs.Evaluations.{look_at, IsPlaced, IsValueOf}
use Rattle.ts_domain.proofs.Expressions.{Holds, Shown, IsFieldAt}
use Rattle.ts_domain.proofs.NameLaws.{HasPlaces}
use Rattle.ts_domain.proofs.PointerSorts.{AreDeclared, AgreesWith, Agrees, is_looked_at, null_sorted}
use Rattle.ts_domain.proofs.Stores.{content, pointing_same, number_stored, same_view, slot_view, field_view}

-- types

pub same_type : (a b : Ty) → same_ty a b ≡ true → a ≡ b
same_type ty.Int ty.Int e = refl
same_type ty.IntPtr ty.IntPtr e = refl
same_type (ty.StructPtr s) (ty.StructPtr t) e = ap (λ (k : ℕ). ty.StructPtr k) (eqb-true s t e)
same_type _ _ e = absurd cc

points_is : (t : Ty) → points (Of t) ≡ is_pointer t
points_is ty.Int = refl
points_is ty.IntPtr = refl
points_is (ty.StructPtr s) = refl

pub none_is_some : {A : Type 0} {x : A} → None ≡ Some x → ⊥
none_is_some h = absurd cc

noted_more : (b : Bool) (x : Deed) (xs ys : List Deed) → is_noted x ≡ b → notes (xs ++ ys) ≡ notes xs + notes ys → notes ((x ∷ xs) ++ ys) ≡ notes (x ∷ xs) + notes ys
noted_more true x xs ys is h =
    let left : notes ((x ∷ xs) ++ ys) ≡ suc (notes (xs ++ ys)) = rw is refl in
    let right : notes (x ∷ xs) ≡ suc (notes xs) = rw is refl in
    omega arith
noted_more false x xs ys is h =
    let left : notes ((x ∷ xs) ++ ys) ≡ notes (xs ++ ys) = rw is refl in
    let right : notes (x ∷ xs) ≡ notes xs = rw is refl in
    omega arith

pub notes_append : (xs ys : List Deed) → notes (xs ++ ys) ≡ notes xs + notes ys
notes_append [] ys = let e : notes ys ≡ 0 + notes ys = omega arith in e
notes_append (x ∷ xs) ys = noted_more (is_noted x) x xs ys refl (notes_append xs ys)

module _ (n : Names) (g : Graph) (sites : List ℕ) (s : Store) where
  -- what comes of a course that gives a value
  pub course_ok : {A : Type 0} (Q : A → List Value → Type 0) (ds : List Deed) (found : List Value) (r : Result A Stop) (a : A) → Course n g sites s A Q ds found r → r ≡ Ok a →
      (behind : List Value) × DoesAll n g sites ds (seen_with n g sites s found) (seen_with n g sites s behind) × Q a behind
  course_ok Q ds found _ a (all_done b behind does q) is = let e : b ≡ a = cc in (behind, does, subst (λ x. Q x behind) e q)
  course_ok Q ds found _ a (meets_freed front r noted back behind o offset at does finds freed) is = absurd cc
  course_ok Q ds found _ a (faults kind offset harmless) is = absurd cc
  course_ok Q ds found _ a is_excluded is = absurd cc

  -- these deeds lead to the view of that machine
  abbrev pub Makes : List Deed → List Value → Store → Type 0
  Makes ds found t = (u : Seen) × DoesAll n g sites ds (seen_with n g sites s found) u × IsSame u.view (view_of n t)

  pub makes_nothing : (found : List Value) (t : Store) → ((l : Location) → pointing (content s l) ≡ pointing (content t l)) → Makes [] found t
  makes_nothing found t h = (seen_with n g sites s found, refl, same_view n s t h)

  module _ (d : Declarations) (same : AreDeclared d n) (places : HasPlaces n) (typed : HasTypes n g sites s) where
    -- a value that fits, as a source gives it where it is a pointer
    abbrev pub IsGiven : Ty → List Value → Source → Value → Type 0
    IsGiven t found src v = is_pointer t ≡ true → Gives n g sites (seen_with n g sites s found) src v × (v ≡ value.Undef → ⊥)

    pub number_makes : (l : Location) (t : Ty) (v : Value) (found : List Value) → location_type n g sites l ≡ Some t → Fits g sites t v → is_pointer t ≡ false → Makes [] found (stored l v s)
    number_makes l t v found at fit plain = makes_nothing found (stored l v s) (λ m. sym (number_stored n g sites s typed l t v at fit plain m))

    -- variables

    pub slot_there : (k x : ℕ) → slice_get n.vars k ≡ Some x → x < length s.slots
    slot_there k x at = let it = places.pointers k x at in by_decl (slice_get n.decls x) refl it.1
      where
        by_decl : (o : Option _) → slice_get n.decls x ≡ o → option_map (λ v. v.ty) o ≡ Some (places.pointers k x at).0 → x < length s.slots
        by_decl None e h = absurd cc
        by_decl (Some v) e h = subst (λ (m : ℕ). x < m) (sym typed.slots) (slice_get_within n.decls x v e)

    pub set_variable : (k x : ℕ) (v : Value) (src : Source) (found : List Value) → slice_get n.vars k ≡ Some x → pointing v ≡ v → Gives n g sites (seen_with n g sites s found) src v → Makes (Sets k src ∷ []) found (stored (Slot x) v s)
    set_variable k x v src found at pointer gives =
        let u = slot_set k v (seen_with n g sites s found) in
        (u, (u, (v, gives, refl), refl), slot_view n places s k x v at (slot_there k x at) pointer)

    var_by : (x : ℕ) (t : Ty) (v : Value) (src : Source) (found : List Value) (o : Option ℕ) (b : Bool) → place_of n x ≡ o → is_pointer t ≡ b → type_of n x ≡ Some t → Fits g sites t v → IsGiven t found src v →
        Makes (sets o src) found (stored (Slot x) v s)
    var_by x t v src found (Some k) true at points is fit given = set_variable k x v src found (places.there x k at) (pointing_same n g sites t v fit points) (given points).0
    var_by x t v src found (Some k) false at plain is fit given =
        let it = places.pointers k x (places.there x k at) in
        let e : Some it.0 ≡ Some t = sym it.1 ∙ is in
        let e' : it.0 ≡ t = cc in
        let never : true ≡ false = sym it.2 ∙ ap is_pointer e' ∙ plain in
        absurd cc
    var_by x t v src found None true at points is fit given = let it = places.has x t is points in let never : None ≡ Some it.0 = sym at ∙ it.1 in absurd cc
    var_by x t v src found None false at plain is fit given = number_makes (Slot x) t v found is fit plain

    -- fields

    set_field : (p : Pointer) (c f o : ℕ) (v : Value) (src : Source) (found : List Value) → p.ty ≡ ty.StructPtr c → f < length (cells_of s.objects o) → object_type g sites o ≡ Some (ty.StructPtr c) →
        Finds n g sites (view_of n s) p.read (value.Ptr o) → pointing v ≡ v → Gives n g sites (seen_with n g sites s found) src v → (v ≡ value.Undef → ⊥) → Makes (sets_field_of p.read f src p.ty) found (stored (Cell o f) v s)
    set_field p c f o v src found is low made finds pointer gives defined =
        let u = field_set o f v (seen_with n g sites s found) in
        subst (λ (t : Ty). Makes (sets_field_of p.read f src t) found (stored (Cell o f) v s)) (sym is)
        (u, (u, (o, v, finds, made, gives, defined, refl), refl), field_view n places s o f v low pointer)

    field_by : (q : Option Pointer) (f : ℕ) (l : Location) (t : Ty) (v : Value) (src : Source) (found : List Value) (b : Bool) → is_pointer t ≡ b → AgreesWith n b t (option_and_then (field_pointer n f) q) → IsFieldAt n g sites s q f l →
        location_type n g sites l ≡ Some t → Fits g sites t v → IsGiven t found src v → Makes (sets_field n f src q) found (stored l v s)
    field_by None f l t v src found true points agrees h at fit given = absurd (none_is_some agrees.1)
    field_by None f l t v src found false plain agrees h at fit given = number_makes l t v found at fit plain
    field_by (Some p) f l t v src found b points agrees h at fit given = by_pointer b (field_pointer n f p) points agrees
      where
        by_pointer : (b : Bool) (o : Option Pointer) → is_pointer t ≡ b → AgreesWith n b t o → Makes (if is_some o then sets_field_of p.read f src p.ty else []) found (stored l v s)
        by_pointer true None points agrees = absurd (none_is_some agrees.1)
        by_pointer true (Some q) points agrees =
            let it = h.finds p refl in
            subst (λ (m : Location). Makes (sets_field_of p.read f src p.ty) found (stored m v s)) (sym h.is)
            (set_field p h.struct f h.object v src found it.0 h.within h.typed it.1 (pointing_same n g sites t v fit points) (given points).0 (given points).1)
        by_pointer false None plain agrees = number_makes l t v found at fit plain
        by_pointer false (Some q) plain agrees = let never : Some q ≡ None = agrees in absurd cc

    -- a place that is no variable and no field holds no pointer
    plain_by : (l : Location) (t : Ty) (v : Value) (found : List Value) (b : Bool) → is_pointer t ≡ b → AgreesWith n b t None → location_type n g sites l ≡ Some t → Fits g sites t v → Makes [] found (stored l v s)
    plain_by l t v found true points agrees at fit = absurd (none_is_some agrees.1)
    plain_by l t v found false plain agrees at fit = number_makes l t v found at fit plain

    pub layer_written : (x : Expr-F Expr) (t : Ty) (l : Location) (v : Value) (src : Source) (found behind : List Value) → Agrees n (Some (Of t)) (look_at n x).pointer →
        IsPlaced n g sites s x t l behind → Fits g sites t v → IsGiven t found src v → Makes (written_layer n src x) found (stored l v s)
    layer_written (Var x at) t l v src found behind agrees placed fit given =
        let is : l ≡ Slot x = placed.1 in
        let is_of : type_of n x ≡ Some t = ap (location_type n g sites) (sym is) ∙ placed.0.0 in
        subst (λ (m : Location). Makes (sets (place_of n x) src) found (stored m v s)) (sym is) (var_by x t v src found (place_of n x) (is_pointer t) refl refl is_of fit given)
    layer_written (Field e f at) t l v src found behind agrees placed fit given = field_by (pointer_of n e) f l t v src found (is_pointer t) refl agrees placed.1 placed.0.0 fit given
    layer_written (Deref e at) t l v src found behind agrees placed fit given = plain_by l t v found (is_pointer t) refl agrees placed.0.0 fit
    layer_written (Index e i at) t l v src found behind agrees placed fit given = plain_by l t v found (is_pointer t) refl agrees placed.0.0 fit
    layer_written (Const c at) t l v src found behind agrees placed fit given = plain_by l t v found (is_pointer t) refl agrees placed.0.0 fit
    layer_written (Null at) t l v src found behind agrees placed fit given = plain_by l t v found (is_pointer t) refl agrees placed.0.0 fit
    layer_written (Unary o e at) t l v src found behind agrees placed fit given = plain_by l t v found (is_pointer t) refl agrees placed.0.0 fit
    layer_written (Binary o a b at) t l v src found behind agrees placed fit given = plain_by l t v found (is_pointer t) refl agrees placed.0.0 fit

    -- sources

    into_by : (t : Ty) (v : Value) (u : Sort) → goes_into t u ≡ true → Holds n g sites s u v → Fits g sites t v × (v ≡ value.Undef → ⊥)
    into_by t v (Of u) goes h = let e = same_type t u goes in subst (λ (w : Ty). Fits g sites w v × (v ≡ value.Undef → ⊥)) (sym e) h
    into_by t v AnyPointer goes h =
        let is : v ≡ value.Null = h in
        subst (λ (c : Value). Fits g sites t c × (c ≡ value.Undef → ⊥)) (sym is) (sym (points_is t) ∙ goes, λ e. absurd cc)

    -- what goes into a place of a type fits it
    pub fits_into : (t : Ty) (v : Value) (u : Sort) → goes_into t u ≡ true → Holds n g sites s u v → Fits g sites t v × (v ≡ value.Undef → ⊥)
    fits_into t v u goes h = into_by t v u goes h

    -- the source of a pointer gives its value
    pub gives_value : (e : Expr) (t : Ty) (u : Sort) (before : List Deed) (found behind : List Value) (v : Value) → sort_of d e ≡ Some u → goes_into t u ≡ true → is_pointer t ≡ true → length found ≡ notes before →
        IsValueOf n g sites s e u true found v behind → (src : Source) × (source_of n before e ≡ Some src) × Gives n g sites (seen_with n g sites s behind) src v
    gives_value e t (Of w) before found behind v is goes points many h =
        let t_is : t ≡ w = same_type t w goes in
        let it = is_looked_at n d same places e w is (ap is_pointer (sym t_is) ∙ points) in
        let p : Pointer = record { ty = w; read = it.0 } in
        let shown : Shown n g sites s (Some p) true (length found + notes (within n e)) behind v = subst (λ (q : Option Pointer). Shown n g sites s q true (length found + notes (within n e)) behind v) it.1 h.1 in
        let note : length found + notes (within n e) ≡ notes (before ++ within n e) = ap (λ (k : ℕ). k + notes (within n e)) many ∙ sym (notes_append before (within n e)) in
        let src = source.Content (looked_at (notes (before ++ within n e)) it.0) in (
          src,
          ap (λ (b : Bool). if b then Some source.Null else content_source (before ++ within n e) (pointer_of n e)) it.2 ∙ ap (content_source (before ++ within n e)) it.1,
          (subst (λ (k : ℕ). LooksAt n g sites (seen_with n g sites s behind) (looked_at k it.0) v) note (shown.1 refl), h.0.1),
        )
    gives_value e t AnyPointer before found behind v is goes points many h =
        (source.Null, ap (λ (b : Bool). if b then Some source.Null else content_source (before ++ within n e) (pointer_of n e)) (null_sorted n d same places e is), h.0)
