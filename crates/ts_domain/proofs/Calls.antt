-- Calls do their deeds: arguments are read in order, and then the parameters are written, which no argument reads.
use Rattle.std.proofs.Common.{◌≡◌, ℕ, ◌+◌, ◌-◌, ◌<◌, ◌≤◌, ◌==◌, ◌⊎◌, inl, inr, ⊎_elim, Bool, true, false, List, [], ◌∷◌, ◌++◌, map, slice_get, length, Option, Some, None, Ok, option_map, option_and_then, refl, ap, sym, subst, ◌∙◌, arith}
use Rattle.std.specs.Prelude.{nat_lt, unwrap_or, if◌then◌else◌}
use Rattle.std.specs.Option.{is_some}
use Rattle.std.proofs.lemmas.Bool.{and_parts, ltb-false, eqb-true, eqb-false}
use Rattle.std.proofs.lemmas.List.{append_assoc, append-nil}
use Rattle.std.proofs.lemmas.Option.{slice_get_within, slice_get-map}
use Rattle.c_tree.specs.Typing.{Declarations, Prototype, prototype, declarations, has, Sort, goes_into, var_type, sort_of, argument_fits, arguments_fit}
use Rattle.c_tree.specs.declared.expr.Expr.{Expr, Expr-F, map-Expr, fold-roll-Expr, ind-Expr}
use Rattle.c_tree.specs.declared.expr.Expr.TheOpen.{Const, Null, Var, Field, Deref, Index, Unary, Binary}
use Rattle.c_tree.specs.declared.program.FunDef.{FunDef}
use Rattle.c_tree.specs.declared.program.Program.{Program}
use Rattle.c_tree.specs.declared.program.Ty.{Ty}
use Rattle.c_tree.specs.declared.program.Ty.TheVariants as ty
use Rattle.c_meaning.specs.declared.value.Value.{Value}
use Rattle.c_meaning.specs.declared.value.Value.TheVariants as value
use Rattle.c_meaning.specs.declared.machine.Location.TheVariants.{Slot}
use Rattle.c_meaning.specs.Eval.{◌>>=◌, eval, eval_all}
use Rattle.c_meaning.specs.Machine.{Store, stored}
use Rattle.c_meaning.specs.Effects.{bound as bound_store, parameters_of}
use Rattle.c_graph.specs.declared.graph.Action.TheVariants as action
use Rattle.c_graph.specs.declared.graph.Graph.{Graph}
use Rattle.call_contexts.proofs.Has.{Has, first, later, get_left, has_contains}
use Rattle.ts_domain.specs.declared.deed.Deed.{Deed}
use Rattle.ts_domain.specs.declared.deed.Source.{Source}
use Rattle.ts_domain.specs.declared.deed.Source.TheVariants as source
use Rattle.ts_domain.specs.declared.edges.Binding.{Binding}
use Rattle.ts_domain.specs.declared.names.Names.{Names}
use Rattle.ts_domain.specs.declared.names.Read.{Read}
use Rattle.ts_domain.specs.declared.names.Read.TheVariants as read
use Rattle.ts_domain.specs.declared.pointers.Pointer.{Pointer}
use Rattle.ts_domain.specs.Deeds.{looked_at, is_null, content as content_source, source_of, bound, bound_argument, no_binding, bound_arguments, call_deeds}
use Rattle.ts_domain.specs.Looks.{Look, look_layer, look, pointer_of, within, value_deeds, notes}
use Rattle.ts_domain.specs.Pointers.{is_pointer, parameters, type_of, field_type, place_of, field_place, pointer_at, chained, field_read, field_pointer}
use Rattle.ts_domain.specs.TypedGraphs.{mentions_layer, mentions, HasTypedActions, HasCallsApart}
use Rattle.ts_domain.specs.TypedMachines.{Fits, HasTypes}
use Rattle.ts_domain.specs.Views.{AreNames, View, view_of, IsSame, with_slot, peek, peek_field, field_seen, Seen, slot_set, Gives, DoesAll}
use Rattle.ts_domain.proofs.Answers.{same_is}
use Rattle.ts_domain.proofs.Assigns.{then_ok, unseen_slot, value_done}
use Rattle.ts_domain.proofs.Courses.{seen_with, done_append, done_remembers}
use Rattle.ts_domain.proofs.Bridge.{CallsGo}
use Rattle.ts_domain.proofs.Evaluations.{IsValueOf, remembered_length}
use Rattle.ts_domain.proofs.Expressions.{has_some, field_pointer_read}
use Rattle.ts_domain.proofs.NameLaws.{HasPlaces, has_places}
use Rattle.ts_domain.proofs.PointerSorts.{AreDeclared, var_declared}
use Rattle.ts_domain.proofs.Stores.{stored_types, pointing_same, slot_view}
use Rattle.ts_domain.proofs.PlaceWrites.{Makes, slot_there, fits_into, gives_value}

module _ (n : Names) where
  -- a read looks at nothing that the variable at place j holds
  abbrev pub IsApart : ℕ → Read → Type 0
  IsApart j (read.Deep t f) = Unit {0}
  IsApart j (read.Name k) = (k ≡ j → ⊥) × ((q : ℕ × ℕ) → length n.vars ≤ k → slice_get n.fields (k - length n.vars) ≡ Some q → q.0 ≡ j → ⊥)

  other_slot : (j k : ℕ) (c : Value) (v : View) → (k ≡ j → ⊥) → (with_slot j c v).slot k ≡ v.slot k
  other_slot j k c v apart = by_place (k == j) refl
    where
      by_place : (b : Bool) → k == j ≡ b → (if b then c else v.slot k) ≡ v.slot k
      by_place true is = absurd (apart (eqb-true k j is))
      by_place false is = refl

  same_field : (j f : ℕ) (c : Value) (v : View) (w : Value) → field_seen (with_slot j c v) f w ≡ field_seen v f w
  same_field j f c v value.Undef = refl
  same_field j f c v (value.Int m) = refl
  same_field j f c v value.Null = refl
  same_field j f c v (value.Ptr o) = refl

  -- so it is not changed by a write to that
  peek_apart : (j k : ℕ) (c : Value) (v : View) → IsApart j (read.Name k) → peek n (with_slot j c v) k ≡ peek n v k
  peek_apart j k c v h = by_kind (nat_lt k (length n.vars)) refl
    where
      by_field : (o : Option (ℕ × ℕ)) → length n.vars ≤ k → slice_get n.fields (k - length n.vars) ≡ o → peek_field (with_slot j c v) o ≡ peek_field v o
      by_field None past at = refl
      by_field (Some q) past at = same_field j q.1 c v ((with_slot j c v).slot q.0) ∙ ap (field_seen v q.1) (other_slot j q.0 c v (h.1 q past at))

      by_kind : (b : Bool) → nat_lt k (length n.vars) ≡ b →
          (if b then (with_slot j c v).slot k else peek_field (with_slot j c v) (slice_get n.fields (k - length n.vars))) ≡ (if b then v.slot k else peek_field v (slice_get n.fields (k - length n.vars)))
      by_kind true low = other_slot j k c v h.0
      by_kind false past = by_field (slice_get n.fields (k - length n.vars)) (ltb-false k (length n.vars) past) refl

  module _ (places : HasPlaces n) (x j : ℕ) (at : place_of n x ≡ Some j) where
    place_low : j < length n.vars
    place_low = slice_get_within n.vars j x (places.there x j at)

    var_apart : (y : ℕ) (p : Pointer) (o : Option Ty) (k : Option ℕ) → (y == x) ≡ false → place_of n y ≡ k → option_and_then (λ t. option_map (pointer_at t) k) o ≡ Some p → IsApart j p.read
    var_apart y p None k other there is = absurd cc
    var_apart y p (Some t) None other there is = absurd cc
    var_apart y p (Some t) (Some k) other there is =
        let e : pointer_at t k ≡ p = cc in
        let low : k < length n.vars = slice_get_within n.vars k y (places.there y k there) in
        subst (λ (q : Pointer). IsApart j q.read) e (
          (λ same.
              let one : Some y ≡ Some x = sym (places.there y k there) ∙ ap (slice_get n.vars) same ∙ places.there x j at in
              let one_is : y ≡ x = cc in
              eqb-false y x other one_is),
          λ q past there same. absurd (omega arith),
        )

    numbered_apart : (k f : ℕ) (q : Read) (i : Option ℕ) → IsApart j (read.Name k) → field_place n.fields k f ≡ i → option_map (λ i. read.Name (length n.vars + i)) i ≡ Some q → IsApart j q
    numbered_apart k f q None h there is = absurd cc
    numbered_apart k f q (Some i) h there is =
        let e : read.Name (length n.vars + i) ≡ q = cc in
        let back : length n.vars + i - length n.vars ≡ i = omega arith in
        let low = place_low in
        subst (λ (r : Read). IsApart j r) e (
          (λ same. absurd (omega arith)),
          λ q past field same.
              let one : Some q ≡ Some (k, f) = sym field ∙ ap (slice_get n.fields) back ∙ places.field_there k f i there in
              let one_is : q ≡ (k, f) = cc in
              h.0 (sym (ap (λ (y : ℕ × ℕ). y.0) one_is) ∙ same),
        )

    chained_apart : (k c f : ℕ) (q : Read) (b : Bool) → IsApart j (read.Name k) → chained n k c f b ≡ Some q → IsApart j q
    chained_apart k c f q true h is = numbered_apart k f q (field_place n.fields k f) h refl is
    chained_apart k c f q false h is = let e : read.Deep c f ≡ q = cc in subst (λ (r : Read). IsApart j r) e tt

    read_apart : (r : Read) (c f : ℕ) (q : Read) → IsApart j r → field_read n r c f ≡ Some q → IsApart j q
    read_apart (read.Name k) c f q h is = chained_apart k c f q (nat_lt k (length n.vars)) h is
    read_apart (read.Deep t m) c f q h is = let e : read.Deep c f ≡ q = cc in subst (λ (r : Read). IsApart j r) e tt

    field_apart : (f : ℕ) (q : Option Pointer) (p : Pointer) → ((b : Pointer) → q ≡ Some b → IsApart j b.read) → option_and_then (field_pointer n f) q ≡ Some p → IsApart j p.read
    field_apart f None p h is = absurd cc
    field_apart f (Some b) p h is = by_type b.ty (h b refl) is
      where
        by_type : (t : Ty) → IsApart j b.read → field_pointer n f (record { ty = t; read = b.read }) ≡ Some p → IsApart j p.read
        by_type ty.Int h is = absurd cc
        by_type ty.IntPtr h is = absurd cc
        by_type (ty.StructPtr c) h is = read_apart b.read c f p.read h (field_pointer_read n b.read c f p (field_type n c f) is)

    -- an expression that doesn't mention a variable reads nothing of it
    abbrev ExprApart : Expr → Type 0
    ExprApart e = mentions x e ≡ false → (p : Pointer) → pointer_of n e ≡ Some p → IsApart j p.read

    abbrev plain : Expr-F ((e : Expr) × ExprApart e) → Expr-F Expr
    plain = map-Expr ((e : Expr) × ExprApart e) Expr (λ e. e.0)

    layer_apart : (y : Expr-F ((e : Expr) × ExprApart e)) → mentions_layer x (map-Expr Expr Bool (mentions x) (plain y)) ≡ false → (p : Pointer) → (look_layer n (map-Expr Expr Look (look n) (plain y))).pointer ≡ Some p → IsApart j p.read
    layer_apart (Const c at) other p is = absurd cc
    layer_apart (Null at) other p is = absurd cc
    layer_apart (Var y at) other p is = var_apart y p (type_of n y) (place_of n y) other refl is
    layer_apart (Field e f at) other p is = field_apart f (pointer_of n e.0) p (λ b there. e.1 other b there) is
    layer_apart (Deref e at) other p is = absurd cc
    layer_apart (Index e i at) other p is = absurd cc
    layer_apart (Unary o e at) other p is = absurd cc
    layer_apart (Binary o a b at) other p is = absurd cc

    pub expr_apart : (e : Expr) → mentions x e ≡ false → (p : Pointer) → pointer_of n e ≡ Some p → IsApart j p.read
    expr_apart = ind-Expr ExprApart (λ z y is other p there.
        let layer : mentions_layer x (map-Expr Expr Bool (mentions x) z) ≡ false → (p : Pointer) → (look_layer n (map-Expr Expr Look (look n) z)).pointer ≡ Some p → IsApart j p.read =
        subst (λ (w : Expr-F Expr). mentions_layer x (map-Expr Expr Bool (mentions x) w) ≡ false → (p : Pointer) → (look_layer n (map-Expr Expr Look (look n) w)).pointer ≡ Some p → IsApart j p.read) is (layer_apart y) in
        layer (sym (fold-roll-Expr Bool (mentions_layer x) z) ∙ other) p (sym (ap (λ (k : Look). k.pointer) (fold-roll-Expr Look (look_layer n) z)) ∙ there))

-- sources

source_cases : (n : Names) (before : List Deed) (e : Expr) (src : Source) → source_of n before e ≡ Some src →
    (src ≡ source.Null) ⊎ ((p : Pointer) × (pointer_of n e ≡ Some p) × (src ≡ source.Content (looked_at (notes (before ++ within n e)) p.read)))
source_cases n before e src h = by_null (is_null e) (pointer_of n e) refl h
  where
    by_null : (b : Bool) (q : Option Pointer) → pointer_of n e ≡ q → (if b then Some source.Null else content_source (before ++ within n e) q) ≡ Some src →
        (src ≡ source.Null) ⊎ ((p : Pointer) × (pointer_of n e ≡ Some p) × (src ≡ source.Content (looked_at (notes (before ++ within n e)) p.read)))
    by_null true q at h = let same : source.Null ≡ src = cc in inl (sym same)
    by_null false None at h = absurd cc
    by_null false (Some p) at h = let same : source.Content (looked_at (notes (before ++ within n e)) p.read) ≡ src = cc in inr (p, at, sym same)

module _ (n : Names) (g : Graph) (sites : List ℕ) (s : Store) (d : Declarations) (same : AreDeclared d n) (places : HasPlaces n) (typed : HasTypes n g sites s) (xs : List ℕ) where
  -- a read is apart from all of these variables
  abbrev IsApartOf : Read → Type 0
  IsApartOf r = (x j : ℕ) → Has x xs → place_of n x ≡ Some j → IsApart n j r

  -- some arguments are read, and what they write makes that store
  record IsBound (b : Binding) (t : Store) : Type 0 where
    found : List Value
    reads : DoesAll n g sites b.reads (seen_with n g sites s []) (seen_with n g sites s found)
    writes : (behind more : List Value) → behind ≡ found ++ more → (u : Seen) × DoesAll n g sites b.writes (seen_with n g sites s behind) u × (u.view ≡ view_of n t) × (u.found ≡ behind)
    types : HasTypes n g sites t
    kept : (k : ℕ) → IsApartOf (read.Name k) → peek n (view_of n t) k ≡ peek n (view_of n s) k
    cells : (o f : ℕ) → (view_of n t).cell o f ≡ (view_of n s).cell o f

  moved : (r : Read) (note : ℕ) (v : Value) (t : Store) (behind final more : List Value) (u : Seen) → ((k : ℕ) → IsApartOf (read.Name k) → peek n (view_of n t) k ≡ peek n (view_of n s) k) → ((o f : ℕ) → (view_of n t).cell o f ≡ (view_of n s).cell o f) → IsApartOf r → final ≡ behind ++ more → u.view ≡ view_of n t → u.found ≡ final →
      Gives n g sites (seen_with n g sites s behind) (source.Content (looked_at note r)) v → Gives n g sites u (source.Content (looked_at note r)) v
  moved (read.Name k) note v t behind final more u kept cells apart is view found gives = (ap (λ (w : View). peek n w k) view ∙ kept k apart ∙ gives.0, gives.1)
  moved (read.Deep c f) note v t behind final more u kept cells apart is view found gives =
      let finds = gives.0.1 in (
        (
          subst (λ (ws : List Value). slice_get ws note ≡ Some v) (sym (found ∙ is)) (get_left behind more v note gives.0.0),
          (finds.0, finds.1, ap (λ (w : View). w.cell finds.0 f) view ∙ cells finds.0 f ∙ finds.2),
        ),
        gives.1,
      )

  gives_there : (e : Expr) (before : List Deed) (src : Source) (v : Value) (t : Store) (behind final more : List Value) (u : Seen) → source_of n before e ≡ Some src → ((k : ℕ) → IsApartOf (read.Name k) → peek n (view_of n t) k ≡ peek n (view_of n s) k) → ((o f : ℕ) → (view_of n t).cell o f ≡ (view_of n s).cell o f) →
      ((p : Pointer) → pointer_of n e ≡ Some p → IsApartOf p.read) → final ≡ behind ++ more → u.view ≡ view_of n t → u.found ≡ final → Gives n g sites (seen_with n g sites s behind) src v → Gives n g sites u src v
  gives_there e before src v t behind final more u at kept cells apart is view found gives = ⊎_elim
      (λ null. subst (λ (x : Source). Gives n g sites u x v) (sym null) (subst (λ (x : Source). Gives n g sites (seen_with n g sites s behind) x v) null gives))
      (λ it. subst (λ (x : Source). Gives n g sites u x v) (sym it.2)
      (moved it.0.read (notes (before ++ within n e)) v t behind final more u kept cells (apart it.0 it.1) is view found (subst (λ (x : Source). Gives n g sites (seen_with n g sites s behind) x v) it.2 gives)))
      (source_cases n before e src at)

  -- one argument more
  module _ (b : Binding) (t : Store) (h : IsBound b t) (x : ℕ) (e : Expr) (v : Value) (among : Has x xs) (fits : argument_fits d x e ≡ true) (at : eval s.slots s.objects e ≡ Ok v) (apart : (p : Pointer) → pointer_of n e ≡ Some p → IsApartOf p.read) where
    abbrev Writes : Option ℕ → List Value → Type 0
    Writes k behind = (final more : List Value) → final ≡ behind ++ more → (u : Seen) → (u.view ≡ view_of n t) → (u.found ≡ final) →
        (w : Seen) × DoesAll n g sites (bound k (source_of n b.reads e)) u w × (w.view ≡ view_of n (stored (Slot x) v t)) × (w.found ≡ final)

    write_by : (ty : Ty) (sort : Sort) (behind : List Value) (k : Option ℕ) → place_of n x ≡ k → type_of n x ≡ Some ty → sort_of d e ≡ Some sort → goes_into ty sort ≡ true → IsValueOf n g sites s e sort (is_some k) h.found v behind → Writes k behind
    write_by ty sort behind (Some k) there is of_value goes val final more long u view found =
        let pointer = places.pointers k x (places.there x k there) in
        let types : Some pointer.0 ≡ Some ty = sym pointer.1 ∙ is in
        let ty_is : pointer.0 ≡ ty = cc in
        let points : is_pointer ty ≡ true = ap is_pointer (sym ty_is) ∙ pointer.2 in
        let counted : length h.found ≡ 0 + notes b.reads = remembered_length b.reads [] h.found (done_remembers n g sites b.reads (seen_with n g sites s []) (seen_with n g sites s h.found) h.reads) in
        let many : length h.found ≡ notes b.reads = omega arith in
        let it = gives_value n g sites s d same places typed e ty sort b.reads h.found behind v of_value goes points many val in
        let fit = fits_into n g sites s d same places typed ty v sort goes val.0 in
        let gives = gives_there e b.reads it.0 v t behind final more u it.1 h.kept h.cells apart long view found it.2 in
        let after : with_slot k v u.view ≡ view_of n (stored (Slot x) v t) =
        ap (with_slot k v) view ∙ same_is (slot_view n places t k x v (places.there x k there) (slot_there n g sites t d same places h.types k x (places.there x k there)) (pointing_same n g sites ty v fit.0 points)) in
        subst (λ (o : Option Source). (w : Seen) × DoesAll n g sites (bound (Some k) o) u w × (w.view ≡ view_of n (stored (Slot x) v t)) × (w.found ≡ final)) (sym it.1)
        (slot_set k v u, (slot_set k v u, (v, gives, refl), refl), after, found)
    write_by ty sort behind None there is of_value goes val final more long u view found = by_source (source_of n b.reads e)
      where
        by_source : (o : Option Source) → (w : Seen) × DoesAll n g sites (bound None o) u w × (w.view ≡ view_of n (stored (Slot x) v t)) × (w.found ≡ final)
        by_source None = (u, refl, view ∙ same_is (unseen_slot n g sites t places x v there), found)
        by_source (Some src) = (u, refl, view ∙ same_is (unseen_slot n g sites t places x v there), found)

    kept_by : (ty : Ty) → type_of n x ≡ Some ty → Fits g sites ty v → (m : ℕ) → IsApartOf (read.Name m) → (k : Option ℕ) → place_of n x ≡ k → peek n (view_of n (stored (Slot x) v t)) m ≡ peek n (view_of n t) m
    kept_by ty is fit m free None there = ap (λ (w : View). peek n w m) (sym (same_is (unseen_slot n g sites t places x v there)))
    kept_by ty is fit m free (Some k) there =
        let pointer = places.pointers k x (places.there x k there) in
        let types : Some pointer.0 ≡ Some ty = sym pointer.1 ∙ is in
        let ty_is : pointer.0 ≡ ty = cc in
        let points : is_pointer ty ≡ true = ap is_pointer (sym ty_is) ∙ pointer.2 in
        ap (λ (w : View). peek n w m) (sym (same_is (slot_view n places t k x v (places.there x k there) (slot_there n g sites t d same places h.types k x (places.there x k there)) (pointing_same n g sites ty v fit points))))
        ∙ peek_apart n k m v (view_of n t) (free x k among there)

    bound_more : IsBound (bound_argument n b (x, e)) (stored (Slot x) v t)
    bound_more =
        let var = has_some (λ t. has (goes_into t) (sort_of d e)) (var_type d x) fits in
        let val = has_some (goes_into var.0) (sort_of d e) var.2 in
        let is : type_of n x ≡ Some var.0 = sym (var_declared n d same places x) ∙ var.1 in
        let noted = is_some (place_of n x) in
        let it = value_done n g sites s d same places typed e val.0 noted h.found v val.1 at in
        let fit = fits_into n g sites s d same places typed var.0 v val.0 val.2 it.2.0 in
        let remembered = done_remembers n g sites (value_deeds n noted e) (seen_with n g sites s h.found) (seen_with n g sites s it.0) it.1 in
        record {
          found = it.0;
          reads = done_append n g sites b.reads (value_deeds n noted e) (seen_with n g sites s []) (seen_with n g sites s h.found) (seen_with n g sites s it.0) h.reads it.1;
          writes = λ final more long.
              let all : final ≡ h.found ++ (remembered.more ++ more) = long ∙ ap (λ (ws : List Value). ws ++ more) remembered.is ∙ append_assoc h.found remembered.more more in
              let before = h.writes final (remembered.more ++ more) all in
              let own = write_by var.0 val.0 it.0 (place_of n x) refl is val.1 val.2 it.2 final more long before.0 before.2 before.3 in
              (own.0, done_append n g sites b.writes (bound (place_of n x) (source_of n b.reads e)) (seen_with n g sites s final) before.0 own.0 before.1 own.1, own.2, own.3);
          types = stored_types n g sites t h.types (Slot x) var.0 v is fit.0;
          kept = λ m free. kept_by var.0 is fit.0 m free (place_of n x) refl ∙ h.kept m free;
          cells = λ o f. h.cells o f;
        }

  -- all arguments
  all_bound : (b : Binding) (t : Store) (ys : List ℕ) (es : List Expr) (vs : List Value) → IsBound b t → ((y : ℕ) → Has y ys → Has y xs) → arguments_fit d ys es ≡ true → eval_all s.slots s.objects es ≡ Ok vs →
      ((e : Expr) → Has e es → (p : Pointer) → pointer_of n e ≡ Some p → IsApartOf p.read) → IsBound (bound_arguments n b ys es) (bound_store ys vs t)
  all_bound b t [] [] vs h among fits at apart = h
  all_bound b t [] (e ∷ es) vs h among fits at apart = absurd cc
  all_bound b t (y ∷ ys) [] vs h among fits at apart = absurd cc
  all_bound b t (y ∷ ys) (e ∷ es) vs h among fits at apart =
      let both = and_parts (argument_fits d y e) (arguments_fit d ys es) fits in
      let one = then_ok (eval s.slots s.objects e) (λ v. eval_all s.slots s.objects es >>= λ vs. Ok (v ∷ vs)) vs at in
      let rest = then_ok (eval_all s.slots s.objects es) (λ vs. Ok (one.0 ∷ vs)) vs one.2 in
      let same_values : one.0 ∷ rest.0 ≡ vs = cc in
      let own = bound_more b t h y e one.0 (among y first) both.0 one.1 (apart e first) in
      subst (λ (ws : List Value). IsBound (bound_arguments n b (y ∷ ys) (e ∷ es)) (bound_store (y ∷ ys) ws t)) same_values
      (all_bound (bound_argument n b (y, e)) (stored (Slot y) one.0 t) ys es rest.0 own (λ z there. among z (later there)) both.1 rest.1 (λ a there. apart a (later there)))

  none_bound : IsBound no_binding s
  none_bound = record {
    found = [];
    reads = refl;
    writes = λ behind more long. (seen_with n g sites s behind, refl, refl, refl);
    types = typed;
    kept = λ k free. refl;
    cells = λ o f. refl;
  }

  call_goes : (es : List Expr) (vs : List Value) → arguments_fit d xs es ≡ true → eval_all s.slots s.objects es ≡ Ok vs → ((e : Expr) → Has e es → (p : Pointer) → pointer_of n e ≡ Some p → IsApartOf p.read) →
      (u : Seen) × DoesAll n g sites (call_deeds n xs es) (seen_with n g sites s []) u × IsSame u.view (view_of n (bound_store xs vs s)) × HasTypes n g sites (bound_store xs vs s)
  call_goes es vs fits at apart =
      let h = all_bound no_binding s xs es vs none_bound (λ y there. there) fits at apart in
      let it = h.writes h.found [] (sym (append-nil h.found)) in
      let b = bound_arguments n no_binding xs es in (
        it.0,
        done_append n g sites b.reads b.writes (seen_with n g sites s []) (seen_with n g sites s h.found) it.0 h.reads it.1,
        subst (λ (w : View). IsSame it.0.view w) it.2 (record { slot = λ k. refl; cell = λ o f. refl }),
        h.types,
      )

bound_objects : (xs : List ℕ) (vs : List Value) (s : Store) → length (bound_store xs vs s).objects ≡ length s.objects
bound_objects [] vs s = refl
bound_objects (x ∷ xs) [] s = refl
bound_objects (x ∷ xs) (v ∷ vs) s = bound_objects xs vs (stored (Slot x) v s)

-- in a program whose calls are apart, calls go with their deeds
pub calls_go : (p : Program) (g : Graph) (n : Names) → AreNames p g n → HasTypedActions p g → ((f : ℕ) → parameters n f ≡ parameters_of p f) → HasCallsApart p g → CallsGo p n g
calls_go p g n names fits own calls v k f es values s sites stands typed at =
    let xs = parameters_of p f in
    let d = declarations p in
    let same : AreDeclared d n = record { vars = sym names.decls; structs = sym names.structs } in
    let places = has_places p g n names in
    let named = own f in
    let it = call_goes n g sites s d same places typed.types xs es values (fit_here (fits.actions v k (action.Call f es) stands)) at
    (λ e there q here x j among place. expr_apart n places x j place e (calls.apart v k f x e es stands (has_contains xs among) (has_contains es there)) q here) in (
      subst (λ (ys : List ℕ). Makes n g sites s (call_deeds n ys es) [] (bound_store xs values s)) (sym named) (it.0, it.1, it.2),
      record { types = it.3; objects = bound_objects xs values s ∙ typed.objects },
    )
  where
    by_function : (o : Option FunDef) → has (λ (x : Prototype). arguments_fit (declarations p) x.params es) (option_map prototype o) ≡ true → arguments_fit (declarations p) (unwrap_or (option_map (λ (c : FunDef). c.params) o) []) es ≡ true
    by_function None h = absurd cc
    by_function (Some c) h = h

    fit_here : has (λ (x : Prototype). arguments_fit (declarations p) x.params es) (slice_get (map prototype p.funs) f) ≡ true → arguments_fit (declarations p) (parameters_of p f) es ≡ true
    fit_here h = by_function (slice_get p.funs f) (ap (has (λ (x : Prototype). arguments_fit (declarations p) x.params es)) (sym (slice_get-map prototype p.funs f)) ∙ h)
