-- Returns do their deeds: the target gets the value, and the variables of the function are indeterminate.
use Rattle.std.proofs.Common.{◌≡◌, ℕ, zero, suc, ◌+◌, ◌<◌, ◌==◌, ◌⊎◌, inl, inr, ⊎_elim, Bool, true, false, List, [], ◌∷◌, ◌++◌, slice_get, length, Option, Some, None, Ok, option_map, option_and_then, refl, ap, sym, subst, ◌∙◌, arith}
use Rattle.std.specs.Prelude.{if◌then◌else◌}
use Rattle.std.specs.List.{range_with_len}
use Rattle.std.specs.Option.{is_some}
use Rattle.std.proofs.lemmas.Bool.{eqb-true, eq-eqb}
use Rattle.std.proofs.lemmas.Option.{slice_get_within}
use Rattle.c_tree.specs.Typing.{Declarations, has, Sort, goes_into, var_type, sort_of}
use Rattle.c_tree.specs.declared.expr.Expr.{Expr}
use Rattle.c_tree.specs.declared.program.Home.{Home}
use Rattle.c_tree.specs.declared.program.Home.TheVariants as home
use Rattle.c_tree.specs.declared.program.Program.{Program}
use Rattle.c_tree.specs.declared.program.Ty.{Ty}
use Rattle.c_tree.specs.declared.program.VarDef.{VarDef}
use Rattle.c_meaning.specs.declared.value.Value.{Value}
use Rattle.c_meaning.specs.declared.value.Value.TheVariants as value
use Rattle.c_meaning.specs.declared.machine.Location.{Location}
use Rattle.c_meaning.specs.declared.machine.Location.TheVariants.{Slot, Cell}
use Rattle.c_meaning.specs.Eval.{slot_of, eval}
use Rattle.c_meaning.specs.Effects.{value_of, is_home_in, cleared, received, back}
use Rattle.c_meaning.specs.Machine.{Store, stored}
use Rattle.c_graph.specs.declared.graph.Graph.{Graph}
use Rattle.call_contexts.proofs.Has.{Has, first, later, get_has}
use Rattle.ts_domain.specs.declared.deed.Deed.{Deed}
use Rattle.ts_domain.specs.declared.deed.Source.{Source}
use Rattle.ts_domain.specs.declared.names.Names.{Names}
use Rattle.ts_domain.specs.Deeds.{source_of, bound, all_unset, returned, returned_any}
use Rattle.ts_domain.specs.Looks.{value_deeds}
use Rattle.ts_domain.specs.Pointers.{is_pointer, type_of, place_of, is_of, has_home, owned}
use Rattle.ts_domain.specs.TypedMachines.{Fits, location_type, HasTypes}
use Rattle.ts_domain.specs.Views.{View, view_of, slot_seen, pointing, IsSame, with_slot, Seen, slot_set, DoesAll}
use Rattle.ts_domain.proofs.Answers.{same_is}
use Rattle.ts_domain.proofs.Assigns.{then_ok, unseen_slot, Goes, makes_behind, value_done}
use Rattle.ts_domain.proofs.Courses.{seen_with, done_append}
use Rattle.ts_domain.proofs.Evaluations.{IsValueOf}
use Rattle.ts_domain.proofs.Expressions.{has_some}
use Rattle.ts_domain.proofs.NameLaws.{HasPlaces, filter_has, filter_passes, range_has}
use Rattle.ts_domain.proofs.PointerSorts.{AreDeclared, var_declared}
use Rattle.ts_domain.proofs.Stores.{content, stored_types, pointing_same, same_view}
use Rattle.ts_domain.proofs.PlaceWrites.{Makes, set_variable, fits_into, gives_value}

-- lists of slots

cleared_many : (f : ℕ) (ds : List VarDef) (vs : List Value) → length (cleared f ds vs) ≡ length vs
cleared_many f [] vs = refl
cleared_many f (d ∷ ds) [] = refl
cleared_many f (d ∷ ds) (v ∷ vs) = ap (λ (k : ℕ). suc k) (cleared_many f ds vs)

cleared_at : (f : ℕ) (ds : List VarDef) (vs : List Value) (x : ℕ) (d : VarDef) → slice_get ds x ≡ Some d → slot_of (cleared f ds vs) x ≡ (if is_home_in f d.home then value.Undef else slot_of vs x)
cleared_at f [] vs x d h = absurd cc
cleared_at f (e ∷ ds) [] x d h = by_home (is_home_in f d.home)
  where
    by_home : (b : Bool) → value.Undef ≡ (if b then value.Undef else value.Undef)
    by_home true = refl
    by_home false = refl
cleared_at f (e ∷ ds) (v ∷ vs) zero d h = let same : e ≡ d = cc in ap (λ (y : VarDef). if is_home_in f y.home then value.Undef else v) same
cleared_at f (e ∷ ds) (v ∷ vs) (suc x) d h = cleared_at f ds vs x d h

cleared_either : (f : ℕ) (ds : List VarDef) (vs : List Value) (x : ℕ) → (slot_of (cleared f ds vs) x ≡ value.Undef) ⊎ (slot_of (cleared f ds vs) x ≡ slot_of vs x)
cleared_either f [] vs x = inr refl
cleared_either f (d ∷ ds) [] x = inr refl
cleared_either f (d ∷ ds) (v ∷ vs) zero = by_home (is_home_in f d.home)
  where
    by_home : (b : Bool) → ((if b then value.Undef else v) ≡ value.Undef) ⊎ ((if b then value.Undef else v) ≡ v)
    by_home true = inl refl
    by_home false = inr refl
cleared_either f (d ∷ ds) (v ∷ vs) (suc x) = cleared_either f ds vs x

home_same : (f : ℕ) (h : Home) → is_of f h ≡ is_home_in f h
home_same f (home.Global m) = refl
home_same f (home.Param k) = refl
home_same f (home.Local k) = refl
home_same f (home.Result k) = refl

in_range : (k m : ℕ) → k < m → Has k (range_with_len 0 m)
in_range k m low = let same : 0 + k ≡ k = omega arith in range_has 0 m k k low same

owned_passes : (n : Names) (f k : ℕ) → Has k (owned n f) → has (has_home n (is_of f)) (slice_get n.vars k) ≡ true
owned_passes n f k h =
    let at = get_has (owned n f) h in
    filter_passes (λ k. has (has_home n (is_of f)) (slice_get n.vars k)) (range_with_len 0 (length n.vars)) at.0 k at.1

-- variables become indeterminate in turn

abbrev unset_view : List ℕ → View → View
unset_view [] v = v
unset_view (k ∷ ks) v = unset_view ks (with_slot k value.Undef v)

set_undef : (k j : ℕ) (v : View) → v.slot j ≡ value.Undef → (with_slot k value.Undef v).slot j ≡ value.Undef
set_undef k j v h = by_place (j == k)
  where
    by_place : (b : Bool) → (if b then value.Undef else v.slot j) ≡ value.Undef
    by_place true = refl
    by_place false = h

stays_undef : (ks : List ℕ) (j : ℕ) (v : View) → v.slot j ≡ value.Undef → (unset_view ks v).slot j ≡ value.Undef
stays_undef [] j v h = h
stays_undef (k ∷ ks) j v h = stays_undef ks j (with_slot k value.Undef v) (set_undef k j v h)

unset_in : (ks : List ℕ) (j : ℕ) (v : View) → Has j ks → (unset_view ks v).slot j ≡ value.Undef
unset_in [] j v h = elim h [ ]
unset_in (k ∷ ks) _ v first = stays_undef ks k (with_slot k value.Undef v) (ap (λ (b : Bool). if b then value.Undef else v.slot k) (eq-eqb k k refl))
unset_in (k ∷ ks) j v (later h) = unset_in ks j (with_slot k value.Undef v) h

unset_out : (ks : List ℕ) (j : ℕ) (v : View) → (Has j ks → ⊥) → (unset_view ks v).slot j ≡ v.slot j
unset_out [] j v h = refl
unset_out (k ∷ ks) j v h = unset_out ks j (with_slot k value.Undef v) (λ there. h (later there)) ∙ by_place (j == k) refl
  where
    by_place : (b : Bool) → j == k ≡ b → (if b then value.Undef else v.slot j) ≡ v.slot j
    by_place true is = absurd (h (subst (λ (i : ℕ). Has i (k ∷ ks)) (sym (eqb-true j k is)) first))
    by_place false is = refl

unset_cells : (ks : List ℕ) (v : View) (o f : ℕ) → (unset_view ks v).cell o f ≡ v.cell o f
unset_cells [] v o f = refl
unset_cells (k ∷ ks) v o f = unset_cells ks (with_slot k value.Undef v) o f

abbrev unset_seen : List ℕ → Seen → Seen
unset_seen ks s = record s { view = unset_view ks s.view }

module _ (n : Names) (g : Graph) (sites : List ℕ) where
  unset_done : (ks : List ℕ) (s : Seen) → DoesAll n g sites (all_unset ks) s (unset_seen ks s)
  unset_done [] s = refl
  unset_done (k ∷ ks) s = (slot_set k value.Undef s, (value.Undef, refl, refl), unset_done ks (slot_set k value.Undef s))

  -- the store behind the end of a function
  abbrev pub left_store : Program → ℕ → Store → Store
  left_store p f s = record s { slots = cleared f p.vars s.slots }

  module _ (p : Program) (s : Store) (decls : n.decls ≡ p.vars) where
    left_slot : (f x : ℕ) (d : VarDef) → slice_get n.decls x ≡ Some d → content (left_store p f s) (Slot x) ≡ (if is_home_in f d.home then value.Undef else content s (Slot x))
    left_slot f x d there = cleared_at f p.vars s.slots x d (ap (λ (ds : List VarDef). slice_get ds x) (sym decls) ∙ there)

    pub left_types : (f : ℕ) → HasTypes n g sites s → HasTypes n g sites (left_store p f s)
    left_types f typed = record {
      slots = cleared_many f p.vars s.slots ∙ typed.slots;
      contents = contents;
      others = others;
    }
      where
        contents : (l : Location) (t : Ty) → location_type n g sites l ≡ Some t → Fits g sites t (content (left_store p f s) l)
        contents (Slot x) t h = ⊎_elim (λ none. subst (λ (c : Value). Fits g sites t c) (sym none) tt) (λ old. subst (λ (c : Value). Fits g sites t c) (sym old) (typed.contents (Slot x) t h)) (cleared_either f p.vars s.slots x)
        contents (Cell o k) t h = typed.contents (Cell o k) t h

        others : (l : Location) → location_type n g sites l ≡ None → content (left_store p f s) l ≡ value.Undef
        others (Slot x) h = ⊎_elim (λ none. none) (λ old. old ∙ typed.others (Slot x) h) (cleared_either f p.vars s.slots x)
        others (Cell o k) h = typed.others (Cell o k) h

    pub left_view : HasPlaces n → (f : ℕ) → IsSame (unset_view (owned n f) (view_of n s)) (view_of n (left_store p f s))
    left_view places f = record { slot = λ k. by_var k (slice_get n.vars k) refl; cell = λ o h. unset_cells (owned n f) (view_of n s) o h }
      where
        not_owned : (k : ℕ) → has (has_home n (is_of f)) (slice_get n.vars k) ≡ false → Has k (owned n f) → ⊥
        not_owned k isnt h = let passes = owned_passes n f k h in let never : true ≡ false = sym passes ∙ isnt in absurd cc

        by_home : (k x : ℕ) (d : VarDef) (b : Bool) → slice_get n.vars k ≡ Some x → slice_get n.decls x ≡ Some d → is_home_in f d.home ≡ b →
            (unset_view (owned n f) (view_of n s)).slot k ≡ pointing (if b then value.Undef else content s (Slot x))
        by_home k x d true at there is =
            let passes : has (has_home n (is_of f)) (slice_get n.vars k) ≡ true = ap (has (has_home n (is_of f))) at ∙ ap (has (λ (v : VarDef). is_of f v.home)) there ∙ home_same f d.home ∙ is in
            unset_in (owned n f) k (view_of n s) (filter_has (λ k. has (has_home n (is_of f)) (slice_get n.vars k)) (range_with_len 0 (length n.vars)) (in_range k (length n.vars) (slice_get_within n.vars k x at)) passes)
        by_home k x d false at there is =
            let fails : has (has_home n (is_of f)) (slice_get n.vars k) ≡ false = ap (has (has_home n (is_of f))) at ∙ ap (has (λ (v : VarDef). is_of f v.home)) there ∙ home_same f d.home ∙ is in
            unset_out (owned n f) k (view_of n s) (not_owned k fails) ∙ ap (slot_seen s) at

        by_decl : (k x : ℕ) (d : Option VarDef) → slice_get n.vars k ≡ Some x → slice_get n.decls x ≡ d → (unset_view (owned n f) (view_of n s)).slot k ≡ slot_seen (left_store p f s) (Some x)
        by_decl k x (Some d) at there = by_home k x d (is_home_in f d.home) at there refl ∙ ap pointing (sym (left_slot f x d there))
        by_decl k x None at there =
            let it = places.pointers k x at in
            let never : None ≡ Some it.0 = ap (option_map (λ (v : VarDef). v.ty)) (sym there) ∙ it.1 in
            absurd cc

        by_var : (k : ℕ) (o : Option ℕ) → slice_get n.vars k ≡ o → (unset_view (owned n f) (view_of n s)).slot k ≡ slot_seen (left_store p f s) o
        by_var k None at = unset_out (owned n f) k (view_of n s) (not_owned k (ap (has (has_home n (is_of f))) at)) ∙ ap (slot_seen s) at
        by_var k (Some x) at = by_decl k x (slice_get n.decls x) at refl

  -- the value that is returned

  module _ (s : Store) (d : Declarations) (same : AreDeclared d n) (places : HasPlaces n) (typed : HasTypes n g sites s) where
    store_by : (x : ℕ) (t : Ty) (u : Sort) (e : Expr) (v : Value) (behind : List Value) (k : Option ℕ) → place_of n x ≡ k → type_of n x ≡ Some t → sort_of d e ≡ Some u → goes_into t u ≡ true → IsValueOf n g sites s e u (is_some k) [] v behind →
        Makes n g sites s (bound k (source_of n [] e)) behind (stored (Slot x) v s)
    store_by x t u e v behind (Some k) at is of_value goes h =
        let pointer = places.pointers k x (places.there x k at) in
        let types : Some pointer.0 ≡ Some t = sym pointer.1 ∙ is in
        let t_is : pointer.0 ≡ t = cc in
        let points : is_pointer t ≡ true = ap is_pointer (sym t_is) ∙ pointer.2 in
        let it = gives_value n g sites s d same places typed e t u [] [] behind v of_value goes points refl h in
        let fit = fits_into n g sites s d same places typed t v u goes h.0 in
        subst (λ (o : Option Source). Makes n g sites s (bound (Some k) o) behind (stored (Slot x) v s)) (sym it.1)
        (set_variable n g sites s d same places typed k x v it.0 behind (places.there x k at) (pointing_same n g sites t v fit.0 points) it.2)
    store_by x t u e v behind None at is of_value goes h = by_source (source_of n [] e)
      where
        by_source : (o : Option Source) → Makes n g sites s (bound None o) behind (stored (Slot x) v s)
        by_source None = (seen_with n g sites s behind, refl, unseen_slot n g sites s places x v at)
        by_source (Some src) = (seen_with n g sites s behind, refl, unseen_slot n g sites s places x v at)

    -- a value that goes to a variable
    pub stored_goes : (x : ℕ) (e : Expr) (v : Value) → has (λ t. has (goes_into t) (sort_of d e)) (var_type d x) ≡ true → eval s.slots s.objects e ≡ Ok v → Goes n g sites s (returned n (place_of n x) e) (stored (Slot x) v s)
    stored_goes x e v fits at =
        let var = has_some (λ t. has (goes_into t) (sort_of d e)) (var_type d x) fits in
        let val = has_some (goes_into var.0) (sort_of d e) var.2 in
        let is : type_of n x ≡ Some var.0 = sym (var_declared n d same places x) ∙ var.1 in
        let it = value_done n g sites s d same places typed e val.0 (is_some (place_of n x)) [] v val.1 at in
        let fit = fits_into n g sites s d same places typed var.0 v val.0 val.2 it.2.0 in (
          makes_behind n g sites s (value_deeds n (is_some (place_of n x)) e) (bound (place_of n x) (source_of n [] e)) [] it.0 (stored (Slot x) v s) it.1
              (store_by x var.0 val.0 e v it.0 (place_of n x) refl is val.1 val.2 it.2),
          stored_types n g sites s typed (Slot x) var.0 v is fit.0,
        )

    -- a value that goes nowhere is read
    read_goes : (e : Expr) (u : Sort) (v : Value) → sort_of d e ≡ Some u → eval s.slots s.objects e ≡ Ok v → Goes n g sites s (returned n None e) s
    read_goes e u v is at =
        let it = value_done n g sites s d same places typed e u false [] v is at in
        (makes_behind n g sites s (value_deeds n false e) (bound None (source_of n [] e)) [] it.0 s it.1 (by_source it.0 (source_of n [] e)), typed)
      where
        by_source : (behind : List Value) (o : Option Source) → Makes n g sites s (bound None o) behind s
        by_source behind None = (seen_with n g sites s behind, refl, same_view n s s (λ l. refl))
        by_source behind (Some src) = (seen_with n g sites s behind, refl, same_view n s s (λ l. refl))

    -- what a return gives has a type, and fits the variable that it goes to
    abbrev pub ReturnFits : Option ℕ → Option Expr → Type 0
    ReturnFits target None = Unit {0}
    ReturnFits None (Some e) = is_some (sort_of d e) ≡ true
    ReturnFits (Some x) (Some e) = has (λ t. has (goes_into t) (sort_of d e)) (var_type d x) ≡ true

    nothing_goes : Goes n g sites s [] s
    nothing_goes = ((seen_with n g sites s [], refl, same_view n s s (λ l. refl)), typed)

    some_of : {A : Type 0} (o : Option A) → is_some o ≡ true → (x : A) × (o ≡ Some x)
    some_of None h = absurd cc
    some_of (Some x) h = (x, refl)

    pub received_goes : (target : Option ℕ) (e : Option Expr) (v : Option Value) → ReturnFits target e → value_of s e ≡ Ok v → Goes n g sites s (returned_any n (option_and_then (place_of n) target) e) (received target v s)
    received_goes None None v fits at = nothing_goes
    received_goes (Some x) None v fits at =
        let e : None ≡ v = cc in
        subst (λ (w : Option Value). Goes n g sites s [] (received (Some x) w s)) e nothing_goes
    received_goes None (Some e) v fits at =
        let it = then_ok (eval s.slots s.objects e) (λ w. Ok (Some w)) v at in
        let u = some_of (sort_of d e) fits in
        read_goes e u.0 it.0 u.1 it.1
    received_goes (Some x) (Some e) v fits at =
        let it = then_ok (eval s.slots s.objects e) (λ w. Ok (Some w)) v at in
        let same_value : Some it.0 ≡ v = cc in
        subst (λ (w : Option Value). Goes n g sites s (returned n (place_of n x) e) (received (Some x) w s)) same_value (stored_goes x e it.0 fits it.1)

  -- a return to a caller (6.8.6.4, 6.2.4p5)
  pub back_goes : (p : Program) (s : Store) (f : ℕ) (target : Option ℕ) (v : Option Value) (ds : List Deed) → n.decls ≡ p.vars → HasPlaces n → Goes n g sites s ds (received target v s) → Goes n g sites s (ds ++ all_unset (owned n f)) (back p f target v s)
  back_goes p s f target v ds decls places goes =
      let t = received target v s in
      let u = goes.0.0 in
      let is : u.view ≡ view_of n t = same_is goes.0.2 in (
        (
          unset_seen (owned n f) u,
          done_append n g sites ds (all_unset (owned n f)) (seen_with n g sites s []) u (unset_seen (owned n f) u) goes.0.1 (unset_done (owned n f) u),
          subst (λ (w : View). IsSame (unset_view (owned n f) w) (view_of n (left_store p f t))) (sym is) (left_view p t decls places f),
        ),
        left_types p t decls f goes.1,
      )
