-- Declarations, assignments, answers and what is written out do their deeds, and keep the types.
use Rattle.std.proofs.Common.{◌≡◌, ℕ, ◌+◌, Bool, true, false, ℤ, ◌+ℤ◌, ◌-ℤ◌, ◌*ℤ◌, List, [], ◌++◌, slice_get, length, Option, Some, None, Result, Ok, Err, option_and_then, refl, ap, sym, subst, ◌∙◌, arith}
use Rattle.std.specs.Option.{is_some}
use Rattle.std.proofs.lemmas.Bool.{and_parts}
use Rattle.std.proofs.lemmas.List.{append-nil}
use Rattle.c_tree.specs.Typing.{Declarations, has, Sort, Of, AnyPointer, is_int, goes_into, gives_int, sort_of, type_of as type_in, is_place, right_fits, change_fits, assigned_fits, place_takes, simple_fits}
use Rattle.c_tree.specs.declared.expr.Expr.{Expr, out-Expr}
use Rattle.c_tree.specs.declared.expr.Op.{Op}
use Rattle.c_tree.specs.declared.expr.Op.TheVariants as op
use Rattle.c_tree.specs.declared.program.Right.{Right}
use Rattle.c_tree.specs.declared.program.Right.TheVariants as right
use Rattle.c_tree.specs.declared.program.Simple.{Simple}
use Rattle.c_tree.specs.declared.program.Ty.{Ty}
use Rattle.c_tree.specs.declared.program.Ty.TheVariants as ty
use Rattle.c_meaning.specs.declared.value.Value.{Value}
use Rattle.c_meaning.specs.declared.value.Value.TheVariants as value
use Rattle.c_meaning.specs.declared.machine.Location.{Location}
use Rattle.c_meaning.specs.declared.machine.Location.TheVariants.{Slot}
use Rattle.c_meaning.specs.declared.machine.Stop.{Stop}
use Rattle.c_meaning.specs.Eval.{◌>>=◌, eval, place_of, int_of, fitted}
use Rattle.c_meaning.specs.Effects.{old_number, new_value}
use Rattle.c_meaning.specs.Machine.{Store, stored}
use Rattle.c_graph.specs.declared.graph.Graph.{Graph}
use Rattle.ts_domain.specs.declared.deed.Deed.{Deed}
use Rattle.ts_domain.specs.declared.deed.Source.{Source}
use Rattle.ts_domain.specs.declared.deed.Source.TheVariants as source
use Rattle.ts_domain.specs.declared.names.Names.{Names}
use Rattle.ts_domain.specs.Deeds.{source_of, sets, written, written_if, put_deeds, change_deeds, assign_deeds, simple_deeds}
use Rattle.ts_domain.specs.Looks.{pointer_of, within, value_deeds, notes}
use Rattle.ts_domain.specs.Pointers.{is_pointer, place_of as variable_place}
use Rattle.ts_domain.specs.TypedMachines.{Fits, location_type, HasTypes}
use Rattle.ts_domain.specs.Views.{view_of, slot_seen, pointing, IsSame, DoesAll}
use Rattle.ts_domain.proofs.Courses.{seen_with, done_append, done_remembers}
use Rattle.ts_domain.proofs.Evaluations.{IsPlaced, IsValueOf, remembered_length, expr_evaluates, place_does, look_opens}
use Rattle.ts_domain.proofs.Expressions.{Quiet, number, fault, nothing, fitted_quiet, has_some}
use Rattle.ts_domain.proofs.NameLaws.{HasPlaces}
use Rattle.ts_domain.proofs.PointerSorts.{AreDeclared, AgreesWith, Agrees, expr_agrees}
use Rattle.ts_domain.proofs.Stores.{content, Stored, at_it, elsewhere, stored_where, stored_there, stored_slots, stored_types}
use Rattle.ts_domain.proofs.PlaceWrites.{course_ok, Makes, IsGiven, number_makes, set_variable, layer_written, fits_into, gives_value}

-- what comes of two things one after the other comes of both
pub then_ok : {A B : Type 0} (r : Result A Stop) (f : A → Result B Stop) (b : B) → (r >>= f) ≡ Ok b → (a : A) × (r ≡ Ok a) × (f a ≡ Ok b)
then_ok (Ok a) f b h = (a, refl, h)
then_ok (Err e) f b h = absurd cc

quiet_number : (r : Result Value Stop) (v : Value) → Quiet r → r ≡ Ok v → (m : ℤ) × (v ≡ value.Int m)
quiet_number _ v (number m) h = let e : value.Int m ≡ v = cc in (m, sym e)
quiet_number _ v (fault kind offset harmless) h = absurd cc
quiet_number _ v nothing h = absurd cc

pub typed_place : (o : Option Sort) (test : Ty → Bool) → has test (option_and_then type_in o) ≡ true → (t : Ty) × (o ≡ Some (Of t)) × (test t ≡ true)
typed_place None test h = absurd cc
typed_place (Some (Of t)) test h = (t, refl, h)
typed_place (Some AnyPointer) test h = absurd cc

module _ (n : Names) (g : Graph) (sites : List ℕ) (s : Store) where
  -- a slot that is no pointer variable is not seen
  pub unseen_slot : HasPlaces n → (x : ℕ) (v : Value) → variable_place n x ≡ None → IsSame (view_of n s) (view_of n (stored (Slot x) v s))
  unseen_slot places x v none = record { slot = λ k. by_var k (slice_get n.vars k) refl; cell = λ o f. refl }
    where
      by_var : (k : ℕ) (o : Option ℕ) → slice_get n.vars k ≡ o → slot_seen s o ≡ slot_seen (stored (Slot x) v s) o
      by_var k None there = refl
      by_var k (Some y) there =
          sym (ap pointing (stored_there s (Slot x) (Slot y) v
          (λ e. let same : x ≡ y = cc in let never : None ≡ Some k = sym none ∙ ap (variable_place n) same ∙ places.once k y there in absurd cc)))

  -- what is indeterminate has every type
  pub undef_types : (l : Location) → HasTypes n g sites s → HasTypes n g sites (stored l value.Undef s)
  undef_types l typed = record {
    slots = stored_slots s l value.Undef ∙ typed.slots;
    contents = λ m u at. by_place m u at (stored_where s l m value.Undef);
    others = λ m none. by_other m none (stored_where s l m value.Undef);
  }
    where
      by_other : (m : Location) → location_type n g sites m ≡ None → Stored s l m value.Undef → content (stored l value.Undef s) m ≡ value.Undef
      by_other m none (at_it same now) = now
      by_other m none (elsewhere as_it_was) = as_it_was ∙ typed.others m none

      by_place : (m : Location) (u : Ty) → location_type n g sites m ≡ Some u → Stored s l m value.Undef → Fits g sites u (content (stored l value.Undef s) m)
      by_place m u at (at_it same now) = subst (λ (c : Value). Fits g sites u c) (sym now) tt
      by_place m u at (elsewhere as_it_was) = subst (λ (c : Value). Fits g sites u c) (sym as_it_was) (typed.contents m u at)

  -- deeds that are done, and types that are kept
  abbrev pub Goes : List Deed → Store → Type 0
  Goes ds t = Makes n g sites s ds [] t × HasTypes n g sites t

  pub makes_behind : (ds es : List Deed) (found behind : List Value) (t : Store) → DoesAll n g sites ds (seen_with n g sites s found) (seen_with n g sites s behind) → Makes n g sites s es behind t → Makes n g sites s (ds ++ es) found t
  makes_behind ds es found behind t did h = (h.0, done_append n g sites ds es (seen_with n g sites s found) (seen_with n g sites s behind) h.0 did h.1, h.2)

  module _ (d : Declarations) (same : AreDeclared d n) (places : HasPlaces n) (typed : HasTypes n g sites s) where
    -- what an expression and a place come to

    pub value_done : (e : Expr) (u : Sort) (noted : Bool) (found : List Value) (v : Value) → sort_of d e ≡ Some u → eval s.slots s.objects e ≡ Ok v →
        (behind : List Value) × DoesAll n g sites (value_deeds n noted e) (seen_with n g sites s found) (seen_with n g sites s behind) × IsValueOf n g sites s e u noted found v behind
    value_done e u noted found v is at =
        course_ok n g sites s (IsValueOf n g sites s e u noted found) (value_deeds n noted e) found (eval s.slots s.objects e) v (expr_evaluates n g sites s d same places typed e u is noted found) at

    pub place_done : (e : Expr) (t : Ty) (found : List Value) (l : Location) → sort_of d e ≡ Some (Of t) → place_of s.slots s.objects e ≡ Ok l →
        (behind : List Value) × DoesAll n g sites (within n e) (seen_with n g sites s found) (seen_with n g sites s behind) × IsPlaced n g sites s (out-Expr e) t l behind
    place_done e t found l is at =
        course_ok n g sites s (IsPlaced n g sites s (out-Expr e) t) (within n e) found (place_of s.slots s.objects e) l (place_does n g sites s d same places typed e t found is) at

    -- a declared variable
    pub unset_goes : (x : ℕ) → Goes (sets (variable_place n x) source.Undef) (stored (Slot x) value.Undef s)
    unset_goes x = (by_place (variable_place n x) refl, undef_types (Slot x) typed)
      where
        by_place : (o : Option ℕ) → variable_place n x ≡ o → Makes n g sites s (sets o source.Undef) [] (stored (Slot x) value.Undef s)
        by_place (Some k) at = set_variable n g sites s d same places typed k x value.Undef source.Undef [] (places.there x k at) refl refl
        by_place None at = (seen_with n g sites s [], refl, unseen_slot places x value.Undef at)

    -- a write to a place that was worked out
    pub written_goes : (e : Expr) (t : Ty) (l : Location) (v : Value) (src : Source) (found behind : List Value) → sort_of d e ≡ Some (Of t) → IsPlaced n g sites s (out-Expr e) t l behind → Fits g sites t v →
        IsGiven n g sites s d same places typed t found src v → Makes n g sites s (written n e src) found (stored l v s) × HasTypes n g sites (stored l v s)
    written_goes e t l v src found behind is placed fit given =
        let agrees : Agrees n (Some (Of t)) (pointer_of n e) = subst (λ (o : Option Sort). Agrees n o (pointer_of n e)) is (expr_agrees n d same places e) in
        let opened = subst (λ k. Agrees n (Some (Of t)) k.pointer) (look_opens n g sites s d same places typed e) agrees in
        (layer_written n g sites s d same places typed (out-Expr e) t l v src found behind opened placed fit given, stored_types n g sites s typed l t v placed.0.0 fit)

    -- a number that goes to a place writes no pointer
    pub number_goes : (t : Ty) (l : Location) (v : Value) (found : List Value) → is_pointer t ≡ false → location_type n g sites l ≡ Some t → Fits g sites t v → Makes n g sites s [] found (stored l v s) × HasTypes n g sites (stored l v s)
    number_goes t l v found plain at fit = (number_makes n g sites s d same places typed l t v found at fit plain, stored_types n g sites s typed l t v at fit)

    -- assignments

    put_written : (e given : Expr) (t : Ty) (u : Sort) (l : Location) (v : Value) (found behind : List Value) (b : Bool) → is_pointer t ≡ b → AgreesWith n b t (pointer_of n e) → sort_of d e ≡ Some (Of t) → sort_of d given ≡ Some u →
        goes_into t u ≡ true → length found ≡ notes (within n e) → IsPlaced n g sites s (out-Expr e) t l found → IsValueOf n g sites s given u (is_some (pointer_of n e)) found v behind → Fits g sites t v →
        Makes n g sites s (written_if n e (source_of n (within n e) given)) behind (stored l v s)
    put_written e given t u l v found behind true points agrees is of_value goes many placed h fit =
        let noted : is_some (pointer_of n e) ≡ true = ap is_some agrees.1 in
        let it = gives_value n g sites s d same places typed given t u (within n e) found behind v of_value goes points many (subst (λ (b : Bool). IsValueOf n g sites s given u b found v behind) noted h) in
        subst (λ (o : Option Source). Makes n g sites s (written_if n e o) behind (stored l v s)) (sym it.1)
        (written_goes e t l v it.0 behind found is placed fit (λ points. (it.2, (fits_into n g sites s d same places typed t v u goes h.0).1))).0
    put_written e given t u l v found behind false plain agrees is of_value goes many placed h fit = by_source (source_of n (within n e) given)
      where
        by_source : (o : Option Source) → Makes n g sites s (written_if n e o) behind (stored l v s)
        by_source None = (number_goes t l v behind plain placed.0.0 fit).0
        by_source (Some src) = (written_goes e t l v src behind found is placed fit (λ points. let never : true ≡ false = sym points ∙ plain in absurd cc)).0

    put_goes : (e given : Expr) (t : Ty) (u : Sort) (l : Location) (v : Value) → sort_of d e ≡ Some (Of t) → sort_of d given ≡ Some u → goes_into t u ≡ true → place_of s.slots s.objects e ≡ Ok l → eval s.slots s.objects given ≡ Ok v →
        Goes (put_deeds n e given) (stored l v s)
    put_goes e given t u l v is of_value goes at is_value =
        let A = within n e in
        let noted = is_some (pointer_of n e) in
        let agrees : AgreesWith n (is_pointer t) t (pointer_of n e) = subst (λ (o : Option Sort). Agrees n o (pointer_of n e)) is (expr_agrees n d same places e) in
        let place = place_done e t [] l is at in
        let it = value_done given u noted place.0 v of_value is_value in
        let fit = fits_into n g sites s d same places typed t v u goes it.2.0 in
        let counted : length place.0 ≡ 0 + notes A = remembered_length A [] place.0 (done_remembers n g sites A (seen_with n g sites s []) (seen_with n g sites s place.0) place.1) in
        let many : length place.0 ≡ notes A = omega arith in
        let reads = done_append n g sites A (value_deeds n noted given) (seen_with n g sites s []) (seen_with n g sites s place.0) (seen_with n g sites s it.0) place.1 it.1 in (
          makes_behind (A ++ value_deeds n noted given) (written_if n e (source_of n A given)) [] it.0 (stored l v s) reads
              (put_written e given t u l v place.0 it.0 (is_pointer t) refl agrees is of_value goes many place.2 it.2 fit.0),
          stored_types n g sites s typed l t v place.2.0.0 fit.0,
        )

    -- a change of a number
    changed_by : (o : ℤ → ℤ → ℤ) (offset : ℕ) (e given : Expr) (l : Location) (v : Value) →
        (old_number s e l >>= λ a. eval s.slots s.objects given >>= int_of >>= λ b. fitted offset (o a b)) ≡ Ok v → (w : Value) × (m : ℤ) × (eval s.slots s.objects given ≡ Ok w) × (v ≡ value.Int m)
    changed_by o offset e given l v h =
        let first = then_ok (old_number s e l) (λ a. eval s.slots s.objects given >>= int_of >>= λ b. fitted offset (o a b)) v h in
        let second = then_ok (eval s.slots s.objects given >>= int_of) (λ b. fitted offset (o first.0 b)) v first.2 in
        let third = then_ok (eval s.slots s.objects given) int_of second.0 second.1 in
        let last = quiet_number (fitted offset (o first.0 second.0)) v (fitted_quiet offset (o first.0 second.0)) second.2 in
        (third.0, last.0, third.1, last.1)

    int_types : (t : Ty) → is_int (Of t) ≡ true → t ≡ ty.Int
    int_types ty.Int h = refl
    int_types ty.IntPtr h = absurd cc
    int_types (ty.StructPtr c) h = absurd cc

    change_goes : (e given : Expr) (t : Ty) (l : Location) (v w : Value) (m : ℤ) → sort_of d e ≡ Some (Of t) → is_int (Of t) ≡ true → gives_int d given ≡ true → place_of s.slots s.objects e ≡ Ok l → eval s.slots s.objects given ≡ Ok w → v ≡ value.Int m →
        Goes (change_deeds n e given) (stored l v s)
    change_goes e given t l v w m is int gives at is_value is_number =
        let u = has_some is_int (sort_of d given) gives in
        let t_is = int_types t int in
        let place = place_done e t [] l is at in
        let it = value_done given u.0 false place.0 w u.1 is_value in
        let fit : Fits g sites t v = subst (λ (c : Value). Fits g sites t c) (sym is_number) t_is in
        let reads = done_append n g sites (within n e) (value_deeds n false given) (seen_with n g sites s []) (seen_with n g sites s place.0) (seen_with n g sites s it.0) place.1 it.1 in
        let write = number_goes t l v it.0 (ap is_pointer t_is) place.2.0.0 fit in
        (subst (λ (ds : List Deed). Makes n g sites s ds [] (stored l v s)) (append-nil (within n e ++ value_deeds n false given)) (makes_behind (within n e ++ value_deeds n false given) [] [] it.0 (stored l v s) reads write.0), write.1)

    assign_by : (a : Simple) (o : Op) (e : Expr) (t : Ty) (l : Location) (v : Value) → a.right ≡ right.Plain e → sort_of d a.place ≡ Some (Of t) → assigned_fits d a o t ≡ true → place_of s.slots s.objects a.place ≡ Ok l → new_value s o a.at a.place e l ≡ Ok v →
        Goes (assign_deeds n a.place o e) (stored l v s)
    assign_by a op.Put e t l v plain is fits at new =
        let right_is : right_fits d (place_takes (out-Expr a.place)) t (right.Plain e) ≡ true = subst (λ (r : Right). right_fits d (place_takes (out-Expr a.place)) t r ≡ true) plain fits in
        let u = has_some (goes_into t) (sort_of d e) right_is in
        put_goes a.place e t u.0 l v is u.1 u.2 at new
    assign_by a op.Add e t l v plain is fits at new =
        let change : change_fits d t (right.Plain e) ≡ true = subst (λ (r : Right). change_fits d t r ≡ true) plain fits in
        let both = and_parts (is_int (Of t)) (gives_int d e) change in
        let it = changed_by (λ x y. x +ℤ y) a.at a.place e l v new in
        change_goes a.place e t l v it.0 it.1 is both.0 both.1 at it.2 it.3
    assign_by a op.Sub e t l v plain is fits at new =
        let change : change_fits d t (right.Plain e) ≡ true = subst (λ (r : Right). change_fits d t r ≡ true) plain fits in
        let both = and_parts (is_int (Of t)) (gives_int d e) change in
        let it = changed_by (λ x y. x -ℤ y) a.at a.place e l v new in
        change_goes a.place e t l v it.0 it.1 is both.0 both.1 at it.2 it.3
    assign_by a op.Mul e t l v plain is fits at new =
        let change : change_fits d t (right.Plain e) ≡ true = subst (λ (r : Right). change_fits d t r ≡ true) plain fits in
        let both = and_parts (is_int (Of t)) (gives_int d e) change in
        let it = changed_by (λ x y. x *ℤ y) a.at a.place e l v new in
        change_goes a.place e t l v it.0 it.1 is both.0 both.1 at it.2 it.3

    -- an assignment (6.5.16)
    pub assign_goes : (a : Simple) (e : Expr) (l : Location) (v : Value) → simple_fits d a ≡ true → a.right ≡ right.Plain e → place_of s.slots s.objects a.place ≡ Ok l → new_value s a.op a.at a.place e l ≡ Ok v →
        Goes (simple_deeds n a a.right) (stored l v s)
    assign_goes a e l v fits plain at new =
        let both = and_parts (is_place (out-Expr a.place)) (has (assigned_fits d a a.op) (option_and_then type_in (sort_of d a.place))) fits in
        let it = typed_place (sort_of d a.place) (assigned_fits d a a.op) both.1 in
        subst (λ (r : Right). Goes (simple_deeds n a r) (stored l v s)) (sym plain) (assign_by a a.op e it.0 l v plain it.1 it.2 at new)
