-- Requests and reads of the input do their deeds, and keep the types, be it with an object more.
use Rattle.std.proofs.Common.{◌≡◌, ℕ, ◌+◌, true, false, ℤ, List, [], ◌++◌, slice_get, length, Option, Some, None, Ok, refl, ap, sym, subst, ◌∙◌}
use Rattle.std.proofs.Math.Path.{fun_ext}
use Rattle.std.proofs.lemmas.List.{append-nil}
use Rattle.c_tree.specs.AlikeTest.{same_ty}
use Rattle.c_tree.specs.Typing.{Declarations, Of, is_int, sort_of}
use Rattle.c_tree.specs.declared.expr.Expr.{Expr, out-Expr}
use Rattle.c_tree.specs.declared.program.Program.{Program}
use Rattle.c_tree.specs.declared.program.Size.{Size}
use Rattle.c_tree.specs.declared.program.Size.TheVariants as size
use Rattle.c_tree.specs.declared.program.Ty.{Ty}
use Rattle.c_tree.specs.declared.program.Ty.TheVariants as ty
use Rattle.c_meaning.specs.declared.value.Value.{Value}
use Rattle.c_meaning.specs.declared.value.Value.TheVariants as value
use Rattle.c_meaning.specs.declared.machine.Location.{Location}
use Rattle.c_meaning.specs.Eval.{eval, place_of, int_of}
use Rattle.c_meaning.specs.Effects.{target_location, answered, count_of}
use Rattle.c_meaning.specs.Machine.{Store}
use Rattle.c_graph.specs.declared.graph.Graph.{Graph}
use Rattle.c_graph.specs.declared.graph.Way.TheVariants as way
use Rattle.ts_domain.specs.declared.deed.Deed.{Deed}
use Rattle.ts_domain.specs.declared.deed.Source.{Source}
use Rattle.ts_domain.specs.declared.deed.Source.TheVariants as source
use Rattle.ts_domain.specs.declared.names.Names.{Names}
use Rattle.ts_domain.specs.Deeds.{written, written_any, place_deeds, size_deeds, made, malloc_deeds}
use Rattle.ts_domain.specs.Pointers.{is_pointer}
use Rattle.ts_domain.specs.TypedGraphs.{answer_fits, count_fits}
use Rattle.ts_domain.specs.TypedMachines.{Fits, HasTypes}
use Rattle.ts_domain.specs.Views.{View, view_of, IsSame, size_type, object_type, IsFresh, DoesAll}
use Rattle.ts_domain.proofs.Assigns.{then_ok, Goes, makes_behind, value_done, place_done, written_goes, number_goes, typed_place}
use Rattle.ts_domain.proofs.Courses.{seen_with, done_append}
use Rattle.ts_domain.proofs.Evaluations.{IsPlaced}
use Rattle.ts_domain.proofs.Expressions.{has_some}
use Rattle.ts_domain.proofs.NameLaws.{HasPlaces}
use Rattle.ts_domain.proofs.PointerSorts.{AreDeclared}
use Rattle.ts_domain.proofs.Stores.{same_view}
use Rattle.ts_domain.proofs.PlaceWrites.{same_type, Makes, IsGiven}

-- views that show the same are the same
pub same_is : {v w : View} → IsSame v w → v ≡ w
same_is {v} {w} h =
    let slots : v.slot ≡ w.slot = fun_ext h.slot in
    let cells : v.cell ≡ w.cell = fun_ext (λ o. fun_ext (h.cell o)) in
    subst (λ (x : ℕ → Value). v ≡ record { slot = x; cell = w.cell }) slots (subst (λ (y : ℕ → ℕ → Value). v ≡ record { slot = v.slot; cell = y }) cells refl)

-- the type of the place of an answer
pub answer_type : (d : Declarations) (t : Ty) (e : Expr) → answer_fits d t (Some e) ≡ true → sort_of d e ≡ Some (Of t)
answer_type d t e h = let it = typed_place (sort_of d e) (same_ty t) h in it.1 ∙ ap (λ (u : Ty). Some (Of u)) (sym (same_type t it.0 it.2))

pub size_points : (z : Size) → is_pointer (size_type z) ≡ true
size_points (size.Fields k) = refl
size_points (size.Ints count) = refl

-- the place of an answer

module _ (n : Names) (g : Graph) (sites : List ℕ) (s : Store) where
  -- what the place of an answer comes to, if there is one
  abbrev pub IsAnswer : Option Expr → Ty → Option Location → List Value → Type 0
  IsAnswer None t l behind = l ≡ None
  IsAnswer (Some e) t l behind = (m : Location) × (l ≡ Some m) × IsPlaced n g sites s (out-Expr e) t m behind

  module _ (d : Declarations) (same : AreDeclared d n) (places : HasPlaces n) (typed : HasTypes n g sites s) where
    pub answer_done : (place : Option Expr) (t : Ty) (l : Option Location) → answer_fits d t place ≡ true → target_location s place ≡ Ok l →
        (behind : List Value) × DoesAll n g sites (place_deeds n place) (seen_with n g sites s []) (seen_with n g sites s behind) × IsAnswer place t l behind
    answer_done None t l fits at = let e : None ≡ l = cc in ([], refl, sym e)
    answer_done (Some e) t l fits at =
        let it = then_ok (place_of s.slots s.objects e) (λ m. Ok (Some m)) l at in
        let same_place : Some it.0 ≡ l = cc in
        let done = place_done n g sites s d same places typed e t [] it.0 (answer_type d t e fits) it.1 in
        (done.0, done.1, (it.0, sym same_place, done.2))

    -- an answer that is written
    pub answer_written : (place : Option Expr) (t : Ty) (l : Option Location) (v : Value) (src : Source) (found behind : List Value) → answer_fits d t place ≡ true → IsAnswer place t l behind → Fits g sites t v →
        IsGiven n g sites s d same places typed t found src v → Makes n g sites s (written_any n place src) found (answered l v s) × HasTypes n g sites (answered l v s)
    answer_written None t l v src found behind fits is fit given =
        subst (λ (m : Option Location). Makes n g sites s [] found (answered m v s) × HasTypes n g sites (answered m v s)) (sym is) ((seen_with n g sites s found, refl, same_view n s s (λ l. refl)), typed)
    answer_written (Some e) t l v src found behind fits is fit given =
        subst (λ (m : Option Location). Makes n g sites s (written n e src) found (answered m v s) × HasTypes n g sites (answered m v s)) (sym is.1)
        (written_goes n g sites s d same places typed e t is.0 v src found behind (answer_type d t e fits) is.2 fit given)

    number_answer : (place : Option Expr) (t : Ty) (l : Option Location) (v : Value) (found behind : List Value) → is_pointer t ≡ false → IsAnswer place t l behind → Fits g sites t v →
        Makes n g sites s [] found (answered l v s) × HasTypes n g sites (answered l v s)
    number_answer None t l v found behind plain is fit =
        subst (λ (m : Option Location). Makes n g sites s [] found (answered m v s) × HasTypes n g sites (answered m v s)) (sym is) ((seen_with n g sites s found, refl, same_view n s s (λ l. refl)), typed)
    number_answer (Some e) t l v found behind plain is fit =
        subst (λ (m : Option Location). Makes n g sites s [] found (answered m v s) × HasTypes n g sites (answered m v s)) (sym is.1) (number_goes n g sites s d same places typed t is.0 v found plain is.2.0.0 fit)

    -- a byte of the input (7.19.7.6)
    pub getchar_goes : (place : Option Expr) (l : Option Location) (m : ℤ) → answer_fits d ty.Int place ≡ true → target_location s place ≡ Ok l → Goes n g sites s (place_deeds n place) (answered l (value.Int m) s)
    getchar_goes place l m fits at =
        let it = answer_done place ty.Int l fits at in
        let write = number_answer place ty.Int l (value.Int m) it.0 it.0 refl it.2 refl in (
          subst (λ (ds : List Deed). Makes n g sites s ds [] (answered l (value.Int m) s)) (append-nil (place_deeds n place))
              (makes_behind n g sites s (place_deeds n place) [] [] it.0 (answered l (value.Int m) s) it.1 write.0),
          write.1,
        )

    -- sizes

    pub size_done : (p : Program) (z : Size) (c : ℤ) (found : List Value) → count_fits d z ≡ true → count_of p s z ≡ Ok c →
        (behind : List Value) × DoesAll n g sites (size_deeds n z) (seen_with n g sites s found) (seen_with n g sites s behind)
    size_done p (size.Fields k) c found fits at = (found, refl)
    size_done p (size.Ints None) c found fits at = (found, refl)
    size_done p (size.Ints (Some e)) c found fits at =
        let u = has_some is_int (sort_of d e) fits in
        let it = then_ok (eval s.slots s.objects e) int_of c at in
        let done = value_done n g sites s d same places typed e u.0 false found it.0 u.1 it.1 in
        (done.0, done.1)

    -- a request, up to its write
    request_done : (p : Program) (place : Option Expr) (z : Size) (l : Option Location) (c : ℤ) → answer_fits d (size_type z) place ≡ true → count_fits d z ≡ true → target_location s place ≡ Ok l → count_of p s z ≡ Ok c →
        (first behind : List Value) × DoesAll n g sites (place_deeds n place ++ size_deeds n z) (seen_with n g sites s []) (seen_with n g sites s behind) × IsAnswer place (size_type z) l first
    request_done p place z l c fits counts at count =
        let it = answer_done place (size_type z) l fits at in
        let more = size_done p z c it.0 counts count in
        (it.0, more.0, done_append n g sites (place_deeds n place) (size_deeds n z) (seen_with n g sites s []) (seen_with n g sites s it.0) (seen_with n g sites s more.0) it.1 more.1, it.2)

    none_made : (place : Option Expr) (site : Option ℕ) → made n place site way.NotMade ≡ written_any n place source.Null
    none_made place None = refl
    none_made place (Some k) = refl

    -- a request that gives a null pointer (7.20.3)
    pub refused_goes : (p : Program) (place : Option Expr) (z : Size) (site : Option ℕ) (l : Option Location) (c : ℤ) → answer_fits d (size_type z) place ≡ true → count_fits d z ≡ true → target_location s place ≡ Ok l → count_of p s z ≡ Ok c →
        Goes n g sites s (malloc_deeds n place z site way.NotMade) (answered l value.Null s)
    refused_goes p place z site l c fits counts at count =
        let it = request_done p place z l c fits counts at count in
        let write = answer_written place (size_type z) l value.Null source.Null it.1 it.0 fits it.3 (size_points z) (λ points. (refl, λ e. absurd cc)) in (
          subst (λ (ds : List Deed). Makes n g sites s (place_deeds n place ++ size_deeds n z ++ ds) [] (answered l value.Null s)) (sym (none_made place site))
              (makes_behind n g sites s (place_deeds n place ++ size_deeds n z) (written_any n place source.Null) [] it.1 (answered l value.Null s) it.2 write.0),
          write.1,
        )

    -- a request that makes an object, up to the birth of the object
    pub granted_goes : (p : Program) (place : Option Expr) (z : Size) (k v : ℕ) (l : Option Location) (c : ℤ) → answer_fits d (size_type z) place ≡ true → count_fits d z ≡ true → target_location s place ≡ Ok l → count_of p s z ≡ Ok c →
        slice_get n.sites k ≡ Some v → slice_get sites (length s.objects) ≡ Some v → object_type g sites (length s.objects) ≡ Some (size_type z) → IsFresh (view_of n s) (length s.objects) → length sites ≡ length s.objects + 1 →
        Goes n g sites s (malloc_deeds n place z (Some k) way.Made) (answered l (value.Ptr (length s.objects)) s)
    granted_goes p place z k v l c fits counts at count named site made fresh last =
        let o = length s.objects in
        let it = request_done p place z l c fits counts at count in
        let write = answer_written place (size_type z) l (value.Ptr o) (source.New k) it.1 it.0 fits it.3 (made, size_points z) (λ points. ((o, v, refl, named, site, fresh, last), λ e. absurd cc)) in
        (makes_behind n g sites s (place_deeds n place ++ size_deeds n z) (written_any n place (source.New k)) [] it.1 (answered l (value.Ptr o) s) it.2 write.0, write.1)
