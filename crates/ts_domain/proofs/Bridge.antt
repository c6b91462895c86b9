-- What control does over an edge are the edge's deeds, and the types of a machine are kept.
use Rattle.std.proofs.Common.{◌≡◌, ℕ, ◌+◌, ◌&&◌, true, false, ℤ, pos, negsuc, List, [], ◌∷◌, ◌++◌, slice_get, length, Option, Some, None, Ok, option_map, option_and_then, flat_map, drop, refl, ap, sym, subst, ◌∙◌, arith}
use Rattle.std.specs.List.{Contains}
use Rattle.std.proofs.lemmas.Bool.{and_parts}
use Rattle.std.proofs.lemmas.List.{length-append}
use Rattle.c_tree.specs.Typing.{declarations}
use Rattle.c_tree.specs.declared.expr.Expr.{Expr}
use Rattle.c_tree.specs.declared.program.Program.{Program}
use Rattle.c_tree.specs.declared.program.Size.{Size}
use Rattle.c_tree.specs.declared.program.Size.TheVariants as size
use Rattle.c_meaning.specs.declared.value.Value.{Value}
use Rattle.c_meaning.specs.declared.value.Value.TheVariants as value
use Rattle.c_meaning.specs.declared.machine.Location.{Location}
use Rattle.c_meaning.specs.declared.machine.Location.TheVariants.{Slot}
use Rattle.c_meaning.specs.Eval.{◌>>=◌, eval_all}
use Rattle.c_meaning.specs.Machine.{Store, stored}
use Rattle.c_meaning.specs.Effects.{all_freed, target_location, answered, count_of, born, next_byte, ints_of, printed, parameters_of, bound as bound_store, back, ended, value_of}
use Rattle.c_graph.specs.declared.graph.Action.TheVariants as action
use Rattle.c_graph.specs.declared.graph.Edge.{Edge}
use Rattle.c_graph.specs.declared.graph.Graph.{Graph}
use Rattle.c_graph.specs.declared.graph.Node.{Node}
use Rattle.c_graph.specs.declared.graph.NodeKind.{NodeKind}
use Rattle.c_graph.specs.declared.graph.NodeKind.TheVariants as kind
use Rattle.c_graph.specs.declared.graph.Way.{Way}
use Rattle.c_graph.specs.declared.graph.Way.TheVariants as way
use Rattle.c_graph.specs.Executes.{asked, Does as Comes, frees, unsets, assigns, makes, makes_none, gets, puts, prints, holds, fails, calls, returns, closes, ends, ends_last, Executes, callee_of_leave, function_of, sites_by, sites_over}
use Rattle.ts_domain.specs.declared.deed.Deed.{Deed}
use Rattle.ts_domain.specs.declared.names.Names.{Names}
use Rattle.ts_domain.specs.Deeds.{site_of, place_deeds, owned_by, call_deeds, test_deeds, returned_any, return_deeds, malloc_deeds, kind_deeds, node_deeds, edge_deeds}
use Rattle.ts_domain.specs.Looks.{value_deeds}
use Rattle.ts_domain.specs.Pointers.{place_of, parameters, owned}
use Rattle.ts_domain.specs.TypedGraphs.{action_fits, answer_fits, count_fits, HasTypedActions}
use Rattle.ts_domain.specs.TypedMachines.{HasTypes, IsTyped}
use Rattle.ts_domain.specs.Views.{AreNames, View, view_of, pointing, IsSame, object_type, kind_type, site_type, size_type, EdgeDoes, DoesAll}
use Rattle.ts_domain.proofs.Answers.{same_is, size_points, getchar_goes, refused_goes, granted_goes, answer_done}
use Rattle.ts_domain.proofs.Assigns.{then_ok, Goes, assign_goes, unset_goes}
use Rattle.ts_domain.proofs.Courses.{seen_with}
use Rattle.ts_domain.proofs.Frees.{HasSame, same_typed, all_same}
use Rattle.ts_domain.proofs.NameLaws.{HasPlaces, has_places}
use Rattle.ts_domain.proofs.NewObjects.{born_content, born_behind, born_types, more_types, is_fresh, has_site, answer_old}
use Rattle.ts_domain.proofs.PointerSorts.{AreDeclared}
use Rattle.ts_domain.proofs.Returns.{received_goes, back_goes, ReturnFits}
use Rattle.ts_domain.proofs.Stores.{same_view, stored_objects}
use Rattle.ts_domain.proofs.Tests.{number_done, numbers_done, test_done}
use Rattle.ts_domain.proofs.PlaceWrites.{Makes}

target_asked : (s : Store) (place : Option Expr) → target_location (asked s) place ≡ target_location s place
target_asked s None = refl
target_asked s (Some e) = refl

count_asked : (p : Program) (s : Store) (z : Size) → count_of p (asked s) z ≡ count_of p s z
count_asked p s (size.Fields k) = refl
count_asked p s (size.Ints None) = refl
count_asked p s (size.Ints (Some e)) = refl

byte_is : (input : List ℕ) → (m : ℤ) × (next_byte input ≡ value.Int m)
byte_is [] = (negsuc 0, refl)
byte_is (b ∷ bs) = (pos b, refl)

ended_same : (v : Option Value) (s : Store) → HasSame s (ended v s)
ended_same None s = record { contents = λ l. refl; slots = refl; objects = refl }
ended_same (Some (value.Int m)) s = record { contents = λ l. refl; slots = refl; objects = refl }
ended_same (Some value.Undef) s = record { contents = λ l. refl; slots = refl; objects = refl }
ended_same (Some value.Null) s = record { contents = λ l. refl; slots = refl; objects = refl }
ended_same (Some (value.Ptr o)) s = record { contents = λ l. refl; slots = refl; objects = refl }

answered_objects : (l : Option Location) (v : Value) (s : Store) → length (answered l v s).objects ≡ length s.objects
answered_objects None v s = refl
answered_objects (Some l) v s = stored_objects s l v

back_objects : (p : Program) (f : ℕ) (target : Option ℕ) (v : Option Value) (s : Store) → length (back p f target v s).objects ≡ length s.objects
back_objects p f (Some x) (Some v) s = refl
back_objects p f (Some x) None s = refl
back_objects p f None v s = refl

pub last_site : (sites : List ℕ) (v i : ℕ) → i ≡ length sites → slice_get (sites ++ v ∷ []) i ≡ Some v
last_site sites v i is = subst (λ (k : ℕ). slice_get (sites ++ v ∷ []) k ≡ Some v) (sym is) (at_end sites)
  where
    at_end : (xs : List ℕ) → slice_get (xs ++ v ∷ []) (length xs) ≡ Some v
    at_end [] = refl
    at_end (x ∷ xs) = at_end xs

-- the deeds are done, and the machine is typed behind them
abbrev pub GoesOn : Names → Graph → List ℕ → Store → List Deed → Store → Type 0
GoesOn n g sites s ds t = Makes n g sites s ds [] t × IsTyped n g sites t

-- a call enters its function with the deeds done
abbrev pub CallsGo : Program → Names → Graph → Type 0
CallsGo p n g = (v k f : ℕ) (es : List Expr) (values : List Value) (s : Store) (sites : List ℕ) → slice_get g.nodes v ≡ Some (record { ctx = k; kind = kind.Act (action.Call f es) }) → IsTyped n g sites s → eval_all s.slots s.objects es ≡ Ok values →
    GoesOn n g sites s (call_deeds n (parameters n f) es) (bound_store (parameters_of p f) values s)

module _ (p : Program) (g : Graph) (n : Names) (names : AreNames p g n) (fits : HasTypedActions p g) (enters : CallsGo p n g) where
  same_names : AreDeclared (declarations p) n
  same_names = record { vars = sym names.decls; structs = sym names.structs }

  places : HasPlaces n
  places = has_places p g n names

  module _ (s : Store) (sites : List ℕ) (typed : IsTyped n g sites s) where
    by_types : (ds : List Deed) (t : Store) → Goes n g sites s ds t → length t.objects ≡ length s.objects → GoesOn n g sites s ds t
    by_types ds t goes many = (goes.0, record { types = goes.1; objects = many ∙ typed.objects })

    nothing_goes : (t : Store) → HasSame s t → GoesOn n g sites s [] t
    nothing_goes t a = ((seen_with n g sites s [], refl, same_view n s t (λ l. ap pointing (sym (a.contents l)))), same_typed n g sites a typed)

    -- reads alone
    reads_go : (ds : List Deed) (t : Store) → HasSame s t → (behind : List Value) × DoesAll n g sites ds (seen_with n g sites s []) (seen_with n g sites s behind) → GoesOn n g sites s ds t
    reads_go ds t a it = ((seen_with n g sites s it.0, it.1, same_view n s t (λ l. ap pointing (sym (a.contents l)))), same_typed n g sites a typed)

    asked_types : (us : List ℕ) → HasTypes n g us s → HasTypes n g us (asked s)
    asked_types us h = record { slots = h.slots; contents = h.contents; others = h.others }

    refused : (place : Option Expr) (z : Size) (site : Option ℕ) (l : Option Location) (c : ℤ) → (answer_fits (declarations p) (size_type z) place && count_fits (declarations p) z) ≡ true → target_location s place ≡ Ok l → count_of p s z ≡ Ok c →
        GoesOn n g sites s (malloc_deeds n place z site way.NotMade) (answered l value.Null (asked s))
    refused place z site l c fit at count =
        let both = and_parts (answer_fits (declarations p) (size_type z) place) (count_fits (declarations p) z) fit in
        let goes = refused_goes n g sites (asked s) (declarations p) same_names places (asked_types sites typed.types) p place z site l c both.0 both.1 (target_asked s place ∙ at) (count_asked p s z ∙ count) in
        by_types (malloc_deeds n place z site way.NotMade) (answered l value.Null (asked s)) goes (answered_objects l value.Null (asked s))

    -- an object is made
    granted : (v k : ℕ) (place : Option Expr) (z : Size) (offset : ℕ) (l : Option Location) (m : ℕ) → slice_get g.nodes v ≡ Some (record { ctx = k; kind = kind.Act (action.Malloc place z offset) }) →
        (answer_fits (declarations p) (size_type z) place && count_fits (declarations p) z) ≡ true → target_location s place ≡ Ok l → count_of p s z ≡ Ok (pos m) →
        GoesOn n g (sites ++ v ∷ []) s (malloc_deeds n place z (site_of n v) way.Made) (answered l (value.Ptr (length s.objects)) (born m (asked s)))
    granted v k place z offset l m stands fit at count =
        let us = sites ++ v ∷ [] in
        let o = value.Ptr (length s.objects) in
        let A = answered l o (asked s) in
        let both = and_parts (answer_fits (declarations p) (size_type z) place) (count_fits (declarations p) z) fit in
        let site = has_site p g n names v (record { ctx = k; kind = kind.Act (action.Malloc place z offset) }) stands refl in
        let types = asked_types us (more_types n g sites (v ∷ []) s typed.types typed.objects) in
        let here : slice_get us (length s.objects) ≡ Some v = last_site sites v (length s.objects) typed.objects in
        let made : object_type g us (length s.objects) ≡ Some (size_type z) = ap (option_and_then (site_type g)) here ∙ ap (option_and_then (λ (node : Node). kind_type node.kind)) stands in
        let longer : length us ≡ length sites + 1 = length-append sites (v ∷ []) in
        let last : length us ≡ length s.objects + 1 = longer ∙ ap (λ (i : ℕ). i + 1) (sym typed.objects) in
        let goes = granted_goes n g us (asked s) (declarations p) same_names places types p place z site.0 v l (pos m) both.0 both.1 (target_asked s place ∙ at) (count_asked p s z ∙ count) site.2 here made (is_fresh n g sites s typed) last in
        let answer = answer_done n g us (asked s) (declarations p) same_names places types place (size_type z) l both.0 (target_asked s place ∙ at) in
        let old = answer_old n g us (asked s) (declarations p) same_names places place (size_type z) l answer.0 (size_points z) both.0 answer.2 in
        let view = same_then_view goes.0.0.view A m goes.0.2 in
        let many : length A.objects ≡ length s.objects = answered_objects l o (asked s) in
        let more : length (born m A).objects ≡ length A.objects + 1 = length-append A.objects _ in
        let counted = typed.objects in
        let all_many : length (born m A).objects ≡ length us = omega arith in
        subst (λ (t : Store). GoesOn n g us s (malloc_deeds n place z (site_of n v) way.Made) t) (sym (born_behind m (asked s) l o old)) (
          subst (λ (q : Option ℕ). Makes n g us s (malloc_deeds n place z q way.Made) [] (born m A)) (sym site.1) (goes.0.0, goes.0.1, view),
          record { types = born_types n g us A m goes.1; objects = all_many },
        )
      where
        same_then_view : (w : View) (a : Store) (m : ℕ) → IsSame w (view_of n a) → IsSame w (view_of n (born m a))
        same_then_view w a m h = subst (λ (x : View). IsSame w x) (same_is (same_view n a (born m a) (λ l. ap pointing (sym (born_content m a l))))) h

    -- what control does over an edge
    kind_goes : {left : Option ℕ} {what : NodeKind} {w : Way} {t : Store} (e : Edge) (k : ℕ) → Comes p left s what w t → left ≡ function_of g k → Contains g.edges e → slice_get g.nodes e.from ≡ Some (record { ctx = k; kind = what }) → e.way ≡ w →
        GoesOn n g (sites_by e.from w sites) s (kind_deeds n (site_of n e.from) (function_of g k) w what) t
    kind_goes e k (frees number list going) from among stands is = nothing_goes (all_freed list s) (all_same list s)
    kind_goes e k (unsets x) from among stands is = by_types _ (stored (Slot x) value.Undef s) (unset_goes n g sites s (declarations p) same_names places typed.types x) refl
    kind_goes e k (assigns a b l v plain at new) from among stands is =
        by_types _ (stored l v s) (assign_goes n g sites s (declarations p) same_names places typed.types a b l v (fits.actions e.from k (action.Assign a) stands) plain at new) (stored_objects s l v)
    kind_goes e k (makes place z offset l m at count grants) from among stands is = granted e.from k place z offset l m stands (fits.actions e.from k (action.Malloc place z offset) stands) at count
    kind_goes e k (makes_none place z offset l c at count refuses) from among stands is = refused place z (site_of n e.from) l c (fits.actions e.from k (action.Malloc place z offset) stands) at count
    kind_goes e k (gets place l at) from among stands is =
        let byte = byte_is s.input in
        let t = record s { input = drop 1 s.input } in
        let types : HasTypes n g sites t = record { slots = typed.types.slots; contents = typed.types.contents; others = typed.types.others } in
        let goes = getchar_goes n g sites t (declarations p) same_names places types place l byte.0 (fits.actions e.from k (action.Getchar place) stands) (target_input place at) in
        subst (λ (v : Value). GoesOn n g sites s (place_deeds n place) (answered l v t)) (sym byte.1) (by_types (place_deeds n place) (answered l (value.Int byte.0) t) goes (answered_objects l (value.Int byte.0) t))
      where
        target_input : (q : Option Expr) → target_location s q ≡ Ok l → target_location (record s { input = drop 1 s.input }) q ≡ Ok l
        target_input None h = h
        target_input (Some a) h = h
    kind_goes e k (puts a m at) from among stands is =
        reads_go (value_deeds n false a) _ (record { contents = λ l. refl; slots = refl; objects = refl }) (number_done n g sites s (declarations p) same_names places typed.types a m [] (fits.actions e.from k (action.Putchar a) stands) at)
    kind_goes e k (prints text es bytes at) from among stands is =
        let one = then_ok (eval_all s.slots s.objects es >>= ints_of) (printed text) bytes at in
        let two = then_ok (eval_all s.slots s.objects es) ints_of one.0 one.1 in
        reads_go (flat_map (value_deeds n false) es) _ (record { contents = λ l. refl; slots = refl; objects = refl })
        (numbers_done n g sites s (declarations p) same_names places typed.types es two.0 [] (fits.actions e.from k (action.Printf text es) stands) two.1)
    kind_goes e k (holds a says) from among stands is =
        reads_go (test_deeds n way.True a) s (record { contents = λ l. refl; slots = refl; objects = refl }) (test_done n g sites s (declarations p) same_names places typed.types a true (fits.actions e.from k (action.Test a) stands) says)
    kind_goes e k (fails a says) from among stands is =
        reads_go (test_deeds n way.False a) s (record { contents = λ l. refl; slots = refl; objects = refl }) (test_done n g sites s (declarations p) same_names places typed.types a false (fits.actions e.from k (action.Test a) stands) says)
    kind_goes e k (calls f es values at) from among stands is = enters e.from k f es values s sites stands typed at
    kind_goes e k (returns a v f target left at) from among stands is =
        subst (λ (o : Option ℕ). GoesOn n g sites s (return_deeds n (owned_by n o) a (way.Leave target)) (back p f target v s)) (sym left ∙ from)
        (by_types (return_deeds n (owned n f) a (way.Leave target)) (back p f target v s)
        (back_goes n g sites p s f target v (returned_any n (option_and_then (place_of n) target) a) names.decls places
        (received_goes n g sites s (declarations p) same_names places typed.types target a v (return_fits target a stands is) at))
        (back_objects p f target v s))
      where
        return_fits : (target : Option ℕ) (a : Option Expr) → slice_get g.nodes e.from ≡ Some (record { ctx = k; kind = kind.Act (action.Return a) }) → e.way ≡ way.Leave target → ReturnFits n g sites s (declarations p) same_names places typed.types target a
        return_fits target None stands is = tt
        return_fits None (Some a) stands is = fits.actions e.from k (action.Return (Some a)) stands
        return_fits (Some x) (Some a) stands is = fits.returns e k x a among stands is
    kind_goes e k (closes f target left) from among stands is =
        subst (λ (o : Option ℕ). GoesOn n g sites s (return_deeds n (owned_by n o) None (way.Leave target)) (back p f target None s)) (sym left ∙ from)
        (by_types (return_deeds n (owned n f) None (way.Leave target)) (back p f target None s)
        (back_goes n g sites p s f target None (returned_any n (option_and_then (place_of n) target) None) names.decls places
        (received_goes n g sites s (declarations p) same_names places typed.types target None None (close_fits target) refl))
        (back_objects p f target None s))
      where
        close_fits : (target : Option ℕ) → ReturnFits n g sites s (declarations p) same_names places typed.types target None
        close_fits target = tt
    kind_goes e k (ends a v at) from among stands is = by_value a (fits.actions e.from k (action.Return a) stands) at
      where
        by_value : (a : Option Expr) → action_fits (declarations p) (action.Return a) ≡ true → value_of s a ≡ Ok v → GoesOn n g sites s (returned_any n None a) (ended v s)
        by_value None fit at = nothing_goes (ended v s) (ended_same v s)
        by_value (Some b) fit at =
            let goes = received_goes n g sites s (declarations p) same_names places typed.types None (Some b) v fit at in
            ((goes.0.0, goes.0.1, subst (λ (x : View). IsSame goes.0.0.view x) (same_is (same_view n s (ended v s) (λ l. ap pointing (sym ((ended_same v s).contents l))))) goes.0.2), same_typed n g sites (ended_same v s) typed)
    kind_goes e k ends_last from among stands is = nothing_goes (ended None s) (ended_same None s)

  -- the bridge: an executed edge does its deeds, and keeps the types
  pub edge_goes : (e : Edge) (s t : Store) (sites : List ℕ) → Contains g.edges e → Executes p g e s t → IsTyped n g sites s → GoesOn n g (sites_over e sites) s (edge_deeds n g e) t
  edge_goes e s t sites among executes typed =
      let v = executes.node in
      let from : callee_of_leave g e ≡ function_of g v.ctx = ap (λ (o : Option Node). option_and_then (function_of g) (option_map (λ (x : Node). x.ctx) o)) executes.stands in
      subst (λ (o : Option Node). GoesOn n g (sites_over e sites) s (node_deeds n g e o) t) (sym executes.stands)
      (kind_goes s sites typed e v.ctx executes.does from among executes.stands refl)

  pub edge_does : (e : Edge) (s t : Store) (sites : List ℕ) → Contains g.edges e → Executes p g e s t → IsTyped n g sites s → EdgeDoes n g sites e s t
  edge_does e s t sites among executes typed = (edge_goes e s t sites among executes typed).0
