-- What is written out is read, and what a test says of pointers is so.
use Rattle.std.proofs.Common.{◌≡◌, ℕ, ◌+◌, ◌==◌, ◌&&◌, Bool, true, false, ℤ, List, [], ◌∷◌, ◌++◌, slice_get, length, Option, Some, None, Result, Ok, Err, refl, ap, sym, subst, ◌∙◌, arith}
use Rattle.std.specs.Prelude.{not, if◌then◌else◌}
use Rattle.std.specs.List.{flat_map, list_all}
use Rattle.std.specs.Option.{is_some}
use Rattle.std.proofs.lemmas.Bool.{and_parts, eqb-true, eqb-false}
use Rattle.std.proofs.lemmas.List.{append-nil}
use Rattle.c_tree.specs.Typing.{Declarations, Sort, Of, AnyPointer, is_int, goes_into, are_comparable, gives_int, have, int_if, Judged, judged, combined, sort_of}
use Rattle.c_tree.specs.declared.expr.Expr.{Expr, Expr-F, out-Expr, map-Expr, fold_out-Expr}
use Rattle.c_tree.specs.declared.expr.Expr.TheOpen.{Const, Null, Var, Field, Deref, Index, Unary, Binary}
use Rattle.c_tree.specs.declared.expr.Oper.{Oper}
use Rattle.c_tree.specs.declared.expr.Oper.TheVariants as oper
use Rattle.c_tree.specs.declared.program.Ty.{Ty}
use Rattle.c_tree.specs.declared.program.Ty.TheVariants as ty
use Rattle.c_meaning.specs.declared.value.Value.{Value}
use Rattle.c_meaning.specs.declared.value.Value.TheVariants as value
use Rattle.c_meaning.specs.declared.machine.Stop.{Stop}
use Rattle.c_meaning.specs.Eval.{◌>>=◌, said, truth, int_of, binary, eval_layer, eval, eval_all}
use Rattle.c_meaning.specs.Machine.{Store}
use Rattle.c_graph.specs.declared.graph.Graph.{Graph}
use Rattle.ts_domain.specs.declared.deed.Deed.{Deed}
use Rattle.ts_domain.specs.declared.names.Names.{Names}
use Rattle.ts_domain.specs.declared.names.Read.{Read}
use Rattle.ts_domain.specs.declared.names.Read.TheVariants as read
use Rattle.ts_domain.specs.declared.pointers.Pointer.{Pointer}
use Rattle.ts_domain.specs.Deeds.{looked_at, is_null, null_said_of, null_said, pair_said, equality_said, comparison_said, tested_layer, tested}
use Rattle.ts_domain.specs.Looks.{Look, look, valued, compares, pointer_of, within, value_deeds, notes}
use Rattle.ts_domain.specs.Pointers.{is_pointer}
use Rattle.ts_domain.specs.TypedMachines.{Fits, HasTypes}
use Rattle.ts_domain.specs.Views.{view_of, Finds, LooksAt, DoesAll}
use Rattle.ts_domain.proofs.Assigns.{then_ok, value_done}
use Rattle.ts_domain.proofs.Courses.{Remembers, seen_with, done_append, done_remembers}
use Rattle.ts_domain.proofs.Evaluations.{sort_at, look_at, IsValueOf, look_opens, remembered_length}
use Rattle.ts_domain.proofs.Expressions.{Holds, Shown, shown_finds, has_some, have_some, if_typed, operands_typed}
use Rattle.ts_domain.proofs.NameLaws.{HasPlaces}
use Rattle.ts_domain.proofs.PointerSorts.{AreDeclared, AgreesWith, Agrees, expr_agrees, sort_opens, is_looked_at}
use Rattle.ts_domain.proofs.PlaceWrites.{none_is_some, same_type, notes_append}
use Rattle.call_contexts.proofs.Has.{get_left}

-- a comparison says whether two pointers are equal
abbrev pub AreSo : Bool → Value → Value → Type 0
AreSo b v w = (b ≡ true → v ≡ w) × (b ≡ false → v ≡ w → ⊥)

-- two values that are compared are pointers, or numbers
data Compared (b : Bool) (v w : Value) : Type 0 where
  pointers : AreSo b v w → Compared b v w
  numbers : (i j : ℤ) → v ≡ value.Int i → w ≡ value.Int j → Compared b v w

truth_said : (c b : Bool) → truth (said c) ≡ Ok b → c ≡ b
truth_said true true h = refl
truth_said true false h = absurd cc
truth_said false true h = absurd cc
truth_said false false h = refl

not_said : (c b : Bool) → truth (said (not c)) ≡ Ok b → c ≡ not b
not_said true true h = absurd cc
not_said true false h = refl
not_said false true h = refl
not_said false false h = absurd cc

same_objects : (x y : ℕ) → AreSo (x == y) (value.Ptr x) (value.Ptr y)
same_objects x y = (λ e. ap (λ (k : ℕ). value.Ptr k) (eqb-true x y e), λ e is. let same : x ≡ y = cc in eqb-false x y e same)

-- what `==` says, and `!=` (6.5.9)
equal_so : (at : ℕ) (b : Bool) (v w : Value) → (binary oper.Eq at v w >>= truth) ≡ Ok b → Compared b v w
equal_so at b (value.Int i) (value.Int j) h = numbers i j refl refl
equal_so at b (value.Ptr x) (value.Ptr y) h = subst (λ (c : Bool). Compared c (value.Ptr x) (value.Ptr y)) (truth_said (x == y) b h) (pointers (same_objects x y))
equal_so at b (value.Ptr x) value.Null h = subst (λ (c : Bool). Compared c (value.Ptr x) value.Null) (truth_said false b h) (pointers (λ e. absurd cc, λ e is. absurd cc))
equal_so at b value.Null (value.Ptr y) h = subst (λ (c : Bool). Compared c value.Null (value.Ptr y)) (truth_said false b h) (pointers (λ e. absurd cc, λ e is. absurd cc))
equal_so at b value.Null value.Null h = subst (λ (c : Bool). Compared c value.Null value.Null) (truth_said true b h) (pointers (λ e. refl, λ e is. absurd cc))
equal_so at b _ _ h = absurd cc

unequal_so : (at : ℕ) (b : Bool) (v w : Value) → (binary oper.Ne at v w >>= truth) ≡ Ok b → Compared (not b) v w
unequal_so at b (value.Int i) (value.Int j) h = numbers i j refl refl
unequal_so at b (value.Ptr x) (value.Ptr y) h = subst (λ (c : Bool). Compared c (value.Ptr x) (value.Ptr y)) (not_said (x == y) b h) (pointers (same_objects x y))
unequal_so at b (value.Ptr x) value.Null h = subst (λ (c : Bool). Compared c (value.Ptr x) value.Null) (not_said false b h) (pointers (λ e. absurd cc, λ e is. absurd cc))
unequal_so at b value.Null (value.Ptr y) h = subst (λ (c : Bool). Compared c value.Null (value.Ptr y)) (not_said false b h) (pointers (λ e. absurd cc, λ e is. absurd cc))
unequal_so at b value.Null value.Null h = subst (λ (c : Bool). Compared c value.Null value.Null) (not_said true b h) (pointers (λ e. refl, λ e is. absurd cc))
unequal_so at b _ _ h = absurd cc

-- the types of both sides fit each other
sides_fit : (a c : Judged) (left right t : Sort) → a.value ≡ Some left → c.value ≡ Some right → (int_if (have are_comparable a c)).value ≡ Some t → are_comparable left right ≡ true
sides_fit a c left right t at too h =
    let it = if_typed (have are_comparable a c) t h in
    let both = have_some are_comparable a c it.0 in
    let one : Some both.0 ≡ Some left = sym both.2 ∙ at in
    let two : Some both.1 ≡ Some right = sym both.3 ∙ too in
    let one_is : both.0 ≡ left = cc in
    let two_is : both.1 ≡ right = cc in
    subst (λ (u : Sort). are_comparable left u ≡ true) two_is (subst (λ (u : Sort). are_comparable u both.1 ≡ true) one_is both.4)

regrouped : (r q : Result Value Stop) (f : Value → Value → Result Value Stop) → (r >>= λ v. q >>= f v >>= truth) ≡ ((r >>= λ v. q >>= f v) >>= truth)
regrouped (Ok v) q f = refl
regrouped (Err e) q f = refl

some_of : {A : Type 0} (o : Option A) → is_some o ≡ true → (x : A) × (o ≡ Some x)
some_of None h = absurd cc
some_of (Some x) h = (x, refl)

abbrev eval_at : Store → Expr-F Expr → Result Value Stop
eval_at s x = eval_layer s.slots s.objects (map-Expr Expr (Result Value Stop) (eval s.slots s.objects) x)

module _ (n : Names) (g : Graph) (sites : List ℕ) (s : Store) where
  said_so : (r : Read) (v : Value) (b : Bool) (behind : List Value) → (truth v) ≡ Ok b → (v ≡ value.Undef → ⊥) → ((m : ℤ) → v ≡ value.Int m → ⊥) → Finds n g sites (view_of n s) r v →
      DoesAll n g sites (null_said_of (not b) r) (seen_with n g sites s behind) (seen_with n g sites s behind)
  said_so (read.Deep t f) v true behind says defined pointer finds = refl
  said_so (read.Deep t f) v false behind says defined pointer finds = refl
  said_so (read.Name k) value.Undef b behind says defined pointer finds = absurd (defined refl)
  said_so (read.Name k) (value.Int m) b behind says defined pointer finds = absurd (pointer m refl)
  said_so (read.Name k) value.Null true behind says defined pointer finds = absurd cc
  said_so (read.Name k) value.Null false behind says defined pointer finds = (seen_with n g sites s behind, (finds, refl), refl)
  said_so (read.Name k) (value.Ptr o) true behind says defined pointer finds = (seen_with n g sites s behind, ((o, finds), refl), refl)
  said_so (read.Name k) (value.Ptr o) false behind says defined pointer finds = absurd cc

  null_so : (q : Option Pointer) (v : Value) (b : Bool) (behind : List Value) → truth v ≡ Ok b → (v ≡ value.Undef → ⊥) → ((p : Pointer) → q ≡ Some p → (m : ℤ) → v ≡ value.Int m → ⊥) → ((p : Pointer) → q ≡ Some p → Finds n g sites (view_of n s) p.read v) →
      DoesAll n g sites (null_said (not b) q) (seen_with n g sites s behind) (seen_with n g sites s behind)
  null_so None v b behind says defined pointer finds = refl
  null_so (Some p) v b behind says defined pointer finds = said_so p.read v b behind says defined (pointer p refl) (finds p refl)

  module _ (d : Declarations) (same : AreDeclared d n) (places : HasPlaces n) (typed : HasTypes n g sites s) where
    -- what is looked at by a pointer is no number
    no_number : (e : Expr) (u : Sort) (v : Value) (p : Pointer) → sort_of d e ≡ Some u → pointer_of n e ≡ Some p → Holds n g sites s u v → (m : ℤ) → v ≡ value.Int m → ⊥
    no_number e u v p is at holds m number = by_sort u holds (subst (λ (q : Option Pointer). Agrees n (Some u) q) at (subst (λ (o : Option Sort). Agrees n o (pointer_of n e)) is (expr_agrees n d same places e)))
      where
        by_type : (t : Ty) (b : Bool) → is_pointer t ≡ b → Fits g sites t v → AgreesWith n b t (Some p) → ⊥
        by_type t true points fit agrees =
            let int : t ≡ ty.Int = subst (λ (c : Value). Fits g sites t c) number fit in
            let never : true ≡ false = sym points ∙ ap is_pointer int in
            absurd cc
        by_type t false plain fit agrees = none_is_some (sym agrees)

        by_sort : (u : Sort) → Holds n g sites s u v → Agrees n (Some u) (Some p) → ⊥
        by_sort (Of t) holds agrees = by_type t (is_pointer t) refl holds.0 agrees
        by_sort AnyPointer holds agrees = none_is_some (sym agrees)

    defined_by : (u : Sort) (v : Value) → Holds n g sites s u v → v ≡ value.Undef → ⊥
    defined_by (Of t) v holds is = holds.1 is
    defined_by AnyPointer v holds is = let never : value.Null ≡ value.Undef = sym holds ∙ is in absurd cc

    -- written out

    -- a number is read
    pub number_done : (e : Expr) (m : ℤ) (found : List Value) → gives_int d e ≡ true → (eval s.slots s.objects e >>= int_of) ≡ Ok m →
        (behind : List Value) × DoesAll n g sites (value_deeds n false e) (seen_with n g sites s found) (seen_with n g sites s behind)
    number_done e m found gives at =
        let u = has_some is_int (sort_of d e) gives in
        let it = then_ok (eval s.slots s.objects e) int_of m at in
        let done = value_done n g sites s d same places typed e u.0 false found it.0 u.1 it.1 in
        (done.0, done.1)

    -- and several
    pub numbers_done : (es : List Expr) (vs : List Value) (found : List Value) → list_all (gives_int d) es ≡ true → eval_all s.slots s.objects es ≡ Ok vs →
        (behind : List Value) × DoesAll n g sites (flat_map (value_deeds n false) es) (seen_with n g sites s found) (seen_with n g sites s behind)
    numbers_done [] vs found gives at = (found, refl)
    numbers_done (e ∷ es) vs found gives at =
        let both = and_parts (gives_int d e) (list_all (gives_int d) es) gives in
        let u = has_some is_int (sort_of d e) both.0 in
        let it = then_ok (eval s.slots s.objects e) (λ v. eval_all s.slots s.objects es >>= λ vs. Ok (v ∷ vs)) vs at in
        let rest = then_ok (eval_all s.slots s.objects es) (λ vs. Ok (it.0 ∷ vs)) vs it.2 in
        let done = value_done n g sites s d same places typed e u.0 false found it.0 u.1 it.1 in
        let more = numbers_done es rest.0 done.0 both.1 rest.1 in
        (more.0, done_append n g sites (value_deeds n false e) (flat_map (value_deeds n false) es) (seen_with n g sites s found) (seen_with n g sites s done.0) (seen_with n g sites s more.0) done.1 more.1)

    -- comparisons

    pointer_sort : (e : Expr) (u : Sort) (p : Pointer) → sort_of d e ≡ Some u → pointer_of n e ≡ Some p → (t : Ty) × (u ≡ Of t) × (is_pointer t ≡ true)
    pointer_sort e u p is at = by_sort u (subst (λ (q : Option Pointer). Agrees n (Some u) q) at (subst (λ (o : Option Sort). Agrees n o (pointer_of n e)) is (expr_agrees n d same places e)))
      where
        by_type : (t : Ty) (b : Bool) → is_pointer t ≡ b → AgreesWith n b t (Some p) → is_pointer t ≡ true
        by_type t true points agrees = points
        by_type t false plain agrees = absurd (none_is_some (sym agrees))

        by_sort : (u : Sort) → Agrees n (Some u) (Some p) → (t : Ty) × (u ≡ Of t) × (is_pointer t ≡ true)
        by_sort (Of t) agrees = (t, refl, by_type t (is_pointer t) refl agrees)
        by_sort AnyPointer agrees = absurd (none_is_some (sym agrees))

    -- beside a pointer that is looked at, what is written as a null pointer is one
    null_beside : (e : Expr) (t : Ty) (u : Sort) (v : Value) → is_pointer t ≡ true → sort_of d e ≡ Some u → goes_into t u ≡ true → is_null e ≡ true → Holds n g sites s u v → v ≡ value.Null
    null_beside e t AnyPointer v points is goes null holds = holds
    null_beside e t (Of w) v points is goes null holds =
        let it = is_looked_at n d same places e w is (ap is_pointer (sym (same_type t w goes)) ∙ points) in
        let never : true ≡ false = sym null ∙ it.2 in
        absurd cc

    -- an expression is equal to a null pointer, or isn't
    null_said_so : (b : Bool) (q : Option Pointer) (v w : Value) (behind : List Value) → AreSo b v w → ((p : Pointer) → q ≡ Some p → Finds n g sites (view_of n s) p.read v × (w ≡ value.Null) × (v ≡ value.Undef → ⊥) × ((m : ℤ) → v ≡ value.Int m → ⊥)) →
        DoesAll n g sites (null_said b q) (seen_with n g sites s behind) (seen_with n g sites s behind)
    null_said_so b None v w behind so h = refl
    null_said_so b (Some p) v w behind so h = let it = h p refl in by_read b p.read v so it.0 it.1 it.2 it.3
      where
        by_read : (b : Bool) (r : Read) (v : Value) → AreSo b v w → Finds n g sites (view_of n s) r v → w ≡ value.Null → (v ≡ value.Undef → ⊥) → ((m : ℤ) → v ≡ value.Int m → ⊥) →
            DoesAll n g sites (null_said_of b r) (seen_with n g sites s behind) (seen_with n g sites s behind)
        by_read true (read.Deep t f) v so finds null defined pointer = refl
        by_read false (read.Deep t f) v so finds null defined pointer = refl
        by_read true (read.Name k) v so finds null defined pointer = (seen_with n g sites s behind, (finds ∙ so.0 refl ∙ null, refl), refl)
        by_read false (read.Name k) value.Undef so finds null defined pointer = absurd (defined refl)
        by_read false (read.Name k) (value.Int m) so finds null defined pointer = absurd (pointer m refl)
        by_read false (read.Name k) value.Null so finds null defined pointer = absurd (so.1 refl (sym null))
        by_read false (read.Name k) (value.Ptr o) so finds null defined pointer = (seen_with n g sites s behind, ((o, finds), refl), refl)

    looks_later : (r : Read) (note : ℕ) (v : Value) (found behind more : List Value) → behind ≡ found ++ more → LooksAt n g sites (seen_with n g sites s found) (looked_at note r) v → LooksAt n g sites (seen_with n g sites s behind) (looked_at note r) v
    looks_later (read.Name k) note v found behind more is h = h
    looks_later (read.Deep t f) note v found behind more is h = (subst (λ (xs : List Value). slice_get xs note ≡ Some v) (sym is) (get_left found more v note h.0), h.1)

    -- the two sides of a comparison
    record AreRead (a c : Expr) (noted : Bool) (left right : Sort) (v w : Value) (first behind : List Value) : Type 0 where
      left_is : sort_of d a ≡ Some left
      right_is : sort_of d c ≡ Some right
      left_done : DoesAll n g sites (value_deeds n noted a) (seen_with n g sites s []) (seen_with n g sites s first)
      right_done : DoesAll n g sites (value_deeds n noted c) (seen_with n g sites s first) (seen_with n g sites s behind)
      left_value : IsValueOf n g sites s a left noted [] v first
      right_value : IsValueOf n g sites s c right noted first w behind

    module _ (a c : Expr) (left right : Sort) (v w : Value) (first behind : List Value) where
      left_found : (noted : Bool) → AreRead a c noted left right v w first behind → (p : Pointer) → pointer_of n a ≡ Some p → Finds n g sites (view_of n s) p.read v
      left_found noted h p at = shown_finds n g sites s (pointer_of n a) noted (length {A = Value} [] + notes (within n a)) first v h.left_value.1 p at

      right_found : (noted : Bool) → AreRead a c noted left right v w first behind → (p : Pointer) → pointer_of n c ≡ Some p → Finds n g sites (view_of n s) p.read w
      right_found noted h p at = shown_finds n g sites s (pointer_of n c) noted (length first + notes (within n c)) behind w h.right_value.1 p at

      left_pointer : (noted : Bool) → AreRead a c noted left right v w first behind → are_comparable left right ≡ true → is_null c ≡ true → (p : Pointer) → pointer_of n a ≡ Some p → w ≡ value.Null
      left_pointer noted h fit null p at =
          let it = pointer_sort a left p h.left_is at in
          null_beside c it.0 right w it.2 h.right_is (subst (λ (u : Sort). are_comparable u right ≡ true) it.1 fit) null h.right_value.0

      right_pointer : (noted : Bool) → AreRead a c noted left right v w first behind → are_comparable left right ≡ true → is_null a ≡ true → (p : Pointer) → pointer_of n c ≡ Some p → v ≡ value.Null
      right_pointer noted h fit null p at = let it = pointer_sort c right p h.right_is at in by_left left h.left_is h.left_value.0 (subst (λ (u : Sort). are_comparable left u ≡ true) it.1 fit) it.2
        where
          by_left : (u : Sort) → sort_of d a ≡ Some u → Holds n g sites s u v → are_comparable u (Of (pointer_sort c right p h.right_is at).0) ≡ true → is_pointer (pointer_sort c right p h.right_is at).0 ≡ true → v ≡ value.Null
          by_left AnyPointer is holds fit points = holds
          by_left (Of x) is holds fit points =
              let it = is_looked_at n d same places a x is (ap is_pointer (same_type x (pointer_sort c right p h.right_is at).0 fit) ∙ points) in
              let never : true ≡ false = sym null ∙ it.2 in
              absurd cc

      -- both are looked at
      pair_so : (b : Bool) (p q : Pointer) → AreRead a c true left right v w first behind → AreSo b v w → pointer_of n a ≡ Some p → pointer_of n c ≡ Some q →
          DoesAll n g sites (pair_said n b a c (Some p) (Some q)) (seen_with n g sites s behind) (seen_with n g sites s behind)
      pair_so b p q h so at too = by_said b so
        where
          more : Remembers (value_deeds n true c) first behind
          more = done_remembers n g sites (value_deeds n true c) (seen_with n g sites s first) (seen_with n g sites s behind) h.right_done

          looks_left : LooksAt n g sites (seen_with n g sites s behind) (looked_at (notes (within n a)) p.read) v
          looks_left =
              let shown : Shown n g sites s (Some p) true (0 + notes (within n a)) first v = subst (λ (x : Option Pointer). Shown n g sites s x true (0 + notes (within n a)) first v) at h.left_value.1 in
              let note : 0 + notes (within n a) ≡ notes (within n a) = omega arith in
              looks_later p.read (notes (within n a)) v first behind more.more more.is (subst (λ (k : ℕ). LooksAt n g sites (seen_with n g sites s first) (looked_at k p.read) v) note (shown.1 refl))

          looks_right : LooksAt n g sites (seen_with n g sites s behind) (looked_at (notes (value_deeds n true a ++ within n c)) q.read) w
          looks_right =
              let shown : Shown n g sites s (Some q) true (length first + notes (within n c)) behind w = subst (λ (x : Option Pointer). Shown n g sites s x true (length first + notes (within n c)) behind w) too h.right_value.1 in
              let counted : length first ≡ 0 + notes (value_deeds n true a) = remembered_length (value_deeds n true a) [] first (done_remembers n g sites (value_deeds n true a) (seen_with n g sites s []) (seen_with n g sites s first) h.left_done) in
              let both = notes_append (value_deeds n true a) (within n c) in
              let note : length first + notes (within n c) ≡ notes (value_deeds n true a ++ within n c) = omega arith in
              subst (λ (k : ℕ). LooksAt n g sites (seen_with n g sites s behind) (looked_at k q.read) w) note (shown.1 refl)

          by_said : (b : Bool) → AreSo b v w → DoesAll n g sites (pair_said n b a c (Some p) (Some q)) (seen_with n g sites s behind) (seen_with n g sites s behind)
          by_said true so = (seen_with n g sites s behind, ((v, looks_left, subst (λ (x : Value). LooksAt n g sites (seen_with n g sites s behind) (looked_at (notes (value_deeds n true a ++ within n c)) q.read) x) (sym (so.0 refl)) looks_right), refl), refl)
          by_said false so = (seen_with n g sites s behind, ((v, w, looks_left, looks_right, so.1 refl), refl), refl)

      equality_so : (o : Oper) (b : Bool) → ((p q : Option Pointer) → compares o p q ≡ (is_some p && is_some q)) → AreRead a c (compares o (pointer_of n a) (pointer_of n c)) left right v w first behind → are_comparable left right ≡ true → AreSo b v w →
          DoesAll n g sites (equality_said n b a c) (seen_with n g sites s behind) (seen_with n g sites s behind)
      equality_so o b compared h fit so = by_null (is_null c) (is_null a) refl refl
        where
          turned : AreSo b w v
          turned = (λ e. sym (so.0 e), λ e is. so.1 e (sym is))

          by_pair : (p q : Option Pointer) → pointer_of n a ≡ p → pointer_of n c ≡ q → DoesAll n g sites (pair_said n b a c p q) (seen_with n g sites s behind) (seen_with n g sites s behind)
          by_pair None q at too = refl
          by_pair (Some p) None at too = refl
          by_pair (Some p) (Some q) at too =
              let is_noted : compares o (pointer_of n a) (pointer_of n c) ≡ true = compared (pointer_of n a) (pointer_of n c) ∙ ap (λ (x : Option Pointer). is_some x && is_some (pointer_of n c)) at ∙ ap (λ (x : Option Pointer). true && is_some x) too in
              pair_so b p q (subst (λ (x : Bool). AreRead a c x left right v w first behind) is_noted h) so at too

          by_null : (x y : Bool) → is_null c ≡ x → is_null a ≡ y →
              DoesAll n g sites (if x then null_said b (pointer_of n a) else if y then null_said b (pointer_of n c) else pair_said n b a c (pointer_of n a) (pointer_of n c)) (seen_with n g sites s behind) (seen_with n g sites s behind)
          by_null true y null other =
              null_said_so b (pointer_of n a) v w behind so
              (λ p at. (left_found (compares o (pointer_of n a) (pointer_of n c)) h p at, left_pointer (compares o (pointer_of n a) (pointer_of n c)) h fit null p at, defined_by left v h.left_value.0, no_number a left v p h.left_is at h.left_value.0))
          by_null false true other null =
              null_said_so b (pointer_of n c) w v behind turned
              (λ p at. (right_found (compares o (pointer_of n a) (pointer_of n c)) h p at, right_pointer (compares o (pointer_of n a) (pointer_of n c)) h fit null p at, defined_by right w h.right_value.0, no_number c right w p h.right_is at h.right_value.0))
          by_null false false other another = by_pair (pointer_of n a) (pointer_of n c) refl refl

      abbrev SaidOf : Bool → Option Pointer → Option Pointer → Type 0
      SaidOf b p q = DoesAll n g sites (if is_null c then null_said b p else if is_null a then null_said b q else pair_said n b a c p q) (seen_with n g sites s behind) (seen_with n g sites s behind)

      unequal_numbers : (b : Bool) → pointer_of n a ≡ None → pointer_of n c ≡ None → DoesAll n g sites (equality_said n b a c) (seen_with n g sites s behind) (seen_with n g sites s behind)
      unequal_numbers b at too = subst (λ (p : Option Pointer). SaidOf b p (pointer_of n c)) (sym at) (subst (λ (q : Option Pointer). SaidOf b None q) (sym too) (by_null (is_null c) (is_null a)))
        where
          by_null : (x y : Bool) → DoesAll n g sites (if x then null_said b None else if y then null_said b None else pair_said n b a c None None) (seen_with n g sites s behind) (seen_with n g sites s behind)
          by_null true y = refl
          by_null false true = refl
          by_null false false = refl

      no_pointer : (e : Expr) (u : Sort) (x : Value) (m : ℤ) → sort_of d e ≡ Some u → Holds n g sites s u x → x ≡ value.Int m → pointer_of n e ≡ None
      no_pointer e u x m is holds number = by_pointer (pointer_of n e) refl
        where
          by_pointer : (q : Option Pointer) → pointer_of n e ≡ q → pointer_of n e ≡ None
          by_pointer None at = at
          by_pointer (Some p) at = absurd (no_number e u x p is at holds m number)

      compared_so : (o : Oper) (b : Bool) → ((p q : Option Pointer) → compares o p q ≡ (is_some p && is_some q)) → AreRead a c (compares o (pointer_of n a) (pointer_of n c)) left right v w first behind → are_comparable left right ≡ true → Compared b v w →
          DoesAll n g sites (equality_said n b a c) (seen_with n g sites s behind) (seen_with n g sites s behind)
      compared_so o b compared h fit (pointers so) = equality_so o b compared h fit so
      compared_so o b compared h fit (numbers i j one two) = unequal_numbers b (no_pointer a left v i h.left_is h.left_value.0 one) (no_pointer c right w j h.right_is h.right_value.0 two)

      -- what a comparison says
      comparison_so : (o : Oper) (at : ℕ) (b : Bool) → AreRead a c (compares o (pointer_of n a) (pointer_of n c)) left right v w first behind → (t : Sort) → (combined o (judged d a) (judged d c)).value ≡ Some t → (binary o at v w >>= truth) ≡ Ok b →
          DoesAll n g sites (comparison_said n b o a c) (seen_with n g sites s behind) (seen_with n g sites s behind)
      comparison_so oper.Eq at b h t is says = compared_so oper.Eq b (λ p q. refl) h (comparable t is) (equal_so at b v w says)
        where
          comparable : (t : Sort) → (combined oper.Eq (judged d a) (judged d c)).value ≡ Some t → are_comparable left right ≡ true
          comparable t is = sides_fit (judged d a) (judged d c) left right t h.left_is h.right_is is
      comparison_so oper.Ne at b h t is says = compared_so oper.Ne (not b) (λ p q. refl) h (comparable t is) (unequal_so at b v w says)
        where
          comparable : (t : Sort) → (combined oper.Ne (judged d a) (judged d c)).value ≡ Some t → are_comparable left right ≡ true
          comparable t is = sides_fit (judged d a) (judged d c) left right t h.left_is h.right_is is
      comparison_so oper.Mul at b h t is says = refl
      comparison_so oper.Div at b h t is says = refl
      comparison_so oper.Rem at b h t is says = refl
      comparison_so oper.Add at b h t is says = refl
      comparison_so oper.Sub at b h t is says = refl
      comparison_so oper.Lt at b h t is says = refl
      comparison_so oper.Le at b h t is says = refl
      comparison_so oper.Gt at b h t is says = refl
      comparison_so oper.Ge at b h t is says = refl
      comparison_so oper.And at b h t is says = refl
      comparison_so oper.Or at b h t is says = refl

    -- tests (6.8.4.1)

    abbrev Tested : Expr → Bool → List Deed → Type 0
    Tested e b ds = (behind : List Value) × DoesAll n g sites (value_deeds n false e ++ ds) (seen_with n g sites s []) (seen_with n g sites s behind)

    plainly : (e : Expr) (b : Bool) (u : Sort) (v : Value) → sort_of d e ≡ Some u → eval s.slots s.objects e ≡ Ok v → Tested e b []
    plainly e b u v is at =
        let it = value_done n g sites s d same places typed e u false [] v is at in
        (it.0, done_append n g sites (value_deeds n false e) [] (seen_with n g sites s []) (seen_with n g sites s it.0) (seen_with n g sites s it.0) it.1 refl)

    by_pointer : (e : Expr) (b : Bool) (u : Sort) (v : Value) → sort_of d e ≡ Some u → eval s.slots s.objects e ≡ Ok v → truth v ≡ Ok b → Tested e b (null_said (not b) (pointer_of n e))
    by_pointer e b u v is at says =
        let it = value_done n g sites s d same places typed e u false [] v is at in
        let so = null_so (pointer_of n e) v b it.0 says (defined_by u v it.2.0) (λ p at. no_number e u v p is at it.2.0) (shown_finds n g sites s (pointer_of n e) false (length {A = Value} [] + notes (within n e)) it.0 v it.2.1) in
        (it.0, done_append n g sites (value_deeds n false e) (null_said (not b) (pointer_of n e)) (seen_with n g sites s []) (seen_with n g sites s it.0) (seen_with n g sites s it.0) it.1 so)

    by_sides : (e : Expr) (o : Oper) (a c : Expr) (at : ℕ) (b : Bool) (u : Sort) → look n e ≡ look_at n (Binary o a c at) → sort_at d (Binary o a c at) ≡ Some u →
        (eval s.slots s.objects a >>= λ v. eval s.slots s.objects c >>= binary o at v >>= truth) ≡ Ok b → Tested e b (comparison_said n b o a c)
    by_sides e o a c at b u opened is says =
        let types = operands_typed o (judged d a) (judged d c) u is in
        let noted = compares o (pointer_of n a) (pointer_of n c) in
        let one = then_ok (eval s.slots s.objects a) (λ v. eval s.slots s.objects c >>= binary o at v >>= truth) b says in
        let two = then_ok (eval s.slots s.objects c >>= binary o at one.0) truth b one.2 in
        let three = then_ok (eval s.slots s.objects c) (binary o at one.0) two.0 two.1 in
        let first = value_done n g sites s d same places typed a types.left noted [] one.0 types.left_is one.1 in
        let second = value_done n g sites s d same places typed c types.right noted first.0 three.0 types.right_is three.1 in
        let read : AreRead a c noted types.left types.right one.0 three.0 first.0 second.0 = record {
          left_is = types.left_is;
          right_is = types.right_is;
          left_done = first.1;
          right_done = second.1;
          left_value = first.2;
          right_value = second.2;
        } in
        let says_so : (binary o at one.0 three.0 >>= truth) ≡ Ok b = ap (λ (r : Result Value Stop). r >>= truth) three.2 ∙ two.2 in
        let so = comparison_so a c types.left types.right one.0 three.0 first.0 second.0 o at b read u is says_so in
        let reads = done_append n g sites (value_deeds n noted a) (value_deeds n noted c) (seen_with n g sites s []) (seen_with n g sites s first.0) (seen_with n g sites s second.0) first.1 second.1 in
        let plain : DoesAll n g sites (value_deeds n noted a ++ value_deeds n noted c ++ []) (seen_with n g sites s []) (seen_with n g sites s second.0) =
        subst (λ (ds : List Deed). DoesAll n g sites ds (seen_with n g sites s []) (seen_with n g sites s second.0)) (sym (append-nil (value_deeds n noted a ++ value_deeds n noted c))) reads in
        let own : DoesAll n g sites (value_deeds n false e) (seen_with n g sites s []) (seen_with n g sites s second.0) =
        subst (λ (k : Look). DoesAll n g sites (valued false k) (seen_with n g sites s []) (seen_with n g sites s second.0)) (sym opened) plain in
        (second.0, done_append n g sites (value_deeds n false e) (comparison_said n b o a c) (seen_with n g sites s []) (seen_with n g sites s second.0) (seen_with n g sites s second.0) own so)

    by_layer : (x : Expr-F Expr) (e : Expr) (b : Bool) (u : Sort) (v : Value) → look n e ≡ look_at n x → eval s.slots s.objects e ≡ eval_at s x → sort_of d e ≡ sort_at d x → sort_of d e ≡ Some u → eval s.slots s.objects e ≡ Ok v → truth v ≡ Ok b → Tested e b (tested_layer n b e x)
    by_layer (Var x at) e b u v opened evals sorts is value says = by_pointer e b u v is value says
    by_layer (Field a f at) e b u v opened evals sorts is value says = by_pointer e b u v is value says
    by_layer (Const c at) e b u v opened evals sorts is value says = plainly e b u v is value
    by_layer (Null at) e b u v opened evals sorts is value says = plainly e b u v is value
    by_layer (Deref a at) e b u v opened evals sorts is value says = plainly e b u v is value
    by_layer (Index a i at) e b u v opened evals sorts is value says = plainly e b u v is value
    by_layer (Unary o a at) e b u v opened evals sorts is value says = plainly e b u v is value
    by_layer (Binary o a c at) e b u v opened evals sorts is value says =
        by_sides e o a c at b u opened (sym sorts ∙ is)
        (regrouped (eval s.slots s.objects a) (eval s.slots s.objects c) (λ v w. binary o at v w) ∙ ap (λ (r : Result Value Stop). r >>= truth) (sym evals ∙ value) ∙ says)

    -- what a test says is so, behind its reads
    pub test_done : (e : Expr) (b : Bool) → is_some (sort_of d e) ≡ true → (eval s.slots s.objects e >>= truth) ≡ Ok b → Tested e b (tested n b e)
    test_done e b has_type says =
        let it = then_ok (eval s.slots s.objects e) truth b says in
        let u = some_of (sort_of d e) has_type in
        by_layer (out-Expr e) e b u.0 it.0 (look_opens n g sites s d same places typed e) (fold_out-Expr (Result Value Stop) (eval_layer s.slots s.objects) e) (sort_opens n d same places e) u.1 it.1 it.2
