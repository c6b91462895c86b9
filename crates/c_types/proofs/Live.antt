-- The calls that are left while functions that nobody calls are taken away.
use Rattle.std.proofs.Common.{◌≡◌, ◌≢◌, ℕ, zero, suc, ◌+◌, ◌<◌, ◌≤◌, ◌==◌, Bool, true, false, cond, not, ◌||◌, List, [], ◌∷◌, ◌++◌, length, get_or, map, filter, take, Some, refl, sym, ap, subst, ◌∙◌, arith}
use Rattle.std.specs.Prelude.{count_by, nat_eq, slice_get}
use Rattle.std.specs.List.{All, Contains, IsDistinct, fold, list_any}
use Rattle.std.proofs.lemmas.Bool.{eqb-true, eqb-false, eq-eqb, ltb-true, ltb-false}
use Rattle.std.proofs.lemmas.List.{get_or_default, take_more}
use Rattle.std.proofs.lemmas.List.Elements.{All-contains, All-filter, All-from_recursion, All-map, All-weaker, Contains-append_right}
use Rattle.std.proofs.lemmas.List.Folds.{Any-from_list_any, list_any-append, list_any_at}
use Rattle.std.proofs.lemmas.List.Sums.{get_or-le-sum_by}
use Rattle.std.proofs.lemmas.Option.{get_or_from_slice_get}
use Rattle.std.proofs.lemmas.Map.Keys.{IsDistinct-head, IsDistinct-tail}
use Rattle.std.proofs.lemmas.Map.Steps.{length-le_from_distinct_below}
use Rattle.std.proofs.lemmas.Map.Views.{Contains-from_any}
use Rattle.c_tree.specs.Cycles.{IsCyclic, ExistIn}
use Rattle.c_types.specs.Peeling.{calls_to, callees_of, without_callers, IsCounted, IsPeeled, IsOwed, AreRows, AreZeros, is_positive, taken_call}
use Rattle.c_types.specs.declared.cycles.Peeling.{Peeling}
use Rattle.c_tree.specs.declared.control.UserCall.{UserCall}
use Rattle.c_tree.proofs.Filtered.{filter_from, filter_test, filter_keeps}
use Rattle.c_tree.proofs.Cyclic.{cyclic_among, cyclic_without, cyclic_called, first_call}
use Rattle.c_types.proofs.Peeled.{count-cons, fold_length, fold_counts, fold_zeros, fold_take}

-- What a count says of a list.

pub counted_one : {X : Type 0} (p : X → Bool) (xs : List X) (x : X) → Contains xs x → p x ≡ true → 1 ≤ count_by p xs
counted_one p xs x h passes =
    let least : cond (p (get_or xs h.0 x)) 1 0 ≤ count_by p xs = get_or-le-sum_by (λ y. cond (p y) 1 0) xs h.0 x h.1 in
    subst (λ b. cond b 1 0 ≤ count_by p xs) (ap p h.2 ∙ passes) least

found_step : {X : Type 0} (p : X → Bool) (y : X) (xs : List X) → (1 ≤ count_by p xs → (x : X) × Contains xs x × (p x ≡ true)) → (b : Bool) → p y ≡ b → 1 ≤ cond b 1 0 + count_by p xs → (x : X) × Contains (y ∷ xs) x × (p x ≡ true)
found_step p y xs rest true e h = (y, (zero, omega arith, refl), e)
found_step p y xs rest false e h =
    let one = rest (omega arith) in
    (one.0, Contains-append_right (y ∷ []) xs one.0 one.1, one.2)

pub found_one : {X : Type 0} (p : X → Bool) (xs : List X) → 1 ≤ count_by p xs → (x : X) × Contains xs x × (p x ≡ true)
found_one p [] h = let none : count_by p [] ≡ 0 = refl in absurd (omega arith)
found_one p (y ∷ xs) h = found_step p y xs (found_one p xs) (p y) refl (subst (λ n. 1 ≤ n) (count-cons p y xs) h)

-- One function more is taken away.

abbrev is_gone : List ℕ → ℕ → Bool
is_gone gone f = list_any (λ g. g == f) gone

split_cases : (g : ℕ) (c : UserCall) (a b d : Bool) (xs ys zs : List UserCall) → (b ≡ true → a ≡ false) → d ≡ (a || b)
    → calls_to g xs ≡ count_by (λ h. h == g) (map (λ (e : UserCall). e.callee) ys) + calls_to g zs
    → calls_to g (cond (not a) (c ∷ xs) xs) ≡ count_by (λ h. h == g) (map (λ (e : UserCall). e.callee) (cond b (c ∷ ys) ys)) + calls_to g (cond (not d) (c ∷ zs) zs)
split_cases g c true true d xs ys zs apart is h = absurd (let no = apart refl in cc)
split_cases g c true false d xs ys zs apart is h = rw is h
split_cases g c false true d xs ys zs apart is h =
    let left : calls_to g (c ∷ xs) ≡ cond (c.callee == g) 1 0 + calls_to g xs = count-cons (λ e. e.callee == g) c xs in
    let right : count_by (λ h. h == g) (c.callee ∷ map (λ (e : UserCall). e.callee) ys) ≡ cond (c.callee == g) 1 0 + count_by (λ h. h == g) (map (λ (e : UserCall). e.callee) ys) = count-cons (λ h. h == g) c.callee (map (λ (e : UserCall). e.callee) ys) in
    rw is (omega arith)
split_cases g c false false d xs ys zs apart is h =
    let left : calls_to g (c ∷ xs) ≡ cond (c.callee == g) 1 0 + calls_to g xs = count-cons (λ e. e.callee == g) c xs in
    let right : calls_to g (c ∷ zs) ≡ cond (c.callee == g) 1 0 + calls_to g zs = count-cons (λ e. e.callee == g) c zs in
    rw is (omega arith)

or_last : (a b : Bool) → (a || (b || false)) ≡ (a || b)
or_last true b = refl
or_last false true = refl
or_last false false = refl

flipped : (x y : ℕ) (b : Bool) → (y == x) ≡ b → (x == y) ≡ b
flipped x y true e = eq-eqb x y (sym (eqb-true y x e))
flipped x y false e = not_same (x == y) refl
  where
    not_same : (b : Bool) → (x == y) ≡ b → (x == y) ≡ false
    not_same true h = absurd (eqb-false y x e (sym (eqb-true x y h)))
    not_same false h = h

-- the calls that are left, without those of f, are those that are left when f is gone too
pub split_calls : (g f : ℕ) (gone : List ℕ) (calls : List UserCall) → is_gone gone f ≡ false
    → calls_to g (without_callers gone calls) ≡ count_by (λ h. h == g) (callees_of f calls) + calls_to g (without_callers (gone ++ f ∷ []) calls)
split_calls g f gone [] apart = refl
split_calls g f gone (c ∷ calls) apart =
    split_cases g c (is_gone gone c.caller) (c.caller == f) (is_gone (gone ++ f ∷ []) c.caller)
    (without_callers gone calls) (filter (λ (d : UserCall). d.caller == f) calls) (without_callers (gone ++ f ∷ []) calls)
    (λ e. ap (is_gone gone) (eqb-true c.caller f e) ∙ apart)
    (list_any-append (λ x. x == c.caller) gone (f ∷ []) ∙ or_last (is_gone gone c.caller) (f == c.caller) ∙ ap (λ b. is_gone gone c.caller || b) (flipped f c.caller (c.caller == f) refl))
    (split_calls g f gone calls apart)

-- The state when one function more is taken away.

distinct_step : (f g : ℕ) (b c : Bool) → nat_eq f g ≡ false → c ≡ false → (nat_eq f g || c) ≡ false
distinct_step f g b c h e = rw (h, e) refl

-- the function at place k is none of those before it
pub new_one : (fs : List ℕ) (k d : ℕ) → IsDistinct nat_eq fs → k < length fs → is_gone (take k fs) (get_or fs k d) ≡ false
new_one [] k d once below = absurd (omega arith)
new_one (f ∷ fs) zero d once below = refl
new_one (f ∷ fs) (suc k) d once below =
    let first : All (λ g. nat_eq f g ≡ false) fs = All-from_recursion (λ g. nat_eq f g ≡ false) fs (IsDistinct-head nat_eq f fs once) in
    distinct_step f (get_or fs k d) true (is_gone (take k fs) (get_or fs k d)) (first k d (omega arith)) (new_one fs k d (IsDistinct-tail nat_eq f fs once) (omega arith))

pub row_owed : (n : ℕ) (p : Peeling) (f : ℕ) (gone : List ℕ) (calls : List UserCall) → ExistIn n calls → is_gone gone f ≡ false → IsPeeled n p (without_callers gone calls) → IsOwed p.counts (callees_of f calls)
row_owed n p f gone calls exist new peeled =
    let long : length p.counts ≡ n = peeled.counts.functions in
    record {
      exist = All-map (λ g. g < length p.counts) (λ (c : UserCall). c.callee) (filter (λ (c : UserCall). c.caller == f) calls)
          (All-filter (λ (c : UserCall). c.caller == f) (λ c. c.callee < length p.counts) calls (All-weaker (λ (c : UserCall). (c.caller < n) × (c.callee < n)) (λ c. c.callee < length p.counts) (λ c h. let l = h.1 in omega arith) calls exist));
      counted = λ g h.
          let here : get_or p.counts g 0 ≡ calls_to g (without_callers gone calls) = peeled.counts.counted g (omega arith) in
          let split = split_calls g f gone calls new in
          omega arith;
    }

pub one_peeled : (n : ℕ) (p : Peeling) (f : ℕ) (gone : List ℕ) (calls : List UserCall) → ExistIn n calls → is_gone gone f ≡ false → IsPeeled n p (without_callers gone calls)
    → IsPeeled n (fold taken_call p (callees_of f calls)) (without_callers (gone ++ f ∷ []) calls)
one_peeled n p f gone calls exist new peeled =
    let owed = row_owed n p f gone calls exist new peeled in
    record {
      counts = record {
        functions = fold_length p (callees_of f calls) ∙ peeled.counts.functions;
        counted = λ g h.
            let here : get_or p.counts g 0 ≡ calls_to g (without_callers gone calls) = peeled.counts.counted g h in
            let split = split_calls g f gone calls new in
            let less : get_or (fold taken_call p (callees_of f calls)).counts g 0 + count_by (λ x. x == g) (callees_of f calls) ≡ get_or p.counts g 0 = fold_counts p (callees_of f calls) owed g in
            omega arith;
      };
      uncalled = fold_zeros p (callees_of f calls) owed peeled.uncalled;
    }

not_gone : (g f : ℕ) (gone : List ℕ) → is_gone gone g ≡ false → (g ≢ f) → is_gone (gone ++ f ∷ []) g ≡ false
not_gone g f gone h other = list_any-append (λ x. x == g) gone (f ∷ []) ∙ rw h (no_other (f == g) refl)
  where
    no_other : (b : Bool) → (f == g) ≡ b → (b || false) ≡ false
    no_other true e = absurd (other (sym (eqb-true f g e)))
    no_other false e = refl

not_true : (b : Bool) → not b ≡ true → b ≡ false
not_true true h = cc
not_true false h = refl

-- a cycle of the calls that are left stays when a function that nobody calls is taken away
pub cycle_left : (n : ℕ) (p : Peeling) (f : ℕ) (gone : List ℕ) (calls : List UserCall) → f < n → get_or p.counts f 0 ≡ 0 → IsPeeled n p (without_callers gone calls)
    → IsCyclic (without_callers gone calls) → IsCyclic (without_callers (gone ++ f ∷ []) calls)
cycle_left n p f gone calls below uncalled peeled =
    let live = without_callers gone calls in
    let none : calls_to f live ≡ 0 = sym (peeled.counts.counted f below) ∙ uncalled in
    cyclic_without live (without_callers (gone ++ f ∷ []) calls) f
    (λ c h other. filter_keeps (λ d. not (is_gone (gone ++ f ∷ []) d.caller)) calls c (filter_from (λ d. not (is_gone gone d.caller)) calls c h)
    (ap not (not_gone c.caller f gone (not_true (is_gone gone c.caller) (filter_test (λ d. not (is_gone gone d.caller)) calls c h)) other)))
    (λ c h e. let one : 1 ≤ calls_to f live = counted_one (λ d. d.callee == f) live c h (eq-eqb c.callee f e) in omega arith)

-- The end: every function that nobody calls is gone.

exists_here : (n : ℕ) (calls : List UserCall) (c : UserCall) → ExistIn n calls → Contains calls c → (c.caller < n) × (c.callee < n)
exists_here n calls c exist h = All-contains (λ d. (d.caller < n) × (d.callee < n)) calls c exist h

pub left_none : (n : ℕ) (p : Peeling) (gone : List ℕ) (calls : List UserCall) → ExistIn n calls → IsPeeled n p (without_callers gone calls) → ((f : ℕ) → f < n → get_or p.counts f 0 ≡ 0) → IsCyclic (without_callers gone calls) → ⊥
left_none n p gone calls exist peeled zeros cycle =
    let live = without_callers gone calls in
    let one = first_call cycle.1 in
    let below = (exists_here n calls one.0 exist (filter_from (λ d. not (is_gone gone d.caller)) calls one.0 one.1)).1 in
    let none : get_or p.counts one.0.callee 0 ≡ 0 = zeros one.0.callee below in
    let some : 1 ≤ calls_to one.0.callee live = counted_one (λ d. d.callee == one.0.callee) live one.0 one.1 (eq-eqb one.0.callee one.0.callee refl) in
    let is : get_or p.counts one.0.callee 0 ≡ calls_to one.0.callee live = peeled.counts.counted one.0.callee below in
    omega arith

gone_in : (f : ℕ) (gone : List ℕ) → Contains gone f → is_gone gone f ≡ true
gone_in f gone h = list_any_at (λ g. g == f) gone h.0 f h.1 (eq-eqb (get_or gone h.0 f) f h.2)

live_called : (n : ℕ) (p : Peeling) (calls : List UserCall) → ExistIn n calls → IsPeeled n p (without_callers p.uncalled calls)
    → (c : UserCall) → Contains (without_callers p.uncalled calls) c → (b : UserCall) × Contains (without_callers p.uncalled calls) b × (b.callee ≡ c.caller)
live_called n p calls exist peeled c h =
    let live = without_callers p.uncalled calls in
    let test : UserCall → Bool = λ d. not (is_gone p.uncalled d.caller) in
    let below = (exists_here n calls c exist (filter_from test calls c h)).0 in
    let here : is_gone p.uncalled c.caller ≡ false = not_true (is_gone p.uncalled c.caller) (filter_test test calls c h) in
    let long : length p.counts ≡ n = peeled.counts.functions in
    let some : get_or p.counts c.caller 0 ≢ 0 = λ zero.
    let gone : is_gone p.uncalled c.caller ≡ true = gone_in c.caller p.uncalled (peeled.uncalled.all c.caller (omega arith) zero) in
    cc in
    let is : get_or p.counts c.caller 0 ≡ calls_to c.caller live = peeled.counts.counted c.caller below in
    let one = found_one (λ (d : UserCall). d.callee == c.caller) live (omega arith) in
    (one.0, one.1, eqb-true one.0.callee c.caller one.2)

pub left_some : (n : ℕ) (p : Peeling) (calls : List UserCall) (f : ℕ) → ExistIn n calls → IsPeeled n p (without_callers p.uncalled calls) → f < n → 0 < get_or p.counts f 0 → IsCyclic calls
left_some n p calls f exist peeled below some =
    let live = without_callers p.uncalled calls in
    let test : UserCall → Bool = λ d. not (is_gone p.uncalled d.caller) in
    let is : get_or p.counts f 0 ≡ calls_to f live = peeled.counts.counted f below in
    let one = found_one (λ (d : UserCall). d.callee == f) live (omega arith) in
    cyclic_among live calls (filter_from test calls)
    (cyclic_called n live (λ c h. (exists_here n calls c exist (filter_from test calls c h)).0) (live_called n p calls exist peeled) one.0 one.1)

-- One turn, from the function at place k.

filter_all : {X : Type 0} (xs : List X) → filter (λ x. true) xs ≡ xs
filter_all [] = refl
filter_all (x ∷ xs) = ap (λ ys. x ∷ ys) (filter_all xs)

pub start_peeled : (n : ℕ) (p : Peeling) (calls : List UserCall) → IsCounted n p.counts calls → AreZeros p.counts p.uncalled → IsPeeled n p (without_callers (take 0 p.uncalled) calls)
start_peeled n p calls counted zeros = record { counts = subst (IsCounted n p.counts) (sym (filter_all calls)) counted; uncalled = zeros }

pub start_cyclic : (fs : List ℕ) (calls : List UserCall) → IsCyclic calls → IsCyclic (without_callers (take 0 fs) calls)
start_cyclic fs calls cycle = subst IsCyclic (sym (filter_all calls)) cycle

pub uncalled_few : (n : ℕ) (p : Peeling) (calls : List UserCall) → IsPeeled n p calls → length p.uncalled ≤ n
uncalled_few n p calls peeled =
    let long : length p.counts ≡ n = peeled.counts.functions in
    length-le_from_distinct_below p.uncalled n peeled.uncalled.once
    (λ q e. let z = (All-contains (λ f. (f < length p.counts) × (get_or p.counts f 0 ≡ 0)) p.uncalled q peeled.uncalled.zeros (Contains-from_any eqb-true q p.uncalled e)).0 in omega arith)

pub uncalled_here : (n : ℕ) (p : Peeling) (k : ℕ) (calls : List UserCall) → k < length p.uncalled → IsPeeled n p calls → (get_or p.uncalled k 0 < n) × (get_or p.counts (get_or p.uncalled k 0) 0 ≡ 0)
uncalled_here n p k calls below peeled =
    let zero = peeled.uncalled.zeros k 0 below in
    let long : length p.counts ≡ n = peeled.counts.functions in
    let first = zero.0 in
    (omega arith, zero.1)

pub turn_owed : (n : ℕ) (p : Peeling) (k : ℕ) (calls : List UserCall) → ExistIn n calls → k < length p.uncalled → IsPeeled n p (without_callers (take k p.uncalled) calls) → IsOwed p.counts (callees_of (get_or p.uncalled k 0) calls)
turn_owed n p k calls exist below peeled =
    row_owed n p (get_or p.uncalled k 0) (take k p.uncalled) calls exist (new_one p.uncalled k 0 peeled.uncalled.once below) peeled

turn_takes : (n : ℕ) (p : Peeling) (k : ℕ) (calls : List UserCall) → k < length p.uncalled → take (k + 1) (fold taken_call p (callees_of (get_or p.uncalled k 0) calls)).uncalled ≡ take k p.uncalled ++ get_or p.uncalled k 0 ∷ []
turn_takes n p k calls below = (fold_take p (callees_of (get_or p.uncalled k 0) calls) (k + 1) (omega arith)).0 ∙ take_more p.uncalled k 0 below

pub turn_within : (p : Peeling) (k : ℕ) (fs : List ℕ) → k < length p.uncalled → k + 1 ≤ length (fold taken_call p fs).uncalled
turn_within p k fs below = (fold_take p fs (k + 1) (omega arith)).1

pub turn_peeled : (n : ℕ) (p : Peeling) (k : ℕ) (calls : List UserCall) → ExistIn n calls → k < length p.uncalled → IsPeeled n p (without_callers (take k p.uncalled) calls)
    → IsPeeled n (fold taken_call p (callees_of (get_or p.uncalled k 0) calls)) (without_callers (take (k + 1) (fold taken_call p (callees_of (get_or p.uncalled k 0) calls)).uncalled) calls)
turn_peeled n p k calls exist below peeled =
    let f = get_or p.uncalled k 0 in
    subst (λ (gone : List ℕ). IsPeeled n (fold taken_call p (callees_of f calls)) (without_callers gone calls)) (sym (turn_takes n p k calls below))
    (one_peeled n p f (take k p.uncalled) calls exist (new_one p.uncalled k 0 peeled.uncalled.once below) peeled)

pub turn_cyclic : (n : ℕ) (p : Peeling) (k : ℕ) (calls : List UserCall) → k < length p.uncalled → IsPeeled n p (without_callers (take k p.uncalled) calls)
    → IsCyclic (without_callers (take k p.uncalled) calls) → IsCyclic (without_callers (take (k + 1) (fold taken_call p (callees_of (get_or p.uncalled k 0) calls)).uncalled) calls)
turn_cyclic n p k calls below peeled cycle =
    let f = get_or p.uncalled k 0 in
    let here = uncalled_here n p k (without_callers (take k p.uncalled) calls) below peeled in
    subst (λ (gone : List ℕ). IsCyclic (without_callers gone calls)) (sym (turn_takes n p k calls below))
    (cycle_left n p f (take k p.uncalled) calls here.0 here.1 peeled cycle)

pub some_left : (n : ℕ) (p : Peeling) (calls : List UserCall) → ExistIn n calls → IsPeeled n p (without_callers p.uncalled calls) → list_any is_positive p.counts ≡ true → IsCyclic calls
some_left n p calls exist peeled h =
    let one = Any-from_list_any is_positive p.counts h in
    let long : length p.counts ≡ n = peeled.counts.functions in
    let below : one.0 < length p.counts = one.2 in
    let here : get_or p.counts one.0 0 ≡ one.1 = get_or_default p.counts one.0 0 one.1 below ∙ one.3 in
    let positive : 0 < one.1 = ltb-true 0 one.1 one.4 in
    left_some n p calls one.0 exist peeled (omega arith) (omega arith)

pub none_left : (n : ℕ) (p : Peeling) (calls : List UserCall) → ExistIn n calls → IsPeeled n p (without_callers p.uncalled calls) → list_any is_positive p.counts ≡ false → IsCyclic (without_callers p.uncalled calls) → ⊥
none_left n p calls exist peeled h =
    left_none n p p.uncalled calls exist peeled (λ f below. zero_there (get_or p.counts f 0) (is_positive (get_or p.counts f 0)) refl (λ yes.
    let long : length p.counts ≡ n = peeled.counts.functions in
    let any : list_any is_positive p.counts ≡ true = list_any_at is_positive p.counts f 0 (omega arith) yes in
    cc))
  where
    zero_there : (k : ℕ) (b : Bool) → is_positive k ≡ b → (is_positive k ≡ true → ⊥) → k ≡ 0
    zero_there k true e never = absurd (never e)
    zero_there k false e never = let f = ltb-false 0 k e in omega arith

pub row_read : (n : ℕ) (rows : List (List ℕ)) (calls : List UserCall) (us : List ℕ) (k f : ℕ) (row slice : List ℕ) → AreRows n rows calls → f < n → slice_get us k ≡ Some f → slice_get rows f ≡ Some row → slice ≡ row → slice ≡ callees_of (get_or us k 0) calls
row_read n rows calls us k f row slice made below at read is =
    is ∙ sym (get_or_from_slice_get rows f row [] read) ∙ made.row f below ∙ ap (λ g. callees_of g calls) (sym (get_or_from_slice_get us k f 0 at))
