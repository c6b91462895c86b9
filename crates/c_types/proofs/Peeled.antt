-- What taking calls away does to the counts, and to the list of the functions that nobody calls.
use Rattle.std.proofs.Common.{◌≡◌, ◌≢◌, ℕ, ◌+◌, ◌-◌, ◌<◌, ◌≤◌, ◌==◌, Bool, true, false, cond, List, [], ◌∷◌, ◌++◌, length, get_or, set, take, refl, sym, ap, subst, ◌∙◌, arith, length-append, ⊎_elim, inl, inr, ◌⊎◌}
use Rattle.std.specs.Prelude.{count_by, nat_eq}
use Rattle.std.specs.List.{Contains, fold, list_any}
use Rattle.std.proofs.lemmas.Bool.{eqb-true, eqb-false, eq-eqb}
use Rattle.std.proofs.lemmas.Cmp.{nat_eq_equiv}
use Rattle.std.proofs.lemmas.List.{length-set, get_or-set_other, take-append-le}
use Rattle.std.proofs.lemmas.List.Elements.{All-head, All-tail, All-weaker, All-push, All-contains, Contains-append_left, Contains-push}
use Rattle.std.proofs.lemmas.List.Sums.{sum_by-cons}
use Rattle.std.proofs.lemmas.Grind.{get_or-set_at}
use Rattle.std.proofs.lemmas.Map.Keys.{IsDistinct-push}
use Rattle.std.proofs.lemmas.Map.Views.{Contains-from_any}
use Rattle.c_types.specs.Peeling.{IsOwed, AreZeros, taken_call}
use Rattle.c_types.specs.declared.cycles.Peeling.{Peeling}

pub count-cons : {X : Type 0} (p : X → Bool) (x : X) (xs : List X) → count_by p (x ∷ xs) ≡ cond (p x) 1 0 + count_by p xs
count-cons p x xs = sum_by-cons (λ y. cond (p y) 1 0) x xs

pub owed_first : (counts : List ℕ) (f : ℕ) (fs : List ℕ) → IsOwed counts (f ∷ fs) → (f < length counts) × (0 < get_or counts f 0)
owed_first counts f fs owed =
    let within : f < length counts = All-head (λ g. g < length counts) f fs owed.exist in
    let one : count_by (λ g. g == f) (f ∷ fs) ≡ 1 + count_by (λ g. g == f) fs = count-cons (λ g. g == f) f fs ∙ ap (λ b. cond b 1 0 + count_by (λ g. g == f) fs) (eq-eqb f f refl) in
    let enough : count_by (λ g. g == f) (f ∷ fs) ≤ get_or counts f 0 = owed.counted f within in
    (within, omega arith)

-- one call less of f, and the same of the others
less_cases : (counts : List ℕ) (f g : ℕ) → f < length counts → 0 < get_or counts f 0 → (b : Bool) → (f == g) ≡ b → get_or (set counts f (get_or counts f 0 - 1)) g 0 + cond b 1 0 ≡ get_or counts g 0
less_cases counts f g within called true e =
    let same : f ≡ g = eqb-true f g e in
    let here : get_or (set counts f (get_or counts f 0 - 1)) g 0 ≡ get_or counts f 0 - 1 = get_or-set_at counts f g (get_or counts f 0 - 1) 0 (sym same) within in
    let there : get_or counts f 0 ≡ get_or counts g 0 = ap (λ h. get_or counts h 0) same in
    omega arith
less_cases counts f g within called false e =
    let here : get_or (set counts f (get_or counts f 0 - 1)) g 0 ≡ get_or counts g 0 = get_or-set_other counts f g (get_or counts f 0 - 1) 0 (λ h. eqb-false f g e (sym h)) in
    omega arith

pub one_less : (p : Peeling) (f g : ℕ) → f < length p.counts → 0 < get_or p.counts f 0 → get_or (taken_call p f).counts g 0 + cond (f == g) 1 0 ≡ get_or p.counts g 0
one_less p f g within called = less_cases p.counts f g within called (f == g) refl

pub same_length : (p : Peeling) (f : ℕ) → length (taken_call p f).counts ≡ length p.counts
same_length p f = length-set p.counts f (get_or p.counts f 0 - 1)

pub owed_rest : (p : Peeling) (f : ℕ) (fs : List ℕ) → IsOwed p.counts (f ∷ fs) → IsOwed (taken_call p f).counts fs
owed_rest p f fs owed =
    let first = owed_first p.counts f fs owed in
    let long = same_length p f in
    record {
      exist = All-weaker (λ g. g < length p.counts) (λ g. g < length (taken_call p f).counts) (λ g h. omega arith) fs (All-tail (λ g. g < length p.counts) f fs owed.exist);
      counted = λ g h.
          let less : get_or (taken_call p f).counts g 0 + cond (f == g) 1 0 ≡ get_or p.counts g 0 = one_less p f g first.0 first.1 in
          let enough : count_by (λ x. x == g) (f ∷ fs) ≤ get_or p.counts g 0 = owed.counted g (omega arith) in
          let split : count_by (λ x. x == g) (f ∷ fs) ≡ cond (f == g) 1 0 + count_by (λ x. x == g) fs = count-cons (λ x. x == g) f fs in
          omega arith;
    }

-- the counts lose the calls that are taken away
pub fold_length : (p : Peeling) (fs : List ℕ) → length (fold taken_call p fs).counts ≡ length p.counts
fold_length p [] = refl
fold_length p (f ∷ fs) = fold_length (taken_call p f) fs ∙ same_length p f

pub fold_counts : (p : Peeling) (fs : List ℕ) → IsOwed p.counts fs → (g : ℕ) → get_or (fold taken_call p fs).counts g 0 + count_by (λ f. f == g) fs ≡ get_or p.counts g 0
fold_counts p [] owed g = let none : count_by (λ f. f == g) [] ≡ 0 = refl in omega arith
fold_counts p (f ∷ fs) owed g =
    let first = owed_first p.counts f fs owed in
    let rest : get_or (fold taken_call (taken_call p f) fs).counts g 0 + count_by (λ x. x == g) fs ≡ get_or (taken_call p f).counts g 0 = fold_counts (taken_call p f) fs (owed_rest p f fs owed) g in
    let less : get_or (taken_call p f).counts g 0 + cond (f == g) 1 0 ≡ get_or p.counts g 0 = one_less p f g first.0 first.1 in
    let split : count_by (λ x. x == g) (f ∷ fs) ≡ cond (f == g) 1 0 + count_by (λ x. x == g) fs = count-cons (λ x. x == g) f fs in
    omega arith

-- the list of functions that nobody calls only grows
one_take : (p : Peeling) (f k : ℕ) (b : Bool) → k ≤ length p.uncalled → (take k (cond b (p.uncalled ++ f ∷ []) p.uncalled) ≡ take k p.uncalled) × (k ≤ length (cond b (p.uncalled ++ f ∷ []) p.uncalled))
one_take p f k true h = (take-append-le k p.uncalled (f ∷ []) h, omega (arith, length-append p.uncalled (f ∷ [])))
one_take p f k false h = (refl, h)

pub fold_take : (p : Peeling) (fs : List ℕ) (k : ℕ) → k ≤ length p.uncalled → (take k (fold taken_call p fs).uncalled ≡ take k p.uncalled) × (k ≤ length (fold taken_call p fs).uncalled)
fold_take p [] k h = (refl, h)
fold_take p (f ∷ fs) k h =
    let one = one_take p f k (get_or p.counts f 0 - 1 == 0) h in
    let rest = fold_take (taken_call p f) fs k one.1 in
    (rest.0 ∙ one.0, rest.1)

-- a function that is called is not in the list of zeros
not_zero : (counts found : List ℕ) (f : ℕ) (b : Bool) → list_any (nat_eq f) found ≡ b → AreZeros counts found → 0 < get_or counts f 0 → b ≡ false
not_zero counts found f true e zeros called =
    let zero = (All-contains (λ g. (g < length counts) × (get_or counts g 0 ≡ 0)) found f zeros.zeros (Contains-from_any eqb-true f found e)).1 in
    absurd (omega arith)
not_zero counts found f false e zeros called = refl

still_zero : (counts : List ℕ) (f g n : ℕ) → 0 < get_or counts f 0 → (g < length counts) × (get_or counts g 0 ≡ 0) → (g < length (set counts f n)) × (get_or (set counts f n) g 0 ≡ 0)
still_zero counts f g n called zero =
    let apart : g ≢ f = λ e. let same : get_or counts g 0 ≡ get_or counts f 0 = ap (λ h. get_or counts h 0) e in let z = zero.1 in omega arith in
    (let w = zero.0 in omega (arith, length-set counts f n), get_or-set_other counts f g n 0 apart ∙ zero.1)

-- a place of zero now was one before, or is f
was_zero : (counts found : List ℕ) (f g n : ℕ) → AreZeros counts found → g < length (set counts f n) → get_or (set counts f n) g 0 ≡ 0 → (b : Bool) → (g == f) ≡ b → Contains found g ⊎ (g ≡ f)
was_zero counts found f g n zeros within zero true e = inr (eqb-true g f e)
was_zero counts found f g n zeros within zero false e =
    inl (zeros.all g (omega (arith, length-set counts f n)) (sym (get_or-set_other counts f g n 0 (eqb-false g f e)) ∙ zero))

zero_cases : (counts found : List ℕ) (f n : ℕ) → f < length counts → 0 < get_or counts f 0 → AreZeros counts found → (b : Bool) → (n == 0) ≡ b → AreZeros (set counts f n) (cond b (found ++ f ∷ []) found)
zero_cases counts found f n within called zeros true e =
    let old = All-weaker (λ g. (g < length counts) × (get_or counts g 0 ≡ 0)) (λ g. (g < length (set counts f n)) × (get_or (set counts f n) g 0 ≡ 0)) (λ g z. still_zero counts f g n called z) found zeros.zeros in
    let here : get_or (set counts f n) f 0 ≡ 0 = get_or-set_at counts f f n 0 refl within ∙ eqb-true n 0 e in
    record {
      zeros = All-push (λ g. (g < length (set counts f n)) × (get_or (set counts f n) g 0 ≡ 0)) found f old (omega (arith, length-set counts f n), here);
      all = λ g below zero. ⊎_elim
          (λ (h : Contains found g). Contains-append_left found (f ∷ []) g h)
          (λ (h : g ≡ f). subst (Contains (found ++ f ∷ [])) (sym h) (Contains-push found f))
          (was_zero counts found f g n zeros below zero (g == f) refl);
      once = IsDistinct-push nat_eq_equiv found f zeros.once (not_zero counts found f (list_any (nat_eq f) found) refl zeros called);
    }
zero_cases counts found f n within called zeros false e =
    let old = All-weaker (λ g. (g < length counts) × (get_or counts g 0 ≡ 0)) (λ g. (g < length (set counts f n)) × (get_or (set counts f n) g 0 ≡ 0)) (λ g z. still_zero counts f g n called z) found zeros.zeros in
    record {
      zeros = old;
      all = λ g below zero. ⊎_elim
          (λ (h : Contains found g). h)
          (λ (h : g ≡ f).
          let some : get_or (set counts f n) g 0 ≡ n = get_or-set_at counts f g n 0 h within in
          absurd (eqb-false n 0 e (sym some ∙ zero)))
          (was_zero counts found f g n zeros below zero (g == f) refl);
      once = zeros.once;
    }

pub fold_zeros : (p : Peeling) (fs : List ℕ) → IsOwed p.counts fs → AreZeros p.counts p.uncalled → AreZeros (fold taken_call p fs).counts (fold taken_call p fs).uncalled
fold_zeros p [] owed zeros = zeros
fold_zeros p (f ∷ fs) owed zeros =
    let first = owed_first p.counts f fs owed in
    let n = get_or p.counts f 0 - 1 in
    fold_zeros (taken_call p f) fs (owed_rest p f fs owed) (zero_cases p.counts p.uncalled f n first.0 first.1 zeros (n == 0) refl)
