-- Where calls form no cycle, functions have ranks that fall along calls.
use Rattle.std.proofs.Common.{◌≡◌, ℕ, zero, suc, ◌+◌, ◌<◌, ◌≤◌, Bool, true, false, List, [], ◌∷◌, length, get_or, filter, nat_lt, ◌==◌, ◌&&◌, ◌||◌, true≢false, refl, sym, ap, subst, ◌∙◌, arith}
use Rattle.std.specs.Prelude.{nat_eq, if◌then◌else◌}
use Rattle.std.specs.List.{Contains, list_all, list_any}
use Rattle.std.proofs.lemmas.Bool.{eqb-true, eqb-false, eq-eqb, ltb-true, lt-ltb}
use Rattle.std.proofs.lemmas.Bool.Decides.{nat_tests}
use Rattle.std.proofs.lemmas.List.Elements.{All-contains, Contains-append_right}
use Rattle.std.proofs.lemmas.List.Folds.{list_all_at, list_any_at}
use Rattle.c_tree.specs.Cycles.{IsCyclic, ExistIn}
use Rattle.c_tree.specs.declared.control.UserCall.{UserCall}
use Rattle.c_tree.proofs.Cyclic.{cyclic_among, cyclic_called}
use Rattle.c_tree.proofs.Filtered.{filter_from, filter_keeps}

-- ranks of n functions that fall along calls
pub record HasRanks (n : ℕ) (calls : List UserCall) : Type 0 where
  pub rank : ℕ → ℕ
  pub falls : (c : UserCall) → Contains calls c → rank c.callee < rank c.caller
  pub few : (f : ℕ) → f < n → rank f < n

-- an element that passes a test

found_in : {X : Type 0} (p : X → Bool) (y : X) (xs : List X) (b : Bool) → p y ≡ b → (list_any p xs ≡ true → (x : X) × Contains xs x × (p x ≡ true)) → list_any p (y ∷ xs) ≡ true → (x : X) × Contains (y ∷ xs) x × (p x ≡ true)
found_in p y xs true e rest h = (y, (zero, omega arith, refl), e)
found_in p y xs false e rest h =
    let one = rest (subst (λ (b : Bool). (b || list_any p xs) ≡ true) e h) in
    (one.0, Contains-append_right (y ∷ []) xs one.0 one.1, one.2)

found : {X : Type 0} (p : X → Bool) (xs : List X) → list_any p xs ≡ true → (x : X) × Contains xs x × (p x ≡ true)
found p [] h = absurd cc
found p (y ∷ xs) h = found_in p y xs (p y) refl (found p xs) h

-- functions that nobody calls are taken away with their calls, again and again

-- whether one of the calls is of f
abbrev is_called : List UserCall → ℕ → Bool
is_called calls f = list_any (λ c. nat_eq c.callee f) calls

-- the calls by functions that are called
abbrev inner_calls : List UserCall → List UserCall
inner_calls calls = filter (λ c. is_called calls c.caller) calls

-- in how many rounds, of k, a function is called
abbrev level : ℕ → List UserCall → ℕ → ℕ
level zero calls f = 0
level (suc k) calls f = if is_called calls f then suc (level k (inner_calls calls) f) else 0

callee_called : (calls : List UserCall) (c : UserCall) → Contains calls c → is_called calls c.callee ≡ true
callee_called calls c h = list_any_at (λ d. nat_eq d.callee c.callee) calls h.0 c h.1 (ap (λ (d : UserCall). nat_eq d.callee c.callee) h.2 ∙ eq-eqb c.callee c.callee refl)

at_most : {X : Type 0} (x : X) (xs ys : List X) (b : Bool) → length ys ≤ length xs → length (if b then x ∷ ys else ys) ≤ length (x ∷ xs)
at_most x xs ys true h = omega arith
at_most x xs ys false h = omega arith

filter_le : {X : Type 0} (p : X → Bool) (xs : List X) → length (filter p xs) ≤ length xs
filter_le p [] = omega arith
filter_le p (x ∷ xs) = at_most x xs (filter p xs) (p x) (filter_le p xs)

fewer : {X : Type 0} (p : X → Bool) (x : X) (xs : List X) (b : Bool) → (list_all p xs ≡ false → length (filter p xs) < length xs) → (b && list_all p xs) ≡ false → length (if b then x ∷ filter p xs else filter p xs) < length (x ∷ xs)
fewer p x xs true rest h = let less : length (filter p xs) < length xs = rest h in omega arith
fewer p x xs false rest h = let few : length (filter p xs) ≤ length xs = filter_le p xs in omega arith

filter_less : {X : Type 0} (p : X → Bool) (xs : List X) → list_all p xs ≡ false → length (filter p xs) < length xs
filter_less p [] h = absurd cc
filter_less p (x ∷ xs) h = fewer p x xs (p x) (filter_less p xs) h

pub all_at : {X : Type 0} (p : X → Bool) (xs : List X) (x : X) → list_all p xs ≡ true → Contains xs x → p x ≡ true
all_at p xs x h one = by_test (p (get_or xs one.0 x)) refl
  where
    by_test : (b : Bool) → p (get_or xs one.0 x) ≡ b → p x ≡ true
    by_test true e = sym (ap p one.2) ∙ e
    by_test false e = absurd (true≢false (sym h ∙ list_all_at p xs one.0 x one.1 e))

-- all callers are among the first n functions
abbrev Callers : ℕ → List UserCall → Type 0
Callers n calls = (c : UserCall) → Contains calls c → c.caller < n

-- where there are calls and no cycle, some caller isn't called
some_uncalled : (n : ℕ) (calls : List UserCall) → Callers n calls → (IsCyclic calls → ⊥) → (c : UserCall) → Contains calls c → list_all (λ d. is_called calls d.caller) calls ≡ false
some_uncalled n calls within none c h = by_test (list_all (λ d. is_called calls d.caller) calls) refl
  where
    by_test : (b : Bool) → list_all (λ d. is_called calls d.caller) calls ≡ b → b ≡ false
    by_test false e = refl
    by_test true e = absurd (none (cyclic_called n calls within (λ d k.
        let caller = found (λ b. nat_eq b.callee d.caller) calls (all_at (λ b. is_called calls b.caller) calls d e k) in
        (caller.0, caller.1, eqb-true caller.0.callee d.caller caller.2)) c h))

inner_from : (calls : List UserCall) (c : UserCall) → Contains (inner_calls calls) c → Contains calls c
inner_from calls = filter_from (λ c. is_called calls c.caller) calls

inner_acyclic : (calls : List UserCall) → (IsCyclic calls → ⊥) → IsCyclic (inner_calls calls) → ⊥
inner_acyclic calls none cycle = none (cyclic_among (inner_calls calls) calls (inner_from calls) cycle)

-- a callee is called in more rounds than its caller

later : (k : ℕ) (calls : List UserCall) (f g : ℕ) (b : Bool) → (b ≡ true → level k (inner_calls calls) f < level k (inner_calls calls) g) → (if b then suc (level k (inner_calls calls) f) else 0) < suc (level k (inner_calls calls) g)
later k calls f g true rest = let less : level k (inner_calls calls) f < level k (inner_calls calls) g = rest refl in omega arith
later k calls f g false rest = omega arith

level_rises : (n k : ℕ) (calls : List UserCall) → length calls ≤ k → Callers n calls → (IsCyclic calls → ⊥) → (c : UserCall) → Contains calls c → level k calls c.caller < level k calls c.callee
level_rises n zero calls few within none c h = let some = h.1 in absurd (omega arith)
level_rises n (suc k) calls few within none c h =
    let less : length (inner_calls calls) < length calls = filter_less (λ d. is_called calls d.caller) calls (some_uncalled n calls within none c h) in
    subst (λ (b : Bool). level (suc k) calls c.caller < (if b then suc (level k (inner_calls calls) c.callee) else 0)) (sym (callee_called calls c h))
    (later k calls c.caller c.callee (is_called calls c.caller)
    (λ e. level_rises n k (inner_calls calls) (omega arith) (λ d m. within d (inner_from calls d m)) (inner_acyclic calls none) c (filter_keeps (λ d. is_called calls d.caller) calls c h e)))

-- how many numbers below n pass a test

abbrev as_number : Bool → ℕ
as_number true = 1
as_number false = 0

abbrev count_below : (ℕ → Bool) → ℕ → ℕ
count_below p zero = 0
count_below p (suc n) = as_number (p n) + count_below p n

one_le : (a b : Bool) → (a ≡ true → b ≡ true) → as_number a ≤ as_number b
one_le true b h = rw (h refl) (omega arith)
one_le false true h = omega arith
one_le false false h = omega arith

count_le : (p q : ℕ → Bool) → ((k : ℕ) → p k ≡ true → q k ≡ true) → (n : ℕ) → count_below p n ≤ count_below q n
count_le p q more zero = omega arith
count_le p q more (suc n) =
    let one : as_number (p n) ≤ as_number (q n) = one_le (p n) (q n) (more n) in
    let rest : count_below p n ≤ count_below q n = count_le p q more n in
    omega arith

-- q passes one number more

one_more : (p q : ℕ → Bool) (n k : ℕ) → k < suc n → count_below p n ≤ count_below q n → (k < n → count_below p n < count_below q n) → p k ≡ false → q k ≡ true → (p n ≡ true → q n ≡ true) → (b : Bool) → (k == n) ≡ b → count_below p (suc n) < count_below q (suc n)
one_more p q n k within few rest fails passes more true e =
    let same : k ≡ n = eqb-true k n e in
    let left : as_number (p n) ≡ 0 = ap as_number (ap p (sym same) ∙ fails) in
    let right : as_number (q n) ≡ 1 = ap as_number (ap q (sym same) ∙ passes) in
    omega arith
one_more p q n k within few rest fails passes more false e =
    let other = eqb-false k n e in
    let less : count_below p n < count_below q n = rest (omega arith) in
    let one : as_number (p n) ≤ as_number (q n) = one_le (p n) (q n) more in
    omega arith

count_less : (p q : ℕ → Bool) → ((k : ℕ) → p k ≡ true → q k ≡ true) → (n k : ℕ) → k < n → p k ≡ false → q k ≡ true → count_below p n < count_below q n
count_less p q more zero k below fails passes = absurd (omega arith)
count_less p q more (suc n) k below fails passes =
    one_more p q n k below (count_le p q more n) (λ less. count_less p q more n k less fails passes) fails passes (more n) (k == n) refl

count_all : (n : ℕ) → count_below (λ k. true) n ≡ n
count_all zero = refl
count_all (suc n) = let rest : count_below (λ k. true) n ≡ n = count_all n in omega arith

not_less : (n : ℕ) → nat_lt n n ≡ false
not_less n = grind (arith, nat_tests)

-- the rank of a function: how many of n functions are called in more rounds
pub ranks_of : (n : ℕ) (calls : List UserCall) → ExistIn n calls → (IsCyclic calls → ⊥) → HasRanks n calls
ranks_of n calls exist none =
    let round = level (length calls) calls in
    let within = All-contains (λ (c : UserCall). (c.caller < n) × (c.callee < n)) calls in
    record {
      rank = λ f. count_below (λ g. nat_lt (round f) (round g)) n;
      falls = λ c h.
          let rises : round c.caller < round c.callee = level_rises n (length calls) calls (omega arith) (λ d k. (within d exist k).0) none c h in
          count_less (λ g. nat_lt (round c.callee) (round g)) (λ g. nat_lt (round c.caller) (round g)) (λ k e. let more = ltb-true (round c.callee) (round k) e in lt-ltb (round c.caller) (round k) (omega arith)) n c.callee
          (within c exist h).1 (not_less (round c.callee)) (lt-ltb (round c.caller) (round c.callee) rises);
      few = λ f below.
          subst (λ (m : ℕ). count_below (λ g. nat_lt (round f) (round g)) n < m) (count_all n)
          (count_less (λ g. nat_lt (round f) (round g)) (λ g. true) (λ k e. refl) n f below (not_less (round f)) refl);
    }
