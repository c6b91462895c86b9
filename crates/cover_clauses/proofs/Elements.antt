-- Elements of lists that are mapped, filtered and joined, and lists in which nothing stands twice.
use Rattle.std.proofs.Common.{◌≡◌, ◌≢◌, ℕ, zero, suc, ◌+◌, ◌<◌, ◌≤◌, ◌==◌, Bool, true, false, cond, List, [], ◌∷◌, ◌++◌, length, map, get_or, slice_get, Some, ⊎_elim, refl, ap, sym, subst, ◌∙◌, arith}
use Rattle.std.proofs.lemmas.Bool.{cases_eq, eq-eqb, eqb-true}
use Rattle.std.proofs.lemmas.List.Elements.{Contains-append_cases}
use Rattle.std.proofs.lemmas.Option.{slice_get_within, slice_get_cases, get_or_from_slice_get}
use Rattle.std.specs.List.{Contains, filter, range_with_len}
use Rattle.mf_set.specs.Numbers.{has as has_number, IsAscendingFrom}
use Rattle.mf_set.proofs.NumberLaws.{has_from_low}
use Rattle.cover_problem.proofs.Members.{any_at, any_from, at_first, at_later}
use Rattle.cover_clauses.specs.Clauses.{IsOnce, once_none, once_more}

-- elements

pub element : {A : Type 0} (xs : List A) (k : ℕ) → k < length xs → (x : A) × (slice_get xs k ≡ Some x)
element xs k inside = ⊎_elim (λ found. (found.0, found.2)) (λ out. absurd (omega (arith, out.0))) (slice_get_cases xs k).1

pub listed_at : {A : Type 0} (xs : List A) (k : ℕ) (x : A) → slice_get xs k ≡ Some x → Contains xs x
listed_at xs k x e = (k, slice_get_within xs k x e, get_or_from_slice_get xs k x x e)

module _ {A B : Type 0} where
  pub in_map : (f : A → B) (xs : List A) (x : A) → Contains xs x → Contains (map f xs) (f x)
  in_map f [] x (k, l, e) = absurd (omega (arith, l))
  in_map f (y ∷ ys) x (zero, l, e) = subst (λ z. Contains (map f (y ∷ ys)) (f z)) e (at_first (f y) (map f ys))
  in_map f (y ∷ ys) x (suc k, l, e) = at_later (f y) (f x) (map f ys) (in_map f ys x (k, omega (arith, l), e))

  pub of_map : (f : A → B) (xs : List A) (y : B) → Contains (map f xs) y → (x : A) × Contains xs x × (f x ≡ y)
  of_map f [] y (k, l, e) = absurd (omega (arith, l))
  of_map f (x ∷ xs) y (zero, l, e) = (x, at_first x xs, e)
  of_map f (x ∷ xs) y (suc k, l, e) = let r = of_map f xs y (k, omega (arith, l), e) in (r.0, at_later x r.0 xs r.1, r.2)

module _ {A : Type 0} where
  -- an element that passes
  pub record In (p : A → Bool) (xs : List A) (x : A) : Type 0 where
    pub listed : Contains xs x
    pub passes : p x ≡ true

  pub of_filter : (p : A → Bool) (xs : List A) (x : A) → Contains (filter p xs) x → In p xs x
  of_filter p [] x (k, l, e) = absurd (omega (arith, l))
  of_filter p (y ∷ ys) x h = by (p y) refl (λ c. of_filter p ys x c) h
    where
      by : (b : Bool) → p y ≡ b → (Contains (filter p ys) x → In p ys x) → Contains (cond b (y ∷ filter p ys) (filter p ys)) x → In p (y ∷ ys) x
      by true is later (zero, l, e) = record { listed = subst (λ z. Contains (y ∷ ys) z) e (at_first y ys); passes = subst (λ z. p z ≡ true) e is }
      by true is later (suc k, l, e) = let r = later (k, omega (arith, l), e) in record { listed = at_later y x ys r.listed; passes = r.passes }
      by false is later c = let r = later c in record { listed = at_later y x ys r.listed; passes = r.passes }

  pub in_filter : (p : A → Bool) (xs : List A) (x : A) → Contains xs x → p x ≡ true → Contains (filter p xs) x
  in_filter p [] x (k, l, e) is = absurd (omega (arith, l))
  in_filter p (y ∷ ys) x (zero, l, e) is =
      subst (λ b. Contains (cond b (y ∷ filter p ys) (filter p ys)) x) (sym (subst (λ z. p z ≡ true) (sym e) is)) (subst (λ z. Contains (y ∷ filter p ys) z) e (at_first y (filter p ys)))
  in_filter p (y ∷ ys) x (suc k, l, e) is =
      let later : Contains (filter p ys) x = in_filter p ys x (k, omega (arith, l), e) is in
      elim (p y) as (λ b. Contains (cond b (y ∷ filter p ys) (filter p ys)) x) [ true ↦ at_later y x (filter p ys) later | false ↦ later ]

pub in_range : (a n k : ℕ) → a ≤ k → k < a + n → Contains (range_with_len a n) k
in_range a zero k low high = absurd (omega arith)
in_range a (suc n) k low high =
    ⊎_elim
    (λ (e : a ≡ k). subst (λ j. Contains (range_with_len a (suc n)) j) e (at_first a (range_with_len (a + 1) n)))
    (λ (e : a ≢ k). at_later a k (range_with_len (a + 1) n) (in_range (a + 1) n k (omega arith) (omega arith)))
    (cases_eq a k)

pub of_has : (xs : List ℕ) (k : ℕ) → has_number xs k ≡ true → Contains xs k
of_has xs k h = let r = any_at (λ m. m == k) xs h in subst (Contains xs) (eqb-true r.0 k r.2) r.1

pub as_has : (xs : List ℕ) (k : ℕ) → Contains xs k → has_number xs k ≡ true
as_has xs k h = any_from (λ m. m == k) xs k h (eq-eqb k k refl)

-- nothing twice

module _ {A : Type 0} where
  pub once_at : (xs : List A) → IsOnce xs → (i j : ℕ) (x : A) → slice_get xs i ≡ Some x → slice_get xs j ≡ Some x → i ≡ j
  once_at [] h i j x a b = absurd (omega (arith, slice_get_within [] i x a))
  once_at (y ∷ ys) (once_more none h) zero zero x a b = refl
  once_at (y ∷ ys) (once_more none h) zero (suc j) x a b = let same : y ≡ x = cc in absurd (none (subst (λ z. Contains ys z) (sym same) (listed_at ys j x b)))
  once_at (y ∷ ys) (once_more none h) (suc i) zero x a b = let same : y ≡ x = cc in absurd (none (subst (λ z. Contains ys z) (sym same) (listed_at ys i x a)))
  once_at (y ∷ ys) (once_more none h) (suc i) (suc j) x a b = ap suc (once_at ys h i j x a b)

  pub once_append : (xs ys : List A) → IsOnce xs → IsOnce ys → ((x : A) → Contains xs x → Contains ys x → ⊥) → IsOnce (xs ++ ys)
  once_append [] ys h g apart = g
  once_append (x ∷ xs) ys (once_more none h) g apart =
      once_more
      (λ c. ⊎_elim (λ left. none left) (λ right. apart x (at_first x xs) right) (Contains-append_cases xs ys x c))
      (once_append xs ys h g (λ y l r. apart y (at_later x y xs l) r))

pub once_map : {A B : Type 0} (f : A → B) (xs : List A) → ((x y : A) → Contains xs x → Contains xs y → f x ≡ f y → x ≡ y) → IsOnce xs → IsOnce (map f xs)
once_map f [] one h = once_none
once_map f (x ∷ xs) one (once_more none h) =
    once_more
    (λ c. let r = of_map f xs (f x) c in none (subst (λ z. Contains xs z) (one r.0 x (at_later x r.0 xs r.1) (at_first x xs) r.2) r.1))
    (once_map f xs (λ y z a b. one y z (at_later x y xs a) (at_later x z xs b)) h)

-- numbers that ascend
pub once_ascending : (low : ℕ) (xs : List ℕ) → IsAscendingFrom low xs → IsOnce xs
once_ascending low [] up = once_none
once_ascending low (x ∷ xs) up =
    once_more
    (λ c. let above : suc x ≤ x = has_from_low (suc x) xs x up.1 (as_has xs x c) in omega (arith, above))
    (once_ascending (suc x) xs up.1)

-- and a list in which nothing stands twice is no longer than one that has all of it

module _ {A : Type 0} where
  abbrev Without : ℕ → List A → List A
  Without k [] = []
  Without zero (y ∷ ys) = ys
  Without (suc k) (y ∷ ys) = y ∷ Without k ys

  one_less : (k : ℕ) (ys : List A) → k < length ys → length ys ≡ suc (length (Without k ys))
  one_less k [] l = absurd (omega arith)
  one_less zero (y ∷ ys) l = refl
  one_less (suc k) (y ∷ ys) l = ap suc (one_less k ys (omega arith))

  kept : (k : ℕ) (ys : List A) (x z : A) → get_or ys k x ≡ x → Contains ys z → (z ≡ x → ⊥) → Contains (Without k ys) z
  kept k [] x z e (j, l, f) other = absurd (omega (arith, l))
  kept zero (y ∷ ys) x z e (zero, l, f) other = absurd (other (sym f ∙ e))
  kept zero (y ∷ ys) x z e (suc j, l, f) other = (j, omega (arith, l), f)
  kept (suc k) (y ∷ ys) x z e (zero, l, f) other = subst (λ w. Contains (y ∷ Without k ys) w) f (at_first y (Without k ys))
  kept (suc k) (y ∷ ys) x z e (suc j, l, f) other = at_later y z (Without k ys) (kept k ys x z e (j, omega (arith, l), f) other)

  pub once_fits : (xs ys : List A) → IsOnce xs → ((z : A) → Contains xs z → Contains ys z) → length xs ≤ length ys
  once_fits [] ys h all = omega arith
  once_fits (x ∷ xs) ys (once_more none h) all =
      let at = all x (at_first x xs) in
      let rest : length xs ≤ length (Without at.0 ys) = once_fits xs (Without at.0 ys) h (λ z c. kept at.0 ys x z at.2 (all z (at_later x z xs c)) (λ same. none (subst (λ w. Contains xs w) same c))) in
      let less : length ys ≡ suc (length (Without at.0 ys)) = one_less at.0 ys at.1 in
      omega (arith, rest, less)
