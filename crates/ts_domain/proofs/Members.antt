-- Tests of all and of any of a list, by its elements.
use Rattle.std.proofs.Common.{◌≡◌, ℕ, zero, suc, Bool, true, false, cond, List, [], ◌∷◌, ◌++◌, ◌&&◌, ◌||◌, refl, ap, sym, subst, ⊎_elim, arith}
use Rattle.std.proofs.lemmas.Bool.{and_parts, and_from, or_cases, or_left, or_right, false≢true}
use Rattle.std.proofs.lemmas.List.Elements.{Contains-append_cases, Contains-append_left, Contains-append_right}
use Rattle.std.specs.List.{Contains, flat_map, list_all, list_any}

module _ {A : Type 0} where
  pub at_first : (x : A) (xs : List A) → Contains (x ∷ xs) x
  at_first x xs = (0, omega arith, refl)

  pub at_later : (x y : A) (xs : List A) → Contains xs y → Contains (x ∷ xs) y
  at_later x y xs h = (suc h.0, omega (arith, h.1), h.2)

  pub all_at : (p : A → Bool) (xs : List A) → list_all p xs ≡ true → (x : A) → Contains xs x → p x ≡ true
  all_at p [] h x (k, l, e) = absurd (omega (arith, l))
  all_at p (y ∷ ys) h x (zero, l, e) = subst (λ z. p z ≡ true) e (and_parts (p y) (list_all p ys) h).0
  all_at p (y ∷ ys) h x (suc k, l, e) = all_at p ys (and_parts (p y) (list_all p ys) h).1 x (k, omega (arith, l), e)

  pub all_from : (p : A → Bool) (xs : List A) → ((x : A) → Contains xs x → p x ≡ true) → list_all p xs ≡ true
  all_from p [] h = refl
  all_from p (x ∷ xs) h = and_from (p x) (list_all p xs) (h x (at_first x xs)) (all_from p xs (λ y c. h y (at_later x y xs c)))

  pub any_at : (p : A → Bool) (xs : List A) → list_any p xs ≡ true → (x : A) × Contains xs x × (p x ≡ true)
  any_at p [] h = absurd (false≢true h)
  any_at p (x ∷ xs) h =
      ⊎_elim
      (λ here. (x, at_first x xs, here))
      (λ later. let r = any_at p xs later in (r.0, at_later x r.0 xs r.1, r.2))
      (or_cases (p x) (list_any p xs) h)

  pub any_from : (p : A → Bool) (xs : List A) (x : A) → Contains xs x → p x ≡ true → list_any p xs ≡ true
  any_from p [] x (k, l, e) h = absurd (omega (arith, l))
  any_from p (y ∷ ys) x (zero, l, e) h = or_left (p y) (list_any p ys) (subst (λ z. p z ≡ true) (sym e) h)
  any_from p (y ∷ ys) x (suc k, l, e) h = or_right (p y) (list_any p ys) (any_from p ys x (k, omega (arith, l), e) h)

module _ {A B : Type 0} where
  pub in_flat_map : (f : A → List B) (xs : List A) (x : A) (y : B) → Contains xs x → Contains (f x) y → Contains (flat_map f xs) y
  in_flat_map f [] x y (k, l, e) h = absurd (omega (arith, l))
  in_flat_map f (z ∷ zs) x y (zero, l, e) h = Contains-append_left (f z) (flat_map f zs) y (subst (λ w. Contains (f w) y) (sym e) h)
  in_flat_map f (z ∷ zs) x y (suc k, l, e) h = Contains-append_right (f z) (flat_map f zs) y (in_flat_map f zs x y (k, omega (arith, l), e) h)

  -- some part of the list has it
  pub record InPart (f : A → List B) (xs : List A) (y : B) : Type 0 where
    pub part : A
    pub listed : Contains xs part
    pub inside : Contains (f part) y

  pub of_flat_map : (f : A → List B) (xs : List A) (y : B) → Contains (flat_map f xs) y → InPart f xs y
  of_flat_map f [] y (k, l, e) = absurd (omega (arith, l))
  of_flat_map f (x ∷ xs) y h =
      ⊎_elim
      (λ here. record { part = x; listed = at_first x xs; inside = here })
      (λ later. let r = of_flat_map f xs y later in record { part = r.part; listed = at_later x r.part xs r.listed; inside = r.inside })
      (Contains-append_cases (f x) (flat_map f xs) y h)
