-- Sorted lists without repeats: each element stands before the next, and none is lost.
use Rattle.std.proofs.Common.{◌≡◌, zero, suc, ◌+◌, Bool, true, false, cond, List, [], ◌∷◌, get_or, refl, ap, sym, ◌∙◌, arith}
use Rattle.std.proofs.lemmas.Bool.{true≢false}
use Rattle.std.specs.Cmp.{IsTotalOrder, alike_right}
use Rattle.std.specs.List.{Contains, dedup, dedup_from}
use Rattle.std.specs.List.Sorted.{IsSorted}
use Rattle.std.specs.Ordering.{is_eq, is_lt, ordering_reverse}
use Rattle.std.specs.declared.cmp.Ordering.{Ordering}
use Rattle.std.specs.declared.cmp.Ordering.TheVariants.{Less, Equal, Greater}
use Rattle.ts_domain.proofs.Members.{at_later}

module _ {X : Type 0} (R : X → X → Ordering) where
  abbrev same : X → X → Bool
  same x y = is_eq (R x y)

  -- none is less than the one before it
  abbrev pub NoLess : List X → Type 0
  NoLess [] = Unit {0}
  NoLess (x ∷ []) = Unit {0}
  NoLess (x ∷ y ∷ ys) = (is_lt (R y x) ≡ false) × NoLess (y ∷ ys)

  -- each is less than the next
  abbrev pub Rises : List X → Type 0
  Rises [] = Unit {0}
  Rises (x ∷ []) = Unit {0}
  Rises (x ∷ y ∷ ys) = (R x y ≡ Less) × Rises (y ∷ ys)

  pub no_less : (xs : List X) → IsSorted R xs → NoLess xs
  no_less [] h = tt
  no_less (x ∷ []) h = tt
  no_less (x ∷ y ∷ ys) h = (
    h 0 x (omega arith) (omega arith),
    no_less (y ∷ ys) (λ k d l m.
        let on : suc (k + 1) ≡ suc k + 1 = omega arith in
        ap (λ i. is_lt (R (get_or (x ∷ y ∷ ys) i d) (get_or (y ∷ ys) k d))) on ∙ h (suc k) d (omega arith) (omega arith)),
  )

  -- the first one stays
  front_by : (b : Bool) (k x y : X) (ys : List X) → R k x ≡ Less → (Rises (dedup_from same x ys) → Rises (k ∷ dedup_from same x ys)) → Rises (cond b (dedup_from same x ys) (x ∷ dedup_from same y ys)) → Rises (k ∷ cond b (dedup_from same x ys) (x ∷ dedup_from same y ys))
  front_by true k x y ys less on h = on h
  front_by false k x y ys less on h = (less, h)

  front : (k x : X) (xs : List X) → R k x ≡ Less → Rises (dedup_from same x xs) → Rises (k ∷ dedup_from same x xs)
  front k x [] less h = (less, tt)
  front k x (y ∷ ys) less h = front_by (same y x) k x y ys less (λ r. front k x ys less r) h

  module _ (o : IsTotalOrder R) where
    -- an equal first element
    replaced : (k x : X) (xs : List X) → R x k ≡ Equal → NoLess (x ∷ xs) → NoLess (k ∷ xs)
    replaced k x [] e h = tt
    replaced k x (y ∷ ys) e h = (ap is_lt (sym (alike_right o x k y e)) ∙ h.0, h.1)

    rises_by : (r : Ordering) (k x : X) (xs : List X) → R x k ≡ r → is_lt r ≡ false → NoLess (x ∷ xs) → (NoLess (k ∷ xs) → Rises (dedup_from same k xs)) → (NoLess (x ∷ xs) → Rises (dedup_from same x xs))
        → Rises (cond (is_eq r) (dedup_from same k xs) (k ∷ dedup_from same x xs))
    rises_by Less k x xs e l h f g = absurd (true≢false l)
    rises_by Equal k x xs e l h f g = f (replaced k x xs e h)
    rises_by Greater k x xs e l h f g = front k x xs (o.antisymm k x ∙ ap ordering_reverse e) (g h)

    rises : (k : X) (xs : List X) → NoLess (k ∷ xs) → Rises (dedup_from same k xs)
    rises k [] h = tt
    rises k (x ∷ xs) h = rises_by (R x k) k x xs refl h.0 h.1 (rises k xs) (rises x xs)

    pub deduped_rises : (xs : List X) → IsSorted R xs → Rises (dedup same xs)
    deduped_rises [] h = tt
    deduped_rises (x ∷ xs) h = rises x xs (no_less (x ∷ xs) h)

  -- members

  skip : (k x z : X) (xs : List X) → Contains (k ∷ xs) z → Contains (k ∷ x ∷ xs) z
  skip k x z xs (zero, l, e) = (0, omega arith, e)
  skip k x z xs (suc i, l, e) = (suc (suc i), omega (arith, l), e)

  kept_by : (b : Bool) (k x z : X) (xs : List X) → (Contains (dedup_from same k xs) z → Contains (k ∷ xs) z) → (Contains (dedup_from same x xs) z → Contains (x ∷ xs) z)
      → Contains (cond b (dedup_from same k xs) (k ∷ dedup_from same x xs)) z → Contains (k ∷ x ∷ xs) z
  kept_by true k x z xs f g c = skip k x z xs (f c)
  kept_by false k x z xs f g (zero, l, e) = (0, omega arith, e)
  kept_by false k x z xs f g (suc i, l, e) = at_later k z (x ∷ xs) (g (i, omega (arith, l), e))

  kept_from : (k z : X) (xs : List X) → Contains (dedup_from same k xs) z → Contains (k ∷ xs) z
  kept_from k z [] c = c
  kept_from k z (x ∷ xs) c = kept_by (same x k) k x z xs (kept_from k z xs) (kept_from x z xs) c

  -- what is left was there
  pub kept : (xs : List X) (z : X) → Contains (dedup same xs) z → Contains xs z
  kept [] z c = c
  kept (x ∷ xs) z c = kept_from x z xs c

  still_by : (r : Ordering) (k x z : X) (xs : List X) → (r ≡ Equal → x ≡ k) → (Contains (k ∷ xs) z → Contains (dedup_from same k xs) z) → (Contains (x ∷ xs) z → Contains (dedup_from same x xs) z)
      → Contains (k ∷ x ∷ xs) z → Contains (cond (is_eq r) (dedup_from same k xs) (k ∷ dedup_from same x xs)) z
  still_by Equal k x z xs one f g (zero, l, e) = f (0, omega arith, e)
  still_by Equal k x z xs one f g (suc zero, l, e) = f (0, omega arith, sym (one refl) ∙ e)
  still_by Equal k x z xs one f g (suc (suc i), l, e) = f (suc i, omega (arith, l), e)
  still_by Less k x z xs one f g (zero, l, e) = (0, omega arith, e)
  still_by Less k x z xs one f g (suc i, l, e) = at_later k z (dedup_from same x xs) (g (i, omega (arith, l), e))
  still_by Greater k x z xs one f g (zero, l, e) = (0, omega arith, e)
  still_by Greater k x z xs one f g (suc i, l, e) = at_later k z (dedup_from same x xs) (g (i, omega (arith, l), e))

  -- equal elements are one
  module _ (P : X → Type 0) (one : (x y : X) → P x → P y → R x y ≡ Equal → x ≡ y) where
    still_from : (k z : X) (xs : List X) → ((y : X) → Contains (k ∷ xs) y → P y) → Contains (k ∷ xs) z → Contains (dedup_from same k xs) z
    still_from k z [] all c = c
    still_from k z (x ∷ xs) all c =
        still_by (R x k) k x z xs (one x k (all x (1, omega arith, refl)) (all k (0, omega arith, refl)))
        (still_from k z xs (λ y m. all y (skip k x y xs m)))
        (still_from x z xs (λ y m. all y (at_later k y (x ∷ xs) m))) c

    -- what was there is left
    pub still : (xs : List X) (z : X) → ((y : X) → Contains xs y → P y) → Contains xs z → Contains (dedup same xs) z
    still [] z all c = c
    still (x ∷ xs) z all c = still_from x z xs all c
