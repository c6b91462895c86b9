-- Lists of which each element stands before the next ascend.
use Rattle.std.proofs.Common.{◌≡◌, ℕ, zero, suc, ◌+◌, ◌-◌, ◌<◌, Bool, true, List, [], ◌∷◌, length, slice_get, ap, ◌∙◌, arith}
use Rattle.std.specs.List.{Contains, range_with_len}
use Rattle.c_tree.specs.Typing.{has}
use Rattle.ts_domain.proofs.Members.{all_from}
use Rattle.cover_certificate.specs.Regular.{ascends, next_after}

in_range : (a n i : ℕ) → Contains (range_with_len a n) i → i < a + n
in_range a zero i (k, l, e) = absurd (omega (arith, l))
in_range a (suc n) i (zero, l, e) = omega (arith, e)
in_range a (suc n) i (suc k, l, e) = let below : i < a + 1 + n = in_range (a + 1) n i (k, omega (arith, l), e) in omega arith

module _ {A : Type 0} (before : A → A → Bool) where
  abbrev pub Precede : List A → Type 0
  Precede [] = Unit {0}
  Precede (x ∷ []) = Unit {0}
  Precede (x ∷ y ∷ ys) = (before x y ≡ true) × Precede (y ∷ ys)

  next_precedes : (xs : List A) (i : ℕ) → i + 1 < length xs → Precede xs → next_after before xs i ≡ true
  next_precedes [] i l h = absurd (omega (arith, l))
  next_precedes (x ∷ []) i l h = absurd (omega (arith, l))
  next_precedes (x ∷ y ∷ ys) zero l h = h.0
  next_precedes (x ∷ y ∷ ys) (suc i) l h =
      let on : suc i + 1 ≡ suc (i + 1) = omega arith in
      ap (λ k. has (λ z. has (before z) (slice_get (x ∷ y ∷ ys) k)) (slice_get (y ∷ ys) i)) on ∙ next_precedes (y ∷ ys) i (omega (arith, l)) h.1

  pub precede_ascends : (xs : List A) → Precede xs → ascends before xs ≡ true
  precede_ascends xs h =
      all_from (next_after before xs) (range_with_len 0 (length xs - 1))
      (λ i c. let below : i < 0 + (length xs - 1) = in_range 0 (length xs - 1) i c in next_precedes xs i (omega arith) h)
