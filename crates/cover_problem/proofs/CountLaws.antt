-- Numbers of a set that are counted in turn.
use Rattle.std.proofs.Common.{◌≡◌, ℕ, zero, suc, ◌+◌, ◌<◌, ◌≤◌, Bool, true, false, cond, List, [], ◌∷◌, length, Option, Some, None, leb, refl, ap, sym, ◌∙◌, subst, arith}
use Rattle.std.proofs.lemmas.Bool.{le-leb}
use Rattle.std.specs.List.{filter, find}
use Rattle.mf_set.specs.Numbers.{numbers_from, next_from}

-- so many numbers below a bound pass, and those that pass from there on are not yet counted
pub record Counts (p : ℕ → Bool) (xs : List ℕ) (from count : ℕ) : Type 0 where
  pub counted : count + length (filter p (numbers_from xs from)) ≡ length (filter p xs)
  pub small : count ≤ from

-- all numbers are from 0 on
pub from_zero : (xs : List ℕ) → numbers_from xs 0 ≡ xs
from_zero [] = refl
from_zero (x ∷ xs) = ap (λ b. cond b (x ∷ numbers_from xs 0) (numbers_from xs 0)) (le-leb 0 x (omega arith)) ∙ ap (λ ys. x ∷ ys) (from_zero xs)

-- where none is found, none is left
pub none_found : (p : ℕ → Bool) (xs : List ℕ) → find p xs ≡ None → filter p xs ≡ []
none_found p [] e = refl
none_found p (x ∷ xs) e = by (p x) (λ f. none_found p xs f) e
  where
    by : (b : Bool) → (find p xs ≡ None → filter p xs ≡ []) → cond b (Some x) (find p xs) ≡ None → cond b (x ∷ filter p xs) (filter p xs) ≡ []
    by true rest e = absurd cc
    by false rest e = rest e

pub none_left : (xs : List ℕ) (from : ℕ) → next_from xs from ≡ None → numbers_from xs from ≡ []
none_left xs from e = none_found (leb from) xs e

pub counts_none : (p : ℕ → Bool) (xs : List ℕ) → Counts p xs 0 0
counts_none p xs =
    let same : length (filter p (numbers_from xs 0)) ≡ length (filter p xs) = ap (λ ys. length (filter p ys)) (from_zero xs) in
    record { counted = omega arith; small = omega arith }

pub counts_all : (p : ℕ → Bool) (xs : List ℕ) (from count : ℕ) → Counts p xs from count → next_from xs from ≡ None → count ≡ length (filter p xs)
counts_all p xs from count h e =
    let left : length (filter p (numbers_from xs from)) ≡ 0 = ap (λ ys. length (filter p ys)) (none_left xs from e) in
    let all : count + length (filter p (numbers_from xs from)) ≡ length (filter p xs) = h.counted in
    omega arith

-- one more that passes, and one that doesn't
pub counts_one : (p : ℕ → Bool) (xs : List ℕ) (from count n : ℕ) → Counts p xs from count → from ≤ n → numbers_from xs from ≡ n ∷ numbers_from xs (n + 1) → p n ≡ true → Counts p xs (n + 1) (count + 1)
counts_one p xs from count n h low next passes =
    let here : length (filter p (numbers_from xs from)) ≡ suc (length (filter p (numbers_from xs (n + 1)))) = ap (λ ys. length (filter p ys)) next ∙ ap (λ b. length (cond b (n ∷ filter p (numbers_from xs (n + 1))) (filter p (numbers_from xs (n + 1))))) passes in
    let all : count + length (filter p (numbers_from xs from)) ≡ length (filter p xs) = h.counted in
    let low_count : count ≤ from = h.small in
    record { counted = omega arith; small = omega arith }

pub counts_other : (p : ℕ → Bool) (xs : List ℕ) (from count n : ℕ) → Counts p xs from count → from ≤ n → numbers_from xs from ≡ n ∷ numbers_from xs (n + 1) → p n ≡ false → Counts p xs (n + 1) count
counts_other p xs from count n h low next fails =
    let here : length (filter p (numbers_from xs from)) ≡ length (filter p (numbers_from xs (n + 1))) = ap (λ ys. length (filter p ys)) next ∙ ap (λ b. length (cond b (n ∷ filter p (numbers_from xs (n + 1))) (filter p (numbers_from xs (n + 1))))) fails in
    let all : count + length (filter p (numbers_from xs from)) ≡ length (filter p xs) = h.counted in
    let low_count : count ≤ from = h.small in
    record { counted = omega arith; small = omega arith }
