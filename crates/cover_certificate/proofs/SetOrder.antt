-- Sets that are compared number by number, from a number on.
use Rattle.std.proofs.Common.{◌≡◌, ℕ, Bool, true, false, cond, leb, List, [], ◌∷◌, Option, Some, None, refl, ap, sym, ◌∙◌, arith}
use Rattle.std.proofs.lemmas.Bool.{le-leb, false≢true}
use Rattle.std.specs.Cmp.Lexicographic.{slice_cmp}
use Rattle.std.specs.List.{filter, find}
use Rattle.std.specs.Option.{is_some}
use Rattle.std.specs.Ordering.{nat_cmp}
use Rattle.std.specs.declared.cmp.Ordering.TheVariants.{Less, Equal, Greater}
use Rattle.mf_set.specs.Numbers.{next_from, numbers_from}

-- all numbers are from 0 on
from_zero : (xs : List ℕ) → numbers_from xs 0 ≡ xs
from_zero [] = refl
from_zero (x ∷ xs) = ap (λ b. cond b (x ∷ numbers_from xs 0) (numbers_from xs 0)) (le-leb 0 x (omega arith)) ∙ ap (λ ys. x ∷ ys) (from_zero xs)

pub whole : (xs ys : List ℕ) → slice_cmp nat_cmp (numbers_from xs 0) (numbers_from ys 0) ≡ slice_cmp nat_cmp xs ys
whole xs ys = ap (λ us. slice_cmp nat_cmp us (numbers_from ys 0)) (from_zero xs) ∙ ap (slice_cmp nat_cmp xs) (from_zero ys)

none_left : (p : ℕ → Bool) (xs : List ℕ) → find p xs ≡ None → filter p xs ≡ []
none_left p [] e = refl
none_left p (x ∷ xs) e = by (p x) (none_left p xs) e
  where
    by : (b : Bool) → (find p xs ≡ None → filter p xs ≡ []) → cond b (Some x) (find p xs) ≡ None → cond b (x ∷ filter p xs) (filter p xs) ≡ []
    by true rest e = absurd cc
    by false rest e = rest e

some_left : (p : ℕ → Bool) (xs : List ℕ) → is_some (find p xs) ≡ true → slice_cmp nat_cmp [] (filter p xs) ≡ Less
some_left p [] e = absurd (false≢true e)
some_left p (x ∷ xs) e = by (p x) (some_left p xs) e
  where
    by : (b : Bool) → (is_some (find p xs) ≡ true → slice_cmp nat_cmp [] (filter p xs) ≡ Less) → is_some (cond b (Some x) (find p xs)) ≡ true → slice_cmp nat_cmp [] (cond b (x ∷ filter p xs) (filter p xs)) ≡ Less
    by true rest e = refl
    by false rest e = rest e

unsome : (o : Option ℕ) → is_some o ≡ false → o ≡ None
unsome None e = refl
unsome (Some x) e = absurd (false≢true (sym e))

module _ (xs ys : List ℕ) (from : ℕ) (so_far : slice_cmp nat_cmp (numbers_from xs from) (numbers_from ys from) ≡ slice_cmp nat_cmp xs ys) where
  -- the second ends first
  pub is_greater : (n : ℕ) (rest : List ℕ) → numbers_from xs from ≡ n ∷ rest → next_from ys from ≡ None → Greater ≡ slice_cmp nat_cmp xs ys
  is_greater n rest first none =
      ap (slice_cmp nat_cmp (n ∷ rest)) (sym (none_left (leb from) ys none)) ∙ ap (λ us. slice_cmp nat_cmp us (numbers_from ys from)) (sym first) ∙ so_far

  first_ends : next_from xs from ≡ None → slice_cmp nat_cmp [] (numbers_from ys from) ≡ slice_cmp nat_cmp xs ys
  first_ends none = ap (λ us. slice_cmp nat_cmp us (numbers_from ys from)) (sym (none_left (leb from) xs none)) ∙ so_far

  -- the first does
  pub is_less : next_from xs from ≡ None → is_some (next_from ys from) ≡ true → Less ≡ slice_cmp nat_cmp xs ys
  is_less none some = sym (some_left (leb from) ys some) ∙ first_ends none

  -- both end
  pub is_equal : next_from xs from ≡ None → is_some (next_from ys from) ≡ false → Equal ≡ slice_cmp nat_cmp xs ys
  is_equal none none' = ap (slice_cmp nat_cmp []) (sym (none_left (leb from) ys (unsome (next_from ys from) none'))) ∙ first_ends none
