-- Numbers of a range that pass a test, one number more.
use Rattle.std.proofs.Common.{◌≡◌, ℕ, ◌+◌, ◌&&◌, Bool, true, false, suc, cond, List, [], ◌∷◌, ◌++◌, refl, ap, ◌∙◌, arith}
use Rattle.std.specs.List.{filter, list_all, range_with_len}
use Rattle.std.proofs.lemmas.List.Elements.{filter-append}
use Rattle.ts_domain.proofs.RowLaws.{range_last}

pub filter_range : (p : ℕ → Bool) (i : ℕ) → filter p (range_with_len 0 (i + 1)) ≡ filter p (range_with_len 0 i) ++ cond (p i) (i ∷ []) []
filter_range p i =
    let on : i + 1 ≡ suc i = omega arith in
    ap (λ n. filter p (range_with_len 0 n)) on ∙ ap (filter p) (range_last 0 i i (omega arith)) ∙ filter-append p (range_with_len 0 i) (i ∷ [])

-- a test of all numbers of a range, one number more
pub all_range_more : (p : ℕ → Bool) (i : ℕ) → list_all p (range_with_len 0 (i + 1)) ≡ (list_all p (range_with_len 0 i) && p i)
all_range_more p i =
    let on : i + 1 ≡ suc i = omega arith in
    ap (λ n. list_all p (range_with_len 0 n)) on ∙ ap (list_all p) (range_last 0 i i (omega arith)) ∙ all_last p (range_with_len 0 i) i
  where
    and_true : (b : Bool) → (b && true) ≡ b
    and_true true = refl
    and_true false = refl

    and_assoc : (a b c : Bool) → (a && (b && c)) ≡ ((a && b) && c)
    and_assoc true b c = refl
    and_assoc false b c = refl

    all_last : (q : ℕ → Bool) (xs : List ℕ) (k : ℕ) → list_all q (xs ++ k ∷ []) ≡ (list_all q xs && q k)
    all_last q [] k = and_true (q k)
    all_last q (x ∷ xs) k = ap (λ b. q x && b) (all_last q xs k) ∙ and_assoc (q x) (list_all q xs) (q k)
