-- The numbers of facts.
use Rattle.std.proofs.Common.{◌≡◌, ℕ, zero, suc, ◌+◌, ◌-◌, refl, sym, ap, ◌∙◌, arith}
use Rattle.ts_domain.specs.Facts.{pairs_below}

pairs_after : (n x : ℕ) → pairs_below n (suc x) ≡ pairs_below n x + (n - suc x)
pairs_after zero zero = refl
pairs_after zero (suc x) = omega arith
pairs_after (suc n) zero = omega arith
pairs_after (suc n) (suc x) = omega (arith, pairs_after n x)

-- one variable more comes before a pair
pub pairs_more : (n x : ℕ) → pairs_below n (x + 1) ≡ pairs_below n x + (n - (x + 1))
pairs_more n x = let on : x + 1 ≡ suc x = omega arith in ap (pairs_below n) on ∙ pairs_after n x ∙ ap (λ y. pairs_below n x + (n - y)) (sym on)
