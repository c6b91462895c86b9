-- Laws of the numbers of facts: they are below the count, and the fact of a number is the one that has it.
use Rattle.std.proofs.Common.{◌≡◌, ℕ, zero, suc, ◌+◌, ◌-◌, ◌<◌, ◌≤◌, true, false, cond, ltb, Some, refl, ap, sym, ◌∙◌, arith}
use Rattle.std.proofs.lemmas.Bool.{ltb-true, lt-ltb, and_parts}
use Rattle.std.specs.Option.{option_map}
use Rattle.ts_domain.specs.declared.fact.Fact.{Fact}
use Rattle.ts_domain.specs.declared.fact.Fact.TheVariants.{Ready, Full, Filled, Equal, Apart}
use Rattle.ts_domain.specs.Facts.{exists, fact_at, fact_count, fact_number, next_pair, pair_at, pair_count, pair_number, pairs_below}

-- pairs

at_least : (a b : ℕ) → b ≤ a → ltb a b ≡ false
at_least a b h = elim (ltb a b) as (λ c. ltb a b ≡ c → c ≡ false) [ true ↦ λ is. absurd (omega (arith, h, ltb-true a b is)) | false ↦ λ is. refl ] refl

-- one variable more
pub pairs_more : (n x : ℕ) → x < n → pairs_below n (suc x) ≡ pairs_below n x + (n - x - 1)
pairs_more zero x h = absurd (omega (arith, h))
pairs_more (suc n) zero h = let e : pairs_below n 0 ≡ 0 = none n in omega (arith, e)
  where
    none : (m : ℕ) → pairs_below m 0 ≡ 0
    none zero = refl
    none (suc m) = refl
pairs_more (suc n) (suc x) h = let rest = pairs_more n x (omega (arith, h)) in omega (arith, rest, h)

-- without the first variable
pair_less : (n x y : ℕ) → pair_number (suc n) (suc x) (suc y) ≡ n + pair_number n x y
pair_less n x y = omega arith

pub pair_below : (n x y : ℕ) → x < y → y < n → pair_number n x y < pair_count n
pair_below zero x y h k = absurd (omega (arith, k))
pair_below (suc n) zero y h k = omega (arith, h, k)
pair_below (suc n) (suc x) zero h k = absurd (omega (arith, h))
pair_below (suc n) (suc x) (suc y) h k = let rest = pair_below n x y (omega (arith, h)) (omega (arith, k)) in let e = pair_less n x y in omega (arith, rest, e)

pair_step : (n k p : ℕ) → k ≡ n + p → pair_at (suc n) k ≡ option_map next_pair (pair_at n p)
pair_step n k p e =
    let past : ltb k n ≡ false = at_least k n (omega (arith, e)) in
    let left : k - n ≡ p = omega (arith, e) in
    ap (λ b. cond b (Some (0, suc k)) (option_map next_pair (pair_at n (k - n)))) past ∙ ap (λ q. option_map next_pair (pair_at n q)) left

-- the pair of the number of a pair
pub pair_at_number : (n x y : ℕ) → x < y → y < n → pair_at n (pair_number n x y) ≡ Some (x, y)
pair_at_number zero x y h k = absurd (omega (arith, k))
pair_at_number (suc n) zero zero h k = absurd (omega (arith, h))
pair_at_number (suc n) zero (suc y) h k =
    let e : pair_number (suc n) zero (suc y) ≡ y = omega arith in
    let below : ltb y n ≡ true = lt-ltb y n (omega (arith, k)) in
    ap (pair_at (suc n)) e ∙ ap (λ b. cond b (Some (0, suc y)) (option_map next_pair (pair_at n (y - n)))) below
pair_at_number (suc n) (suc x) zero h k = absurd (omega (arith, h))
pair_at_number (suc n) (suc x) (suc y) h k =
    pair_step n (pair_number (suc n) (suc x) (suc y)) (pair_number n x y) (pair_less n x y)
    ∙ ap (option_map next_pair) (pair_at_number n x y (omega (arith, h)) (omega (arith, k)))

-- facts

-- each number is below the count
pub number_below : (n w : ℕ) (f : Fact) → exists n w f ≡ true → fact_number n w f < fact_count n w
number_below n w (Ready x) h = let l : x < n = ltb-true x n h in omega (arith, l)
number_below n w (Full x) h = let l : x < n = ltb-true x n h in omega (arith, l)
number_below n w (Filled j) h = let l : j < w = ltb-true j w h in omega (arith, l)
number_below n w (Equal x y) h =
    let both = and_parts (ltb x y) (ltb y n) h in
    let l : pair_number n x y < pair_count n = pair_below n x y (ltb-true x y both.0) (ltb-true y n both.1) in omega (arith, l)
number_below n w (Apart x y) h =
    let both = and_parts (ltb x y) (ltb y n) h in
    let l : pair_number n x y < pair_count n = pair_below n x y (ltb-true x y both.0) (ltb-true y n both.1) in omega (arith, l)

-- the fact of the number of a fact is that fact
pub fact_at_number : (n w : ℕ) (f : Fact) → exists n w f ≡ true → fact_at n w (fact_number n w f) ≡ Some f
fact_at_number n w (Ready x) h = rw h refl
fact_at_number n w (Full x) h =
    let l : x < n = ltb-true x n h in
    let a : ltb (n + x) n ≡ false = at_least (n + x) n (omega arith) in
    let b : ltb (n + x) (n + n) ≡ true = lt-ltb (n + x) (n + n) (omega (arith, l)) in
    let c : n + x - n ≡ x = omega arith in
    rw (a, b, c) refl
fact_at_number n w (Filled j) h =
    let l : j < w = ltb-true j w h in
    let a : ltb (n + n + j) n ≡ false = at_least (n + n + j) n (omega arith) in
    let b : ltb (n + n + j) (n + n) ≡ false = at_least (n + n + j) (n + n) (omega arith) in
    let c : ltb (n + n + j) (n + n + w) ≡ true = lt-ltb (n + n + j) (n + n + w) (omega (arith, l)) in
    let d : n + n + j - (n + n) ≡ j = omega arith in
    rw (a, b, c, d) refl
fact_at_number n w (Equal x y) h =
    let both = and_parts (ltb x y) (ltb y n) h in
    let l : pair_number n x y < pair_count n = pair_below n x y (ltb-true x y both.0) (ltb-true y n both.1) in
    let there : pair_at n (pair_number n x y) ≡ Some (x, y) = pair_at_number n x y (ltb-true x y both.0) (ltb-true y n both.1) in
    behind (pair_number n x y) l there
  where
    behind : (p : ℕ) → p < pair_count n → pair_at n p ≡ Some (x, y) → fact_at n w (n + n + w + p) ≡ Some (Equal x y)
    behind p l there =
        let a : ltb (n + n + w + p) n ≡ false = at_least (n + n + w + p) n (omega arith) in
        let b : ltb (n + n + w + p) (n + n) ≡ false = at_least (n + n + w + p) (n + n) (omega arith) in
        let c : ltb (n + n + w + p) (n + n + w) ≡ false = at_least (n + n + w + p) (n + n + w) (omega arith) in
        let d : ltb (n + n + w + p) (n + n + w + pair_count n) ≡ true = lt-ltb (n + n + w + p) (n + n + w + pair_count n) (omega (arith, l)) in
        let e : n + n + w + p - (n + n + w) ≡ p = omega arith in
        rw (a, b, c, d, e, there) refl
fact_at_number n w (Apart x y) h =
    let both = and_parts (ltb x y) (ltb y n) h in
    let there : pair_at n (pair_number n x y) ≡ Some (x, y) = pair_at_number n x y (ltb-true x y both.0) (ltb-true y n both.1) in
    behind (pair_number n x y) there
  where
    behind : (p : ℕ) → pair_at n p ≡ Some (x, y) → fact_at n w (n + n + w + pair_count n + p) ≡ Some (Apart x y)
    behind p there =
        let a : ltb (n + n + w + pair_count n + p) n ≡ false = at_least (n + n + w + pair_count n + p) n (omega arith) in
        let b : ltb (n + n + w + pair_count n + p) (n + n) ≡ false = at_least (n + n + w + pair_count n + p) (n + n) (omega arith) in
        let c : ltb (n + n + w + pair_count n + p) (n + n + w) ≡ false = at_least (n + n + w + pair_count n + p) (n + n + w) (omega arith) in
        let d : ltb (n + n + w + pair_count n + p) (n + n + w + pair_count n) ≡ false = at_least (n + n + w + pair_count n + p) (n + n + w + pair_count n) (omega arith) in
        let e : n + n + w + pair_count n + p - (n + n + w + pair_count n) ≡ p = omega arith in
        rw (a, b, c, d, e, there) refl

-- so no number has two facts
pub number_once : (n w : ℕ) (f g : Fact) → exists n w f ≡ true → exists n w g ≡ true → fact_number n w f ≡ fact_number n w g → f ≡ g
number_once n w f g h k same =
    let is : Some f ≡ Some g = sym (fact_at_number n w f h) ∙ ap (fact_at n w) same ∙ fact_at_number n w g k in cc
