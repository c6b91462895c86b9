-- Each number below the count of facts is that of one fact.
use Rattle.std.proofs.Common.{◌≡◌, ℕ, zero, suc, ◌+◌, ◌-◌, ◌<◌, ◌≤◌, Bool, true, false, ltb, Some, refl, ap, arith}
use Rattle.std.proofs.lemmas.Bool.{ltb-true, ltb-false, lt-ltb, and_from}
use Rattle.std.specs.Option.{option_map}
use Rattle.ts_domain.specs.declared.fact.Fact.{Fact}
use Rattle.ts_domain.specs.declared.fact.Fact.TheVariants.{Ready, Full, Filled, Equal, Apart}
use Rattle.ts_domain.specs.Facts.{exists, fact_at, fact_count, fact_number, next_pair, pair_at, pair_count, pair_number}

-- pairs

pub record IsPairOf (n k : ℕ) (q : ℕ × ℕ) : Type 0 where
  pub found : pair_at n k ≡ Some q
  pub order : q.0 < q.1
  pub below : q.1 < n
  pub number : pair_number n q.0 q.1 ≡ k

pub pair_of_number : (n k : ℕ) → k < pair_count n → (q : ℕ × ℕ) × IsPairOf n k q
pair_of_number zero k l = absurd (omega (arith, l))
pair_of_number (suc n) k l = by_first (λ high. pair_of_number n (k - n) (omega (arith, l, high))) (ltb k n) refl
  where
    by_first : (n ≤ k → (q : ℕ × ℕ) × IsPairOf n (k - n) q) → (b : Bool) → ltb k n ≡ b → (q : ℕ × ℕ) × IsPairOf (suc n) k q
    by_first rest true is =
        let low : k < n = ltb-true k n is in
        ((0, suc k), record { found = rw is refl; order = omega arith; below = omega (arith, low); number = omega arith })
    by_first rest false is =
        let high : n ≤ k = ltb-false k n is in
        let it = rest high in
        let number = it.1.number in
        let order = it.1.order in
        let below = it.1.below in (
          next_pair it.0,
          record {
            found = rw is (ap (option_map next_pair) it.1.found);
            order = omega (arith, order);
            below = omega (arith, below);
            number = omega (arith, number, high, order);
          },
        )

-- facts

pub record IsFactOf (n w k : ℕ) (f : Fact) : Type 0 where
  pub found : fact_at n w k ≡ Some f
  pub exists : exists n w f ≡ true
  pub number : fact_number n w f ≡ k

module _ (n w k : ℕ) (l : k < fact_count n w) where
  by_apart : n + n + w + pair_count n ≤ k → ltb k n ≡ false → ltb k (n + n) ≡ false → ltb k (n + n + w) ≡ false → ltb k (n + n + w + pair_count n) ≡ false → (f : Fact) × IsFactOf n w k f
  by_apart high a b c d =
      let it = pair_of_number n (k - (n + n + w + pair_count n)) (omega (arith, l, high)) in
      let number = it.1.number in (
        Apart it.0.0 it.0.1,
        record {
          found = rw (a, b, c, d) (ap (option_map (λ (p : ℕ × ℕ). Apart p.0 p.1)) it.1.found);
          exists = and_from (ltb it.0.0 it.0.1) (ltb it.0.1 n) (lt-ltb it.0.0 it.0.1 it.1.order) (lt-ltb it.0.1 n it.1.below);
          number = omega (arith, number, high);
        },
      )

  by_equal : n + n + w ≤ k → k < n + n + w + pair_count n → ltb k n ≡ false → ltb k (n + n) ≡ false → ltb k (n + n + w) ≡ false → ltb k (n + n + w + pair_count n) ≡ true → (f : Fact) × IsFactOf n w k f
  by_equal high low a b c d =
      let it = pair_of_number n (k - (n + n + w)) (omega (arith, low, high)) in
      let number = it.1.number in (
        Equal it.0.0 it.0.1,
        record {
          found = rw (a, b, c, d) (ap (option_map (λ (p : ℕ × ℕ). Equal p.0 p.1)) it.1.found);
          exists = and_from (ltb it.0.0 it.0.1) (ltb it.0.1 n) (lt-ltb it.0.0 it.0.1 it.1.order) (lt-ltb it.0.1 n it.1.below);
          number = omega (arith, number, high);
        },
      )

  by_pairs : n + n + w ≤ k → ltb k n ≡ false → ltb k (n + n) ≡ false → ltb k (n + n + w) ≡ false → (b : Bool) → ltb k (n + n + w + pair_count n) ≡ b → (f : Fact) × IsFactOf n w k f
  by_pairs high a b c true d = by_equal high (ltb-true k (n + n + w + pair_count n) d) a b c d
  by_pairs high a b c false d = by_apart (ltb-false k (n + n + w + pair_count n) d) a b c d

  by_fields : n + n ≤ k → ltb k n ≡ false → ltb k (n + n) ≡ false → (b : Bool) → ltb k (n + n + w) ≡ b → (f : Fact) × IsFactOf n w k f
  by_fields high a b true c =
      let low : k < n + n + w = ltb-true k (n + n + w) c in
      (Filled (k - (n + n)), record { found = rw (a, b, c) refl; exists = lt-ltb (k - (n + n)) w (omega (arith, low, high)); number = omega (arith, high) })
  by_fields high a b false c = by_pairs (ltb-false k (n + n + w) c) a b c (ltb k (n + n + w + pair_count n)) refl

  by_full : n ≤ k → ltb k n ≡ false → (b : Bool) → ltb k (n + n) ≡ b → (f : Fact) × IsFactOf n w k f
  by_full high a true b =
      let low : k < n + n = ltb-true k (n + n) b in
      (Full (k - n), record { found = rw (a, b) refl; exists = lt-ltb (k - n) n (omega (arith, low, high)); number = omega (arith, high) })
  by_full high a false b = by_fields (ltb-false k (n + n) b) a b (ltb k (n + n + w)) refl

  by_ready : (b : Bool) → ltb k n ≡ b → (f : Fact) × IsFactOf n w k f
  by_ready true a = (Ready k, record { found = rw a refl; exists = a; number = refl })
  by_ready false a = by_full (ltb-false k n a) a (ltb k (n + n)) refl

  pub fact_of_number : (f : Fact) × IsFactOf n w k f
  fact_of_number = by_ready (ltb k n) refl
