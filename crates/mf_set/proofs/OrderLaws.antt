-- Words compared from the last to the first are compared as their numbers are, from the greatest down.
use Rattle.std.proofs.Common.{◌≡◌, ◌≢◌, ℕ, zero, suc, ◌+◌, ◌-◌, ◌*◌, ◌/◌, ◌%◌, ◌^◌, ◌<◌, ◌≤◌, Bool, true, false, cond, Ordering, ⊎_elim, List, [], ◌∷◌, ◌++◌, reverse, length, get_or, eqb, refl, sym, ap, ◌∙◌, arith}
use Rattle.std.proofs.lemmas.Bool.{cases_order, lt-ltb, le-ltb, ne_eqb}
use Rattle.std.proofs.lemmas.Cmp.{nat_cmp_total, tied_itself}
use Rattle.std.proofs.lemmas.List.{reverse-append, map-id}
use Rattle.std.proofs.lemmas.List.FromFn.{filter_of_map_range_with_len_more}
use Rattle.std.proofs.lemmas.Nat.Bits.{bit_at-suc, bit_at_lowest}
use Rattle.std.proofs.Math.Nat.{pow-suc}
use Rattle.std.specs.declared.cmp.Ordering.TheVariants.{Less, Equal, Greater}
use Rattle.std.specs.List.{filter, range_with_len}
use Rattle.std.specs.Ordering.{nat_cmp, bool_cmp, ordering_then}
use Rattle.std.specs.Cmp.Lexicographic.{slice_cmp}
use Rattle.mf_set.specs.Words.{bit_of, has_bit, numbers_of}
use Rattle.mf_set.proofs.WordLaws.{has_bit_at}

-- ---- the numbers from the greatest down
abbrev pub descending : (ℕ → Bool) → ℕ → List ℕ
descending p zero = []
descending p (suc n) = cond (p n) (n ∷ descending p n) (descending p n)

range_more : (p : ℕ → Bool) (n : ℕ) → filter p (range_with_len 0 (n + 1)) ≡ filter p (range_with_len 0 n) ++ cond (p n) (n ∷ []) []
range_more p n =
    let at : 0 + n ≡ n = omega arith in
    ap (filter p) (sym (map-id (range_with_len 0 (n + 1))))
    ∙ filter_of_map_range_with_len_more p (λ m. m) 0 n n at
    ∙ ap (λ xs. filter p xs ++ cond (p n) (n ∷ []) []) (map-id (range_with_len 0 n))

pub reverse-filter_range : (p : ℕ → Bool) (n : ℕ) → reverse (filter p (range_with_len 0 n)) ≡ descending p n
reverse-filter_range p zero = refl
reverse-filter_range p (suc n) =
    let next : suc n ≡ n + 1 = omega arith in
    ap (λ m. reverse (filter p (range_with_len 0 m))) next
    ∙ ap reverse (range_more p n)
    ∙ reverse-append (filter p (range_with_len 0 n)) (cond (p n) (n ∷ []) [])
    ∙ ap (λ xs. reverse (cond (p n) (n ∷ []) []) ++ xs) (reverse-filter_range p n)
    ∙ elim (p n) as (λ b. reverse (cond b (n ∷ []) []) ++ descending p n ≡ cond b (n ∷ descending p n) (descending p n)) [ true ↦ refl | false ↦ refl ]

-- ---- numbers compared
cmp_less : (x y : ℕ) → x < y → nat_cmp x y ≡ Less
cmp_less x y l = ap (λ b. cond b Less (cond (eqb x y) Equal Greater)) (lt-ltb x y l)

cmp_greater : (x y : ℕ) → y < x → nat_cmp x y ≡ Greater
cmp_greater x y l =
    let above : y ≤ x = omega arith in
    let other : x ≢ y = omega arith in
    ap (λ b. cond b Less (cond (eqb x y) Equal Greater)) (le-ltb x y above) ∙ ap (λ b. cond b Equal Greater) (ne_eqb x y other)

greater_first : (q : ℕ → Bool) (n x : ℕ) (xs : List ℕ) → n ≤ x → slice_cmp nat_cmp (x ∷ xs) (descending q n) ≡ Greater
greater_first q zero x xs l = refl
greater_first q (suc n) x xs l =
    let under : n < x = omega arith in
    elim (q n) as (λ b. slice_cmp nat_cmp (x ∷ xs) (cond b (n ∷ descending q n) (descending q n)) ≡ Greater) [
      | true ↦ ap (λ o. ordering_then o (slice_cmp nat_cmp xs (descending q n))) (cmp_greater x n under)
      | false ↦ greater_first q n x xs (omega arith)
    ]

less_first : (q : ℕ → Bool) (n x : ℕ) (xs : List ℕ) → n ≤ x → slice_cmp nat_cmp (descending q n) (x ∷ xs) ≡ Less
less_first q zero x xs l = refl
less_first q (suc n) x xs l =
    let under : n < x = omega arith in
    elim (q n) as (λ b. slice_cmp nat_cmp (cond b (n ∷ descending q n) (descending q n)) (x ∷ xs) ≡ Less) [
      | true ↦ ap (λ o. ordering_then o (slice_cmp nat_cmp (descending q n) xs)) (cmp_less n x under)
      | false ↦ less_first q n x xs (omega arith)
    ]

-- ---- bits compared, the highest of n first
abbrev pub bits_cmp : (ℕ → Bool) → (ℕ → Bool) → ℕ → Ordering
bits_cmp p q zero = Equal
bits_cmp p q (suc n) = ordering_then (bool_cmp (p n) (q n)) (bits_cmp p q n)

pub descending_cmp : (p q : ℕ → Bool) (n : ℕ) → slice_cmp nat_cmp (descending p n) (descending q n) ≡ bits_cmp p q n
descending_cmp p q zero = refl
descending_cmp p q (suc n) =
    elim (p n) as (λ b. slice_cmp nat_cmp (cond b (n ∷ descending p n) (descending p n)) (cond (q n) (n ∷ descending q n) (descending q n)) ≡ ordering_then (bool_cmp b (q n)) (bits_cmp p q n)) [
      | true ↦
          elim (q n) as (λ b. slice_cmp nat_cmp (n ∷ descending p n) (cond b (n ∷ descending q n) (descending q n)) ≡ ordering_then (bool_cmp true b) (bits_cmp p q n)) [
            | true ↦ ap (λ o. ordering_then o (slice_cmp nat_cmp (descending p n) (descending q n))) (tied_itself nat_cmp_total n) ∙ descending_cmp p q n
            | false ↦ greater_first q n n (descending p n) (omega arith)
          ]
      | false ↦
          elim (q n) as (λ b. slice_cmp nat_cmp (descending p n) (cond b (n ∷ descending q n) (descending q n)) ≡ ordering_then (bool_cmp false b) (bits_cmp p q n)) [
            | true ↦ less_first p n n (descending q n) (omega arith)
            | false ↦ descending_cmp p q n
          ]
    ]

then_assoc : (a b c : Ordering) → ordering_then a (ordering_then b c) ≡ ordering_then (ordering_then a b) c
then_assoc Less b c = refl
then_assoc Equal b c = refl
then_assoc Greater b c = refl

-- the bits from n on, and then those below n
bits_cmp-add : (p q : ℕ → Bool) (n m : ℕ) → bits_cmp p q (n + m) ≡ ordering_then (bits_cmp (λ j. p (n + j)) (λ j. q (n + j)) m) (bits_cmp p q n)
bits_cmp-add p q n zero = let e : n + 0 ≡ n = omega arith in ap (bits_cmp p q) e
bits_cmp-add p q n (suc m) =
    let e : n + suc m ≡ suc (n + m) = omega arith in
    ap (bits_cmp p q) e
    ∙ ap (ordering_then (bool_cmp (p (n + m)) (q (n + m)))) (bits_cmp-add p q n m)
    ∙ then_assoc (bool_cmp (p (n + m)) (q (n + m))) (bits_cmp (λ j. p (n + j)) (λ j. q (n + j)) m) (bits_cmp p q n)

bits_cmp-agree : (p q r s : ℕ → Bool) (n : ℕ) → ((j : ℕ) → j < n → p j ≡ r j) → ((j : ℕ) → j < n → q j ≡ s j) → bits_cmp p q n ≡ bits_cmp r s n
bits_cmp-agree p q r s zero f g = refl
bits_cmp-agree p q r s (suc n) f g =
    ap (λ b. ordering_then (bool_cmp b (q n)) (bits_cmp p q n)) (f n (omega arith))
    ∙ ap (λ b. ordering_then (bool_cmp (r n) b) (bits_cmp p q n)) (g n (omega arith))
    ∙ ap (ordering_then (bool_cmp (r n) (s n))) (bits_cmp-agree p q r s n (λ j l. f j (omega arith)) (λ j l. g j (omega arith)))

-- numbers compare as their halves do, and then as their lowest bits do
then_equal : (a : Ordering) → ordering_then a Equal ≡ a
then_equal Less = refl
then_equal Equal = refl
then_equal Greater = refl

low_cmp : (a b : ℕ) → a < 2 → b < 2 → nat_cmp a b ≡ bool_cmp (eqb a 1) (eqb b 1)
low_cmp zero zero p q = refl
low_cmp zero (suc zero) p q = refl
low_cmp zero (suc (suc b)) p q = absurd (omega arith)
low_cmp (suc zero) zero p q = refl
low_cmp (suc zero) (suc zero) p q = refl
low_cmp (suc zero) (suc (suc b)) p q = absurd (omega arith)
low_cmp (suc (suc a)) b p q = absurd (omega arith)

same_low : (x y : ℕ) → x / 2 ≡ y / 2 → nat_cmp x y ≡ nat_cmp (x % 2) (y % 2)
same_low x y e =
    ⊎_elim
    (λ f. let same : x ≡ y = omega arith in ap (λ z. nat_cmp z y) same ∙ tied_itself nat_cmp_total y ∙ sym (ap (λ z. nat_cmp z (y % 2)) f ∙ tied_itself nat_cmp_total (y % 2)))
    (⊎_elim
    (λ l. let under : x < y = omega arith in cmp_less x y under ∙ sym (cmp_less (x % 2) (y % 2) l))
    (λ l. let over : y < x = omega arith in cmp_greater x y over ∙ sym (cmp_greater (x % 2) (y % 2) l)))
    (cases_order (x % 2) (y % 2))

halves_cmp : (x y : ℕ) → nat_cmp x y ≡ ordering_then (nat_cmp (x / 2) (y / 2)) (nat_cmp (x % 2) (y % 2))
halves_cmp x y =
    ⊎_elim
    (λ e. same_low x y e ∙ ap (λ o. ordering_then o (nat_cmp (x % 2) (y % 2))) (sym (ap (λ z. nat_cmp z (y / 2)) e ∙ tied_itself nat_cmp_total (y / 2))))
    (⊎_elim
    (λ l. let under : x < y = omega arith in cmp_less x y under ∙ ap (λ o. ordering_then o (nat_cmp (x % 2) (y % 2))) (sym (cmp_less (x / 2) (y / 2) l)))
    (λ l. let over : y < x = omega arith in cmp_greater x y over ∙ ap (λ o. ordering_then o (nat_cmp (x % 2) (y % 2))) (sym (cmp_greater (x / 2) (y / 2) l))))
    (cases_order (x / 2) (y / 2))

pub nat_cmp-bits : (n x y : ℕ) → x < 2 ^ n → y < 2 ^ n → nat_cmp x y ≡ bits_cmp (bit_of x) (bit_of y) n
nat_cmp-bits zero x y p q =
    let same : x ≡ y = omega arith in ap (λ z. nat_cmp z y) same ∙ tied_itself nat_cmp_total y
nat_cmp-bits (suc n) x y p q =
    let twice : 2 ^ suc n ≡ 2 ^ n * 2 = pow-suc 2 n in
    let half_x : x / 2 < 2 ^ n = omega arith in
    let half_y : y / 2 < 2 ^ n = omega arith in
    let small_x : x % 2 < 2 = omega arith in
    let small_y : y % 2 < 2 = omega arith in
    let next : suc n ≡ 1 + n = omega arith in
    halves_cmp x y
    ∙ ap (λ o. ordering_then o (nat_cmp (x % 2) (y % 2))) (nat_cmp-bits n (x / 2) (y / 2) half_x half_y ∙ bits_cmp-agree (bit_of (x / 2)) (bit_of (y / 2)) (λ j. bit_of x (1 + j)) (λ j. bit_of y (1 + j)) n (λ j _. shifted x j) (λ j _. shifted y j))
    ∙ ap (ordering_then (bits_cmp (λ j. bit_of x (1 + j)) (λ j. bit_of y (1 + j)) n)) (low_cmp (x % 2) (y % 2) small_x small_y ∙ lowest x y)
    ∙ sym (bits_cmp-add (bit_of x) (bit_of y) 1 n)
    ∙ ap (bits_cmp (bit_of x) (bit_of y)) (sym next)
  where
    shifted : (z j : ℕ) → bit_of (z / 2) j ≡ bit_of z (1 + j)
    shifted z j = let e : 1 + j ≡ suc j = omega arith in ap (λ v. eqb v 1) (sym (bit_at-suc z j)) ∙ ap (bit_of z) (sym e)

    lowest : (a b : ℕ) → bool_cmp (eqb (a % 2) 1) (eqb (b % 2) 1) ≡ bits_cmp (bit_of a) (bit_of b) 1
    lowest a b =
        ap (λ v. bool_cmp (eqb v 1) (eqb (b % 2) 1)) (sym (bit_at_lowest a))
        ∙ ap (λ v. bool_cmp (bit_of a 0) (eqb v 1)) (sym (bit_at_lowest b))
        ∙ sym (then_equal (bool_cmp (bit_of a 0) (bit_of b 0)))

-- ---- words compared
pub words_cmp-more : (us vs : List ℕ) (i : ℕ) → get_or us i 0 < 2 ^ 64 → get_or vs i 0 < 2 ^ 64 → bits_cmp (has_bit us) (has_bit vs) (64 * (i + 1)) ≡ ordering_then (nat_cmp (get_or us i 0) (get_or vs i 0)) (bits_cmp (has_bit us) (has_bit vs) (64 * i))
words_cmp-more us vs i p q =
    let e : 64 * (i + 1) ≡ 64 * i + 64 = omega arith in
    ap (bits_cmp (has_bit us) (has_bit vs)) e
    ∙ bits_cmp-add (has_bit us) (has_bit vs) (64 * i) 64
    ∙ ap (λ o. ordering_then o (bits_cmp (has_bit us) (has_bit vs) (64 * i)))
    (bits_cmp-agree (λ j. has_bit us (64 * i + j)) (λ j. has_bit vs (64 * i + j)) (bit_of (get_or us i 0)) (bit_of (get_or vs i 0)) 64 (λ j l. has_bit_at us i j l) (λ j l. has_bit_at vs i j l)
    ∙ sym (nat_cmp-bits 64 (get_or us i 0) (get_or vs i 0) p q))

pub numbers_cmp : (us vs : List ℕ) → length us ≡ length vs → slice_cmp nat_cmp (reverse (numbers_of us)) (reverse (numbers_of vs)) ≡ bits_cmp (has_bit us) (has_bit vs) (64 * length us)
unfolding numbers_of
numbers_cmp us vs e =
    ap (λ xs. slice_cmp nat_cmp xs (reverse (numbers_of vs))) (reverse-filter_range (has_bit us) (64 * length us))
    ∙ ap (λ xs. slice_cmp nat_cmp (descending (has_bit us) (64 * length us)) xs) (reverse-filter_range (has_bit vs) (64 * length vs))
    ∙ ap (λ n. slice_cmp nat_cmp (descending (has_bit us) (64 * length us)) (descending (has_bit vs) (64 * n))) (sym e)
    ∙ descending_cmp (has_bit us) (has_bit vs) (64 * length us)

-- a step down from the words below i
pub words_cmp-step : (us vs : List ℕ) (i : ℕ) → 0 < i → get_or us (i - 1) 0 < 2 ^ 64 → get_or vs (i - 1) 0 < 2 ^ 64 → bits_cmp (has_bit us) (has_bit vs) (64 * i) ≡ ordering_then (nat_cmp (get_or us (i - 1) 0) (get_or vs (i - 1) 0)) (bits_cmp (has_bit us) (has_bit vs) (64 * (i - 1)))
words_cmp-step us vs i s p q =
    let e : i ≡ i - 1 + 1 = omega arith in ap (λ k. bits_cmp (has_bit us) (has_bit vs) (64 * k)) e ∙ words_cmp-more us vs (i - 1) p q

pub then_decided : (a b : Ordering) → (a ≡ Equal → ⊥) → ordering_then a b ≡ a
then_decided Less b h = refl
then_decided Equal b h = absurd (h refl)
then_decided Greater b h = refl
