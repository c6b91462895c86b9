-- How many numbers words have: the sum of the counts of their set bits.
use Rattle.std.proofs.Common.{◌≡◌, ℕ, zero, suc, ◌+◌, ◌*◌, ◌/◌, ◌%◌, ◌^◌, ◌<◌, ◌≤◌, Bool, true, false, cond, List, [], ◌∷◌, length, get_or, eqb, refl, sym, ap, ◌∙◌, arith}
use Rattle.std.proofs.Math.Nat.{pow-suc}
use Rattle.std.proofs.lemmas.Bool.{or_right}
use Rattle.std.proofs.lemmas.List.Sums.{sum_by-cons}
use Rattle.std.proofs.lemmas.Nat.{ones_le_self}
use Rattle.std.proofs.lemmas.Nat.Bits.{bit_at-suc, bit_at_lowest}
use Rattle.std.specs.Prelude.{count_ones}
use Rattle.std.specs.Int.Count.{ones_step}
use Rattle.std.specs.List.{filter, range_with_len, sum_by}
use Rattle.mf_set.specs.Numbers.{has, IsAscendingFrom}
use Rattle.mf_set.specs.Words.{bit_of, has_bit, numbers_of}
use Rattle.mf_set.proofs.NumberLaws.{has_first}
use Rattle.mf_set.proofs.WordLaws.{has_bit_at}

-- how many of the n numbers from a on pass the test
abbrev passing : (ℕ → Bool) → ℕ → ℕ → ℕ
passing p a n = length (filter p (range_with_len a n))

abbrev one_if : Bool → ℕ
one_if b = cond b 1 0

passing-suc : (p : ℕ → Bool) (a n : ℕ) → passing p a (suc n) ≡ one_if (p a) + passing p (a + 1) n
passing-suc p a n =
    elim (p a) as (λ b. length (cond b (a ∷ filter p (range_with_len (a + 1) n)) (filter p (range_with_len (a + 1) n))) ≡ one_if b + passing p (a + 1) n) [ true ↦ omega arith | false ↦ omega arith ]

-- two tests that agree, one c further on
passing-shift : (p q : ℕ → Bool) (a b n : ℕ) → ((j : ℕ) → j < n → p (a + j) ≡ q (b + j)) → passing p a n ≡ passing q b n
passing-shift p q a b zero h = refl
passing-shift p q a b (suc n) h =
    let here_a : a + 0 ≡ a = omega arith in
    let here_b : b + 0 ≡ b = omega arith in
    passing-suc p a n
    ∙ ap (λ m. one_if (p m) + passing p (a + 1) n) (sym here_a)
    ∙ ap (λ t. one_if t + passing p (a + 1) n) (h 0 (omega arith))
    ∙ ap (λ m. one_if (q m) + passing p (a + 1) n) here_b
    ∙ ap (λ m. one_if (q b) + m) (passing-shift p q (a + 1) (b + 1) n (λ j l. along j l))
    ∙ sym (passing-suc q b n)
  where
    along : (j : ℕ) → j < n → p (a + 1 + j) ≡ q (b + 1 + j)
    along j l =
        let e : a + 1 + j ≡ a + suc j = omega arith in
        let f : b + suc j ≡ b + 1 + j = omega arith in
        ap p e ∙ h (suc j) (omega arith) ∙ ap q f

passing-add : (p : ℕ → Bool) (a n m : ℕ) → passing p a (n + m) ≡ passing p a n + passing p (a + n) m
passing-add p a zero m =
    let e : 0 + m ≡ m = omega arith in
    let f : a + 0 ≡ a = omega arith in
    let g : passing p a m ≡ 0 + passing p a m = omega arith in
    ap (passing p a) e ∙ g ∙ ap (λ b. 0 + passing p b m) (sym f)
passing-add p a (suc n) m =
    let e : suc n + m ≡ suc (n + m) = omega arith in
    let f : a + 1 + n ≡ a + suc n = omega arith in
    ap (passing p a) e ∙ passing-suc p a (n + m) ∙ ap (λ r. one_if (p a) + r) (passing-add p (a + 1) n m ∙ ap (λ b. passing p (a + 1) n + passing p b m) f)
    ∙ (let g : passing p a (suc n) ≡ one_if (p a) + passing p (a + 1) n = passing-suc p a n in omega arith)

lowest : (w : ℕ) → one_if (bit_of w 0) ≡ w % 2
lowest w = ap (λ v. one_if (eqb v 1)) (bit_at_lowest w) ∙ (let s : w % 2 < 2 = omega arith in small (w % 2) s)
  where
    small : (v : ℕ) → v < 2 → one_if (eqb v 1) ≡ v
    small zero s = refl
    small (suc zero) s = refl
    small (suc (suc v)) s = absurd (omega arith)

-- the bits of a word
passing-word : (n w : ℕ) → w < 2 ^ n → passing (bit_of w) 0 n ≡ count_ones w
passing-word zero w l = omega (arith, ones_le_self w)
passing-word (suc n) w l =
    let twice : 2 ^ suc n ≡ 2 ^ n * 2 = pow-suc 2 n in
    let half : w / 2 < 2 ^ n = omega arith in
    passing-suc (bit_of w) 0 n
    ∙ ap (λ v. v + passing (bit_of w) (0 + 1) n) (lowest w)
    ∙ ap (λ m. w % 2 + m) (passing-shift (bit_of w) (bit_of (w / 2)) (0 + 1) 0 n (λ j _. shifted j) ∙ passing-word n (w / 2) half)
    ∙ sym (ones_step w)
  where
    shifted : (j : ℕ) → bit_of w (0 + 1 + j) ≡ bit_of (w / 2) (0 + j)
    shifted j =
        let e : 0 + 1 + j ≡ suc j = omega arith in
        let f : j ≡ 0 + j = omega arith in
        ap (bit_of w) e ∙ ap (λ v. eqb v 1) (bit_at-suc w j) ∙ ap (bit_of (w / 2)) f

next_word : (w : ℕ) (ws : List ℕ) (n : ℕ) → has_bit (w ∷ ws) (64 + n) ≡ has_bit ws n
unfolding has_bit
next_word w ws n =
    let place : (64 + n) / 64 ≡ suc (n / 64) = omega arith in
    let bit : (64 + n) % 64 ≡ n % 64 = omega arith in
    ap (λ q. bit_of (get_or (w ∷ ws) q 0) ((64 + n) % 64)) place ∙ ap (bit_of (get_or ws (n / 64) 0)) bit

passing-words : (ws : List ℕ) → ((k : ℕ) → get_or ws k 0 < 2 ^ 64) → passing (has_bit ws) 0 (64 * length ws) ≡ sum_by count_ones ws
passing-words [] fit = refl
passing-words (w ∷ ws) fit =
    let long : 64 * suc (length ws) ≡ 64 + 64 * length ws = omega arith in
    ap (passing (has_bit (w ∷ ws)) 0) long
    ∙ passing-add (has_bit (w ∷ ws)) 0 64 (64 * length ws)
    ∙ ap (λ m. m + passing (has_bit (w ∷ ws)) (0 + 64) (64 * length ws)) (passing-shift (has_bit (w ∷ ws)) (bit_of w) 0 0 64 first ∙ passing-word 64 w (fit 0))
    ∙ ap (λ m. count_ones w + m) (passing-shift (has_bit (w ∷ ws)) (has_bit ws) (0 + 64) 0 (64 * length ws) (λ j _. rest j) ∙ passing-words ws (λ k. fit (suc k)))
    ∙ sym (sum_by-cons count_ones w ws)
  where
    first : (j : ℕ) → j < 64 → has_bit (w ∷ ws) (0 + j) ≡ bit_of w (0 + j)
    first j l =
        let e : 0 + j ≡ 64 * 0 + j = omega arith in
        let f : j ≡ 0 + j = omega arith in
        ap (has_bit (w ∷ ws)) e ∙ has_bit_at (w ∷ ws) 0 j l ∙ ap (bit_of w) f

    rest : (j : ℕ) → has_bit (w ∷ ws) (0 + 64 + j) ≡ has_bit ws (0 + j)
    rest j =
        let e : 0 + 64 + j ≡ 64 + j = omega arith in
        let f : j ≡ 0 + j = omega arith in
        ap (has_bit (w ∷ ws)) e ∙ next_word w ws j ∙ ap (has_bit ws) f

pub length-numbers_of : (ws : List ℕ) → ((k : ℕ) → get_or ws k 0 < 2 ^ 64) → length (numbers_of ws) ≡ sum_by count_ones ws
unfolding numbers_of
length-numbers_of ws fit = passing-words ws fit

-- a list that ascends from low on, with each number below high, has no more than are between these
pub length_within : (low high : ℕ) (xs : List ℕ) → IsAscendingFrom low xs → ((n : ℕ) → has xs n ≡ true → n < high) → low ≤ high → low + length xs ≤ high
length_within low high [] up below l = omega arith
length_within low high (x ∷ xs) up below l =
    let inside : x < high = below x (has_first x xs) in
    let rest : suc x + length xs ≤ high = length_within (suc x) high xs up.1 (λ n h. below n (or_right (eqb x n) (has xs n) h)) (omega arith) in
    omega (arith, up.0)
