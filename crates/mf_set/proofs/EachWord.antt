-- The numbers of words, word by word, and of a word, bit by bit from the lowest.
use Rattle.std.proofs.Common.{◌≡◌, ℕ, zero, suc, ◌+◌, ◌*◌, ◌/◌, ◌%◌, ◌^◌, ◌<◌, ◌≤◌, Bool, true, false, not, cond, ⊎_elim, List, [], ◌∷◌, ◌++◌, map, length, take, get_or, set, eqb, refl, sym, ap, ◌∙◌, arith}
use Rattle.std.proofs.lemmas.Bool.{false≢true, eq-eqb, ne_eqb, cases_eq, cases_lt}
use Rattle.std.proofs.lemmas.List.{get_or_append_left, get_or-append-add, append_assoc, length-append, length-take-le}
use Rattle.std.proofs.lemmas.List.Elements.{filter-append}
use Rattle.std.proofs.lemmas.Nat.Bits.{bit_at-trailing_zeros, bit_at_clear_same}
use Rattle.std.proofs.lemmas.Nat.{and_le_l}
use Rattle.std.proofs.Math.Seq.{take-suc}
use Rattle.std.specs.Prelude.{bit_and}
use Rattle.std.specs.Int.{bit_at, bit_not, trailing_zeros, w64}
use Rattle.std.specs.List.{filter, range_with_len}
use Rattle.mf_set.specs.Numbers.{has, IsAscendingFrom, without_number}
use Rattle.mf_set.specs.Words.{bit_of, has_bit, numbers_of, numbers_at}
use Rattle.mf_set.proofs.NumberLaws.{has_from_low, has_first}
use Rattle.mf_set.proofs.WordLaws.{has_bit_at, has-numbers_of, has_bit-remove, IsAscendingFrom-numbers_of}
use Rattle.mf_set.proofs.SetLaws.{numbers_of-remove, numbers_of-none}

-- a word without its lowest bit
abbrev pub without_lowest : ℕ → ℕ
without_lowest w = bit_and w (bit_not w64 (1 * 2 ^ trailing_zeros w64 w % 2 ^ 64))

pub without_lowest-less : (w : ℕ) → 0 < w → w < 2 ^ 64 → without_lowest w < w
without_lowest-less w some fits =
    let low = bit_at-trailing_zeros w64 w some fits in
    let gone : bit_at (without_lowest w) (trailing_zeros w64 w) ≡ 0 = bit_at_clear_same w64 w (trailing_zeros w64 w) low.0 in
    ⊎_elim
    (λ e. let both : 0 ≡ 1 = sym gone ∙ ap (λ v. bit_at v (trailing_zeros w64 w)) e ∙ low.1 in absurd (omega (arith, both)))
    (λ ne. omega (arith, and_le_l w (bit_not w64 (1 * 2 ^ trailing_zeros w64 w % 2 ^ 64))))
    (cases_eq (without_lowest w) w)

-- ---- a list from its least number on
kept_above : (x low : ℕ) (xs : List ℕ) → IsAscendingFrom low xs → x < low → without_number xs x ≡ xs
kept_above x low [] up l = refl
kept_above x low (y ∷ ys) up l =
    let other : eqb y x ≡ false = ne_eqb y x (λ e. let under : x < y = omega (arith, up.0) in absurd (omega arith)) in
    ap (λ b. cond (not b) (y ∷ without_number ys x) (without_number ys x)) other
    ∙ ap (λ zs. y ∷ zs) (kept_above x (suc y) ys up.1 (omega (arith, up.0)))

least_first : (low : ℕ) (xs : List ℕ) (k : ℕ) → IsAscendingFrom low xs → has xs k ≡ true → ((n : ℕ) → n < k → has xs n ≡ false) → xs ≡ k ∷ without_number xs k
least_first low [] k up h least = absurd (false≢true h)
least_first low (x ∷ xs) k up h least =
    let above : x ≤ k = has_from_low x (x ∷ xs) k (omega arith, up.1) h in
    let below : k ≤ x = ⊎_elim (λ l. absurd (false≢true (sym (least x l) ∙ has_first x xs))) (λ g. g) (cases_lt x k) in
    let same : x ≡ k = omega arith in
    ap (λ y. y ∷ xs) same
    ∙ ap (λ ys. k ∷ ys) (sym (kept_above k (suc x) xs up.1 (omega arith)))
    ∙ ap (λ b. k ∷ cond (not b) (x ∷ without_number xs k) (without_number xs k)) (sym (eq-eqb x k same))

-- ---- a word by its lowest bit
bit_in_one : (w n : ℕ) → n < 64 → has_bit (w ∷ []) n ≡ bit_of w n
bit_in_one w n l = let at : n ≡ 64 * 0 + n = omega arith in ap (has_bit (w ∷ [])) at ∙ has_bit_at (w ∷ []) 0 n l

numbers_of-lowest : (w : ℕ) → 0 < w → w < 2 ^ 64 → numbers_of (w ∷ []) ≡ trailing_zeros w64 w ∷ numbers_of (without_lowest w ∷ [])
numbers_of-lowest w some fits =
    let low = bit_at-trailing_zeros w64 w some fits in
    let k : ℕ = trailing_zeros w64 w in
    let first : k / 64 ≡ 0 = omega (arith, low.0) in
    let place : k % 64 ≡ k = omega (arith, low.0) in
    least_first 0 (numbers_of (w ∷ [])) k (IsAscendingFrom-numbers_of (w ∷ []))
    (has-numbers_of (w ∷ []) k ∙ bit_in_one w k low.0 ∙ ap (λ v. eqb v 1) low.1)
    (λ n l. has-numbers_of (w ∷ []) n ∙ bit_in_one w n (omega (arith, low.0)) ∙ ap (λ v. eqb v 1) (low.2 n l))
    ∙ ap (λ ns. k ∷ ns) (sym (numbers_of-remove (w ∷ []) (without_lowest w ∷ []) k (λ n.
    ap (λ q. has_bit (set (w ∷ []) q (bit_and (get_or (w ∷ []) q 0) (bit_not w64 (1 * 2 ^ k % 2 ^ 64)))) n) (sym first)
    ∙ ap (λ j. has_bit (set (w ∷ []) (k / 64) (bit_and (get_or (w ∷ []) (k / 64) 0) (bit_not w64 (1 * 2 ^ j % 2 ^ 64)))) n) (sym place)
    ∙ has_bit-remove (w ∷ []) k n (omega (arith, first)))))

pub numbers_at-lowest : (i w : ℕ) → 0 < w → w < 2 ^ 64 → numbers_at i w ≡ (64 * i + trailing_zeros w64 w) ∷ numbers_at i (without_lowest w)
numbers_at-lowest i w some fits = ap (map (λ j. 64 * i + j)) (numbers_of-lowest w some fits)

pub numbers_at-zero : (i w : ℕ) → w ≡ 0 → numbers_at i w ≡ []
numbers_at-zero i w e = ap (numbers_at i) e ∙ ap (map (λ j. 64 * i + j)) (numbers_of-none 1)

-- one number more is pushed
pub pushed_more : (ys zs : List ℕ) (x : ℕ) (all : List ℕ) → ys ++ x ∷ zs ≡ all → (ys ++ x ∷ []) ++ zs ≡ all
pushed_more ys zs x all e = append_assoc ys (x ∷ []) zs ∙ e

-- ---- words one after another
range-append : (a n m : ℕ) → range_with_len a (n + m) ≡ range_with_len a n ++ range_with_len (a + n) m
range-append a zero m =
    let e : 0 + m ≡ m = omega arith in
    let f : a ≡ a + 0 = omega arith in
    ap (range_with_len a) e ∙ ap (λ b. range_with_len b m) f
range-append a (suc n) m =
    let e : suc n + m ≡ suc (n + m) = omega arith in
    let f : a + 1 + n ≡ a + suc n = omega arith in
    ap (range_with_len a) e ∙ ap (λ xs. a ∷ xs) (range-append (a + 1) n m ∙ ap (λ b. range_with_len (a + 1) n ++ range_with_len b m) f)

filter_range : (p q : ℕ → Bool) (a n : ℕ) → ((j : ℕ) → a ≤ j → j < a + n → p j ≡ q j) → filter p (range_with_len a n) ≡ filter q (range_with_len a n)
filter_range p q a zero h = refl
filter_range p q a (suc n) h =
    ap (λ b. cond b (a ∷ filter p (range_with_len (a + 1) n)) (filter p (range_with_len (a + 1) n))) (h a (omega arith) (omega arith))
    ∙ ap (λ xs. cond (q a) (a ∷ xs) xs) (filter_range p q (a + 1) n (λ j l g. h j (omega arith) (omega arith)))

filter_shifted : (p q : ℕ → Bool) (c a b n : ℕ) → b ≡ c + a → ((j : ℕ) → a ≤ j → j < a + n → p (c + j) ≡ q j) → filter p (range_with_len b n) ≡ map (λ j. c + j) (filter q (range_with_len a n))
filter_shifted p q c a b zero e h = refl
filter_shifted p q c a b (suc n) e h =
    ap (λ t. cond t (b ∷ filter p (range_with_len (b + 1) n)) (filter p (range_with_len (b + 1) n))) (ap p e ∙ h a (omega arith) (omega arith))
    ∙ ap (λ xs. cond (q a) (b ∷ xs) xs) (filter_shifted p q c (a + 1) (b + 1) n (omega arith) (λ j l g. h j (omega arith) (omega arith)))
    ∙ ap (λ x. cond (q a) (x ∷ map (λ j. c + j) (filter q (range_with_len (a + 1) n))) (map (λ j. c + j) (filter q (range_with_len (a + 1) n)))) e
    ∙ picked (q a)
  where
    picked : (t : Bool) → cond t ((c + a) ∷ map (λ j. c + j) (filter q (range_with_len (a + 1) n))) (map (λ j. c + j) (filter q (range_with_len (a + 1) n)))
        ≡ map (λ j. c + j) (cond t (a ∷ filter q (range_with_len (a + 1) n)) (filter q (range_with_len (a + 1) n)))
    picked true = refl
    picked false = refl

bit_in_front : (us vs : List ℕ) (n : ℕ) → n < 64 * length us → has_bit (us ++ vs) n ≡ has_bit us n
unfolding has_bit
bit_in_front us vs n l = ap (λ w. bit_of w (n % 64)) (get_or_append_left us vs 0 (n / 64) (omega arith))

bit_behind : (us vs : List ℕ) (n : ℕ) → has_bit (us ++ vs) (64 * length us + n) ≡ has_bit vs n
unfolding has_bit
bit_behind us vs n =
    let place : (64 * length us + n) / 64 ≡ length us + n / 64 = omega arith in
    let bit : (64 * length us + n) % 64 ≡ n % 64 = omega arith in
    ap (λ q. bit_of (get_or (us ++ vs) q 0) ((64 * length us + n) % 64)) place
    ∙ ap (λ w. bit_of w ((64 * length us + n) % 64)) (get_or-append-add us vs (n / 64) 0)
    ∙ ap (bit_of (get_or vs (n / 64) 0)) bit

numbers_of-append : (us vs : List ℕ) → numbers_of (us ++ vs) ≡ numbers_of us ++ map (λ j. 64 * length us + j) (numbers_of vs)
unfolding numbers_of
numbers_of-append us vs =
    let long : 64 * length (us ++ vs) ≡ 64 * length us + 64 * length vs = omega (arith, length-append us vs) in
    ap (λ n. filter (has_bit (us ++ vs)) (range_with_len 0 n)) long
    ∙ ap (filter (has_bit (us ++ vs))) (range-append 0 (64 * length us) (64 * length vs))
    ∙ filter-append (has_bit (us ++ vs)) (range_with_len 0 (64 * length us)) (range_with_len (0 + 64 * length us) (64 * length vs))
    ∙ ap (λ xs. xs ++ filter (has_bit (us ++ vs)) (range_with_len (0 + 64 * length us) (64 * length vs)))
    (filter_range (has_bit (us ++ vs)) (has_bit us) 0 (64 * length us) (λ j _ l. bit_in_front us vs j (omega arith)))
    ∙ ap (λ ys. filter (has_bit us) (range_with_len 0 (64 * length us)) ++ ys)
    (filter_shifted (has_bit (us ++ vs)) (has_bit vs) (64 * length us) 0 (0 + 64 * length us) (64 * length vs) (omega arith) (λ j _ _. bit_behind us vs j))

pub numbers_of-take : (ws : List ℕ) (i : ℕ) → i < length ws → numbers_of (take (i + 1) ws) ≡ numbers_of (take i ws) ++ numbers_at i (get_or ws i 0)
numbers_of-take ws i l =
    let next : i + 1 ≡ suc i = omega arith in
    ap (λ n. numbers_of (take n ws)) next
    ∙ ap numbers_of (take-suc ws i 0 l)
    ∙ numbers_of-append (take i ws) (get_or ws i 0 ∷ [])
    ∙ ap (λ n. numbers_of (take i ws) ++ map (λ j. 64 * n + j) (numbers_of (get_or ws i 0 ∷ []))) (length-take-le i ws (omega arith))
