-- Laws of sets in words: the numbers of the words are those whose bits are set, and what a write to a word leaves.
use Rattle.std.proofs.Common.{◌≡◌, ◌≢◌, ◌↔◌, ℕ, zero, suc, ◌+◌, ◌-◌, ◌*◌, ◌/◌, ◌%◌, ◌^◌, ◌<◌, ◌≤◌, min, max, Bool, true, false, not, ◌&&◌, ◌||◌, ⊎_elim, List, length, get_or, set, eqb, leb, refl, sym, ap, ◌∙◌, subst, arith}
use Rattle.std.proofs.lemmas.Bool.{true≢false, false≢true, eq-eqb, ne_eqb, cases_eq, cases_lt, or_left, or_right, le-leb, lt-leb}
use Rattle.std.proofs.lemmas.Bool.Decides.{nat_tests}
use Rattle.std.proofs.lemmas.List.{get_or-set_same, get_or-set_other, get_or_past, ext_get_or}
use Rattle.std.proofs.lemmas.Nat.Bits.{bit_at_and, bit_at_or, bit_at-zero, bit_at-lt, bit_at_not, bit_at-trailing_zeros, bit_at_set_same, bit_at_set_other, ones_shl, bit_at_mask_inside, bit_at_mask_below, bit_at_clear_same, bit_at_clear_other}
use Rattle.std.specs.Prelude.{bit_and, bit_or}
use Rattle.std.proofs.lemmas.Nat.{and_le_l}
use Rattle.std.specs.Int.{bit_at, bit_not, trailing_zeros, w64}
use Rattle.std.specs.List.{range_with_len}
use Rattle.mf_set.specs.Numbers.{has, IsAscendingFrom}
use Rattle.mf_set.specs.Words.{bit_of, has_bit, numbers_of, IsLeast}
use Rattle.mf_set.proofs.NumberLaws.{has-filter, IsAscendingFrom-filter, same_from_members}

-- ---- one word
max_one : (a b : ℕ) → a < 2 → b < 2 → eqb (max a b) 1 ≡ (eqb a 1 || eqb b 1)
max_one a b p q = grind (arith, nat_tests)

min_one : (a b : ℕ) → a < 2 → b < 2 → eqb (min a b) 1 ≡ (eqb a 1 && eqb b 1)
min_one a b p q = grind (arith, nat_tests)

pub one_at_or : (a b i : ℕ) → eqb (bit_at (bit_or a b) i) 1 ≡ (eqb (bit_at a i) 1 || eqb (bit_at b i) 1)
one_at_or a b i = ap (λ v. eqb v 1) (bit_at_or a b i) ∙ max_one (bit_at a i) (bit_at b i) (bit_at-lt a i) (bit_at-lt b i)

pub one_at_and : (a b i : ℕ) → eqb (bit_at (bit_and a b) i) 1 ≡ (eqb (bit_at a i) 1 && eqb (bit_at b i) 1)
one_at_and a b i = ap (λ v. eqb v 1) (bit_at_and a b i) ∙ min_one (bit_at a i) (bit_at b i) (bit_at-lt a i) (bit_at-lt b i)

-- ---- a number's place
pub same_place : (n k : ℕ) → n / 64 ≡ k / 64 → n % 64 ≡ k % 64 → n ≡ k
same_place n k p q = omega arith

written : (ws : List ℕ) (q w n : ℕ) → q < length ws → n / 64 ≡ q → has_bit (set ws q w) n ≡ bit_of w (n % 64)
unfolding has_bit
written ws q w n l e = ap (λ v. eqb (bit_at v (n % 64)) 1) (ap (λ i. get_or (set ws q w) i 0) e ∙ get_or-set_same ws q w 0 l)

elsewhere : (ws : List ℕ) (q w n : ℕ) → n / 64 ≢ q → has_bit (set ws q w) n ≡ has_bit ws n
unfolding has_bit
elsewhere ws q w n e = ap (λ v. eqb (bit_at v (n % 64)) 1) (get_or-set_other ws q (n / 64) w 0 e)

pub bit_here : (ws : List ℕ) (q n : ℕ) → n / 64 ≡ q → has_bit ws n ≡ eqb (bit_at (get_or ws q 0) (n % 64)) 1
unfolding has_bit
bit_here ws q n e = ap (λ i. eqb (bit_at (get_or ws i 0) (n % 64)) 1) e

pub has_bit-insert : (ws : List ℕ) (k n : ℕ) → k / 64 < length ws → has_bit (set ws (k / 64) (bit_or (get_or ws (k / 64) 0) (1 * 2 ^ (k % 64) % 2 ^ 64))) n ≡ (eqb k n || has_bit ws n)
has_bit-insert ws k n l =
    let small : k % 64 < 64 = omega arith in
    let word : ℕ = bit_or (get_or ws (k / 64) 0) (1 * 2 ^ (k % 64) % 2 ^ 64) in
    ⊎_elim
    (λ e.
    ⊎_elim
    (λ f. written ws (k / 64) word n l e ∙ ap (λ i. eqb (bit_at word i) 1) f ∙ ap (λ v. eqb v 1) (bit_at_set_same w64 (get_or ws (k / 64) 0) (k % 64) small)
    ∙ sym (or_left (eqb k n) (has_bit ws n) (eq-eqb k n (sym (same_place n k e f)))))
    (λ f. written ws (k / 64) word n l e ∙ ap (λ v. eqb v 1) (bit_at_set_other w64 (get_or ws (k / 64) 0) (k % 64) small (n % 64) f) ∙ sym (bit_here ws (k / 64) n e)
    ∙ ap (λ b. b || has_bit ws n) (sym (ne_eqb k n (λ g. f (ap (λ m. m % 64) (sym g))))))
    (cases_eq (n % 64) (k % 64)))
    (λ e. elsewhere ws (k / 64) word n e ∙ ap (λ b. b || has_bit ws n) (sym (ne_eqb k n (λ g. e (ap (λ m. m / 64) (sym g))))))
    (cases_eq (n / 64) (k / 64))

and_true : (b : Bool) → b ≡ (b && true)
and_true true = refl
and_true false = refl

and_false : (b : Bool) → false ≡ (b && false)
and_false true = refl
and_false false = refl

pub has_bit-remove : (ws : List ℕ) (k n : ℕ) → k / 64 < length ws → has_bit (set ws (k / 64) (bit_and (get_or ws (k / 64) 0) (bit_not w64 (1 * 2 ^ (k % 64) % 2 ^ 64)))) n ≡ (has_bit ws n && not (eqb n k))
has_bit-remove ws k n l =
    let small : k % 64 < 64 = omega arith in
    let within : n % 64 < 64 = omega arith in
    let word : ℕ = bit_and (get_or ws (k / 64) 0) (bit_not w64 (1 * 2 ^ (k % 64) % 2 ^ 64)) in
    ⊎_elim
    (λ e.
    ⊎_elim
    (λ f. written ws (k / 64) word n l e ∙ ap (λ i. eqb (bit_at word i) 1) f ∙ ap (λ v. eqb v 1) (bit_at_clear_same w64 (get_or ws (k / 64) 0) (k % 64) small)
    ∙ and_false (has_bit ws n) ∙ ap (λ b. has_bit ws n && not b) (sym (eq-eqb n k (same_place n k e f))))
    (λ f. written ws (k / 64) word n l e ∙ ap (λ v. eqb v 1) (bit_at_clear_other w64 (get_or ws (k / 64) 0) (k % 64) small (n % 64) within f) ∙ sym (bit_here ws (k / 64) n e)
    ∙ and_true (has_bit ws n) ∙ ap (λ b. has_bit ws n && not b) (sym (ne_eqb n k (λ g. f (ap (λ m. m % 64) g)))))
    (cases_eq (n % 64) (k % 64)))
    (λ e. elsewhere ws (k / 64) word n e ∙ and_true (has_bit ws n) ∙ ap (λ b. has_bit ws n && not b) (sym (ne_eqb n k (λ g. e (ap (λ m. m / 64) g)))))
    (cases_eq (n / 64) (k / 64))

-- ---- the numbers of words
pub has_bit_past : (ws : List ℕ) (n : ℕ) → 64 * length ws ≤ n → has_bit ws n ≡ false
unfolding has_bit
has_bit_past ws n h =
    let past : length ws ≤ n / 64 = omega arith in
    ap (λ v. eqb (bit_at v (n % 64)) 1) (get_or_past ws (n / 64) 0 past) ∙ ap (λ v. eqb v 1) (bit_at-zero (n % 64))

has_range : (a m n : ℕ) → a ≤ n → n < a + m → has (range_with_len a m) n ≡ true
has_range a zero n p q = absurd (omega arith)
has_range a (suc m) n p q =
    ⊎_elim
    (λ e. or_left (eqb a n) (has (range_with_len (a + 1) m) n) (eq-eqb a n e))
    (λ e. let above : a + 1 ≤ n = omega arith in let within : n < a + 1 + m = omega arith in or_right (eqb a n) (has (range_with_len (a + 1) m) n) (has_range (a + 1) m n above within))
    (cases_eq a n)

range_ascends : (low a m : ℕ) → low ≤ a → IsAscendingFrom low (range_with_len a m)
range_ascends low a zero l = tt
range_ascends low a (suc m) l = (l, range_ascends (suc a) (a + 1) m (omega arith))

pub has-numbers_of : (ws : List ℕ) (n : ℕ) → has (numbers_of ws) n ≡ has_bit ws n
unfolding numbers_of
has-numbers_of ws n =
    has-filter (has_bit ws) (range_with_len 0 (64 * length ws)) n
    ∙ ⊎_elim
    (λ l. let within : n < 0 + 64 * length ws = omega arith in ap (λ b. b && has_bit ws n) (has_range 0 (64 * length ws) n (omega arith) within))
    (λ g. ap (λ b. has (range_with_len 0 (64 * length ws)) n && b) (has_bit_past ws n g) ∙ sym (and_false (has (range_with_len 0 (64 * length ws)) n)) ∙ sym (has_bit_past ws n g))
    (cases_lt n (64 * length ws))

pub IsAscendingFrom-numbers_of : (ws : List ℕ) → IsAscendingFrom 0 (numbers_of ws)
unfolding numbers_of
IsAscendingFrom-numbers_of ws = IsAscendingFrom-filter (has_bit ws) 0 (range_with_len 0 (64 * length ws)) (range_ascends 0 0 (64 * length ws) (omega arith))

-- an ascending list that has the numbers whose bits are set is the list of the words
pub numbers_of_is : (ws : List ℕ) (xs : List ℕ) → IsAscendingFrom 0 xs → ((n : ℕ) → has_bit ws n ≡ has xs n) → numbers_of ws ≡ xs
numbers_of_is ws xs up h = same_from_members 0 (numbers_of ws) xs (IsAscendingFrom-numbers_of ws) up (λ n. has-numbers_of ws n ∙ h n)

-- ---- word by word
-- the words below i are f of those of us and vs, and the others those of us
pub record Combines (f : ℕ → ℕ → ℕ) (us vs ws : List ℕ) (i : ℕ) : Type 0 where
  pub done : (k : ℕ) → k < i → get_or ws k 0 ≡ f (get_or us k 0) (get_or vs k 0)
  pub rest : (k : ℕ) → i ≤ k → get_or ws k 0 ≡ get_or us k 0

zero_word : (j : ℕ) → bit_of 0 j ≡ false
zero_word j = ap (λ v. eqb v 1) (bit_at-zero j)

-- a bit of the words is what t gives of those of us and vs, where f gives it of each bit of a word
has_bit-combined : (f : ℕ → ℕ → ℕ) (t : Bool → Bool → Bool) → ((a b j : ℕ) → bit_of (f a b) j ≡ t (bit_of a j) (bit_of b j)) → t false false ≡ false → (us vs ws : List ℕ) (i : ℕ) → length us ≡ length vs → i ≡ length us → Combines f us vs ws i → (n : ℕ) → has_bit ws n ≡ t (has_bit us n) (has_bit vs n)
unfolding has_bit
has_bit-combined f t each none us vs ws i same all h n =
    ⊎_elim
    (λ l. ap (λ v. bit_of v (n % 64)) (h.done (n / 64) (omega arith)) ∙ each (get_or us (n / 64) 0) (get_or vs (n / 64) 0) (n % 64))
    (λ g.
    let past : length vs ≤ n / 64 = omega arith in
    let no_u : bit_of (get_or us (n / 64) 0) (n % 64) ≡ false = ap (λ v. bit_of v (n % 64)) (get_or_past us (n / 64) 0 g) ∙ zero_word (n % 64) in
    let no_v : bit_of (get_or vs (n / 64) 0) (n % 64) ≡ false = ap (λ v. bit_of v (n % 64)) (get_or_past vs (n / 64) 0 past) ∙ zero_word (n % 64) in
    ap (λ v. bit_of v (n % 64)) (h.rest (n / 64) (omega arith)) ∙ no_u ∙ sym none ∙ ap (λ b. t b false) (sym no_u) ∙ ap (λ b. t (bit_of (get_or us (n / 64) 0) (n % 64)) b) (sym no_v))
    (cases_lt (n / 64) (length us))

pub has_bit-union : (us vs ws : List ℕ) (i : ℕ) → length us ≡ length vs → i ≡ length us → Combines bit_or us vs ws i → (n : ℕ) → has_bit ws n ≡ (has_bit us n || has_bit vs n)
has_bit-union = has_bit-combined bit_or (λ a b. a || b) one_at_or refl

pub has_bit-meet : (us vs ws : List ℕ) (i : ℕ) → length us ≡ length vs → i ≡ length us → Combines bit_and us vs ws i → (n : ℕ) → has_bit ws n ≡ (has_bit us n && has_bit vs n)
has_bit-meet = has_bit-combined bit_and (λ a b. a && b) one_at_and refl

-- whether one of the first i words is another behind f
abbrev pub Changes : (ℕ → ℕ → ℕ) → List ℕ → List ℕ → Bool → ℕ → Type 0
Changes f us vs changed i = (changed ≡ false) ↔ ((k : ℕ) → k < i → f (get_or us k 0) (get_or vs k 0) ≡ get_or us k 0)

pub Changes-all : (f : ℕ → ℕ → ℕ) (us vs ws : List ℕ) (changed : Bool) (i : ℕ) → length ws ≡ length us → length us ≤ i → Combines f us vs ws i → Changes f us vs changed i → (changed ≡ false) ↔ (ws ≡ us)
Changes-all f us vs ws changed i same all h c = (
  λ kept. ext_get_or 0 ws us same (λ k l. h.done k (omega arith) ∙ c.0 kept k (omega arith)),
  λ e. c.1 (λ k l. sym (h.done k l) ∙ ap (λ xs. get_or xs k 0) e),
)

-- ---- the bits of one word
-- the bit j of word i
pub has_bit_at : (ws : List ℕ) (i j : ℕ) → j < 64 → has_bit ws (64 * i + j) ≡ bit_of (get_or ws i 0) j
unfolding has_bit
has_bit_at ws i j l =
    let place : (64 * i + j) / 64 ≡ i = omega arith in
    let bit : (64 * i + j) % 64 ≡ j = omega arith in
    ap (λ q. bit_of (get_or ws q 0) ((64 * i + j) % 64)) place ∙ ap (bit_of (get_or ws i 0)) bit

-- what holds of each bit of the first i words and of word i holds of each bit of the first i + 1
pub each_bit_more : (P : ℕ → Type 0) (i : ℕ) → ((n : ℕ) → n < 64 * i → P n) → ((j : ℕ) → j < 64 → P (64 * i + j)) → (n : ℕ) → n < 64 * (i + 1) → P n
each_bit_more P i before here n l =
    ⊎_elim
    (λ k. before n k)
    (λ k. let is : 64 * i + (n - 64 * i) ≡ n = omega arith in subst P is (here (n - 64 * i) (omega arith)))
    (cases_lt n (64 * i))

-- the least number that passes stands at the lowest bit of the first word with a bit that passes
pub IsLeast-in_word : (test : ℕ → Bool) (i w : ℕ) → 0 < w → w < 2 ^ 64 → ((j : ℕ) → j < 64 → test (64 * i + j) ≡ bit_of w j) → ((n : ℕ) → n < 64 * i → test n ≡ false) → IsLeast test (64 * i + trailing_zeros w64 w)
IsLeast-in_word test i w some fits agree before =
    let low = bit_at-trailing_zeros w64 w some fits in
    record {
      passes = agree (trailing_zeros w64 w) low.0 ∙ ap (λ v. eqb v 1) low.1;
      least = λ n l.
          ⊎_elim
          (λ k. before n k)
          (λ k.
          let is : 64 * i + (n - 64 * i) ≡ n = omega arith in
          let under : n - 64 * i < trailing_zeros w64 w = omega arith in
          let inside : n - 64 * i < 64 = omega (arith, low.0) in
          subst (λ m. test m ≡ false) is (agree (n - 64 * i) inside ∙ ap (λ v. eqb v 1) (low.2 (n - 64 * i) under)))
          (cases_lt n (64 * i));
    }

pub none-in_word : (test : ℕ → Bool) (i w : ℕ) → w ≡ 0 → ((j : ℕ) → j < 64 → test (64 * i + j) ≡ bit_of w j) → ((n : ℕ) → n < 64 * i → test n ≡ false) → (n : ℕ) → n < 64 * (i + 1) → test n ≡ false
none-in_word test i w none agree before = each_bit_more (λ n. test n ≡ false) i before (λ j l. agree j l ∙ ap (λ v. bit_of v j) none ∙ zero_word j)

-- ---- the bits of a word that another lacks
bit_of-not : (b j : ℕ) → b < 2 ^ 64 → j < 64 → bit_of (bit_not w64 b) j ≡ not (bit_of b j)
bit_of-not b j fits l =
    ap (λ v. eqb v 1) (bit_at_not w64 b j fits l)
    ∙ (let small : bit_at b j < 2 = bit_at-lt b j in flip (bit_at b j) small)
  where
    flip : (v : ℕ) → v < 2 → eqb (1 - v) 1 ≡ not (eqb v 1)
    flip v s = grind (arith, nat_tests)

bit_of-lacks : (a b j : ℕ) → b < 2 ^ 64 → j < 64 → bit_of (bit_and a (bit_not w64 b)) j ≡ (bit_of a j && not (bit_of b j))
bit_of-lacks a b j fits l = one_at_and a (bit_not w64 b) j ∙ ap (λ t. bit_of a j && t) (bit_of-not b j fits l)

kept_by : (x y : Bool) → (x && not y) ≡ false → x ≡ true → y ≡ true
kept_by true true e h = refl
kept_by true false e h = absurd (true≢false e)
kept_by false y e h = absurd (false≢true h)

lost_by : (x y : Bool) → (x && not y) ≡ true → (x ≡ true) × (y ≡ false)
lost_by true true e = absurd (false≢true e)
lost_by true false e = (refl, refl)
lost_by false y e = absurd (false≢true e)

pub no_bit_lacks : (us vs : List ℕ) (i v : ℕ) → v ≡ get_or vs i 0 → v < 2 ^ 64 → bit_and (get_or us i 0) (bit_not w64 v) ≡ 0 → ((n : ℕ) → n < 64 * i → has_bit us n ≡ true → has_bit vs n ≡ true) → (n : ℕ) → n < 64 * (i + 1) → has_bit us n ≡ true → has_bit vs n ≡ true
no_bit_lacks us vs i v e fits none before =
    each_bit_more (λ n. has_bit us n ≡ true → has_bit vs n ≡ true) i before
    (λ j l h. has_bit_at vs i j l ∙ ap (λ w. bit_of w j) (sym e) ∙ kept_by (bit_of (get_or us i 0) j) (bit_of v j) (sym (bit_of-lacks (get_or us i 0) v j fits l) ∙ ap (λ w. bit_of w j) none ∙ zero_word j) (sym (has_bit_at us i j l) ∙ h))

pub some_bit_lacks : (us vs : List ℕ) (i v : ℕ) → v ≡ get_or vs i 0 → v < 2 ^ 64 → get_or us i 0 < 2 ^ 64 → 0 < bit_and (get_or us i 0) (bit_not w64 v) → ((n : ℕ) → has_bit us n ≡ true → has_bit vs n ≡ true) → ⊥
some_bit_lacks us vs i v e fits fits' some all =
    let lacking : ℕ = bit_and (get_or us i 0) (bit_not w64 v) in
    let small : lacking < 2 ^ 64 = omega (arith, and_le_l (get_or us i 0) (bit_not w64 v)) in
    let low = bit_at-trailing_zeros w64 lacking some small in
    let j : ℕ = trailing_zeros w64 lacking in
    let is = lost_by (bit_of (get_or us i 0) j) (bit_of v j) (sym (bit_of-lacks (get_or us i 0) v j fits low.0) ∙ ap (λ w. eqb w 1) low.1) in
    false≢true (sym is.1 ∙ ap (λ w. bit_of w j) e ∙ sym (has_bit_at vs i j low.0) ∙ all (64 * i + j) (has_bit_at us i j low.0 ∙ is.0))

pub each_past : (us vs : List ℕ) (i : ℕ) → length us ≤ i → ((n : ℕ) → n < 64 * i → has_bit us n ≡ true → has_bit vs n ≡ true) → (n : ℕ) → has_bit us n ≡ true → has_bit vs n ≡ true
each_past us vs i all before n h =
    ⊎_elim (λ l. before n l h) (λ g. absurd (false≢true (sym (has_bit_past us n (omega arith)) ∙ h))) (cases_lt n (64 * i))

-- ---- what a scan of the words finds
pub common_here : (us vs : List ℕ) (i v j : ℕ) → v ≡ get_or vs i 0 → j < 64 → (has_bit us (64 * i + j) && has_bit vs (64 * i + j)) ≡ bit_of (bit_and (get_or us i 0) v) j
common_here us vs i v j e l =
    ap (λ b. b && has_bit vs (64 * i + j)) (has_bit_at us i j l)
    ∙ ap (λ b. bit_of (get_or us i 0) j && b) (has_bit_at vs i j l ∙ ap (λ w. bit_of w j) (sym e))
    ∙ sym (one_at_and (get_or us i 0) v j)

-- a test that wants a bit of the words fails at each number, where it fails below their end
pub none_past : (test : ℕ → Bool) (ws : List ℕ) (i : ℕ) → length ws ≤ i → ((n : ℕ) → has_bit ws n ≡ false → test n ≡ false) → ((n : ℕ) → n < 64 * i → test n ≡ false) → (n : ℕ) → test n ≡ false
none_past test ws i all wants before n =
    ⊎_elim (λ l. before n l) (λ g. wants n (has_bit_past ws n (omega arith))) (cases_lt n (64 * i))

-- the bits of a word from a number on
pub bit_of-from : (w from j : ℕ) → j < 64 → bit_of (bit_and w ((2 ^ 64 - 1) * 2 ^ (from % 64) % 2 ^ 64)) j ≡ (leb from (64 * (from / 64) + j) && bit_of w j)
bit_of-from w from j l =
    let low : from % 64 ≤ 64 = omega arith in
    one_at_and w ((2 ^ 64 - 1) * 2 ^ (from % 64) % 2 ^ 64) j
    ∙ ap (λ m. bit_of w j && bit_of m j) (ones_shl 64 (from % 64) low)
    ∙ ⊎_elim
    (λ under. ap (λ v. bit_of w j && eqb v 1) (bit_at_mask_below (from % 64) 64 j under) ∙ sym (and_false (bit_of w j)) ∙ ap (λ b. b && bit_of w j) (sym (lt-leb from (64 * (from / 64) + j) (omega arith))))
    (λ over. ap (λ v. bit_of w j && eqb v 1) (bit_at_mask_inside (from % 64) 64 j over l) ∙ sym (and_true (bit_of w j)) ∙ ap (λ b. b && bit_of w j) (sym (le-leb from (64 * (from / 64) + j) (omega arith))))
    (cases_lt j (from % 64))

-- ---- no bit at all
pub has_no_bit : (ws : List ℕ) → ((k : ℕ) → k < length ws → get_or ws k 0 ≡ 0) → (n : ℕ) → has_bit ws n ≡ false
unfolding has_bit
has_no_bit ws h n =
    ap (λ w. bit_of w (n % 64)) (⊎_elim (λ l. h (n / 64) l) (λ g. get_or_past ws (n / 64) 0 g) (cases_lt (n / 64) (length ws)))
    ∙ zero_word (n % 64)

zero_from_bits : (w : ℕ) → w < 2 ^ 64 → ((j : ℕ) → j < 64 → bit_of w j ≡ false) → w ≡ 0
zero_from_bits w fits none =
    ⊎_elim
    (λ e. e)
    (λ ne.
    let low = bit_at-trailing_zeros w64 w (omega arith) fits in
    absurd (false≢true (sym (none (trailing_zeros w64 w) low.0) ∙ ap (λ v. eqb v 1) low.1)))
    (cases_eq w 0)

pub zero_from_no_bit : (ws : List ℕ) (k : ℕ) → get_or ws k 0 < 2 ^ 64 → ((n : ℕ) → has_bit ws n ≡ false) → get_or ws k 0 ≡ 0
zero_from_no_bit ws k fits none = zero_from_bits (get_or ws k 0) fits (λ j l. sym (has_bit_at ws k j l) ∙ none (64 * k + j))

pub from_here : (ws : List ℕ) (i w from : ℕ) → ((j : ℕ) → j < 64 → bit_of w j ≡ (leb from (64 * i + j) && bit_of (get_or ws i 0) j)) → (j : ℕ) → j < 64 → (leb from (64 * i + j) && has_bit ws (64 * i + j)) ≡ bit_of w j
from_here ws i w from h j l = ap (λ b. leb from (64 * i + j) && b) (has_bit_at ws i j l) ∙ sym (h j l)
