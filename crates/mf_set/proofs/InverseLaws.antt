-- The words of a set, from its numbers.
use Rattle.std.proofs.Common.{◌≡◌, ◌↔◌, ℕ, ◌≤◌, ⊎_elim, subst, zero, suc, ◌+◌, ◌*◌, ◌%◌, ◌^◌, ◌<◌, Bool, true, false, cond, List, [], ◌∷◌, length, take, drop, ◌-◌, get_or, eqb, refl, sym, ap, ◌∙◌, arith}
use Rattle.std.proofs.lemmas.Bool.{cases_lt}
use Rattle.std.proofs.lemmas.Nat.{mod-pow-add}
use Rattle.std.proofs.lemmas.Nat.Bits.{bit_at-lt}
use Rattle.std.proofs.lemmas.List.FromFn.{fill_by_all}
use Rattle.std.proofs.lemmas.List.{take_all}
use Rattle.std.proofs.Math.Nat.{mod-eq_of_lt}
use Rattle.std.specs.Int.{bit_at}
use Rattle.mf_set.specs.Numbers.{has, word_of, words_of, pairs_of}
use Rattle.mf_set.specs.Words.{bit_of, numbers_of}
use Rattle.mf_set.proofs.WordLaws.{has_bit_at, has-numbers_of, Combines, Changes, Changes-all}

one_is : (v : ℕ) → v < 2 → cond (eqb v 1) 1 0 ≡ v
one_is zero s = refl
one_is (suc zero) s = refl
one_is (suc (suc v)) s = absurd (omega arith)

times_one : (b : Bool) (m : ℕ) → cond b m 0 ≡ cond b 1 0 * m
times_one true m = omega arith
times_one false m = omega arith

-- the low n bits of a word give it back
word_of-bits : (p : ℕ → Bool) (w n : ℕ) → ((j : ℕ) → j < n → p j ≡ bit_of w j) → word_of p n ≡ w % 2 ^ n
unfolding word_of
word_of-bits p w zero h = omega arith
word_of-bits p w (suc n) h =
    let next : 1 + n ≡ suc n = omega arith in
    ap (λ b. cond b (2 ^ n) 0 + word_of p n) (h n (omega arith))
    ∙ ap (λ m. cond (bit_of w n) (2 ^ n) 0 + m) (word_of-bits p w n (λ j l. h j (omega arith)))
    ∙ ap (λ m. m + w % 2 ^ n) (times_one (bit_of w n) (2 ^ n) ∙ ap (λ v. v * 2 ^ n) (one_is (bit_at w n) (bit_at-lt w n)))
    ∙ sym (mod-pow-add w 1 n)
    ∙ ap (λ m. w % 2 ^ m) next

pub words_of-numbers : (ws : List ℕ) → ((k : ℕ) → get_or ws k 0 < 2 ^ 64) → words_of (length ws) (numbers_of ws) ≡ ws
unfolding words_of
words_of-numbers ws fit =
    sym (fill_by_all (λ i. word_of (λ j. has (numbers_of ws) (64 * i + j)) 64) ws (length ws) 0 refl
    (λ k l.
    sym (word_of-bits (λ j. has (numbers_of ws) (64 * k + j)) (get_or ws k 0) 64 (λ j s. has-numbers_of ws (64 * k + j) ∙ has_bit_at ws k j s)
    ∙ mod-eq_of_lt (fit k))))

-- words of the same numbers are the same
pub same_words : (us vs : List ℕ) → ((k : ℕ) → get_or us k 0 < 2 ^ 64) → ((k : ℕ) → get_or vs k 0 < 2 ^ 64) → length us ≡ length vs → numbers_of us ≡ numbers_of vs → us ≡ vs
same_words us vs f g l e =
    sym (words_of-numbers us f) ∙ ap (words_of (length us)) e ∙ ap (λ n. words_of n (numbers_of vs)) l ∙ words_of-numbers vs g

-- words combined from others have other numbers exactly where one of them is another
pub Changes-numbers : (f : ℕ → ℕ → ℕ) → ((a b : ℕ) → a < 2 ^ 64 → b < 2 ^ 64 → f a b < 2 ^ 64) → (us vs ws : List ℕ) (changed : Bool) (i : ℕ)
    → ((k : ℕ) → get_or us k 0 < 2 ^ 64) → ((k : ℕ) → get_or vs k 0 < 2 ^ 64) → length ws ≡ length us → length us ≤ i → Combines f us vs ws i → Changes f us vs changed i
    → (changed ≡ false) ↔ (numbers_of ws ≡ numbers_of us)
Changes-numbers f bound us vs ws changed i fu fv same all h c =
    let words = Changes-all f us vs ws changed i same all h c in
    let fw : (k : ℕ) → get_or ws k 0 < 2 ^ 64 =
    λ k. ⊎_elim
    (λ l. subst (λ w. w < 2 ^ 64) (sym (h.done k l)) (bound (get_or us k 0) (get_or vs k 0) (fu k) (fv k)))
    (λ g. subst (λ w. w < 2 ^ 64) (sym (h.rest k g)) (fu k))
    (cases_lt k i) in
    (λ kept. ap numbers_of (words.0 kept), λ e. words.1 (same_words ws us fw fu same e))

-- ---- words two by two
pub pairs_of-two : (ws : List ℕ) (word : ℕ) → 2 ≤ length ws → word ≡ get_or ws 0 0 + get_or ws 1 0 * 2 ^ 64 → pairs_of ws ≡ word ∷ pairs_of (take (length ws - 2) (drop 2 ws))
unfolding pairs_of
pairs_of-two [] word l e = absurd (omega arith)
pairs_of-two (low ∷ []) word l e = absurd (omega arith)
pairs_of-two (low ∷ high ∷ ws) word l e = ap (λ w. w ∷ pairs_of ws) (sym e) ∙ ap (λ xs. word ∷ pairs_of xs) (sym (take_all (length (low ∷ high ∷ ws) - 2) ws (omega arith)))

pub pairs_of-one : (ws : List ℕ) → length ws ≡ 1 → pairs_of ws ≡ get_or ws 0 0 ∷ []
unfolding pairs_of
pairs_of-one [] e = absurd (omega arith)
pairs_of-one (low ∷ []) e = refl
pairs_of-one (low ∷ high ∷ ws) e = absurd (omega arith)

pub pairs_of-none : (ws : List ℕ) → length ws < 1 → pairs_of ws ≡ []
unfolding pairs_of
pairs_of-none [] l = refl
pairs_of-none (low ∷ ws) l = absurd (omega arith)
