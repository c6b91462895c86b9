-- Marks that are drawn expression by expression.
use Rattle.std.proofs.Common.{◌≡◌, ◌≢◌, ℕ, zero, suc, ◌+◌, ◌<◌, ◌≤◌, Bool, true, false, cond, eqb, ltb, ⊎_elim, List, [], ◌∷◌, ◌++◌, refl, ap, sym, ◌∙◌, arith, append-nil}
use Rattle.std.proofs.lemmas.Bool.{cases_Bool, ltb-true, ne_eqb}
use Rattle.std.specs.List.{filter, range_with_len}
use Rattle.std.proofs.lemmas.List.Elements.{filter-append}
use Rattle.mf_set.specs.Numbers.{with_number}
use Rattle.ts_domain.specs.declared.marks.Mark.{Mark}
use Rattle.ts_domain.specs.declared.marks.Verdict.{Verdict}
use Rattle.ts_domain.specs.declared.marks.Verdict.TheVariants.{Yes, No, Open}
use Rattle.ts_domain.specs.Marks.{is_no, is_yes, marked_below, with_verdict}
use Rattle.ts_domain.proofs.RowLaws.{range_last}

not_less : (a k : ℕ) → a < k → ltb k a ≡ false
not_less a k l = ⊎_elim (λ t. let less : k < a = ltb-true k a t in absurd (omega arith)) (λ e. e) (cases_Bool (ltb k a))

not_same : (a k : ℕ) → a < k → eqb k a ≡ false
not_same a k l = ne_eqb k a (λ e. omega arith)

-- a number above all of a list comes last
last_step : (b : Bool) (a k : ℕ) (ys : List ℕ) → a < k → with_number ys k ≡ ys ++ k ∷ [] → with_number (cond b (a ∷ ys) ys) k ≡ cond b (a ∷ ys) ys ++ k ∷ []
last_step true a k ys l e = rw (not_less a k l, not_same a k l) (ap (λ zs. a ∷ zs) e)
last_step false a k ys l e = e

last_number : (p : ℕ → Bool) (a n k : ℕ) → a + n ≤ k → with_number (filter p (range_with_len a n)) k ≡ filter p (range_with_len a n) ++ k ∷ []
last_number p a zero k l = refl
last_number p a (suc n) k l = last_step (p a) a k (filter p (range_with_len (a + 1) n)) (omega arith) (last_number p (a + 1) n k (omega arith))

single_passing : (p : ℕ → Bool) (n : ℕ) (b : Bool) → p n ≡ b → filter p (n ∷ []) ≡ cond b (n ∷ []) []
single_passing p n true e = rw e refl
single_passing p n false e = rw e refl

-- the numbers below n + 1 that pass a test
next_numbers : (p : ℕ → Bool) (n : ℕ) (b : Bool) → p n ≡ b → filter p (range_with_len 0 (n + 1)) ≡ filter p (range_with_len 0 n) ++ cond b (n ∷ []) []
next_numbers p n b e =
    let on : n + 1 ≡ suc n = omega arith in
    ap (λ k. filter p (range_with_len 0 k)) on
    ∙ ap (filter p) (range_last 0 n n (omega arith))
    ∙ filter-append p (range_with_len 0 n) (n ∷ [])
    ∙ ap (λ xs. filter p (range_with_len 0 n) ++ xs) (single_passing p n b e)

with_next : (p : ℕ → Bool) (n : ℕ) → p n ≡ true → with_number (filter p (range_with_len 0 n)) n ≡ filter p (range_with_len 0 (n + 1))
with_next p n e = last_number p 0 n n (omega arith) ∙ sym (next_numbers p n true e)

without_next : (p : ℕ → Bool) (n : ℕ) → p n ≡ false → filter p (range_with_len 0 n) ≡ filter p (range_with_len 0 (n + 1))
without_next p n e = sym (append-nil (filter p (range_with_len 0 n))) ∙ sym (next_numbers p n false e)

-- one number more, in its place if it passes
pub next_passing : (p : ℕ → Bool) (n : ℕ) (b : Bool) → b ≡ p n → cond b (with_number (filter p (range_with_len 0 n)) n) (filter p (range_with_len 0 n)) ≡ filter p (range_with_len 0 (n + 1))
next_passing p n true e = with_next p n (sym e)
next_passing p n false e = without_next p n (sym e)

draw_by : (n count site : ℕ) (v : ℕ → Verdict) (u : Verdict) → v n ≡ u → with_verdict (marked_below n count site v) n u ≡ marked_below (n + 1) count site v
draw_by n count site v Yes e = λ i. record {
  site = site;
  holds = record { items = with_next (λ d. is_yes (v d)) n (ap is_yes e) i; room = count };
  lacks = record { items = without_next (λ d. is_no (v d)) n (ap is_no e) i; room = count };
}
draw_by n count site v No e = λ i. record {
  site = site;
  holds = record { items = without_next (λ d. is_yes (v d)) n (ap is_yes e) i; room = count };
  lacks = record { items = with_next (λ d. is_no (v d)) n (ap is_no e) i; room = count };
}
draw_by n count site v Open e = λ i. record {
  site = site;
  holds = record { items = without_next (λ d. is_yes (v d)) n (ap is_yes e) i; room = count };
  lacks = record { items = without_next (λ d. is_no (v d)) n (ap is_no e) i; room = count };
}

-- one verdict more
pub draw_more : (n count site : ℕ) (v : ℕ → Verdict) → with_verdict (marked_below n count site v) n (v n) ≡ marked_below (n + 1) count site v
draw_more n count site v = draw_by n count site v (v n) refl
