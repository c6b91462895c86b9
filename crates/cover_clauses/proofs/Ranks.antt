-- Where those of the first numbers that pass a test stand among them.
use Rattle.std.proofs.Common.{◌≡◌, ℕ, zero, suc, ◌+◌, ◌<◌, Bool, true, false, cond, List, ◌∷◌, length, slice_get, Some, ap, sym, subst, ◌∙◌, arith}
use Rattle.std.specs.List.{filter, range_with_len}

module _ (p : ℕ → Bool) where
  -- those that pass from a on
  abbrev pub passing : ℕ → ℕ → List ℕ
  passing a n = filter p (range_with_len a n)

  -- what passes stands behind as many as pass before it
  pub ranked_from : (a j n : ℕ) → j < n → p (a + j) ≡ true → slice_get (passing a n) (length (passing a j)) ≡ Some (a + j)
  ranked_from a zero zero l e = absurd (omega arith)
  ranked_from a zero (suc n) l e =
      let here : a + 0 ≡ a = omega arith in
      let passes : p a ≡ true = subst (λ k. p k ≡ true) here e in
      ap (λ b. slice_get (cond b (a ∷ passing (a + 1) n) (passing (a + 1) n)) 0) passes ∙ ap Some (sym here)
  ranked_from a (suc j) zero l e = absurd (omega arith)
  ranked_from a (suc j) (suc n) l e =
      let on : a + suc j ≡ a + 1 + j = omega arith in
      let later : slice_get (passing (a + 1) n) (length (passing (a + 1) j)) ≡ Some (a + 1 + j) = ranked_from (a + 1) j n (omega arith) (subst (λ k. p k ≡ true) on e) in
      elim (p a) as (λ b. slice_get (cond b (a ∷ passing (a + 1) n) (passing (a + 1) n)) (length (cond b (a ∷ passing (a + 1) j) (passing (a + 1) j))) ≡ Some (a + suc j)) [
        | true ↦ later ∙ ap Some (sym on)
        | false ↦ later ∙ ap Some (sym on)
      ]

  pub ranked : (k n : ℕ) → k < n → p k ≡ true → slice_get (passing 0 n) (length (passing 0 k)) ≡ Some k
  ranked k n l e =
      let at : 0 + k ≡ k = omega arith in
      ranked_from 0 k n l (subst (λ j. p j ≡ true) (sym at) e) ∙ ap Some at
