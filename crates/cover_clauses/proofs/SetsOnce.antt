-- Lists of sets without repeats, as they grow set by set.
use Rattle.std.proofs.Common.{◌≡◌, ◌⊎◌, inl, inr, ⊎_elim, ℕ, zero, suc, ◌<◌, get_or, ◌∙◌, Bool, true, false, cond, List, [], ◌∷◌, ◌++◌, refl, sym, subst, arith}
use Rattle.std.proofs.lemmas.Bool.{true≢false}
use Rattle.std.proofs.lemmas.List.Elements.{Contains-append_cases, Contains-append_left, Contains-append_right}
use Rattle.std.specs.List.{Contains, fold, list_any}
use Rattle.mf_set.specs.Numbers.{Numbers}
use Rattle.mf_set.specs.Order.{numbers_eq, numbers_eq-same, same-numbers_eq}
use Rattle.cover_problem.proofs.Members.{any_at, any_from, at_first, at_later}
use Rattle.cover_clauses.specs.Clauses.{IsOnce, once_none, once_more}
use Rattle.cover_clauses.specs.Conflicts.{with_set}
use Rattle.cover_clauses.proofs.Elements.{once_append}

one_set : (x y : Numbers) → Contains (x ∷ []) y → x ≡ y
one_set x y h = by h.0 h.1 h.2
  where
    by : (k : ℕ) → k < 1 → get_or (x ∷ []) k y ≡ y → x ≡ y
    by zero l e = e
    by (suc k) l e = absurd (omega (arith, l))

-- one set more

with_cases : (sets : List Numbers) (s x : Numbers) (b : Bool) → Contains (cond b sets (sets ++ s ∷ [])) x → Contains sets x ⊎ (s ≡ x)
with_cases sets s x true h = inl h
with_cases sets s x false h = ⊎_elim (λ l. inl l) (λ r. inr (one_set s x r)) (Contains-append_cases sets (s ∷ []) x h)

with_keeps : (sets : List Numbers) (s x : Numbers) (b : Bool) → Contains sets x → Contains (cond b sets (sets ++ s ∷ [])) x
with_keeps sets s x true h = h
with_keeps sets s x false h = Contains-append_left sets (s ∷ []) x h

with_has : (sets : List Numbers) (s : Numbers) (b : Bool) → list_any (numbers_eq s) sets ≡ b → Contains (cond b sets (sets ++ s ∷ [])) s
with_has sets s true e = let r = any_at (numbers_eq s) sets e in subst (λ x. Contains sets x) (sym (numbers_eq-same s r.0 r.2)) r.1
with_has sets s false e = Contains-append_right sets (s ∷ []) s (at_first s [])

with_once : (sets : List Numbers) (s : Numbers) (b : Bool) → list_any (numbers_eq s) sets ≡ b → IsOnce sets → IsOnce (cond b sets (sets ++ s ∷ []))
with_once sets s true e h = h
with_once sets s false e h =
    once_append sets (s ∷ []) h (once_more (λ c. absurd (omega (arith, c.1))) once_none)
    (λ x l r. true≢false (sym (any_from (numbers_eq s) sets x l (same-numbers_eq s x (one_set s x r))) ∙ e))

-- the sets of a list

module _ {A : Type 0} (f : A → Numbers) where
  abbrev pub grown : List Numbers → List A → List Numbers
  grown sets xs = fold (λ sets x. with_set sets (f x)) sets xs

  -- a set that stands there is one of the list's
  pub record OfList (xs : List A) (s : Numbers) : Type 0 where
    pub part : A
    pub listed : Contains xs part
    pub is : f part ≡ s

  pub of_grown : (xs : List A) (sets : List Numbers) (s : Numbers) → Contains (grown sets xs) s → Contains sets s ⊎ OfList xs s
  of_grown [] sets s h = inl h
  of_grown (x ∷ xs) sets s h =
      ⊎_elim
      (λ before. ⊎_elim (λ old. inl old) (λ new. inr (record { part = x; listed = at_first x xs; is = new })) (with_cases sets (f x) s (list_any (numbers_eq (f x)) sets) before))
      (λ later. inr (record { part = later.part; listed = at_later x later.part xs later.listed; is = later.is }))
      (of_grown xs (with_set sets (f x)) s h)

  grown_keeps : (xs : List A) (sets : List Numbers) (s : Numbers) → Contains sets s → Contains (grown sets xs) s
  grown_keeps [] sets s h = h
  grown_keeps (x ∷ xs) sets s h = grown_keeps xs (with_set sets (f x)) s (with_keeps sets (f x) s (list_any (numbers_eq (f x)) sets) h)

  pub in_grown : (xs : List A) (sets : List Numbers) (x : A) → Contains xs x → Contains (grown sets xs) (f x)
  in_grown [] sets x (k, l, e) = absurd (omega (arith, l))
  in_grown (y ∷ ys) sets x (zero, l, e) =
      grown_keeps ys (with_set sets (f y)) (f x) (subst (λ z. Contains (with_set sets (f y)) (f z)) e (with_has sets (f y) (list_any (numbers_eq (f y)) sets) refl))
  in_grown (y ∷ ys) sets x (suc k, l, e) = in_grown ys (with_set sets (f y)) x (k, omega (arith, l), e)

  pub grown_once : (xs : List A) (sets : List Numbers) → IsOnce sets → IsOnce (grown sets xs)
  grown_once [] sets h = h
  grown_once (x ∷ xs) sets h = grown_once xs (with_set sets (f x)) (with_once sets (f x) (list_any (numbers_eq (f x)) sets) refl h)
