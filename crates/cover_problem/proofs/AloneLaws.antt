-- The least site and exit among triples that come in turn.
use Rattle.std.proofs.Common.{◌≡◌, ◌⊎◌, inl, inr, ℕ, ◌<◌, ◌≤◌, ◌==◌, ◌&&◌, ◌||◌, Bool, true, false, cond, eqb, ltb, List, [], ◌∷◌, ◌++◌, Option, Some, None, ⊎_elim, refl, ap, sym, subst, ◌∙◌, arith}
use Rattle.std.proofs.lemmas.Bool.{or_cases, and_parts, cases_Bool, eqb-true, eq-eqb, ltb-true, ltb-false, lt-ltb, le-ltb, false≢true, true≢false}
use Rattle.std.proofs.lemmas.List.Elements.{Contains-push_cases, Contains-append_left, Contains-append_right}
use Rattle.std.specs.List.{Contains}
use Rattle.mf_set.specs.Numbers.{Numbers}
use Rattle.cover_problem.specs.declared.types.Problem.{Problem}
use Rattle.cover_problem.specs.Alone.{are_barred, is_before, least_with, lesser, IsLeastOf, LeastOf}
use Rattle.cover_problem.proofs.Members.{at_first}

-- sites and exits in their order

abbrev Before : ℕ × ℕ → ℕ × ℕ → Type 0
Before a b = (a.0 < b.0) ⊎ ((a.0 ≡ b.0) × (a.1 < b.1))

before_so : (a b : ℕ × ℕ) → is_before a b ≡ true → Before a b
before_so a b e =
    ⊎_elim
    (λ less. inl (ltb-true a.0 b.0 less))
    (λ same. let both = and_parts (eqb a.0 b.0) (ltb a.1 b.1) same in inr (eqb-true a.0 b.0 both.0, ltb-true a.1 b.1 both.1))
    (or_cases (ltb a.0 b.0) (a.0 == b.0 && ltb a.1 b.1) e)

so_before : (a b : ℕ × ℕ) → Before a b → is_before a b ≡ true
so_before a b (inl less) = ap (λ t. t || (a.0 == b.0 && ltb a.1 b.1)) (lt-ltb a.0 b.0 less)
so_before a b (inr (same, less)) =
    ap (λ t. ltb a.0 b.0 || (t && ltb a.1 b.1)) (eq-eqb a.0 b.0 same) ∙ ap (λ t. ltb a.0 b.0 || t) (lt-ltb a.1 b.1 less) ∙ or_true (ltb a.0 b.0)
  where
    or_true : (t : Bool) → (t || true) ≡ true
    or_true true = refl
    or_true false = refl

not_before : (a b : ℕ × ℕ) → (Before a b → ⊥) → is_before a b ≡ false
not_before a b none = ⊎_elim (λ yes. absurd (none (before_so a b yes))) (λ no. no) (cases_Bool (is_before a b))

not_itself : (a : ℕ × ℕ) → Before a a → ⊥
not_itself a (inl less) = omega (arith, less)
not_itself a (inr (same, less)) = omega (arith, less)

on : (a b c : ℕ × ℕ) → Before a b → Before b c → Before a c
on a b c (inl x) (inl y) = inl (omega (arith, x, y))
on a b c (inl x) (inr (e, y)) = inl (omega (arith, x, e))
on a b c (inr (e, x)) (inl y) = inl (omega (arith, e, y))
on a b c (inr (e, x)) (inr (f, y)) = inr (e ∙ f, omega (arith, x, y))

pub before_itself : (a : ℕ × ℕ) → is_before a a ≡ false
before_itself a = not_before a a (not_itself a)

-- what isn't before a isn't before what is before a
pub not_before_less : (x a b : ℕ × ℕ) → is_before x a ≡ false → is_before b a ≡ true → is_before x b ≡ false
not_before_less x a b after before = not_before x b (λ h. false≢true (sym after ∙ so_before x a (on x b a h (before_so b a before))))

-- one triple more

module _ (q : Problem) (es : List (ℕ × ℕ × Numbers)) (e : ℕ × ℕ × Numbers) where
  kept_least : (a : ℕ × ℕ) → IsLeastOf q es a → (are_barred q e.2 ≡ true → is_before (e.0, e.1) a ≡ false) → IsLeastOf q (es ++ e ∷ []) a
  kept_least a h new = record {
    candidates = h.candidates;
    listed = Contains-append_left es (e ∷ []) (a.0, a.1, h.candidates) h.listed;
    barred = h.barred;
    least = λ x c b. ⊎_elim (λ old. h.least x old b) (λ is. subst (λ (y : ℕ × ℕ × Numbers). is_before (y.0, y.1) a ≡ false) is (new (subst (λ (y : ℕ × ℕ × Numbers). are_barred q y.2 ≡ true) (sym is) b))) (Contains-push_cases es e x c);
  }

  new_least : are_barred q e.2 ≡ true → ((x : ℕ × ℕ × Numbers) → Contains es x → are_barred q x.2 ≡ true → is_before (x.0, x.1) (e.0, e.1) ≡ false) → IsLeastOf q (es ++ e ∷ []) (e.0, e.1)
  new_least barred others = record {
    candidates = e.2;
    listed = Contains-append_right es (e ∷ []) e (at_first e []);
    barred = barred;
    least = λ x c b. ⊎_elim (λ old. others x old b) (λ is. subst (λ (y : ℕ × ℕ × Numbers). is_before (y.0, y.1) (e.0, e.1) ≡ false) is (before_itself (e.0, e.1))) (Contains-push_cases es e x c);
  }

  pub least_kept : (o : Option (ℕ × ℕ)) → are_barred q e.2 ≡ false → LeastOf q es o → LeastOf q (es ++ e ∷ []) o
  least_kept None free h = λ x c. ⊎_elim (λ old. h x old) (λ is. subst (λ (y : ℕ × ℕ × Numbers). are_barred q y.2 ≡ false) is free) (Contains-push_cases es e x c)
  least_kept (Some a) free h = kept_least a h (λ b. absurd (false≢true (sym free ∙ b)))

  least_by : (a : ℕ × ℕ) (t : Bool) → is_before (e.0, e.1) a ≡ t → are_barred q e.2 ≡ true → IsLeastOf q es a → IsLeastOf q (es ++ e ∷ []) (cond t (e.0, e.1) a)
  least_by a true before barred h = new_least barred (λ x c b. not_before_less (x.0, x.1) a (e.0, e.1) (h.least x c b) before)
  least_by a false before barred h = kept_least a h (λ b. before)

  pub least_more : (o : Option (ℕ × ℕ)) → are_barred q e.2 ≡ true → LeastOf q es o → LeastOf q (es ++ e ∷ []) (Some (lesser o (e.0, e.1)))
  least_more None barred h = new_least barred (λ x c b. absurd (false≢true (sym (h x c) ∙ b)))
  least_more (Some a) barred h = least_by a (is_before (e.0, e.1) a) refl barred h

  least_one : (o : Option (ℕ × ℕ)) (b : Bool) → are_barred q e.2 ≡ b → LeastOf q es o → LeastOf q (es ++ e ∷ []) (cond b (Some (lesser o (e.0, e.1))) o)
  least_one o true barred h = least_more o barred h
  least_one o false barred h = least_kept o barred h

  pub least_step : (o r : Option (ℕ × ℕ)) → r ≡ least_with q o e → LeastOf q es o → LeastOf q (es ++ e ∷ []) r
  least_step o r is h = subst (λ (t : Option (ℕ × ℕ)). LeastOf q (es ++ e ∷ []) t) (sym is) (least_one o (are_barred q e.2) refl h)
