-- Resolution keeps it that a contradiction follows.
use Rattle.std.proofs.Common.{◌≡◌, ◌≢◌, ℕ, zero, suc, ◌+◌, ◌<◌, List, [], ◌∷◌, length, get_or, take, Option, Some, None, refl, sym, ap, ◌∙◌, subst, ◌⊎◌, inl, inr, arith}
use Rattle.std.specs.List.{Contains}
use Rattle.sat_log.specs.declared.problem.Lit.{Lit}
use Rattle.sat_log.specs.Clauses.{opposite}
use Rattle.sat_log.specs.Refutation.{Falls, Clashes}
use Rattle.sat_log.proofs.ClashLaws.{opposite-opposite, lit_same_or_other}
use Rattle.sat_core.specs.Learning.{Refutable, IsWithin, IsMarked, Covers}
use Rattle.sat_core.proofs.ListLaws.{Contains-only, Contains-take_cases}

fixed_falls : (clauses : List (List Lit)) (aim : List Lit) (l : Lit) → Contains clauses (opposite l ∷ []) → Falls clauses aim l
fixed_falls clauses aim l h =
    subst (Falls clauses aim) (opposite-opposite l)
    (Falls.unit (opposite l ∷ []) (opposite l) h (0, omega arith, refl) (λ o i n. absurd (n (sym (Contains-only (opposite l) o i)))))

marked_falls : (clauses : List (List Lit)) (marks aim : List Lit) (l : Lit) → ((m : Lit) → Contains marks m → Falls clauses aim m) → IsMarked clauses marks l → Falls clauses aim l
marked_falls clauses marks aim l falls (inl i) = falls l i
marked_falls clauses marks aim l falls (inr i) = fixed_falls clauses aim l i

later : (x : Lit) (xs : List Lit) (l : Lit) → Contains xs l → Contains (x ∷ xs) l
later x xs l i = (suc i.0, omega (arith, i.1), i.2)

has_or_lacks : (xs : List Lit) (l : Lit) → Contains xs l ⊎ ((o : Lit) → Contains xs o → o ≢ l)
has_or_lacks [] l = inr (λ o i e. omega (arith, i.1))
has_or_lacks (x ∷ xs) l = first (lit_same_or_other x l) (has_or_lacks xs l)
  where
    apart : x ≢ l → ((o : Lit) → Contains xs o → o ≢ l) → (o : Lit) → Contains (x ∷ xs) o → o ≢ l
    apart n none o (zero, h, e) = λ s. n (e ∙ s)
    apart n none o (suc k, h, e) = none o (k, omega arith, e)

    first : (x ≡ l) ⊎ (x ≢ l) → Contains xs l ⊎ ((o : Lit) → Contains xs o → o ≢ l) → Contains (x ∷ xs) l ⊎ ((o : Lit) → Contains (x ∷ xs) o → o ≢ l)
    first (inl e) rest = inl (0, omega arith, e)
    first (inr n) (inl i) = inl (later x xs l i)
    first (inr n) (inr none) = inr (apart n none)

pub refutable_from : (clauses : List (List Lit)) (marks clause : List Lit) → Contains clauses clause → Covers clauses marks clause None → Refutable clauses marks
refutable_from clauses marks clause known covers = record {
  clash = λ aim falls. Clashes.emptied clause known (λ o i. marked_falls clauses marks aim o falls (covers.each o i (λ e. cc)));
}

pub refutable_resolved : (clauses : List (List Lit)) (old new clause : List Lit) (p : Lit) → Contains clauses clause → Covers clauses new clause (Some p)
    → ((l : Lit) → Contains old l → l ≢ opposite p → Contains new l) → Refutable clauses old → Refutable clauses new
refutable_resolved clauses old new clause p known covers kept was = record { clash = λ aim falls. clash aim falls (has_or_lacks clause p) }
  where
    others : (aim : List Lit) → ((l : Lit) → Contains new l → Falls clauses aim l) → (o : Lit) → Contains clause o → o ≢ p → Falls clauses aim o
    others aim falls o i n = marked_falls clauses new aim o falls (covers.each o i (λ (e : Some p ≡ Some o). n (let s : p ≡ o = cc in sym s)))

    clash : (aim : List Lit) → ((l : Lit) → Contains new l → Falls clauses aim l) → Contains clause p ⊎ ((o : Lit) → Contains clause o → o ≢ p) → Clashes clauses aim
    clash aim falls (inr lacks) = Clashes.emptied clause known (λ o i. others aim falls o i (lacks o i))
    clash aim falls (inl has) = was.clash aim (λ l i. elim (lit_same_or_other l (opposite p)) [
      | inl e ↦ subst (Falls clauses aim) (sym e) (Falls.unit clause p known has (others aim falls))
      | inr n ↦ falls l (kept l i n)
    ])

pub covers_more : (clauses : List (List Lit)) (old new clause : List Lit) (pivot : Option Lit) (i : ℕ) (d : Lit) → i < length clause → IsWithin old new
    → Covers clauses old (take i clause) pivot → (pivot ≢ Some (get_or clause i d) → IsMarked clauses new (get_or clause i d)) → Covers clauses new (take (i + 1) clause) pivot
covers_more clauses old new clause pivot i d below within covers here = record { each = λ l at n. step l n (Contains-take_cases clause i d l below at) }
  where
    wider : (l : Lit) → IsMarked clauses old l → IsMarked clauses new l
    wider l (inl at) = inl (within.each l at)
    wider l (inr at) = inr at

    step : (l : Lit) → pivot ≢ Some l → Contains (take i clause) l ⊎ (get_or clause i d ≡ l) → IsMarked clauses new l
    step l n (inl at) = wider l (covers.each l at n)
    step l n (inr e) = subst (IsMarked clauses new) e (here (λ s. n (s ∙ ap Some e)))

pub within_itself : (xs : List Lit) → IsWithin xs xs
within_itself xs = record { each = λ l i. i }

pub within_along : (xs ys zs : List Lit) → IsWithin xs ys → IsWithin ys zs → IsWithin xs zs
within_along xs ys zs h k = record { each = λ l i. k.each l (h.each l i) }
