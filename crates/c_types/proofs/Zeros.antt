-- The places of zeros below a number, each once.
use Rattle.std.proofs.Common.{◌≡◌, ◌≢◌, ℕ, ◌+◌, ◌<◌, ◌==◌, Bool, true, false, List, [], ◌∷◌, ◌++◌, length, get_or, refl, sym, ap, subst, ◌∙◌, arith, ⊎_elim, inl, inr, ◌⊎◌}
use Rattle.std.specs.Prelude.{nat_eq}
use Rattle.std.specs.List.{All, Contains, IsDistinct, list_any}
use Rattle.std.proofs.lemmas.Bool.{eqb-true, eqb-false}
use Rattle.std.proofs.lemmas.Cmp.{nat_eq_equiv}
use Rattle.std.proofs.lemmas.List.Elements.{All-nil, All-push, All-weaker, All-contains, Contains-append_left, Contains-push}
use Rattle.std.proofs.lemmas.Map.Keys.{IsDistinct-push}
use Rattle.std.proofs.lemmas.Map.Views.{Contains-from_any}
use Rattle.c_types.specs.Peeling.{AreZeros}

pub record ZerosBelow (counts : List ℕ) (i : ℕ) (found : List ℕ) : Type 0 where
  pub zeros : All (λ f. (f < i) × (get_or counts f 0 ≡ 0)) found
  pub all : (f : ℕ) → f < i → get_or counts f 0 ≡ 0 → Contains found f
  pub once : IsDistinct nat_eq found

pub zeros_none : (counts : List ℕ) → ZerosBelow counts 0 []
unfolding IsDistinct
zeros_none counts = record { zeros = All-nil (λ f. (f < 0) × (get_or counts f 0 ≡ 0)); all = λ f below zero. absurd (omega arith); once = tt }

higher : (counts : List ℕ) (i : ℕ) (found : List ℕ) → ZerosBelow counts i found → All (λ f. (f < i + 1) × (get_or counts f 0 ≡ 0)) found
higher counts i found z = All-weaker (λ f. (f < i) × (get_or counts f 0 ≡ 0)) (λ f. (f < i + 1) × (get_or counts f 0 ≡ 0)) (λ f h. (let l = h.0 in omega arith, h.1)) found z.zeros

below_or_here : (i f : ℕ) → f < i + 1 → (b : Bool) → (f == i) ≡ b → (f < i) ⊎ (f ≡ i)
below_or_here i f h true e = inr (eqb-true f i e)
below_or_here i f h false e = let other = eqb-false f i e in inl (omega arith)

is_new : (counts : List ℕ) (i : ℕ) (found : List ℕ) (b : Bool) → list_any (nat_eq i) found ≡ b → ZerosBelow counts i found → b ≡ false
is_new counts i found true e z =
    let below = (All-contains (λ f. (f < i) × (get_or counts f 0 ≡ 0)) found i z.zeros (Contains-from_any eqb-true i found e)).0 in
    absurd (omega arith)
is_new counts i found false e z = refl

pub zeros_more : (counts : List ℕ) (i : ℕ) (found : List ℕ) → get_or counts i 0 ≡ 0 → ZerosBelow counts i found → ZerosBelow counts (i + 1) (found ++ i ∷ [])
zeros_more counts i found zero z = record {
  zeros = All-push (λ f. (f < i + 1) × (get_or counts f 0 ≡ 0)) found i (higher counts i found z) (omega arith, zero);
  all = λ f below h. ⊎_elim
      (λ (l : f < i). Contains-append_left found (i ∷ []) f (z.all f l h))
      (λ (e : f ≡ i). subst (Contains (found ++ i ∷ [])) (sym e) (Contains-push found i))
      (below_or_here i f below (f == i) refl);
  once = IsDistinct-push nat_eq_equiv found i z.once (is_new counts i found (list_any (nat_eq i) found) refl z);
}

pub zeros_same : (counts : List ℕ) (i : ℕ) (found : List ℕ) → get_or counts i 0 ≢ 0 → ZerosBelow counts i found → ZerosBelow counts (i + 1) found
zeros_same counts i found some z = record {
  zeros = higher counts i found z;
  all = λ f below h. ⊎_elim
      (λ (l : f < i). z.all f l h)
      (λ (e : f ≡ i). absurd (some (ap (λ g. get_or counts g 0) (sym e) ∙ h)))
      (below_or_here i f below (f == i) refl);
  once = z.once;
}

pub zeros_all : (counts found : List ℕ) → ZerosBelow counts (length counts) found → AreZeros counts found
zeros_all counts found z = record { zeros = z.zeros; all = z.all; once = z.once }
