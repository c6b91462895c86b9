-- The places of a list of lists of paths, below their numbers.
use Rattle.std.proofs.Common.{◌≡◌, ℕ, zero, suc, ◌+◌, List, [], ◌∷◌, ◌++◌, map, length, slice_get, Some, refl, sym, subst, arith}
use Rattle.c_meaning.specs.Place.{numbered}
use Rattle.call_contexts.proofs.Has.{Has, has_left, has_right, has_map}

-- at a place of a list of lists
pub has_numbered : (k i : ℕ) (pss : List (List (List ℕ))) (ps : List (List ℕ)) (p : List ℕ) → slice_get pss i ≡ Some ps → Has p ps → Has ((k + i) ∷ p) (numbered k pss)
has_numbered k i [] ps p e h = absurd cc
has_numbered k zero (qs ∷ pss) ps p e h =
    let same : qs ≡ ps = cc in
    let here : k ≡ k + 0 = omega arith in
    subst (λ (n : ℕ). Has (n ∷ p) (numbered k (qs ∷ pss))) here
    (has_left (numbered (k + 1) pss) (has_map (λ (q : List ℕ). k ∷ q) (subst (λ (rs : List (List ℕ)). Has p rs) (sym same) h)))
has_numbered k (suc i) (qs ∷ pss) ps p e h =
    let on : k + 1 + i ≡ k + suc i = omega arith in
    has_right (map (λ q. k ∷ q) qs) (subst (λ (n : ℕ). Has (n ∷ p) (numbered (k + 1) pss)) on (has_numbered (k + 1) i pss ps p e h))

pub has_first_numbered : (i : ℕ) (pss : List (List (List ℕ))) (ps : List (List ℕ)) (p : List ℕ) → slice_get pss i ≡ Some ps → Has p ps → Has (i ∷ p) (numbered 0 pss)
has_first_numbered i pss ps p e h =
    let same : 0 + i ≡ i = omega arith in
    subst (λ (n : ℕ). Has (n ∷ p) (numbered 0 pss)) same (has_numbered 0 i pss ps p e h)

-- a list of one more element at its end
pub within_more : {A : Type 0} (xs : List A) (y x : A) (i : ℕ) → slice_get xs i ≡ Some x → slice_get (xs ++ y ∷ []) i ≡ Some x
within_more [] y x i e = absurd cc
within_more (z ∷ xs) y x zero e = e
within_more (z ∷ xs) y x (suc i) e = within_more xs y x i e

pub last_of_more : {A : Type 0} (xs : List A) (y : A) → slice_get (xs ++ y ∷ []) (length xs) ≡ Some y
last_of_more [] y = refl
last_of_more (z ∷ xs) y = last_of_more xs y
