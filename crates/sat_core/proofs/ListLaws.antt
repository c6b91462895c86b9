-- Elements of lists, by their places.
use Rattle.std.proofs.Common.{◌≡◌, ℕ, zero, suc, ◌+◌, ◌<◌, List, [], ◌∷◌, length, get_or, slice_get, take, Some, subst, ◌⊎◌, arith}
use Rattle.std.specs.List.{Contains}
use Rattle.std.proofs.lemmas.List.Elements.{Contains-push_cases}
use Rattle.std.proofs.lemmas.List.{take_more}

pub Contains-from_get : {X : Type 0} (xs : List X) (k : ℕ) (x : X) → slice_get xs k ≡ Some x → Contains xs x
Contains-from_get [] k x h = absurd (cc)
Contains-from_get (y ∷ xs) zero x h = (0, omega arith, cc)
Contains-from_get (y ∷ xs) (suc k) x h = let r : Contains xs x = Contains-from_get xs k x h in (suc r.0, omega (arith, r.1), r.2)

pub Contains-only : {X : Type 0} (x y : X) → Contains (x ∷ []) y → x ≡ y
Contains-only x y (zero, h, e) = e
Contains-only x y (suc k, h, e) = absurd (omega arith)

-- the first i + 1 elements are the first i and the next
pub Contains-take_cases : {X : Type 0} (xs : List X) (i : ℕ) (d x : X) → i < length xs → Contains (take (i + 1) xs) x → Contains (take i xs) x ⊎ (get_or xs i d ≡ x)
Contains-take_cases xs i d x below h = Contains-push_cases (take i xs) (get_or xs i d) x (subst (λ ys. Contains ys x) (take_more xs i d below) h)
