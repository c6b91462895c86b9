-- The front of a reversed list is the end of the list.
use Rattle.std.proofs.Common.{◌≡◌, ℕ, zero, suc, ◌+◌, ◌<◌, List, [], ◌∷◌, ◌++◌, length, slice_set, refl, ap, sym, ◌∙◌, arith}
use Rattle.std.specs.Prelude.{reverse}
use Rattle.std.proofs.lemmas.List.{reverse-append, length-reverse}

front_set : {A : Type 0} (xs ys : List A) (x : A) → 0 < length xs → slice_set (xs ++ ys) 0 x ≡ slice_set xs 0 x ++ ys
front_set [] ys x h = absurd (omega arith)
front_set (a ∷ xs) ys x h = refl

pub last_set : {A : Type 0} (xs : List A) (k : ℕ) (x : A) → k + 1 ≡ length xs → reverse (slice_set xs k x) ≡ slice_set (reverse xs) 0 x
last_set [] k x h = absurd (omega arith)
last_set (y ∷ []) zero x h = refl
last_set (y ∷ z ∷ ys) zero x h = absurd (omega arith)
last_set (y ∷ []) (suc k) x h = absurd (omega arith)
last_set {A} (y ∷ z ∷ ys) (suc k) x h =
    let long = length-reverse (z ∷ ys) in
    reverse-append (y ∷ []) (slice_set (z ∷ ys) k x)
    ∙ ap (λ (zs : List A). zs ++ y ∷ []) (last_set (z ∷ ys) k x (omega arith))
    ∙ sym (front_set (reverse (z ∷ ys)) (y ∷ []) x (omega arith))
    ∙ ap (λ (zs : List A). slice_set zs 0 x) (sym (reverse-append (y ∷ []) (z ∷ ys)))
