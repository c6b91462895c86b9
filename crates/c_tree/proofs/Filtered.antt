-- What a filter keeps.
use Rattle.std.proofs.Common.{◌≡◌, ℕ, zero, suc, ◌<◌, Bool, true, false, cond, List, [], ◌∷◌, length, get_or, filter, sym, ap, subst, ◌∙◌, arith}
use Rattle.std.specs.List.{Contains}
use Rattle.std.proofs.lemmas.List.Elements.{All-contains, All-filter, All-contains_itself, Contains-append_right, filter_passes}

pub filter_from : {X : Type 0} (p : X → Bool) (xs : List X) (x : X) → Contains (filter p xs) x → Contains xs x
filter_from p xs x h = All-contains (Contains xs) (filter p xs) x (All-filter p (Contains xs) xs (All-contains_itself xs)) h

pub filter_test : {X : Type 0} (p : X → Bool) (xs : List X) (x : X) → Contains (filter p xs) x → p x ≡ true
filter_test p xs x h = All-contains (λ y. p y ≡ true) (filter p xs) x (filter_passes p xs) h

past : {X : Type 0} (b : Bool) (y : X) (ys : List X) (x : X) → Contains ys x → Contains (cond b (y ∷ ys) ys) x
past true y ys x h = Contains-append_right (y ∷ []) ys x h
past false y ys x h = h

filter_at : {X : Type 0} (p : X → Bool) (xs : List X) (k : ℕ) (x : X) → k < length xs → get_or xs k x ≡ x → p x ≡ true → Contains (filter p xs) x
filter_at p [] k x below e passes = absurd (omega arith)
filter_at p (y ∷ ys) zero x below e passes =
    let yes : p y ≡ true = ap p e ∙ passes in
    subst (λ b. Contains (cond b (y ∷ filter p ys) (filter p ys)) x) (sym yes) (zero, omega arith, e)
filter_at p (y ∷ ys) (suc k) x below e passes = past (p y) y (filter p ys) x (filter_at p ys k x (omega arith) e passes)

pub filter_keeps : {X : Type 0} (p : X → Bool) (xs : List X) (x : X) → Contains xs x → p x ≡ true → Contains (filter p xs) x
filter_keeps p xs x h passes = filter_at p xs h.0 x h.1 h.2 passes
