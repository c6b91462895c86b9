-- A list with one element altered.
use Rattle.std.proofs.Common.{◌≡◌, ℕ, zero, suc, ◌≤◌, Bool, false, List, [], ◌∷◌, length, slice_get, slice_set, Some, refl, ap, sym, arith}
use Rattle.c_meaning.specs.declared.machine.Object.{Object}
use Rattle.c_meaning.specs.Eval.{is_freed}
use Rattle.c_meaning.specs.Machine.{altered, marked_freed}
use Rattle.c_replay.specs.Changes.{unmarked}

pub altered_at : {A : Type 0} (f : A → A) (i : ℕ) (xs : List A) (x : A) → slice_get xs i ≡ Some x → altered f i xs ≡ slice_set xs i (f x)
altered_at f i [] x e = cc
altered_at {A} f zero (y ∷ xs) x e = let same : y ≡ x = cc in ap (λ (z : A). f z ∷ xs) same
altered_at {A} f (suc i) (y ∷ xs) x e = ap (λ (zs : List A). y ∷ zs) (altered_at f i xs x e)

pub altered_past : {A : Type 0} (f : A → A) (i : ℕ) (xs : List A) → length xs ≤ i → altered f i xs ≡ xs
altered_past f i [] past = refl
altered_past f zero (y ∷ xs) past = absurd (omega arith)
altered_past {A} f (suc i) (y ∷ xs) past = ap (λ (zs : List A). y ∷ zs) (altered_past f i xs (omega arith))

pub set_same : {A : Type 0} (i : ℕ) (xs : List A) (x : A) → slice_get xs i ≡ Some x → slice_set xs i x ≡ xs
set_same i [] x e = refl
set_same {A} zero (y ∷ xs) x e = let same : x ≡ y = cc in ap (λ (z : A). z ∷ xs) same
set_same {A} (suc i) (y ∷ xs) x e = ap (λ (zs : List A). y ∷ zs) (set_same i xs x e)

-- a free taken back
pub undone : (o : ℕ) (os : List Object) → is_freed os o ≡ false → altered unmarked o (altered marked_freed o os) ≡ os
undone o [] e = refl
undone zero (x ∷ os) e = ap (λ (b : Bool). (record { cells = x.cells; freed = b }) ∷ os) (sym e)
undone (suc o) (x ∷ os) e = ap (λ (zs : List Object). x ∷ zs) (undone o os e)
