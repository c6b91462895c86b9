-- Arguments for parameters, from some place on.
use Rattle.std.proofs.Common.{◌≡◌, ℕ, zero, suc, ◌+◌, ◌≤◌, List, [], ◌∷◌, length, drop, slice_get, Some, None, refl, ap, sym, ◌∙◌, arith}
use Rattle.std.proofs.lemmas.List.{drop_all}
use Rattle.c_tree.specs.declared.expr.Expr.{Expr}
use Rattle.ts_domain.specs.declared.edges.Binding.{Binding}
use Rattle.ts_domain.specs.declared.names.Names.{Names}
use Rattle.ts_domain.specs.Deeds.{bound_argument, bound_arguments}

-- the element at a place, before the rest
pub drop_some : {A : Type 0} (xs : List A) (i : ℕ) (x : A) → slice_get xs i ≡ Some x → drop i xs ≡ x ∷ drop (i + 1) xs
drop_some [] i x h = cc
drop_some (y ∷ xs) zero x h = let e : y ≡ x = cc in ap (λ z. z ∷ xs) e
drop_some (y ∷ xs) (suc i) x h =
    let e : suc i + 1 ≡ suc (i + 1) = omega arith in
    drop_some xs i x h ∙ ap (λ n. x ∷ drop n (y ∷ xs)) (sym e)

no_parameters : (n : Names) (b : Binding) (es : List Expr) → bound_arguments n b [] es ≡ b
no_parameters n b [] = refl
no_parameters n b (e ∷ es) = refl

no_arguments : (n : Names) (b : Binding) (xs : List ℕ) → bound_arguments n b xs [] ≡ b
no_arguments n b [] = refl
no_arguments n b (x ∷ xs) = refl

-- the argument at a place and those behind it
pub argument_more : (n : Names) (b : Binding) (xs : List ℕ) (es : List Expr) (i : ℕ) (x : ℕ) (e : Expr) → slice_get xs i ≡ Some x → slice_get es i ≡ Some e
    → bound_arguments n (bound_argument n b (x, e)) (drop (i + 1) xs) (drop (i + 1) es) ≡ bound_arguments n b (drop i xs) (drop i es)
argument_more n b xs es i x e here there =
    sym (ap (λ (ys : List ℕ). bound_arguments n b ys (drop i es)) (drop_some xs i x here) ∙ ap (λ (ds : List Expr). bound_arguments n b (x ∷ drop (i + 1) xs) ds) (drop_some es i e there))

-- behind the last argument
pub arguments_end : (n : Names) (b : Binding) (xs : List ℕ) (es : List Expr) (i : ℕ) → length es ≤ i → bound_arguments n b (drop i xs) (drop i es) ≡ b
arguments_end n b xs es i past = ap (λ (ds : List Expr). bound_arguments n b (drop i xs) ds) (drop_all i es past) ∙ no_arguments n b (drop i xs)

drop_none : {A : Type 0} (xs : List A) (i : ℕ) → slice_get xs i ≡ None → drop i xs ≡ []
drop_none [] zero h = refl
drop_none [] (suc i) h = refl
drop_none (y ∷ xs) zero h = cc
drop_none (y ∷ xs) (suc i) h = drop_none xs i h

-- behind the last parameter
pub parameters_end : (n : Names) (b : Binding) (xs : List ℕ) (es : List Expr) (i : ℕ) → slice_get xs i ≡ None → bound_arguments n b (drop i xs) (drop i es) ≡ b
parameters_end n b xs es i none = ap (λ (ys : List ℕ). bound_arguments n b ys (drop i es)) (drop_none xs i none) ∙ no_parameters n b (drop i es)
