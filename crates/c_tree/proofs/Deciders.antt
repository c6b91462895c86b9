-- What tests of lists and options decide.
use Rattle.std.proofs.Common.{◌≡◌, Bool, ◌&&◌, List, [], ◌∷◌, map, Option, Some, None, option_map, refl, ap, ◌∙◌}
use Rattle.std.specs.Bool.{Decides}
use Rattle.std.specs.Cmp.Lexicographic.{pointwise}
use Rattle.std.proofs.lemmas.Bool.Decides.{Decides-and, Decides-like}
use Rattle.c_tree.specs.AlikeTest.{option_alike}

pub two_elements : {B : Type 0} (x y : B) (xs ys : List B) → (x ≡ y) × (xs ≡ ys) → x ∷ xs ≡ y ∷ ys
two_elements {B} x y xs ys (p, q) = ap (λ (z : B). z ∷ xs) p ∙ ap (λ (zs : List B). y ∷ zs) q

pub same_elements : {B : Type 0} (x y : B) (xs ys : List B) → x ∷ xs ≡ y ∷ ys → (x ≡ y) × (xs ≡ ys)
same_elements x y xs ys e = (cc, cc)

pub pointwise_decides : {A B : Type 0} (t : A → A → Bool) (f : A → B) → ((x y : A) → Decides (t x y) (f x ≡ f y)) → (xs ys : List A) → Decides (pointwise t xs ys) (map f xs ≡ map f ys)
pointwise_decides t f h [] [] = (λ _. refl, λ _. refl)
pointwise_decides t f h [] (y ∷ ys) = (λ e. cc, λ e. cc)
pointwise_decides t f h (x ∷ xs) [] = (λ e. cc, λ e. cc)
pointwise_decides t f h (x ∷ xs) (y ∷ ys) = Decides-like (t x y && pointwise t xs ys) (two_elements (f x) (f y) (map f xs) (map f ys)) (same_elements (f x) (f y) (map f xs) (map f ys))
    (Decides-and (t x y) (pointwise t xs ys) (h x y) (pointwise_decides t f h xs ys))

-- the same, where the first list has its tests beside it
pub held_decides : {A B : Type 0} (t : A → A → Bool) (f : A → B) (xs : List ((x : A) × ((y : A) → Decides (t x y) (f x ≡ f y)))) (ys : List A)
    → Decides (pointwise (λ g y. g y) (map t (map (λ e. e.0) xs)) ys) (map f (map (λ e. e.0) xs) ≡ map f ys)
held_decides t f [] [] = (λ _. refl, λ _. refl)
held_decides t f [] (y ∷ ys) = (λ e. cc, λ e. cc)
held_decides t f (x ∷ xs) [] = (λ e. cc, λ e. cc)
held_decides t f (x ∷ xs) (y ∷ ys) = Decides-like _ (two_elements (f x.0) (f y) (map f (map (λ e. e.0) xs)) (map f ys)) (same_elements (f x.0) (f y) (map f (map (λ e. e.0) xs)) (map f ys))
    (Decides-and (t x.0 y) _ (x.1 y) (held_decides t f xs ys))

pub option_decides : {A B : Type 0} (t : A → A → Bool) (f : A → B) → ((x y : A) → Decides (t x y) (f x ≡ f y)) → (x y : Option A) → Decides (option_alike t x y) (option_map f x ≡ option_map f y)
option_decides t f h None None = (λ _. refl, λ _. refl)
option_decides t f h None (Some y) = (λ e. cc, λ e. cc)
option_decides t f h (Some x) None = (λ e. cc, λ e. cc)
option_decides {B = B} t f h (Some x) (Some y) = Decides-like (t x y) (λ e. ap (λ (z : B). Some z) e) (λ e. cc) (h x y)

-- at the values themselves

pub list_decides : {A : Type 0} (t : A → A → Bool) → ((x y : A) → Decides (t x y) (x ≡ y)) → (xs ys : List A) → Decides (pointwise t xs ys) (xs ≡ ys)
list_decides t h [] [] = (λ _. refl, λ _. refl)
list_decides t h [] (y ∷ ys) = (λ e. cc, λ e. cc)
list_decides t h (x ∷ xs) [] = (λ e. cc, λ e. cc)
list_decides t h (x ∷ xs) (y ∷ ys) = Decides-like (t x y && pointwise t xs ys) (two_elements x y xs ys) (same_elements x y xs ys) (Decides-and (t x y) (pointwise t xs ys) (h x y) (list_decides t h xs ys))

pub same_option_decides : {A : Type 0} (t : A → A → Bool) → ((x y : A) → Decides (t x y) (x ≡ y)) → (x y : Option A) → Decides (option_alike t x y) (x ≡ y)
same_option_decides t h None None = (λ _. refl, λ _. refl)
same_option_decides t h None (Some y) = (λ e. cc, λ e. cc)
same_option_decides t h (Some x) None = (λ e. cc, λ e. cc)
same_option_decides {A} t h (Some x) (Some y) = Decides-like (t x y) (λ e. ap (λ (z : A). Some z) e) (λ e. cc) (h x y)

pub applied : {A B : Type 0} (t : A → B → Bool) (xs : List A) (ys : List B) → pointwise (λ g y. g y) (map t xs) ys ≡ pointwise t xs ys
applied t [] [] = refl
applied t [] (y ∷ ys) = refl
applied t (x ∷ xs) [] = refl
applied t (x ∷ xs) (y ∷ ys) = ap (λ (b : Bool). t x y && b) (applied t xs ys)

pub held_option_decides : {A B : Type 0} (t : A → A → Bool) (f : A → B) (x : Option ((x : A) × ((y : A) → Decides (t x y) (f x ≡ f y)))) (y : Option A)
    → Decides (option_alike (λ g y. g y) (option_map t (option_map (λ e. e.0) x)) y) (option_map f (option_map (λ e. e.0) x) ≡ option_map f y)
held_option_decides t f None None = (λ _. refl, λ _. refl)
held_option_decides t f None (Some y) = (λ e. cc, λ e. cc)
held_option_decides t f (Some x) None = (λ e. cc, λ e. cc)
held_option_decides t f (Some x) (Some y) = Decides-like (t x.0 y) (λ e. cc) (λ e. cc) (x.1 y)
