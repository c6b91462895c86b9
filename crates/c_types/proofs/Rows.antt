-- Look-ups in two lists of rows, one behind the other, and tests that all elements of a list pass.
use Rattle.std.proofs.Common.{◌≡◌, ℕ, zero, suc, Bool, true, false, ◌&&◌, List, [], ◌∷◌, ◌++◌, length, slice_get, Option, Some, None, refl, sym, ap, subst, ◌∙◌}
use Rattle.std.specs.Prelude.{slice_set, if◌then◌else◌}
use Rattle.std.specs.List.{list_all}
use Rattle.std.proofs.lemmas.Bool.{and_parts}
use Rattle.c_types.specs.Tables.{found, same_name}

module _ {A : Type 0} where
  -- elements

  pub get_first : (xs ys : List A) (k : ℕ) (x : A) → slice_get xs k ≡ Some x → slice_get (xs ++ ys) k ≡ Some x
  get_first [] ys k x h = absurd cc
  get_first (y ∷ xs) ys zero x h = h
  get_first (y ∷ xs) ys (suc k) x h = get_first xs ys k x h

  pub get_last : (xs : List A) (x : A) → slice_get (xs ++ x ∷ []) (length xs) ≡ Some x
  get_last [] x = refl
  get_last (y ∷ xs) x = get_last xs x

  -- what holds of the elements of both lists
  pub get_either : (P : A → Type 0) (xs ys : List A) → ((k : ℕ) (x : A) → slice_get xs k ≡ Some x → P x) → ((k : ℕ) (x : A) → slice_get ys k ≡ Some x → P x)
      → (k : ℕ) (x : A) → slice_get (xs ++ ys) k ≡ Some x → P x
  get_either P [] ys f g k x h = g k x h
  get_either P (y ∷ xs) ys f g zero x h = f 0 x h
  get_either P (y ∷ xs) ys f g (suc k) x h = get_either P xs ys (λ j z e. f (suc j) z e) g k x h

  pub get_none : (P : A → Type 0) (k : ℕ) (x : A) → slice_get [] k ≡ Some x → P x
  get_none P k x h = absurd cc

  pub get_one : (P : A → Type 0) (y : A) → P y → (k : ℕ) (x : A) → slice_get (y ∷ []) k ≡ Some x → P x
  get_one P y h zero x e = let same : y ≡ x = cc in subst P same h
  get_one P y h (suc k) x e = absurd cc

  -- rows

  pub found_first : (xs ys : List (List ℕ × A)) (n : List ℕ) (e : A) → found xs n ≡ Some e → found (xs ++ ys) n ≡ Some e
  found_first [] ys n e h = absurd cc
  found_first (r ∷ xs) ys n e h = by_head (same_name n r.0) (found xs n) (found (xs ++ ys) n) h (found_first xs ys n e)
    where
      by_head : (b : Bool) (o q : Option A) → (if b then Some r.1 else o) ≡ Some e → (o ≡ Some e → q ≡ Some e) → (if b then Some r.1 else q) ≡ Some e
      by_head true o q h rest = h
      by_head false o q h rest = rest h

  pub found_either : (P : A → Type 0) (xs ys : List (List ℕ × A)) (n : List ℕ) → ((e : A) → found xs n ≡ Some e → P e) → ((e : A) → found ys n ≡ Some e → P e)
      → (e : A) → found (xs ++ ys) n ≡ Some e → P e
  found_either P [] ys n f g e h = g e h
  found_either P (r ∷ xs) ys n f g e h = by_head (same_name n r.0) f h (λ first h. found_either P xs ys n first g e h)
    where
      by_head : (b : Bool) → ((e : A) → (if b then Some r.1 else found xs n) ≡ Some e → P e) → (if b then Some r.1 else found (xs ++ ys) n) ≡ Some e
          → (((e : A) → found xs n ≡ Some e → P e) → found (xs ++ ys) n ≡ Some e → P e) → P e
      by_head true f h rest = f e h
      by_head false f h rest = rest f h

  pub found_none : (P : A → Type 0) (n : List ℕ) (e : A) → found [] n ≡ Some e → P e
  found_none P n e h = absurd cc

  pub found_one : (P : A → Type 0) (r : List ℕ × A) → P r.1 → (n : List ℕ) (e : A) → found (r ∷ []) n ≡ Some e → P e
  found_one P r h n e is = by_head (same_name n r.0) is
    where
      by_head : (b : Bool) → (if b then Some r.1 else None) ≡ Some e → P e
      by_head true is = let same : r.1 ≡ e = cc in subst P same h
      by_head false is = absurd cc

  -- tests

  pub all_weaker : (p q : A → Bool) → ((x : A) → p x ≡ true → q x ≡ true) → (xs : List A) → list_all p xs ≡ true → list_all q xs ≡ true
  all_weaker p q h [] e = refl
  all_weaker p q h (x ∷ xs) e =
      let parts = and_parts (p x) (list_all p xs) e in
      ap (λ (b : Bool). b && list_all q xs) (h x parts.0) ∙ all_weaker p q h xs parts.1

  pub all_at : (p : A → Bool) (xs : List A) (k : ℕ) (x : A) → list_all p xs ≡ true → slice_get xs k ≡ Some x → p x ≡ true
  all_at p [] k x e h = absurd cc
  all_at p (y ∷ xs) zero x e h = let same : y ≡ x = cc in subst (λ (z : A). p z ≡ true) same (and_parts (p y) (list_all p xs) e).0
  all_at p (y ∷ xs) (suc k) x e h = all_at p xs k x (and_parts (p y) (list_all p xs) e).1 h

  pub all_both : (p : A → Bool) (xs ys : List A) → list_all p xs ≡ true → list_all p ys ≡ true → list_all p (xs ++ ys) ≡ true
  all_both p [] ys e h = h
  all_both p (x ∷ xs) ys e h =
      let parts = and_parts (p x) (list_all p xs) e in
      ap (λ (b : Bool). b && list_all p (xs ++ ys)) parts.0 ∙ all_both p xs ys parts.1 h

  -- an element replaced

  pub get_set : (P : Option A → Type 0) (xs : List A) (k : ℕ) (y : A) (j : ℕ) (x : A) → slice_get xs j ≡ Some x → P (Some x) → (j ≡ k → P (Some y)) → P (slice_get (slice_set xs k y) j)
  get_set P [] k y j x h old new = absurd cc
  get_set P (z ∷ xs) zero y zero x h old new = new refl
  get_set P (z ∷ xs) zero y (suc j) x h old new = subst P (sym h) old
  get_set P (z ∷ xs) (suc k) y zero x h old new = subst P (sym h) old
  get_set P (z ∷ xs) (suc k) y (suc j) x h old new = get_set P xs k y j x h old (λ e. new (ap suc e))

  pub get_set_here : (xs : List A) (k : ℕ) (x y : A) → slice_get xs k ≡ Some x → slice_get (slice_set xs k y) k ≡ Some y
  get_set_here [] k x y h = absurd cc
  get_set_here (z ∷ xs) zero x y h = refl
  get_set_here (z ∷ xs) (suc k) x y h = get_set_here xs k x y h

  pub all_set : (p : A → Bool) (xs : List A) (k : ℕ) (y : A) → list_all p xs ≡ true → p y ≡ true → list_all p (slice_set xs k y) ≡ true
  all_set p [] k y e h = refl
  all_set p (x ∷ xs) zero y e h = ap (λ (b : Bool). b && list_all p xs) h ∙ (and_parts (p x) (list_all p xs) e).1
  all_set p (x ∷ xs) (suc k) y e h =
      let parts = and_parts (p x) (list_all p xs) e in
      ap (λ (b : Bool). b && list_all p (slice_set xs k y)) parts.0 ∙ all_set p xs k y parts.1 h
