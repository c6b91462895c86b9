-- What is in a list, by its first place or a later one.
use Rattle.std.proofs.Common.{◌≡◌, ℕ, zero, suc, ◌+◌, ◌⊎◌, inl, inr, ⊎_elim, Bool, true, false, cond, List, [], ◌∷◌, ◌++◌, map, length, slice_get, Some, refl, sym, ap, subst, ◌∙◌, arith, flat_map}
use Rattle.std.specs.List.{Contains, position, position_from}
use Rattle.std.proofs.lemmas.Option.{slice_get_within, slice_get-get_or, get_or_from_slice_get}
use Rattle.std.proofs.lemmas.Iterator.Adapters.{position_from-zero}

pub data Has {A : Type 0} (x : A) : List A → Type 0 where
  first : {xs : List A} → Has x (x ∷ xs)
  later : {y : A} {xs : List A} → Has x xs → Has x (y ∷ xs)

pub has_left : {A : Type 0} {x : A} {xs : List A} (ys : List A) → Has x xs → Has x (xs ++ ys)
has_left ys first = first
has_left ys (later h) = later (has_left ys h)

pub has_right : {A : Type 0} {x : A} (xs : List A) {ys : List A} → Has x ys → Has x (xs ++ ys)
has_right [] h = h
has_right (y ∷ xs) h = later (has_right xs h)

pub has_map : {A B : Type 0} {x : A} {xs : List A} (f : A → B) → Has x xs → Has (f x) (map f xs)
has_map f first = first
has_map f (later h) = later (has_map f h)

pub has_flat : {A B : Type 0} {x : A} {y : B} (f : A → List B) (xs : List A) → Has x xs → Has y (f x) → Has y (flat_map f xs)
has_flat f [] g h = elim g [ ]
has_flat f (x ∷ xs) first h = has_left (flat_map f xs) h
has_flat f (z ∷ xs) (later g) h = has_right (f z) (has_flat f xs g h)

pub has_split : {A : Type 0} {x : A} (xs : List A) {ys : List A} → Has x (xs ++ ys) → Has x xs ⊎ Has x ys
has_split [] h = inr h
has_split (z ∷ xs) first = inl first
has_split (z ∷ xs) (later h) = ⊎_elim (λ g. inl (later g)) (λ g. inr g) (has_split xs h)

pub has_flat_from : {A B : Type 0} {y : B} (f : A → List B) (xs : List A) → Has y (flat_map f xs) → (x : A) × Has x xs × Has y (f x)
has_flat_from f [] h = elim h [ ]
has_flat_from f (x ∷ xs) h = ⊎_elim (λ here. (x, first, here)) (λ there. let rest = has_flat_from f xs there in (rest.0, later rest.1, rest.2)) (has_split (f x) h)

pub only_one : {A : Type 0} {x y : A} → Has x (y ∷ []) → x ≡ y
only_one first = refl
only_one (later h) = elim h [ ]

pub has_get : {A : Type 0} {x : A} (xs : List A) (i : ℕ) → slice_get xs i ≡ Some x → Has x xs
has_get [] i e = absurd cc
has_get {x = x} (y ∷ xs) zero e = let same : y ≡ x = cc in subst (λ z. Has z (y ∷ xs)) same first
has_get (y ∷ xs) (suc i) e = later (has_get xs i e)

pub get_has : {A : Type 0} {x : A} (xs : List A) → Has x xs → (i : ℕ) × (slice_get xs i ≡ Some x)
get_has [] h = elim h [ ]
get_has (x ∷ xs) first = (0, refl)
get_has (y ∷ xs) (later h) = let rest = get_has xs h in (suc rest.0, rest.1)

-- places in one list and another behind it

pub get_left : {A : Type 0} (xs ys : List A) (x : A) (i : ℕ) → slice_get xs i ≡ Some x → slice_get (xs ++ ys) i ≡ Some x
get_left [] ys x i e = absurd cc
get_left (z ∷ xs) ys x zero e = e
get_left (z ∷ xs) ys x (suc i) e = get_left xs ys x i e

pub get_right : {A : Type 0} (xs ys : List A) (i : ℕ) → slice_get (xs ++ ys) (length xs + i) ≡ slice_get ys i
get_right [] ys i = let same : 0 + i ≡ i = omega arith in ap (slice_get ys) same
get_right (z ∷ xs) ys i =
    let on : length (z ∷ xs) + i ≡ suc (length xs + i) = omega arith in
    ap (slice_get (z ∷ xs ++ ys)) on ∙ get_right xs ys i

shift_in : {A : Type 0} (z : A) (xs ys : List A) (x : A) (i : ℕ) → (j : ℕ) × (i ≡ length xs + j) × (slice_get ys j ≡ Some x) → (j : ℕ) × (suc i ≡ length (z ∷ xs) + j) × (slice_get ys j ≡ Some x)
shift_in z xs ys x i g = let is = g.1 in (g.0, omega arith, g.2)

pub get_split : {A : Type 0} (xs ys : List A) (x : A) (i : ℕ) → slice_get (xs ++ ys) i ≡ Some x → (slice_get xs i ≡ Some x) ⊎ ((j : ℕ) × (i ≡ length xs + j) × (slice_get ys j ≡ Some x))
get_split [] ys x i e = inr (i, omega arith, e)
get_split (z ∷ xs) ys x zero e = inl e
get_split {A = A} (z ∷ xs) ys x (suc i) e = ⊎_elim (λ g. inl g) (λ g. inr (shift_in z xs ys x i g)) (get_split xs ys x i e)

-- the first place that passes a test

found_cases : {A : Type 0} (test : A → Bool) (i : ℕ) (z : A) (zs : List A) (b : Bool) → test z ≡ b →
    (b ≡ false → (j : ℕ) × (y : A) × (position_from test (i + 1) zs ≡ Some (i + 1 + j)) × (slice_get zs j ≡ Some y) × (test y ≡ true)) →
    (j : ℕ) × (y : A) × (cond b (Some i) (position_from test (i + 1) zs) ≡ Some (i + j)) × (slice_get (z ∷ zs) j ≡ Some y) × (test y ≡ true)
found_cases {A} test i z zs true is rest = let here : i ≡ i + 0 = omega arith in (0, z, ap (λ (n : ℕ). Some n) here, refl, is)
found_cases {A} test i z zs false is rest =
    let more = rest refl in
    let on : i + 1 + more.0 ≡ i + suc more.0 = omega arith in
    (suc more.0, more.1, more.2 ∙ ap (λ (n : ℕ). Some n) on, more.3, more.4)

found_from : {A : Type 0} (test : A → Bool) (i : ℕ) (xs : List A) (x : A) (k : ℕ) → slice_get xs k ≡ Some x → test x ≡ true →
    (j : ℕ) × (y : A) × (position_from test i xs ≡ Some (i + j)) × (slice_get xs j ≡ Some y) × (test y ≡ true)
found_from test i [] x k e passes = absurd cc
found_from {A} test i (z ∷ zs) x zero e passes =
    let same : z ≡ x = cc in
    found_cases test i z zs (test z) refl (λ no. let never : true ≡ false = sym passes ∙ ap test (sym same) ∙ no in absurd cc)
found_from test i (z ∷ zs) x (suc k) e passes = found_cases test i z zs (test z) refl (λ no. found_from test (i + 1) zs x k e passes)

pub found : {A : Type 0} (test : A → Bool) (xs : List A) (x : A) (k : ℕ) → slice_get xs k ≡ Some x → test x ≡ true →
    (j : ℕ) × (y : A) × (position test xs ≡ Some j) × (slice_get xs j ≡ Some y) × (test y ≡ true)
found test xs x k e passes =
    let it = found_from test 0 xs x k e passes in
    let same : 0 + it.0 ≡ it.0 = omega arith in
    (it.0, it.1, position_from-zero test xs ∙ it.2 ∙ ap (λ (n : ℕ). Some n) same, it.3, it.4)

pub contains_has : {A : Type 0} (xs : List A) (x : A) → Contains xs x → Has x xs
contains_has {A} xs x h = has_get xs h.0 (slice_get-get_or xs h.0 x h.1 ∙ ap (λ (y : A). Some y) h.2)

pub has_contains : {A : Type 0} {x : A} (xs : List A) → Has x xs → Contains xs x
has_contains {x = x} xs h =
    let it = get_has xs h in
    (it.0, slice_get_within xs it.0 x it.1, get_or_from_slice_get xs it.0 x x it.1)
