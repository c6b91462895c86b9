-- What is in lists that are filtered or mapped, and elements by keys that ascend.
use Rattle.std.proofs.Common.{◌≡◌, ℕ, suc, ◌<◌, ◌≤◌, ◌&&◌, Bool, true, false, List, [], ◌∷◌, map, filter, if◌then◌else◌, refl, ap, ◌∙◌, arith}
use Rattle.std.specs.List.{list_all}
use Rattle.call_contexts.proofs.Has.{Has, first, later, has_map}
use Rattle.c_scopes.specs.ScopeAt.{Within}
use Rattle.c_scopes.proofs.ScopeOrder.{within_le}

-- what is in a mapped list is that of an element
pub has_of_map : {A B : Type 0} {y : B} (f : A → B) (xs : List A) → Has y (map f xs) → (x : A) × Has x xs × (y ≡ f x)
has_of_map f [] h = elim h [ ]
has_of_map f (x ∷ xs) first = (x, first, refl)
has_of_map f (x ∷ xs) (later h) = let it = has_of_map f xs h in (it.0, later it.1, it.2)

-- what is in front of a filtered list, or behind
filtered_front : {A : Type 0} {x y : A} {rest xs : List A} (test : A → Bool) → test y ≡ true → (Has x rest → Has x xs × (test x ≡ true)) → Has x (y ∷ rest) → Has x (y ∷ xs) × (test x ≡ true)
filtered_front test is behind first = (first, is)
filtered_front test is behind (later h) = let it = behind h in (later it.0, it.1)

-- the same, where the first element passes the test or not
filtered_by : {A : Type 0} {x y : A} {rest xs : List A} (test : A → Bool) (b : Bool) → test y ≡ b → (Has x rest → Has x xs × (test x ≡ true)) → Has x (if b then y ∷ rest else rest) → Has x (y ∷ xs) × (test x ≡ true)
filtered_by test true is behind h = filtered_front test is behind h
filtered_by test false is behind h = let it = behind h in (later it.0, it.1)

-- what is in a filtered list is in the list, and passes the test
pub has_of_filter : {A : Type 0} {x : A} (test : A → Bool) (xs : List A) → Has x (filter test xs) → Has x xs × (test x ≡ true)
has_of_filter test [] h = elim h [ ]
has_of_filter test (y ∷ xs) h = filtered_by test (test y) refl (λ g. has_of_filter test xs g) h

-- a test that each element passes holds of all
pub all_of_has : {A : Type 0} (test : A → Bool) (xs : List A) → ((x : A) → Has x xs → test x ≡ true) → list_all test xs ≡ true
all_of_has test [] each = refl
all_of_has test (x ∷ xs) each = ap (λ (b : Bool). b && list_all test xs) (each x first) ∙ all_of_has test xs (λ y h. each y (later h))

-- numbers that ascend are within their bounds
pub within_has : {n : ℕ} (a b : ℕ) (xs : List ℕ) → Within a b xs → Has n xs → (a ≤ n) × (n < b)
within_has a b [] h has = elim has [ ]
within_has a b (x ∷ xs) h first = let low : a ≤ x = h.0 in let rest : suc x ≤ b = within_le (suc x) b xs h.1 in (low, omega arith)
within_has {n} a b (x ∷ xs) h (later has) =
    let low : a ≤ x = h.0 in
    let it = within_has (suc x) b xs h.1 has in
    let over : suc x ≤ n = it.0 in
    (omega arith, it.1)

-- elements whose keys ascend are the same where their keys are
pub one_by_key : {A : Type 0} {x y : A} (key : A → ℕ) (a b : ℕ) (xs : List A) → Within a b (map key xs) → Has x xs → Has y xs → key x ≡ key y → x ≡ y
one_by_key key a b [] h here there same = elim here [ ]
one_by_key key a b (z ∷ xs) h first first same = refl
one_by_key key a b (z ∷ xs) h first (later there) same = let it = within_has (suc (key z)) b (map key xs) h.1 (has_map key there) in let over = it.0 in absurd (omega arith)
one_by_key key a b (z ∷ xs) h (later here) first same = let it = within_has (suc (key z)) b (map key xs) h.1 (has_map key here) in let over = it.0 in absurd (omega arith)
one_by_key key a b (z ∷ xs) h (later here) (later there) same = one_by_key key (suc (key z)) b xs h.1 here there same
