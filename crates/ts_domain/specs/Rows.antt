-- Places of a list, in rows by their keys.
use Rattle.std.specs.Prelude.{◌≡◌, ℕ, ◌==◌, Bool, List, [], ◌∷◌, ◌++◌, length, slice_get, unwrap_or, Option, if◌then◌else◌}
use Rattle.std.specs.List.{filter, range_with_len}
use Rattle.c_tree.specs.Typing.{has}

-- row k, which is empty where there is none
abbrev pub row : List (List ℕ) → ℕ → List ℕ
row rows k = unwrap_or (slice_get rows k) []

-- whether a key is k
abbrev pub is_key : ℕ → Option ℕ → Bool
is_key k key = has (λ j. j == k) key

-- the places before the n-th whose key is k
abbrev pub places_before : List (Option ℕ) → ℕ → ℕ → List ℕ
places_before keys k n = filter (λ i. has (is_key k) (slice_get keys i)) (range_with_len 0 n)

-- the places whose key is k
abbrev pub places_of : List (Option ℕ) → ℕ → List ℕ
places_of keys k = places_before keys k (length keys)

-- each row has the places of its key
abbrev pub AreRows : List (Option ℕ) → List (List ℕ) → Type 0
AreRows keys rows = (k : ℕ) → row rows k ≡ places_of keys k

-- rows that are empty are as good as none
abbrev pub AreSame : List (List ℕ) → List (List ℕ) → Type 0
AreSame rows more = (k : ℕ) → row more k ≡ row rows k

-- a place behind the row of its key
abbrev pub place_if : ℕ → Option ℕ → ℕ → List ℕ
place_if k key place = if is_key k key then place ∷ [] else []

abbrev pub AreAdded : Option ℕ → ℕ → List (List ℕ) → List (List ℕ) → Type 0
AreAdded key place rows more = (k : ℕ) → row more k ≡ row rows k ++ place_if k key place
