-- Look-ups of names in lists of rows, each a name and a value; the first row of a name counts.
use Rattle.std.specs.Prelude.{◌≡◌, ℕ, suc, Bool, nat_eq, List, [], ◌∷◌, Option, None, Some, option_map, if◌then◌else◌}
use Rattle.std.specs.BTreeMap.{is_at}
use Rattle.std.specs.Cmp.Lexicographic.{pointwise, slice_cmp}
use Rattle.std.specs.Map.{lookup}
use Rattle.std.specs.Ordering.{nat_cmp}

-- two names are spelled alike
abbrev pub same_name : List ℕ → List ℕ → Bool
same_name = pointwise nat_eq

-- the value of a name
abbrev pub found : {A : Type 0} → List (List ℕ × A) → List ℕ → Option A
found [] name = None
found (row ∷ rows) name = if same_name name row.0 then Some row.1 else found rows name

-- the place of a name's row
abbrev pub place_of : {A : Type 0} → List (List ℕ × A) → List ℕ → Option ℕ
place_of [] name = None
place_of (row ∷ rows) name = if same_name name row.0 then Some 0 else option_map suc (place_of rows name)

-- no row has the name of an earlier one
abbrev pub HasNamesOnce : {A : Type 0} → List (List ℕ × A) → Type 0
HasNamesOnce [] = Unit {0}
HasNamesOnce (row ∷ rows) = (place_of rows row.0 ≡ None) × HasNamesOnce rows

-- a map from names to places that finds each row, where no two rows have one name
pub record IsIndex {K A : Type 0} (bytes : K → List ℕ) (entries : List (K × ℕ)) (rows : List (List ℕ × A)) : Type 0 where
  pub places : (name : List ℕ) → lookup (is_at (λ k. slice_cmp nat_cmp name (bytes k))) entries ≡ place_of rows name
  pub once : HasNamesOnce rows
