-- Where a path stands in a list of paths, and lists of paths that ascend.
use Rattle.std.specs.Prelude.{◌≡◌, ℕ, suc, Bool, List, [], ◌∷◌, option_map, Option, Some, None, if◌then◌else◌}
use Rattle.std.specs.declared.cmp.Ordering.{Ordering}
use Rattle.std.specs.declared.cmp.Ordering.TheVariants.{Less}
use Rattle.std.specs.Ordering.{nat_cmp}
use Rattle.std.specs.Cmp.Lexicographic.{slice_cmp}
use Rattle.c_graph.specs.Nodes.{same_path}

-- the number of elements before the first that passes, if one does
abbrev pub place_of : {A : Type 0} → (A → Bool) → List A → Option ℕ
place_of passes [] = None
place_of passes (x ∷ xs) = if passes x then Some 0 else option_map (λ n. suc n) (place_of passes xs)

-- the rank of a path among paths
abbrev pub rank : List ℕ → List (List ℕ) → Option ℕ
rank path = place_of (λ ps. same_path ps path)

-- number by number, a prefix first
abbrev pub path_cmp : List ℕ → List ℕ → Ordering
path_cmp = slice_cmp nat_cmp

-- paths that ascend: each is below the later ones
pub data IsBelow (p : List ℕ) : List (List ℕ) → Type 0 where
  below_none : IsBelow p []
  below_more : {q : List ℕ} {qs : List (List ℕ)} → path_cmp p q ≡ Less → IsBelow p qs → IsBelow p (q ∷ qs)

pub data Ascends : List (List ℕ) → Type 0 where
  ascends_none : Ascends []
  ascends_more : {p : List ℕ} {ps : List (List ℕ)} → IsBelow p ps → Ascends ps → Ascends (p ∷ ps)
