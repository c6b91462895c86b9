-- The clauses as they are listed, from the variables of the puts, the sets of candidates at exits, and the rows of conflicts.
use Rattle.std.specs.Prelude.{◌≡◌, ℕ, ◌+◌, ◌==◌, Bool, true, false, List, [], ◌∷◌, ◌++◌, length, map, slice_get, Option, None, Some, if◌then◌else◌}
use Rattle.std.specs.List.{range_with_len}
use Rattle.mf_set.specs.Numbers.{Numbers}
use Rattle.sat_log.specs.declared.problem.Lit.{Lit}
use Rattle.cover_problem.specs.declared.types.Problem.{Problem}
use Rattle.cover_clauses.specs.Clauses.{variable, variables}
use Rattle.cover_clauses.specs.declared.listing.Variables.{Variables}

-- the variables of all places, and their count
pub record AreVariables (q : Problem) (v : Variables) : Type 0 where
  pub before : v.before ≡ map (variable q) (range_with_len 0 (length q.names.puts))
  pub count : v.count ≡ variables q

abbrev pub number_in : Option ℕ → ℕ
number_in None = 0
number_in (Some n) = n

abbrev pub literal_by : Variables → Bool → ℕ → Lit
literal_by v sign k = record { var = number_in (slice_get v.before k); yes = sign }

abbrev pub one_by : Variables → List ℕ → List Lit
one_by v ks = map (literal_by v true) ks

abbrev pub not_both_by : Variables → ℕ → ℕ → List Lit
not_both_by v j k = if j == k then literal_by v false j ∷ [] else literal_by v false j ∷ literal_by v false k ∷ []

-- those of the rows from place j on
abbrev pub rows_by : Variables → ℕ → List Numbers → List (List Lit)
rows_by v j [] = []
rows_by v j (r ∷ rs) = map (not_both_by v j) r.items ++ rows_by v (j + 1) rs

abbrev pub list_by : Variables → List Numbers → List Numbers → List (List Lit)
list_by v sets rows = map (λ (s : Numbers). one_by v s.items) sets ++ rows_by v 0 rows

-- how many numbers all rows have
abbrev pub total : List Numbers → ℕ
total [] = 0
total (r ∷ rs) = length r.items + total rs
