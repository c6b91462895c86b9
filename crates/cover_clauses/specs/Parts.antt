-- The parts of a choice that bits stand for.
use Rattle.std.specs.Prelude.{◌≡◌, ℕ, Bool, List}
use Rattle.std.specs.List.{filter, flat_map, range_with_len}
use Rattle.c_tree.specs.declared.choice.Put.{Put}
use Rattle.mf_set.specs.Numbers.{Numbers, has as has_number}
use Rattle.cover_problem.specs.declared.types.Problem.{Problem}
use Rattle.cover_problem.specs.Covering.{is_usable}
use Rattle.cover_clauses.specs.Clauses.{is_true_at, put_at}

-- a set of that room that has the numbers which pass
pub record IsFound (size : ℕ) (passes : ℕ → Bool) (s : Numbers) : Type 0 where
  pub room : s.room ≡ size
  pub members : (k : ℕ) → has_number s.items k ≡ passes k

-- the puts whose variables have a true bit, of the first places
abbrev pub chosen_puts : Problem → List Bool → ℕ → List Put
chosen_puts q bits n = flat_map (put_at q) (filter (is_true_at q bits) (filter (is_usable q) (range_with_len 0 n)))
