-- Sets of candidates, and which puts conflict, as rows of numbers.
use Rattle.std.specs.Prelude.{◌≡◌, ◌↔◌, ℕ, ◌<◌, ◌==◌, ◌&&◌, ◌||◌, nat_lt, Bool, true, List, [], ◌∷◌, ◌++◌, length, slice_get, fold, if◌then◌else◌, Some}
use Rattle.std.specs.List.{Contains, list_any}
use Rattle.c_tree.specs.Typing.{has}
use Rattle.mf_set.specs.Numbers.{Numbers, IsSet, has as has_number, meet}
use Rattle.mf_set.specs.Order.{numbers_eq}
use Rattle.ts_domain.specs.declared.triples.Triple.{Triple}
use Rattle.cover_problem.specs.declared.types.Problem.{Problem}
use Rattle.cover_problem.specs.Covering.{is_usable}

-- candidates

-- the numbers of a set that are usable too
abbrev pub narrowed : Numbers → Numbers → Numbers
narrowed usable s = record { items = meet s.items usable.items; room = s.room }

-- lists without repeats: a set that stands there already is left out
abbrev pub with_set : List Numbers → Numbers → List Numbers
with_set sets s = if list_any (numbers_eq s) sets then sets else sets ++ s ∷ []

abbrev pub exit_sets : Numbers → List (ℕ × ℕ × Numbers) → List Numbers
exit_sets usable es = fold (λ sets (e : ℕ × ℕ × Numbers). with_set sets (narrowed usable e.2)) [] es

abbrev pub triple_sets : Numbers → List Triple → List Numbers
triple_sets usable ts = fold (λ sets (t : Triple). with_set sets (narrowed usable t.puts)) [] ts

-- rows

-- whether the row at a place has a number
abbrev pub has_at : List Numbers → ℕ → ℕ → Bool
has_at rows j k = has (λ (r : Numbers). has_number r.items k) (slice_get rows j)

-- each row is a set with a room for each row
abbrev pub AreSquare : List Numbers → Type 0
AreSquare rows = (j : ℕ) (r : Numbers) → slice_get rows j ≡ Some r → IsSet r × (r.room ≡ length rows)

-- so many rows without a number
pub record AreEmpty (size count : ℕ) (rows : List Numbers) : Type 0 where
  pub long : length rows ≡ count
  pub each : (j : ℕ) (r : Numbers) → slice_get rows j ≡ Some r → (r.items ≡ []) × (r.room ≡ size)

-- those that pass are added to the rows
pub record Adds (passes : ℕ → ℕ → Bool) (old new : List Numbers) : Type 0 where
  pub long : length new ≡ length old
  pub square : AreSquare new
  pub members : (j k : ℕ) → has_at new j k ≡ (has_at old j k || passes j k)

-- whether a pair is that one, and usable
abbrev pub is_pair : List ℕ → ℕ × ℕ → ℕ → ℕ → Bool
is_pair usable p j k = (has_number usable p.0 && has_number usable p.1) && (j == p.0 && k == p.1)

-- whether a set has both, the lesser first
abbrev pub shares : List ℕ → ℕ → ℕ → Bool
shares s j k = has_number s j && (has_number s k && nat_lt j k)

-- conflicts

-- two puts with variables that are a pair, or that one triple holds, the lesser first
pub data Conflict (q : Problem) (j k : ℕ) : Type 0 where
  by_pair : Contains q.derived.pairs (j, k) → is_usable q j ≡ true → is_usable q k ≡ true → Conflict q j k
  by_triple : (t : Triple) → Contains q.derived.triples t → has_number t.puts.items j ≡ true → has_number t.puts.items k ≡ true → j < k → is_usable q j ≡ true → is_usable q k ≡ true → Conflict q j k

-- for each put a row of those with which it conflicts
pub record AreConflicts (q : Problem) (rows : List Numbers) : Type 0 where
  pub long : length rows ≡ length q.names.puts
  pub square : AreSquare rows
  pub members : (j k : ℕ) → (has_at rows j k ≡ true) ↔ Conflict q j k
