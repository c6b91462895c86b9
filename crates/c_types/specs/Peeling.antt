-- Taking away the functions that nobody calls, one after another, with their calls.
use Rattle.std.specs.Prelude.{◌≡◌, ℕ, ◌-◌, ◌<◌, ◌≤◌, ◌==◌, Bool, cond, not, List, [], ◌∷◌, ◌++◌, length, map, filter, slice_index, slice_index_or, slice_set, count_by, nat_eq, nat_lt}
use Rattle.std.specs.List.{All, Contains, IsDistinct, list_any}
use Rattle.c_tree.specs.declared.control.UserCall.{UserCall}
use Rattle.c_types.specs.declared.cycles.Peeling.{Peeling}

-- how many of the calls are of f
abbrev pub calls_to : ℕ → List UserCall → ℕ
calls_to f calls = count_by (λ c. c.callee == f) calls

-- what f calls
abbrev pub callees_of : ℕ → List UserCall → List ℕ
callees_of f calls = map (λ (c : UserCall). c.callee) (filter (λ c. c.caller == f) calls)

-- the calls of functions that are not in the list
abbrev pub without_callers : List ℕ → List UserCall → List UserCall
without_callers gone calls = filter (λ c. not (list_any (λ f. f == c.caller) gone)) calls

-- the counts of n functions are those of the calls
pub record IsCounted (n : ℕ) (counts : List ℕ) (calls : List UserCall) : Type 0 where
  pub functions : length counts ≡ n
  pub counted : (f : ℕ) → f < n → slice_index counts f ≡ calls_to f calls

-- the places of zeros, each once
pub record AreZeros (counts found : List ℕ) : Type 0 where
  pub zeros : All (λ f. (f < length counts) × (slice_index counts f ≡ 0)) found
  pub all : (f : ℕ) → f < length counts → slice_index counts f ≡ 0 → Contains found f
  pub once : IsDistinct nat_eq found

-- the state fits the calls that are left
pub record IsPeeled (n : ℕ) (p : Peeling) (calls : List UserCall) : Type 0 where
  pub counts : IsCounted n p.counts calls
  pub uncalled : AreZeros p.counts p.uncalled

-- each callee has at least as many calls as the list has of it
pub record IsOwed (counts callees : List ℕ) : Type 0 where
  pub exist : All (λ f. f < length counts) callees
  pub counted : (f : ℕ) → f < length counts → count_by (λ g. g == f) callees ≤ slice_index counts f

-- one call less
abbrev pub taken_call : Peeling → ℕ → Peeling
taken_call p f =
    let n = slice_index p.counts f - 1 in
    record { counts = slice_set p.counts f n; uncalled = cond (n == 0) (p.uncalled ++ f ∷ []) p.uncalled }

-- a count of some calls
abbrev pub is_positive : ℕ → Bool
is_positive n = nat_lt 0 n

-- row f is what f calls
pub record AreRows (n : ℕ) (rows : List (List ℕ)) (calls : List UserCall) : Type 0 where
  pub functions : length rows ≡ n
  pub row : (f : ℕ) → f < n → slice_index_or rows f [] ≡ callees_of f calls
