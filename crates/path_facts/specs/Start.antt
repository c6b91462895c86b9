-- The set of all facts, and the set of those that are true before a run.
use Rattle.std.specs.Prelude.{◌≡◌, ◌≢◌, ℕ, ◌<◌, ◌==◌, ◌&&◌, nat_lt, Bool, true, false, List, [], ◌∷◌, length, slice_get, Some}
use Rattle.mf_set.specs.Numbers.{Numbers, has as has_number}
use Rattle.ts_domain.specs.declared.fact.Fact.{Fact}
use Rattle.ts_domain.specs.declared.fact.Fact.TheVariants.{Ready, Full, Filled, Equal, Apart}
use Rattle.ts_domain.specs.declared.names.Names.{Names}
use Rattle.ts_domain.specs.Facts.{is_fact}
use Rattle.ts_domain.specs.Path.{true_at_start}
use Rattle.path_facts.specs.declared.worklist.Solving.{Solving}
use Rattle.path_facts.specs.Numbering.{holds, room_of}

-- a set has each number below its room
pub record IsFull (count : ℕ) (s : Numbers) : Type 0 where
  pub room : s.room ≡ count
  pub all : (k : ℕ) → k < count → has_number s.items k ≡ true

-- a set has the facts that are true before a run
pub record IsStart (n : Names) (s : Numbers) : Type 0 where
  pub room : s.room ≡ room_of n
  pub facts : (f : Fact) → is_fact n f ≡ true → holds n s f ≡ true_at_start n f

-- that a variable is equal to one below some number
abbrev pub is_equal_of : ℕ → ℕ → Fact → Bool
is_equal_of x i (Equal y z) = z == x && nat_lt y i
is_equal_of x i (Ready y) = false
is_equal_of x i (Full y) = false
is_equal_of x i (Filled j) = false
is_equal_of x i (Apart y z) = false

-- the facts of a variable that may be false before a run, those of pairs by the greater one
abbrev pub is_started_at : ℕ → Fact → Bool
is_started_at x (Ready y) = y == x
is_started_at x (Full y) = y == x
is_started_at x (Filled j) = false
is_started_at x (Equal y z) = z == x
is_started_at x (Apart y z) = false

-- those of all variables below some number
abbrev pub is_started : ℕ → Fact → Bool
is_started i (Ready y) = nat_lt y i
is_started i (Full y) = nat_lt y i
is_started i (Filled j) = false
is_started i (Equal y z) = nat_lt z i
is_started i (Apart y z) = false

-- the first set of a node: of the first node the facts that are true before a run, of each other all
pub record StartsAt (n : Names) (u : ℕ) (s : Numbers) : Type 0 where
  pub room : s.room ≡ room_of n
  pub first : u ≡ 0 → (f : Fact) → is_fact n f ≡ true → holds n s f ≡ true_at_start n f
  pub rest : u ≢ 0 → (f : Fact) → is_fact n f ≡ true → holds n s f ≡ true

-- the first sets of so many nodes
pub record StartsAll (n : Names) (count : ℕ) (xs : List Numbers) : Type 0 where
  pub long : length xs ≡ count
  pub each : (u : ℕ) (x : Numbers) → slice_get xs u ≡ Some x → StartsAt n u x

-- the first node alone is pending, and reached
pub record Begins (n : Names) (count : ℕ) (s : Solving) : Type 0 where
  pub sets : StartsAll n count s.at
  pub pending : s.pending ≡ record { items = 0 ∷ []; room = count }
  pub reached : s.reached ≡ record { items = 0 ∷ []; room = count }
