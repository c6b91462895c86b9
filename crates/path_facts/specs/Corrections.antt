-- Facts of a set that are set to what they are to be, one by one.
use Rattle.std.specs.Prelude.{◌≡◌, ◌⊎◌, ℕ, ◌+◌, ◌==◌, ◌&&◌, ◌||◌, nat_lt, Bool, true, false, slice_get, length}
use Rattle.mf_set.specs.Numbers.{Numbers}
use Rattle.ts_domain.specs.declared.before.Before.{Before}
use Rattle.ts_domain.specs.declared.deed.Source.{Source}
use Rattle.ts_domain.specs.declared.fact.Fact.{Fact}
use Rattle.ts_domain.specs.declared.fact.Fact.TheVariants.{Ready, Full, Filled, Equal, Apart}
use Rattle.ts_domain.specs.declared.names.Names.{Names}
use Rattle.ts_domain.specs.Facts.{before_given, given, is_fact, owns_field}
use Rattle.path_facts.specs.Numbering.{holds, holds_before}

-- some facts are set to what they are to be; of the others each is set so too or is as before
pub record Corrects (n : Names) (right : Fact → Bool) (told : Fact → Type 0) (old new : Numbers) : Type 0 where
  pub room : new.room ≡ old.room
  pub done : (f : Fact) → is_fact n f ≡ true → told f → holds n new f ≡ right f
  pub each : (f : Fact) → is_fact n f ≡ true → (holds n new f ≡ right f) ⊎ (holds n new f ≡ holds n old f)

-- what is to be behind a write to a variable, from the set before it
abbrev pub right_set : Names → ℕ → Source → Numbers → Fact → Bool
right_set n x v s f = holds_before n s (before_given n x (given n v) f)

-- a set has a fact where what has to hold before held in another
pub record Carries (n : Names) (before : Fact → Before) (old new : Numbers) : Type 0 where
  pub room : new.room ≡ old.room
  pub facts : (f : Fact) → is_fact n f ≡ true → holds n new f ≡ holds_before n old (before f)

-- the fact of an expression itself: that its variable is set or holds an object, or that the field is set
abbrev pub is_of_name : Names → ℕ → Fact → Bool
is_of_name n k (Ready x) = k == x
is_of_name n k (Full x) = k == x
is_of_name n k (Filled j) = k == length n.vars + j
is_of_name n k (Equal x y) = false
is_of_name n k (Apart x y) = false

-- a fact of a field of a variable, the field below some number
abbrev pub is_of_field : Names → ℕ → ℕ → Fact → Bool
is_of_field n x i (Filled j) = nat_lt j i && owns_field x (slice_get n.fields j)
is_of_field n x i (Ready y) = false
is_of_field n x i (Full y) = false
is_of_field n x i (Equal y z) = false
is_of_field n x i (Apart y z) = false

-- a fact of a variable and another below some number
abbrev pub is_of_pair : ℕ → ℕ → Fact → Bool
is_of_pair x i (Equal y z) = (x == y && nat_lt z i) || (x == z && nat_lt y i)
is_of_pair x i (Apart y z) = (x == y && nat_lt z i) || (x == z && nat_lt y i)
is_of_pair x i (Ready y) = false
is_of_pair x i (Full y) = false
is_of_pair x i (Filled j) = false

-- a fact of two variables
abbrev pub is_of_two : ℕ → ℕ → Fact → Bool
is_of_two x y (Equal u v) = (x == u && y == v) || (x == v && y == u)
is_of_two x y (Apart u v) = (x == u && y == v) || (x == v && y == u)
is_of_two x y (Ready z) = false
is_of_two x y (Full z) = false
is_of_two x y (Filled j) = false

-- a fact of a variable, of a field of it, or of it and another variable
abbrev pub IsOfVariable : Names → ℕ → Fact → Type 0
IsOfVariable n x f = (is_of_name n x f ≡ true) ⊎ ((is_of_field n x (length n.fields) f ≡ true) ⊎ (is_of_pair x (length n.vars) f ≡ true))
