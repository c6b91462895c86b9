-- Facts of a set that a deed shows: they are in the set behind it, and all others are there where they were.
use Rattle.std.specs.Prelude.{◌≡◌, ℕ, ◌==◌, ◌&&◌, ◌||◌, nat_lt, Bool, true, false, slice_get, Option, None, Some}
use Rattle.mf_set.specs.Numbers.{Numbers}
use Rattle.ts_domain.specs.declared.fact.Fact.{Fact}
use Rattle.ts_domain.specs.declared.fact.Fact.TheVariants.{Ready, Full, Filled, Equal, Apart}
use Rattle.ts_domain.specs.declared.names.Names.{Names}
use Rattle.ts_domain.specs.Facts.{is_fact, is_field_of, owns_field}
use Rattle.path_facts.specs.Numbering.{holds}

-- a set has what is shown, and what it had
pub record Shows (n : Names) (shows : Fact → Bool) (old new : Numbers) : Type 0 where
  pub room : new.room ≡ old.room
  pub facts : (f : Fact) → is_fact n f ≡ true → holds n new f ≡ (shows f || holds n old f)

-- a field of a variable, and that of a number where one is given
abbrev pub chosen : ℕ → Option ℕ → Option (ℕ × ℕ) → Bool
chosen x None o = owns_field x o
chosen x (Some f) o = is_field_of x f o

-- that the field of that place is set, if it is chosen
abbrev pub is_filled_at : Names → ℕ → Option ℕ → ℕ → Fact → Bool
is_filled_at n x number i (Ready y) = false
is_filled_at n x number i (Full y) = false
is_filled_at n x number i (Filled j) = j == i && chosen x number (slice_get n.fields i)
is_filled_at n x number i (Equal y z) = false
is_filled_at n x number i (Apart y z) = false

-- that a field below some place is set, if it is chosen
abbrev pub is_filled : Names → ℕ → Option ℕ → ℕ → Fact → Bool
is_filled n x number i (Ready y) = false
is_filled n x number i (Full y) = false
is_filled n x number i (Filled j) = nat_lt j i && chosen x number (slice_get n.fields j)
is_filled n x number i (Equal y z) = false
is_filled n x number i (Apart y z) = false

-- that a variable is apart from one below some number
abbrev pub is_apart_from : ℕ → ℕ → Fact → Bool
is_apart_from x i (Ready y) = false
is_apart_from x i (Full y) = false
is_apart_from x i (Filled j) = false
is_apart_from x i (Equal y z) = false
is_apart_from x i (Apart y z) = (x == y && nat_lt z i) || (x == z && nat_lt y i)
