-- What reads and writes do to the bytes that a source has left and a sink has taken, where these are told.
-- A source or a sink that tells its bytes goes on to tell them, and one that doesn't never does.
use Rattle.std.specs.Prelude.{◌≡◌, ℕ, ◌<◌, Option, None, Some, List, [], ◌++◌, length}

-- these bytes came from the front of what was left
abbrev pub Gives : (before after : Option (List ℕ)) → List ℕ → Type 0
Gives None None bytes = Unit {0}
Gives None (Some after) bytes = ⊥
Gives (Some before) None bytes = ⊥
Gives (Some before) (Some after) bytes = before ≡ bytes ++ after

-- these bytes were appended to what was taken
abbrev pub Takes : (before after : Option (List ℕ)) → List ℕ → Type 0
Takes None None bytes = Unit {0}
Takes None (Some after) bytes = ⊥
Takes (Some before) None bytes = ⊥
Takes (Some before) (Some after) bytes = after ≡ before ++ bytes

-- nothing is left
abbrev pub Ended : Option (List ℕ) → Type 0
Ended None = Unit {0}
Ended (Some left) = left ≡ []

-- what was left is these bytes
abbrev pub WasLeft : Option (List ℕ) → List ℕ → Type 0
WasLeft None bytes = Unit {0}
WasLeft (Some left) bytes = left ≡ bytes

-- more than so many bytes were left
abbrev pub MoreLeft : ℕ → Option (List ℕ) → Type 0
MoreLeft limit None = Unit {0}
MoreLeft limit (Some left) = limit < length left
