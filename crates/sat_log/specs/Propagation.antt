-- What the check of a log holds while it propagates: the bits of some variables, each of which follows.
use Rattle.std.specs.Prelude.{◌≡◌, ◌≢◌, ℕ, suc, ◌<◌, ◌⊎◌, Bool, Option, None, Some, List, [], ◌∷◌, ◌++◌, length, slice_get, Contains, ⊤}
use Rattle.sat_log.specs.declared.problem.Lit.{Lit}
use Rattle.sat_log.specs.declared.facts.Facts.{Facts}
use Rattle.sat_log.specs.declared.claim.Claim.{Claim}
use Rattle.sat_log.specs.declared.look.Look.{Look}
use Rattle.sat_log.specs.declared.look.Look.TheVariants.{Clash, Rests, Unit}
use Rattle.sat_log.specs.declared.visit.Visit.{Visit}
use Rattle.sat_log.specs.Clauses.{opposite, AreBelow}
use Rattle.sat_log.specs.Refutation.{Falls, Clashes}

-- the literal is known to be true
abbrev pub IsKnown : List (Option Bool) → Lit → Type 0
IsKnown bits l = slice_get bits l.var ≡ Some (Some l.yes)

-- the literal is known to be false
abbrev pub IsOut : List (Option Bool) → Lit → Type 0
IsOut bits l = IsKnown bits (opposite l)

-- the clauses over which a claim is made
abbrev pub base_of : Claim → List (List Lit)
base_of c = c.given.now ++ c.earlier.now

-- what is known without an aim
pub record Settled (clauses : List (List Lit)) (facts : Facts) : Type 0 where
  pub follows : (l : Lit) → IsKnown facts.bits.items l → Falls clauses [] (opposite l)

-- each literal that is known follows, from the aim only where it is on the trail
pub record Sound (claim : Claim) (facts : Facts) : Type 0 where
  pub follows : (l : Lit) → IsKnown facts.bits.items l → Falls (base_of claim) [] (opposite l) ⊎ (Contains facts.trail.items l × Falls (base_of claim) claim.aim.now (opposite l))

-- propagation has no more to say of the clause: a literal is true, or two are open
abbrev pub IsAtRest : List (Option Bool) → List Lit → Type 0
IsAtRest bits c = ((l : Lit) × Contains c l × IsKnown bits l) ⊎ ((l : Lit) × (m : Lit) × Contains c l × Contains c m × (l ≢ m) × ¬ IsOut bits l × ¬ IsOut bits m)

-- what a look at a clause says
abbrev pub Says : List (Option Bool) → List Lit → Look → Type 0
Says bits c Clash = (o : Lit) → Contains c o → IsOut bits o
Says bits c Rests = IsAtRest bits c
Says bits c (Unit l) = Contains c l × ¬ IsKnown bits l × ¬ IsOut bits l × ((o : Lit) → Contains c o → o ≢ l → IsOut bits o)

-- what a look at several clauses says
abbrev pub SaysAll : List (Option Bool) → List (List Lit) → Look → Type 0
SaysAll bits clauses Clash = (c : List Lit) × Contains clauses c × Says bits c Clash
SaysAll bits clauses Rests = (c : List Lit) → Contains clauses c → IsAtRest bits c
SaysAll bits clauses (Unit l) = (c : List Lit) × Contains clauses c × Says bits c (Unit l)

-- how many variables have no known bit
abbrev pub open_count : List (Option Bool) → ℕ
open_count [] = 0
open_count (None ∷ bits) = suc (open_count bits)
open_count (Some b ∷ bits) = open_count bits

-- what was known stays known
pub record Grows (old new : Facts) : Type 0 where
  pub places : length new.bits.items ≡ length old.bits.items
  pub known : (l : Lit) → IsKnown old.bits.items l → IsKnown new.bits.items l

-- each variable of a claim has a place
pub record HasRoom (claim : Claim) (facts : Facts) : Type 0 where
  pub aim : (l : Lit) → Contains claim.aim.now l → l.var < length facts.bits.items
  pub base : AreBelow (length facts.bits.items) (base_of claim)

-- each literal of the aim is false
pub record IsAimed (claim : Claim) (facts : Facts) : Type 0 where
  pub out : (l : Lit) → Contains claim.aim.now l → IsOut facts.bits.items l

-- what a visit that finds a clash has found
abbrev pub Finds : Claim → Visit → Type 0
Finds claim Visit.Clash = Clashes (base_of claim) claim.aim.now
Finds claim Visit.Stays = ⊤
Finds claim (Visit.Moves l) = ⊤
