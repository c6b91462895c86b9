-- Bits of the first variables.
use Rattle.std.specs.Prelude.{◌≡◌, ℕ, suc, Bool, not, List, [], ◌∷◌, ◌++◌, Contains, All, length}
use Rattle.sat_log.specs.declared.problem.Lit.{Lit}
use Rattle.sat_log.specs.declared.problem.Clauses.{Clauses}
use Rattle.sat_log.specs.Clauses.{opposite, MakesTrue, Satisfies}

-- the bits make all literals of the clause false
abbrev pub IsFalse : List Bool → List Lit → Type 0
IsFalse bits c = All (λ l. MakesTrue bits (opposite l)) c

-- they do so for one of the clauses
abbrev pub HasFalse : List Bool → List (List Lit) → Type 0
HasFalse bits clauses = (c : List Lit) × Contains clauses c × IsFalse bits c

-- the clause that the variables from n on don't all have these bits
abbrev pub against_from : ℕ → List Bool → List Lit
against_from n [] = []
against_from n (b ∷ bits) = record { var = n; yes = not b } ∷ against_from (suc n) bits

-- the clause that the first variables don't all have these bits
abbrev pub against : List Bool → List Lit
against bits = against_from 0 bits

-- the list ends in the clause
abbrev pub IsLast : List (List Lit) → List Lit → Type 0
IsLast list c = (before : List (List Lit)) × (list ≡ before ++ c ∷ [])

-- the second list has each clause of the first
pub record Keeps (old new : List (List Lit)) : Type 0 where
  pub each : (c : List Lit) → Contains old c → Contains new c

-- one bit for each variable, which satisfy the clauses
pub record IsModel (clauses : Clauses) (bits : List Bool) : Type 0 where
  pub all : length bits ≡ clauses.vars
  pub satisfies : Satisfies bits clauses.list
