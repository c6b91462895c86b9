-- What it is that bits satisfy clauses.
use Rattle.std.specs.Prelude.{◌≡◌, ℕ, ◌<◌, Bool, not, List, slice_get, Some, Contains}
use Rattle.sat_log.specs.declared.problem.Lit.{Lit}

-- the literal that is true where l is false
abbrev pub opposite : Lit → Lit
opposite l = record { var = l.var; yes = not l.yes }

-- the bits, one for each variable, make the literal true
abbrev pub MakesTrue : List Bool → Lit → Type 0
MakesTrue bits l = slice_get bits l.var ≡ Some l.yes

-- the bits make a literal of the clause true
abbrev pub SatisfiesClause : List Bool → List Lit → Type 0
SatisfiesClause bits c = (l : Lit) × Contains c l × MakesTrue bits l

-- the bits satisfy each clause
abbrev pub Satisfies : List Bool → List (List Lit) → Type 0
Satisfies bits clauses = (c : List Lit) → Contains clauses c → SatisfiesClause bits c

-- each variable of the clauses is below vars
abbrev pub AreBelow : ℕ → List (List Lit) → Type 0
AreBelow vars clauses = (c : List Lit) → Contains clauses c → (l : Lit) → Contains c l → l.var < vars
