-- What the search keeps true of its log and of the clause that it resolves.
use Rattle.std.specs.Prelude.{◌≢◌, ◌⊎◌, List, [], ◌∷◌, ◌++◌, Option, Some, Contains}
use Rattle.sat_log.specs.declared.problem.Lit.{Lit}
use Rattle.sat_log.specs.declared.problem.Clauses.{Clauses}
use Rattle.sat_log.specs.declared.problem.Log.{Log}
use Rattle.sat_log.specs.Clauses.{opposite, AreBelow}
use Rattle.sat_log.specs.Refutation.{Falls, Clashes, Follows, IsLog}
use Rattle.sat_core.specs.declared.known.Known.{Known}
use Rattle.sat_core.specs.declared.learning.End.{End}
use Rattle.sat_core.specs.declared.learning.End.TheVariants.{Model, Refuted, Stuck}

-- the clauses of the problem, and then those of the log
abbrev pub clauses_of : Known → List (List Lit)
clauses_of k = k.clauses.now.list ++ k.log.now.list

-- each clause of the log follows from the given ones and those before it
pub record IsPart (clauses : Clauses) (log : Log) : Type 0 where
  pub below : AreBelow clauses.vars log.list
  pub follows : Follows clauses.list log.list

-- once propagation has made these literals false, by whatever was assumed, it meets a contradiction
pub record Refutable (clauses : List (List Lit)) (literals : List Lit) : Type 0 where
  pub clash : (aim : List Lit) → ((l : Lit) → Contains literals l → Falls clauses aim l) → Clashes clauses aim

-- the second list has each literal of the first
pub record IsWithin (literals more : List Lit) : Type 0 where
  pub each : (l : Lit) → Contains literals l → Contains more l

-- the literal is marked, or a clause says that it is false
abbrev pub IsMarked : List (List Lit) → List Lit → Lit → Type 0
IsMarked clauses marks l = Contains marks l ⊎ Contains clauses (opposite l ∷ [])

-- each literal of the clause but the pivot is marked
pub record Covers (clauses : List (List Lit)) (marks clause : List Lit) (pivot : Option Lit) : Type 0 where
  pub each : (l : Lit) → Contains clause l → pivot ≢ Some l → IsMarked clauses marks l

-- a log that is said to refute does so
abbrev pub EndsRight : Clauses → Log → End → Type 0
EndsRight clauses log Refuted = IsLog clauses log
EndsRight clauses log Model = Unit {0}
EndsRight clauses log Stuck = Unit {0}
