-- Unit propagation, and logs of clauses that refute others by it.
use Rattle.std.specs.Prelude.{◌≡◌, ◌≢◌, List, [], ◌∷◌, ◌++◌, Contains}
use Rattle.sat_log.specs.declared.problem.Lit.{Lit}
use Rattle.sat_log.specs.declared.problem.Clauses.{Clauses}
use Rattle.sat_log.specs.declared.problem.Log.{Log}
use Rattle.sat_log.specs.Clauses.{opposite, AreBelow}

-- the literals that unit propagation over the clauses makes false where those of aim are false
pub data Falls (clauses : List (List Lit)) (aim : List Lit) : Lit → Type 0 where
  -- a literal of aim is false
  assumed : (l : Lit) → Contains aim l → Falls clauses aim l
  -- where all literals of a clause but p are false, p is true and its opposite false
  unit : (c : List Lit) (p : Lit) → Contains clauses c → Contains c p → ((o : Lit) → Contains c o → o ≢ p → Falls clauses aim o) → Falls clauses aim (opposite p)

-- with all literals of aim false, unit propagation meets a contradiction
pub data Clashes (clauses : List (List Lit)) (aim : List Lit) : Type 0 where
  -- all literals of a clause are false
  emptied : (c : List Lit) → Contains clauses c → ((o : Lit) → Contains c o → Falls clauses aim o) → Clashes clauses aim
  -- a literal and its opposite can't both be false
  opposed : (l : Lit) → Contains aim l → Contains aim (opposite l) → Clashes clauses aim

-- each clause of the list clashes over the given clauses and those of the list before it
abbrev pub Follows : List (List Lit) → List (List Lit) → Type 0
Follows clauses list = (before : List (List Lit)) (c : List Lit) (after : List (List Lit)) → list ≡ before ++ c ∷ after → Clashes (clauses ++ before) c

-- the log refutes the clauses
pub record IsLog (clauses : Clauses) (log : Log) : Type 0 where
  pub below : AreBelow clauses.vars log.list
  pub follows : Follows clauses.list log.list
  pub ends : (before : List (List Lit)) × (log.list ≡ before ++ [] ∷ [])
