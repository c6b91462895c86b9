-- The parts of an analysis, of a graph and its names.
use Rattle.c_graph.specs.declared.graph.Graph.{Graph}
use Rattle.ts_domain.specs.declared.facts.Facts.{Facts}
use Rattle.ts_domain.specs.declared.names.Names.{Names}
use Rattle.ts_domain.specs.Derived.{AreDerived, HasWideEdge, PassesStates}
use Rattle.ts_domain.specs.May.{IsMay}
use Rattle.ts_domain.specs.Path.{IsPath}
use Rattle.cover_problem.specs.declared.types.Problem.{Problem}
use Rattle.cover_problem.specs.Problem.{HasRooms, IsProblem}

-- these are the facts of a graph
pub record AreFactsOf (n : Names) (g : Graph) (f : Facts) : Type 0 where
  pub may : IsMay n g f.may
  pub path : IsPath n g f.path

-- this is the cover problem of what is derived, which has no more states than the limit
pub record IsProblemOf (n : Names) (g : Graph) (f : Facts) (q : Problem) : Type 0 where
  pub derived : AreDerived n g f q.derived
  pub problem : IsProblem g n f.path q.derived q
  pub rooms : HasRooms q
  pub narrow : HasWideEdge n g f → ⊥
  pub few_states : PassesStates n g f → ⊥
