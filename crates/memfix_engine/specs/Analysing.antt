-- What an analysis of a program is, and why there is none.
use Rattle.std.specs.Prelude.{◌≡◌, ℕ, IsTrue}
use Rattle.c_tree.specs.Fill.{ascends}
use Rattle.c_tree.specs.declared.limits.Refusal.{Refusal}
use Rattle.c_tree.specs.declared.limits.Refusal.TheVariants as refusal
use Rattle.c_tree.specs.declared.program.Program.{Program}
use Rattle.sat_log.specs.Clauses.{AreBelow}
use Rattle.ts_domain.specs.Derived.{AreDerived, HasWideEdge, PassesStates}
use Rattle.cover_clauses.specs.Clauses.{AreClauses, HasMore}
use Rattle.cover_problem.specs.Problem.{HasRooms, IsProblem}
use Rattle.memfix_engine.specs.Analysis.{AreFacts, IsSmall, PassesLimit, graph_in, names_in}
use Rattle.memfix_engine.specs.declared.analysis.Analysis.{Analysis}

-- each part is that of the program, and no count passes its limit
pub record IsAnalysis (p : Program) (a : Analysis) : Type 0 where
  pub graph : a.graph ≡ graph_in p
  pub names : a.names ≡ names_in p
  pub ascending : IsTrue (ascends a.names.puts)
  pub facts : AreFacts p a.facts
  pub derived : AreDerived (names_in p) (graph_in p) a.facts a.problem.derived
  pub problem : IsProblem (graph_in p) (names_in p) a.facts.path a.problem.derived a.problem
  pub rooms : HasRooms a.problem
  pub clauses : AreClauses a.problem a.clauses
  pub below : AreBelow a.clauses.vars a.clauses.list
  pub small : IsSmall p
  pub narrow : HasWideEdge (names_in p) (graph_in p) a.facts → ⊥
  pub few_states : PassesStates (names_in p) (graph_in p) a.facts → ⊥
  pub few_clauses : HasMore a.problem 2000000 → ⊥

-- a count passes its limit; nothing is said of want of memory
abbrev pub RefusesAnalysis : Program → Refusal → Type 0
RefusesAnalysis p (refusal.Limit l) = PassesLimit p l
RefusesAnalysis p refusal.Memory = Unit {0}
