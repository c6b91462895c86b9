-- The parts that are found one after the other are an analysis, and what refuses one of them refuses it.
use Rattle.std.proofs.Common.{◌≡◌, ◌<◌, ◌≤◌, length, Result, Ok, Err, None, Some, IfErr, IsTrue, refl, sym, subst, ap, ◌∙◌}
use Rattle.c_tree.specs.Fill.{ascends}
use Rattle.c_tree.specs.declared.limits.Limit.{Limit}
use Rattle.c_tree.specs.declared.limits.Limit.TheVariants as limit
use Rattle.c_tree.specs.declared.limits.Refusal.{Refusal}
use Rattle.c_tree.specs.declared.limits.Refusal.TheVariants as refusal
use Rattle.c_tree.specs.declared.program.Program.{Program}
use Rattle.call_contexts.specs.Contexts.{contexts}
use Rattle.c_graph.specs.Nodes.{graph}
use Rattle.c_graph.specs.declared.graph.Graph.{Graph}
use Rattle.sat_log.specs.Clauses.{AreBelow}
use Rattle.ts_domain.specs.declared.facts.Facts.{Facts}
use Rattle.ts_domain.specs.declared.names.Names.{Names}
use Rattle.ts_domain.specs.declared.triples.Derived.{Derived}
use Rattle.ts_domain.specs.Derived.{AreDerived, HasWideEdge, PassesStates}
use Rattle.ts_domain.specs.Puts.{names_of, passed}
use Rattle.cover_problem.specs.declared.types.Problem.{Problem}
use Rattle.cover_problem.specs.Problem.{IsProblem}
use Rattle.cover_problem.proofs.CoverLaws.{problem_rooms}
use Rattle.cover_clauses.specs.Clauses.{AreClauses, HasMore}
use Rattle.memfix_engine.specs.Analysing.{IsAnalysis, RefusesAnalysis}
use Rattle.memfix_engine.specs.Analysis.{AreFacts, HasFewStates, IsProblemIn, IsSmall, PassesLimit, by_clauses, by_contexts, by_names, by_nodes, by_states, graph_in, names_in}
use Rattle.memfix_engine.specs.Parts.{AreFactsOf, IsProblemOf}
use Rattle.memfix_engine.specs.declared.analysis.Analysis.{Analysis}
use Rattle.cover_problem.proofs.ShapeLaws.{has_shape}
use Rattle.memfix_engine.proofs.LimitsAgree.{few_states}

-- refusals

-- a refusal is want of memory, or of a limit that is passed
pub refuses : (p : Program) (r : Refusal) → ((l : Limit) → r ≡ refusal.Limit l → PassesLimit p l) → RefusesAnalysis p r
refuses p (refusal.Limit l) passes = passes l refl
refuses p refusal.Memory passes = tt

-- and so is a result
pub refuses_result : {A : Type 0} (p : Program) (r : Result A Refusal) → ((l : Limit) → r ≡ Err (refusal.Limit l) → PassesLimit p l) → IfErr r (RefusesAnalysis p)
refuses_result p (Ok a) passes = tt
refuses_result p (Err r) passes = refuses p r (λ l is. passes l (ap Err is))

-- where only one limit is named, it is the one that is passed
pub passing : {A : Type 0} (r : Result A Refusal) (k : Limit) (P : Type 0) → ((l : Limit) → r ≡ Err (refusal.Limit l) → l ≡ k) → (r ≡ Err (refusal.Limit k) → P) → (l : Limit) → r ≡ Err (refusal.Limit l) → P
passing r k P only passed l is = passed (is ∙ ap (λ m. Err (refusal.Limit m)) (only l is))

-- too many contexts
pub passes_contexts : (p : Program) (l : Limit) → l ≡ limit.Contexts → 1024 < length (contexts p) → PassesLimit p l
passes_contexts p l is many = subst (PassesLimit p) (sym is) (by_contexts many)

-- too many nodes
pub passes_nodes : (p : Program) (l : Limit) → l ≡ limit.Nodes → length (contexts p) ≤ 1024 → 10000 < length (graph_in p).nodes → PassesLimit p l
passes_nodes p l is few many = subst (PassesLimit p) (sym is) (by_nodes few many)

-- too many names
pub passes_names : (p : Program) (g : Graph) (l : Limit) → length (contexts p) ≤ 1024 → length (graph_in p).nodes ≤ 10000 → g ≡ graph_in p → passed (names_of g p) ≡ Some l → PassesLimit p l
passes_names p g l few nodes is passes = by_names l few nodes (subst (λ h. passed (names_of h p) ≡ Some l) is passes)

-- the parts so far

-- a program's graph and names, no more than the limits
pub record IsNamed (p : Program) (g : Graph) (n : Names) : Type 0 where
  pub graph : g ≡ graph_in p
  pub names : n ≡ names_in p
  pub small : IsSmall p

-- the names of the program's graph are those of the program
pub named : (p : Program) (g : Graph) (n : Names) → g ≡ graph_in p → n ≡ names_of g p → length (contexts p) ≤ 1024 → length (graph_in p).nodes ≤ 10000 → passed n ≡ None → IsNamed p g n
named p g n is names few nodes small =
    let same : n ≡ names_in p = names ∙ ap (λ h. names_of h p) is in
    record { graph = is; names = same; small = record { contexts = few; nodes = nodes; names = subst (λ m. passed m ≡ None) same small } }

-- the facts of both are those of the program
pub program_facts : (p : Program) (g : Graph) (n : Names) (f : Facts) → g ≡ graph_in p → n ≡ names_in p → AreFactsOf n g f → AreFacts p f
program_facts p g n f is names are =
    let moved : AreFactsOf (names_in p) (graph_in p) f = subst (λ m. AreFactsOf m (graph_in p) f) names (subst (λ h. AreFactsOf n h f) is are) in
    record { may = moved.may; path = moved.path }

-- and so is their problem
pub program_problem : (p : Program) (g : Graph) (n : Names) (f : Facts) (q : Problem) → g ≡ graph_in p → n ≡ names_in p → IsProblemOf n g f q → IsProblemOf (names_in p) (graph_in p) f q
program_problem p g n f q is names are = subst (λ m. IsProblemOf m (graph_in p) f q) names (subst (λ h. IsProblemOf n h f q) is are)

-- too many states
pub passes_states : (p : Program) (g : Graph) (n : Names) (f : Facts) (l : Limit) → IsNamed p g n → AreFactsOf n g f → l ≡ limit.States → PassesStates n g f → PassesLimit p l
passes_states p g n f l named are is passes =
    let moved : PassesStates (names_in p) (graph_in p) f = subst (λ m. PassesStates m (graph_in p) f) named.names (subst (λ h. PassesStates n h f) named.graph passes) in
    subst (PassesLimit p) (sym is) (by_states named.small f (program_facts p g n f named.graph named.names are) moved)

-- the problem of facts of the program is one of the program
pub problem_in : (p : Program) (g : Graph) (n : Names) (f : Facts) (q : Problem) → IsNamed p g n → AreFactsOf n g f → IsProblemOf n g f q → IsProblemIn p q
problem_in p g n f q named are of =
    let moved = program_problem p g n f q named.graph named.names of in
    record { facts = f; are = program_facts p g n f named.graph named.names are; derived = moved.derived; problem = moved.problem }

-- and the program has few states
pub has_few : (p : Program) (g : Graph) (n : Names) (f : Facts) (q : Problem) → IsNamed p g n → AreFactsOf n g f → IsProblemOf n g f q → HasFewStates p
has_few p g n f q named are of =
    let moved = program_problem p g n f q named.graph named.names of in
    record { small = named.small; facts = f; are = program_facts p g n f named.graph named.names are; few = moved.few_states }

-- too many clauses
pub passes_clauses : (p : Program) (g : Graph) (n : Names) (f : Facts) (q : Problem) (l : Limit) → IsNamed p g n → AreFactsOf n g f → IsProblemOf n g f q → l ≡ limit.Clauses → HasMore q 2000000 → PassesLimit p l
passes_clauses p g n f q l named are of is more =
    subst (PassesLimit p) (sym is) (by_clauses (has_few p g n f q named are of) q (problem_in p g n f q named are of) more)

-- the whole

-- a problem of what is derived, within the limits
pub problem_of : (n : Names) (g : Graph) (f : Facts) (d : Derived) (q : Problem) → AreDerived n g f d → length d.triples ≤ 100000 → (HasWideEdge n g f → ⊥) → IsProblem g n f.path d q → IsProblemOf n g f q
problem_of n g f d q derived few narrow problem = record {
  derived = subst (AreDerived n g f) (sym problem.derived) derived;
  problem = subst (λ (e : Derived). IsProblem g n f.path e q) (sym problem.derived) problem;
  rooms = problem_rooms g n f.path d q problem (has_shape n g f d derived);
  narrow = narrow;
  few_states = few_states n g f d derived few narrow;
}

-- the parts are an analysis
pub analysed : (p : Program) (a : Analysis) → IsNamed p a.graph a.names → IsTrue (ascends a.names.puts) → AreFactsOf a.names a.graph a.facts → IsProblemOf a.names a.graph a.facts a.problem → AreClauses a.problem a.clauses → AreBelow a.clauses.vars a.clauses.list → (HasMore a.problem 2000000 → ⊥) → IsAnalysis p a
analysed p a named up are of clauses below few =
    let moved = program_problem p a.graph a.names a.facts a.problem named.graph named.names of in
    record {
      graph = named.graph;
      names = named.names;
      ascending = up;
      facts = program_facts p a.graph a.names a.facts named.graph named.names are;
      derived = moved.derived;
      problem = moved.problem;
      rooms = moved.rooms;
      clauses = clauses;
      below = below;
      small = named.small;
      narrow = moved.narrow;
      few_states = moved.few_states;
      few_clauses = few;
    }
