-- What the analyses of a program find, and the limits that its counts keep.
use Rattle.std.specs.Prelude.{◌≡◌, ◌<◌, ◌≤◌, ℕ, Option, None, Some, slice_get, length}
use Rattle.std.specs.Option.{option_and_then}
use Rattle.c_tree.specs.declared.choice.Choice.{Choice}
use Rattle.c_tree.specs.declared.limits.Limit.{Limit}
use Rattle.c_tree.specs.declared.limits.Limit.TheVariants as limit
use Rattle.c_tree.specs.declared.program.Program.{Program}
use Rattle.call_contexts.specs.Contexts.{contexts}
use Rattle.c_graph.specs.Nodes.{graph}
use Rattle.c_graph.specs.declared.graph.Action.{Action}
use Rattle.c_graph.specs.declared.graph.Action.TheVariants as action
use Rattle.c_graph.specs.declared.graph.Graph.{Graph}
use Rattle.c_graph.specs.declared.graph.Node.{Node}
use Rattle.c_graph.specs.declared.graph.NodeKind.{NodeKind}
use Rattle.c_graph.specs.declared.graph.NodeKind.TheVariants as kind
use Rattle.ts_domain.specs.declared.facts.Facts.{Facts}
use Rattle.ts_domain.specs.declared.names.Names.{Names}
use Rattle.ts_domain.specs.Derived.{AreDerived, PassesStates}
use Rattle.ts_domain.specs.May.{IsMay}
use Rattle.ts_domain.specs.Path.{IsPath}
use Rattle.ts_domain.specs.Puts.{names_of, passed}
use Rattle.cover_problem.specs.declared.types.Problem.{Problem}
use Rattle.cover_problem.specs.Alone.{LeastAlone}
use Rattle.cover_problem.specs.Problem.{IsCoverOf, IsProblem}
use Rattle.cover_clauses.specs.Clauses.{HasMore}

-- what is analysed

-- the program's graph in its contexts
abbrev pub graph_in : Program → Graph
graph_in p = graph p (contexts p)

-- the names of both
abbrev pub names_in : Program → Names
names_in p = names_of (graph_in p) p

-- these are the facts of the program
pub record AreFacts (p : Program) (f : Facts) : Type 0 where
  pub may : IsMay (names_in p) (graph_in p) f.may
  pub path : IsPath (names_in p) (graph_in p) f.path

-- this is its cover problem
pub record IsProblemIn (p : Program) (q : Problem) : Type 0 where
  pub facts : Facts
  pub are : AreFacts p facts
  pub derived : AreDerived (names_in p) (graph_in p) facts q.derived
  pub problem : IsProblem (graph_in p) (names_in p) facts.path q.derived q

-- limits

-- its contexts, nodes, variables, expressions, sites and puts are no more than the limits
pub record IsSmall (p : Program) : Type 0 where
  pub contexts : length (contexts p) ≤ 1024
  pub nodes : length (graph_in p).nodes ≤ 10000
  pub names : passed (names_in p) ≡ None

-- and it has no more states
pub record HasFewStates (p : Program) : Type 0 where
  pub small : IsSmall p
  pub facts : Facts
  pub are : AreFacts p facts
  pub few : PassesStates (names_in p) (graph_in p) facts → ⊥

-- a count passes its limit, and those before it in this order do not
pub data PassesLimit (p : Program) : Limit → Type 0 where
  by_contexts : 1024 < length (contexts p) → PassesLimit p limit.Contexts
  by_nodes : length (contexts p) ≤ 1024 → 10000 < length (graph_in p).nodes → PassesLimit p limit.Nodes
  by_names : (l : Limit) → length (contexts p) ≤ 1024 → length (graph_in p).nodes ≤ 10000 → passed (names_in p) ≡ Some l → PassesLimit p l
  by_states : IsSmall p → (f : Facts) → AreFacts p f → PassesStates (names_in p) (graph_in p) f → PassesLimit p limit.States
  by_clauses : HasFewStates p → (q : Problem) → IsProblemIn p q → HasMore q 2000000 → PassesLimit p limit.Clauses

-- no count passes its limit, and this is the cover problem
pub record IsAnalysed (p : Program) (q : Problem) : Type 0 where
  pub few_states : HasFewStates p
  pub problem : IsProblemIn p q
  pub few_clauses : HasMore q 2000000 → ⊥

-- programs without a cover

-- the offset of the word `malloc` of what stands at a node
abbrev pub offset_of_action : Action → Option ℕ
offset_of_action (action.Malloc place size at) = Some at
offset_of_action (action.Unset x) = None
offset_of_action (action.Assign s) = None
offset_of_action (action.Getchar place) = None
offset_of_action (action.Putchar e) = None
offset_of_action (action.Printf text es) = None
offset_of_action (action.Test e) = None
offset_of_action (action.Call f es) = None
offset_of_action (action.Return value) = None
offset_of_action action.Close = None

abbrev pub malloc_offset : NodeKind → Option ℕ
malloc_offset (kind.Gap number frees) = None
malloc_offset (kind.Act a) = offset_of_action a
malloc_offset (kind.Exit at) = None

-- the offset at which a run ends there
abbrev pub end_offset : NodeKind → Option ℕ
end_offset (kind.Gap number frees) = None
end_offset (kind.Act a) = None
end_offset (kind.Exit at) = Some at

abbrev pub node_malloc : Graph → ℕ → Option ℕ
node_malloc g v = option_and_then (λ (x : Node). malloc_offset x.kind) (slice_get g.nodes v)

-- the offset of the word `malloc` of a site
abbrev pub site_offset : Graph → Names → ℕ → Option ℕ
site_offset g n s = option_and_then (node_malloc g) (slice_get n.sites s)

-- the offset of the end of a run at a node
abbrev pub exit_offset : Graph → ℕ → Option ℕ
exit_offset g v = option_and_then (λ (x : Node). end_offset x.kind) (slice_get g.nodes v)

-- of the objects that no put may free on the way to some exit, this is the first, by site and exit: its word `malloc`, and the
-- `return` or the closing brace of the exit
pub record IsAlone (p : Program) (site exit : ℕ) : Type 0 where
  pub problem : Problem
  pub analysed : IsAnalysed p problem
  pub place : ℕ × ℕ
  pub alone : LeastAlone problem (Some place)
  pub is_site : site_offset (graph_in p) (names_in p) place.0 ≡ Some site
  pub is_exit : exit_offset (graph_in p) place.1 ≡ Some exit

-- each object has puts that may free it, and no choice is a cover
pub record IsUncovered (p : Program) : Type 0 where
  pub problem : Problem
  pub analysed : IsAnalysed p problem
  pub none_alone : LeastAlone problem None
  pub none_covers : (s : Choice) → IsCoverOf problem s → ⊥
