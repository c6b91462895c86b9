-- The edges of a graph: which lead on from what stands at a node, where they lead, and in which order they stand.
use Rattle.std.specs.Prelude.{◌≡◌, ℕ, ◌<◌, ◌==◌, ◌⊎◌, Bool, true, false, List, [], ◌∷◌, map, length, slice_get, Option, None, Some}
use Rattle.std.specs.List.{All, AllPairs, Contains, filter}
use Rattle.c_tree.specs.Typing.{has}
use Rattle.c_tree.specs.declared.program.Program.{Program}
use Rattle.c_meaning.specs.Place.{goes_back}
use Rattle.call_contexts.specs.declared.context.Ctx.{Ctx}
use Rattle.call_contexts.specs.Contexts.{contexts}
use Rattle.c_graph.specs.declared.graph.Action.{Action}
use Rattle.c_graph.specs.declared.graph.Action.TheVariants as action
use Rattle.c_graph.specs.declared.graph.Way.{Way}
use Rattle.c_graph.specs.declared.graph.Way.TheVariants as way
use Rattle.c_graph.specs.declared.graph.Node.{Node}
use Rattle.c_graph.specs.declared.graph.NodeKind.{NodeKind}
use Rattle.c_graph.specs.declared.graph.NodeKind.TheVariants.{Gap, Act, Exit}
use Rattle.c_graph.specs.declared.graph.Edge.{Edge}
use Rattle.c_graph.specs.declared.graph.Graph.{Graph}
use Rattle.c_graph.specs.Nodes.{says, way_said, graph}
use Rattle.c_graph.specs.Executes.{callee_of_leave}

-- a graph is that of a program in all its contexts
abbrev pub IsGraphOf : Program → Graph → Type 0
IsGraphOf p g = g ≡ graph p (contexts p)

-- the ways on from node v, in the order of its edges
abbrev pub ways_at : Graph → ℕ → List Way
ways_at g v = map (λ e. e.way) (filter (λ (e : Edge). e.from == v) g.edges)

-- the ways out of a function: back to where it was called from, and from `main` to an exit
abbrev pub LeavesBy : Option (ℕ × ℕ) → List Way → Type 0
LeavesBy None ways = ways ≡ way.On ∷ []
LeavesBy (Some home) ways = (target : Option ℕ) × (ways ≡ way.Leave target ∷ [])

-- control goes back from the closing brace of function f: of `main`, and of functions without a result
abbrev pub brace_leads : Program → ℕ → Bool
brace_leads p f = has (λ d. goes_back p f d.result) (slice_get p.funs f)

-- the ways on from a closing brace, by whether control goes back from it
abbrev pub BraceWays : Option (ℕ × ℕ) → List Way → Bool → Type 0
BraceWays home ways true = LeavesBy home ways
BraceWays home ways false = ways ≡ []

-- these are all ways on from an action in a context, each of them once
abbrev pub ActionWays : Program → Ctx → List Way → Action → Type 0
ActionWays p c ways (action.Test e) = ways ≡ map way_said (says e)
ActionWays p c ways (action.Malloc place size offset) = ways ≡ way.Made ∷ way.NotMade ∷ []
ActionWays p c ways (action.Call callee arguments) = ways ≡ way.Enter ∷ []
ActionWays p c ways (action.Return value) = LeavesBy c.home ways
ActionWays p c ways action.Close = BraceWays c.home ways (brace_leads p c.fun)
ActionWays p c ways (action.Unset x) = ways ≡ way.On ∷ []
ActionWays p c ways (action.Assign s) = ways ≡ way.On ∷ []
ActionWays p c ways (action.Getchar place) = ways ≡ way.On ∷ []
ActionWays p c ways (action.Putchar value) = ways ≡ way.On ∷ []
ActionWays p c ways (action.Printf text arguments) = ways ≡ way.On ∷ []

-- these are all ways on from a node
abbrev pub NodeWays : Program → Ctx → List Way → NodeKind → Type 0
NodeWays p c ways (Gap number frees) = ways ≡ way.On ∷ []
NodeWays p c ways (Act a) = ActionWays p c ways a
NodeWays p c ways (Exit offset) = ways ≡ []

-- edges leave each node of the graph of a program in all the ways of what stands there, and in no other
abbrev pub HasItsWays : Program → Type 0
HasItsWays p = (v : ℕ) (n : Node) → slice_get (graph p (contexts p)).nodes v ≡ Some n →
    (c : Ctx) × (slice_get (contexts p) n.ctx ≡ Some c) × NodeWays p c (ways_at (graph p (contexts p)) v) n.kind

-- a return or a closing brace
abbrev pub IsReturn : Action → Type 0
IsReturn (action.Return value) = Unit {0}
IsReturn action.Close = Unit {0}
IsReturn a = ⊥

-- out of `main`, edges lead to exits
abbrev pub EndsAtExits : Graph → Type 0
EndsAtExits g = (e : Edge) (k : ℕ) (a : Action) → Contains g.edges e → slice_get g.nodes e.from ≡ Some (record { ctx = k; kind = Act a }) → IsReturn a → e.way ≡ way.On →
    (offset : ℕ) × (slice_get g.nodes e.to ≡ Some (record { ctx = 0; kind = Exit offset }))

-- where an edge leads back from a function, that is the function of the context of its first node
abbrev pub LeavesBack : Program → Edge → Option ℕ → Type 0
LeavesBack p e callee = (target : Option ℕ) (n : Node) (c : Ctx) → Contains (graph p (contexts p)).edges e → e.way ≡ way.Leave target → slice_get (graph p (contexts p)).nodes e.from ≡ Some n →
    slice_get (contexts p) n.ctx ≡ Some c → callee ≡ Some c.fun

-- the graph says which it is
abbrev pub LeavesCallee : Program → Type 0
LeavesCallee p = (e : Edge) → LeavesBack p e (callee_of_leave (graph p (contexts p)) e)

-- edges lead from nodes to nodes
abbrev pub LeadsToNodes : Graph → Type 0
LeadsToNodes g = All (λ (e : Edge). (e.from < length g.nodes) × (e.to < length g.nodes)) g.edges

-- the order of ways
abbrev pub way_rank : Way → ℕ
way_rank way.On = 0
way_rank way.True = 1
way_rank way.False = 2
way_rank way.Made = 3
way_rank way.NotMade = 4
way_rank way.Enter = 5
way_rank (way.Leave target) = 6

-- edges stand by where they come from, then by way, then by where they lead
abbrev pub StandsBefore : Edge → Edge → Type 0
StandsBefore e d = (e.from < d.from) ⊎ ((e.from ≡ d.from) × ((way_rank e.way < way_rank d.way) ⊎ ((way_rank e.way ≡ way_rank d.way) × (e.to < d.to))))

-- each edge stands before all that follow it, so none comes twice
abbrev pub Ascends : Graph → Type 0
Ascends g = AllPairs StandsBefore g.edges
