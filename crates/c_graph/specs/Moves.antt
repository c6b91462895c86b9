-- The machine whose control is a node of a graph: what happens at one node, and a step, which goes through gaps up to and over the
-- next action. It is written over any store and its effects, as the machine whose control is a list of frames.
use Rattle.std.specs.Prelude.{ℕ, zero, suc, ◌==◌, ◌&&◌, Bool, true, false, List, [], ◌∷◌, length, slice_get, Option, Some, None, if◌then◌else◌}
use Rattle.c_meaning.specs.declared.value.Value.{Value}
use Rattle.c_meaning.specs.Parts.{Instruction}
use Rattle.c_meaning.specs.Effects.{Effect, Passes, Calls, Returns, Stays}
use Rattle.c_meaning.specs.Step.{Acts}
use Rattle.call_contexts.specs.declared.context.Ctx.{Ctx}
use Rattle.c_graph.specs.declared.graph.Way.{Way}
use Rattle.c_graph.specs.declared.graph.Way.TheVariants as way
use Rattle.c_graph.specs.declared.graph.Node.{Node}
use Rattle.c_graph.specs.declared.graph.NodeKind.{NodeKind}
use Rattle.c_graph.specs.declared.graph.NodeKind.TheVariants.{Gap, Act, Exit}
use Rattle.c_graph.specs.declared.graph.Edge.{Edge}
use Rattle.c_graph.specs.declared.graph.Graph.{Graph}
use Rattle.c_graph.specs.Actions.{instruction_of}

-- a node with a store
pub record At (M : Type 0) : Type 0 where
  pub node : ℕ
  pub store : M

abbrev pub stands : {M : Type 0} → ℕ → M → At M
stands v m = record { node = v; store = m }

-- the first edge from node v of a way that is asked for
abbrev pub first_edge : (Way → Bool) → ℕ → List Edge → Option Edge
first_edge asked v [] = None
first_edge asked v (e ∷ es) = if (e.from == v && asked e.way) then Some e else first_edge asked v es

-- the ways on behind an action that is no call and no return, by what a test says; both ways behind a malloc lead to one node
abbrev pub allows : Option Bool → Way → Bool
allows None way.On = true
allows None way.Made = true
allows None way.NotMade = true
allows (Some true) way.True = true
allows (Some false) way.False = true
allows said w = false

abbrev pub enters : Way → Bool
enters way.Enter = true
enters w = false

-- the ways behind a return: back to the caller, and from `main` to an exit
abbrev pub leaves : Way → Bool
leaves (way.Leave target) = true
leaves way.On = true
leaves w = false

module _ {M : Type 0} (g : Graph) (cs : List Ctx) (s : Acts M) where
  -- where no edge leads on, control is past all nodes
  abbrev pub lost : M → At M
  lost m = stands (length g.nodes) m

  -- over an edge
  abbrev pub moved : M → Option Edge → At M
  moved m None = lost m
  moved m (Some e) = stands e.to m

  -- back from a function over an edge
  abbrev pub left_by : ℕ → Option Value → M → ℕ → Way → At M
  left_by callee value m to (way.Leave target) = stands to (s.back callee target value m)
  left_by callee value m to way.On = stands to (s.ended value m)
  left_by callee value m to w = lost m

  -- back from the function of a context
  abbrev pub left : Option Value → M → Option Ctx → Option Edge → At M
  left value m (Some c) (Some e) = left_by c.fun value m e.to e.way
  left value m c e = lost m

  -- behind an action of node v in context k
  abbrev pub acted : ℕ → ℕ → Effect M → At M
  acted v k (Passes said m) = moved m (first_edge (allows said) v g.edges)
  acted v k (Calls callee m) = moved m (first_edge enters v g.edges)
  acted v k (Returns value m) = left value m (slice_get cs k) (first_edge leaves v g.edges)
  acted v k (Stays m) = stands v m

  -- an action, if it is one
  abbrev pub done : ℕ → ℕ → M → Option Instruction → At M
  done v k m None = stands v m
  done v k m (Some a) = acted v k (s.effect a m)

  -- behind the frees of a gap
  abbrev pub behind_frees : (At M → At M) → ℕ → M → Bool → At M
  behind_frees then_go v m true = stands v m
  behind_frees then_go v m false = then_go (moved m (first_edge (allows None) v g.edges))

  -- what happens at a node: the frees of a gap, and `then_go` at the node behind it; or an action
  abbrev pub at_kind : (At M → At M) → ℕ → ℕ → M → NodeKind → At M
  at_kind then_go v k m (Gap number frees) = behind_frees then_go v (s.freed frees m) (s.over (s.freed frees m))
  at_kind then_go v k m (Act a) = done v k m (instruction_of a)
  at_kind then_go v k m (Exit offset) = stands v m

  abbrev pub at_node : (At M → At M) → ℕ → M → Option Node → At M
  at_node then_go v m None = stands v m
  at_node then_go v m (Some n) = at_kind then_go v n.ctx m n.kind

  -- one node
  abbrev pub micro : At M → At M
  micro x = at_node (λ y. y) x.node x.store (slice_get g.nodes x.node)

  -- the gaps before the next action, at most n nodes with it, and that action
  abbrev pub nodes_walked : ℕ → At M → At M
  nodes_walked zero x = x
  nodes_walked (suc n) x = at_node (nodes_walked n) x.node x.store (slice_get g.nodes x.node)

  -- the walk of a step, unless the run has ended
  abbrev pub nodes_unless_ended : ℕ → At M → Bool → At M
  nodes_unless_ended bound x true = x
  nodes_unless_ended bound x false = nodes_walked bound (stands x.node (s.begun x.store))

  -- a step passes at most `bound` nodes; an ended run stays as it is
  abbrev pub nodes_stepped : ℕ → At M → At M
  nodes_stepped bound x = nodes_unless_ended bound x (s.over x.store)

  -- the machine after n steps from node 0
  abbrev pub graph_run : ℕ → M → ℕ → At M
  graph_run bound m zero = stands 0 m
  graph_run bound m (suc n) = nodes_stepped bound (graph_run bound m n)
