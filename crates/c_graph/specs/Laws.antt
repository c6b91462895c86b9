-- What analyses need of the graph of a program.
use Rattle.std.specs.Prelude.{◌≡◌, ℕ, ◌⊎◌, Bool, false, List, [], length, slice_get, Some}
use Rattle.std.specs.List.{Contains}
use Rattle.c_tree.specs.declared.program.Program.{Program}
use Rattle.c_meaning.specs.Machine.{Store, store_of, start}
use Rattle.c_meaning.specs.Effects.{is_over}
use Rattle.c_meaning.specs.Step.{counted}
use Rattle.call_contexts.specs.Contexts.{contexts}
use Rattle.c_graph.specs.declared.graph.Node.{Node}
use Rattle.c_graph.specs.declared.graph.Edge.{Edge}
use Rattle.c_graph.specs.Executes.{Executes, Faults, Comes, sites_over}
use Rattle.c_graph.specs.Met.{micro_of, sites_behind}
use Rattle.c_graph.specs.Moves.{At, stands}
use Rattle.c_graph.specs.Nodes.{graph}
use Rattle.c_graph.specs.Ways.{HasItsWays, LeavesCallee, LeadsToNodes, EndsAtExits, Ascends}

-- one node of a run that has not ended: control goes on from there over an edge that does what it says, or it stays
abbrev pub GoesByEdges : Program → Type 0
GoesByEdges p = (v : ℕ) (s : Store) → is_over s.ending ≡ false → Comes p (graph p (contexts p)) v s (micro_of p (stands v s))

-- and where an edge is executed, control goes over it
abbrev pub GoesOver : Program → Type 0
GoesOver p = (e : Edge) (s t : Store) → Contains (graph p (contexts p)).edges e → is_over s.ending ≡ false → Executes p (graph p (contexts p)) e s t → micro_of p (stands e.from s) ≡ stands e.to t

-- an object that is born gets the first node of that edge as its site, and nothing else changes sites
abbrev pub BearsOnMade : Program → Type 0
BearsOnMade p = (e : Edge) (s t : Store) (sites : List ℕ) → Executes p (graph p (contexts p)) e s t → sites_behind e.from s t sites ≡ sites_over e sites

-- the laws of a program's graph
pub record HasLaws (p : Program) : Type 0 where
  pub ways : HasItsWays p
  pub within : LeadsToNodes (graph p (contexts p))
  pub exits : EndsAtExits (graph p (contexts p))
  pub order : Ascends (graph p (contexts p))
  pub leaves : LeavesCallee p
  pub goes : GoesByEdges p
  pub over : GoesOver p
  pub bears : BearsOnMade p

-- P holds at the start of a run, and is kept by the begin of a step, over each edge, and by each fault
pub record IsKept (p : Program) (input : List ℕ) (fails : List Bool) (P : ℕ → Store → List ℕ → Type 0) : Type 0 where
  pub starts : P 0 (store_of (start p input fails)) []
  pub begins : (v : ℕ) (s : Store) (sites : List ℕ) → is_over s.ending ≡ false → P v s sites → P v (counted s) sites
  pub goes : (e : Edge) (s t : Store) (sites : List ℕ) → Contains (graph p (contexts p)).edges e → is_over s.ending ≡ false → Executes p (graph p (contexts p)) e s t → P e.from s sites → P e.to t (sites_over e sites)
  pub faults : (v : ℕ) (n : Node) (s t : Store) (sites : List ℕ) → slice_get (graph p (contexts p)).nodes v ≡ Some n → is_over s.ending ≡ false → Faults p s n.kind t → P v s sites → P v t sites

-- P holds of a node with a store and its sites; or control is past all nodes, where nothing happens any more
abbrev pub HoldsOrLost : Program → (ℕ → Store → List ℕ → Type 0) → At Store → List ℕ → Type 0
HoldsOrLost p P x sites = P x.node x.store sites ⊎ ((x.node ≡ length (graph p (contexts p)).nodes) × (is_over x.store.ending ≡ false))
