-- Sets of facts at nodes that shrink over edges until they fit all of them.
use Rattle.std.specs.Prelude.{◌≡◌, ◌≢◌, ◌⊎◌, ℕ, ◌+◌, ◌*◌, ◌-◌, ◌<◌, ◌≤◌, ◌||◌, not, Bool, true, false, List, [], ◌∷◌, length, slice_get, Some, if◌then◌else◌}
use Rattle.mf_set.specs.Numbers.{Numbers, IsSet, has as has_number, meet, with_number}
use Rattle.c_graph.specs.declared.graph.Edge.{Edge}
use Rattle.c_graph.specs.declared.graph.Graph.{Graph}
use Rattle.ts_domain.specs.declared.before.Before.{Before}
use Rattle.ts_domain.specs.declared.fact.Fact.{Fact}
use Rattle.ts_domain.specs.declared.names.Names.{Names}
use Rattle.ts_domain.specs.Facts.{is_fact}
use Rattle.ts_domain.specs.Path.{Fails, Reached, before_edge, true_at_start}
use Rattle.path_facts.specs.declared.worklist.Solving.{Solving}
use Rattle.path_facts.specs.Corrections.{Carries}
use Rattle.path_facts.specs.Numbering.{holds, holds_before, room_of}

-- all sets have that room
abbrev pub AreRooms : ℕ → List Numbers → Type 0
AreRooms room xs = (u : ℕ) (x : Numbers) → slice_get xs u ≡ Some x → x.room ≡ room

-- how many numbers the sets have
abbrev pub total : List Numbers → ℕ
total [] = 0
total (x ∷ xs) = length x.items + total xs

-- how much can still change, a node that is pending for one
abbrev pub weight : Solving → ℕ
weight s = 2 * (total s.at + (s.reached.room - length s.reached.items)) + length s.pending.items

-- the set at a place meets another
pub record Meets (to : ℕ) (other : Numbers) (changed : Bool) (old new : List Numbers) : Type 0 where
  pub there : (x : Numbers) → slice_get old to ≡ Some x → slice_get new to ≡ Some (record x { items = meet x.items other.items })
  pub apart : (u : ℕ) → u ≢ to → slice_get new u ≡ slice_get old u
  pub long : length new ≡ length old
  pub same : changed ≡ false → new ≡ old
  pub less : changed ≡ true → total new < total old
  pub rooms : (room : ℕ) → AreRooms room old → AreRooms room new

-- a node is added to a set, and whether it is new
pub record Adds (k : ℕ) (fresh : Bool) (old new : Numbers) : Type 0 where
  pub is : new ≡ record old { items = with_number old.items k }
  pub told : fresh ≡ not (has_number old.items k)
  pub set : IsSet new

-- each node has a set with room for all facts, and node sets have room for all nodes
pub record IsSized (n : Names) (s : Solving) : Type 0 where
  pub rooms : AreRooms (room_of n) s.at
  pub pending : s.pending.room ≡ length s.at
  pub reached : s.reached.room ≡ length s.at

-- the facts at a node are carried over an edge to another, which is pending where that changed it or reached it first
pub record Applies (n : Names) (before : Fact → Before) (from to : ℕ) (old new : Solving) : Type 0 where
  pub source : Numbers
  pub carried : Numbers
  pub smaller : Bool
  pub fresh : Bool
  pub first : slice_get old.at from ≡ Some source
  pub carries : Carries n before source carried
  pub meets : Meets to carried smaller old.at new.at
  pub reached : Adds to fresh old.reached new.reached
  pub pending : new.pending ≡ record old.pending { items = if smaller || fresh then with_number old.pending.items to else old.pending.items }

-- what is carried over an edge is among the facts behind it
pub record IsSettled (n : Names) (g : Graph) (s : Solving) (e : Edge) : Type 0 where
  pub reached : has_number s.reached.items e.to ≡ true
  pub facts : (x y : Numbers) (f : Fact) → slice_get s.at e.from ≡ Some x → slice_get s.at e.to ≡ Some y → is_fact n f ≡ true → holds_before n x (before_edge n g e f) ≡ false → holds n y f ≡ false

-- no set lacks what doesn't fail, and edges from nodes that are not pending are settled, but for some from a node v
pub record Good (n : Names) (g : Graph) (v : ℕ) (todo : List ℕ) (s : Solving) : Type 0 where
  pub sized : IsSized n s
  pub sound : (u : ℕ) (x : Numbers) (f : Fact) → slice_get s.at u ≡ Some x → is_fact n f ≡ true → holds n x f ≡ false → Fails n g u f
  pub reached : (u : ℕ) → has_number s.reached.items u ≡ true → Reached g u
  pub waiting : (u : ℕ) → has_number s.pending.items u ≡ true → has_number s.reached.items u ≡ true
  pub first : has_number s.reached.items 0 ≡ true
  pub starts : (x : Numbers) (f : Fact) → slice_get s.at 0 ≡ Some x → is_fact n f ≡ true → true_at_start n f ≡ false → holds n x f ≡ false
  pub closed : (k : ℕ) (e : Edge) → slice_get g.edges k ≡ Some e → has_number s.reached.items e.from ≡ true → has_number s.pending.items e.from ≡ false → IsSettled n g s e ⊎ ((e.from ≡ v) × (has_number todo k ≡ true))

-- a state on the way through the edges of a node
pub record Passing (n : Names) (g : Graph) (v : ℕ) (todo : List ℕ) (old s : Solving) : Type 0 where
  pub good : Good n g v todo s
  pub reached : has_number s.reached.items v ≡ true
  pub long : length s.at ≡ length old.at
  pub weight : weight s ≤ weight old

-- one node is gone through; where none was pending, nothing changed
pub record Steps (n : Names) (g : Graph) (more : Bool) (old s : Solving) : Type 0 where
  pub good : Good n g 0 [] s
  pub long : length s.at ≡ length old.at
  pub ended : more ≡ false → s.pending.items ≡ []
  pub less : more ≡ true → weight s < weight old

-- all edges are settled
pub record Solved (n : Names) (g : Graph) (old s : Solving) : Type 0 where
  pub good : Good n g 0 [] s
  pub long : length s.at ≡ length old.at
  pub ended : s.pending.items ≡ []
