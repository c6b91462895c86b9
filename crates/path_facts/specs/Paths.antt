-- The edges of a graph by their first nodes, and lists of sets that have the facts of paths.
use Rattle.std.specs.Prelude.{◌≡◌, ℕ, ◌<◌, ◌≤◌, true, false, List, length, slice_get, Option, Some}
use Rattle.mf_set.specs.Numbers.{Numbers}
use Rattle.c_graph.specs.declared.graph.Edge.{Edge}
use Rattle.c_graph.specs.declared.graph.Graph.{Graph}
use Rattle.ts_domain.specs.declared.fact.Fact.{Fact}
use Rattle.ts_domain.specs.declared.names.Names.{Names}
use Rattle.ts_domain.specs.Facts.{is_fact}
use Rattle.ts_domain.specs.Path.{Fails}
use Rattle.path_facts.specs.Numbering.{holds, room_of}

-- an edge by its first node
abbrev pub from_of : Edge → Option ℕ
from_of e = Some e.from

-- edges lead between the first nodes
abbrev pub EndsWithin : ℕ → Graph → Type 0
EndsWithin count g = (k : ℕ) (e : Edge) → slice_get g.edges k ≡ Some e → (e.from < count) × (e.to < count)

-- an edge of that place begins at a node
abbrev pub BeginsAt : Graph → ℕ → ℕ → Type 0
BeginsAt g v k = (e : Edge) × (slice_get g.edges k ≡ Some e) × (e.from ≡ v)

-- a number that nodes and ends of edges are below, of which there is one at least
pub record Counts (g : Graph) (count : ℕ) : Type 0 where
  pub some : 0 < count
  pub nodes : length g.nodes ≤ count
  pub ends : EndsWithin count g

-- each set has those facts that don't fail at its node
pub record AreFacts (n : Names) (g : Graph) (count : ℕ) (xs : List Numbers) : Type 0 where
  pub long : length xs ≡ count
  pub rooms : (u : ℕ) (x : Numbers) → slice_get xs u ≡ Some x → x.room ≡ room_of n
  pub fails : (u : ℕ) (x : Numbers) (f : Fact) → slice_get xs u ≡ Some x → is_fact n f ≡ true → holds n x f ≡ false → Fails n g u f
  pub holds : (u : ℕ) (x : Numbers) (f : Fact) → slice_get xs u ≡ Some x → is_fact n f ≡ true → Fails n g u f → holds n x f ≡ false

-- the same of the first edges alone
pub record CountsSome (g : Graph) (upto count : ℕ) : Type 0 where
  pub some : 0 < count
  pub nodes : length g.nodes ≤ count
  pub ends : (k : ℕ) (e : Edge) → k < upto → slice_get g.edges k ≡ Some e → (e.from < count) × (e.to < count)
