-- The nodes to which edges lead from the first one, gone through while they grow.
use Rattle.std.specs.Prelude.{◌≡◌, ℕ, ◌<◌, ◌≤◌, nat_eq, List, [], ◌∷◌, length, slice_get, Option, None, Some}
use Rattle.std.specs.List.{Contains, IsDistinct}
use Rattle.c_graph.specs.declared.graph.Edge.{Edge}
use Rattle.c_graph.specs.declared.graph.Graph.{Graph}
use Rattle.ts_domain.specs.Path.{Reached}

-- edges

-- an edge by its first node
abbrev pub from_of : Edge → Option ℕ
from_of e = Some e.from

-- an edge of that place begins at a node
abbrev pub BeginsAt : Graph → ℕ → ℕ → Type 0
BeginsAt g v k = (e : Edge) × (slice_get g.edges k ≡ Some e) × (e.from ≡ v)

-- where the edge of a place leads, if there is one
abbrev pub ends_of : Option Edge → List ℕ
ends_of None = []
ends_of (Some e) = e.to ∷ []

abbrev pub target : Graph → ℕ → List ℕ
target g k = ends_of (slice_get g.edges k)

-- an edge leads from a node to another
abbrev pub Leads : Graph → ℕ → ℕ → Type 0
Leads g v w = (e : Edge) × Contains g.edges e × (e.from ≡ v) × (e.to ≡ w)

-- lists that grow

-- what the first elements lead to is there
abbrev pub IsClosed : {T : Type 0} → (T → T → Type 0) → ℕ → List T → Type 0
IsClosed {T} Leads done xs = (i : ℕ) (s t : T) → i < done → slice_get xs i ≡ Some s → Leads s t → Contains xs t

-- nodes that are reached, the first of which have been gone through
pub record Walked (g : Graph) (done : ℕ) (xs : List ℕ) : Type 0 where
  pub reached : (v : ℕ) → Contains xs v → Reached g v
  pub first : Contains xs 0
  pub closed : IsClosed (Leads g) done xs
  pub once : IsDistinct nat_eq xs
  pub within : done ≤ length xs
