-- Lists that are gone through while they grow: of the nodes that are reached, and of triples.
use Rattle.std.specs.Prelude.{◌≡◌, ℕ, ◌+◌, ◌<◌, ◌≤◌, nat_eq, Bool, true, List, length, map, slice_get, Option, Some}
use Rattle.std.specs.List.{Contains, IsDistinct}
use Rattle.indexmap.specs.IndexSet.{insert_all}
use Rattle.c_graph.specs.declared.graph.Edge.{Edge}
use Rattle.c_graph.specs.declared.graph.Graph.{Graph}
use Rattle.mf_set.specs.Numbers.{Numbers, has as has_number}
use Rattle.ts_domain.specs.declared.facts.Facts.{Facts}
use Rattle.ts_domain.specs.declared.names.Names.{Names}
use Rattle.ts_domain.specs.declared.triples.Triple.{Triple}
use Rattle.ts_domain.specs.Derived.{behind, forbidden_at, pairs_at, put_follows, put_verdict, puts_at, Forbids, IsBorn, IsDerived, IsForbidden, IsNext, IsPair, Pairs}
use Rattle.ts_domain.specs.Path.{Reached}
use Rattle.ts_domain.specs.Rows.{row, AreRows}
use Rattle.typestate_fixpoint.specs.Gaps.{same_pair, HasMore}
use Rattle.ts_domain.specs.Reaching.{from_of, IsClosed}
use Rattle.typestate_fixpoint.specs.Steps.{same_triple, HasWide, PassesAll}

-- triples

-- the candidates behind a triple's node, as a set
abbrev pub behind_set : Names → Graph → Triple → Numbers
behind_set n g t = record { items = behind n g t; room = length n.puts }

-- a triple is gone through: it goes over all edges, and what it forbids and pairs is noted
pub record Expands (n : Names) (g : Graph) (f : Facts) (t : Triple) (us vs : List Triple) (old new : Numbers) (ps qs : List (ℕ × ℕ)) : Type 0 where
  pub outgoing : List (List ℕ)
  pub rows : AreRows (map from_of g.edges) outgoing
  pub between : Numbers
  pub forbids : HasMore (forbidden_at (put_verdict n t.mark) (puts_at n g t.node) t.puts.items) old between
  pub passes : PassesAll n g f t (behind_set n g t) (row outgoing t.node) us vs between new
  pub pairs : qs ≡ insert_all same_pair ps (pairs_at (put_verdict n t.mark) (put_follows n t.mark) (puts_at n g t.node) t.puts.items)

-- derived triples, the first of which have been gone through, with forbidden puts and pairs
pub record Going (n : Names) (g : Graph) (f : Facts) (done : ℕ) (ts : List Triple) (fs : Numbers) (ps : List (ℕ × ℕ)) : Type 0 where
  pub derived : (t : Triple) → Contains ts t → IsDerived n g f t
  pub born : (t : Triple) → IsBorn n g f t → Contains ts t
  pub closed : IsClosed (IsNext n g f) done ts
  pub narrow : (i : ℕ) (t : Triple) → i < done → slice_get ts i ≡ Some t → HasWide n g f t → ⊥
  pub once : IsDistinct same_triple ts
  pub within : done ≤ length ts
  pub room : fs.room ≡ length n.puts
  pub forbidden : (k : ℕ) → has_number fs.items k ≡ true → IsForbidden n g f k
  pub forbids : (i : ℕ) (t : Triple) (k : ℕ) → i < done → slice_get ts i ≡ Some t → Forbids n g f t k → has_number fs.items k ≡ true
  pub paired : (p : ℕ × ℕ) → Contains ps p → IsPair n g f p
  pub pairs : (i : ℕ) (t : Triple) (p : ℕ × ℕ) → i < done → slice_get ts i ≡ Some t → Pairs n g t p → Contains ps p
  pub pairs_once : IsDistinct same_pair ps

-- all of them have been gone through, and they are not too many
pub record AreAll (n : Names) (g : Graph) (f : Facts) (ts : List Triple) (fs : Numbers) (ps : List (ℕ × ℕ)) : Type 0 where
  pub done : ℕ
  pub going : Going n g f done ts fs ps
  pub ended : length ts ≤ done
  pub few : done ≤ 100000
