-- What one triple becomes over the edges from its node, as it is computed.
use Rattle.std.specs.Prelude.{◌≡◌, ℕ, ◌&&◌, nat_eq, cond, not, Bool, true, false, List, [], ◌∷◌, map, slice_get, Option, None, Some}
use Rattle.std.specs.List.{Contains, flat_map, list_any}
use Rattle.indexmap.specs.IndexSet.{insert_all}
use Rattle.c_tree.specs.Typing.{has}
use Rattle.c_graph.specs.declared.graph.Edge.{Edge}
use Rattle.c_graph.specs.declared.graph.Graph.{Graph}
use Rattle.mf_set.specs.Numbers.{Numbers}
use Rattle.mf_set.specs.Order.{numbers_eq}
use Rattle.ts_domain.specs.declared.facts.Facts.{Facts}
use Rattle.ts_domain.specs.declared.marks.Mark.{Mark}
use Rattle.ts_domain.specs.declared.marks.Step.{Step}
use Rattle.ts_domain.specs.declared.names.Names.{Names}
use Rattle.ts_domain.specs.declared.triples.Triple.{Triple}
use Rattle.ts_domain.specs.Deeds.{edge_deeds}
use Rattle.ts_domain.specs.Derived.{carried, triple}
use Rattle.ts_domain.specs.Post.{born, is_wide_edge, post}
use Rattle.ts_domain.specs.Reaching.{from_of}
use Rattle.ts_domain.specs.Rows.{AreRows}
use Rattle.ts_domain.specs.SameEntries.{same_mark}
use Rattle.typestate_fixpoint.specs.Gaps.{ArePuts, HasMore}
use Rattle.typestate_fixpoint.specs.declared.tables.Tables.{Tables}

-- tables

pub record AreTables (n : Names) (g : Graph) (t : Tables) : Type 0 where
  pub outgoing : AreRows (map from_of g.edges) t.outgoing
  pub deeds : t.deeds ≡ map (edge_deeds n g) g.edges
  pub puts : ArePuts n t.puts

-- triples

abbrev pub same_triple : Triple → Triple → Bool
same_triple a b = nat_eq a.node b.node && (same_mark a.mark b.mark && numbers_eq a.puts b.puts)

-- what a triple becomes by a step to a node, of the candidates behind its own
abbrev pub next_triple : ℕ → Numbers → Step → Triple
next_triple to held s = record { node = to; mark = s.mark; puts = record { items = carried s.touched held.items; room = held.room } }

abbrev pub touches : List Step → Bool
touches ss = list_any (λ (s : Step). s.touched) ss

-- a triple goes over an edge: to each post, and its candidates are forbidden where one is touched
pub record Passes (n : Names) (g : Graph) (f : Facts) (e : Edge) (t : Triple) (held : Numbers) (us vs : List Triple) (old new : Numbers) : Type 0 where
  pub narrow : is_wide_edge n g f e t.mark ≡ false
  pub keys : vs ≡ insert_all same_triple us (map (next_triple e.to held) (post n g f e t.mark))
  pub forbidden : HasMore (cond (touches (post n g f e t.mark)) t.puts.items []) old new

-- the same over the edge of a place, if there is one
abbrev pub edge_triples : Names → Graph → Facts → Triple → Numbers → Option Edge → List Triple
edge_triples n g f t held None = []
edge_triples n g f t held (Some e) = map (next_triple e.to held) (post n g f e t.mark)

abbrev pub edge_forbids : Names → Graph → Facts → Triple → Option Edge → List ℕ
edge_forbids n g f t None = []
edge_forbids n g f t (Some e) = cond (touches (post n g f e t.mark)) t.puts.items []

abbrev pub place_triples : Names → Graph → Facts → Triple → Numbers → ℕ → List Triple
place_triples n g f t held p = edge_triples n g f t held (slice_get g.edges p)

abbrev pub place_forbids : Names → Graph → Facts → Triple → ℕ → List ℕ
place_forbids n g f t p = edge_forbids n g f t (slice_get g.edges p)

abbrev pub is_wide_at : Names → Graph → Facts → Triple → ℕ → Bool
is_wide_at n g f t p = has (λ e. is_wide_edge n g f e t.mark) (slice_get g.edges p)

-- over the edges of some places
pub record PassesAll (n : Names) (g : Graph) (f : Facts) (t : Triple) (held : Numbers) (ps : List ℕ) (us vs : List Triple) (old new : Numbers) : Type 0 where
  pub narrow : list_any (is_wide_at n g f t) ps ≡ false
  pub keys : vs ≡ insert_all same_triple us (flat_map (place_triples n g f t held) ps)
  pub forbidden : HasMore (flat_map (place_forbids n g f t) ps) old new

-- an edge from a triple's node is wide for its mark
abbrev pub HasWide : Names → Graph → Facts → Triple → Type 0
HasWide n g f t = (e : Edge) × Contains g.edges e × (e.from ≡ t.node) × (is_wide_edge n g f e t.mark ≡ true)

-- births

abbrev pub born_triple : Names → ℕ → Option Mark → List Triple
born_triple n to None = []
born_triple n to (Some m) = triple n to m [] ∷ []

abbrev pub born_over : Names → Graph → Facts → Edge → List Triple
born_over n g f e = born_triple n e.to (born n g f e)

-- those of edges from some nodes alone
abbrev pub born_from : Names → Graph → Facts → List ℕ → Edge → List Triple
born_from n g f vs e = cond (list_any (nat_eq e.from) vs) (born_over n g f e) []
