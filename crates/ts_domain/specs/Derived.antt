-- What is derived from a graph, its names and its facts: triples, forbidden puts, and pairs of puts that conflict.
use Rattle.std.specs.Prelude.{◌≡◌, ◌≢◌, ◌↔◌, ◌⊎◌, ℕ, ◌+◌, ◌<◌, nat_lt, Bool, true, false, not, List, [], ◌∷◌, ◌++◌, length, map, slice_get, option_map, Option, None, Some, if◌then◌else◌}
use Rattle.std.specs.List.{AllPairs, Contains}
use Rattle.std.specs.Option.{option_and_then}
use Rattle.c_tree.specs.Typing.{has}
use Rattle.c_tree.specs.declared.choice.Put.{Put}
use Rattle.c_graph.specs.declared.graph.Edge.{Edge}
use Rattle.c_graph.specs.declared.graph.Graph.{Graph}
use Rattle.c_graph.specs.declared.graph.Node.{Node}
use Rattle.mf_set.specs.Numbers.{Numbers, has as has_number, with_number}
use Rattle.ts_domain.specs.declared.facts.Facts.{Facts}
use Rattle.ts_domain.specs.declared.marks.Mark.{Mark}
use Rattle.ts_domain.specs.declared.marks.Step.{Step}
use Rattle.ts_domain.specs.declared.marks.Verdict.{Verdict}
use Rattle.ts_domain.specs.declared.marks.Verdict.TheVariants.{Yes, No, Open}
use Rattle.ts_domain.specs.declared.names.Names.{Names}
use Rattle.ts_domain.specs.declared.triples.Derived.{Derived}
use Rattle.ts_domain.specs.declared.triples.Triple.{Triple}
use Rattle.ts_domain.specs.Marks.{only_if, verdict}
use Rattle.ts_domain.specs.Path.{Reached}
use Rattle.ts_domain.specs.Pointers.{field_place, place_of}
use Rattle.ts_domain.specs.Post.{born, is_wide_edge, post}
use Rattle.ts_domain.specs.Puts.{gap_key}
use Rattle.ts_domain.specs.Rows.{places_of}

-- what puts free

-- the expression of a put, by its number: a variable, or a field of it, which has its number behind the variables
abbrev pub freed_at : Names → Option ℕ → ℕ → Option ℕ
freed_at n None x = Some x
freed_at n (Some f) x = option_map (λ j. length n.vars + j) (field_place n.fields x f)

abbrev pub freed : Names → Put → Option ℕ
freed n q = option_and_then (freed_at n q.field) (place_of n q.var)

-- the variable of a put of a field
abbrev pub base_at : Option ℕ → ℕ → Option ℕ
base_at None x = None
base_at (Some f) x = Some x

abbrev pub base : Names → Put → Option ℕ
base n q = option_and_then (base_at q.field) (place_of n q.var)

-- what a mark says of what is freed; each put of a program frees an expression
abbrev pub freed_verdict : Mark → Option ℕ → Verdict
freed_verdict m None = No
freed_verdict m (Some e) = verdict m e

-- whether a variable may hold the object, so that a free of its field may read a freed object
abbrev pub may_follow : Mark → Option ℕ → Bool
may_follow m x = has (λ y. not (has_number m.lacks.items y)) x

-- both of the put of place k
abbrev pub put_verdict : Names → Mark → ℕ → Verdict
put_verdict n m k = freed_verdict m (option_and_then (freed n) (slice_get n.puts k))

abbrev pub put_follows : Names → Mark → ℕ → Bool
put_follows n m k = may_follow m (option_and_then (base n) (slice_get n.puts k))

-- gaps

-- the puts of a gap, which come in the order in which a gap is filled
abbrev pub put_gap : Put → Option ℕ
put_gap q = Some q.gap

abbrev pub gap_puts : Names → Option ℕ → List ℕ
gap_puts n None = []
gap_puts n (Some gap) = places_of (map put_gap n.puts) gap

-- those of a node, if a gap stands there
abbrev pub gap_at : Graph → ℕ → Option ℕ
gap_at g v = option_and_then (λ (node : Node). gap_key node.kind) (slice_get g.nodes v)

abbrev pub puts_at : Names → Graph → ℕ → List ℕ
puts_at n g v = gap_puts n (gap_at g v)

-- a put joins the candidates where what it frees surely points to the object
abbrev pub joined : Verdict → ℕ → List ℕ → List ℕ
joined Yes k held = with_number held k
joined No k held = held
joined Open k held = held

-- the candidates behind puts, from those before them
abbrev pub gathered : (ℕ → Verdict) → List ℕ → List ℕ → List ℕ
gathered v [] held = held
gathered v (k ∷ ks) held = gathered v ks (joined (v k) k held)

-- a put is forbidden where it joins and was there already, and where it is undecided
abbrev pub forbids : Verdict → Bool → Bool
forbids Yes already = already
forbids No already = false
forbids Open already = true

abbrev pub forbidden_at : (ℕ → Verdict) → List ℕ → List ℕ → List ℕ
forbidden_at v [] held = []
forbidden_at v (k ∷ ks) held = only_if (forbids (v k) (has_number held k)) k ++ forbidden_at v ks (joined (v k) k held)

-- a pair of puts, the lesser first
abbrev pub ordered : ℕ → ℕ → ℕ × ℕ
ordered j k = if nat_lt k j then (k, j) else (j, k)

-- a put of a field whose variable may hold the object makes a pair with each candidate that is there by then, itself among them
abbrev pub pairs_with : Bool → ℕ → List ℕ → List (ℕ × ℕ)
pairs_with true k held = map (λ j. ordered j k) held
pairs_with false k held = []

abbrev pub pairs_at : (ℕ → Verdict) → (ℕ → Bool) → List ℕ → List ℕ → List (ℕ × ℕ)
pairs_at v follows [] held = []
pairs_at v follows (k ∷ ks) held = pairs_with (follows k) k held ++ pairs_at v follows ks (joined (v k) k held)

-- triples

abbrev pub triple : Names → ℕ → Mark → List ℕ → Triple
triple n v m held = record { node = v; mark = m; puts = record { items = held; room = length n.puts } }

-- the candidates behind a triple's node
abbrev pub behind : Names → Graph → Triple → List ℕ
behind n g t = gathered (put_verdict n t.mark) (puts_at n g t.node) t.puts.items

-- where an edge touches the object, none go on
abbrev pub carried : Bool → List ℕ → List ℕ
carried true held = []
carried false held = held

-- the mark of a new object, with no candidates
pub record IsBorn (n : Names) (g : Graph) (f : Facts) (t : Triple) : Type 0 where
  pub edge : Edge
  pub is_edge : Contains g.edges edge
  pub reached : Reached g edge.from
  pub mark : Mark
  pub made : born n g f edge ≡ Some mark
  pub is : t ≡ triple n edge.to mark []

-- a triple goes over an edge to each post; an edge that is wide for the mark has none
pub record IsNext (n : Names) (g : Graph) (f : Facts) (s t : Triple) : Type 0 where
  pub edge : Edge
  pub is_edge : Contains g.edges edge
  pub leaves : edge.from ≡ s.node
  pub narrow : is_wide_edge n g f edge s.mark ≡ false
  pub step : Step
  pub goes : Contains (post n g f edge s.mark) step
  pub is : t ≡ triple n edge.to step.mark (carried step.touched (behind n g s))

-- the least set of triples
pub data IsDerived (n : Names) (g : Graph) (f : Facts) : Triple → Type 0 where
  starts : (t : Triple) → IsBorn n g f t → IsDerived n g f t
  follows : (s t : Triple) → IsDerived n g f s → IsNext n g f s t → IsDerived n g f t

-- a triple's candidates are forbidden where an edge touches the object
pub record Touches (n : Names) (g : Graph) (f : Facts) (t : Triple) : Type 0 where
  pub edge : Edge
  pub is_edge : Contains g.edges edge
  pub leaves : edge.from ≡ t.node
  pub narrow : is_wide_edge n g f edge t.mark ≡ false
  pub step : Step
  pub goes : Contains (post n g f edge t.mark) step
  pub touched : step.touched ≡ true

-- a triple forbids the put of place k
abbrev pub Forbids : Names → Graph → Facts → Triple → ℕ → Type 0
Forbids n g f t k = (Touches n g f t × (has_number t.puts.items k ≡ true)) ⊎ (has_number (forbidden_at (put_verdict n t.mark) (puts_at n g t.node) t.puts.items) k ≡ true)

abbrev pub IsForbidden : Names → Graph → Facts → ℕ → Type 0
IsForbidden n g f k = (t : Triple) × IsDerived n g f t × Forbids n g f t k

-- a triple makes a pair
abbrev pub Pairs : Names → Graph → Triple → ℕ × ℕ → Type 0
Pairs n g t p = Contains (pairs_at (put_verdict n t.mark) (put_follows n t.mark) (puts_at n g t.node) t.puts.items) p

abbrev pub IsPair : Names → Graph → Facts → ℕ × ℕ → Type 0
IsPair n g f p = (t : Triple) × IsDerived n g f t × Pairs n g t p

-- what is derived: exactly these triples, forbidden puts and pairs, each listed once
pub record AreDerived (n : Names) (g : Graph) (f : Facts) (d : Derived) : Type 0 where
  pub triples : (t : Triple) → Contains d.triples t ↔ IsDerived n g f t
  pub triples_once : AllPairs (λ s t. s ≢ t) d.triples
  pub room : d.forbidden.room ≡ length n.puts
  pub forbidden : (k : ℕ) → (has_number d.forbidden.items k ≡ true) ↔ IsForbidden n g f k
  pub pairs : (p : ℕ × ℕ) → Contains d.pairs p ↔ IsPair n g f p
  pub pairs_once : AllPairs (λ p q. p ≢ q) d.pairs

-- limits

-- there are more than 100,000 triples
pub record HasManyTriples (n : Names) (g : Graph) (f : Facts) : Type 0 where
  pub listed : List Triple
  pub derived : (t : Triple) → Contains listed t → IsDerived n g f t
  pub once : AllPairs (λ s t. s ≢ t) listed
  pub many : 100000 < length listed

-- an edge is wide for the mark of a triple at its first node
pub record HasWideEdge (n : Names) (g : Graph) (f : Facts) : Type 0 where
  pub triple : Triple
  pub derived : IsDerived n g f triple
  pub edge : Edge
  pub is_edge : Contains g.edges edge
  pub leaves : edge.from ≡ triple.node
  pub wide : is_wide_edge n g f edge triple.mark ≡ true

abbrev pub PassesStates : Names → Graph → Facts → Type 0
PassesStates n g f = HasManyTriples n g f ⊎ HasWideEdge n g f
