-- The facts that hold on every path to a node.
use Rattle.std.specs.Prelude.{◌≡◌, ℕ, ◌<◌, Bool, true, false, not, List, length, slice_get, Option}
use Rattle.std.specs.List.{All, Contains}
use Rattle.std.specs.Option.{option_and_then}
use Rattle.c_tree.specs.Typing.{has}
use Rattle.c_tree.specs.declared.program.Home.{Home}
use Rattle.c_tree.specs.declared.program.Home.TheVariants as home
use Rattle.c_graph.specs.declared.graph.Edge.{Edge}
use Rattle.c_graph.specs.declared.graph.Graph.{Graph}
use Rattle.mf_set.specs.Numbers.{Numbers, has as has_number}
use Rattle.ts_domain.specs.declared.before.Before.{Before}
use Rattle.ts_domain.specs.declared.before.Before.TheVariants.{Never, Where}
use Rattle.ts_domain.specs.declared.fact.Fact.{Fact}
use Rattle.ts_domain.specs.declared.fact.Fact.TheVariants.{Ready, Full, Filled, Equal, Apart}
use Rattle.ts_domain.specs.declared.facts.Path.{Path}
use Rattle.ts_domain.specs.declared.names.Names.{Names}
use Rattle.ts_domain.specs.Deeds.{edge_deeds}
use Rattle.ts_domain.specs.Facts.{before_deeds, fact_count, is_fact, number_of}
use Rattle.ts_domain.specs.Pointers.{has_home}

-- the nodes to which edges lead from node 0
pub data Reached (g : Graph) : ℕ → Type 0 where
  here : Reached g 0
  along : (e : Edge) → Contains g.edges e → Reached g e.from → Reached g e.to

-- whether a pointer variable is one of the file, which begins with its constant, a null pointer (6.7.8p10)
abbrev pub is_global_home : Home → Bool
is_global_home (home.Global n) = true
is_global_home (home.Param f) = false
is_global_home (home.Local f) = false
is_global_home (home.Result f) = false

abbrev pub is_global : Names → ℕ → Bool
is_global n k = has (has_home n is_global_home) (slice_get n.vars k)

abbrev pub same_bool : Bool → Bool → Bool
same_bool true b = b
same_bool false b = not b

-- whether a fact is true of the start: globals are null pointers, all else is indeterminate, and there is no object
abbrev pub true_at_start : Names → Fact → Bool
true_at_start n (Ready x) = is_global n x
true_at_start n (Full x) = false
true_at_start n (Filled j) = true
true_at_start n (Equal x y) = same_bool (is_global n x) (is_global n y)
true_at_start n (Apart x y) = true

-- what has to hold at the first node of an edge so that a fact holds behind it
abbrev pub before_edge : Names → Graph → Edge → Fact → Before
before_edge n g e f = before_deeds n (edge_deeds n g e) f

-- a fact fails at a node, by the start or by a path to it: the least relation
pub data Fails (n : Names) (g : Graph) : (v : ℕ) → Fact → Type 0 where
  starts : (f : Fact) → true_at_start n f ≡ false → Fails n g 0 f
  never : (e : Edge) (f : Fact) → Contains g.edges e → Reached g e.from → before_edge n g e f ≡ Never → Fails n g e.to f
  back : (e : Edge) (f h : Fact) → Contains g.edges e → Reached g e.from → before_edge n g e f ≡ Where h → Fails n g e.from h → Fails n g e.to f

-- whether a fact is noted at a node
abbrev pub holds_at : Names → Path → ℕ → Fact → Bool
holds_at n p v f = has (λ (s : Numbers). has_number s.items (number_of n f)) (slice_get p.at v)

-- at each node those facts are noted that don't fail there; so at a node that is not reached all are
pub record IsPath (n : Names) (g : Graph) (p : Path) : Type 0 where
  pub counted : length p.at ≡ length g.nodes
  pub rooms : All (λ (s : Numbers). s.room ≡ fact_count (length n.vars) (length n.fields)) p.at
  pub fails : (v : ℕ) (f : Fact) → v < length g.nodes → is_fact n f ≡ true → holds_at n p v f ≡ false → Fails n g v f
  pub holds : (v : ℕ) (f : Fact) → v < length g.nodes → is_fact n f ≡ true → Fails n g v f → holds_at n p v f ≡ false
