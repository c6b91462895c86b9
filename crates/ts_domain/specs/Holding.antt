-- Given sites that flow and given path facts, be they worked out or read: what they say of a machine, and when they are closed.
use Rattle.std.specs.Prelude.{◌≡◌, ℕ, ◌-◌, ◌<◌, ◌==◌, nat_lt, Bool, true, false, List, length, slice_get, Some, if◌then◌else◌}
use Rattle.std.specs.List.{Contains}
use Rattle.c_tree.specs.WellFormed.{IsWellFormed}
use Rattle.c_tree.specs.declared.program.Program.{Program}
use Rattle.c_meaning.specs.declared.value.Value.TheVariants as value
use Rattle.c_meaning.specs.Machine.{Store}
use Rattle.call_contexts.specs.Contexts.{contexts}
use Rattle.c_graph.specs.declared.graph.Edge.{Edge}
use Rattle.c_graph.specs.declared.graph.Graph.{Graph}
use Rattle.c_graph.specs.Laws.{HoldsOrLost}
use Rattle.c_graph.specs.Met.{Met}
use Rattle.c_graph.specs.Moves.{At}
use Rattle.c_graph.specs.Nodes.{graph}
use Rattle.mf_set.specs.Numbers.{has as has_number}
use Rattle.ts_domain.specs.declared.before.Before.{Before}
use Rattle.ts_domain.specs.declared.before.Before.TheVariants.{Always, Never, Where}
use Rattle.ts_domain.specs.declared.deed.Deed.TheVariants.{Sets, SetsField}
use Rattle.ts_domain.specs.declared.deed.Source.{Source}
use Rattle.ts_domain.specs.declared.deed.Source.TheVariants.{Content, Null, New, Undef}
use Rattle.ts_domain.specs.declared.fact.Fact.{Fact}
use Rattle.ts_domain.specs.declared.facts.May.{May}
use Rattle.ts_domain.specs.declared.facts.Path.{Path}
use Rattle.ts_domain.specs.declared.names.Names.{Names}
use Rattle.ts_domain.specs.declared.names.Read.{Read}
use Rattle.ts_domain.specs.declared.names.Read.TheVariants as read
use Rattle.ts_domain.specs.Facts.{is_fact}
use Rattle.ts_domain.specs.Marks.{makes_struct, some_beyond, some_in_field}
use Rattle.ts_domain.specs.May.{IsDone, flows_into, flows_to, read_of, struct_of}
use Rattle.ts_domain.specs.Path.{Reached, before_edge, holds_at, true_at_start}
use Rattle.ts_domain.specs.Truth.{IsTrueOf}
use Rattle.ts_domain.specs.TypedMachines.{IsTyped}
use Rattle.ts_domain.specs.Views.{AreNames, View, view_of}

-- sites that flow

-- a site, by its place, made an object
abbrev pub IsSite : Names → List ℕ → ℕ → ℕ → Type 0
IsSite n sites o t = (w : ℕ) × (slice_get sites o ≡ Some w) × (slice_get n.sites t ≡ Some w)

-- whatever is pointed to was made at a site that flows there
pub record MayHolds (n : Names) (m : May) (sites : List ℕ) (v : View) : Type 0 where
  pub slots : (k o : ℕ) → v.slot k ≡ value.Ptr o → (t : ℕ) × IsSite n sites o t × (flows_to m k t ≡ true)
  pub cells : (o f q : ℕ) → v.cell o f ≡ value.Ptr q → (s t : ℕ) × IsSite n sites q s × IsSite n sites o t × (flows_into m t f s ≡ true)

-- whether a site flows to what a read finds: a variable, a field of a site of a variable, or that field of some site of that struct
abbrev pub found_in : Names → Graph → May → Read → ℕ → Bool
found_in n g m (read.Name k) s = if nat_lt k (length n.vars) then flows_to m k s else some_in_field m (λ ss. has_number ss s) (slice_get n.fields (k - length n.vars))
found_in n g m (read.Deep c f) s = some_beyond m (makes_struct n g c) f (λ ss. has_number ss s)

-- whether it flows to what a write takes
abbrev pub taken_in : Names → Graph → May → Source → ℕ → Bool
taken_in n g m (Content l) s = found_in n g m (read_of l) s
taken_in n g m Null s = false
taken_in n g m (New t) s = t == s
taken_in n g m Undef s = false

-- closed under all writes of all edges, as to the sites that exist: to a variable, and to a field of each site of the base that has
-- that field
pub record IsClosedMay (n : Names) (g : Graph) (m : May) : Type 0 where
  pub variables : (k : ℕ) (v : Source) (s : ℕ) → s < length n.sites → IsDone n g (Sets k v) → taken_in n g m v s ≡ true → flows_to m k s ≡ true
  pub fields : (r : Read) (c f : ℕ) (v : Source) (t s : ℕ) → t < length n.sites → s < length n.sites → IsDone n g (SetsField r c f v) → found_in n g m r t ≡ true → struct_of n g t ≡ Some c → taken_in n g m v s ≡ true → flows_into m t f s ≡ true

-- path facts

-- all facts that stand at a node are true
abbrev pub FactsHold : Names → Path → ℕ → View → Type 0
FactsHold n p v w = (f : Fact) → is_fact n f ≡ true → holds_at n p v f ≡ true → IsTrueOf n w f

-- whether what has to hold before stands at a node
abbrev pub stands_before : Names → Path → ℕ → Before → Bool
stands_before n p v Always = true
stands_before n p v Never = false
stands_before n p v (Where f) = holds_at n p v f

-- each fact at node 0 is true of the start, and over each edge from a reached node each fact at the target has a pre-fact that is
-- always so or stands at the first node
pub record IsClosedPath (n : Names) (g : Graph) (p : Path) : Type 0 where
  pub starts : (f : Fact) → is_fact n f ≡ true → holds_at n p 0 f ≡ true → true_at_start n f ≡ true
  pub over : (e : Edge) (f : Fact) → Contains g.edges e → Reached g e.from → is_fact n f ≡ true → holds_at n p e.to f ≡ true → stands_before n p e.from (before_edge n g e f) ≡ true

-- runs

-- P is true of all that runs of the program of a graph meet, with the nodes that made the objects, until control is lost
abbrev pub OfAllMet : Names → Graph → (ℕ → Store → List ℕ → Type 0) → Type 0
OfAllMet n g P = (p : Program) → IsWellFormed p → g ≡ graph p (contexts p) → AreNames p g n → (input : List ℕ) (fails : List Bool) (x : At Store) (sites : List ℕ) → Met p input fails x sites → HoldsOrLost p P x sites

-- what runs meet has the types of the program, and is pointed to only where sites flow
abbrev pub IsMayOfRuns : Names → Graph → May → Type 0
IsMayOfRuns n g m = OfAllMet n g (λ v s sites. IsTyped n g sites s × MayHolds n m sites (view_of n s))

-- and the facts at its node are true of it
abbrev pub IsPathOfRuns : Names → Graph → Path → Type 0
IsPathOfRuns n g p = OfAllMet n g (λ v s sites. FactsHold n p v (view_of n s))
