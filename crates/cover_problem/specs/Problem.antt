-- What a problem is of a graph, its names, its path facts and what was derived.
use Rattle.std.specs.Prelude.{◌≡◌, ◌↔◌, ℕ, ◌<◌, ◌≤◌, Bool, true, List, length}
use Rattle.std.specs.List.{Contains}
use Rattle.c_tree.specs.declared.choice.Choice.{Choice}
use Rattle.c_graph.specs.declared.graph.Graph.{Graph}
use Rattle.mf_set.specs.Numbers.{Numbers, has, IsSet}
use Rattle.ts_domain.specs.declared.facts.Path.{Path}
use Rattle.ts_domain.specs.declared.names.Names.{Names}
use Rattle.ts_domain.specs.declared.triples.Derived.{Derived}
use Rattle.ts_domain.specs.declared.triples.Triple.{Triple}
use Rattle.ts_domain.specs.Cover.{is_allowed, is_exit_at, Covers}
use Rattle.cover_problem.specs.declared.types.Problem.{Problem}

-- a triple at an exit, as a problem lists it
pub record IsExit (g : Graph) (d : Derived) (e : ℕ × ℕ × Numbers) : Type 0 where
  pub triple : Triple
  pub derived : Contains d.triples triple
  pub leaves : is_exit_at g triple.node ≡ true
  pub is : e ≡ (triple.mark.site, triple.node, triple.puts)

-- the names and what was derived as they are, the allowed puts, and the triples at exits
pub record IsProblem (g : Graph) (n : Names) (p : Path) (d : Derived) (q : Problem) : Type 0 where
  pub names : q.names ≡ n
  pub derived : q.derived ≡ d
  pub room : q.allowed.room ≡ length n.puts
  pub allowed : (k : ℕ) → has q.allowed.items k ≡ is_allowed g n p k
  pub exits : (e : ℕ × ℕ × Numbers) → Contains q.exits e ↔ IsExit g d e

-- the sets of puts of what was derived have room for all puts, and the puts of a pair are some of these, the lesser first; all that is derived has it
pub record HasShape (n : Names) (d : Derived) : Type 0 where
  pub triples : (t : Triple) → Contains d.triples t → IsSet t.puts × (t.puts.room ≡ length n.puts)
  pub forbidden : d.forbidden.room ≡ length n.puts
  pub pairs : (j k : ℕ) → Contains d.pairs (j, k) → (j ≤ k) × (k < length n.puts)

-- the sets of a problem have such numbers too
pub record HasRooms (q : Problem) : Type 0 where
  pub derived : HasShape q.names q.derived
  pub allowed : (k : ℕ) → has q.allowed.items k ≡ true → k < length q.names.puts
  pub exits : (e : ℕ × ℕ × Numbers) → Contains q.exits e → IsSet e.2 × (e.2.room ≡ length q.names.puts)

-- the candidates of a triple at an exit
abbrev pub AtExit : Problem → Numbers → Type 0
AtExit q c = (e : ℕ × ℕ × Numbers) × Contains q.exits e × (e.2 ≡ c)

-- a choice is a cover of the problem
abbrev pub IsCoverOf : Problem → Choice → Type 0
IsCoverOf q s = Covers (has q.allowed.items) (AtExit q) q.names q.derived s
