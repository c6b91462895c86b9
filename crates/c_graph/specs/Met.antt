-- What a run over nodes meets, also in the middle of a step, with the node that made each object; and what is promised of it.
use Rattle.std.specs.Prelude.{◌≡◌, ℕ, ◌+◌, nat_lt, Bool, false, List, [], ◌∷◌, ◌++◌, length, if◌then◌else◌}
use Rattle.c_tree.specs.declared.program.Program.{Program}
use Rattle.c_meaning.specs.Machine.{Store, store_of, start}
use Rattle.c_meaning.specs.Effects.{is_over}
use Rattle.c_meaning.specs.Step.{acts, counted}
use Rattle.c_meaning.specs.Safe.{run}
use Rattle.call_contexts.specs.Contexts.{contexts}
use Rattle.c_graph.specs.Nodes.{graph}
use Rattle.c_graph.specs.Moves.{At, stands, micro, graph_run}

-- the nodes of a program in all its contexts, for the effects of its own store

-- one node of the program's graph
abbrev pub micro_of : Program → At Store → At Store
micro_of p = micro (graph p (contexts p)) (contexts p) (acts p)

-- n steps over the nodes of the program's graph; a step passes at most as many nodes as the program has gaps, and one more
abbrev pub node_run : Program → List ℕ → List Bool → ℕ → At Store
node_run p input fails n = graph_run (graph p (contexts p)) (contexts p) (acts p) (p.gaps + 1) (store_of (start p input fails)) n

-- where an object was made, the node that made it is its site
abbrev pub sites_behind : ℕ → Store → Store → List ℕ → List ℕ
sites_behind v before after sites = if nat_lt (length before.objects) (length after.objects) then sites ++ v ∷ [] else sites

-- what a run meets: its start, the begin of a step, and what each node of a step comes to; with the sites of the objects
pub data Met (p : Program) (input : List ℕ) (fails : List Bool) : At Store → List ℕ → Type 0 where
  starts : Met p input fails (stands 0 (store_of (start p input fails))) []
  begins : (v : ℕ) (s : Store) (sites : List ℕ) → Met p input fails (stands v s) sites → is_over s.ending ≡ false → Met p input fails (stands v (counted s)) sites
  goes : (v : ℕ) (s : Store) (sites : List ℕ) → Met p input fails (stands v s) sites → is_over s.ending ≡ false →
      Met p input fails (micro_of p (stands v s)) (sites_behind v s (micro_of p (stands v s)).store sites)

-- over the nodes of its graph from node v on a program runs as it does, and what that run meets is Met
pub record RunsFrom (p : Program) (v : ℕ) : Type 0 where
  pub lockstep : (input : List ℕ) (fails : List Bool) (n : ℕ) → store_of (run p input fails n) ≡ (node_run p input fails n).store
  pub met : (input : List ℕ) (fails : List Bool) (n : ℕ) → (sites : List ℕ) × Met p input fails (node_run p input fails n) sites
  pub begins : (input : List ℕ) (fails : List Bool) → (node_run p input fails 0).node ≡ v
