-- A run over the nodes of a graph that is the run of a program.
use Rattle.std.specs.Prelude.{◌≡◌, ℕ, ◌+◌, Bool, List}
use Rattle.c_tree.specs.declared.program.Program.{Program}
use Rattle.c_meaning.specs.Machine.{store_of, start}
use Rattle.c_meaning.specs.Safe.{run}
use Rattle.c_meaning.specs.Step.{acts}
use Rattle.call_contexts.specs.Contexts.{contexts}
use Rattle.c_graph.specs.declared.graph.Graph.{Graph}
use Rattle.c_graph.specs.Moves.{graph_run}

-- for every input, every list of failures and every number of steps both have the same store
pub record RunsAs (p : Program) (g : Graph) : Type 0 where
  pub lockstep : (input : List ℕ) (fails : List Bool) (n : ℕ) → store_of (run p input fails n) ≡ (graph_run g (contexts p) (acts p) (p.gaps + 1) (store_of (start p input fails)) n).store
