-- What a run over nodes comes to, step by step, is met node by node; so what each node keeps, the run keeps.
use Rattle.std.proofs.Common.{◌≡◌, ℕ, zero, suc, ◌+◌, Bool, true, false, List, [], slice_get, Option, Some, None, refl}
use Rattle.c_tree.specs.declared.program.Program.{Program}
use Rattle.c_meaning.specs.Machine.{Store, store_of, start}
use Rattle.c_meaning.specs.Effects.{is_over, all_freed}
use Rattle.c_meaning.specs.Step.{acts, counted}
use Rattle.call_contexts.specs.Contexts.{contexts}
use Rattle.c_graph.specs.declared.graph.Node.{Node}
use Rattle.c_graph.specs.declared.graph.NodeKind.{NodeKind}
use Rattle.c_graph.specs.declared.graph.NodeKind.TheVariants.{Gap, Act, Exit}
use Rattle.c_graph.specs.Nodes.{graph}
use Rattle.c_graph.specs.Moves.{At, stands, first_edge, allows, moved, behind_frees, at_kind, at_node, nodes_walked, nodes_unless_ended}
use Rattle.c_graph.specs.Met.{micro_of, node_run, sites_behind, Met, starts, begins, goes, RunsFrom}
use Rattle.c_graph.proofs.Follows.{HasCallsInOrder}
use Rattle.c_graph.proofs.Instance.{run_lockstep}

module _ (p : Program) (input : List ℕ) (fails : List Bool) where
  abbrev MetSome : At Store → Type 0
  MetSome x = (sites : List ℕ) × Met p input fails x sites

  -- one node, and what comes behind it where that is not the end of the step
  abbrev then_walk : ℕ → At Store → At Store
  then_walk n = nodes_walked (graph p (contexts p)) (contexts p) (acts p) n

  behind_met : (n v : ℕ) (m : Store) (b : Bool) → is_over m.ending ≡ b → MetSome (behind_frees (graph p (contexts p)) (contexts p) (acts p) (λ y. y) v m b) →
      ((x : At Store) → MetSome x → is_over x.store.ending ≡ false → MetSome (then_walk n x)) → MetSome (behind_frees (graph p (contexts p)) (contexts p) (acts p) (then_walk n) v m b)
  behind_met n v m true is here walk = here
  behind_met n v m false is here walk = walk (moved (graph p (contexts p)) (contexts p) (acts p) m (first_edge (allows None) v (graph p (contexts p)).edges)) here
      (moved_over (first_edge (allows None) v (graph p (contexts p)).edges) m is)
    where
      moved_over : (o : Option _) (m : Store) → is_over m.ending ≡ false → is_over (moved (graph p (contexts p)) (contexts p) (acts p) m o).store.ending ≡ false
      moved_over None m is = is
      moved_over (Some e) m is = is

  kind_met : (n v k : ℕ) (m : Store) (kind : NodeKind) → MetSome (at_kind (graph p (contexts p)) (contexts p) (acts p) (λ y. y) v k m kind) →
      ((x : At Store) → MetSome x → is_over x.store.ending ≡ false → MetSome (then_walk n x)) → MetSome (at_kind (graph p (contexts p)) (contexts p) (acts p) (then_walk n) v k m kind)
  kind_met n v k m (Gap number frees) here walk = behind_met n v (all_freed frees m) (is_over (all_freed frees m).ending) refl here walk
  kind_met n v k m (Act a) here walk = here
  kind_met n v k m (Exit offset) here walk = here

  node_met : (n v : ℕ) (m : Store) (o : Option Node) → MetSome (at_node (graph p (contexts p)) (contexts p) (acts p) (λ y. y) v m o) →
      ((x : At Store) → MetSome x → is_over x.store.ending ≡ false → MetSome (then_walk n x)) → MetSome (at_node (graph p (contexts p)) (contexts p) (acts p) (then_walk n) v m o)
  node_met n v m None here walk = here
  node_met n v m (Some x) here walk = kind_met n v x.ctx m x.kind here walk

  walked_met : (n : ℕ) (x : At Store) → MetSome x → is_over x.store.ending ≡ false → MetSome (then_walk n x)
  walked_met zero x met is = met
  walked_met (suc n) x met is =
      node_met n x.node x.store (slice_get (graph p (contexts p)).nodes x.node)
      (sites_behind x.node x.store (micro_of p x).store met.0, goes x.node x.store met.0 met.1 is) (walked_met n)

  unless_met : (x : At Store) (b : Bool) → is_over x.store.ending ≡ b → MetSome x → MetSome (nodes_unless_ended (graph p (contexts p)) (contexts p) (acts p) (p.gaps + 1) x b)
  unless_met x true is met = met
  unless_met x false is met = walked_met (p.gaps + 1) (stands x.node (counted x.store)) (met.0, begins x.node x.store met.0 met.1 is) is

  -- what a run comes to is met
  pub run_met : (n : ℕ) → (sites : List ℕ) × Met p input fails (node_run p input fails n) sites
  run_met zero = ([], starts)
  run_met (suc n) = unless_met (node_run p input fails n) (is_over (node_run p input fails n).store.ending) refl (run_met n)

  -- what holds at the start, and is kept by the begin of a step and by each node, holds of all that is met
  pub met_keeps : (P : At Store → List ℕ → Type 0) → P (stands 0 (store_of (start p input fails))) [] →
      ((v : ℕ) (s : Store) (sites : List ℕ) → is_over s.ending ≡ false → P (stands v s) sites → P (stands v (counted s)) sites) →
      ((v : ℕ) (s : Store) (sites : List ℕ) → is_over s.ending ≡ false → P (stands v s) sites → P (micro_of p (stands v s)) (sites_behind v s (micro_of p (stands v s)).store sites)) →
      {x : At Store} {sites : List ℕ} → Met p input fails x sites → P x sites
  met_keeps P at_start at_begin at_node starts = at_start
  met_keeps P at_start at_begin at_node (begins v s sites met is) = at_begin v s sites is (met_keeps P at_start at_begin at_node met)
  met_keeps P at_start at_begin at_node (goes v s sites met is) = at_node v s sites is (met_keeps P at_start at_begin at_node met)

-- so it holds after each number of steps
pub run_keeps : (p : Program) (input : List ℕ) (fails : List Bool) (P : At Store → List ℕ → Type 0) → P (stands 0 (store_of (start p input fails))) [] →
    ((v : ℕ) (s : Store) (sites : List ℕ) → is_over s.ending ≡ false → P (stands v s) sites → P (stands v (counted s)) sites) →
    ((v : ℕ) (s : Store) (sites : List ℕ) → is_over s.ending ≡ false → P (stands v s) sites → P (micro_of p (stands v s)) (sites_behind v s (micro_of p (stands v s)).store sites)) →
    (n : ℕ) → (sites : List ℕ) × P (node_run p input fails n) sites
run_keeps p input fails P at_start at_begin at_node n =
    let it = run_met p input fails n in
    (it.0, met_keeps p input fails P at_start at_begin at_node it.1)

pub runs_from : (p : Program) → HasCallsInOrder p → RunsFrom p 0
runs_from p order = record { lockstep = run_lockstep p order; met = run_met p; begins = λ input fails. refl }
