-- What is kept over each edge and by each fault holds of all that a run meets.
use Rattle.std.proofs.Common.{◌≡◌, ℕ, ◌<◌, inl, inr, Bool, false, List, slice_get, length, Option, Some, None, refl, ap, sym, subst, ◌∙◌, arith}
use Rattle.std.proofs.lemmas.List.Elements.{All-contains}
use Rattle.std.proofs.lemmas.Option.{slice_get_past, slice_get_within}
use Rattle.c_tree.specs.WellFormed.{IsWellFormed}
use Rattle.c_tree.specs.declared.program.FunDef.{FunDef}
use Rattle.c_tree.specs.declared.program.Program.{Program}
use Rattle.c_meaning.specs.Machine.{Store}
use Rattle.c_meaning.specs.Effects.{is_over}
use Rattle.c_meaning.specs.Step.{acts, counted}
use Rattle.call_contexts.specs.Contexts.{contexts}
use Rattle.call_contexts.proofs.ContextLaws.{main_first}
use Rattle.c_graph.specs.Executes.{Comes, goes, faults, rests, past, is_lost}
use Rattle.c_graph.specs.Laws.{HasLaws, IsKept, HoldsOrLost}
use Rattle.c_graph.specs.Met.{Met, micro_of, node_run, sites_behind}
use Rattle.c_graph.specs.Moves.{At, stands, at_node}
use Rattle.c_graph.specs.Nodes.{graph}
use Rattle.c_graph.proofs.Births.{kept_sites, executed_bears, faults_many}
use Rattle.c_graph.proofs.EdgeEnds.{leads_to_nodes, ends_at_exits, ascends, leaves_callee}
use Rattle.c_graph.proofs.EdgeWays.{has_its_ways}
use Rattle.c_graph.proofs.Exact.{micro_over}
use Rattle.c_graph.proofs.Follows.{calls_in_order}
use Rattle.c_graph.proofs.Numbers.{node_at}
use Rattle.c_graph.proofs.Starts.{first_node}
use Rattle.c_graph.proofs.MetRuns.{met_keeps, run_met}
use Rattle.c_graph.proofs.Outcomes.{micro_comes}

-- the graph of a well-formed program has the laws
pub has_laws : (p : Program) → IsWellFormed p → HasLaws p
has_laws p w = record {
  ways = has_its_ways p w;
  within = leads_to_nodes p w;
  exits = ends_at_exits p w;
  order = ascends p w;
  leaves = leaves_callee p w;
  goes = micro_comes p w;
  over = micro_over p w;
  bears = λ e s t sites h. executed_bears e s t sites h;
}

module _ (p : Program) (w : IsWellFormed p) (input : List ℕ) (fails : List Bool) (P : ℕ → Store → List ℕ → Type 0) (kept : IsKept p input fails P) where
  comes_keeps : (v : ℕ) (s : Store) (sites : List ℕ) (x : At Store) → is_over s.ending ≡ false → P v s sites → Comes p (graph p (contexts p)) v s x → HoldsOrLost p P x (sites_behind v s x.store sites)
  comes_keeps v s sites _ going holds (goes e t among from executes) =
      let behind = kept.goes e s t sites among going executes (subst (λ (u : ℕ). P u s sites) (sym from) holds) in
      inl (subst (λ (us : List ℕ). P e.to t us) (sym (executed_bears e s t sites executes) ∙ ap (λ (u : ℕ). sites_behind u s t sites) from) behind)
  comes_keeps v s sites _ going holds (faults n t at fault) =
      inl (subst (λ (us : List ℕ). P v t us) (sym (kept_sites v s t sites (faults_many fault))) (kept.faults v n s t sites at going fault holds))
  comes_keeps v s sites _ going holds (rests n at nothing) = inl (subst (λ (us : List ℕ). P v s us) (sym (kept_sites v s s sites refl)) holds)
  comes_keeps v s sites _ going holds (past at) = inl (subst (λ (us : List ℕ). P v s us) (sym (kept_sites v s s sites refl)) holds)
  comes_keeps v s sites _ going holds (is_lost n at kind none) = inr (refl, going)

  -- past all nodes nothing happens
  stays_lost : (v : ℕ) (s : Store) → v ≡ length (graph p (contexts p)).nodes → micro_of p (stands v s) ≡ stands v s
  stays_lost v s is = ap (at_node (graph p (contexts p)) (contexts p) (acts p) (λ x. x) v s) (slice_get_past (graph p (contexts p)).nodes v (omega arith))

  node_keeps : (v : ℕ) (s : Store) (sites : List ℕ) → is_over s.ending ≡ false → HoldsOrLost p P (stands v s) sites → HoldsOrLost p P (micro_of p (stands v s)) (sites_behind v s (micro_of p (stands v s)).store sites)
  node_keeps v s sites going (inl holds) = comes_keeps v s sites (micro_of p (stands v s)) going holds (micro_comes p w v s going)
  node_keeps v s sites going (inr lost) =
      subst (λ (x : At Store). HoldsOrLost p P x (sites_behind v s x.store sites)) (sym (stays_lost v s lost.0)) (inr lost)

  begin_keeps : (v : ℕ) (s : Store) (sites : List ℕ) → is_over s.ending ≡ false → HoldsOrLost p P (stands v s) sites → HoldsOrLost p P (stands v (counted s)) sites
  begin_keeps v s sites going (inl holds) = inl (kept.begins v s sites going holds)
  begin_keeps v s sites going (inr lost) = inr lost

  -- it holds of all that a run meets, until control is lost
  pub met_holds : {x : At Store} {sites : List ℕ} → Met p input fails x sites → HoldsOrLost p P x sites
  met_holds met = met_keeps p input fails (HoldsOrLost p P) (inl kept.starts) begin_keeps node_keeps met

  -- and after each number of steps
  pub run_holds : (n : ℕ) → (sites : List ℕ) × Met p input fails (node_run p input fails n) sites × HoldsOrLost p P (node_run p input fails n) sites
  run_holds n = let it = run_met p input fails n in (it.0, it.1, met_holds it.1)

-- so control is at a node, until it is lost

main_found : (p : Program) → IsWellFormed p → (o : Option FunDef) → slice_get p.funs p.main ≡ o → (d : FunDef) × (slice_get p.funs p.main ≡ Some d)
main_found p w None e = absurd ((calls_in_order p w).main e)
main_found p w (Some d) e = (d, e)

first_within : (p : Program) → IsWellFormed p → 0 < length (graph p (contexts p)).nodes
first_within p w =
    let main = main_found p w (slice_get p.funs p.main) refl in
    let it = first_node p (contexts p) p.main main.0 None main.1 (main_first p (calls_in_order p w).calls) in
    slice_get_within (graph p (contexts p)).nodes 0 it.0.node (node_at p (contexts p) 0 it.0 it.2)

pub met_within : (p : Program) → IsWellFormed p → (input : List ℕ) (fails : List Bool) {x : At Store} {sites : List ℕ} → Met p input fails x sites → HoldsOrLost p (λ v s us. v < length (graph p (contexts p)).nodes) x sites
met_within p w input fails met =
    met_holds p w input fails (λ v s us. v < length (graph p (contexts p)).nodes)
    (record {
      starts = first_within p w;
      begins = λ v s us going below. below;
      goes = λ e s t us among going executes below. (All-contains (λ d. (d.from < length (graph p (contexts p)).nodes) × (d.to < length (graph p (contexts p)).nodes)) (graph p (contexts p)).edges e (leads_to_nodes p w) among).1;
      faults = λ v n s t us at going fault below. below;
    })
    met
