-- What a run meets points only where may facts say.
use Rattle.std.proofs.Common.{◌≡◌, ℕ, Bool, List, [], ◌∷◌, slice_get, Option, Some, None, refl, ap, sym, subst, ◌∙◌}
use Rattle.std.specs.List.{Contains}
use Rattle.std.proofs.lemmas.Option.{slice_get_within}
use Rattle.c_tree.specs.WellFormed.{IsWellFormed}
use Rattle.c_tree.specs.declared.program.Program.{Program}
use Rattle.c_meaning.specs.declared.value.Value.TheVariants as value
use Rattle.c_meaning.specs.Machine.{Store, store_of, start}
use Rattle.call_contexts.specs.Contexts.{contexts}
use Rattle.call_contexts.proofs.Has.{get_left, has_contains}
use Rattle.c_graph.specs.declared.graph.Edge.{Edge}
use Rattle.c_graph.specs.declared.graph.Graph.{Graph}
use Rattle.c_graph.specs.declared.graph.Way.{Way}
use Rattle.c_graph.specs.declared.graph.Way.TheVariants as way
use Rattle.c_graph.specs.Executes.{Executes, sites_by, sites_over}
use Rattle.c_graph.specs.Laws.{IsKept, HoldsOrLost}
use Rattle.c_graph.specs.Met.{Met}
use Rattle.c_graph.specs.Moves.{At}
use Rattle.c_graph.specs.Nodes.{graph}
use Rattle.c_graph.proofs.Kept.{met_holds}
use Rattle.ts_domain.specs.declared.names.Names.{Names}
use Rattle.ts_domain.specs.Deeds.{edge_deeds}
use Rattle.ts_domain.specs.Holding.{IsSite}
use Rattle.ts_domain.specs.TypedMachines.{IsTyped}
use Rattle.ts_domain.specs.Views.{AreNames, View, view_of, slot_seen, pointing, first_seen}
use Rattle.ts_domain.proofs.Answers.{same_is}
use Rattle.ts_domain.proofs.Frees.{HasSame, same_typed}
use Rattle.ts_domain.proofs.MayTrue.{IsMayTrue, deeds_may}
use Rattle.ts_domain.proofs.PathTrue.{no_object}
use Rattle.ts_domain.proofs.Stores.{same_view}
use Rattle.ts_domain.proofs.TypedRuns.{start_typed, fault_same, executed_goes}

site_more : (n : Names) (v : ℕ) (w : Way) (sites : List ℕ) (o t : ℕ) → IsSite n sites o t → IsSite n (sites_by v w sites) o t
site_more n v way.Made sites o t h = (h.0, get_left sites (v ∷ []) h.0 o h.1, h.2)
site_more n v way.On sites o t h = h
site_more n v way.True sites o t h = h
site_more n v way.False sites o t h = h
site_more n v way.NotMade sites o t h = h
site_more n v way.Enter sites o t h = h
site_more n v (way.Leave target) sites o t h = h

may_more : (n : Names) (g : Graph) (e : Edge) (sites : List ℕ) (v : View) → IsMayTrue n g sites v → IsMayTrue n g (sites_over e sites) v
may_more n g e sites v h = record {
  slots = λ k o holds. let it = h.slots k o holds in (it.0, site_more n e.from e.way sites o it.0 it.1, it.2);
  cells = λ o f q holds. let it = h.cells o f q holds in (it.0, it.1, site_more n e.from e.way sites q it.0 it.2, site_more n e.from e.way sites o it.1 it.3, it.4);
}

module _ (p : Program) (w : IsWellFormed p) (n : Names) (names : AreNames p (graph p (contexts p)) n) (input : List ℕ) (fails : List Bool) where
  abbrev pub MayOfRuns : ℕ → Store → List ℕ → Type 0
  MayOfRuns v s sites = IsTyped n (graph p (contexts p)) sites s × IsMayTrue n (graph p (contexts p)) sites (view_of n s)

  start_may : IsMayTrue n (graph p (contexts p)) [] (view_of n (store_of (start p input fails)))
  start_may = record { slots = λ k o holds. absurd (by_var k o (slice_get n.vars k) refl holds); cells = λ o f q holds. absurd cc }
    where
      by_var : (k o : ℕ) (x : Option ℕ) → slice_get n.vars k ≡ x → slot_seen (store_of (start p input fails)) x ≡ value.Ptr o → ⊥
      by_var k o None at holds = absurd cc
      by_var k o (Some x) at holds = no_object p (graph p (contexts p)) n names input fails k o (slice_get_within n.vars k x at) (ap (slot_seen (store_of (start p input fails))) at ∙ holds)

  over_edge : (e : Edge) (s t : Store) (sites : List ℕ) → Contains (graph p (contexts p)).edges e → Executes p (graph p (contexts p)) e s t → MayOfRuns e.from s sites → MayOfRuns e.to t (sites_over e sites)
  over_edge e s t sites among executes h =
      let g = graph p (contexts p) in
      let goes = executed_goes p w n names e s t sites among executes h.0 in (
        goes.1,
        subst (λ (x : View). IsMayTrue n g (sites_over e sites) x) (same_is goes.0.2)
            (deeds_may p g n names (sites_over e sites) (edge_deeds n g e) (first_seen (view_of n s)) goes.0.0 (λ d there. (e, among, has_contains (edge_deeds n g e) there)) goes.0.1 (may_more n g e sites (view_of n s) h.1)),
      )

  same_may : (s t : Store) (sites : List ℕ) → HasSame s t → IsMayTrue n (graph p (contexts p)) sites (view_of n s) → IsMayTrue n (graph p (contexts p)) sites (view_of n t)
  same_may s t sites a h = subst (λ (x : View). IsMayTrue n (graph p (contexts p)) sites x) (same_is (same_view n s t (λ l. ap pointing (sym (a.contents l))))) h

  pub may_kept : IsKept p input fails MayOfRuns
  may_kept = record {
    starts = (start_typed p (graph p (contexts p)) n names.decls input fails, start_may);
    begins = λ v s sites going h. (same_typed n (graph p (contexts p)) sites (record { contents = λ l. refl; slots = refl; objects = refl }) h.0, h.1);
    goes = λ e s t sites among going executes h. over_edge e s t sites among executes h;
    faults = λ v node s t sites at going fault h. (same_typed n (graph p (contexts p)) sites (fault_same fault) h.0, same_may s t sites (fault_same fault) h.1);
  }

  -- may facts are true of all that a run meets, until control is lost
  pub may_true : {x : At Store} {sites : List ℕ} → Met p input fails x sites → HoldsOrLost p MayOfRuns x sites
  may_true met = met_holds p w input fails MayOfRuns may_kept met
