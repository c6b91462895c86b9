-- Every machine that a run meets is typed.
use Rattle.std.proofs.Common.{◌≡◌, ℕ, Bool, List, [], slice_get, length, Option, Some, None, option_map, refl, ap, sym, subst, ◌∙◌}
use Rattle.std.specs.Prelude.{unwrap_or}
use Rattle.std.specs.List.{Contains}
use Rattle.std.proofs.lemmas.List.{length-map}
use Rattle.std.proofs.lemmas.Option.{slice_get-map}
use Rattle.c_tree.specs.WellFormed.{IsWellFormed}
use Rattle.c_tree.specs.declared.program.Home.{Home}
use Rattle.c_tree.specs.declared.program.Home.TheVariants as home
use Rattle.c_tree.specs.declared.program.Program.{Program}
use Rattle.c_tree.specs.declared.program.Ty.{Ty}
use Rattle.c_tree.specs.declared.program.Ty.TheVariants as ty
use Rattle.c_tree.specs.declared.program.VarDef.{VarDef}
use Rattle.c_meaning.specs.declared.value.Value.{Value}
use Rattle.c_meaning.specs.declared.value.Value.TheVariants as value
use Rattle.c_meaning.specs.declared.machine.Location.{Location}
use Rattle.c_meaning.specs.declared.machine.Location.TheVariants.{Slot, Cell}
use Rattle.c_meaning.specs.Machine.{Store, store_of, start, start_value}
use Rattle.call_contexts.specs.Contexts.{contexts}
use Rattle.c_graph.specs.declared.graph.Graph.{Graph}
use Rattle.c_graph.specs.declared.graph.NodeKind.{NodeKind}
use Rattle.c_graph.specs.declared.graph.Edge.{Edge}
use Rattle.c_graph.specs.Executes.{Executes, Faults, by_free, by_action, sites_over}
use Rattle.c_graph.specs.Laws.{IsKept, HoldsOrLost}
use Rattle.c_graph.specs.Met.{Met}
use Rattle.c_graph.specs.Moves.{At}
use Rattle.c_graph.specs.Nodes.{graph}
use Rattle.c_graph.proofs.Kept.{met_holds}
use Rattle.ts_domain.specs.declared.names.Names.{Names}
use Rattle.ts_domain.specs.TypedMachines.{Fits, location_type, IsTyped}
use Rattle.ts_domain.specs.Views.{AreNames, EdgeDoes}
use Rattle.ts_domain.proofs.Bridge.{edge_goes}
use Rattle.ts_domain.proofs.Calls.{calls_go}
use Rattle.ts_domain.proofs.CallsApart.{has_calls_apart}
use Rattle.ts_domain.proofs.Frees.{HasSame, same_typed, all_same}
use Rattle.ts_domain.proofs.Parameters.{has_parameters}
use Rattle.ts_domain.proofs.Stores.{content}
use Rattle.ts_domain.proofs.TypedNodes.{has_typed_actions}

-- at the start (6.7.8p10)

start_fits : (g : Graph) (sites : List ℕ) (t : Ty) (h : Home) → Fits g sites t (start_value t h)
start_fits g sites ty.Int (home.Global m) = refl
start_fits g sites ty.IntPtr (home.Global m) = refl
start_fits g sites (ty.StructPtr c) (home.Global m) = refl
start_fits g sites t (home.Param f) = tt
start_fits g sites t (home.Local f) = tt
start_fits g sites t (home.Result f) = tt

module _ (p : Program) (g : Graph) (n : Names) (decls : n.decls ≡ p.vars) (input : List ℕ) (fails : List Bool) where
  pub start_slot : (x : ℕ) → content (store_of (start p input fails)) (Slot x) ≡ unwrap_or (option_map (λ (v : VarDef). start_value v.ty v.home) (slice_get n.decls x)) value.Undef
  start_slot x =
      ap (λ (o : Option Value). unwrap_or o value.Undef)
      (slice_get-map (λ (v : VarDef). start_value v.ty v.home) p.vars x ∙ ap (λ (vs : List VarDef). option_map (λ (v : VarDef). start_value v.ty v.home) (slice_get vs x)) (sym decls))

  fits_by : (t : Ty) (o : Option VarDef) → option_map (λ (v : VarDef). v.ty) o ≡ Some t → Fits g [] t (unwrap_or (option_map (λ (v : VarDef). start_value v.ty v.home) o) value.Undef)
  fits_by t None h = absurd cc
  fits_by t (Some v) h = let same : v.ty ≡ t = cc in subst (λ (u : Ty). Fits g [] u (start_value v.ty v.home)) same (start_fits g [] v.ty v.home)

  other_by : (o : Option VarDef) → option_map (λ (v : VarDef). v.ty) o ≡ None → unwrap_or (option_map (λ (v : VarDef). start_value v.ty v.home) o) value.Undef ≡ value.Undef
  other_by None h = refl
  other_by (Some v) h = absurd cc

  pub start_typed : IsTyped n g [] (store_of (start p input fails))
  start_typed = record {
    types = record {
      slots = length-map p.vars (λ (v : VarDef). start_value v.ty v.home) ∙ ap length (sym decls);
      contents = contents;
      others = others;
    };
    objects = refl;
  }
    where
      contents : (l : Location) (t : Ty) → location_type n g [] l ≡ Some t → Fits g [] t (content (store_of (start p input fails)) l)
      contents (Slot x) t h = subst (λ (c : Value). Fits g [] t c) (sym (start_slot x)) (fits_by t (slice_get n.decls x) h)
      contents (Cell o f) t h = absurd cc

      others : (l : Location) → location_type n g [] l ≡ None → content (store_of (start p input fails)) l ≡ value.Undef
      others (Slot x) h = start_slot x ∙ other_by (slice_get n.decls x) h
      others (Cell o f) h = refl

-- faults change no content
pub fault_same : {p : Program} {s : Store} {what : NodeKind} {t : Store} → Faults p s what t → HasSame s t
fault_same {s = s} (by_free number list kind offset is) = all_same list s
fault_same (by_action a i kind offset is did) = record { contents = λ l. refl; slots = refl; objects = refl }

-- the bridge: where an edge of a well-formed program's graph is executed from a typed machine, its deeds are done, and the
-- machine behind it is typed
pub executed_goes : (p : Program) → IsWellFormed p → (n : Names) → AreNames p (graph p (contexts p)) n → (e : Edge) (s t : Store) (sites : List ℕ) → Contains (graph p (contexts p)).edges e →
    Executes p (graph p (contexts p)) e s t → IsTyped n (graph p (contexts p)) sites s → EdgeDoes n (graph p (contexts p)) sites e s t × IsTyped n (graph p (contexts p)) (sites_over e sites) t
executed_goes p w n names e s t sites among executes typed =
    let g = graph p (contexts p) in
    let fits = has_typed_actions p w in
    edge_goes p g n names fits (calls_go p g n names fits (has_parameters p w n names.decls) (has_calls_apart p w n names.decls)) e s t sites among executes typed

module _ (p : Program) (w : IsWellFormed p) (n : Names) (names : AreNames p (graph p (contexts p)) n) (input : List ℕ) (fails : List Bool) where
  -- types are kept over edges and by faults
  pub typed_kept : IsKept p input fails (λ v s sites. IsTyped n (graph p (contexts p)) sites s)
  typed_kept = record {
    starts = start_typed p (graph p (contexts p)) n names.decls input fails;
    begins = λ v s sites going typed. same_typed n (graph p (contexts p)) sites (record { contents = λ l. refl; slots = refl; objects = refl }) typed;
    goes = λ e s t sites among going executes typed. (executed_goes p w n names e s t sites among executes typed).1;
    faults = λ v node s t sites at going fault typed. same_typed n (graph p (contexts p)) sites (fault_same fault) typed;
  }

  -- so what a run meets is typed, until control is lost
  pub met_typed : {x : At Store} {sites : List ℕ} → Met p input fails x sites → HoldsOrLost p (λ v s us. IsTyped n (graph p (contexts p)) us s) x sites
  met_typed met = met_holds p w input fails (λ v s us. IsTyped n (graph p (contexts p)) us s) typed_kept met
