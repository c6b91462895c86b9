-- A run that has returned is at an exit.
use Rattle.std.proofs.Common.{◌≡◌, ℕ, ⊎_elim, Bool, true, false, ℤ, List, [], ◌∷◌, slice_get, Option, Some, None, refl, ap, sym, ◌∙◌, ◌<◌, length, option_map}
use Rattle.std.specs.Prelude.{All, IsTrue, unwrap_or}
use Rattle.std.specs.List.{Contains}
use Rattle.std.proofs.lemmas.Option.{slice_get_within}
use Rattle.c_tree.specs.WellFormed.{IsWellFormed}
use Rattle.c_tree.specs.declared.program.Program.{Program}
use Rattle.c_meaning.specs.declared.value.Value.{Value}
use Rattle.c_meaning.specs.declared.machine.Ending.{Ending}
use Rattle.c_meaning.specs.declared.machine.Ending.TheVariants.{Returned, Fault}
use Rattle.c_meaning.specs.declared.machine.Location.{Location}
use Rattle.c_meaning.specs.declared.machine.Location.TheVariants.{Slot, Cell}
use Rattle.c_meaning.specs.declared.machine.Object.{Object}
use Rattle.c_meaning.specs.Eval.{is_freed}
use Rattle.c_meaning.specs.Machine.{Store, store_of, stored}
use Rattle.c_meaning.specs.Effects.{is_over, answered, bound, back}
use Rattle.c_meaning.specs.Safe.{run}
use Rattle.call_contexts.specs.Contexts.{contexts}
use Rattle.call_contexts.proofs.Has.{get_has}
use Rattle.c_graph.specs.declared.graph.Action.TheVariants as action
use Rattle.c_graph.specs.declared.graph.Edge.{Edge}
use Rattle.c_graph.specs.declared.graph.NodeKind.{NodeKind}
use Rattle.c_graph.specs.declared.graph.NodeKind.TheVariants.{Act, Exit}
use Rattle.c_graph.specs.declared.graph.Way.{Way}
use Rattle.c_graph.specs.declared.graph.Way.TheVariants as way
use Rattle.c_graph.specs.Executes.{Does, frees, unsets, assigns, makes, makes_none, gets, puts, prints, holds, fails, calls, returns, closes, ends, ends_last, Executes, Faults, by_free, by_action}
use Rattle.c_graph.specs.Laws.{IsKept}
use Rattle.c_graph.specs.Met.{Met, node_run}
use Rattle.c_graph.specs.Moves.{At}
use Rattle.c_graph.specs.Nodes.{graph}
use Rattle.c_graph.specs.Ways.{IsReturn}
use Rattle.c_graph.proofs.EdgeEnds.{all_from_has, ends_at_exits}
use Rattle.c_graph.proofs.Follows.{calls_in_order}
use Rattle.c_graph.proofs.Instance.{run_lockstep}
use Rattle.c_graph.proofs.Kept.{met_holds}
use Rattle.c_graph.proofs.MetRuns.{run_met}

-- where each object is freed, all are
pub all_marked : (objects : List Object) → ((o : ℕ) → o < length objects → is_freed objects o ≡ true) → All (λ (b : Object). IsTrue b.freed) objects
all_marked objects h = all_from_has (λ (b : Object). IsTrue b.freed) objects (λ b there.
    let at = get_has objects there in
    sym (ap (λ (x : Option Object). unwrap_or (option_map (λ (c : Object). c.freed) x) false) at.1) ∙ h at.0 (slice_get_within objects at.0 b at.1))

-- what ends no run

pub stored_ending : (l : Location) (v : Value) (s : Store) → (stored l v s).ending ≡ s.ending
stored_ending (Slot x) v s = refl
stored_ending (Cell o f) v s = refl

pub answered_ending : (l : Option Location) (v : Value) (s : Store) → (answered l v s).ending ≡ s.ending
answered_ending None v s = refl
answered_ending (Some l) v s = stored_ending l v s

pub bound_ending : (xs : List ℕ) (vs : List Value) (s : Store) → (bound xs vs s).ending ≡ s.ending
bound_ending [] vs s = refl
bound_ending (x ∷ xs) [] s = refl
bound_ending (x ∷ xs) (v ∷ vs) s = bound_ending xs vs (stored (Slot x) v s)

pub back_ending : (p : Program) (f : ℕ) (target : Option ℕ) (v : Option Value) (s : Store) → (back p f target v s).ending ≡ s.ending
back_ending p f (Some x) (Some v) s = refl
back_ending p f (Some x) None s = refl
back_ending p f None v s = refl

-- a run goes on behind what doesn't end it
not_returned : {before behind : Ending} {a : ℤ} → behind ≡ before → is_over before ≡ false → behind ≡ Returned a → ⊥
not_returned {a = a} same going returned = let never : is_over (Returned a) ≡ false = ap is_over (sym returned ∙ same) ∙ going in absurd cc

-- a return over a way on
data IsEnd : NodeKind → Way → Type 0 where
  is_end : (a : _) → IsReturn a → IsEnd (Act a) way.On

does_end : {p : Program} {left : Option ℕ} {s t : Store} {what : NodeKind} {x : Way} {a : ℤ} → Does p left s what x t → is_over s.ending ≡ false → t.ending ≡ Returned a → IsEnd what x
does_end {a = a} (frees number list goes_on) going returned = let never : is_over (Returned a) ≡ false = ap is_over (sym returned) ∙ goes_on in absurd cc
does_end (unsets x) going returned = absurd (not_returned refl going returned)
does_end {s = s} (assigns b e l v plain at new) going returned = absurd (not_returned (stored_ending l v s) going returned)
does_end (makes place size offset l n at count grants) going returned = absurd (not_returned (answered_ending l _ _) going returned)
does_end (makes_none place size offset l n at count refuses) going returned = absurd (not_returned (answered_ending l _ _) going returned)
does_end (gets place l at) going returned = absurd (not_returned (answered_ending l _ _) going returned)
does_end (puts e n at) going returned = absurd (not_returned refl going returned)
does_end (prints text arguments bytes at) going returned = absurd (not_returned refl going returned)
does_end (holds e says) going returned = absurd (not_returned refl going returned)
does_end (fails e says) going returned = absurd (not_returned refl going returned)
does_end {s = s} (calls callee arguments values at) going returned = absurd (not_returned (bound_ending _ values s) going returned)
does_end {p = p} {s = s} (returns e v f target left at) going returned = absurd (not_returned (back_ending p f target v s) going returned)
does_end {p = p} {s = s} (closes f target left) going returned = absurd (not_returned (back_ending p f target None s) going returned)
does_end (ends e v at) going returned = is_end (action.Return e) tt
does_end ends_last going returned = is_end action.Close tt

no_fault_returns : {p : Program} {s t : Store} {what : NodeKind} {a : ℤ} → Faults p s what t → t.ending ≡ Returned a → ⊥
no_fault_returns (by_free number list kind offset is) returned = let never : Fault kind offset true ≡ Returned _ = sym is ∙ returned in absurd cc
no_fault_returns (by_action b i kind offset is stop) returned = absurd cc

module _ (p : Program) (w : IsWellFormed p) where
  -- a node where runs end
  abbrev pub IsExitNode : ℕ → Type 0
  IsExitNode v = (offset : ℕ) × (slice_get (graph p (contexts p)).nodes v ≡ Some (record { ctx = 0; kind = Exit offset }))

  abbrev EndsAtExit : ℕ → Store → List ℕ → Type 0
  EndsAtExit v s sites = (a : ℤ) → s.ending ≡ Returned a → IsExitNode v

  -- an edge over which a run ends leads to an exit
  edge_ends : (e : Edge) (k : ℕ) (what : NodeKind) (x : Way) → Contains (graph p (contexts p)).edges e → slice_get (graph p (contexts p)).nodes e.from ≡ Some (record { ctx = k; kind = what }) → e.way ≡ x → IsEnd what x → IsExitNode e.to
  edge_ends e k _ _ among stands is (is_end a is_return) = ends_at_exits p w e k a among stands is_return is

  pub exit_edges : (e : Edge) (s t : Store) (a : ℤ) → Contains (graph p (contexts p)).edges e → is_over s.ending ≡ false → Executes p (graph p (contexts p)) e s t → t.ending ≡ Returned a → IsExitNode e.to
  exit_edges e s t a among going executes returned = edge_ends e executes.node.ctx executes.node.kind e.way among executes.stands refl (does_end executes.does going returned)

  module _ (input : List ℕ) (failing : List Bool) where
    exits_kept : IsKept p input failing EndsAtExit
    exits_kept = record {
      starts = λ a returned. absurd cc;
      begins = λ v s sites going holds a returned. absurd (not_returned refl going returned);
      goes = λ e s t sites among going executes holds a returned. exit_edges e s t a among going executes returned;
      faults = λ v n s t sites at going fault holds a returned. absurd (no_fault_returns fault returned);
    }

    -- where what a run meets has returned, it is at an exit
    pub met_at_exit : {x : At Store} {sites : List ℕ} (a : ℤ) → Met p input failing x sites → x.store.ending ≡ Returned a → IsExitNode x.node
    met_at_exit {x} a met returned = ⊎_elim
        (λ kept. kept a returned)
        (λ lost. let never : is_over (Returned a) ≡ false = ap is_over (sym returned) ∙ lost.1 in absurd cc)
        (met_holds p w input failing EndsAtExit exits_kept met)

    -- a run that has returned has met an exit, with the objects that it has
    pub returned_at_exit : (n : ℕ) (a : ℤ) → (run p input failing n).ending ≡ Returned a →
        (sites : List ℕ) × Met p input failing (node_run p input failing n) sites × IsExitNode (node_run p input failing n).node × ((node_run p input failing n).store ≡ store_of (run p input failing n))
    returned_at_exit n a returned =
        let same : store_of (run p input failing n) ≡ (node_run p input failing n).store = run_lockstep p (calls_in_order p w) input failing n in
        let it = run_met p input failing n in
        (it.0, it.1, met_at_exit a it.1 (sym (ap (λ (s : Store). s.ending) same) ∙ returned), sym same)
