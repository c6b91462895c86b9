-- What an edge from an action does to the marks "freed" of objects, and to the ending: nothing, but that a new object isn't freed.
use Rattle.std.proofs.Common.{◌≡◌, ℕ, zero, suc, ◌==◌, Bool, true, false, List, [], ◌∷◌, ◌++◌, length, slice_get, Option, Some, None, option_map, refl, ap, subst, ◌∙◌}
use Rattle.std.specs.Prelude.{unwrap_or, drop}
use Rattle.std.proofs.lemmas.Bool.{eqb-true, eqb-false}
use Rattle.c_tree.specs.declared.program.Program.{Program}
use Rattle.c_meaning.specs.declared.value.Value.{Value}
use Rattle.c_meaning.specs.declared.value.Value.TheVariants as value
use Rattle.c_meaning.specs.declared.machine.Ending.{Ending}
use Rattle.c_meaning.specs.declared.machine.Ending.TheVariants.{Running, Returned, Fault}
use Rattle.c_meaning.specs.declared.machine.Location.{Location}
use Rattle.c_meaning.specs.declared.machine.Location.TheVariants.{Slot, Cell}
use Rattle.c_meaning.specs.declared.machine.Object.{Object}
use Rattle.c_meaning.specs.Eval.{is_freed}
use Rattle.c_meaning.specs.Machine.{Store, altered, with_cell, stored}
use Rattle.c_meaning.specs.Effects.{is_over, answered, born, next_byte, bound, parameters_of, back, ended}
use Rattle.c_meaning.specs.Safe.{IsFault}
use Rattle.c_graph.specs.declared.graph.Action.{Action}
use Rattle.c_graph.specs.declared.graph.NodeKind.{NodeKind}
use Rattle.c_graph.specs.declared.graph.NodeKind.TheVariants.{Act}
use Rattle.c_graph.specs.declared.graph.Way.{Way}
use Rattle.c_graph.specs.declared.graph.Way.TheVariants as way
use Rattle.c_graph.specs.Executes.{asked, Does, frees, unsets, assigns, makes, makes_none, gets, puts, prints, holds, fails, calls, returns, closes, ends, ends_last}
use Rattle.ts_domain.proofs.ExitRuns.{stored_ending, answered_ending, bound_ending, back_ending}
use Rattle.ts_domain.proofs.Stores.{altered_here, altered_there}

-- which objects are freed

abbrev pub FreedAsBefore : Store → Store → ℕ → Type 0
FreedAsBefore t s o = is_freed t.objects o ≡ is_freed s.objects o

abbrev freed_at : Option Object → Bool
freed_at x = unwrap_or (option_map (λ (b : Object). b.freed) x) false

cell_freed : (k : ℕ) (v : Value) (q : ℕ) (objects : List Object) (o : ℕ) → is_freed (altered (with_cell k v) q objects) o ≡ is_freed objects o
cell_freed k v q objects o = by_object (q == o) refl
  where
    same : (x : Option Object) → freed_at (option_map (with_cell k v) x) ≡ freed_at x
    same None = refl
    same (Some b) = refl

    by_object : (b : Bool) → q == o ≡ b → is_freed (altered (with_cell k v) q objects) o ≡ is_freed objects o
    by_object true is =
        subst (λ (j : ℕ). is_freed (altered (with_cell k v) q objects) j ≡ is_freed objects j) (eqb-true q o is)
        (ap freed_at (altered_here (with_cell k v) q objects) ∙ same (slice_get objects q))
    by_object false is = ap freed_at (altered_there (with_cell k v) q o objects (eqb-false q o is))

stored_freed : (l : Location) (v : Value) (s : Store) (o : ℕ) → FreedAsBefore (stored l v s) s o
stored_freed (Slot x) v s o = refl
stored_freed (Cell q k) v s o = cell_freed k v q s.objects o

answered_freed : (l : Option Location) (v : Value) (s : Store) (o : ℕ) → FreedAsBefore (answered l v s) s o
answered_freed None v s o = refl
answered_freed (Some l) v s o = stored_freed l v s o

bound_freed : (xs : List ℕ) (vs : List Value) (s : Store) (o : ℕ) → FreedAsBefore (bound xs vs s) s o
bound_freed [] vs s o = refl
bound_freed (x ∷ xs) [] s o = refl
bound_freed (x ∷ xs) (v ∷ vs) s o = bound_freed xs vs (stored (Slot x) v s) o

back_freed : (p : Program) (f : ℕ) (target : Option ℕ) (v : Option Value) (s : Store) (o : ℕ) → FreedAsBefore (back p f target v s) s o
back_freed p f (Some x) (Some v) s o = refl
back_freed p f (Some x) None s o = refl
back_freed p f None v s o = refl

ended_freed : (v : Option Value) (s : Store) (o : ℕ) → FreedAsBefore (ended v s) s o
ended_freed None s o = refl
ended_freed (Some (value.Int m)) s o = refl
ended_freed (Some value.Undef) s o = refl
ended_freed (Some value.Null) s o = refl
ended_freed (Some (value.Ptr q)) s o = refl

one_more : (objects : List Object) (b : Object) (o : ℕ) → b.freed ≡ false → is_freed (objects ++ b ∷ []) o ≡ is_freed objects o
one_more [] b zero new = new
one_more [] b (suc o) new = refl
one_more (x ∷ objects) b zero new = refl
one_more (x ∷ objects) b (suc o) new = one_more objects b o new

-- an action frees nothing, and what it makes isn't freed
pub act_freed : {p : Program} {left : Option ℕ} {s t : Store} {a : Action} {w : Way} → Does p left s (Act a) w t → (o : ℕ) → FreedAsBefore t s o
act_freed (unsets x) o = refl
act_freed {s = s} (assigns b e l v plain at new) o = stored_freed l v s o
act_freed {s = s} (makes place size offset l m at count granted) o =
    answered_freed l (value.Ptr (length s.objects)) (born m (asked s)) o ∙ one_more s.objects _ o refl
act_freed {s = s} (makes_none place size offset l m at count refused) o = answered_freed l value.Null (asked s) o
act_freed {s = s} (gets place l at) o = answered_freed l (next_byte s.input) (record s { input = drop 1 s.input }) o
act_freed (puts e m at) o = refl
act_freed (prints text es bytes at) o = refl
act_freed (holds e says) o = refl
act_freed (fails e says) o = refl
act_freed {p = p} {s = s} (calls f es values at) o = bound_freed (parameters_of p f) values s o
act_freed {p = p} {s = s} (returns e v f target left at) o = back_freed p f target v s o
act_freed {p = p} {s = s} (closes f target left) o = back_freed p f target None s o
act_freed {s = s} (ends e v at) o = ended_freed v s o
act_freed ends_last o = refl

pub past_freed : (objects : List Object) (o : ℕ) → slice_get objects o ≡ None → is_freed objects o ≡ false
past_freed objects o none = ap freed_at none

-- endings

-- a run that has not ended has no fault
pub running : (x : Ending) → is_over x ≡ false → IsFault x → ⊥
running Running going fault = absurd fault
running (Returned a) going fault = absurd fault
running (Fault kind offset by_free) going fault = absurd cc

same_ending : {x y : Ending} → x ≡ y → is_over y ≡ false → IsFault x → ⊥
same_ending {y = y} same going fault = running y going (subst IsFault same fault)

ended_fault : (v : Option Value) (s : Store) → is_over s.ending ≡ false → IsFault (ended v s).ending → ⊥
ended_fault None s going fault = absurd fault
ended_fault (Some (value.Int m)) s going fault = absurd fault
ended_fault (Some value.Undef) s going fault = running s.ending going fault
ended_fault (Some value.Null) s going fault = running s.ending going fault
ended_fault (Some (value.Ptr q)) s going fault = running s.ending going fault

-- over an edge no run ends by a fault
pub edge_no_fault : {p : Program} {left : Option ℕ} {s t : Store} {what : NodeKind} {w : Way} → Does p left s what w t → is_over s.ending ≡ false → IsFault t.ending → ⊥
edge_no_fault (frees number list goes_on) going fault = running _ goes_on fault
edge_no_fault (unsets x) going fault = running _ going fault
edge_no_fault {s = s} (assigns b e l v plain at new) going fault = same_ending (stored_ending l v s) going fault
edge_no_fault {s = s} (makes place size offset l m at count granted) going fault = same_ending (answered_ending l (value.Ptr (length s.objects)) (born m (asked s))) going fault
edge_no_fault {s = s} (makes_none place size offset l m at count refused) going fault = same_ending (answered_ending l value.Null (asked s)) going fault
edge_no_fault {s = s} (gets place l at) going fault = same_ending (answered_ending l (next_byte s.input) (record s { input = drop 1 s.input })) going fault
edge_no_fault (puts e m at) going fault = running _ going fault
edge_no_fault (prints text es bytes at) going fault = running _ going fault
edge_no_fault (holds e says) going fault = running _ going fault
edge_no_fault (fails e says) going fault = running _ going fault
edge_no_fault {p = p} {s = s} (calls f es values at) going fault = same_ending (bound_ending (parameters_of p f) values s) going fault
edge_no_fault {p = p} {s = s} (returns e v f target left at) going fault = same_ending (back_ending p f target v s) going fault
edge_no_fault {p = p} {s = s} (closes f target left) going fault = same_ending (back_ending p f target None s) going fault
edge_no_fault {s = s} (ends e v at) going fault = ended_fault v s going fault
edge_no_fault {s = s} ends_last going fault = ended_fault None s going fault
