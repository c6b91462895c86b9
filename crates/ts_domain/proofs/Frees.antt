-- Frees change no content, so they keep types and views.
use Rattle.std.proofs.Common.{◌≡◌, ℕ, ◌==◌, Bool, true, false, List, [], ◌∷◌, slice_get, length, Option, Some, None, Result, Ok, Err, option_map, refl, ap, sym, subst, ◌∙◌}
use Rattle.std.specs.Prelude.{unwrap_or, if◌then◌else◌}
use Rattle.std.proofs.lemmas.Bool.{eqb-true, eqb-false}
use Rattle.c_tree.specs.declared.expr.Expr.{out-Expr}
use Rattle.c_tree.specs.declared.program.Free.{Free}
use Rattle.c_meaning.specs.declared.value.Value.{Value}
use Rattle.c_meaning.specs.declared.value.Value.TheVariants as value
use Rattle.c_meaning.specs.declared.machine.Location.{Location}
use Rattle.c_meaning.specs.declared.machine.Location.TheVariants.{Slot, Cell}
use Rattle.c_meaning.specs.declared.machine.Object.{Object}
use Rattle.c_meaning.specs.declared.machine.Stop.{Stop}
use Rattle.c_meaning.specs.declared.machine.Stop.TheVariants.{Faulted, Excluded}
use Rattle.c_meaning.specs.Eval.{cells_of, is_freed, offset_of}
use Rattle.c_meaning.specs.Machine.{Store, altered, marked_freed, deallocated}
use Rattle.c_meaning.specs.Effects.{is_over, freed_layer, freed_once, freed_value, freed_result, freed, all_freed}
use Rattle.c_graph.specs.declared.graph.Graph.{Graph}
use Rattle.ts_domain.specs.declared.names.Names.{Names}
use Rattle.ts_domain.specs.TypedMachines.{Fits, HasTypes, IsTyped}
use Rattle.ts_domain.proofs.Stores.{content, altered_here, altered_there, altered_many}

-- all contents stay, and there are as many slots and objects
pub record HasSame (s t : Store) : Type 0 where
  pub contents : (l : Location) → content t l ≡ content s l
  pub slots : length t.slots ≡ length s.slots
  pub objects : length t.objects ≡ length s.objects

same_then : {s t u : Store} → HasSame s t → HasSame t u → HasSame s u
same_then a b = record { contents = λ l. b.contents l ∙ a.contents l; slots = b.slots ∙ a.slots; objects = b.objects ∙ a.objects }

pub same_types : (n : Names) (g : Graph) (sites : List ℕ) {s t : Store} → HasSame s t → HasTypes n g sites s → HasTypes n g sites t
same_types n g sites a typed = record {
  slots = a.slots ∙ typed.slots;
  contents = λ l u h. subst (λ (c : Value). Fits g sites u c) (sym (a.contents l)) (typed.contents l u h);
  others = λ l h. a.contents l ∙ typed.others l h;
}

pub same_typed : (n : Names) (g : Graph) (sites : List ℕ) {s t : Store} → HasSame s t → IsTyped n g sites s → IsTyped n g sites t
same_typed n g sites a typed = record { types = same_types n g sites a typed.types; objects = a.objects ∙ typed.objects }

marked_cells : (objects : List Object) (o q : ℕ) → cells_of (altered marked_freed o objects) q ≡ cells_of objects q
marked_cells objects o q = by_place (o == q) refl
  where
    by_object : (x : Option Object) → unwrap_or (option_map (λ (b : Object). b.cells) (option_map marked_freed x)) [] ≡ unwrap_or (option_map (λ (b : Object). b.cells) x) []
    by_object None = refl
    by_object (Some b) = refl

    by_place : (b : Bool) → o == q ≡ b → cells_of (altered marked_freed o objects) q ≡ cells_of objects q
    by_place true is =
        subst (λ (k : ℕ). cells_of (altered marked_freed o objects) k ≡ cells_of objects k) (eqb-true o q is)
        (ap (λ (x : Option Object). unwrap_or (option_map (λ (b : Object). b.cells) x) []) (altered_here marked_freed o objects) ∙ by_object (slice_get objects o))
    by_place false is = ap (λ (x : Option Object). unwrap_or (option_map (λ (b : Object). b.cells) x) []) (altered_there marked_freed o q objects (eqb-false o q is))

pub deallocated_same : (o : ℕ) (s : Store) → HasSame s (deallocated o s)
deallocated_same o s = record { contents = contents; slots = refl; objects = altered_many marked_freed o s.objects }
  where
    contents : (l : Location) → content (deallocated o s) l ≡ content s l
    contents (Slot x) = refl
    contents (Cell q f) = ap (λ (cs : List Value). unwrap_or (slice_get cs f) value.Undef) (marked_cells s.objects o q)

once_same : (word o : ℕ) (b : Bool) (s : Store) → HasSame s (freed_once word o b s)
once_same word o true s = record { contents = λ l. refl; slots = refl; objects = refl }
once_same word o false s = deallocated_same o s

value_same : (word offset : ℕ) (v : Value) (s : Store) → HasSame s (freed_value word offset v s)
value_same word offset value.Undef s = record { contents = λ l. refl; slots = refl; objects = refl }
value_same word offset (value.Int m) s = record { contents = λ l. refl; slots = refl; objects = refl }
value_same word offset value.Null s = record { contents = λ l. refl; slots = refl; objects = refl }
value_same word offset (value.Ptr o) s = once_same word o (is_freed s.objects o) s

result_same : (word offset : ℕ) (r : Result Value Stop) (s : Store) → HasSame s (freed_result word offset r s)
result_same word offset (Ok v) s = value_same word offset v s
result_same word offset (Err (Faulted kind at)) s = record { contents = λ l. refl; slots = refl; objects = refl }
result_same word offset (Err Excluded) s = record { contents = λ l. refl; slots = refl; objects = refl }

pub freed_same : (f : Free) (s : Store) → HasSame s (freed f s)
freed_same f s = result_same f.start (offset_of f.expr) (freed_layer s f.expr (out-Expr f.expr)) s

all_same_by : (f : Free) (fs : List Free) (s : Store) (b : Bool) → HasSame (freed f s) (all_freed fs (freed f s)) → HasSame s (if b then freed f s else all_freed fs (freed f s))
all_same_by f fs s true rest = freed_same f s
all_same_by f fs s false rest = same_then (freed_same f s) rest

pub all_same : (fs : List Free) (s : Store) → HasSame s (all_freed fs s)
all_same [] s = record { contents = λ l. refl; slots = refl; objects = refl }
all_same (f ∷ fs) s = all_same_by f fs s (is_over (freed f s).ending) (all_same fs (freed f s))
