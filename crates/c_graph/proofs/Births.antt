-- Objects are born over Made edges alone, so the sites of objects are the first nodes of those edges.
use Rattle.std.proofs.Common.{◌≡◌, ℕ, zero, suc, ◌+◌, ◌<◌, Bool, true, false, List, [], ◌∷◌, ◌++◌, length, Option, Some, None, Result, Ok, Err, refl, ap, ◌∙◌, arith}
use Rattle.std.specs.Prelude.{if◌then◌else◌, nat_lt, drop}
use Rattle.std.proofs.lemmas.Bool.{ltb-true, lt-ltb}
use Rattle.std.proofs.lemmas.List.{length-append}
use Rattle.c_tree.specs.declared.expr.Expr.{out-Expr}
use Rattle.c_tree.specs.declared.program.Free.{Free}
use Rattle.c_tree.specs.declared.program.Program.{Program}
use Rattle.c_meaning.specs.declared.value.Value.{Value}
use Rattle.c_meaning.specs.declared.value.Value.TheVariants as value
use Rattle.c_meaning.specs.declared.machine.Location.{Location}
use Rattle.c_meaning.specs.declared.machine.Location.TheVariants.{Slot, Cell}
use Rattle.c_meaning.specs.declared.machine.Stop.{Stop}
use Rattle.c_meaning.specs.declared.machine.Stop.TheVariants.{Faulted, Excluded}
use Rattle.c_meaning.specs.Eval.{is_freed, offset_of}
use Rattle.c_meaning.specs.Machine.{Store, altered, with_cell, marked_freed, stored}
use Rattle.c_meaning.specs.Effects.{is_over, freed_layer, freed_once, freed_value, freed_result, freed, all_freed, answered, born, next_byte, fetched, low_byte, written, bound, parameters_of, back, ended}
use Rattle.c_graph.specs.declared.graph.Edge.{Edge}
use Rattle.c_graph.specs.declared.graph.Graph.{Graph}
use Rattle.c_graph.specs.declared.graph.NodeKind.{NodeKind}
use Rattle.c_graph.specs.declared.graph.Way.{Way}
use Rattle.c_graph.specs.Executes.{asked, Does, frees, unsets, assigns, makes, makes_none, gets, puts, prints, holds, fails, calls, returns, closes, ends, ends_last, Executes, Faults, by_free, by_action, sites_by, sites_over}
use Rattle.c_graph.specs.Met.{sites_behind}

-- as many objects

abbrev pub AsMany : Store → Store → Type 0
AsMany t s = length t.objects ≡ length s.objects

altered_many : {A : Type 0} (f : A → A) (i : ℕ) (xs : List A) → length (altered f i xs) ≡ length xs
altered_many f i [] = refl
altered_many f zero (x ∷ xs) = refl
altered_many f (suc i) (x ∷ xs) = let rest : length (altered f i xs) ≡ length xs = altered_many f i xs in omega arith

stored_many : (l : Location) (v : Value) (s : Store) → AsMany (stored l v s) s
stored_many (Slot x) v s = refl
stored_many (Cell o k) v s = altered_many (with_cell k v) o s.objects

answered_many : (l : Option Location) (v : Value) (s : Store) → AsMany (answered l v s) s
answered_many None v s = refl
answered_many (Some l) v s = stored_many l v s

once_many : (word o : ℕ) (b : Bool) (s : Store) → AsMany (freed_once word o b s) s
once_many word o true s = refl
once_many word o false s = altered_many marked_freed o s.objects

value_many : (word offset : ℕ) (v : Value) (s : Store) → AsMany (freed_value word offset v s) s
value_many word offset value.Undef s = refl
value_many word offset (value.Int n) s = refl
value_many word offset value.Null s = refl
value_many word offset (value.Ptr o) s = once_many word o (is_freed s.objects o) s

result_many : (word offset : ℕ) (r : Result Value Stop) (s : Store) → AsMany (freed_result word offset r s) s
result_many word offset (Ok v) s = value_many word offset v s
result_many word offset (Err (Faulted kind at)) s = refl
result_many word offset (Err Excluded) s = refl

freed_many : (f : Free) (s : Store) → AsMany (freed f s) s
freed_many f s = result_many f.start (offset_of f.expr) (freed_layer s f.expr (out-Expr f.expr)) s

all_many_by : (f : Free) (list : List Free) (s : Store) (b : Bool) → AsMany (all_freed list (freed f s)) (freed f s) → AsMany (if b then freed f s else all_freed list (freed f s)) s
all_many_by f list s true rest = freed_many f s
all_many_by f list s false rest = rest ∙ freed_many f s

all_many : (list : List Free) (s : Store) → AsMany (all_freed list s) s
all_many [] s = refl
all_many (f ∷ list) s = all_many_by f list s (is_over (freed f s).ending) (all_many list (freed f s))

bound_many : (xs : List ℕ) (vs : List Value) (s : Store) → AsMany (bound xs vs s) s
bound_many [] vs s = refl
bound_many (x ∷ xs) [] s = refl
bound_many (x ∷ xs) (v ∷ vs) s = bound_many xs vs (stored (Slot x) v s)

back_many : (p : Program) (f : ℕ) (target : Option ℕ) (v : Option Value) (s : Store) → AsMany (back p f target v s) s
back_many p f (Some x) (Some v) s = refl
back_many p f (Some x) None s = refl
back_many p f None v s = refl

ended_many : (v : Option Value) (s : Store) → AsMany (ended v s) s
ended_many None s = refl
ended_many (Some (value.Int n)) s = refl
ended_many (Some value.Undef) s = refl
ended_many (Some value.Null) s = refl
ended_many (Some (value.Ptr o)) s = refl

-- sites

not_less : (n m : ℕ) (b : Bool) → m ≡ n → nat_lt n m ≡ b → b ≡ false
not_less n m true same e = let low : n < m = ltb-true n m e in absurd (omega arith)
not_less n m false same e = refl

pub kept_sites : (v : ℕ) (s t : Store) (sites : List ℕ) → AsMany t s → sites_behind v s t sites ≡ sites
kept_sites v s t sites many = ap (λ (b : Bool). if b then sites ++ v ∷ [] else sites) (not_less (length s.objects) (length t.objects) (nat_lt (length s.objects) (length t.objects)) many refl)

more_sites : (v : ℕ) (s t : Store) (sites : List ℕ) → length s.objects < length t.objects → sites_behind v s t sites ≡ sites ++ v ∷ []
more_sites v s t sites more = ap (λ (b : Bool). if b then sites ++ v ∷ [] else sites) (lt-ltb (length s.objects) (length t.objects) more)

born_more : (l : Option Location) (v : Value) (n : ℕ) (s : Store) → length s.objects < length (answered l v (born n (asked s))).objects
born_more l v n s =
    let same : length (answered l v (born n (asked s))).objects ≡ length (born n (asked s)).objects = answered_many l v (born n (asked s)) in
    let long : length (born n (asked s)).objects ≡ length s.objects + 1 = length-append s.objects _ in
    omega arith

does_bear : {p : Program} {left : Option ℕ} {s : Store} {kind : NodeKind} {w : Way} {t : Store} (v : ℕ) (sites : List ℕ) → Does p left s kind w t → sites_behind v s t sites ≡ sites_by v w sites
does_bear {s = s} v sites (frees number list going) = kept_sites v s (all_freed list s) sites (all_many list s)
does_bear {s = s} v sites (unsets x) = kept_sites v s (stored (Slot x) value.Undef s) sites refl
does_bear {s = s} v sites (assigns a e l u plain at new) = kept_sites v s (stored l u s) sites (stored_many l u s)
does_bear {s = s} v sites (makes place size offset l n at count granted) =
    more_sites v s (answered l (value.Ptr (length s.objects)) (born n (asked s))) sites (born_more l (value.Ptr (length s.objects)) n s)
does_bear {s = s} v sites (makes_none place size offset l n at count refused) = kept_sites v s (answered l value.Null (asked s)) sites (answered_many l value.Null (asked s))
does_bear {s = s} v sites (gets place l at) = kept_sites v s (fetched l s) sites (answered_many l (next_byte s.input) (record s { input = drop 1 s.input }))
does_bear {s = s} v sites (puts e n at) = kept_sites v s (written (low_byte n ∷ []) s) sites refl
does_bear {s = s} v sites (prints text arguments bytes at) = kept_sites v s (written bytes s) sites refl
does_bear {s = s} v sites (holds e is) = kept_sites v s s sites refl
does_bear {s = s} v sites (fails e is) = kept_sites v s s sites refl
does_bear {p = p} {s = s} v sites (calls callee arguments values at) = kept_sites v s (bound (parameters_of p callee) values s) sites (bound_many (parameters_of p callee) values s)
does_bear {p = p} {s = s} v sites (returns e u f target from at) = kept_sites v s (back p f target u s) sites (back_many p f target u s)
does_bear {p = p} {s = s} v sites (closes f target from) = kept_sites v s (back p f target None s) sites (back_many p f target None s)
does_bear {s = s} v sites (ends e u at) = kept_sites v s (ended u s) sites (ended_many u s)
does_bear {s = s} v sites ends_last = kept_sites v s (ended None s) sites refl

-- over an edge
pub executed_bears : {p : Program} {g : Graph} (e : Edge) (s t : Store) (sites : List ℕ) → Executes p g e s t → sites_behind e.from s t sites ≡ sites_over e sites
executed_bears e s t sites h = does_bear e.from sites h.does

-- a fault bears nothing
pub faults_many : {p : Program} {s : Store} {kind : NodeKind} {t : Store} → Faults p s kind t → AsMany t s
faults_many {s = s} (by_free number list what offset is) = all_many list s
faults_many (by_action a i what offset is did) = refl
