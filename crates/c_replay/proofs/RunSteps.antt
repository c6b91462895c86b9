-- A run takes one step at a time, and none after its end.
use Rattle.std.proofs.Common.{◌≡◌, ℕ, zero, suc, ◌+◌, ◌≤◌, Bool, true, false, ℤ, pos, negsuc, List, [], ◌∷◌, drop, Option, Some, None, Result, Ok, Err, refl, ap, ◌∙◌, arith}
use Rattle.std.specs.Prelude.{if◌then◌else◌}
use Rattle.c_tree.specs.declared.program.Free.{Free}
use Rattle.c_tree.specs.declared.program.Program.{Program}
use Rattle.c_meaning.specs.declared.value.Value.{Value}
use Rattle.c_meaning.specs.declared.value.Value.TheVariants as value
use Rattle.c_meaning.specs.declared.machine.Location.{Location}
use Rattle.c_meaning.specs.declared.machine.Location.TheVariants.{Slot, Cell}
use Rattle.c_meaning.specs.declared.machine.Stop.{Stop}
use Rattle.c_meaning.specs.declared.machine.Stop.TheVariants.{Faulted, Excluded}
use Rattle.c_meaning.specs.declared.machine.Frame.{Frame}
use Rattle.c_meaning.specs.declared.machine.Machine.{Machine}
use Rattle.c_meaning.specs.Machine.{Store, store_of, stored, stopped}
use Rattle.c_meaning.specs.Eval.{◌>>=◌, is_freed, eval, eval_all, int_of, truth, place_of, offset_of}
use Rattle.c_meaning.specs.Parts.{Instruction, Unset, Assign, Malloc, Getchar, Putchar, Printf, Test, Invoke, Return, Close}
use Rattle.c_meaning.specs.Place.{Spot, AtGap, AtAction, Nowhere}
use Rattle.c_meaning.specs.Effects.{Effect, Passes, Calls, Returns, Stays, is_over, freed_layer, freed_once, freed_value, freed_result, freed, all_freed, target_location, answered, new_value, count_of, fails_next, granted, requested, next_byte, fetched, written, low_byte, ints_of, printed, passing, bound, parameters_of, value_of, attempt, unless_stopped, effect, received, ended}
use Rattle.c_meaning.specs.Step.{State, acts, at_spot, gone_back, gone_on, here, onward, seen, state_of, step, target_in, unless_ended, unless_over, walked, with}
use Rattle.c_meaning.specs.Safe.{run}
use Rattle.c_tree.specs.declared.expr.Expr.{out-Expr}

-- no act takes a step

stored_steps : (l : Location) (v : Value) (s : Store) → (stored l v s).steps ≡ s.steps
stored_steps (Slot x) v s = refl
stored_steps (Cell o k) v s = refl

answered_steps : (l : Option Location) (v : Value) (s : Store) → (answered l v s).steps ≡ s.steps
answered_steps None v s = refl
answered_steps (Some l) v s = stored_steps l v s

granted_steps : (l : Option Location) (n : ℤ) (b : Bool) (s : Store) → (granted l n b s).steps ≡ s.steps
granted_steps l (negsuc n) b s = answered_steps l value.Null s
granted_steps l (pos n) true s = answered_steps l value.Null s
granted_steps None (pos n) false s = refl
granted_steps (Some (Slot x)) (pos n) false s = refl
granted_steps (Some (Cell o k)) (pos n) false s = refl

stopped_steps : (e : Stop) (by_free : Bool) (s : Store) → (stopped e by_free s).steps ≡ s.steps
stopped_steps (Faulted kind at) by_free s = refl
stopped_steps Excluded by_free s = refl

freed_once_steps : (word o : ℕ) (b : Bool) (s : Store) → (freed_once word o b s).steps ≡ s.steps
freed_once_steps word o true s = refl
freed_once_steps word o false s = refl

freed_value_steps : (word at : ℕ) (v : Value) (s : Store) → (freed_value word at v s).steps ≡ s.steps
freed_value_steps word at value.Undef s = refl
freed_value_steps word at (value.Int n) s = refl
freed_value_steps word at value.Null s = refl
freed_value_steps word at (value.Ptr o) s = freed_once_steps word o (is_freed s.objects o) s

freed_result_steps : (word at : ℕ) (r : Result Value Stop) (s : Store) → (freed_result word at r s).steps ≡ s.steps
freed_result_steps word at (Ok v) s = freed_value_steps word at v s
freed_result_steps word at (Err e) s = stopped_steps e true s

freed_steps : (f : Free) (s : Store) → (freed f s).steps ≡ s.steps
freed_steps f s = freed_result_steps f.start (offset_of f.expr) (freed_layer s f.expr (out-Expr f.expr)) s

either_steps : (b : Bool) (s t : Store) (n : ℕ) → s.steps ≡ n → t.steps ≡ n → (if b then s else t).steps ≡ n
either_steps true s t n e f = e
either_steps false s t n e f = f

all_freed_steps : (fs : List Free) (s : Store) → (all_freed fs s).steps ≡ s.steps
all_freed_steps [] s = refl
all_freed_steps (f ∷ fs) s =
    either_steps (is_over (freed f s).ending) (freed f s) (all_freed fs (freed f s)) s.steps (freed_steps f s) (all_freed_steps fs (freed f s) ∙ freed_steps f s)

bound_steps : (xs : List ℕ) (vs : List Value) (s : Store) → (bound xs vs s).steps ≡ s.steps
bound_steps [] vs s = refl
bound_steps (x ∷ xs) [] s = refl
bound_steps (x ∷ xs) (v ∷ vs) s = bound_steps xs vs (stored (Slot x) v s)

-- an effect whose store has taken n steps
abbrev Counts : ℕ → Effect Store → Type 0
Counts n (Passes said s) = s.steps ≡ n
Counts n (Calls callee s) = s.steps ≡ n
Counts n (Returns v s) = s.steps ≡ n
Counts n (Stays s) = s.steps ≡ n

abbrev Tried : ℕ → Result (Effect Store) Stop → Type 0
Tried n (Ok e) = Counts n e
Tried n (Err e) = Unit {0}

then_tried : {A : Type 0} (n : ℕ) (r : Result A Stop) (f : A → Result (Effect Store) Stop) → ((x : A) → Tried n (f x)) → Tried n (r >>= f)
then_tried n (Ok x) f h = h x
then_tried n (Err e) f h = tt

attempt_counts : (p : Program) (a : Instruction) (s : Store) → Tried s.steps (attempt p a s)
attempt_counts p (Unset x) s = refl
attempt_counts p (Assign place o e at) s =
    then_tried s.steps (place_of s.slots s.objects place) (λ l. new_value s o at place e l >>= λ v. passing (stored l v s))
    (λ l. then_tried s.steps (new_value s o at place e l) (λ v. passing (stored l v s)) (λ v. stored_steps l v s))
attempt_counts p (Malloc place size at) s =
    then_tried s.steps (target_location s place) (λ l. count_of p s size >>= λ n. passing (requested l n s))
    (λ l. then_tried s.steps (count_of p s size) (λ n. passing (requested l n s)) (λ n. granted_steps l n (fails_next s.fails) (record s { fails = drop 1 s.fails })))
attempt_counts p (Getchar place) s =
    then_tried s.steps (target_location s place) (λ l. passing (fetched l s)) (λ l. answered_steps l (next_byte s.input) (record s { input = drop 1 s.input }))
attempt_counts p (Putchar e) s = then_tried s.steps (eval s.slots s.objects e >>= int_of) (λ n. passing (written (low_byte n ∷ []) s)) (λ n. refl)
attempt_counts p (Printf text arguments) s =
    then_tried s.steps (eval_all s.slots s.objects arguments >>= ints_of >>= printed text) (λ bytes. passing (written bytes s)) (λ bytes. refl)
attempt_counts p (Test e) s = then_tried s.steps (eval s.slots s.objects e >>= truth) (λ b. Ok (Passes (Some b) s)) (λ b. refl)
attempt_counts p (Invoke number callee arguments target) s =
    then_tried s.steps (eval_all s.slots s.objects arguments) (λ vs. Ok (Calls callee (bound (parameters_of p callee) vs s))) (λ vs. bound_steps (parameters_of p callee) vs s)
attempt_counts p (Return v at) s = then_tried s.steps (value_of s v) (λ w. Ok (Returns w s)) (λ w. refl)
attempt_counts p (Close true at) s = refl
attempt_counts p (Close false at) s = tt

unless_stopped_counts : (s : Store) (r : Result (Effect Store) Stop) → Tried s.steps r → Counts s.steps (unless_stopped s r)
unless_stopped_counts s (Ok e) h = h
unless_stopped_counts s (Err e) h = stopped_steps e false s

ended_steps : (v : Option Value) (s : Store) → (ended v s).steps ≡ s.steps
ended_steps None s = refl
ended_steps (Some (value.Int n)) s = refl
ended_steps (Some value.Undef) s = refl
ended_steps (Some value.Null) s = refl
ended_steps (Some (value.Ptr o)) s = refl

received_steps : (target : Option ℕ) (v : Option Value) (s : Store) → (received target v s).steps ≡ s.steps
received_steps (Some x) (Some v) s = refl
received_steps (Some x) None s = refl
received_steps None v s = refl

gone_back_steps : (p : Program) (fs : List Frame) (v : Option Value) (s : Store) → (gone_back (acts p) fs v s).store.steps ≡ s.steps
gone_back_steps p [] v s = refl
gone_back_steps p (f ∷ []) v s = ended_steps v s
gone_back_steps p (f ∷ g ∷ fs) v s = received_steps f.target v s

gone_on_steps : (p : Program) (target : Option ℕ) (fs : List Frame) (n : ℕ) (e : Effect Store) → Counts n e → (gone_on p (acts p) target fs e).store.steps ≡ n
gone_on_steps p target fs n (Passes said s) h = h
gone_on_steps p target fs n (Calls callee s) h = h
gone_on_steps p target fs n (Returns v s) h = gone_back_steps p fs v s ∙ h
gone_on_steps p target fs n (Stays s) h = h

unless_over_steps : (p : Program) (next : State Store → State Store) → ((t : State Store) → (next t).store.steps ≡ t.store.steps) → (fs : List Frame) (s : Store) (b : Bool) →
    (unless_over next p fs s b).store.steps ≡ s.steps
unless_over_steps p next h fs s true = refl
unless_over_steps p next h fs s false = h (with (onward p None fs) s)

at_spot_steps : (p : Program) (next : State Store → State Store) → ((t : State Store) → (next t).store.steps ≡ t.store.steps) → (q : Spot) (fs : List Frame) (s : Store) →
    (at_spot p (acts p) next q fs s).store.steps ≡ s.steps
at_spot_steps p next h (AtGap g) fs s = unless_over_steps p next h fs (all_freed g.frees s) (is_over (all_freed g.frees s).ending) ∙ all_freed_steps g.frees s
at_spot_steps p next h (AtAction a) fs s = gone_on_steps p (target_in a) fs s.steps (effect p a s) (unless_stopped_counts s (attempt p a s) (attempt_counts p a s))
at_spot_steps p next h Nowhere fs s = refl

walked_steps : (p : Program) (n : ℕ) (s : State Store) → (walked p (acts p) n s).store.steps ≡ s.store.steps
walked_steps p zero s = refl
walked_steps p (suc n) s = at_spot_steps p (walked p (acts p) n) (walked_steps p n) (here p s.frames) s.frames s.store

ended_or_counted : (p : Program) (m : Machine) (b : Bool) → (unless_ended p (acts p) (state_of m) b).store.steps ≤ m.steps + 1
ended_or_counted p m true = omega arith
ended_or_counted p m false =
    let same = walked_steps p (p.gaps + 1) (with m.rest (record (store_of m) { steps = m.steps + 1 })) in
    omega arith

step_steps : (p : Program) (m : Machine) → (step p m).steps ≤ m.steps + 1
step_steps p m = ended_or_counted p m (is_over m.ending)

pub run_steps : (p : Program) (input : List ℕ) (fails : List Bool) (n : ℕ) → (run p input fails n).steps ≤ n
run_steps p input fails zero = omega arith
run_steps p input fails (suc n) =
    let before = run_steps p input fails n in
    let one = step_steps p (run p input fails n) in
    omega arith

-- after its end a run stays as it is

step_over : (p : Program) (m : Machine) → is_over m.ending ≡ true → step p m ≡ m
step_over p m over = ap (λ (b : Bool). seen (unless_ended p (acts p) (state_of m) b)) over

pub run_over : (p : Program) (input : List ℕ) (fails : List Bool) (k n : ℕ) → is_over (run p input fails k).ending ≡ true → run p input fails (n + k) ≡ run p input fails k
run_over p input fails k zero over = let same : 0 + k ≡ k = omega arith in ap (run p input fails) same
run_over p input fails k (suc n) over =
    let rest = run_over p input fails k n over in
    let more : suc n + k ≡ suc (n + k) = omega arith in
    ap (run p input fails) more ∙ ap (step p) rest ∙ step_over p (run p input fails k) over
