-- The frees of a gap of a straight program: each frees the object of its variable, if that has one.
use Rattle.std.proofs.Common.{◌≡◌, ℕ, ◌+◌, ◌≤◌, Bool, false, List, ◌∷◌, ◌++◌, length, Option, Result, refl, ap, ◌∙◌, arith}
use Rattle.std.specs.Prelude.{unwrap_or, option_map, if◌then◌else◌}
use Rattle.c_tree.specs.declared.expr.Expr.{Expr, Expr-F}
use Rattle.c_tree.specs.declared.expr.Expr.TheVariants as expr
use Rattle.c_tree.specs.declared.program.Free.{Free}
use Rattle.c_meaning.specs.declared.value.Value.{Value}
use Rattle.c_meaning.specs.declared.value.Value.TheVariants as value
use Rattle.c_meaning.specs.declared.machine.Object.{Object}
use Rattle.c_meaning.specs.declared.machine.Ending.TheVariants.{Running}
use Rattle.c_meaning.specs.Machine.{Store}
use Rattle.c_meaning.specs.declared.machine.Location.{Location}
use Rattle.c_meaning.specs.declared.machine.Stop.{Stop}
use Rattle.c_meaning.specs.Eval.{◌>>=◌, slot_of, offset_layer}
use Rattle.c_meaning.specs.First.Frees.{is_in, Frees, none, more}
use Rattle.c_meaning.specs.Effects.{freed, freed_result, freed_layer, freed_value, freed_once, is_over, all_freed, content_at}
use Rattle.c_meaning.proofs.Evals.{place_var}
use Rattle.c_meaning.proofs.First.Held.{Holding, slots_of, objects_of, is_in_other, Looks, empty, full, looks}

pub freed_var : (x at start end : ℕ) (m : Store) → freed (record { expr = expr.Var x at; start = start; end = end }) m ≡ freed_value start at (slot_of m.slots x) m
freed_var x at start end m =
    ap (λ (l : Expr-F Expr). freed_result start (offset_layer l) (freed_layer m (expr.Var x at) l) m) (expr.outs-Var x at)
    ∙ ap (λ (r : Result Location Stop). freed_result start at (r >>= content_at m) m) (place_var m.slots m.objects x at)

abbrev with_parts : Store → List Value → List Object → Store
with_parts m slots objects = record m { slots = slots; objects = objects; ending = Running }

looked_freed : (x at start end : ℕ) (m : Store) (gone : List ℕ) (held : List Holding) (later : List Value) → is_in x gone ≡ false → Looks 0 0 gone held later x x →
    freed (record { expr = expr.Var x at; start = start; end = end }) (with_parts m (slots_of 0 held ++ later) (objects_of 0 gone held))
    ≡ with_parts m (slots_of 0 held ++ later) (objects_of 0 (x ∷ gone) held)
looked_freed x at start end m gone held later apart (empty points stay) =
    let k = with_parts m (slots_of 0 held ++ later) (objects_of 0 gone held) in
    freed_var x at start end k
    ∙ ap (λ (v : Value). freed_value start at v k) points
    ∙ ap (with_parts m (slots_of 0 held ++ later)) stay
looked_freed x at start end m gone held later apart (full o c points cell change goes) =
    let k = with_parts m (slots_of 0 held ++ later) (objects_of 0 gone held) in
    let z : 0 + o ≡ o = omega arith in
    freed_var x at start end k
    ∙ ap (λ (v : Value). freed_value start at v k) (points ∙ ap value.Ptr z)
    ∙ ap (λ (b : Option Object). freed_once start o (unwrap_or (option_map (λ b. b.freed) b) false) k) cell
    ∙ ap (λ (b : Bool). freed_once start o b k) apart
    ∙ ap (with_parts m (slots_of 0 held ++ later)) goes

-- the walk over the frees of a gap
pub frees_done : {n : ℕ} {gone now : List ℕ} {fs : List Free} (m : Store) (held : List Holding) (later : List Value) → Frees n gone fs now → length held ≡ n →
    all_freed fs (with_parts m (slots_of 0 held ++ later) (objects_of 0 gone held)) ≡ with_parts m (slots_of 0 held ++ later) (objects_of 0 now held)
frees_done m held later none count = refl
frees_done {gone = gone} m held later (more {fs = fs} x at start end below apart rest) count =
    let z : x ≡ 0 + x = omega arith in
    ap (λ (c : Store). if is_over c.ending then c else all_freed fs c)
    (looked_freed x at start end m gone held later apart (looks 0 0 gone held later x x z (omega arith)))
    ∙ frees_done m held later rest count

-- no later variable goes
pub frees_fresh : {n : ℕ} {gone now : List ℕ} {fs : List Free} → Frees n gone fs now → ((x : ℕ) → n ≤ x → is_in x gone ≡ false) → (x : ℕ) → n ≤ x → is_in x now ≡ false
frees_fresh none fresh x h = fresh x h
frees_fresh {gone = gone} (more y at start end below apart rest) fresh x h =
    frees_fresh rest (λ z k. is_in_other z y gone (λ e. omega arith) ∙ fresh z k) x h
