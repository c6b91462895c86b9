-- Alike programs have the same runs but for the offset of a fault; so one is safe where the other is.
use Rattle.std.proofs.Common.{◌≡◌, ℕ, zero, suc, Bool, true, false, true≢false, ℤ, List, [], ◌∷◌, map, Result, refl, ap, sym, subst, ◌∙◌, All, IsTrue}
use Rattle.std.specs.Prelude.{if◌then◌else◌}
use Rattle.c_tree.specs.Alike.{bare_expr, bare_free, bare_gap, IsAlike}
use Rattle.c_tree.specs.declared.expr.Expr.{Expr, Expr-F, out-Expr}
use Rattle.c_tree.specs.declared.expr.Expr.TheOpen.{Const, Null, Var, Field, Deref, Index, Unary, Binary}
use Rattle.c_tree.specs.declared.program.Free.{Free}
use Rattle.c_tree.specs.declared.program.Gap.{Gap}
use Rattle.c_tree.specs.declared.program.Program.{Program}
use Rattle.c_meaning.specs.declared.value.Value.{Value}
use Rattle.c_meaning.specs.declared.value.Value.TheVariants as value
use Rattle.c_meaning.specs.declared.machine.Object.{Object}
use Rattle.c_meaning.specs.declared.machine.Kind.{Kind}
use Rattle.c_meaning.specs.declared.machine.Kind.TheVariants as kind
use Rattle.c_meaning.specs.declared.machine.Stop.{Stop}
use Rattle.c_meaning.specs.declared.machine.Stop.TheVariants.{Faulted}
use Rattle.c_meaning.specs.declared.machine.Ending.{Ending}
use Rattle.c_meaning.specs.declared.machine.Ending.TheVariants.{Running, Returned, Fault}
use Rattle.c_meaning.specs.declared.machine.Machine.{Machine}
use Rattle.c_meaning.specs.Eval.{◌>>=◌, is_freed, eval, place_of, offset_of}
use Rattle.c_meaning.specs.Machine.{Store, altered, marked_freed, deallocated}
use Rattle.c_meaning.specs.Effects.{content_at, freed_layer, freed_once, freed_value, freed_result, freed, is_over, all_freed}
use Rattle.c_meaning.specs.Step.{State, seen}
use Rattle.c_meaning.specs.Safe.{run, Safe, Same, IsFault}
use Rattle.c_meaning.proofs.Opened.{bared, bare_out}
use Rattle.c_meaning.proofs.Outlines.{alike_correspond}
use Rattle.c_meaning.proofs.Together.{Together, alike, left_met, right_met, AtOnePlace, standing}
use Rattle.c_meaning.proofs.Agree.{Agree, both, both_stop, left_stale, right_stale, agree_same, ObjectsAgree, no_objects, one_more, marks_agree, content_agrees, eval_agrees, place_agrees}
use Rattle.c_meaning.proofs.StoresAgree.{bare_ending, StoresAgree, agreeing, over_agrees, stopped_agrees}
use Rattle.c_meaning.proofs.Runs.{Sides, runs_meet}

abbrev Equal : Bool → Bool → Type 0
Equal b c = b ≡ c

abbrev Alike : Store → Store → Type 0
Alike = StoresAgree Equal

-- frees

objects_freed : {objects others : List Object} (o : ℕ) → ObjectsAgree Equal objects others → ObjectsAgree Equal (altered marked_freed o objects) (altered marked_freed o others)
objects_freed o no_objects = no_objects
objects_freed zero (one_more c m h) = one_more c refl h
objects_freed (suc o) (one_more c m h) = one_more c m (objects_freed o h)

deallocated_alike : {s t : Store} (o : ℕ) → Alike s t → Alike (deallocated o s) (deallocated o t)
deallocated_alike o (agreeing s others ending h e) = agreeing (deallocated o s) (altered marked_freed o others) ending (objects_freed o h) e

once_alike : {s t : Store} (m n o : ℕ) (b : Bool) → Alike s t → Alike (freed_once m o b s) (freed_once n o b t)
once_alike m n o true g = stopped_agrees Equal (Faulted kind.DoubleFree m) (Faulted kind.DoubleFree n) true refl g
once_alike m n o false g = deallocated_alike o g

mark_alike : {s t : Store} (o : ℕ) → Alike s t → is_freed s.objects o ≡ is_freed t.objects o
mark_alike o (agreeing s others ending h e) = marks_agree Equal refl h o

value_alike : {s t : Store} (m n k l : ℕ) (v : Value) → Alike s t → Alike (freed_value m k v s) (freed_value n l v t)
value_alike m n k l value.Undef g = stopped_agrees Equal (Faulted kind.Uninit k) (Faulted kind.Uninit l) true refl g
value_alike m n k l (value.Int i) g = g
value_alike m n k l value.Null g = g
value_alike {s} {t} m n k l (value.Ptr o) g = subst (λ (b : Bool). Alike (freed_once m o (is_freed s.objects o) s) (freed_once n o b t)) (mark_alike o g) (once_alike m n o (is_freed s.objects o) g)

result_alike : {s t : Store} {r u : Result Value Stop} (m n k l : ℕ) → Agree Equal ◌≡◌ r u → Alike s t → Alike (freed_result m k r s) (freed_result n l u t)
result_alike {s} {t} m n k l (both {a = a} e) g = subst (λ (v : Value). Alike (freed_value m k a s) (freed_value n l v t)) e (value_alike m n k l a g)
result_alike m n k l (both_stop d e same) g = stopped_agrees Equal d e true same g
result_alike m n k l (left_stale offset r h) g = absurd (true≢false h)
result_alike m n k l (right_stale offset r h) g = absurd (true≢false (sym h))

contents_alike : {s t : Store} (e d : Expr) → bare_expr e ≡ bare_expr d → Alike s t → Agree Equal ◌≡◌ (place_of s.slots s.objects e >>= content_at s) (place_of t.slots t.objects d >>= content_at t)
contents_alike e d same (agreeing s others ending h g) =
    agree_same Equal (content_at s) (content_at (record s { objects = others; ending = ending })) (place_agrees Equal refl h s.slots e d same) (λ l. both (content_agrees Equal refl h s.slots l))

values_alike : {s t : Store} (e d : Expr) → bare_expr e ≡ bare_expr d → Alike s t → Agree Equal ◌≡◌ (eval s.slots s.objects e) (eval t.slots t.objects d)
values_alike e d same (agreeing s others ending h g) = eval_agrees Equal refl h s.slots e d same

layer_alike : {s t : Store} (e d : Expr) (l k : Expr-F Expr) → bare_expr e ≡ bare_expr d → bared l ≡ bared k → Alike s t → Agree Equal ◌≡◌ (freed_layer s e l) (freed_layer t d k)
layer_alike e d (Var x m) (Var y n) same h g = contents_alike e d same g
layer_alike e d (Field a f m) (Field b f' n) same h g = contents_alike e d same g
layer_alike e d (Deref a m) (Deref b n) same h g = contents_alike e d same g
layer_alike e d (Index a i m) (Index b j n) same h g = contents_alike e d same g
layer_alike e d (Const i m) (Const j n) same h g = values_alike e d same g
layer_alike e d (Null m) (Null n) same h g = values_alike e d same g
layer_alike e d (Unary s a m) (Unary s' b n) same h g = values_alike e d same g
layer_alike e d (Binary o a b m) (Binary o' a' b' n) same h g = values_alike e d same g
layer_alike e d _ _ same h g = absurd cc

freed_alike : {s t : Store} (f g : Free) → bare_free f ≡ bare_free g → Alike s t → Alike (freed f s) (freed g t)
freed_alike f g same r =
    let one : bare_expr f.expr ≡ bare_expr g.expr = ap (λ (x : Free). x.expr) same in
    result_alike f.start g.start (offset_of f.expr) (offset_of g.expr)
    (layer_alike f.expr g.expr (out-Expr f.expr) (out-Expr g.expr) one (sym (bare_out f.expr) ∙ ap out-Expr one ∙ bare_out g.expr) r) r

unless_alike : {s t u v : Store} (b : Bool) → Alike s t → Alike u v → Alike (if b then s else u) (if b then t else v)
unless_alike true g h = g
unless_alike false g h = h

frees_alike : (fs gs : List Free) (s t : Store) → map bare_free fs ≡ map bare_free gs → Alike s t → Alike (all_freed fs s) (all_freed gs t)
frees_alike [] [] s t same r = r
frees_alike (f ∷ fs) (g ∷ gs) s t same r =
    let one : Alike (freed f s) (freed g t) = freed_alike f g (let head : bare_free f ≡ bare_free g = cc in head) r in
    let rest : map bare_free fs ≡ map bare_free gs = cc in
    subst (λ (b : Bool). Alike (all_freed (f ∷ fs) s) (if b then freed g t else all_freed gs (freed g t))) (over_agrees Equal one)
    (unless_alike (is_over (freed f s).ending) one (frees_alike fs gs (freed f s) (freed g t) rest one))
frees_alike _ _ s t same r = absurd cc

abbrev Nothing : Store → Type 0
Nothing s = ⊥

alike_sides : Sides (λ f g. bare_gap f ≡ bare_gap g) Equal Nothing Nothing
alike_sides = record {
  fresh = refl;
  left_over = λ s h. absurd h;
  right_over = λ s h. absurd h;
  left_reads = λ offset s h. absurd (true≢false h);
  right_reads = λ offset s h. absurd (true≢false (sym h));
  freed = λ f g s t same r. alike (frees_alike f.frees g.frees s t (let one : map bare_free f.frees ≡ map bare_free g.frees = ap (λ (x : Gap). x.frees) same in one) r);
}

-- a machine without the offset of its fault
abbrev pub bare_machine : Machine → Machine
bare_machine m = record m { ending = bare_ending m.ending }

objects_same : {objects others : List Object} → ObjectsAgree Equal objects others → objects ≡ others
objects_same no_objects = refl
objects_same (one_more {a = a} {b = b} {objects = objects} {others = others} c m h) =
    let one : a ≡ b = ap (λ (cs : List Value). record { cells = cs; freed = a.freed }) c ∙ ap (λ (f : Bool). record { cells = b.cells; freed = f }) m in
    ap (λ (x : Object). x ∷ objects) one ∙ ap (λ (xs : List Object). b ∷ xs) (objects_same h)

machines_same : {x y : State Store} → Together (AtOnePlace Alike) (λ x. ⊥) (λ y. ⊥) x y → bare_machine (seen x) ≡ bare_machine (seen y)
machines_same (alike (standing fs (agreeing s others ending h e))) =
    ap (λ (os : List Object). bare_machine (seen (record { frames = fs; store = record s { objects = os } }))) (objects_same h)
    ∙ ap (λ (x : Ending). record (seen (record { frames = fs; store = record s { objects = others } })) { ending = x }) e
machines_same (left_met l) = absurd l
machines_same (right_met l) = absurd l

-- alike programs have the same runs but for the offset of a fault
pub runs_alike : (p q : Program) → IsAlike p q → (input : List ℕ) (fails : List Bool) (n : ℕ) → bare_machine (run p input fails n) ≡ bare_machine (run q input fails n)
runs_alike p q e input fails n = machines_same (runs_meet alike_sides p q (alike_correspond p q e) input fails n)

-- the fault of an ending that is one without its offset
record HasFault (e : Ending) (k : Kind) (by : Bool) : Type 0 where
  pub at : ℕ
  pub is : e ≡ Fault k at by

fault_of : (e : Ending) (k : Kind) (at : ℕ) (by : Bool) → bare_ending e ≡ Fault k at by → HasFault e k by
fault_of Running k at by h = absurd cc
fault_of (Returned n) k at by h = absurd cc
fault_of (Fault c from b) k at by h = record { at = from; is = let e : c ≡ k = cc in let f : b ≡ by = cc in cc }

return_of : (e : Ending) (n : ℤ) → bare_ending e ≡ Returned n → e ≡ Returned n
return_of Running n h = absurd cc
return_of (Returned m) n h = h
return_of (Fault c at b) n h = absurd cc

endings_alike : (p q : Program) → IsAlike p q → (input : List ℕ) (fails : List Bool) (n : ℕ) → bare_ending (run p input fails n).ending ≡ bare_ending (run q input fails n).ending
endings_alike p q e input fails n = ap (λ (m : Machine). m.ending) (runs_alike p q e input fails n)

other_fault : (p q : Program) → IsAlike p q → (input : List ℕ) (fails : List Bool) (n : ℕ) (k : Kind) (at : ℕ) (by : Bool) → (run q input fails n).ending ≡ Fault k at by → HasFault (run p input fails n).ending k by
other_fault p q e input fails n k at by h = fault_of (run p input fails n).ending k 0 by (endings_alike p q e input fails n ∙ ap bare_ending h)

-- a program that is alike to a safe one is safe
pub safe_alike : (p q : Program) → IsAlike p q → Safe p → Safe q
safe_alike p q e safe = record {
  no_use_after_free = λ input fails n bytes at by h. let f = other_fault p q e input fails n kind.UseAfterFree at by h in safe.no_use_after_free input fails n bytes f.at by f.is;
  no_double_free = λ input fails n bytes at by h. let f = other_fault p q e input fails n kind.DoubleFree at by h in safe.no_double_free input fails n bytes f.at by f.is;
  no_fault_by_free = λ input fails n bytes k at h. let f = other_fault p q e input fails n k at true h in safe.no_fault_by_free input fails n bytes k f.at f.is;
  all_freed = λ input fails n bytes answer h.
      subst (λ (os : List Object). All (λ o. IsTrue o.freed) os) (ap (λ (m : Machine). m.objects) (runs_alike p q e input fails n))
      (safe.all_freed input fails n bytes answer (return_of (run p input fails n).ending answer (endings_alike p q e input fails n ∙ ap bare_ending h)));
}

pub fault_same : (e f : Ending) → bare_ending e ≡ bare_ending f → IsFault e → IsFault f
fault_same (Fault k at by) Running h i = absurd cc
fault_same (Fault k at by) (Returned n) h i = absurd cc
fault_same (Fault k at by) (Fault c from b) h i = tt
fault_same Running f h i = absurd i
fault_same (Returned n) f h i = absurd i

-- where there is no fault, no offset is lost
pub sound_same : (e f : Ending) → bare_ending e ≡ bare_ending f → (IsFault e → ⊥) → e ≡ f
sound_same (Fault k at by) f h i = absurd (i tt)
sound_same Running Running h i = refl
sound_same Running (Returned n) h i = absurd cc
sound_same Running (Fault k at by) h i = absurd cc
sound_same (Returned m) (Returned n) h i = h
sound_same (Returned m) Running h i = absurd cc
sound_same (Returned m) (Fault k at by) h i = absurd cc

-- programs that are alike to two that do the same do the same
pub same_alike : (p p' q q' : Program) → IsAlike p p' → IsAlike q q' → Same p q → Same p' q'
same_alike p p' q q' d e same = record {
  no_fault = λ input fails n bytes sound h.
      same.no_fault input fails n bytes (λ i. sound (fault_same _ _ (endings_alike p p' d input fails n) i)) (fault_same _ _ (sym (endings_alike q q' e input fails n)) h);
  alike = λ input fails n bytes sound.
      let there : IsFault (run p input fails n).ending → ⊥ = λ i. sound (fault_same _ _ (endings_alike p p' d input fails n) i) in
      let l = same.alike input fails n bytes there in
      let quiet : IsFault (run q input fails n).ending → ⊥ = same.no_fault input fails n bytes there in
      record {
        ending = sym (sound_same _ _ (endings_alike p p' d input fails n) there) ∙ l.ending ∙ sound_same _ _ (endings_alike q q' e input fails n) quiet;
        output = sym (ap (λ (m : Machine). m.output) (runs_alike p p' d input fails n)) ∙ l.output ∙ ap (λ (m : Machine). m.output) (runs_alike q q' e input fails n);
        input = sym (ap (λ (m : Machine). m.input) (runs_alike p p' d input fails n)) ∙ l.input ∙ ap (λ (m : Machine). m.input) (runs_alike q q' e input fails n);
      };
}
