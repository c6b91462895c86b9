-- Runs of two programs that differ in their frees alone go together and differ in the marks "freed" alone,
-- until one of them meets a fault that a free raises or causes; so a safe one does what the other does.
use Rattle.std.proofs.Common.{◌≡◌, ℕ, zero, suc, Bool, true, false, true≢false, List, [], ◌∷◌, Result, Ok, Err, refl, ap, sym, subst, ◌∙◌}
use Rattle.std.specs.Prelude.{if◌then◌else◌}
use Rattle.c_tree.specs.Alike.{bare, IsAlike}
use Rattle.c_tree.specs.Fill.{skeleton, fill}
use Rattle.c_tree.proofs.Fills.{skeleton_fill}
use Rattle.c_tree.proofs.Alikes.{alike_skeletons}
use Rattle.c_tree.specs.declared.choice.Choice.{Choice}
use Rattle.c_tree.specs.declared.expr.Expr.{out-Expr}
use Rattle.c_tree.specs.declared.program.Free.{Free}
use Rattle.c_tree.specs.declared.program.Program.{Program}
use Rattle.c_meaning.specs.declared.value.Value.{Value}
use Rattle.c_meaning.specs.declared.value.Value.TheVariants as value
use Rattle.c_meaning.specs.declared.machine.Object.{Object}
use Rattle.c_meaning.specs.declared.machine.Kind.{Kind}
use Rattle.c_meaning.specs.declared.machine.Kind.TheVariants.{Uninit, UseAfterFree, DoubleFree}
use Rattle.c_meaning.specs.declared.machine.Stop.{Stop}
use Rattle.c_meaning.specs.declared.machine.Stop.TheVariants.{Faulted, Excluded}
use Rattle.c_meaning.specs.declared.machine.Ending.{Ending}
use Rattle.c_meaning.specs.declared.machine.Ending.TheVariants.{Fault}
use Rattle.c_meaning.specs.Eval.{is_freed, offset_of}
use Rattle.c_meaning.specs.Machine.{Store, altered, marked_freed}
use Rattle.c_meaning.specs.Effects.{freed_layer, freed_once, freed_value, freed_result, freed, is_over, all_freed}
use Rattle.c_meaning.specs.Step.{State, state_of}
use Rattle.c_meaning.specs.Safe.{run, AreBytes, Safe, Same, IsFault}
use Rattle.c_meaning.proofs.Outlines.{skeletons_correspond, skeleton_corresponds}
use Rattle.c_meaning.proofs.Together.{Together, alike, left_met, right_met, AtOnePlace, standing}
use Rattle.c_meaning.proofs.Agree.{ObjectsAgree, no_objects, one_more}
use Rattle.c_meaning.proofs.StoresAgree.{bare_ending, StoresAgree, agreeing}
use Rattle.c_meaning.proofs.Runs.{Sides, runs_meet}
use Rattle.c_meaning.proofs.AlikeRuns.{fault_same, sound_same}

-- the faults that a free raises or causes: any in a free, a use of a freed object, a double free
pub data IsFreeFault : Ending → Type 0 where
  stale : (offset : ℕ) (by_free : Bool) → IsFreeFault (Fault UseAfterFree offset by_free)
  double : (offset : ℕ) (by_free : Bool) → IsFreeFault (Fault DoubleFree offset by_free)
  in_free : (kind : Kind) (offset : ℕ) → IsFreeFault (Fault kind offset true)

-- a store whose run has ended by one
abbrev pub MetFree : Store → Type 0
MetFree s = IsFreeFault s.ending

free_over : (e : Ending) → IsFreeFault e → is_over e ≡ true
free_over _ (stale offset by_free) = refl
free_over _ (double offset by_free) = refl
free_over _ (in_free kind offset) = refl

abbrev pub Any : Bool → Bool → Type 0
Any b c = Unit {0}

abbrev pub NeverFreed : Bool → Bool → Type 0
NeverFreed b c = b ≡ false

-- stores that agree, from one to the next

module _ (M N P : Bool → Bool → Type 0) (join : (a b c : Bool) → M a b → N b c → P a c) where
  objects_on : {xs ys zs : List Object} → ObjectsAgree M xs ys → ObjectsAgree N ys zs → ObjectsAgree P xs zs
  objects_on no_objects no_objects = no_objects
  objects_on (one_more {a = a} {b = b} c m h) (one_more {b = d} e n g) = one_more (c ∙ e) (join a.freed b.freed d.freed m n) (objects_on h g)

  agree_on : {s t u : Store} → StoresAgree M s t → StoresAgree N t u → StoresAgree P s u
  agree_on (agreeing s others ending h e) (agreeing _ more last g f) = agreeing s more last (objects_on h g) (e ∙ f)

objects_back : {objects others : List Object} → ObjectsAgree Any objects others → ObjectsAgree Any others objects
objects_back no_objects = no_objects
objects_back (one_more c m h) = one_more (sym c) tt (objects_back h)

agree_back : {s t : Store} → StoresAgree Any s t → StoresAgree Any t s
agree_back (agreeing s others ending h e) = agreeing (record s { objects = others; ending = ending }) s.objects s.ending (objects_back h) (sym e)

objects_themselves : (objects : List Object) → ObjectsAgree Any objects objects
objects_themselves [] = no_objects
objects_themselves (o ∷ objects) = one_more refl tt (objects_themselves objects)

agree_itself : (s : Store) → StoresAgree Any s s
agree_itself s = agreeing s s.objects s.ending (objects_themselves s.objects) refl

objects_freed : (o : ℕ) (objects : List Object) → ObjectsAgree Any objects (altered marked_freed o objects)
objects_freed o [] = no_objects
objects_freed zero (b ∷ objects) = one_more refl tt (objects_themselves objects)
objects_freed (suc o) (b ∷ objects) = one_more refl tt (objects_freed o objects)

-- the frees of a gap change marks alone, or raise a fault

abbrev Nothing : Store → Type 0
Nothing s = ⊥

abbrev Freed : Store → Store → Type 0
Freed = Together (StoresAgree Any) Nothing MetFree

once_freed : (word o : ℕ) (b : Bool) (s : Store) → Freed s (freed_once word o b s)
once_freed word o true s = right_met (double word true)
once_freed word o false s = alike (agreeing s (altered marked_freed o s.objects) s.ending (objects_freed o s.objects) refl)

value_freed : (word offset : ℕ) (v : Value) (s : Store) → Freed s (freed_value word offset v s)
value_freed word offset value.Undef s = right_met (in_free Uninit offset)
value_freed word offset (value.Int n) s = alike (agree_itself s)
value_freed word offset value.Null s = alike (agree_itself s)
value_freed word offset (value.Ptr o) s = once_freed word o (is_freed s.objects o) s

result_freed : (word offset : ℕ) (r : Result Value Stop) (s : Store) → Freed s (freed_result word offset r s)
result_freed word offset (Ok v) s = value_freed word offset v s
result_freed word offset (Err (Faulted kind at)) s = right_met (in_free kind at)
result_freed word offset (Err Excluded) s = alike (agree_itself s)

free_freed : (f : Free) (s : Store) → Freed s (freed f s)
free_freed f s = result_freed f.start (offset_of f.expr) (freed_layer s f.expr (out-Expr f.expr)) s

freed_on : {s t u : Store} → StoresAgree Any s t → Freed t u → Freed s u
freed_on d (alike g) = alike (agree_on Any Any Any (λ a b c m n. tt) d g)
freed_on d (left_met h) = absurd h
freed_on d (right_met h) = right_met h

unless_freed : {s t u : Store} (b : Bool) → Freed s t → Freed s u → Freed s (if b then t else u)
unless_freed true h g = h
unless_freed false h g = g

then_freed : {s t : Store} (rest : Store → Store) → Freed t (rest t) → Freed s t → Freed s (if is_over t.ending then t else rest t)
then_freed {s} {t} rest h (alike d) = unless_freed (is_over t.ending) (alike d) (freed_on d h)
then_freed {s} {t} rest h (left_met l) = absurd l
then_freed {s} {t} rest h (right_met l) = subst (λ (b : Bool). Freed s (if b then t else rest t)) (sym (free_over t.ending l)) (right_met l)

pub frees_freed : (fs : List Free) (s : Store) → Freed s (all_freed fs s)
frees_freed [] s = alike (agree_itself s)
frees_freed (f ∷ fs) s = then_freed (all_freed fs) (frees_freed fs (freed f s)) (free_freed f s)

-- two programs with one skeleton

both_freed : {s t u v : Store} → StoresAgree Any s t → Freed s u → Freed t v → Together (StoresAgree Any) MetFree MetFree u v
both_freed d (alike g) (alike h) = alike (agree_on Any Any Any (λ a b c m n. tt) (agree_back g) (agree_on Any Any Any (λ a b c m n. tt) d h))
both_freed d (right_met l) h = left_met l
both_freed d (left_met l) h = absurd l
both_freed d (alike g) (right_met l) = right_met l
both_freed d (alike g) (left_met l) = absurd l

apart_sides : Sides (λ f g. f.number ≡ g.number) Any MetFree MetFree
apart_sides = record {
  fresh = tt;
  left_over = λ s h. free_over s.ending h;
  right_over = λ s h. free_over s.ending h;
  left_reads = λ offset s h. stale offset false;
  right_reads = λ offset s h. stale offset false;
  freed = λ f g s t same d. both_freed d (frees_freed f.frees s) (frees_freed g.frees t);
}

-- two programs whose skeletons are alike go together: their machines differ in marks and offsets alone,
-- until one of them meets a fault that a free raises or causes
pub runs_apart : (p q : Program) → IsAlike (skeleton p) (skeleton q) → (input : List ℕ) (fails : List Bool) (n : ℕ) →
    Together (AtOnePlace (StoresAgree Any)) (λ x. MetFree x.store) (λ y. MetFree y.store) (state_of (run p input fails n)) (state_of (run q input fails n))
runs_apart p q e = runs_meet apart_sides p q (skeletons_correspond p q e)

-- a program and its skeleton

alone_freed : {s t u : Store} → StoresAgree NeverFreed s t → Freed t u → Together (StoresAgree NeverFreed) Nothing MetFree s u
alone_freed d (alike g) = alike (agree_on NeverFreed Any NeverFreed (λ a b c m n. m) d g)
alone_freed d (left_met l) = absurd l
alone_freed d (right_met l) = right_met l

skeleton_sides : Sides (λ f g. f.frees ≡ []) NeverFreed Nothing MetFree
skeleton_sides = record {
  fresh = refl;
  left_over = λ s h. absurd h;
  right_over = λ s h. free_over s.ending h;
  left_reads = λ offset s h. absurd (true≢false h);
  right_reads = λ offset s h. stale offset false;
  freed = λ f g s t same d. subst (λ (fs : List Free). Together (StoresAgree NeverFreed) Nothing MetFree (all_freed fs s) (all_freed g.frees t)) (sym same) (alone_freed d (frees_freed g.frees t));
}

-- a run of a skeleton frees nothing, and that of the program differs from it in marks and offsets alone, until
-- it meets a fault that a free raises or causes
pub skeleton_runs : (q : Program) (input : List ℕ) (fails : List Bool) (n : ℕ) →
    Together (AtOnePlace (StoresAgree NeverFreed)) (λ x. ⊥) (λ y. MetFree y.store) (state_of (run (skeleton q) input fails n)) (state_of (run q input fails n))
skeleton_runs q = runs_meet skeleton_sides (skeleton q) q (skeleton_corresponds q)

-- from Safe to Same

free_is_fault : (e : Ending) → IsFreeFault e → IsFault e
free_is_fault _ (stale offset by_free) = tt
free_is_fault _ (double offset by_free) = tt
free_is_fault _ (in_free kind offset) = tt

safe_meets_none : (q : Program) → Safe q → (input : List ℕ) (fails : List Bool) (n : ℕ) → AreBytes input → (e : Ending) → (run q input fails n).ending ≡ e → IsFreeFault e → ⊥
safe_meets_none q safe input fails n bytes e h (stale offset by_free) = safe.no_use_after_free input fails n bytes offset by_free h
safe_meets_none q safe input fails n bytes e h (double offset by_free) = safe.no_double_free input fails n bytes offset by_free h
safe_meets_none q safe input fails n bytes e h (in_free kind offset) = safe.no_fault_by_free input fails n bytes kind offset h

-- what two states that go together look like where there is no fault on the left, and none by a free on the right
record Alikeness (x y : State Store) : Type 0 where
  pub ending : bare_ending x.store.ending ≡ bare_ending y.store.ending
  pub output : x.store.output ≡ y.store.output
  pub input : x.store.input ≡ y.store.input

stores_look : {x y : State Store} → AtOnePlace (StoresAgree Any) x y → Alikeness x y
stores_look (standing fs (agreeing s others ending h e)) = record { ending = e; output = refl; input = refl }

states_look : {x y : State Store} → Together (AtOnePlace (StoresAgree Any)) (λ x. MetFree x.store) (λ y. MetFree y.store) x y → (IsFault x.store.ending → ⊥) → (IsFreeFault y.store.ending → ⊥) → Alikeness x y
states_look (alike d) sound safe = stores_look d
states_look {x} (left_met l) sound safe = absurd (sound (free_is_fault x.store.ending l))
states_look (right_met l) sound safe = absurd (safe l)

module _ (p q : Program) (one : IsAlike (skeleton p) (skeleton q)) (safe : Safe q) where
  looks : (input : List ℕ) (fails : List Bool) (n : ℕ) → AreBytes input → (IsFault (run p input fails n).ending → ⊥) → Alikeness (state_of (run p input fails n)) (state_of (run q input fails n))
  looks input fails n bytes sound = states_look (runs_apart p q one input fails n) sound (safe_meets_none q safe input fails n bytes (run q input fails n).ending refl)

  -- a safe program does the same as each program that differs from it in frees and offsets alone
  pub same_outline : Same p q
  same_outline = record {
    no_fault = λ input fails n bytes sound h. sound (fault_same _ _ (sym (looks input fails n bytes sound).ending) h);
    alike = λ input fails n bytes sound.
        let l = looks input fails n bytes sound in
        record { ending = sound_same _ _ l.ending sound; output = l.output; input = l.input };
  }

-- a safe program does the same as each program of its skeleton
pub same_skeleton : (p q : Program) → skeleton p ≡ skeleton q → Safe q → Same p q
same_skeleton p q e = same_outline p q (ap bare e)

-- a program filled safely does what it did before
pub same_fill : (p : Program) (s : Choice) → Safe (fill p s) → Same p (fill p s)
same_fill p s = same_skeleton p (fill p s) (sym (skeleton_fill p s))

-- a safe program that is alike to a fill of p does the same as p
pub same_repair : (p q : Program) (s : Choice) → IsAlike q (fill p s) → Safe q → Same p q
same_repair p q s e = same_outline p q (sym (alike_skeletons q (fill p s) e ∙ ap bare (skeleton_fill p s)))
