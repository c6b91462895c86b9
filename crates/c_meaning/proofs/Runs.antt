-- Runs of two programs that correspond, from what reads of freed objects and the frees of gaps come to.
use Rattle.std.proofs.Common.{◌≡◌, ℕ, zero, suc, Bool, true, false, List, [], ◌∷◌, map, None, refl, ap, sym, subst, ◌∙◌}
use Rattle.c_tree.specs.Alike.{bare_var}
use Rattle.c_tree.proofs.Fills.{map_joined}
use Rattle.c_tree.specs.declared.program.Gap.{Gap}
use Rattle.c_tree.specs.declared.program.VarDef.{VarDef}
use Rattle.c_tree.specs.declared.program.Program.{Program}
use Rattle.c_meaning.specs.declared.value.Value.{Value}
use Rattle.c_meaning.specs.declared.machine.Kind.TheVariants.{UseAfterFree}
use Rattle.c_meaning.specs.declared.machine.Stop.TheVariants.{Faulted}
use Rattle.c_meaning.specs.declared.machine.Ending.TheVariants.{Running}
use Rattle.c_meaning.specs.Machine.{Store, store_of, start_value, start, stopped}
use Rattle.c_meaning.specs.Effects.{is_over, all_freed}
use Rattle.c_meaning.specs.Step.{State, acts, counted, state_of}
use Rattle.c_meaning.specs.Safe.{run}
use Rattle.c_meaning.proofs.Outlines.{Correspond}
use Rattle.c_meaning.proofs.Together.{Together, alike, ActsMeet, AtOnePlace, standing, stepped_meets}
use Rattle.c_meaning.proofs.Agree.{no_objects}
use Rattle.c_meaning.proofs.StoresAgree.{StoresAgree, agreeing, over_agrees, effects_agree, back_agrees, ended_agrees}

-- what the frees of two gaps owe to two stores, and what ends a run on one side alone
pub record Sides (G : Gap → Gap → Type 0) (Marks : Bool → Bool → Type 0) (LeftMet RightMet : Store → Type 0) : Type 0 where
  -- the marks of two new objects
  pub fresh : Marks false false
  pub left_over : (s : Store) → LeftMet s → is_over s.ending ≡ true
  pub right_over : (s : Store) → RightMet s → is_over s.ending ≡ true
  pub left_reads : (offset : ℕ) (s : Store) → Marks true false → LeftMet (stopped (Faulted UseAfterFree offset) false s)
  pub right_reads : (offset : ℕ) (s : Store) → Marks false true → RightMet (stopped (Faulted UseAfterFree offset) false s)
  pub freed : (f g : Gap) (s t : Store) → G f g → StoresAgree Marks s t → Together (StoresAgree Marks) LeftMet RightMet (all_freed f.frees s) (all_freed g.frees t)

counted_agrees : (Marks : Bool → Bool → Type 0) {s t : Store} → StoresAgree Marks s t → StoresAgree Marks (counted s) (counted t)
counted_agrees Marks (agreeing s others ending h e) = agreeing (counted s) others ending h e

abbrev start_values : List VarDef → List Value
start_values vs = map (λ v. start_value v.ty v.home) vs

start_bare : (vs : List VarDef) → start_values (map bare_var vs) ≡ start_values vs
start_bare vs = map_joined (λ (v : VarDef). start_value v.ty v.home) bare_var (λ (v : VarDef). start_value v.ty v.home) (λ v. refl) vs

start_same : (vs ws : List VarDef) → map bare_var vs ≡ map bare_var ws → start_values vs ≡ start_values ws
start_same vs ws e = sym (start_bare vs) ∙ ap start_values e ∙ start_bare ws

module _ {G : Gap → Gap → Type 0} {Marks : Bool → Bool → Type 0} {LeftMet RightMet : Store → Type 0} (sides : Sides G Marks LeftMet RightMet) (p q : Program) (c : Correspond G p q) where
  acts_meet : ActsMeet G (acts p) (acts q) (StoresAgree Marks) LeftMet RightMet
  acts_meet = record {
    begun = λ s t g. counted_agrees Marks g;
    over = λ s t g. over_agrees Marks g;
    left_over = sides.left_over;
    right_over = sides.right_over;
    freed = sides.freed;
    effect = λ a b s t same g. effects_agree Marks sides.fresh G p q c LeftMet RightMet sides.left_reads sides.right_reads a b same g;
    back = λ f target v s t g. back_agrees Marks sides.fresh G p q c f target v g;
    ended = λ v s t g. ended_agrees Marks v g;
  }

  -- two states whose control stands at the same place, with stores that agree; or one of them has met what ends it
  abbrev pub RunsMeet : State Store → State Store → Type 0
  RunsMeet = Together (AtOnePlace (StoresAgree Marks)) (λ x. LeftMet x.store) (λ y. RightMet y.store)

  starts_same : (input : List ℕ) (fails : List Bool) → state_of (start p input fails) ≡ state_of (start q input fails)
  starts_same input fails =
      ap (λ (slots : List Value). state_of (record (start p input fails) { slots = slots })) (start_same p.vars q.vars c.vars)
      ∙ ap (λ (f : ℕ). state_of (record (start q input fails) { rest = record { fun = f; path = 0 ∷ []; target = None } ∷ [] })) c.main

  -- the runs of two programs that correspond go together
  pub runs_meet : (input : List ℕ) (fails : List Bool) (n : ℕ) → RunsMeet (state_of (run p input fails n)) (state_of (run q input fails n))
  runs_meet input fails zero =
      subst (λ (x : State Store). RunsMeet (state_of (start p input fails)) x) (starts_same input fails)
      (alike (standing (start p input fails).rest (agreeing (store_of (start p input fails)) [] Running no_objects refl)))
  runs_meet input fails (suc n) = stepped_meets G p q c (acts p) (acts q) (StoresAgree Marks) LeftMet RightMet acts_meet (runs_meet input fails n)
