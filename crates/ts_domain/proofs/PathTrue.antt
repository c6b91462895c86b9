-- Each path fact that doesn't fail at a node is true of every machine that a run meets there.
use Rattle.std.proofs.Common.{◌≡◌, ℕ, ◌<◌, Bool, true, false, List, slice_get, length, Option, Some, None, option_map, refl, ap, sym, subst, ◌∙◌, arith}
use Rattle.std.specs.Prelude.{unwrap_or, nat_lt, if◌then◌else◌}
use Rattle.std.specs.List.{Contains}
use Rattle.std.proofs.lemmas.Bool.{and_parts, ltb-true}
use Rattle.c_tree.specs.Typing.{has}
use Rattle.c_tree.specs.WellFormed.{IsWellFormed}
use Rattle.c_tree.specs.declared.program.Home.{Home}
use Rattle.c_tree.specs.declared.program.Home.TheVariants as home
use Rattle.c_tree.specs.declared.program.Program.{Program}
use Rattle.c_tree.specs.declared.program.Ty.{Ty}
use Rattle.c_tree.specs.declared.program.Ty.TheVariants as ty
use Rattle.c_tree.specs.declared.program.VarDef.{VarDef}
use Rattle.c_meaning.specs.declared.value.Value.TheVariants as value
use Rattle.c_meaning.specs.Machine.{Store, store_of, start, start_value}
use Rattle.call_contexts.specs.Contexts.{contexts}
use Rattle.c_graph.specs.declared.graph.Edge.{Edge}
use Rattle.c_graph.specs.declared.graph.Graph.{Graph}
use Rattle.c_graph.specs.Executes.{Executes, sites_over}
use Rattle.c_graph.specs.Laws.{IsKept, HoldsOrLost}
use Rattle.c_graph.specs.Met.{Met}
use Rattle.c_graph.specs.Moves.{At}
use Rattle.c_graph.specs.Nodes.{graph}
use Rattle.c_graph.proofs.Kept.{met_holds}
use Rattle.ts_domain.specs.declared.fact.Fact.{Fact}
use Rattle.ts_domain.specs.declared.fact.Fact.TheVariants.{Ready, Full, Filled, Equal, Apart}
use Rattle.ts_domain.specs.declared.names.Names.{Names}
use Rattle.ts_domain.specs.Deeds.{edge_deeds}
use Rattle.ts_domain.specs.declared.before.Before.{Before}
use Rattle.ts_domain.specs.declared.before.Before.TheVariants.{Always, Never, Where}
use Rattle.ts_domain.specs.Facts.{is_fact}
use Rattle.ts_domain.specs.Path.{Reached, here, along, is_global_home, is_global, same_bool, true_at_start, before_edge, Fails, starts, never, back}
use Rattle.ts_domain.specs.Pointers.{is_pointer, has_home}
use Rattle.ts_domain.specs.Truth.{IsTrueOf, IsTrueBefore}
use Rattle.ts_domain.specs.TypedMachines.{IsTyped}
use Rattle.ts_domain.specs.Views.{AreNames, View, view_of, slot_seen, pointing, first_seen}
use Rattle.ts_domain.proofs.Answers.{same_is}
use Rattle.ts_domain.proofs.FactsTrue.{IsFactBefore, deeds_fact, deeds_true}
use Rattle.ts_domain.proofs.Frees.{HasSame, same_typed}
use Rattle.ts_domain.proofs.NameLaws.{has_places, low_fields, missing_within}
use Rattle.ts_domain.proofs.Stores.{same_view}
use Rattle.ts_domain.proofs.TypedRuns.{start_slot, start_typed, fault_same, executed_goes}

-- a fact that doesn't fail is true
abbrev pub AreTrueAt : Names → Graph → ℕ → View → Type 0
AreTrueAt n g v w = (f : Fact) → is_fact n f ≡ true → (Fails n g v f → ⊥) → IsTrueOf n w f

-- the start

start_pointer : (t : Ty) (h : Home) → is_pointer t ≡ true → pointing (start_value t h) ≡ (if is_global_home h then value.Null else value.Undef)
start_pointer ty.Int h points = absurd cc
start_pointer ty.IntPtr (home.Global m) points = refl
start_pointer (ty.StructPtr c) (home.Global m) points = refl
start_pointer ty.IntPtr (home.Param f) points = refl
start_pointer (ty.StructPtr c) (home.Param f) points = refl
start_pointer ty.IntPtr (home.Local f) points = refl
start_pointer (ty.StructPtr c) (home.Local f) points = refl
start_pointer ty.IntPtr (home.Result f) points = refl
start_pointer (ty.StructPtr c) (home.Result f) points = refl

both_false : (b : Bool) → (b ≡ false → ⊥) → b ≡ true
both_false true h = refl
both_false false h = absurd (h refl)

module _ (p : Program) (g : Graph) (n : Names) (names : AreNames p g n) (input : List ℕ) (fails : List Bool) where
  abbrev start_view : View
  start_view = view_of n (store_of (start p input fails))

  -- pointer variables of the file begin as null pointers, all others are indeterminate
  start_seen : (k : ℕ) → k < length n.vars → start_view.slot k ≡ (if is_global n k then value.Null else value.Undef)
  start_seen k low = by_var (slice_get n.vars k) refl
    where
      by_decl : (x : ℕ) (o : Option VarDef) (t : Ty) → slice_get n.decls x ≡ o → option_map (λ (v : VarDef). v.ty) o ≡ Some t → is_pointer t ≡ true →
          pointing (unwrap_or (option_map (λ (v : VarDef). start_value v.ty v.home) o) value.Undef) ≡ (if has (λ (v : VarDef). is_global_home v.home) o then value.Null else value.Undef)
      by_decl x None t at typed points = absurd cc
      by_decl x (Some v) t at typed points = let same : v.ty ≡ t = cc in start_pointer v.ty v.home (ap is_pointer same ∙ points)

      by_var : (o : Option ℕ) → slice_get n.vars k ≡ o → slot_seen (store_of (start p input fails)) o ≡ (if has (has_home n is_global_home) o then value.Null else value.Undef)
      by_var None at = absurd (missing_within n.vars k low at)
      by_var (Some x) at =
          let it = (has_places p g n names).pointers k x at in
          ap pointing (start_slot p g n names.decls input fails x) ∙ by_decl x (slice_get n.decls x) it.0 refl it.1 it.2

  pub no_object : (k o : ℕ) → k < length n.vars → start_view.slot k ≡ value.Ptr o → ⊥
  no_object k o low h = by_global (is_global n k) (sym (start_seen k low) ∙ h)
    where
      by_global : (b : Bool) → (if b then value.Null else value.Undef) ≡ value.Ptr o → ⊥
      by_global true e = absurd cc
      by_global false e = absurd cc

  lows : (x y : ℕ) → is_fact n (Equal x y) ≡ true → (x < length n.vars) × (y < length n.vars)
  lows x y h =
      let both = and_parts (nat_lt x y) (nat_lt y (length n.vars)) h in
      let order : x < y = ltb-true x y both.0 in
      let below : y < length n.vars = ltb-true y (length n.vars) both.1 in
      (omega arith, below)

  equal_globals : (a b : Bool) → same_bool a b ≡ true → (if a then value.Null else value.Undef) ≡ (if b then value.Null else value.Undef)
  equal_globals true true h = refl
  equal_globals false false h = refl
  equal_globals true false h = absurd cc
  equal_globals false true h = absurd cc

  start_true : (f : Fact) → is_fact n f ≡ true → true_at_start n f ≡ true → IsTrueOf n start_view f
  start_true (Ready x) fact h = λ undef. let e : value.Null ≡ value.Undef = sym (ap (λ (b : Bool). if b then value.Null else value.Undef) h) ∙ sym (start_seen x (ltb-true x (length n.vars) fact)) ∙ undef in absurd cc
  start_true (Full x) fact h = absurd cc
  start_true (Filled j) fact h = λ q o there holds undef. no_object q.0 o (low_fields p g n names j q there) holds
  start_true (Equal x y) fact h = let low = lows x y fact in start_seen x low.0 ∙ equal_globals (is_global n x) (is_global n y) h ∙ sym (start_seen y low.1)
  start_true (Apart x y) fact h = λ o one two. let low = lows x y fact in no_object x o low.0 one

  pub all_true_at_start : AreTrueAt n g 0 start_view
  all_true_at_start f fact holds = start_true f fact (both_false (true_at_start n f) (λ isnt. holds (starts f isnt)))

-- runs

module _ (p : Program) (w : IsWellFormed p) (n : Names) (names : AreNames p (graph p (contexts p)) n) (input : List ℕ) (fails : List Bool) where
  abbrev pub TrueOfRuns : ℕ → Store → List ℕ → Type 0
  TrueOfRuns v s sites = IsTyped n (graph p (contexts p)) sites s × Reached (graph p (contexts p)) v × AreTrueAt n (graph p (contexts p)) v (view_of n s)

  over_edge : (e : Edge) (s t : Store) (sites : List ℕ) → Contains (graph p (contexts p)).edges e → Executes p (graph p (contexts p)) e s t → TrueOfRuns e.from s sites → TrueOfRuns e.to t (sites_over e sites)
  over_edge e s t sites among executes h =
      let g = graph p (contexts p) in
      let goes = executed_goes p w n names e s t sites among executes h.0 in
      let places = has_places p g n names in (
        goes.1,
        along e among h.1,
        λ f fact holds.
            subst (λ (x : View). IsTrueOf n x f) (same_is goes.0.2)
            (deeds_true n g (sites_over e sites) (edge_deeds n g e) (first_seen (view_of n s)) goes.0.0 f places (low_fields p g n names) fact goes.0.1
            (before (before_edge n g e f) f refl (deeds_fact n (edge_deeds n g e) f places fact) holds)),
      )
    where
      before : (b : Before) (f : Fact) → before_edge n (graph p (contexts p)) e f ≡ b → IsFactBefore n b → (Fails n (graph p (contexts p)) e.to f → ⊥) → IsTrueBefore n (view_of n s) b
      before Always f is fact holds = tt
      before Never f is fact holds = holds (never e f among h.1 is)
      before (Where earlier) f is fact holds = h.2 earlier fact (λ failed. holds (back e f earlier among h.1 is failed))

  same_true : (v : ℕ) (s t : Store) → HasSame s t → AreTrueAt n (graph p (contexts p)) v (view_of n s) → AreTrueAt n (graph p (contexts p)) v (view_of n t)
  same_true v s t a h = subst (λ (x : View). AreTrueAt n (graph p (contexts p)) v x) (same_is (same_view n s t (λ l. ap pointing (sym (a.contents l))))) h

  pub true_kept : IsKept p input fails TrueOfRuns
  true_kept = record {
    starts = (start_typed p (graph p (contexts p)) n names.decls input fails, here, all_true_at_start p (graph p (contexts p)) n names input fails);
    begins = λ v s sites going h. (same_typed n (graph p (contexts p)) sites (record { contents = λ l. refl; slots = refl; objects = refl }) h.0, h.1, h.2);
    goes = λ e s t sites among going executes h. over_edge e s t sites among executes h;
    faults = λ v node s t sites at going fault h. (same_typed n (graph p (contexts p)) sites (fault_same fault) h.0, h.1, same_true v s t (fault_same fault) h.2);
  }

  -- what a run meets is typed, at a node that is reached, and all facts that don't fail there are true of it, until control is lost
  pub true_at : {x : At Store} {sites : List ℕ} → Met p input fails x sites → HoldsOrLost p TrueOfRuns x sites
  true_at met = met_holds p w input fails TrueOfRuns true_kept met
