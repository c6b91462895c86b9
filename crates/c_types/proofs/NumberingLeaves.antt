-- The numbers of gaps and of variables, as a walk over a block gives them.
use Rattle.std.proofs.Common.{◌≡◌, ℕ, suc, ◌+◌, Bool, false, List, [], ◌∷◌, ◌++◌, length, map, Option, Some, None, refl, sym, ap, subst, ◌∙◌, arith, length-append}
use Rattle.std.specs.List.{range_with_len}
use Rattle.c_tree.specs.declared.program.Block.{Block as MadeBlock}
use Rattle.c_tree.specs.declared.program.Call.{Call as MadeCall}
use Rattle.c_tree.specs.declared.program.Declr.{Declr as MadeDeclr}
use Rattle.c_tree.specs.declared.program.Home.{Home}
use Rattle.c_tree.specs.declared.program.Home.TheVariants as home
use Rattle.c_tree.specs.declared.program.Right.{Right as MadeRight}
use Rattle.c_tree.specs.declared.program.VarDef.{VarDef}
use Rattle.c_tree.specs.declared.tree.Block.{Block}
use Rattle.c_tree.specs.declared.tree.Call.{Call}
use Rattle.c_tree.specs.declared.tree.Call.TheVariants as call
use Rattle.c_tree.specs.declared.tree.Declr.{Declr}
use Rattle.c_tree.specs.declared.tree.Right.{Right}
use Rattle.c_tree.specs.declared.tree.Right.TheVariants as right
use Rattle.c_tree.specs.declared.tree.Simple.{Simple}
use Rattle.c_tree.specs.declared.tree.Spec.{Spec}
use Rattle.c_tree.specs.declared.tree.Word.{Word}
use Rattle.c_types.specs.declared.faults.Fault.{Fault}
use Rattle.c_types.specs.declared.judged.Called.{Called}
use Rattle.c_types.specs.declared.judged.Judged.{Judged}
use Rattle.c_types.specs.declared.judged.Judged.TheVariants.{Typed, Broken}
use Rattle.c_types.specs.declared.scope.Entry.{Entry}
use Rattle.c_types.specs.declared.scope.Nesting.{Nesting}
use Rattle.c_types.specs.declared.scope.Returned.{Returned}
use Rattle.c_types.specs.declared.scope.Scope.{Scope}
use Rattle.c_types.specs.declared.scope.Walk.{Walk}
use Rattle.c_types.specs.declared.scope.Written.{Written}
use Rattle.c_types.specs.Blocks.{walked_block}
use Rattle.c_types.specs.Calls.{user_call, counted, requested, walked_call}
use Rattle.c_types.specs.Expressions.{judged}
use Rattle.c_types.specs.Scopes.{noted, with_scope, named_by, named_if, named_any, variable_meaning, var_of, with_var, variable_named, declared, spec_type, type_faults}
use Rattle.c_types.specs.Statements.{walked_right, assigned, walked_simple, initial, walked_initial, declr_behind, walked_declr, returned_value, bare_return, walked_return, call_item, walked_do}
use Rattle.c_types.specs.Tables.{found}
use Rattle.c_types.proofs.Numbering.{Numbering, Numbers, Keeps, Gives, of_any, in_item, in_block, in_do, in_declare, in_return, first_empty, keeps_all, keeps_both, gives_none, gives_both, gives_to, gives_from, gives_as, block_numbers}

module _ (count : Walk → ℕ) (fault : (fs : List Fault) (w : Walk) → count (noted fs w) ≡ count w) (scope : (w : Walk) (s : Scope) → count (with_scope w s) ≡ count w) where
  pub noted_keeps : (fs : List Fault) (w : Walk) → Keeps count w (noted fs w)
  noted_keeps fs w = record { clean = first_empty w.faults fs; funs = refl; counted = fault fs w }

  pub scoped_keeps : (w : Walk) (s : Scope) → Keeps count w (with_scope w s)
  scoped_keeps w s = record { clean = λ h. h; funs = refl; counted = scope w s }

  -- names

  pub by_older : (n : Word) (e : Entry) (w : Walk) (o : Option Entry) → Keeps count w (named_by n e w o)
  by_older n e w None = scoped_keeps w _
  by_older n e w (Some older) = noted_keeps _ w

  by_name : (d : Spec) (e : Entry) (w : Walk) (o : Option Word) → Keeps count w (named_if d e w o)
  by_name d e w None = noted_keeps _ w
  by_name d e w (Some n) = by_older n e w (found w.scope.names n.text)

  pub name_keeps : (d : Spec) (depth : ℕ) (t : Written) (k : ℕ) (w : Walk) → Keeps count w (variable_named d depth t k w)
  name_keeps d depth t k w =
      keeps_both count w (noted (type_faults t) w) (variable_named d depth t k w) (noted_keeps (type_faults t) w)
      (by_name d (record { meaning = variable_meaning k t; depth = depth }) (noted (type_faults t) w) d.name)

  -- where calls aren't counted

  module _ (uncounted : (w : Walk) → count (record w { calls = w.calls + 1 }) ≡ count w) where
    counted_keeps : (j : Judged Called) (w : Walk) → Keeps count w (counted j w)
    counted_keeps (Typed c) w = record { clean = λ h. h; funs = refl; counted = uncounted w }
    counted_keeps (Broken fs) w = keeps_all count w

    call_keeps : (c : Call) (w : Walk) → Keeps count w (walked_call c w).0
    call_keeps (call.User n args close) w = counted_keeps (user_call w n args close) w
    call_keeps (call.Malloc cast size at) w = scoped_keeps w (requested cast size at w.scope).0
    call_keeps (call.Getchar at) w = keeps_all count w
    call_keeps (call.Putchar a at) w = keeps_all count w
    call_keeps (call.Printf text text_at args at close) w = keeps_all count w

    right_keeps : (r : Right) (w : Walk) → Keeps count w (walked_right r w).0
    right_keeps (right.Plain a) w = keeps_all count w
    right_keeps (right.Call c) w = call_keeps c w

    simple_keeps : (s : Simple) (w : Walk) → Keeps count w (walked_simple s w).0
    simple_keeps s w =
        let r = walked_right s.right w in
        keeps_both count w r.0 (walked_simple s w).0 (right_keeps s.right w) (noted_keeps (assigned s (judged w.scope s.place.expr false) r.1).faults r.0)

    initial_keeps : (t : Written) (at : ℕ) (o : Option Right) (w : Walk) → Keeps count w (walked_initial t at o w).0
    initial_keeps t at None w = keeps_all count w
    initial_keeps t at (Some r) w =
        let v = walked_right r w in
        keeps_both count w v.0 (walked_initial t at (Some r) w).0 (right_keeps r w) (noted_keeps (initial t at v.1).faults v.0)

    return_keeps : (t : Returned) (at : ℕ) (o : Option Right) (w : Walk) → Keeps count w (walked_return t at o w).0
    return_keeps t at None w = noted_keeps (bare_return t at) w
    return_keeps t at (Some r) w =
        let v = walked_right r w in
        keeps_both count w v.0 (walked_return t at (Some r) w).0 (right_keeps r w) (noted_keeps (returned_value t at v.1).faults v.0)

    do_keeps : (c : Call) (w : Walk) → Keeps count w (walked_do c w).0
    do_keeps c w =
        let r = walked_call c w in
        keeps_both count w r.0 (walked_do c w).0 (call_keeps c w) (noted_keeps (call_item r.1).faults r.0)

    -- no numbers in calls and returned values

    module _ (n : Numbering) (no_call : (c : MadeCall) → n.call c ≡ []) (no_right : (r : MadeRight) → n.right r ≡ []) where
      item_none : (j : Judged Called) → in_item n (call_item j).made ≡ []
      item_none (Typed c) = in_do n c.call ∙ no_call c.call
      item_none (Broken fs) = in_declare n []

      do_gives : (c : Call) (w : Walk) → Gives count w (walked_do c w).0 (in_item n (walked_do c w).1)
      do_gives c w = gives_as count w (walked_do c w).0 [] (in_item n (walked_do c w).1) (sym (item_none (walked_call c w).1)) (gives_none count w (walked_do c w).0 (do_keeps c w))

      any_none : (o : Option MadeRight) → of_any n.right o ≡ []
      any_none None = refl
      any_none (Some r) = no_right r

      return_none : (t : Returned) (at : ℕ) (o : Option Right) (w : Walk) → in_item n (walked_return t at o w).1 ≡ []
      return_none t at None w = in_return n None at
      return_none t at (Some r) w = in_return n (Some (returned_value t at (walked_right r w).1).made) at ∙ no_right (returned_value t at (walked_right r w).1).made

      return_gives : (t : Returned) (at : ℕ) (o : Option Right) (w : Walk) → Gives count w (walked_return t at o w).0 (in_item n (walked_return t at o w).1)
      return_gives t at o w = gives_as count w (walked_return t at o w).0 [] (in_item n (walked_return t at o w).1) (sym (return_none t at o w)) (gives_none count w (walked_return t at o w).0 (return_keeps t at o w))

-- gaps

abbrev pub gap_numbers : Numbering
gap_numbers = record { gap = λ g. g.number ∷ []; declr = λ d. []; simple = λ s. []; call = λ c. []; right = λ r. [] }

abbrev pub gap_count : Walk → ℕ
gap_count w = w.gaps

pub declared_gaps : (d : Spec) (h : Home) (depth : ℕ) (w : Walk) → Keeps gap_count w (declared d h depth w).0
declared_gaps d h depth w =
    let r = spec_type d w.scope in
    let v = with_var (var_of d r.1 h) (with_scope w r.0) in
    keeps_both gap_count w v (declared d h depth w).0 (record { clean = λ e. e; funs = refl; counted = refl }) (name_keeps gap_count (λ fs w. refl) (λ w s. refl) d depth r.1 (length w.vars) v)

pub gaps_lawful : Numbers gap_numbers gap_count
gaps_lawful = record {
  fault = λ fs w. refl;
  scope = λ w s. refl;
  gap = λ w frees. record { clean = λ h. h; funs = refl; numbers = λ h. refl; counted = λ h. refl };
  declr = λ p d w.
      let v = declared d.spec (home.Local p.function) p.depth w in
      gives_none gap_count w (walked_declr p d w).0 (keeps_both gap_count w v.0 (walked_declr p d w).0 (declared_gaps d.spec (home.Local p.function) p.depth w) (initial_keeps gap_count (λ fs w. refl) (λ w s. refl) (λ w. refl) v.1 d.at d.right v.0));
  simple = λ s w. gives_none gap_count w (walked_simple s w).0 (simple_keeps gap_count (λ fs w. refl) (λ w s. refl) (λ w. refl) s w);
  called = do_gives gap_count (λ fs w. refl) (λ w s. refl) (λ w. refl) gap_numbers (λ c. refl) (λ r. refl);
  returned = return_gives gap_count (λ fs w. refl) (λ w s. refl) (λ w. refl) gap_numbers (λ c. refl) (λ r. refl);
}

-- variables

abbrev pub var_numbers : Numbering
var_numbers = record { gap = λ g. []; declr = λ d. d.var ∷ []; simple = λ s. []; call = λ c. []; right = λ r. [] }

abbrev pub var_count : Walk → ℕ
var_count w = length w.vars

declared_vars : (d : Spec) (h : Home) (depth : ℕ) (w : Walk) → Gives var_count w (declared d h depth w).0 (length w.vars ∷ [])
declared_vars d h depth w =
    let r = spec_type d w.scope in
    let v = with_var (var_of d r.1 h) (with_scope w r.0) in
    let one : length (w.vars ++ var_of d r.1 h ∷ []) ≡ length w.vars + 1 = length-append w.vars (var_of d r.1 h ∷ []) in
    gives_to var_count w v (declared d h depth w).0 (length w.vars ∷ []) (record { clean = λ e. e; funs = refl; numbers = λ e. refl; counted = λ e. one })
    (name_keeps var_count (λ fs w. refl) (λ w s. refl) d depth r.1 (length w.vars) v)

pub vars_lawful : Numbers var_numbers var_count
vars_lawful = record {
  fault = λ fs w. refl;
  scope = λ w s. refl;
  gap = λ w frees. gives_none var_count w (record w { gaps = w.gaps + 1 }) (record { clean = λ h. h; funs = refl; counted = refl });
  declr = λ p d w.
      let v = declared d.spec (home.Local p.function) p.depth w in
      gives_to var_count w v.0 (walked_declr p d w).0 (length w.vars ∷ []) (declared_vars d.spec (home.Local p.function) p.depth w) (initial_keeps var_count (λ fs w. refl) (λ w s. refl) (λ w. refl) v.1 d.at d.right v.0);
  simple = λ s w. gives_none var_count w (walked_simple s w).0 (simple_keeps var_count (λ fs w. refl) (λ w s. refl) (λ w. refl) s w);
  called = do_gives var_count (λ fs w. refl) (λ w s. refl) (λ w. refl) var_numbers (λ c. refl) (λ r. refl);
  returned = return_gives var_count (λ fs w. refl) (λ w s. refl) (λ w. refl) var_numbers (λ c. refl) (λ r. refl);
}
