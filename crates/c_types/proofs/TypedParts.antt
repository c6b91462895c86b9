-- The smallest parts of a block, walked at a place of a text without faults, have right types in the text's program.
use Rattle.std.proofs.Common.{◌≡◌, ℕ, Bool, true, false, ◌&&◌, ◌||◌, List, [], ◌∷◌, ◌++◌, length, map, Option, Some, None, option_map, refl, ap, subst, ◌∙◌}
use Rattle.std.specs.Prelude.{slice_get, nat_lt, if◌then◌else◌}
use Rattle.std.specs.List.{list_all}
use Rattle.std.proofs.lemmas.Bool.{and_parts}
use Rattle.c_tree.specs.Typing.{Declarations, has, if_any, var_type, fields_of, points as made_points, AnyPointer as MadeAny, sort_of, is_condition, value_fits, declr_fits, simple_fits, return_fits, free_fits, gap_fits}
use Rattle.c_tree.specs.declared.program.Home.{Home}
use Rattle.c_tree.specs.declared.program.Home.TheVariants as home
use Rattle.c_tree.specs.declared.program.Ty.{Ty}
use Rattle.c_tree.specs.declared.program.Ty.TheVariants as ty
use Rattle.c_tree.specs.declared.program.VarDef.{VarDef}
use Rattle.c_tree.specs.declared.tree.Declr.{Declr}
use Rattle.c_tree.specs.declared.tree.Expr.{Expr}
use Rattle.c_tree.specs.declared.tree.Free.{Free}
use Rattle.c_tree.specs.declared.tree.Gap.{Gap}
use Rattle.c_tree.specs.declared.tree.Right.{Right}
use Rattle.c_tree.specs.declared.tree.Simple.{Simple}
use Rattle.c_tree.specs.declared.tree.Spec.{Spec}
use Rattle.c_tree.specs.declared.tree.Word.{Word}
use Rattle.c_types.specs.declared.faults.Fault.{Fault}
use Rattle.c_types.specs.declared.faults.Rule.TheVariants as rule
use Rattle.c_types.specs.declared.judged.Callee.TheVariants as callee
use Rattle.c_types.specs.declared.judged.Judged.{Judged}
use Rattle.c_types.specs.declared.judged.Judged.TheVariants.{Typed, Broken}
use Rattle.c_types.specs.declared.judged.Sort.{Sort}
use Rattle.c_types.specs.declared.judged.Sort.TheVariants.{Of, AnyPointer}
use Rattle.c_types.specs.declared.judged.Value.{Value}
use Rattle.c_types.specs.declared.scope.Entry.{Entry}
use Rattle.c_types.specs.declared.scope.Meaning.{Meaning}
use Rattle.c_types.specs.declared.scope.Nesting.{Nesting}
use Rattle.c_types.specs.declared.scope.Returned.{Returned}
use Rattle.c_types.specs.declared.scope.Signature.{Signature}
use Rattle.c_types.specs.declared.scope.StructRow.{StructRow}
use Rattle.c_types.specs.declared.scope.Walk.{Walk}
use Rattle.c_types.specs.declared.scope.Written.{Written}
use Rattle.c_types.specs.declared.scope.Written.TheVariants.{Good, Bad}
use Rattle.c_types.specs.Blocks.{freed, free_of, walked_free, next_gap, walked_gap, walked_test}
use Rattle.c_types.specs.Calls.{callee_of}
use Rattle.c_types.specs.Expressions.{judged}
use Rattle.c_types.specs.Fits.{points, is_zero}
use Rattle.c_types.specs.Functions.{result_or_none}
use Rattle.c_types.specs.InTurn.{each}
use Rattle.c_types.specs.Judged.{faults_of, or_null}
use Rattle.c_types.specs.Offsets.{expr_stands, right_stands, declr_stands, simple_stands, free_stands, gap_stands}
use Rattle.c_types.specs.Program.{field_def}
use Rattle.c_types.specs.Scopes.{noted, named_by, named_if, or_int, variable_meaning, var_of, with_var, with_scope, declared, spec_type, type_faults}
use Rattle.c_types.specs.Statements.{walked_right, assigned, walked_simple, walked_initial, initial, walked_declr, returned_value}
use Rattle.c_types.specs.Tables.{found}
use Rattle.c_types.proofs.Headings.{clean_unless}
use Rattle.c_types.proofs.Growing.{note_grows, declared_grows, right_grows, simple_grows, initial_grows, gap_grows, test_grows}
use Rattle.c_types.proofs.Numbering.{first_empty}
use Rattle.c_types.proofs.NumberingCalls.{second_empty}
use Rattle.c_types.proofs.Rows.{get_last}
use Rattle.c_types.proofs.Standing.{type_in, type_more, Means, Standing, Grows, Onward, onward_both, grows_onward}
use Rattle.c_types.proofs.TypedExpressions.{made_sort, Stands, AllRight, pointer_sort, expr_right}
use Rattle.c_types.proofs.TypedCalls.{IsCallee, row_before}
use Rattle.c_types.proofs.TypedStatements.{AllValue, right_right, initial_right, IsGood, returned_right, simple_right}

-- a program's declarations are those at the end of the text; a body that has come is known at the offsets that are behind it
pub record Sees (d : Declarations) (behind : ℕ → Bool) (final : Walk) : Type 0 where
  pub vars : (n : ℕ) → var_type d n ≡ type_in final.vars n
  pub structs : (n : ℕ) (row : StructRow) (body at : ℕ) → slice_get final.scope.structs n ≡ Some row → row.body ≡ Some body → nat_lt body at ≡ true
      → fields_of d at n ≡ Some (map field_def row.fields)

-- at a place of a text: names stand for what they mean, and bodies so far stand before what is behind
pub record Ready (behind : ℕ → Bool) (w : Walk) : Type 0 where
  pub standing : Standing w
  pub bodies : (n : ℕ) (row : StructRow) (body at : ℕ) → slice_get w.scope.structs n ≡ Some row → row.body ≡ Some body → behind at ≡ true → nat_lt body at ≡ true

-- names that are declared

older_clean : (n : Word) (e : Entry) (w : Walk) (o : Option Entry) → (named_by n e w o).faults ≡ [] → w.faults ≡ []
older_clean n e w None h = h
older_clean n e w (Some older) h = first_empty w.faults _ h

named_clean : (d : Spec) (e : Entry) (w : Walk) (o : Option Word) → (named_if d e w o).faults ≡ [] → w.faults ≡ []
named_clean d e w None h = first_empty w.faults _ h
named_clean d e w (Some n) h = older_clean n e w (found w.scope.names n.text) h

older_vars : (n : Word) (e : Entry) (w : Walk) (o : Option Entry) → (named_by n e w o).vars ≡ w.vars
older_vars n e w None = refl
older_vars n e w (Some older) = refl

named_vars : (d : Spec) (e : Entry) (w : Walk) (o : Option Word) → (named_if d e w o).vars ≡ w.vars
named_vars d e w None = refl
named_vars d e w (Some n) = older_vars n e w (found w.scope.names n.text)

-- the type of a declared variable breaks no rule
pub declared_good : (d : Spec) (h : Home) (depth : ℕ) (w : Walk) → (declared d h depth w).0.faults ≡ [] → type_faults (declared d h depth w).1 ≡ []
declared_good d h depth w none =
    let r = spec_type d w.scope in
    let v = with_var (var_of d r.1 h) (with_scope w r.0) in
    second_empty w.faults (type_faults r.1) (named_clean d (record { meaning = variable_meaning (length w.vars) r.1; depth = depth }) (noted (type_faults r.1) v) d.name none)

pub declared_vars : (d : Spec) (h : Home) (depth : ℕ) (w : Walk) → (declared d h depth w).0.vars ≡ w.vars ++ var_of d (declared d h depth w).1 h ∷ []
declared_vars d h depth w =
    let r = spec_type d w.scope in
    let v = with_var (var_of d r.1 h) (with_scope w r.0) in
    named_vars d (record { meaning = variable_meaning (length w.vars) r.1; depth = depth }) (noted (type_faults r.1) v) d.name

module _ (behind : ℕ → Bool) where
  pub ready_on : (h : Home) (w u : Walk) → Grows h w u → Ready behind w → Ready behind u
  ready_on h w u g r = record {
    standing = g.stands r.standing;
    bodies = λ n row body at is b after.
        r.bodies n row body at (row_before w.scope.structs g.more_structs g.bodiless n row body (subst (λ (rows : List StructRow). slice_get rows n ≡ Some row) g.structs is) b) b after;
  }

-- behind a right side its faults are noted
pub noted_on : (final : Walk) (fs : List Fault) (w : Walk) → Onward (noted fs w) final → Onward w final
noted_on final fs w on = onward_both w (noted fs w) final (grows_onward (home.Local 0) w (noted fs w) (note_grows (home.Local 0) fs w)) on

module _ (behind : ℕ → Bool) (final : Walk) (clean : final.faults ≡ []) where
  -- the scope at a place of the text, in what the program declares
  pub stands_at : (d : Declarations) → Sees d behind final → (w : Walk) → Ready behind w → Onward w final → Stands d behind w.scope
  stands_at d sees w ready on = record {
    variables = λ name e n t is m.
        let here : type_in w.vars n ≡ Some t = subst (λ (x : Meaning). Means w.vars (length w.scope.structs) (length w.signatures) x) m (ready.standing.names name e is) in
        sees.vars n ∙ ap (λ (vs : List VarDef). type_in vs n) on.vars ∙ type_more w.vars on.more_vars n t here;
    structs = λ n row body at is b after. sees.structs n row body at (on.bodies clean n row body is b) b (ready.bodies n row body at is b after);
  }

  -- frees

  frees_clean : (fs : List Free) (w : Walk) → (each walked_free fs w).0.faults ≡ [] → w.faults ≡ []
  frees_clean [] w h = h
  frees_clean (f ∷ fs) w h = first_empty w.faults (free_of w.scope f).faults (frees_clean fs (walked_free f w).0 h)

  freed_right : (e : Declarations) (at : ℕ) (j : Judged Value) → AllRight e false j → (freed at j).faults ≡ [] → has made_points (sort_of e (freed at j).made) ≡ true
  freed_right e at (Broken fs) h none = absurd (h none)
  freed_right e at (Typed v) h none =
      ap (has made_points) (pointer_sort e v.expr v.sort h) ∙ by_sort (is_zero v.expr) v.sort (clean_unless (points v.sort || is_zero v.expr) rule.Operands at none)
    where
      by_sort : (z : Bool) (g : Sort) → (points g || z) ≡ true → made_points (if z then MadeAny else made_sort g) ≡ true
      by_sort true g h = refl
      by_sort false (Of ty.Int) h = absurd cc
      by_sort false (Of ty.IntPtr) h = refl
      by_sort false (Of (ty.StructPtr n)) h = refl
      by_sort false AnyPointer h = refl

  frees_right : (e : Declarations) (fs : List Free) (w : Walk) → Stands e behind w.scope → list_all (free_stands behind) fs ≡ true → (each walked_free fs w).0.faults ≡ []
      → list_all (free_fits e) (each walked_free fs w).1 ≡ true
  frees_right e [] w here h none = refl
  frees_right e (f ∷ fs) w here h none =
      let parts = and_parts (free_stands behind f) (list_all (free_stands behind) fs) h in
      let u = (walked_free f w).0 in
      let first : (free_of w.scope f).faults ≡ [] = second_empty w.faults (free_of w.scope f).faults (frees_clean fs u none) in
      ap (λ (b : Bool). b && list_all (free_fits e) (each walked_free fs u).1)
      (freed_right e f.start (judged w.scope f.expr.expr false) (expr_right e behind w.scope here f.expr.expr parts.0 false) first)
      ∙ frees_right e fs u here parts.1 none

  pub gap_right : (e : Declarations) → Sees e behind final → (g : Gap) (w : Walk) → gap_stands behind g ≡ true → Ready behind w → Onward (walked_gap g w).0 final
      → gap_fits e (walked_gap g w).1 ≡ true
  gap_right e sees g w h ready on =
      let before = onward_both w (walked_gap g w).0 final (grows_onward (home.Local 0) w (walked_gap g w).0 (gap_grows (home.Local 0) g w)) on in
      frees_right e g.frees (next_gap w).0 (stands_at e sees w ready before) h (on.clean clean)

  module _ (d : Declarations) (sees : Sees d behind final)
      (callees : (w : Walk) → Onward w final → (n : Word) (f k : ℕ) (g : Signature) → callee_of w n ≡ callee.Defined f k → slice_get w.signatures k ≡ Some g → IsCallee d f g) where
    -- conditions

    test_by : (j : Judged Value) → AllRight d true j → faults_of j ≡ [] → is_condition d (or_null j) ≡ true
    test_by (Typed v) h none = h.condition
    test_by (Broken fs) h none = absurd (h none)

    pub test_right : (e : Expr) (w : Walk) → expr_stands behind e ≡ true → Ready behind w → Onward (walked_test e w).0 final → is_condition d (walked_test e w).1 ≡ true
    test_right e w h ready on =
        let before = onward_both w (walked_test e w).0 final (grows_onward (home.Local 0) w (walked_test e w).0 (test_grows (home.Local 0) e w)) on in
        let j = judged w.scope e true in
        test_by j (expr_right d behind w.scope (stands_at d sees w ready before) e h true) (second_empty w.faults (faults_of j) (on.clean clean))

    -- right sides

    value_right : (r : Right) (w : Walk) → right_stands behind r ≡ true → Ready behind w → Onward (walked_right r w).0 final → AllValue d (walked_right r w).1
    value_right r w h ready on =
        let before = onward_both w (walked_right r w).0 final (grows_onward (home.Local 0) w (walked_right r w).0 (right_grows (home.Local 0) r w)) on in
        right_right d behind w (stands_at d sees w ready before) (callees w before) r h

    pub assignment_right : (s : Simple) (w : Walk) → simple_stands behind s ≡ true → Ready behind w → Onward (walked_simple s w).0 final → simple_fits d (walked_simple s w).1 ≡ true
    assignment_right s w h ready on =
        let parts = and_parts (expr_stands behind s.place.expr) (right_stands behind s.right) h in
        let before = onward_both w (walked_simple s w).0 final (grows_onward (home.Local 0) w (walked_simple s w).0 (simple_grows (home.Local 0) s w)) on in
        let r = walked_right s.right w in
        let p = judged w.scope s.place.expr false in
        let fs = (assigned s p r.1).faults in
        simple_right d s p r.1 (expr_right d behind w.scope (stands_at d sees w ready before) s.place.expr parts.0 false)
        (value_right s.right w parts.1 ready (noted_on final fs r.0 on)) (second_empty r.0.faults fs (on.clean clean))

    -- declarators

    initialiser_right : (t : Ty) (at : ℕ) (o : Option Right) (w : Walk) → if_any (right_stands behind) o ≡ true → Ready behind w → Onward (walked_initial (Good t) at o w).0 final
        → if_any (value_fits d t) (walked_initial (Good t) at o w).1 ≡ true
    initialiser_right t at None w h ready on = refl
    initialiser_right t at (Some r) w h ready on =
        let v = walked_right r w in
        let fs = (initial (Good t) at v.1).faults in
        initial_right d t at v.1 (value_right r w h ready (noted_on final fs v.0 on)) (second_empty v.0.faults fs (on.clean clean))

    pub declarator_right : (p : Nesting) (c : Declr) (w : Walk) → declr_stands behind c ≡ true → Ready behind w → Onward (walked_declr p c w).0 final → declr_fits d (walked_declr p c w).1 ≡ true
    declarator_right p c w h ready on =
        let place = home.Local p.function in
        let v = declared c.spec place p.depth w in
        let i = walked_initial v.1 c.at c.right v.0 in
        let here : Onward v.0 final = onward_both v.0 i.0 final (grows_onward place v.0 i.0 (initial_grows place v.1 c.at c.right v.0)) on in
        let x = var_of c.spec v.1 place in
        let known : type_in (w.vars ++ x ∷ []) (length w.vars) ≡ Some x.ty = ap (option_map (λ (y : VarDef). y.ty)) (get_last w.vars x) in
        let type : var_type d (length w.vars) ≡ Some (or_int v.1) =
        sees.vars (length w.vars)
        ∙ ap (λ (vs : List VarDef). type_in vs (length w.vars)) (here.vars ∙ ap (λ (vs : List VarDef). vs ++ here.more_vars) (declared_vars c.spec place p.depth w))
        ∙ type_more (w.vars ++ x ∷ []) here.more_vars (length w.vars) x.ty known
        in
        by_written v.1 (declared_good c.spec place p.depth w (here.clean clean)) type on
      where
        by_written : (u : Written) → type_faults u ≡ [] → var_type d (length w.vars) ≡ Some (or_int u)
            → Onward (walked_initial u c.at c.right (declared c.spec (home.Local p.function) p.depth w).0).0 final
            → has (λ t. if_any (value_fits d t) (walked_initial u c.at c.right (declared c.spec (home.Local p.function) p.depth w).0).1) (var_type d (length w.vars)) ≡ true
        by_written (Bad f) none is on = absurd cc
        by_written (Good t) none is on =
            let v = (declared c.spec (home.Local p.function) p.depth w).0 in
            ap (has (λ u. if_any (value_fits d u) (walked_initial (Good t) c.at c.right v).1)) is
            ∙ initialiser_right t c.at c.right v h (ready_on behind (home.Local p.function) w v (declared_grows c.spec (home.Local p.function) p.depth w) ready) on

    -- what is returned

    pub returning_right : (t : Returned) → IsGood t → (at : ℕ) (r : Right) (w : Walk) → right_stands behind r ≡ true → Ready behind w
        → let v = walked_right r w in Onward (noted (returned_value t at v.1).faults v.0) final → return_fits d (result_or_none t) (Some (returned_value t at v.1).made) ≡ true
    returning_right t good at r w h ready on =
        let v = walked_right r w in
        let fs = (returned_value t at v.1).faults in
        returned_right d t good at v.1 (value_right r w h ready (noted_on final fs v.0 on)) (second_empty v.0.faults fs (on.clean clean))
