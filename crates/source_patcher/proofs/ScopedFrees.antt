-- What a put frees has a pointer type where it is in scope, and is what its names mean there.
use Rattle.std.proofs.Common.{◌≡◌, ℕ, Bool, true, false, ◌||◌, List, [], ◌∷◌, slice_get, Option, Some, None, option_map, refl, sym, ap, subst, ◌∙◌, nat_eq}
use Rattle.std.specs.List.{list_all, list_any}
use Rattle.std.specs.Option.{option_and_then}
use Rattle.std.specs.Set.{is_member}
use Rattle.std.proofs.lemmas.Bool.{and_parts, eqb-true}
use Rattle.c_tree.specs.Fill.{pointing}
use Rattle.c_tree.specs.Alike.{bare_free}
use Rattle.c_tree.specs.Typing.{declarations, fields_if, has, is_behind, var_type, field_type}
use Rattle.c_tree.specs.declared.choice.Put.{Put}
use Rattle.c_tree.specs.declared.expr.Expr.{Expr as MadeExpr, Expr-F as MadeExpr-F, out-Expr}
use Rattle.c_tree.specs.declared.expr.Expr.TheOpen as layer
use Rattle.c_tree.specs.declared.expr.Expr.TheVariants as made
use Rattle.c_tree.specs.declared.program.FieldDef.{FieldDef}
use Rattle.c_tree.specs.declared.program.Program.{Program}
use Rattle.c_tree.specs.declared.program.StructDef.{StructDef}
use Rattle.c_tree.specs.declared.program.Ty.{Ty}
use Rattle.c_tree.specs.declared.program.Ty.TheVariants as ty
use Rattle.c_tree.specs.declared.program.VarDef.{VarDef}
use Rattle.c_tree.specs.declared.tree.Expr.{Expr, Expr-F, roll-Expr, fold-roll-Expr, map-Expr}
use Rattle.c_tree.specs.declared.tree.Expr.TheOpen.{Var, Field}
use Rattle.c_tree.specs.declared.tree.Expr.TheVariants as expr
use Rattle.c_tree.specs.declared.tree.Word.{Word}
use Rattle.c_types.specs.declared.judged.Judged.{Judged}
use Rattle.c_types.specs.declared.judged.Sort.TheVariants.{Of}
use Rattle.c_types.specs.declared.judged.Value.{Value}
use Rattle.c_types.specs.declared.faults.Rule.TheVariants as rule
use Rattle.c_types.specs.declared.scope.Scope.{Scope}
use Rattle.c_types.specs.declared.scope.Walk.{Walk}
use Rattle.c_types.specs.Blocks.{free_by, freed}
use Rattle.c_types.specs.Expressions.{field, field_by, field_in, field_of_row, judged, judged_layer, typed, variable_as, variable_by}
use Rattle.c_types.specs.Fits.{is_pointer, is_zero, is_zero_layer, as_pointer, pointer_layer, unless}
use Rattle.c_types.specs.Judged.{checked, of_one}
use Rattle.c_types.specs.Tables.{found, place_of}
use Rattle.source_patcher.specs.Edit.{field_name, name_or_none, pointed_fields, variable_name}
use Rattle.source_patcher.specs.InScope.{freed_type, is_in_scope, struct_behind}
use Rattle.source_patcher.specs.Refilled.{freed_expr, written_free}
use Rattle.source_patcher.proofs.RefilledWalk.{AreSeen, IsSeen}
use Rattle.source_patcher.proofs.Sights.{AllShown, HasRow, HasRows, Shown}

judged_opens : (s : Scope) (x : Expr-F Expr) (e : Expr) (b : Bool) → roll-Expr x ≡ e → judged s e b ≡ judged_layer s (map-Expr Expr (Bool → Judged Value) (judged s) x) b
judged_opens s x e b is = ap (λ d. judged s d b) (sym is) ∙ ap (λ (f : Bool → Judged Value). f b) (fold-roll-Expr (Bool → Judged Value) (judged_layer s) x)

-- a free of a typed expression that is no zero

plain : (e : MadeExpr) (l : MadeExpr-F MadeExpr) → out-Expr e ≡ l → pointer_layer e l ≡ e → is_zero_layer l ≡ false → (as_pointer e ≡ e) × (is_zero e ≡ false)
plain e l is same none = (ap (pointer_layer e) is ∙ same, ap is_zero_layer is ∙ none)

freed_as : (at : ℕ) (e : MadeExpr) (t : Ty) → is_pointer t ≡ true → as_pointer e ≡ e → freed at (typed e (Of t)) ≡ checked e []
freed_as at e t points same = ap (λ (d : MadeExpr). checked d (unless (is_pointer t || is_zero e) rule.Operands at)) same ∙ ap (λ (b : Bool). checked e (unless (b || is_zero e) rule.Operands at)) points

module _ (p : Program) (at : ℕ) (w : Walk) (vars : (k : ℕ) (v : VarDef) → slice_get w.vars k ≡ Some v → slice_get p.vars k ≡ Some v) (rows : HasRows p at w) where
  name_of : (x : ℕ) (s : Shown w x) → variable_name p x ≡ s.var.name
  name_of x s = ap (λ (o : Option VarDef). name_or_none (option_map (λ (v : VarDef). v.name) o)) (vars x s.var s.is)

  type_of : (x : ℕ) (s : Shown w x) → var_type (declarations p) x ≡ Some s.var.ty
  type_of x s = ap (option_map (λ (v : VarDef). v.ty)) (vars x s.var s.is)

  variable_judged : (x : ℕ) (s : Shown w x) (b : Bool) → judged w.scope (freed_expr p x None) b ≡ typed (made.Var x 0) (Of s.var.ty)
  variable_judged x s b =
      let n : Word = record { text = variable_name p x; at = 0 } in
      judged_opens w.scope (Var n) (expr.Var n) b (expr.rolls-Var n)
      ∙ ap (λ (m : List ℕ). variable_by n (found w.scope.names m)) (name_of x s)
      ∙ ap (variable_by n) s.finds
      ∙ ap (variable_as n) s.means

  -- what a free is made of
  seen_from : (puts : List Put) (q : Put) (e : MadeExpr) (t : Ty) → judged w.scope (freed_expr p q.var q.field) false ≡ typed e (Of t) → is_pointer t ≡ true → as_pointer e ≡ e → e ≡ pointing q.var q.field → IsSeen p puts w.scope q
  seen_from puts q e t is points same shape =
      let f = written_free p q in
      record {
        made = record { expr = e; start = 0; end = 0 };
        is = ap (λ (j : Judged Value). free_by f (freed 0 j)) is ∙ ap (free_by f) (freed_as 0 e t points same);
        alike = ap (λ (d : MadeExpr). bare_free (record { expr = d; start = 0; end = 0 })) shape;
      }

  variable_seen : (puts : List Put) (q : Put) → q.field ≡ None → (s : Shown w q.var) → is_pointer s.var.ty ≡ true → IsSeen p puts w.scope q
  variable_seen puts q none s points =
      let e = made.Var q.var 0 in
      let one = plain e (layer.Var q.var 0) (made.outs-Var q.var 0) refl refl in
      seen_from puts q e s.var.ty (ap (λ (f : Option ℕ). judged w.scope (freed_expr p q.var f) false) none ∙ variable_judged q.var s false) points one.0 (ap (pointing q.var) (sym none))

  -- a field of a struct whose body stands before

  field_judged : (x k n : ℕ) (s : Shown w x) (c : StructDef) (f : FieldDef) → s.var.ty ≡ ty.StructPtr n → (r : HasRow w n c) → (b : ℕ) → r.row.body ≡ Some b → slice_get c.fields k ≡ Some f → field_name p x k ≡ f.name
      → judged w.scope (freed_expr p x (Some k)) false ≡ typed (made.Field (made.Var x 0) k 0) (Of f.ty)
  field_judged x k n s c f pointer r b body get name =
      let v : Word = record { text = variable_name p x; at = 0 } in
      let m : Word = record { text = field_name p x k; at = 0 } in
      let e = made.Var x 0 in
      judged_opens w.scope (Field (expr.Var v) m 0) (expr.Field (expr.Var v) m 0) false (expr.rolls-Field (expr.Var v) m 0)
      ∙ ap (of_one (field w.scope m 0)) (variable_judged x s false)
      ∙ ap (λ (t : Ty). field w.scope m 0 (record { expr = e; sort = Of t })) pointer
      ∙ ap (field_of_row e m 0) r.is
      ∙ ap (field_in e m 0 r.row) body
      ∙ ap (λ (g : List ℕ). field_by e m 0 (place_of r.row.fields g) (found r.row.fields g)) name
      ∙ ap (λ (o : Option ℕ). field_by e m 0 o (found r.row.fields f.name)) (r.places k f get)
      ∙ ap (λ o. field_by e m 0 (Some k) o) (r.types k f get)

  field_seen : (puts : List Put) (q : Put) (k : ℕ) → q.field ≡ Some k → (n : ℕ) (s : Shown w q.var) (c : StructDef) (f : FieldDef) → s.var.ty ≡ ty.StructPtr n → (r : HasRow w n c) → (b : ℕ) → r.row.body ≡ Some b
      → slice_get c.fields k ≡ Some f → field_name p q.var k ≡ f.name → is_pointer f.ty ≡ true → IsSeen p puts w.scope q
  field_seen puts q k some n s c f pointer r b body get name points =
      let e = made.Field (made.Var q.var 0) k 0 in
      let one = plain e (layer.Field (made.Var q.var 0) k 0) (made.outs-Field (made.Var q.var 0) k 0) refl refl in
      seen_from puts q e f.ty (ap (λ (g : Option ℕ). judged w.scope (freed_expr p q.var g) false) some ∙ field_judged q.var k n s c f pointer r b body get name) points one.0 (ap (pointing q.var) (sym some))

  -- what a field's name is
  named_field : (x k n : ℕ) (s : Shown w x) (c : StructDef) (f : FieldDef) → s.var.ty ≡ ty.StructPtr n → slice_get p.structs n ≡ Some c → slice_get c.fields k ≡ Some f → field_name p x k ≡ f.name
  named_field x k n s c f pointer is get =
      let name : Option (List FieldDef) → List ℕ = λ o. name_or_none (option_map (λ (d : FieldDef). d.name) (option_and_then (λ fields. slice_get fields k) o)) in
      ap (λ (o : Option VarDef). name (option_and_then (λ (v : VarDef). pointed_fields p v.ty) o)) (vars x s.var s.is)
      ∙ ap (λ (t : Ty). name (pointed_fields p t)) pointer
      ∙ ap (λ (o : Option StructDef). name (option_map (λ (d : StructDef). d.fields) o)) is
      ∙ ap (λ (o : Option FieldDef). name_or_none (option_map (λ (d : FieldDef). d.name) o)) get

  -- by what the type of the field is found from
  from_field : (puts : List Put) (q : Put) (k n : ℕ) → q.field ≡ Some k → (s : Shown w q.var) → s.var.ty ≡ ty.StructPtr n → (c : StructDef) → slice_get p.structs n ≡ Some c → is_behind at c.body ≡ true
      → (o : Option FieldDef) → slice_get c.fields k ≡ o → has is_pointer (option_map (λ (d : FieldDef). d.ty) o) ≡ true → IsSeen p puts w.scope q
  from_field puts q k n some s pointer c is behind None get points = absurd cc
  from_field puts q k n some s pointer c is behind (Some f) get points =
      let r = rows n c is behind in
      by_body r r.row.body refl
    where
      by_body : (r : HasRow w n c) (o : Option ℕ) → r.row.body ≡ o → IsSeen p puts w.scope q
      by_body r (Some b) body = field_seen puts q k some n s c f pointer r b body get (named_field q.var k n s c f pointer is get) points
      by_body r None body =
          let known : is_behind at None ≡ true = subst (λ (o : Option ℕ). is_behind at o ≡ true) (ap (λ (d : StructDef). d.body) r.makes ∙ body) behind in
          absurd cc

  from_known : (puts : List Put) (q : Put) (k n : ℕ) → q.field ≡ Some k → (s : Shown w q.var) → s.var.ty ≡ ty.StructPtr n → (c : StructDef) → slice_get p.structs n ≡ Some c → (b : Bool) → is_behind at c.body ≡ b
      → has is_pointer (option_map (λ (d : FieldDef). d.ty) (option_and_then (λ fields. slice_get fields k) (fields_if b c))) ≡ true → IsSeen p puts w.scope q
  from_known puts q k n some s pointer c is true behind points = from_field puts q k n some s pointer c is behind (slice_get c.fields k) refl points
  from_known puts q k n some s pointer c is false behind points = absurd cc

  from_struct : (puts : List Put) (q : Put) (k n : ℕ) → q.field ≡ Some k → (s : Shown w q.var) → s.var.ty ≡ ty.StructPtr n → (o : Option StructDef) → slice_get p.structs n ≡ o
      → has is_pointer (option_map (λ (d : FieldDef). d.ty) (option_and_then (λ fields. slice_get fields k) (option_and_then (λ c. fields_if (is_behind at c.body) c) o))) ≡ true → IsSeen p puts w.scope q
  from_struct puts q k n some s pointer None is points = absurd cc
  from_struct puts q k n some s pointer (Some c) is points = from_known puts q k n some s pointer c is (is_behind at c.body) refl points

  from_type : (puts : List Put) (q : Put) (k : ℕ) → q.field ≡ Some k → (s : Shown w q.var) → (t : Ty) → s.var.ty ≡ t → has is_pointer (option_and_then (field_type (declarations p) at k) (struct_behind t)) ≡ true → IsSeen p puts w.scope q
  from_type puts q k some s ty.Int is points = absurd cc
  from_type puts q k some s ty.IntPtr is points = absurd cc
  from_type puts q k some s (ty.StructPtr n) is points = from_struct puts q k n some s is (slice_get p.structs n) refl points

  put_seen : (puts : List Put) (q : Put) (s : Shown w q.var) (o : Option ℕ) → q.field ≡ o → has is_pointer (freed_type (declarations p) at q.var o) ≡ true → IsSeen p puts w.scope q
  put_seen puts q s None is points = variable_seen puts q is s (sym (ap (has is_pointer) (type_of q.var s)) ∙ points)
  put_seen puts q s (Some k) is points =
      from_type puts q k is s s.var.ty refl (sym (ap (λ (t : Option Ty). has is_pointer (option_and_then (field_type (declarations p) at k) (option_and_then struct_behind t))) (type_of q.var s)) ∙ points)

  -- a variable among those that are visible
  shown_in : (seen : List ℕ) → AllShown w seen → (x : ℕ) → is_member nat_eq seen x ≡ true → Shown w x
  shown_in [] all x is = absurd cc
  shown_in (y ∷ ys) all x is = by_first (nat_eq x y) refl is (shown_in ys all.1 x)
    where
      by_first : (b : Bool) → nat_eq x y ≡ b → (b || list_any (nat_eq x) ys) ≡ true → (is_member nat_eq ys x ≡ true → Shown w x) → Shown w x
      by_first true same is later = subst (Shown w) (sym (eqb-true x y same)) all.0
      by_first false other is later = later is

  pub puts_seen : (puts : List Put) (seen : List ℕ) → AllShown w seen → (qs : List Put) → list_all (is_in_scope (declarations p) at seen) qs ≡ true → AreSeen p puts w.scope qs
  puts_seen puts seen all [] are = tt
  puts_seen puts seen all (q ∷ qs) are =
      let parts = and_parts (is_in_scope (declarations p) at seen q) (list_all (is_in_scope (declarations p) at seen) qs) are in
      let one = and_parts (is_member nat_eq seen q.var) (has is_pointer (freed_type (declarations p) at q.var q.field)) parts.0 in
      (put_seen puts q (shown_in seen all q.var one.0) q.field refl one.1, puts_seen puts seen all qs parts.1)
