-- A choice whose puts are all among those of the program's names has its gaps in the program, and frees pointers.
use Rattle.std.proofs.Common.{◌≡◌, ℕ, zero, suc, ◌+◌, ◌<◌, ⊎_elim, Bool, true, false, List, [], ◌∷◌, map, flat_map, length, slice_get, Option, Some, None, option_map, option_and_then, refl, ap, sym, subst, ◌∙◌, arith}
use Rattle.std.specs.Prelude.{if◌then◌else◌, nat_lt, not, unwrap_or}
use Rattle.std.specs.List.{Contains, filter, range_with_len}
use Rattle.std.specs.Option.{is_some}
use Rattle.std.proofs.lemmas.Bool.{lt-ltb}
use Rattle.std.proofs.lemmas.Option.{slice_get-map}
use Rattle.c_tree.specs.Fill.{free_of, pointing}
use Rattle.c_tree.specs.Typing.{Declarations, Judged, Of, anywhere, declarations, field_type, fields_if, free_fits, has, is_behind, judged, judged_layer, member, points, sort_of, var_type}
use Rattle.c_tree.specs.WellFormed.{IsWellFormed, PutsFit}
use Rattle.c_tree.specs.declared.choice.Choice.{Choice}
use Rattle.c_tree.specs.declared.choice.Put.{Put}
use Rattle.c_tree.specs.declared.expr.Expr.{Expr, fold-roll-Expr}
use Rattle.c_tree.specs.declared.expr.Expr.TheOpen as layer
use Rattle.c_tree.specs.declared.expr.Expr.TheVariants as expr
use Rattle.c_tree.specs.declared.program.FieldDef.{FieldDef}
use Rattle.c_tree.specs.declared.program.Program.{Program}
use Rattle.c_tree.specs.declared.program.StructDef.{StructDef}
use Rattle.c_tree.specs.declared.program.Ty.{Ty}
use Rattle.c_tree.specs.declared.program.Ty.TheVariants as ty
use Rattle.c_tree.specs.declared.program.VarDef.{VarDef}
use Rattle.call_contexts.proofs.Has.{Has, contains_has, has_contains, has_flat_from, has_map, has_split}
use Rattle.c_graph.specs.declared.graph.Graph.{Graph}
use Rattle.c_scopes.specs.ScopeAt.{GapScope, Within, scopes}
use Rattle.c_scopes.specs.Turns.{is_shown, narrowed}
use Rattle.c_scopes.proofs.ScopeNumbers.{row_numbers, rows_numbered}
use Rattle.c_scopes.proofs.ScopeOrder.{within_range}
use Rattle.source_patcher.specs.InScope.{HaveGaps}
use Rattle.ts_domain.specs.Numbering.{defined_fields, type_fields, var_fields}
use Rattle.ts_domain.specs.Pointers.{is_pointer}
use Rattle.ts_domain.specs.Puts.{any_puts, body_of, field_puts, fields_at, gap_offset, gap_puts, is_reached, no_pointers, puts_of, type_body, var_put}
use Rattle.memfix_engine.specs.Analysis.{graph_in}
use Rattle.memfix_engine.proofs.ScopeLists.{all_of_has, has_of_filter, has_of_map, within_has}
use Rattle.memfix_engine.proofs.RowVariables.{visible_exist}

-- what a put of the names is

-- the field of a put, if it has one, is known in the gap
pub data IsKnown (fields : List ℕ) : Option ℕ → Type 0 where
  no_field : IsKnown fields None
  a_field : (f : ℕ) → Has f fields → IsKnown fields (Some f)

-- a put is one of a row of gaps: of a visible pointer variable, or of a field of one
pub record IsNamed (g : Graph) (p : Program) (q : Put) : Type 0 where
  pub row : GapScope
  pub stands : Has row (scopes p)
  pub gap : q.gap ≡ row.gap
  pub reached : is_reached g row.gap ≡ true
  pub visible : Has q.var row.vars
  pub shown : is_shown (no_pointers p.vars) q.var ≡ true
  pub known : IsKnown (fields_at g p row.gap q.var) q.field

-- a put of these variables, and of their fields, in a gap
record IsAny (fields : ℕ → List ℕ) (gap : ℕ) (xs : List ℕ) (q : Put) : Type 0 where
  in_gap : q.gap ≡ gap
  var : Has q.var xs
  known : IsKnown (fields q.var) q.field

-- each put of a gap is such a put
any_put : (fields : ℕ → List ℕ) (gap : ℕ) (xs : List ℕ) (q : Put) → Has q (any_puts fields gap xs) → IsAny fields gap xs q
any_put fields gap xs q h = ⊎_elim
    (λ of_field.
    let one = has_flat_from (λ x. field_puts gap x (fields x)) xs of_field in
    let it = has_of_map (λ (f : ℕ). record { gap = gap; var = one.0; field = Some f }) (fields one.0) one.2 in
    subst (λ (z : Put). IsAny fields gap xs z) (sym it.2) (record { in_gap = refl; var = one.1; known = a_field it.0 it.1 }))
    (λ of_var.
    let it = has_of_map (var_put gap) xs of_var in
    subst (λ (z : Put). IsAny fields gap xs z) (sym it.2) (record { in_gap = refl; var = it.1; known = no_field }))
    (has_split (flat_map (λ x. field_puts gap x (fields x)) xs) h)

-- a put of a row of gaps
row_put : (g : Graph) (p : Program) (r : GapScope) (q : Put) → Has r (scopes p) → (b : Bool) → is_reached g r.gap ≡ b
    → Has q (if b then any_puts (fields_at g p r.gap) r.gap (narrowed (no_pointers p.vars) r).vars else []) → IsNamed g p q
row_put g p r q stands true is h =
    let it = any_put (fields_at g p r.gap) r.gap (filter (is_shown (no_pointers p.vars)) r.vars) q h in
    let var = has_of_filter (is_shown (no_pointers p.vars)) r.vars it.var in
    record { row = r; stands = stands; gap = it.in_gap; reached = is; visible = var.0; shown = var.1; known = it.known }
row_put g p r q stands false is h = elim h [ ]

-- each put of the names is one of a row
pub put_named : (g : Graph) (p : Program) (q : Put) → Has q (puts_of g p) → IsNamed g p q
put_named g p q h =
    let hidden = no_pointers p.vars in
    let one = has_flat_from (gap_puts (is_reached g) (fields_at g p)) (map (narrowed hidden) (scopes p)) h in
    let it = has_of_map (narrowed hidden) (scopes p) one.1 in
    let there : Has q (gap_puts (is_reached g) (fields_at g p) (narrowed hidden it.0)) = subst (λ (r : GapScope). Has q (gap_puts (is_reached g) (fields_at g p) r)) it.2 one.2 in
    row_put g p it.0 q it.1 (is_reached g it.0.gap) refl there

-- a put of a choice whose puts are all named
pub is_named : (p : Program) (puts : List Put) → ((q : Put) → Contains puts q → Contains (puts_of (graph_in p) p) q) → (q : Put) → Has q puts → IsNamed (graph_in p) p q
is_named p puts named q h = put_named (graph_in p) p q (contains_has (puts_of (graph_in p) p) q (named q (has_contains puts h)))

-- gaps

-- the gaps of the rows ascend
pub rows_ascend : (p : Program) → IsWellFormed p → Within 0 p.gaps (row_numbers (scopes p))
rows_ascend p w =
    let same : 0 + p.gaps ≡ p.gaps = omega arith in
    subst (λ (ns : List ℕ). Within 0 p.gaps ns) (sym (rows_numbered p w)) (subst (λ (m : ℕ). Within 0 m (range_with_len 0 p.gaps)) same (within_range 0 p.gaps))

-- the gaps of named puts are the program's
pub named_gaps : (p : Program) (puts : List Put) → IsWellFormed p → ((q : Put) → Contains puts q → Contains (puts_of (graph_in p) p) q) → HaveGaps p puts
named_gaps p puts w named = all_of_has (λ (q : Put). nat_lt q.gap p.gaps) puts each
  where
    each : (q : Put) → Has q puts → nat_lt q.gap p.gaps ≡ true
    each q h =
        let it = is_named p puts named q h in
        let low : it.row.gap < p.gaps = (within_has 0 p.gaps (row_numbers (scopes p)) (rows_ascend p w) (has_map (λ (r : GapScope). r.gap) it.stands)).1 in
        ap (λ (n : ℕ). nat_lt n p.gaps) it.gap ∙ lt-ltb it.row.gap p.gaps low

-- types

-- there is an element at each place of a list
none_below : {A : Type 0} (xs : List A) (i : ℕ) → i < length xs → slice_get xs i ≡ None → ⊥
none_below [] i low none = absurd (omega arith)
none_below (x ∷ xs) zero low none = absurd cc
none_below (x ∷ xs) (suc i) low none = none_below xs i (omega arith) none

-- what is not not true is true
not_twice : (b : Bool) → not (not b) ≡ true → b ≡ true
not_twice true h = refl
not_twice false h = absurd cc

-- a variable that exists and isn't hidden is a pointer
pub record IsPointer (p : Program) (x : ℕ) : Type 0 where
  pub kind : Ty
  pub is : var_type (declarations p) x ≡ Some kind
  pub pointer : is_pointer kind ≡ true

-- a variable that the puts of the names may have
pub variable_points : (p : Program) (x : ℕ) → x < length p.vars → is_shown (no_pointers p.vars) x ≡ true → IsPointer p x
variable_points p x low shown = by_var (slice_get p.vars x) refl (ap (λ (o : Option Bool). not (unwrap_or o false)) (sym (slice_get-map (λ (v : VarDef). not (is_pointer v.ty)) p.vars x)) ∙ shown)
  where
    by_var : (o : Option VarDef) → slice_get p.vars x ≡ o → not (unwrap_or (option_map (λ (v : VarDef). not (is_pointer v.ty)) o) false) ≡ true → IsPointer p x
    by_var None at h = absurd (none_below p.vars x low at)
    by_var (Some v) at h = record { kind = v.ty; is = ap (option_map (λ (u : VarDef). u.ty)) at; pointer = not_twice (is_pointer v.ty) h }

-- a known field of a variable is a pointer, and the body of its struct stands before that offset
pub record IsPointerField (p : Program) (at x f : ℕ) : Type 0 where
  pub struct : ℕ
  pub definition : StructDef
  pub field : FieldDef
  pub var_is : var_type (declarations p) x ≡ Some (ty.StructPtr struct)
  pub struct_is : slice_get p.structs struct ≡ Some definition
  pub behind : is_behind at definition.body ≡ true
  pub field_is : slice_get definition.fields f ≡ Some field
  pub pointer : is_pointer field.ty ≡ true

module _ (p : Program) (at x f : ℕ) where
  -- from the definition of the field
  by_field : (s : ℕ) (d : StructDef) (o : Option FieldDef) → var_type (declarations p) x ≡ Some (ty.StructPtr s) → slice_get p.structs s ≡ Some d → is_behind at d.body ≡ true → slice_get d.fields f ≡ o
      → has (λ (e : FieldDef). is_pointer e.ty) o ≡ true → IsPointerField p at x f
  by_field s d None var struct behind field h = absurd cc
  by_field s d (Some e) var struct behind field h = record { struct = s; definition = d; field = e; var_is = var; struct_is = struct; behind = behind; field_is = field; pointer = h }

  -- from the definition of the struct
  by_struct : (s : ℕ) (o : Option StructDef) → var_type (declarations p) x ≡ Some (ty.StructPtr s) → slice_get p.structs s ≡ o → is_behind at (option_and_then (λ (d : StructDef). d.body) o) ≡ true
      → Has f (defined_fields o) → IsPointerField p at x f
  by_struct s None var struct behind h = elim h [ ]
  by_struct s (Some d) var struct behind h =
      by_field s d (slice_get d.fields f) var struct behind refl (has_of_filter (λ i. has (λ (e : FieldDef). is_pointer e.ty) (slice_get d.fields i)) (range_with_len 0 (length d.fields)) h).1

  -- from the type of the variable
  by_type : (o : Option Ty) → var_type (declarations p) x ≡ o → is_behind at (type_body p.structs o) ≡ true → Has f (type_fields p.structs o) → IsPointerField p at x f
  by_type None var behind h = elim h [ ]
  by_type (Some ty.Int) var behind h = elim h [ ]
  by_type (Some ty.IntPtr) var behind h = elim h [ ]
  by_type (Some (ty.StructPtr s)) var behind h = by_struct s (slice_get p.structs s) var refl behind h

  -- from whether the body of the struct stands before the offset
  by_offset : (b : Bool) → is_behind at (body_of p.structs p.vars x) ≡ b → Has f (if b then var_fields p.structs p.vars x else []) → IsPointerField p at x f
  by_offset true behind h = by_type (var_type (declarations p) x) refl behind h
  by_offset false behind h = elim h [ ]

-- a field that the puts of the names may have
pub field_points : (g : Graph) (p : Program) (n x f : ℕ) → Has f (fields_at g p n x) → IsPointerField p (gap_offset g p n) x f
field_points g p n x f known = by_offset p (gap_offset g p n) x f (is_behind (gap_offset g p n) (body_of p.structs p.vars x)) refl known

-- the type of a field whose struct is known
pub field_typed : (d : Declarations) (at f s : ℕ) (c : StructDef) (e : FieldDef) → slice_get d.structs s ≡ Some c → d.known at c.body ≡ true → slice_get c.fields f ≡ Some e → field_type d at f s ≡ Some e.ty
field_typed d at f s c e struct known field =
    ap (λ (o : Option StructDef). option_map (λ (z : FieldDef). z.ty) (option_and_then (λ (fields : List FieldDef). slice_get fields f) (option_and_then (λ z. fields_if (d.known at z.body) z) o))) struct
    ∙ ap (λ (b : Bool). option_map (λ (z : FieldDef). z.ty) (option_and_then (λ (fields : List FieldDef). slice_get fields f) (fields_if b c))) known
    ∙ ap (option_map (λ (z : FieldDef). z.ty)) field

-- expressions

-- a variable, one level opened
var_judged : (d : Declarations) (x at : ℕ) → judged d (expr.Var x at) ≡ judged_layer d (layer.Var x at)
var_judged d x at = ap (judged d) (sym (expr.rolls-Var x at)) ∙ fold-roll-Expr Judged (judged_layer d) (layer.Var x at)

-- a field, one level opened
field_judged : (d : Declarations) (e : Expr) (f at : ℕ) → judged d (expr.Field e f at) ≡ judged_layer d (layer.Field (judged d e) f at)
field_judged d e f at = ap (judged d) (sym (expr.rolls-Field e f at)) ∙ fold-roll-Expr Judged (judged_layer d) (layer.Field e f at)

-- a value of a pointer type is a pointer
pointer_points : (t : Ty) → is_pointer t ≡ true → points (Of t) ≡ true
pointer_points ty.Int h = absurd cc
pointer_points ty.IntPtr h = refl
pointer_points (ty.StructPtr s) h = refl

-- a body that stands before an offset stands somewhere
known_anywhere : (at : ℕ) (body : Option ℕ) → is_behind at body ≡ true → is_some body ≡ true
known_anywhere at None h = absurd cc
known_anywhere at (Some b) h = refl

-- a put of a pointer variable frees a pointer
variable_fits : (p : Program) (x : ℕ) → IsPointer p x → has points (sort_of (anywhere (declarations p)) (pointing x None)) ≡ true
variable_fits p x it =
    ap (λ (j : Judged). has points j.value) (var_judged (anywhere (declarations p)) x 0)
    ∙ ap (λ (t : Option Ty). has points (option_map Of t)) it.is
    ∙ pointer_points it.kind it.pointer

-- a put of a pointer field frees a pointer
field_fits : (p : Program) (at x f : ℕ) → IsPointerField p at x f → has points (sort_of (anywhere (declarations p)) (pointing x (Some f))) ≡ true
field_fits p at x f it =
    let d = anywhere (declarations p) in
    ap (λ (j : Judged). has points j.value) (field_judged d (expr.Var x 0) f 0)
    ∙ ap (λ (j : Judged). has points (option_and_then (member d 0 f) j.value)) (var_judged d x 0)
    ∙ ap (λ (t : Option Ty). has points (option_and_then (member d 0 f) (option_map Of t))) it.var_is
    ∙ ap (λ (t : Option Ty). has points (option_map Of t)) (field_typed d 0 f it.struct it.definition it.field it.struct_is (known_anywhere at it.definition.body it.behind) it.field_is)
    ∙ pointer_points it.field.ty it.pointer

-- named puts free pointers
pub named_fit : (p : Program) (s : Choice) → IsWellFormed p → ((q : Put) → Contains s.puts q → Contains (puts_of (graph_in p) p) q) → PutsFit p s
named_fit p s w named = all_of_has (λ q. free_fits (anywhere (declarations p)) (free_of q)) s.puts each
  where
    by_known : (q : Put) (it : IsNamed (graph_in p) p q) (o : Option ℕ) → IsKnown (fields_at (graph_in p) p it.row.gap q.var) o → has points (sort_of (anywhere (declarations p)) (pointing q.var o)) ≡ true
    by_known q it None known = variable_fits p q.var (variable_points p q.var (visible_exist p w it.stands it.visible) it.shown)
    by_known q it (Some f) (a_field _ known) = field_fits p (gap_offset (graph_in p) p it.row.gap) q.var f (field_points (graph_in p) p it.row.gap q.var f known)

    each : (q : Put) → Has q s.puts → free_fits (anywhere (declarations p)) (free_of q) ≡ true
    each q h = let it = is_named p s.puts named q h in by_known q it q.field it.known
