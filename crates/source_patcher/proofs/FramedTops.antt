-- What a walk does to a declaration of the file doesn't hang on the functions that were made before.
use Rattle.std.proofs.Common.{◌≡◌, ℕ, Bool, true, false, nat_lt, List, [], ◌∷◌, ◌++◌, length, Option, Some, None, refl, ap, ◌∙◌}
use Rattle.std.specs.Prelude.{slice_get, slice_set, if◌then◌else◌}
use Rattle.std.specs.List.{flat_map, fold}
use Rattle.c_tree.specs.declared.program.FunDef.{FunDef}
use Rattle.c_tree.specs.declared.program.Home.TheVariants as home
use Rattle.c_tree.specs.declared.tree.Body.{Body}
use Rattle.c_tree.specs.declared.tree.Expr.{Expr}
use Rattle.c_tree.specs.declared.tree.GlobalDecl.{GlobalDecl}
use Rattle.c_tree.specs.declared.tree.Head.{Head}
use Rattle.c_tree.specs.declared.tree.Spec.{Spec}
use Rattle.c_tree.specs.declared.tree.Word.{Word}
use Rattle.c_types.specs.declared.scope.Entry.{Entry}
use Rattle.c_types.specs.declared.scope.Heading.{Heading}
use Rattle.c_types.specs.declared.scope.Heading.TheVariants as heading
use Rattle.c_types.specs.declared.scope.Meaning.{Meaning}
use Rattle.c_types.specs.declared.scope.Meaning.TheVariants as meaning
use Rattle.c_types.specs.declared.scope.Scope.{Scope}
use Rattle.c_types.specs.declared.scope.Signature.{Signature}
use Rattle.c_types.specs.declared.scope.StructRow.{StructRow}
use Rattle.c_types.specs.declared.scope.Walk.{Walk}
use Rattle.c_types.specs.declared.scope.Written.{Written}
use Rattle.c_types.specs.Functions.{function_as, function_by, function_named, heading_of, main_faults, marked, new_function, noted_again, result_faults, walked_heading, walked_param, with_body as with_body_marked}
use Rattle.c_types.specs.InTurn.{each}
use Rattle.c_types.specs.Scopes.{declared, in_scope, noted, result_type, spec_type, type_faults, with_scope}
use Rattle.c_types.specs.Structs.{Fields, alias_if, body_if, field_more, field_named, field_turn, numbered, row_again, start_noted, start_number, walked_fields, walked_global, walked_globals, walked_struct, with_row}
use Rattle.c_types.specs.Tables.{found}
use Rattle.source_patcher.proofs.Framed.{IsFramed, declared_framed, framed, framed_with, named_entry}

-- the change is the same whatever functions were made before
abbrev pub IsStill : (Walk → Walk) → Type 0
IsStill f = (fs : List FunDef) (w : Walk) → f (framed fs w) ≡ framed fs (f w)

-- structs

more_framed : (n : Word) (t : Written) (rows : Fields) (o : Option Written) → IsFramed (field_more n t rows o)
more_framed n t rows None fs w = refl
more_framed n t rows (Some older) fs w = refl

field_framed : (d : Spec) (t : Written) (rows : Fields) (o : Option Word) → (fs : List FunDef) (w : Walk) → field_named d t rows o (framed fs w) ≡ framed_with fs (field_named d t rows o w)
field_framed d t rows None fs w = refl
field_framed d t rows (Some n) fs w = more_framed n t rows (found rows n.text) fs w

fields_framed : (ds : List Spec) (rows : Fields) (fs : List FunDef) (w : Walk) → fold field_turn (framed fs w, rows) ds ≡ framed_with fs (fold field_turn (w, rows) ds)
fields_framed [] rows fs w = refl
fields_framed (d ∷ ds) rows fs w =
    let s = spec_type d w.scope in
    let r = field_turn (w, rows) d in
    ap (λ q. fold field_turn q ds) (field_framed d s.1 rows d.name fs (noted (type_faults s.1) (with_scope w s.0))) ∙ fields_framed ds r.1 fs r.0

row_still : (b : Bool) (s : Scope) (fs : List FunDef) (w : Walk) → (if b then with_scope (framed fs w) s else framed fs w) ≡ framed fs (if b then with_scope w s else w)
row_still true s fs w = refl
row_still false s fs w = refl

body_still : (tag : Option Word) (n : ℕ) (o : Option Body) → IsStill (body_if tag n o)
body_still tag n None fs w = refl
body_still tag n (Some b) fs w =
    let r = walked_fields b.fields (noted (row_again (slice_get w.scope.structs n) tag) w) in
    let row : Fields → StructRow = λ rows. record { fields = rows; body = Some b.at } in
    ap (λ q. with_row n (row q.1) q.0) (fields_framed b.fields [] fs (noted (row_again (slice_get w.scope.structs n) tag) w))
    ∙ row_still (nat_lt n (length r.0.scope.structs)) (record r.0.scope { structs = slice_set r.0.scope.structs n (row r.1) }) fs r.0

alias_still : (n : ℕ) (o : Option Word) → IsStill (alias_if n o)
alias_still n None fs w = refl
alias_still n (Some a) fs w = named_entry a (record { meaning = meaning.Alias n; depth = 0 }) fs w (found w.scope.names a.text)

pub struct_still : (tag : Option Word) (body : Option Body) (alias : Option Word) → IsStill (walked_struct tag body alias)
struct_still tag body alias fs w =
    let r = in_scope (numbered tag) w in
    ap (alias_if r.1 alias) (body_still tag r.1 body fs r.0) ∙ alias_still r.1 alias fs (body_if tag r.1 body r.0)

-- variables

start_still : (at : ℕ) (o : Option Expr) (fs : List FunDef) (r : Walk × Written) → start_noted at o (framed_with fs r) ≡ framed fs (start_noted at o r)
start_still at None fs r = refl
start_still at (Some e) fs r = refl

global_still : (d : GlobalDecl) → IsStill (walked_global d)
global_still d fs w =
    ap (start_noted d.at d.value) (declared_framed d.spec (home.Global (start_number d.value)) 0 fs w)
    ∙ start_still d.at d.value fs (declared d.spec (home.Global (start_number d.value)) 0 w)

pub globals_still : (ds : List GlobalDecl) (fs : List FunDef) (w : Walk) → walked_globals (framed fs w) ds ≡ framed fs (walked_globals w ds)
globals_still [] fs w = refl
globals_still (d ∷ ds) fs w = ap (λ v. walked_globals v ds) (global_still d fs w) ∙ globals_still ds fs (walked_global d w)

-- functions

new_still : (n : Word) (body : Bool) (h : Heading) → IsStill (new_function n body h)
new_still n body (heading.Bad f) fs w = refl
new_still n body (heading.Good g) fs w = refl

again_still : (n : Word) (body : Bool) (h : Heading) (o : Option Signature) → IsStill (noted_again n body h o)
again_still n body h None fs w = refl
again_still n body h (Some g) fs w = refl

marked_still : (k : ℕ) (o : Option Signature) → IsStill (marked k o)
marked_still k None fs w = refl
marked_still k (Some g) fs w = refl

with_body_still : (body : Bool) (k : ℕ) → IsStill (with_body_marked body k)
with_body_still true k fs w = marked_still k (slice_get w.signatures k) fs w
with_body_still false k fs w = refl

meaning_still : (n : Word) (body : Bool) (h : Heading) (m : Meaning) → IsStill (function_as n body h m)
meaning_still n body h (meaning.Function k) fs w =
    let g = slice_get w.signatures k in
    ap (with_body_marked body k) (again_still n body h g fs w) ∙ with_body_still body k fs (noted_again n body h g w)
meaning_still n body h (meaning.Bad f) fs w = refl
meaning_still n body h (meaning.Variable k t) fs w = refl
meaning_still n body h (meaning.Alias s) fs w = refl

entry_still : (n : Word) (body : Bool) (h : Heading) (o : Option Entry) → IsStill (function_by n body h o)
entry_still n body h None fs w = new_still n body h fs w
entry_still n body h (Some e) fs w = meaning_still n body h e.meaning fs w

name_still : (h : Head) (body : Bool) (t : Heading) (o : Option Word) → IsStill (function_named h body t o)
name_still h body t None fs w = refl
name_still h body t (Some n) fs w = entry_still n body t (found w.scope.names n.text) fs (noted (main_faults h n) w)

pub heading_framed : (h : Head) (body : Bool) → IsFramed (walked_heading h body)
heading_framed h body fs w =
    let r = in_scope (result_type h.result) w in
    let q = in_scope (each spec_type h.params) r.0 in
    ap (λ v. (v, r.1)) (name_still h body (heading_of r.1 q.1) h.result.name fs (noted (result_faults r.1 ++ flat_map type_faults q.1) q.0))

pub param_framed : (f : ℕ) (d : Spec) → IsFramed (walked_param f d)
param_framed f d fs w = ap (λ r. (r.0, length w.vars)) (declared_framed d (home.Param f) 1 fs w)
