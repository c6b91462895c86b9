-- Structs, variables of the file and headings of functions behind a walk without offsets.
use Rattle.std.specs.Prelude.{is_none, slice_get, slice_set}
use Rattle.std.specs.List.{flat_map, fold}
use Rattle.std.proofs.Common.{◌≡◌, ℕ, ℤ, zero, suc, ◌==◌, Bool, true, false, not, ◌&&◌, ◌||◌, nat_lt, List, [], ◌∷◌, ◌++◌, length, map, Option, Some, None, option_map, if◌then◌else◌, refl, sym, ap, subst, ◌∙◌}
use Rattle.std.proofs.lemmas.List.{length-map, map-append}
use Rattle.std.proofs.lemmas.Option.{slice_get-map}
use Rattle.c_tree.specs.Alike.{bare_var}
use Rattle.c_tree.specs.declared.expr.Sign.TheVariants as sign
use Rattle.c_tree.specs.declared.program.Home.TheVariants as home
use Rattle.c_tree.specs.declared.program.Ty.{Ty}
use Rattle.c_tree.specs.declared.tree.Base.{Base}
use Rattle.c_tree.specs.declared.tree.Base.TheVariants as base
use Rattle.c_tree.specs.declared.tree.Body.{Body}
use Rattle.c_tree.specs.declared.tree.Expr.{Expr, Expr-F, roll-Expr, map-Expr, fold-roll-Expr, ind-Expr}
use Rattle.c_tree.specs.declared.tree.Expr.TheOpen.{Const, Null, Var, Field, Deref, Index, Unary, Binary}
use Rattle.c_tree.specs.declared.tree.GlobalDecl.{GlobalDecl}
use Rattle.c_tree.specs.declared.tree.Head.{Head}
use Rattle.c_tree.specs.declared.tree.Spec.{Spec}
use Rattle.c_tree.specs.declared.tree.Word.{Word}
use Rattle.c_parser.specs.Alike.{moved_base, moved_body, moved_expr, moved_global, moved_head, moved_layer, moved_spec, moved_word}
use Rattle.c_parser.proofs.PrintedStatements.{none_at}
use Rattle.c_types.specs.declared.faults.Rule.TheVariants as rule
use Rattle.c_types.specs.declared.judged.Judged.{Judged}
use Rattle.c_types.specs.declared.judged.Judged.TheVariants.{Typed, Broken}
use Rattle.c_types.specs.declared.judged.Value.{Value}
use Rattle.c_types.specs.declared.scope.Entry.{Entry}
use Rattle.c_types.specs.declared.scope.Heading.{Heading}
use Rattle.c_types.specs.declared.scope.Heading.TheVariants as heading
use Rattle.c_types.specs.declared.scope.Meaning.{Meaning}
use Rattle.c_types.specs.declared.scope.Meaning.TheVariants as meaning
use Rattle.c_types.specs.declared.scope.Returned.{Returned}
use Rattle.c_types.specs.declared.scope.Returned.TheVariants as returned
use Rattle.c_types.specs.declared.scope.Scope.{Scope}
use Rattle.c_types.specs.declared.scope.Signature.{Signature}
use Rattle.c_types.specs.declared.scope.StructRow.{StructRow}
use Rattle.c_types.specs.declared.scope.Walk.{Walk}
use Rattle.c_types.specs.declared.scope.Written.{Written}
use Rattle.c_types.specs.declared.scope.Written.TheVariants.{Good, Bad}
use Rattle.c_types.specs.Calls.{is_main}
use Rattle.c_types.specs.Expressions.{judged}
use Rattle.c_types.specs.Fits.{fault, fits, unless}
use Rattle.c_types.specs.Functions.{again_faults, body_again, differs, entry, function_as, function_by, function_named, head_behind, head_typed, heading_of, heading_params, is_int_base, is_main_head, main_faults, marked, new_function, noted_again, result_faults, same_types, walked_heading, walked_param, with_body as with_body_marked, with_signature}
use Rattle.c_types.specs.InTurn.{each}
use Rattle.c_types.specs.Scopes.{declared, in_scope, noted, result_type, spec_type, type_faults, with_scope}
use Rattle.c_types.specs.Structs.{Fields, alias_if, body_if, constant, constant_layer, field_more, field_named, field_turn, number_or_zero, numbered, opposite_of, row_again, start_faults, start_noted, start_number, struct_behind, walked_field, walked_fields, walked_global, walked_globals, walked_struct, with_body, with_row}
use Rattle.c_types.specs.Tables.{found}
use Rattle.source_patcher.proofs.Offsets.{bare_entry, bare_fault, bare_judged, bare_meaning, bare_row, bare_scope, bare_value, bare_written, fits_bare, found_rows, judged_bare, row_with, unless_bare}
use Rattle.source_patcher.proofs.OffsetsScopes.{IsBare, bare_pair, bare_returned, bare_walk, declared_bare, each_bare, name_more, named_bare, noted_as, noted_bare, result_bare, spec_bare, tagged_bare, type_faults_bare, untagged_bare}

-- the change doesn't hang on offsets
abbrev pub IsBareChange : (Walk → Walk) → (Walk → Walk) → Type 0
IsBareChange new old = (w : Walk) → new (bare_walk w) ≡ bare_walk (old w)

-- structs

abbrev bare_fields : Fields → Fields
bare_fields = map (row_with bare_written)

more_bare : (n : Word) (t : Written) (rows : Fields) (o : Option Written) (w : Walk) → field_more (moved_word none_at n) (bare_written t) (bare_fields rows) (option_map bare_written o) (bare_walk w) ≡ bare_pair bare_walk bare_fields (field_more n t rows o w)
more_bare n t rows None w = ap (λ xs. (bare_walk w, xs)) (sym (map-append (row_with bare_written) rows ((n.text, t) ∷ [])))
more_bare n t rows (Some older) w = ap (λ v. (v, bare_fields rows)) (noted_bare (fault rule.Twice n.at ∷ []) w)

field_case : (d : Spec) (t : Written) (rows : Fields) (o : Option Word) (w : Walk) → field_named (moved_spec none_at d) (bare_written t) (bare_fields rows) (option_map (moved_word none_at) o) (bare_walk w) ≡ bare_pair bare_walk bare_fields (field_named d t rows o w)
field_case d t rows None w = ap (λ v. (v, bare_fields rows)) (noted_bare (fault rule.Nameless d.at ∷ []) w)
field_case d t rows (Some n) w =
    ap (λ o. field_more (moved_word none_at n) (bare_written t) (bare_fields rows) o (bare_walk w)) (found_rows bare_written rows n.text) ∙ more_bare n t rows (found rows n.text) w

field_bare : (d : Spec) (rows : Fields) (w : Walk) → walked_field (moved_spec none_at d) (bare_fields rows) (bare_walk w) ≡ bare_pair bare_walk bare_fields (walked_field d rows w)
field_bare d rows w =
    let r = spec_type d w.scope in
    let m = moved_spec none_at d in
    let v = with_scope w r.0 in
    ap (λ q. field_named m q.1 (bare_fields rows) m.name (noted (type_faults q.1) (with_scope (bare_walk w) q.0))) (spec_bare d w.scope)
    ∙ ap (λ u. field_named m (bare_written r.1) (bare_fields rows) m.name u) (noted_as (type_faults (bare_written r.1)) (type_faults r.1) v (type_faults_bare r.1))
    ∙ field_case d r.1 rows d.name (noted (type_faults r.1) v)

fields_bare : (ds : List Spec) (rows : Fields) (w : Walk) → fold field_turn (bare_walk w, bare_fields rows) (map (moved_spec none_at) ds) ≡ bare_pair bare_walk bare_fields (fold field_turn (w, rows) ds)
fields_bare [] rows w = refl
fields_bare (d ∷ ds) rows w =
    let r = walked_field d rows w in
    ap (λ q. fold field_turn q (map (moved_spec none_at) ds)) (field_bare d rows w) ∙ fields_bare ds r.1 r.0

pub set_mapped : {A B : Type 0} (f : A → B) (xs : List A) (k : ℕ) (x : A) → slice_set (map f xs) k (f x) ≡ map f (slice_set xs k x)
set_mapped f [] k x = refl
set_mapped f (y ∷ ys) zero x = refl
set_mapped f (y ∷ ys) (suc k) x = ap (λ zs. f y ∷ zs) (set_mapped f ys k x)

row_case : (b : Bool) (n : ℕ) (row : StructRow) (w : Walk)
    → (if b then with_scope (bare_walk w) (record (bare_scope w.scope) { structs = slice_set (map bare_row w.scope.structs) n (bare_row row) }) else bare_walk w)
    ≡ bare_walk (if b then with_scope w (record w.scope { structs = slice_set w.scope.structs n row }) else w)
row_case true n row w = ap (λ rows. with_scope (bare_walk w) (record (bare_scope w.scope) { structs = rows })) (set_mapped bare_row w.scope.structs n row)
row_case false n row w = refl

row_bare : (n : ℕ) (row : StructRow) → IsBareChange (with_row n (bare_row row)) (with_row n row)
row_bare n row w =
    ap (λ k. if nat_lt n k then with_scope (bare_walk w) (record (bare_scope w.scope) { structs = slice_set (map bare_row w.scope.structs) n (bare_row row) }) else bare_walk w) (length-map w.scope.structs bare_row)
    ∙ row_case (nat_lt n (length w.scope.structs)) n row w

abbrev unplaced_body : Option ℕ → Option ℕ
unplaced_body = option_map (λ _. 0)

none_bare : (o : Option ℕ) → is_none (unplaced_body o) ≡ is_none o
none_bare None = refl
none_bare (Some at) = refl

row_again_bare : (o : Option StructRow) (tag : Option Word) → row_again (option_map bare_row o) (option_map (moved_word none_at) tag) ≡ map bare_fault (row_again o tag)
row_again_bare None tag = refl
row_again_bare (Some row) None = refl
row_again_bare (Some row) (Some tag) = ap (λ b. unless b rule.Twice 0) (none_bare row.body) ∙ unless_bare (is_none row.body) rule.Twice tag.at

body_bare : (tag : Option Word) (n : ℕ) (o : Option Body) → IsBareChange (body_if (option_map (moved_word none_at) tag) n (option_map (moved_body none_at) o)) (body_if tag n o)
body_bare tag n None w = refl
body_bare tag n (Some b) w =
    let again = row_again (slice_get w.scope.structs n) tag in
    let r = walked_fields b.fields (noted again w) in
    ap (λ o. with_body n 0 (walked_fields (map (moved_spec none_at) b.fields) (noted (row_again o (option_map (moved_word none_at) tag)) (bare_walk w)))) (slice_get-map bare_row w.scope.structs n)
    ∙ ap (λ v. with_body n 0 (walked_fields (map (moved_spec none_at) b.fields) v)) (noted_as (row_again (option_map bare_row (slice_get w.scope.structs n)) (option_map (moved_word none_at) tag)) again w (row_again_bare (slice_get w.scope.structs n) tag))
    ∙ ap (with_body n 0) (fields_bare b.fields [] (noted again w))
    ∙ row_bare n (record { fields = r.1; body = Some b.at }) r.0

alias_bare : (n : ℕ) (o : Option Word) → IsBareChange (alias_if n (option_map (moved_word none_at) o)) (alias_if n o)
alias_bare n None w = refl
alias_bare n (Some a) w = named_bare a (record { meaning = meaning.Alias n; depth = 0 }) w

numbered_bare : (tag : Option Word) (s : Scope) → numbered (option_map (moved_word none_at) tag) (bare_scope s) ≡ bare_pair bare_scope (λ n. n) (numbered tag s)
numbered_bare None s = untagged_bare s
numbered_bare (Some tag) s = tagged_bare tag s

pub struct_bare : (tag : Option Word) (body : Option Body) (alias : Option Word)
    → IsBareChange (walked_struct (option_map (moved_word none_at) tag) (option_map (moved_body none_at) body) (option_map (moved_word none_at) alias)) (walked_struct tag body alias)
struct_bare tag body alias w =
    let word = option_map (moved_word none_at) in
    let r = in_scope (numbered tag) w in
    ap (λ q. struct_behind (word tag) (option_map (moved_body none_at) body) (word alias) (with_scope (bare_walk w) q.0, q.1)) (numbered_bare tag w.scope)
    ∙ ap (alias_if r.1 (word alias)) (body_bare tag r.1 body r.0) ∙ alias_bare r.1 alias (body_if tag r.1 body r.0)

-- variables of the file

abbrev SameConstant : Expr → Type 0
SameConstant e = constant (moved_expr none_at e) ≡ constant e

abbrev plain : Expr-F ((e : Expr) × SameConstant e) → Expr-F Expr
plain = map-Expr ((e : Expr) × SameConstant e) Expr (λ e. e.0)

abbrev new_layer : Expr-F Expr → Expr-F Expr
new_layer x = moved_layer none_at (map-Expr Expr Expr (moved_expr none_at) x)

abbrev constants : Expr-F Expr → Expr-F (Option ℤ)
constants = map-Expr Expr (Option ℤ) constant

constant_held : (y : Expr-F ((e : Expr) × SameConstant e)) → constant_layer (constants (new_layer (plain y))) ≡ constant_layer (constants (plain y))
constant_held (Const n at) = refl
constant_held (Null at) = refl
constant_held (Var w) = refl
constant_held (Field e w at) = refl
constant_held (Deref e at) = refl
constant_held (Index e i at) = refl
constant_held (Unary sign.Minus e at) = ap opposite_of e.1
constant_held (Unary sign.Not e at) = refl
constant_held (Binary o a b at) = refl

constant_bare : (e : Expr) → constant (moved_expr none_at e) ≡ constant e
constant_bare = ind-Expr SameConstant (λ x y is.
    ap constant (fold-roll-Expr Expr (λ l. roll-Expr (moved_layer none_at l)) x) ∙ fold-roll-Expr (Option ℤ) constant_layer (new_layer x)
    ∙ subst (λ (z : Expr-F Expr). constant_layer (constants (new_layer z)) ≡ constant_layer (constants z)) is (constant_held y)
    ∙ sym (fold-roll-Expr (Option ℤ) constant_layer x))

start_bare : (o : Option Expr) → start_number (option_map (moved_expr none_at) o) ≡ start_number o
start_bare None = refl
start_bare (Some e) = ap number_or_zero (constant_bare e)

start_case : (t : Written) (at : ℕ) (c : Option ℤ) (j : Judged Value) → start_faults (bare_written t) 0 c (bare_judged bare_value j) ≡ map bare_fault (start_faults t at c j)
start_case (Good t) at None (Broken fs) = refl
start_case (Good t) at (Some n) (Broken fs) = refl
start_case (Bad f) at None (Broken fs) = refl
start_case (Bad f) at (Some n) (Broken fs) = refl
start_case (Bad f) at None (Typed v) = refl
start_case (Bad f) at (Some n) (Typed v) = refl
start_case (Good t) at None (Typed v) = refl
start_case (Good t) at (Some n) (Typed v) = ap (λ b. unless b rule.TypesDiffer 0) (fits_bare t v) ∙ unless_bare (fits t v) rule.TypesDiffer at

started_bare : (at : ℕ) (o : Option Expr) (r : Walk × Written) → start_noted 0 (option_map (moved_expr none_at) o) (bare_pair bare_walk bare_written r) ≡ bare_walk (start_noted at o r)
started_bare at None r = refl
started_bare at (Some e) r =
    let j = judged r.0.scope e false in
    let new = judged (bare_scope r.0.scope) (moved_expr none_at e) false in
    noted_as (start_faults (bare_written r.1) 0 (constant (moved_expr none_at e)) new) (start_faults r.1 at (constant e) j) r.0
    (ap (λ c. start_faults (bare_written r.1) 0 c new) (constant_bare e) ∙ ap (start_faults (bare_written r.1) 0 (constant e)) (judged_bare r.0.scope e false) ∙ start_case r.1 at (constant e) j)

global_bare : (d : GlobalDecl) → IsBareChange (walked_global (moved_global none_at d)) (walked_global d)
global_bare d w =
    let h = home.Global (start_number d.value) in
    ap (λ n. start_noted 0 (option_map (moved_expr none_at) d.value) (declared (moved_spec none_at d.spec) (home.Global n) 0 (bare_walk w))) (start_bare d.value)
    ∙ ap (start_noted 0 (option_map (moved_expr none_at) d.value)) (declared_bare d.spec h 0 w)
    ∙ started_bare d.at d.value (declared d.spec h 0 w)

pub globals_bare : (ds : List GlobalDecl) (w : Walk) → walked_globals (bare_walk w) (map (moved_global none_at) ds) ≡ bare_walk (walked_globals w ds)
globals_bare [] w = refl
globals_bare (d ∷ ds) w = ap (λ v. walked_globals v (map (moved_global none_at) ds)) (global_bare d w) ∙ globals_bare ds (walked_global d w)

-- headings of functions

abbrev bare_heading : Heading → Heading
bare_heading (heading.Good g) = heading.Good g
bare_heading (heading.Bad f) = heading.Bad (bare_fault f)

params_case : (t : Option Ty) (us : List Ty) (ts : List Written) → heading_params t us (map bare_written ts) ≡ bare_heading (heading_params t us ts)
params_case t us [] = refl
params_case t us (Good u ∷ ts) = params_case t (us ++ u ∷ []) ts
params_case t us (Bad f ∷ ts) = refl

heading_case : (t : Returned) (ts : List Written) → heading_of (bare_returned t) (map bare_written ts) ≡ bare_heading (heading_of t ts)
heading_case returned.Nothing ts = params_case None [] ts
heading_case (returned.Value t) ts = params_case (Some t) [] ts
heading_case (returned.Bad f) ts = refl

result_faults_bare : (t : Returned) → result_faults (bare_returned t) ≡ map bare_fault (result_faults t)
result_faults_bare returned.Nothing = refl
result_faults_bare (returned.Value t) = refl
result_faults_bare (returned.Bad f) = refl

all_faults_bare : (ts : List Written) → flat_map type_faults (map bare_written ts) ≡ map bare_fault (flat_map type_faults ts)
all_faults_bare [] = refl
all_faults_bare (t ∷ ts) =
    ap (λ fs. fs ++ flat_map type_faults (map bare_written ts)) (type_faults_bare t) ∙ ap (λ fs. map bare_fault (type_faults t) ++ fs) (all_faults_bare ts)
    ∙ sym (map-append bare_fault (type_faults t) (flat_map type_faults ts))

new_bare : (n : Word) (body : Bool) (h : Heading) → IsBareChange (new_function (moved_word none_at n) body (bare_heading h)) (new_function n body h)
new_bare n body (heading.Bad f) w = name_more n (entry (meaning.Bad f)) w
new_bare n body (heading.Good g) w = name_more n (entry (meaning.Function (length w.signatures))) (with_signature (record g { has_body = body }) w)

differs_bare : (h : Heading) (g : Signature) (at : ℕ) → differs (bare_heading h) g 0 ≡ map bare_fault (differs h g at)
differs_bare (heading.Bad f) g at = refl
differs_bare (heading.Good h) g at = unless_bare (same_types h g) rule.DeclarationsDiffer at

again_case : (body : Bool) (h : Heading) (g : Signature) (at : ℕ) → again_faults body (bare_heading h) g 0 ≡ map bare_fault (again_faults body h g at)
again_case body h g at =
    ap (λ fs. fs ++ differs (bare_heading h) g 0) (unless_bare (not (body && g.has_body)) rule.Twice at) ∙ ap (λ fs. map bare_fault (body_again body g at) ++ fs) (differs_bare h g at)
    ∙ sym (map-append bare_fault (body_again body g at) (differs h g at))

again_bare : (n : Word) (body : Bool) (h : Heading) (o : Option Signature) → IsBareChange (noted_again (moved_word none_at n) body (bare_heading h) o) (noted_again n body h o)
again_bare n body h None w = refl
again_bare n body h (Some g) w = noted_as (again_faults body (bare_heading h) g 0) (again_faults body h g n.at) w (again_case body h g n.at)

marked_bare : (k : ℕ) (o : Option Signature) → IsBareChange (marked k o) (marked k o)
marked_bare k None w = refl
marked_bare k (Some g) w = refl

with_body_bare : (body : Bool) (k : ℕ) → IsBareChange (with_body_marked body k) (with_body_marked body k)
with_body_bare true k w = marked_bare k (slice_get w.signatures k) w
with_body_bare false k w = refl

meaning_bare : (n : Word) (body : Bool) (h : Heading) (m : Meaning) → IsBareChange (function_as (moved_word none_at n) body (bare_heading h) (bare_meaning m)) (function_as n body h m)
meaning_bare n body h (meaning.Function k) w =
    let g = slice_get w.signatures k in
    ap (with_body_marked body k) (again_bare n body h g w) ∙ with_body_bare body k (noted_again n body h g w)
meaning_bare n body h (meaning.Bad f) w = refl
meaning_bare n body h (meaning.Variable k t) w = noted_bare (fault rule.Twice n.at ∷ []) w
meaning_bare n body h (meaning.Alias s) w = noted_bare (fault rule.Twice n.at ∷ []) w

entry_bare : (n : Word) (body : Bool) (h : Heading) (o : Option Entry) → IsBareChange (function_by (moved_word none_at n) body (bare_heading h) (option_map bare_entry o)) (function_by n body h o)
entry_bare n body h None w = new_bare n body h w
entry_bare n body h (Some e) w = meaning_bare n body h e.meaning w

int_base_bare : (b : Base) → is_int_base (moved_base none_at b) ≡ is_int_base b
int_base_bare base.Int = refl
int_base_bare base.Void = refl
int_base_bare (base.Tag n) = refl
int_base_bare (base.Alias n) = refl

main_head_bare : (h : Head) → is_main_head (moved_head none_at h) ≡ is_main_head h
main_head_bare h =
    ap (λ b. b && h.result.stars == 0 && length (map (moved_spec none_at) h.params) == 0) (int_base_bare h.result.base)
    ∙ ap (λ k. is_int_base h.result.base && h.result.stars == 0 && k == 0) (length-map h.params (moved_spec none_at))

main_bare : (h : Head) (n : Word) → main_faults (moved_head none_at h) (moved_word none_at n) ≡ map bare_fault (main_faults h n)
main_bare h n = ap (λ b. unless (not (is_main n.text) || b) rule.Main 0) (main_head_bare h) ∙ unless_bare (not (is_main n.text) || is_main_head h) rule.Main n.at

name_bare : (h : Head) (body : Bool) (t : Heading) (o : Option Word) → IsBareChange (function_named (moved_head none_at h) body (bare_heading t) (option_map (moved_word none_at) o)) (function_named h body t o)
name_bare h body t None w = noted_bare (fault rule.Nameless h.result.at ∷ []) w
name_bare h body t (Some n) w =
    let m = moved_word none_at n in
    let v = noted (main_faults h n) w in
    ap (λ o. function_by m body (bare_heading t) o (noted (main_faults (moved_head none_at h) m) (bare_walk w))) (found_rows bare_entry w.scope.names n.text)
    ∙ ap (function_by m body (bare_heading t) (option_map bare_entry (found w.scope.names n.text))) (noted_as (main_faults (moved_head none_at h) m) (main_faults h n) w (main_bare h n))
    ∙ entry_bare n body t (found w.scope.names n.text) v

pub heading_bare : (h : Head) (body : Bool) → IsBare bare_returned (walked_heading (moved_head none_at h) body) (walked_heading h body)
heading_bare h body w =
    let m = moved_head none_at h in
    let r = in_scope (result_type h.result) w in
    let q = in_scope (each spec_type h.params) r.0 in
    let fs = result_faults r.1 ++ flat_map type_faults q.1 in
    let new = result_faults (bare_returned r.1) ++ flat_map type_faults (map bare_written q.1) in
    let same : new ≡ map bare_fault fs =
    ap (λ gs. gs ++ flat_map type_faults (map bare_written q.1)) (result_faults_bare r.1) ∙ ap (λ gs. map bare_fault (result_faults r.1) ++ gs) (all_faults_bare q.1)
    ∙ sym (map-append bare_fault (result_faults r.1) (flat_map type_faults q.1)) in
    ap (λ x. head_behind m body (with_scope (bare_walk w) x.0, x.1)) (result_bare h.result w.scope)
    ∙ ap (λ x. head_typed m body (bare_returned r.1) (with_scope (bare_walk r.0) x.0, x.1)) (each_bare bare_scope (moved_spec none_at) bare_written spec_type spec_type spec_bare h.params r.0.scope)
    ∙ ap (λ t. (function_named m body t m.result.name (noted new (bare_walk q.0)), bare_returned r.1)) (heading_case r.1 q.1)
    ∙ ap (λ v. (function_named m body (bare_heading (heading_of r.1 q.1)) m.result.name v, bare_returned r.1)) (noted_as new fs q.0 same)
    ∙ ap (λ v. (v, bare_returned r.1)) (name_bare h body (heading_of r.1 q.1) h.result.name (noted fs q.0))

pub param_bare : (f : ℕ) (d : Spec) → IsBare (λ n. n) (walked_param f (moved_spec none_at d)) (walked_param f d)
param_bare f d w =
    ap (λ (r : Walk × Written). (r.0, length (bare_walk w).vars)) (declared_bare d (home.Param f) 1 w) ∙ ap (λ n. (bare_walk (declared d (home.Param f) 1 w).0, n)) (length-map w.vars bare_var)
