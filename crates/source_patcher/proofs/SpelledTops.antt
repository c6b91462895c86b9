-- The variables and fields that are declared in a file have names that are spelled as names.
use Rattle.std.proofs.Common.{◌≡◌, ℕ, zero, suc, Bool, true, false, List, [], ◌∷◌, length, slice_get, Option, Some, None, refl, sym, subst, ◌∙◌}
use Rattle.std.specs.Prelude.{nat_lt, slice_set, if◌then◌else◌}
use Rattle.std.specs.List.{fold}
use Rattle.c_lexer.specs.declared.token.Token.{Token}
use Rattle.c_lexer.proofs.Lexemes.{Spelling}
use Rattle.c_tree.specs.Flow.{flow_of}
use Rattle.c_tree.specs.declared.choice.Put.{Put}
use Rattle.c_tree.specs.declared.program.Home.{Home}
use Rattle.c_tree.specs.declared.program.Home.TheVariants as home
use Rattle.c_tree.specs.declared.program.Program.{Program}
use Rattle.c_tree.specs.declared.tree.Base.{Base}
use Rattle.c_tree.specs.declared.tree.Block.{Block}
use Rattle.c_tree.specs.declared.tree.Body.{Body}
use Rattle.c_tree.specs.declared.tree.Expr.{Expr}
use Rattle.c_tree.specs.declared.tree.GlobalDecl.{GlobalDecl}
use Rattle.c_tree.specs.declared.tree.Head.{Head}
use Rattle.c_tree.specs.declared.tree.Spec.{Spec}
use Rattle.c_tree.specs.declared.tree.Top.{Top}
use Rattle.c_tree.specs.declared.tree.Word.{Word}
use Rattle.c_parser.specs.Blocks.{IsBlock}
use Rattle.c_parser.specs.Declarators.{IsOptionalName}
use Rattle.c_parser.specs.Grammar.{IsFieldNames, IsFields, IsFile, IsGlobal, IsGlobals, IsHead, IsMoreParams, IsParam, IsParams, IsStructBody, IsTop}
use Rattle.c_parser.specs.Offsets.{AllHave, AnyHas}
use Rattle.c_parser.specs.Term.{word}
use Rattle.c_parser.proofs.Rests.{Rest, base_rest, field_names_rest, global_rest, head_rest, optional_name_rest, param_rest, rest_more, rest_next, stars_rest, top_rest}
use Rattle.c_types.specs.declared.faults.Fault.{Fault}
use Rattle.c_types.specs.declared.scope.Entry.{Entry}
use Rattle.c_types.specs.declared.scope.Heading.{Heading}
use Rattle.c_types.specs.declared.scope.Heading.TheVariants as heading
use Rattle.c_types.specs.declared.scope.Meaning.{Meaning}
use Rattle.c_types.specs.declared.scope.Meaning.TheVariants as meaning
use Rattle.c_types.specs.declared.scope.Returned.{Returned}
use Rattle.c_types.specs.declared.scope.Returned.TheVariants as returned
use Rattle.c_types.specs.declared.scope.Signature.{Signature}
use Rattle.c_types.specs.declared.scope.StructRow.{StructRow}
use Rattle.c_types.specs.declared.scope.Walk.{Walk}
use Rattle.c_types.specs.declared.scope.Written.{Written}
use Rattle.c_types.specs.Calls.{is_main}
use Rattle.c_types.specs.Expressions.{judged}
use Rattle.c_types.specs.Functions.{again_faults, body_nesting, brace_of, function_as, function_by, function_named, main_faults, marked, new_function, no_value, noted_again, slot_of, walked_fun, walked_heading, walked_param, with_body, with_slot}
use Rattle.c_types.specs.InTurn.{each}
use Rattle.c_types.specs.Program.{start, walked_from, walked_top}
use Rattle.c_types.specs.Scopes.{declared, named, named_by, noted, spec_type, text_or_none, type_faults, with_scope}
use Rattle.c_types.specs.Structs.{Fields, alias_if, body_if, constant, field_more, field_named, field_turn, numbered, row_again, start_faults, start_noted, start_number, walked_body, walked_field, walked_fields, walked_global, walked_globals, walked_struct, with_row}
use Rattle.c_types.specs.Tables.{found}
use Rattle.c_types.proofs.Growing.{declared_grows}
use Rattle.c_types.proofs.Numbering.{first_empty}
use Rattle.c_types.proofs.Passing.{fields_grow, finished, head_types, headed, inside, inside_grows, left, no_home, numbered_grows, slotted, types_grow, types_of, with_params}
use Rattle.c_types.proofs.Standing.{Grows}
use Rattle.source_patcher.proofs.Named.{AreNamed}
use Rattle.source_patcher.proofs.SpelledBlocks.{SpecSpelled, VarSpelled, VarsSpelled, all_both, block_spelled, declared_spelled, named_rest, vars_kept, word_spelled}

-- structs: the fields of each body

abbrev pub FieldsSpelled : Fields → Type 0
FieldsSpelled = AllHave (λ (f : List ℕ × Written). Spelling f.0)

abbrev pub BodySpelled : Option ℕ → Fields → Type 0
BodySpelled None fields = Unit {0}
BodySpelled (Some at) fields = FieldsSpelled fields

abbrev pub RowSpelled : StructRow → Type 0
RowSpelled row = BodySpelled row.body row.fields

-- all that is declared so far, where no rule is broken
pub record Spelled (w : Walk) : Type 0 where
  pub vars : VarsSpelled w
  pub rows : w.faults ≡ [] → AllHave RowSpelled w.scope.structs

no_body : (row : StructRow) → row.body ≡ None → RowSpelled row
no_body row is = subst (λ (o : Option ℕ). BodySpelled o row.fields) (sym is) tt

no_bodies : (rows : List StructRow) → ((k : ℕ) (row : StructRow) → slice_get rows k ≡ Some row → row.body ≡ None) → AllHave RowSpelled rows
no_bodies [] none = tt
no_bodies (row ∷ rows) none = (no_body row (none 0 row refl), no_bodies rows (λ k r is. none (suc k) r is))

grown : (h : Home) (w u : Walk) → Grows h w u → VarsSpelled u → Spelled w → Spelled u
grown h w u g vars s = record {
  vars = vars;
  rows = λ clean. subst (AllHave RowSpelled) (sym g.structs) (all_both RowSpelled w.scope.structs g.more_structs (s.rows (g.clean clean)) (no_bodies g.more_structs g.bodiless));
}

grown_still : (h : Home) (w u : Walk) → Grows h w u → u.vars ≡ w.vars → Spelled w → Spelled u
grown_still h w u g same s = grown h w u g (vars_kept h w u g same s.vars) s

-- what declares neither variables nor structs
record Still (w u : Walk) : Type 0 where
  vars : u.vars ≡ w.vars
  rows : u.scope.structs ≡ w.scope.structs
  clean : u.faults ≡ [] → w.faults ≡ []

still_all : (w : Walk) → Still w w
still_all w = record { vars = refl; rows = refl; clean = λ e. e }

still_both : (w u v : Walk) → Still w u → Still u v → Still w v
still_both w u v a b = record { vars = b.vars ∙ a.vars; rows = b.rows ∙ a.rows; clean = λ e. a.clean (b.clean e) }

still_noted : (fs : List Fault) (w : Walk) → Still w (noted fs w)
still_noted fs w = record { vars = refl; rows = refl; clean = first_empty w.faults fs }

still_spelled : (w u : Walk) → Still w u → Spelled w → Spelled u
still_spelled w u a s = record {
  vars = λ clean. subst (AllHave VarSpelled) (sym a.vars) (s.vars (a.clean clean));
  rows = λ clean. subst (AllHave RowSpelled) (sym a.rows) (s.rows (a.clean clean));
}

-- names of functions

marked_still : (k : ℕ) (o : Option Signature) (w : Walk) → Still w (marked k o w)
marked_still k None w = still_all w
marked_still k (Some g) w = record { vars = refl; rows = refl; clean = λ e. e }

again_still : (n : Word) (body : Bool) (h : Heading) (o : Option Signature) (w : Walk) → Still w (noted_again n body h o w)
again_still n body h None w = still_all w
again_still n body h (Some g) w = still_noted (again_faults body h g n.at) w

body_still : (body : Bool) (k : ℕ) (w : Walk) → Still w (with_body body k w)
body_still true k w = marked_still k (slice_get w.signatures k) w
body_still false k w = still_all w

as_still : (n : Word) (body : Bool) (h : Heading) (m : Meaning) (w : Walk) → Still w (function_as n body h m w)
as_still n body h (meaning.Function k) w =
    let u = noted_again n body h (slice_get w.signatures k) w in
    still_both w u (with_body body k u) (again_still n body h (slice_get w.signatures k) w) (body_still body k u)
as_still n body h (meaning.Bad f) w = still_all w
as_still n body h (meaning.Variable m t) w = still_noted _ w
as_still n body h (meaning.Alias s) w = still_noted _ w

new_still : (n : Word) (body : Bool) (h : Heading) (w : Walk) → Still w (new_function n body h w)
new_still n body (heading.Bad f) w = record { vars = refl; rows = refl; clean = λ e. e }
new_still n body (heading.Good g) w = record { vars = refl; rows = refl; clean = λ e. e }

by_still : (n : Word) (body : Bool) (h : Heading) (o : Option Entry) (w : Walk) → Still w (function_by n body h o w)
by_still n body h None w = new_still n body h w
by_still n body h (Some e) w = as_still n body h e.meaning w

named_still : (h : Head) (body : Bool) (t : Heading) (o : Option Word) (w : Walk) → Still w (function_named h body t o w)
named_still h body t None w = still_noted _ w
named_still h body t (Some n) w =
    let u = noted (main_faults h n) w in
    still_both w u (function_by n body t (found w.scope.names n.text) u) (still_noted (main_faults h n) w) (by_still n body t (found w.scope.names n.text) u)

heading_spelled : (h : Head) (body : Bool) (w : Walk) → Spelled w → Spelled (walked_heading h body w).0
heading_spelled h body w s =
    let u = head_types h w in
    still_spelled u (walked_heading h body w).0 (named_still h body (types_of h w) h.result.name u) (grown_still no_home w u (types_grow no_home h w) refl s)

-- structs

more_fields : (n : Word) (t : Written) (rows : Fields) (o : Option Written) (w : Walk) → Spelling n.text → FieldsSpelled rows → FieldsSpelled (field_more n t rows o w).1
more_fields n t rows None w is all = all_both (λ (f : List ℕ × Written). Spelling f.0) rows ((n.text, t) ∷ []) all (is, tt)
more_fields n t rows (Some older) w is all = all

named_fields : (d : Spec) (t : Written) (rows : Fields) (o : Option Word) (w : Walk) → AnyHas (λ (x : Word). Spelling x.text) o → FieldsSpelled rows → FieldsSpelled (field_named d t rows o w).1
named_fields d t rows None w is all = all
named_fields d t rows (Some n) w is all = more_fields n t rows (found rows n.text) w is all

turned_fields : (ds : List Spec) (r : Walk × Fields) → AllHave SpecSpelled ds → FieldsSpelled r.1 → FieldsSpelled (fold field_turn r ds).1
turned_fields [] r is all = all
turned_fields (d ∷ ds) r is all =
    let t = spec_type d r.0.scope in
    turned_fields ds (walked_field d r.1 r.0) is.1 (named_fields d t.1 r.1 d.name (noted (type_faults t.1) (with_scope r.0 t.0)) is.0 all)

more_vars : (n : Word) (t : Written) (rows : Fields) (o : Option Written) (w : Walk) → (field_more n t rows o w).0.vars ≡ w.vars
more_vars n t rows None w = refl
more_vars n t rows (Some older) w = refl

named_vars : (d : Spec) (t : Written) (rows : Fields) (o : Option Word) (w : Walk) → (field_named d t rows o w).0.vars ≡ w.vars
named_vars d t rows None w = refl
named_vars d t rows (Some n) w = more_vars n t rows (found rows n.text) w

turned_vars : (ds : List Spec) (r : Walk × Fields) → (fold field_turn r ds).0.vars ≡ r.0.vars
turned_vars [] r = refl
turned_vars (d ∷ ds) r =
    let t = spec_type d r.0.scope in
    turned_vars ds (walked_field d r.1 r.0) ∙ named_vars d t.1 r.1 d.name (noted (type_faults t.1) (with_scope r.0 t.0))

all_set : {A : Type 0} (P : A → Type 0) (xs : List A) (k : ℕ) (y : A) → AllHave P xs → P y → AllHave P (slice_set xs k y)
all_set P [] k y all is = tt
all_set P (x ∷ xs) zero y all is = (is, all.1)
all_set P (x ∷ xs) (suc k) y all is = (all.0, all_set P xs k y all.1 is)

row_spelled : (k : ℕ) (row : StructRow) (w : Walk) → RowSpelled row → Spelled w → Spelled (with_row k row w)
row_spelled k row w is s = by_place (nat_lt k (length w.scope.structs))
  where
    by_place : (b : Bool) → Spelled (if b then with_scope w (record w.scope { structs = slice_set w.scope.structs k row }) else w)
    by_place true = record { vars = s.vars; rows = λ clean. all_set RowSpelled w.scope.structs k row (s.rows clean) is }
    by_place false = s

body_spelled : (tag : Option Word) (k : ℕ) (b : Body) (w : Walk) → AllHave SpecSpelled b.fields → Spelled w → Spelled (walked_body tag k b w)
body_spelled tag k b w is s =
    let fs = row_again (slice_get w.scope.structs k) tag in
    let u = noted fs w in
    let r = walked_fields b.fields u in
    row_spelled k (record { fields = r.1; body = Some b.at }) r.0 (turned_fields b.fields (u, []) is tt)
    (grown_still no_home u r.0 (fields_grow no_home b.fields (u, [])) (turned_vars b.fields (u, [])) (still_spelled w u (still_noted fs w) s))

any_body_spelled : (tag : Option Word) (k : ℕ) (o : Option Body) (w : Walk) → AnyHas (λ (b : Body). AllHave SpecSpelled b.fields) o → Spelled w → Spelled (body_if tag k o w)
any_body_spelled tag k None w is s = s
any_body_spelled tag k (Some b) w is s = body_spelled tag k b w is s

older_still : (n : Word) (e : Entry) (w : Walk) (o : Option Entry) → Still w (named_by n e w o)
older_still n e w None = record { vars = refl; rows = refl; clean = λ c. c }
older_still n e w (Some older) = still_noted _ w

alias_still : (k : ℕ) (o : Option Word) (w : Walk) → Still w (alias_if k o w)
alias_still k None w = still_all w
alias_still k (Some a) w = older_still a (record { meaning = meaning.Alias k; depth = 0 }) w (found w.scope.names a.text)

struct_spelled : (tag : Option Word) (body : Option Body) (alias : Option Word) (w : Walk) → AnyHas (λ (b : Body). AllHave SpecSpelled b.fields) body → Spelled w → Spelled (walked_struct tag body alias w)
struct_spelled tag body alias w is s =
    let r = numbered tag w.scope in
    let u = with_scope w r.0 in
    let v = body_if tag r.1 body u in
    still_spelled v (alias_if r.1 alias v) (alias_still r.1 alias v) (any_body_spelled tag r.1 body u is (grown_still no_home w u (numbered_grows no_home tag w) refl s))

-- variables of the file

declared_all : (d : Spec) (h : Home) (depth : ℕ) (w : Walk) → SpecSpelled d → Spelled w → Spelled (declared d h depth w).0
declared_all d h depth w is s = grown h w (declared d h depth w).0 (declared_grows d h depth w) (declared_spelled d h depth w is s.vars) s

value_still : (at : ℕ) (o : Option Expr) (r : Walk × Written) → Still r.0 (start_noted at o r)
value_still at None r = still_all r.0
value_still at (Some e) r = still_noted (start_faults r.1 at (constant e) (judged r.0.scope e false)) r.0

global_spelled : (d : GlobalDecl) (w : Walk) → SpecSpelled d.spec → Spelled w → Spelled (walked_global d w)
global_spelled d w is s =
    let h = home.Global (start_number d.value) in
    let r = declared d.spec h 0 w in
    still_spelled r.0 (walked_global d w) (value_still d.at d.value r) (declared_all d.spec h 0 w is s)

abbrev GlobalSpelled : GlobalDecl → Type 0
GlobalSpelled d = SpecSpelled d.spec

globals_spelled : (ds : List GlobalDecl) (w : Walk) → AllHave GlobalSpelled ds → Spelled w → Spelled (walked_globals w ds)
globals_spelled [] w is s = s
globals_spelled (d ∷ ds) w is s = globals_spelled ds (walked_global d w) is.1 (global_spelled d w is.0 s)

-- functions

params_spelled : (f : ℕ) (ds : List Spec) (w : Walk) → AllHave SpecSpelled ds → Spelled w → Spelled (each (walked_param f) ds w).0
params_spelled f [] w is s = s
params_spelled f (d ∷ ds) w is s = params_spelled f ds (walked_param f d w).0 is.1 (declared_all d (home.Param f) 1 w is.0 s)

slot_spelled : (t : Returned) (f at : ℕ) (w : Walk) → Spelled w → Spelled (with_slot t f at w)
slot_spelled returned.Nothing f at w s = s
slot_spelled (returned.Value t) f at w s = record { vars = λ clean. all_both VarSpelled w.vars (slot_of t f at ∷ []) (s.vars clean) (tt, tt); rows = s.rows }
slot_spelled (returned.Bad e) f at w s = s

-- the words of a file

optional_word : {o : Option Word} {ts us : List Token} → IsOptionalName o ts us → AreNamed ts → AnyHas (λ (w : Word). Spelling w.text) o
optional_word IsOptionalName.none all = tt
optional_word (IsOptionalName.named {n = n} {text = text} is) all = word_spelled n text Rest.here is all

param_word : {d : Spec} {ts us : List Token} → IsParam d ts us → AreNamed ts → SpecSpelled d
param_word (IsParam.param b stars o) all = optional_word o (named_rest (rest_more (base_rest b) (stars_rest stars)) all)

more_params_words : {ds : List Spec} {ts us : List Token} → IsMoreParams ds ts us → AreNamed ts → AllHave SpecSpelled ds
more_params_words (IsMoreParams.close is) all = tt
more_params_words (IsMoreParams.comma is d q) all = (param_word d all.1, more_params_words q (named_rest (param_rest d) all.1))

params_words : {ds : List Spec} {ts us : List Token} → IsParams ds ts us → AreNamed ts → AllHave SpecSpelled ds
params_words (IsParams.nothing is) all = tt
params_words (IsParams.void is_v is_t) all = tt
params_words (IsParams.some d q) all = (param_word d all, more_params_words q (named_rest (param_rest d) all))

head_words : {h : Head} {ts us : List Token} → IsHead h ts us → AreNamed ts → AllHave SpecSpelled h.params
head_words (IsHead.void is_t is_n is_o d) all = params_words d all.1.1.1
head_words (IsHead.value b stars is_n is_o d) all = params_words d (named_rest (rest_next (rest_next (rest_more (base_rest b) (stars_rest stars)))) all)

global_word : {b : Base} {f : Token} {d : GlobalDecl} {ts us : List Token} → IsGlobal b f d ts us → AreNamed ts → GlobalSpelled d
global_word (IsGlobal.bare {n = n} {text = text} stars is) all = word_spelled n text (stars_rest stars) is all
global_word (IsGlobal.given {n = n} {text = text} stars is put c) all = word_spelled n text (stars_rest stars) is all

globals_words : {b : Base} {f : Token} {ds : List GlobalDecl} {ts us : List Token} → IsGlobals b f ds ts us → AreNamed ts → AllHave GlobalSpelled ds
globals_words (IsGlobals.last d is) all = (global_word d all, tt)
globals_words (IsGlobals.more d is q) all = (global_word d all, globals_words q (named_rest (rest_next (global_rest d)) all))

field_names_words : {b : Base} {f : Token} {ds : List Spec} {ts us : List Token} → IsFieldNames b f ds ts us → AreNamed ts → AllHave SpecSpelled ds
field_names_words (IsFieldNames.last {n = n} {text = text} stars is is_t) all = (word_spelled n text (stars_rest stars) is all, tt)
field_names_words (IsFieldNames.more {n = n} {text = text} stars is is_t q) all =
    (word_spelled n text (stars_rest stars) is all, field_names_words q (named_rest (rest_next (rest_next (stars_rest stars))) all))

fields_words : {ds : List Spec} {ts us : List Token} → IsFields ds ts us → AreNamed ts → AllHave SpecSpelled ds
fields_words (IsFields.last b d is) all = field_names_words d (named_rest (base_rest b) all)
fields_words (IsFields.more {fields = ds} {others = others} b d q) all =
    let behind = named_rest (base_rest b) all in
    all_both SpecSpelled ds others (field_names_words d behind) (fields_words q (named_rest (field_names_rest d) behind))

body_words : {b : Body} {ts us : List Token} → IsStructBody b ts us → AreNamed ts → AllHave SpecSpelled b.fields
body_words (IsStructBody.body is d) all = fields_words d all.1

-- the file

module _ (p : Program) (puts : List Put) where
  function_spelled : {h : Head} {b : Block} {end : ℕ} {ts us vs : List Token} → IsHead h ts us → IsBlock b end us vs → AreNamed ts → (w : Walk) → Spelled w → Spelled (walked_fun h b w)
  function_spelled {h} {b} d q named w s =
      let f = length w.funs in
      let a = headed h b w in
      let ps = with_params h b w in
      let i = inside h b w in
      let at_params = params_spelled f h.params a.0 (head_words d named) (heading_spelled h true w s) in
      let at_end : Spelled i.0 =
      grown (home.Local f) ps.0 i.0 (inside_grows h b w) (block_spelled p puts q (named_rest (head_rest d) named) (body_nesting f a.1) ps.0 at_params.vars) at_params in
      let at_left : Spelled (left h b w) = record { vars = at_end.vars; rows = at_end.rows } in
      let at_slot = slot_spelled a.1 f (brace_of b) (left h b w) at_left in
      let fs = no_value a.1 (is_main (text_or_none h.result.name)) (flow_of i.1) (brace_of b) in
      let at_last = still_spelled (slotted h b w) (finished h b w) (still_noted fs (slotted h b w)) at_slot in
      record { vars = at_last.vars; rows = at_last.rows }

  top_spelled : {x : Top} {ts us : List Token} → IsTop x ts us → AreNamed ts → (w : Walk) → Spelled w → Spelled (walked_top w x)
  top_spelled (IsTop.alias {n = n} {m = m} {tag = tag} {text = text} is_t is_s is_n is_m is_e) named w s = struct_spelled (Some (word tag n)) None (Some (word text m)) w tt s
  top_spelled (IsTop.alias_of_body {m = m} {tag = tag} {text = text} {body = body} is_t is_s o d is_m is_e) named w s =
      struct_spelled tag (Some body) (Some (word text m)) w (body_words d (named_rest (optional_name_rest o) named.1.1)) s
  top_spelled (IsTop.tag {n = n} {text = text} is_s is_n is_e) named w s = struct_spelled (Some (word text n)) None None w tt s
  top_spelled (IsTop.tag_of_body {n = n} {text = text} {body = body} is_s is_n d is_e) named w s = struct_spelled (Some (word text n)) (Some body) None w (body_words d named.1.1) s
  top_spelled (IsTop.globals {decls = ds} b d) named w s = globals_spelled ds w (globals_words d (named_rest (base_rest b) named)) s
  top_spelled (IsTop.prototype {h = h} d is) named w s = heading_spelled h false w s
  top_spelled (IsTop.function d q) named w s = function_spelled d q named w s

  pub file_spelled : {tops : List Top} {ts : List Token} → IsFile tops ts → AreNamed ts → (w : Walk) → Spelled w → Spelled (walked_from w tops)
  file_spelled IsFile.done named w s = s
  file_spelled (IsFile.more {x = x} d q) named w s = file_spelled q (named_rest (top_rest d) named) (walked_top w x) (top_spelled d named w s)

pub start_spelled : (rows : List (List ℕ × ℕ)) → Spelled (start rows)
start_spelled rows = record { vars = λ clean. tt; rows = λ clean. tt }
