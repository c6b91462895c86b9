-- Declarations behind a walk without offsets.
use Rattle.std.proofs.Common.{◌≡◌, ℕ, ◌==◌, Bool, true, false, List, [], ◌∷◌, ◌++◌, length, map, Option, Some, None, option_map, if◌then◌else◌, refl, sym, ap, ◌∙◌}
use Rattle.std.proofs.lemmas.List.{length-map, map-append, take-map}
use Rattle.c_tree.specs.Alike.{bare_var}
use Rattle.c_tree.specs.declared.program.FunDef.{FunDef}
use Rattle.c_tree.specs.declared.program.Home.{Home}
use Rattle.c_tree.specs.declared.program.Ty.{Ty}
use Rattle.c_tree.specs.declared.program.VarDef.{VarDef}
use Rattle.c_tree.specs.declared.tree.Base.{Base}
use Rattle.c_tree.specs.declared.tree.Base.TheVariants as base
use Rattle.c_tree.specs.declared.tree.Spec.{Spec}
use Rattle.c_tree.specs.declared.tree.Word.{Word}
use Rattle.c_parser.specs.Alike.{moved_base, moved_spec, moved_word}
use Rattle.c_parser.proofs.PrintedStatements.{none_at}
use Rattle.c_tree.proofs.Rebuilds.{Layers, rebuilt}
use Rattle.c_tree.specs.Alike.{bare_gap}
use Rattle.c_tree.specs.declared.program.Block.{Block as MadeBlock}
use Rattle.c_types.specs.declared.faults.Fault.{Fault}
use Rattle.c_types.specs.declared.faults.Rule.TheVariants as rule
use Rattle.c_types.specs.declared.scope.BaseType.{BaseType}
use Rattle.c_types.specs.declared.scope.BaseType.TheVariants as type
use Rattle.c_types.specs.declared.scope.Entry.{Entry}
use Rattle.c_types.specs.declared.scope.Meaning.{Meaning}
use Rattle.c_types.specs.declared.scope.Meaning.TheVariants as meaning
use Rattle.c_types.specs.declared.scope.Nesting.{Nesting}
use Rattle.c_types.specs.declared.scope.Returned.{Returned}
use Rattle.c_types.specs.declared.scope.Returned.TheVariants as returned
use Rattle.c_types.specs.declared.scope.Scope.{Scope}
use Rattle.c_types.specs.declared.scope.Walk.{Walk}
use Rattle.c_types.specs.declared.scope.Written.{Written}
use Rattle.c_types.specs.declared.scope.Written.TheVariants.{Good, Bad}
use Rattle.c_types.specs.Fits.{fault}
use Rattle.c_types.specs.InTurn.{each, optional}
use Rattle.c_types.specs.Scopes.{alias_as, alias_by, based, clash, closed, declared, good_type, named, named_any, named_by, named_if, naming, new_struct, noted, or_int, result_of, result_type, spec_type, tagged, tagged_by, text_or_none, type_faults, untagged, value_or_bad, value_type, var_of, variable_meaning, variable_named, with_name, with_scope, with_var, word_or, written}
use Rattle.c_types.specs.Tables.{found}
use Rattle.source_patcher.proofs.BareFlow.{layers_by}
use Rattle.source_patcher.proofs.Offsets.{bare_entry, bare_fault, bare_row, bare_scope, bare_written, found_rows, row_with}

-- walks without offsets

abbrev pub bare_returned : Returned → Returned
bare_returned returned.Nothing = returned.Nothing
bare_returned (returned.Value t) = returned.Value t
bare_returned (returned.Bad f) = returned.Bad (bare_fault f)

abbrev pub bare_nesting : Nesting → Nesting
bare_nesting n = record { function = n.function; returns = bare_returned n.returns; depth = n.depth; in_loop = n.in_loop }

-- a block without its offsets, with its braces
abbrev pub placeless_layers : Layers
placeless_layers = layers_by (λ b. b) bare_gap

abbrev pub placeless : MadeBlock → MadeBlock
placeless = (rebuilt placeless_layers).block

abbrev pub placeless_fun : FunDef → FunDef
placeless_fun d = record d { body = placeless d.body; at = 0 }

abbrev pub bare_walk : Walk → Walk
bare_walk w = record {
  scope = bare_scope w.scope;
  definitions = map (row_with (λ (at : ℕ). 0)) w.definitions;
  signatures = w.signatures;
  vars = map bare_var w.vars;
  funs = map placeless_fun w.funs;
  gaps = w.gaps;
  calls = w.calls;
  faults = map bare_fault w.faults;
}

abbrev pub bare_pair : {S A : Type 0} → (S → S) → (A → A) → S × A → S × A
bare_pair f g r = (f r.0, g r.1)

-- what a walk does to a part doesn't hang on offsets: new does behind a bare walk what old does, but for offsets
abbrev pub IsBare : {A : Type 0} → (A → A) → (Walk → Walk × A) → (Walk → Walk × A) → Type 0
IsBare g new old = (w : Walk) → new (bare_walk w) ≡ bare_pair bare_walk g (old w)

pub each_bare : {S A B : Type 0} (h : S → S) (m : A → A) (g : B → B) (new old : A → S → S × B) → ((x : A) (w : S) → new (m x) (h w) ≡ bare_pair h g (old x w)) → (xs : List A) (w : S)
    → each new (map m xs) (h w) ≡ bare_pair h (map g) (each old xs w)
each_bare h m g new old one [] w = refl
each_bare h m g new old one (x ∷ xs) w =
    let r = old x w in
    ap (λ q. let s = each new (map m xs) q.0 in (s.0, q.1 ∷ s.1)) (one x w) ∙ ap (λ s. (s.0, g r.1 ∷ s.1)) (each_bare h m g new old one xs r.0)

pub optional_bare : {S A B : Type 0} (h : S → S) (m : A → A) (g : B → B) (new old : A → S → S × B) → ((x : A) (w : S) → new (m x) (h w) ≡ bare_pair h g (old x w)) → (o : Option A) (w : S)
    → optional new (option_map m o) (h w) ≡ bare_pair h (option_map g) (optional old o w)
optional_bare h m g new old one None w = refl
optional_bare h m g new old one (Some x) w = ap (λ q. (q.0, Some q.1)) (one x w)

pub noted_bare : (fs : List Fault) (w : Walk) → noted (map bare_fault fs) (bare_walk w) ≡ bare_walk (noted fs w)
noted_bare fs w = ap (λ gs. record (bare_walk w) { faults = gs }) (sym (map-append bare_fault w.faults fs))

pub noted_as : (gs fs : List Fault) (w : Walk) → gs ≡ map bare_fault fs → noted gs (bare_walk w) ≡ bare_walk (noted fs w)
noted_as gs fs w is = ap (λ hs. noted hs (bare_walk w)) is ∙ noted_bare fs w

pub closed_bare : (n : ℕ) (w : Walk) → closed n (bare_walk w) ≡ bare_walk (closed n w)
closed_bare n w = ap (λ rows. with_scope (bare_walk w) (record (bare_scope w.scope) { names = rows })) (take-map (row_with bare_entry) n w.scope.names)

pub names_long : (w : Walk) → length (bare_walk w).scope.names ≡ length w.scope.names
names_long w = length-map w.scope.names (row_with bare_entry)

-- types as they are written

abbrev pub bare_type : BaseType → BaseType
bare_type type.Void = type.Void
bare_type type.Int = type.Int
bare_type (type.Struct n) = type.Struct n
bare_type (type.Bad f) = type.Bad (bare_fault f)

new_more : (s : Scope) (tags : List (List ℕ × ℕ)) → record (bare_scope s) { tags = tags; structs = map bare_row s.structs ++ new_struct ∷ [] } ≡ bare_scope (record s { tags = tags; structs = s.structs ++ new_struct ∷ [] })
new_more s tags = ap (λ rows. record (bare_scope s) { tags = tags; structs = rows }) (sym (map-append bare_row s.structs (new_struct ∷ [])))

pub untagged_bare : (s : Scope) → untagged (bare_scope s) ≡ bare_pair bare_scope (λ n. n) (untagged s)
untagged_bare s = ap (λ n. (record (bare_scope s) { structs = map bare_row s.structs ++ new_struct ∷ [] }, n)) (length-map s.structs bare_row) ∙ ap (λ z. (z, length s.structs)) (new_more s s.tags)

tagged_case : (w : Word) (s : Scope) (o : Option ℕ) → tagged_by (moved_word none_at w) (bare_scope s) o ≡ bare_pair bare_scope (λ n. n) (tagged_by w s o)
tagged_case w s (Some n) = refl
tagged_case w s None =
    ap (λ n. (record (bare_scope s) { tags = s.tags ++ (w.text, n) ∷ []; structs = map bare_row s.structs ++ new_struct ∷ [] }, n)) (length-map s.structs bare_row)
    ∙ ap (λ z. (z, length s.structs)) (new_more s (s.tags ++ (w.text, length s.structs) ∷ []))

pub tagged_bare : (w : Word) (s : Scope) → tagged (moved_word none_at w) (bare_scope s) ≡ bare_pair bare_scope (λ n. n) (tagged w s)
tagged_bare w s = tagged_case w s (found s.tags w.text)

alias_case : (w : Word) (m : Meaning) → alias_as (moved_word none_at w) (bare_entry (record { meaning = m; depth = 0 })).meaning ≡ bare_type (alias_as w m)
alias_case w (meaning.Alias n) = refl
alias_case w (meaning.Bad f) = refl
alias_case w (meaning.Variable n t) = refl
alias_case w (meaning.Function n) = refl

alias_entry : (w : Word) (o : Option Entry) → alias_by (moved_word none_at w) (option_map bare_entry o) ≡ bare_type (alias_by w o)
alias_entry w None = refl
alias_entry w (Some e) = alias_case w e.meaning

pub based_bare : (b : Base) (s : Scope) → based (moved_base none_at b) (bare_scope s) ≡ bare_pair bare_scope bare_type (based b s)
based_bare base.Void s = refl
based_bare base.Int s = refl
based_bare (base.Tag w) s = ap (λ r. (r.0, type.Struct r.1)) (tagged_bare w s)
based_bare (base.Alias w) s = ap (λ o. (bare_scope s, alias_by (moved_word none_at w) o)) (found_rows bare_entry s.names w.text) ∙ ap (λ t. (bare_scope s, t)) (alias_entry w (found s.names w.text))

naming_case : (d : Spec) (o : Option Word) → word_or (option_map (moved_word none_at) o) 0 ≡ 0
naming_case d None = refl
naming_case d (Some w) = refl

pub naming_bare : (d : Spec) → naming (moved_spec none_at d) ≡ 0
naming_bare d = naming_case d d.name

good_bare : (d : Spec) (o : Option Ty) → good_type (moved_spec none_at d) o ≡ bare_written (good_type d o)
good_bare d (Some t) = refl
good_bare d None = ap (λ n. Bad (fault rule.NoValues n)) (naming_bare d)

pub written_bare : (d : Spec) (t : BaseType) → written (moved_spec none_at d) (bare_type t) ≡ bare_written (written d t)
written_bare d (type.Bad f) = refl
written_bare d type.Void = good_bare d (value_type type.Void d.stars)
written_bare d type.Int = good_bare d (value_type type.Int d.stars)
written_bare d (type.Struct n) = good_bare d (value_type (type.Struct n) d.stars)

pub spec_bare : (d : Spec) (s : Scope) → spec_type (moved_spec none_at d) (bare_scope s) ≡ bare_pair bare_scope bare_written (spec_type d s)
spec_bare d s = let r = based d.base s in ap (λ q. (q.0, written (moved_spec none_at d) q.1)) (based_bare d.base s) ∙ ap (λ t. (bare_scope r.0, t)) (written_bare d r.1)

value_bad : (t : Written) → value_or_bad (bare_written t) ≡ bare_returned (value_or_bad t)
value_bad (Good t) = refl
value_bad (Bad f) = refl

nothing_case : (d : Spec) (b : Bool) → (if b then returned.Nothing else returned.Bad (fault rule.NoValues (naming (moved_spec none_at d)))) ≡ bare_returned (if b then returned.Nothing else returned.Bad (fault rule.NoValues (naming d)))
nothing_case d true = refl
nothing_case d false = ap (λ n. returned.Bad (fault rule.NoValues n)) (naming_bare d)

result_case : (d : Spec) (t : BaseType) → result_of (moved_spec none_at d) (bare_type t) ≡ bare_returned (result_of d t)
result_case d type.Void = nothing_case d (d.stars == 0)
result_case d type.Int = ap value_or_bad (written_bare d type.Int) ∙ value_bad (written d type.Int)
result_case d (type.Struct n) = ap value_or_bad (written_bare d (type.Struct n)) ∙ value_bad (written d (type.Struct n))
result_case d (type.Bad f) = refl

pub result_bare : (d : Spec) (s : Scope) → result_type (moved_spec none_at d) (bare_scope s) ≡ bare_pair bare_scope bare_returned (result_type d s)
result_bare d s = let r = based d.base s in ap (λ q. (q.0, result_of (moved_spec none_at d) q.1)) (based_bare d.base s) ∙ ap (λ t. (bare_scope r.0, t)) (result_case d r.1)

pub type_faults_bare : (t : Written) → type_faults (bare_written t) ≡ map bare_fault (type_faults t)
type_faults_bare (Good t) = refl
type_faults_bare (Bad f) = refl

-- names

pub name_more : (n : Word) (e : Entry) (w : Walk) → with_name (moved_word none_at n) (bare_entry e) (bare_walk w) ≡ bare_walk (with_name n e w)
name_more n e w = ap (λ rows. with_scope (bare_walk w) (record (bare_scope w.scope) { names = rows })) (sym (map-append (row_with bare_entry) w.scope.names ((n.text, e) ∷ [])))

clash_case : (n : Word) (depth : ℕ) (e : Entry) → (fault (clash depth (bare_entry e)) 0) ≡ bare_fault (fault (clash depth e) n.at)
clash_case n depth e = refl

named_case : (n : Word) (e : Entry) (w : Walk) (o : Option Entry) → named_by (moved_word none_at n) (bare_entry e) (bare_walk w) (option_map bare_entry o) ≡ bare_walk (named_by n e w o)
named_case n e w None = name_more n e w
named_case n e w (Some older) = noted_bare (fault (clash e.depth older) n.at ∷ []) w

pub named_bare : (n : Word) (e : Entry) (w : Walk) → named (moved_word none_at n) (bare_entry e) (bare_walk w) ≡ bare_walk (named n e w)
named_bare n e w = ap (named_by (moved_word none_at n) (bare_entry e) (bare_walk w)) (found_rows bare_entry w.scope.names n.text) ∙ named_case n e w (found w.scope.names n.text)

named_option : (d : Spec) (e : Entry) (w : Walk) (o : Option Word) → named_if (moved_spec none_at d) (bare_entry e) (bare_walk w) (option_map (moved_word none_at) o) ≡ bare_walk (named_if d e w o)
named_option d e w None = noted_bare (fault rule.Nameless d.at ∷ []) w
named_option d e w (Some n) = named_bare n e w

pub text_bare : (o : Option Word) → text_or_none (option_map (moved_word none_at) o) ≡ text_or_none o
text_bare None = refl
text_bare (Some n) = refl

pub int_bare : (t : Written) → or_int (bare_written t) ≡ or_int t
int_bare (Good t) = refl
int_bare (Bad f) = refl

var_bare : (d : Spec) (t : Written) (h : Home) → var_of (moved_spec none_at d) (bare_written t) h ≡ bare_var (var_of d t h)
var_bare d t h =
    ap (λ text. record { name = text; ty = or_int (bare_written t); home = h; at = naming (moved_spec none_at d) }) (text_bare d.name)
    ∙ ap (λ u. record { name = text_or_none d.name; ty = u; home = h; at = naming (moved_spec none_at d) }) (int_bare t)
    ∙ ap (λ n. record { name = text_or_none d.name; ty = or_int t; home = h; at = n }) (naming_bare d)

pub var_more : (v : VarDef) (w : Walk) → with_var (bare_var v) (bare_walk w) ≡ bare_walk (with_var v w)
var_more v w = ap (λ vs. record (bare_walk w) { vars = vs }) (sym (map-append bare_var w.vars (v ∷ [])))

meaning_case : (n : ℕ) (t : Written) (depth : ℕ) → record { meaning = variable_meaning n (bare_written t); depth = depth } ≡ bare_entry (record { meaning = variable_meaning n t; depth = depth })
meaning_case n (Good t) depth = refl
meaning_case n (Bad f) depth = refl

pub declared_bare : (d : Spec) (h : Home) (depth : ℕ) → IsBare bare_written (declared (moved_spec none_at d) h depth) (declared d h depth)
declared_bare d h depth w =
    let r = spec_type d w.scope in
    let n = length w.vars in
    let m = moved_spec none_at d in
    let v = with_var (var_of d r.1 h) (with_scope w r.0) in
    let e : Entry = record { meaning = variable_meaning n r.1; depth = depth } in
    let vars : length (map bare_var w.vars) ≡ n = length-map w.vars bare_var in
    let more : Walk → Written → ℕ → Walk × Written = λ u t k. (variable_named m depth t k u, t) in
    ap (λ q. more (with_var (var_of m q.1 h) (with_scope (bare_walk w) q.0)) q.1 (length (map bare_var w.vars))) (spec_bare d w.scope)
    ∙ ap (λ k. more (with_var (var_of m (bare_written r.1) h) (with_scope (bare_walk w) (bare_scope r.0))) (bare_written r.1) k) vars
    ∙ ap (λ x. more (with_var x (with_scope (bare_walk w) (bare_scope r.0))) (bare_written r.1) n) (var_bare d r.1 h)
    ∙ ap (λ u. more u (bare_written r.1) n) (var_more (var_of d r.1 h) (with_scope w r.0))
    ∙ ap (λ x. (named_any m x (noted (type_faults (bare_written r.1)) (bare_walk v)), bare_written r.1)) (meaning_case n r.1 depth)
    ∙ ap (λ u. (named_any m (bare_entry e) u, bare_written r.1)) (noted_as (type_faults (bare_written r.1)) (type_faults r.1) v (type_faults_bare r.1))
    ∙ ap (λ u. (u, bare_written r.1)) (named_option d e (noted (type_faults r.1) v) d.name)
