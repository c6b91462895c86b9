-- Each tree that generates tokens is what is read of them.
use Rattle.std.proofs.Common.{◌≡◌, ℕ, zero, suc, ◌≤◌, ◌<◌, Bool, true, false, List, [], ◌∷◌, ◌++◌, drop, Option, Some, None, length, refl, sym, ap, ◌∙◌, append_assoc, append-nil, arith}
use Rattle.c_lexer.specs.declared.token.Token.{Token}
use Rattle.c_lexer.specs.declared.token.Tokens.{Tokens}
use Rattle.c_lexer.specs.declared.token.Kind.{Kind}
use Rattle.c_lexer.specs.declared.token.Kind.TheVariants as kind
use Rattle.c_tree.specs.declared.tree.Base.{Base}
use Rattle.c_tree.specs.declared.tree.Block.{Block}
use Rattle.c_tree.specs.declared.tree.Body.{Body}
use Rattle.c_tree.specs.declared.tree.Expr.{Expr}
use Rattle.c_tree.specs.declared.tree.GlobalDecl.{GlobalDecl}
use Rattle.c_tree.specs.declared.tree.Head.{Head}
use Rattle.c_tree.specs.declared.tree.Spec.{Spec}
use Rattle.c_tree.specs.declared.tree.Top.{Top}
use Rattle.c_tree.specs.declared.tree.Top.TheVariants as top
use Rattle.c_tree.specs.declared.tree.Tree.{Tree}
use Rattle.c_tree.specs.declared.tree.Word.{Word}
use Rattle.c_parser.specs.Declarators.{IsBase, IsStars, IsOptionalName, spec}
use Rattle.c_parser.specs.Blocks.{IsBlock}
use Rattle.c_parser.specs.Grammar.{Generates, IsFile, IsTop, IsHead, IsParams, IsMoreParams, IsParam, IsGlobals, IsGlobal, IsConst, IsStructBody, IsFields, IsFieldNames}
use Rattle.c_parser.specs.ReadExpressions.{name_in}
use Rattle.c_parser.specs.ReadStatements.{is_decl, read_base, read_stars, read_starred}
use Rattle.c_parser.specs.ReadFile.{begins_head, is_struct, read_optional, read_field_names, read_fields, read_struct_body, read_const, read_global, read_globals, read_param, read_more_params, read_params, read_params_at, read_typedef, read_tag, read_after_head, read_head, read_void, read_outer, read_top, read_file, read_tree}
use Rattle.c_parser.specs.Term.{kind_term, next, same, sees, term_of, word}
use Rattle.c_parser.specs.declared.term.Term.{Term}
use Rattle.c_parser.specs.declared.term.Term.TheVariants as term
use Rattle.c_parser.proofs.Terms.{name_term, number_term, same_self}
use Rattle.c_parser.proofs.Shorter.{base_shorter, stars_shorter, field_names_shorter, fields_shorter, global_shorter, globals_shorter, param_shorter, more_params_shorter, head_shorter, top_shorter}
use Rattle.c_parser.proofs.CompleteExpressions.{want_is}
use Rattle.c_parser.proofs.CompleteStatements.{base_complete, stars_complete, stars_begin, name_not_star, ends_declr, declr_not_put}
use Rattle.c_parser.proofs.CompleteBlocks.{block_complete}

-- types and names

abbrev begins_base : Term → Bool
begins_base term.Int = true
begins_base term.Struct = true
begins_base term.Name = true
begins_base _ = false

base_begins : {b : Base} {ts us : List Token} → IsBase b ts us → begins_base (next ts) ≡ true
base_begins (IsBase.int is) = rw is
base_begins (IsBase.tag is name) = rw is
base_begins (IsBase.alias {t = t} name) = rw (name_term t _ name)

stars_read : {stars : ℕ} {ts us : List Token} → IsStars stars ts us → sees term.Star us ≡ false → read_stars ts ≡ (stars, us)
stars_read {ts = []} IsStars.none apart = refl
stars_read {ts = t ∷ ts} IsStars.none apart = rw apart
stars_read {ts = t ∷ ts} (IsStars.star is) apart = rw (is, same_self term.Star)

no_name : (k : Kind) → same term.Name (kind_term k) ≡ false → name_in k ≡ None
unfolding same
no_name (kind.Name text) apart = absurd (cc)
no_name _ apart = refl

token_no_name : (t : Token) → same term.Name (term_of t) ≡ false → name_in t.kind ≡ None
unfolding term_of
token_no_name t apart = no_name t.kind apart

no_optional : (ts : List Token) → sees term.Name ts ≡ false → read_optional ts ≡ (None, ts)
no_optional [] apart = refl
no_optional (t ∷ ts) apart = rw (token_no_name t apart)

optional_read : {name : Option Word} {ts us : List Token} → IsOptionalName name ts us → sees term.Name us ≡ false → read_optional ts ≡ (name, us)
optional_read {us = us} IsOptionalName.none apart = no_optional us apart
optional_read (IsOptionalName.named name) apart = rw name

optional_not_star : {name : Option Word} {ts us : List Token} → IsOptionalName name ts us → sees term.Star us ≡ false → sees term.Star ts ≡ false
optional_not_star IsOptionalName.none apart = apart
optional_not_star (IsOptionalName.named {n = n} {text = text} name) apart = name_not_star n text name

-- struct bodies

last_name_read : (s : Spec) (n : ℕ) (front : List Spec) (ts : List Token) {stars : ℕ} {w : Word} (t : Token) (us : List Token)
    → read_starred ts ≡ Some ((stars, w), t ∷ us) → term_of t ≡ term.Semicolon
    → read_field_names s (suc n) front ts ≡ Some (front ++ record s { stars = stars; name = Some w } ∷ [], us)
unfolding read_field_names
last_name_read s n front ts t us read is = rw (read, is)

more_names_read : (s : Spec) (n : ℕ) (front others : List Spec) (ts : List Token) {stars : ℕ} {w : Word} {vs : List Token} (t : Token) (us : List Token)
    → read_starred ts ≡ Some ((stars, w), t ∷ us) → term_of t ≡ term.Comma
    → read_field_names s n (front ++ record s { stars = stars; name = Some w } ∷ []) us ≡ Some ((front ++ record s { stars = stars; name = Some w } ∷ []) ++ others, vs)
    → read_field_names s (suc n) front ts ≡ Some (front ++ record s { stars = stars; name = Some w } ∷ others, vs)
unfolding read_field_names
more_names_read s n front others ts {stars = stars} {w = w} {vs = vs} t us read is behind =
    rw (read, is) (behind ∙ ap (λ l. Some (l, vs)) (append_assoc front (record s { stars = stars; name = Some w } ∷ []) others))

field_names_complete : {b : Base} {f : Token} {fields : List Spec} {ts us : List Token} → IsFieldNames b f fields ts us → (n : ℕ) → length ts ≤ n → (front : List Spec)
    → read_field_names (spec b f 0 None) n front ts ≡ Some (front ++ fields, us)
field_names_complete d zero more front = absurd (omega (arith, more, field_names_shorter d))
field_names_complete {b = b} {f = f} (IsFieldNames.last {t = t} {ts = ts} {us = us} stars name is) (suc n) more front =
    last_name_read (spec b f 0 None) n front ts t us (stars_complete stars name) is
field_names_complete {b = b} {f = f} (IsFieldNames.more {n = m} {t = t} {stars = count} {text = text} {others = others} {ts = ts} {us = us} stars name is q) (suc n) more front =
    more_names_read (spec b f 0 None) n front others ts t us (stars_complete stars name) is
    (field_names_complete q n (omega (arith, more, stars_shorter stars)) (front ++ spec b f count (Some (word text m)) ∷ []))

last_field_read : {s : Spec} {us vs : List Token} (n : ℕ) (front fields : List Spec) (ts : List Token) (c : Token) → read_base ts ≡ Some (s, us)
    → read_field_names s (length us) front us ≡ Some (front ++ fields, c ∷ vs) → term_of c ≡ term.CloseBrace → read_fields (suc n) front ts ≡ Some (front ++ fields, vs)
unfolding read_fields
last_field_read n front fields ts c first names is = rw (first, names, is, same_self term.CloseBrace)

more_fields_read : {s : Spec} {us vs ws : List Token} (n : ℕ) (front fields others : List Spec) (ts : List Token) → read_base ts ≡ Some (s, us)
    → read_field_names s (length us) front us ≡ Some (front ++ fields, vs) → sees term.CloseBrace vs ≡ false → read_fields n (front ++ fields) vs ≡ Some ((front ++ fields) ++ others, ws)
    → read_fields (suc n) front ts ≡ Some (front ++ (fields ++ others), ws)
unfolding read_fields
more_fields_read {ws = ws} n front fields others ts first names apart behind =
    rw (first, names, apart) (behind ∙ ap (λ l. Some (l, ws)) (append_assoc front fields others))

base_goes : (x : Term) → begins_base x ≡ true → same term.CloseBrace x ≡ false
unfolding same
base_goes term.CloseBrace is = absurd (cc)
base_goes _ is = refl

pub fields_go : {fields : List Spec} {ts us : List Token} → IsFields fields ts us → sees term.CloseBrace ts ≡ false
fields_go {ts = ts} (IsFields.last b d close) = base_goes (next ts) (base_begins b)
fields_go {ts = ts} (IsFields.more b d q) = base_goes (next ts) (base_begins b)

fields_complete : {fields : List Spec} {ts us : List Token} → IsFields fields ts us → (n : ℕ) → length ts ≤ n → (front : List Spec) → read_fields n front ts ≡ Some (front ++ fields, us)
fields_complete d zero more front = absurd (omega (arith, more, fields_shorter d))
fields_complete (IsFields.last {f = f} {c = c} {fields = fields} {ts = ts} {us = us} b d close) (suc n) more front =
    last_field_read n front fields (f ∷ ts) c (base_complete b) (field_names_complete d (length us) (omega arith) front) close
fields_complete (IsFields.more {f = f} {fields = fields} {others = others} {ts = ts} {us = us} b d q) (suc n) more front =
    more_fields_read n front fields others (f ∷ ts) (base_complete b) (field_names_complete d (length us) (omega arith) front) (fields_go q)
    (fields_complete q n (omega (arith, more, base_shorter b, field_names_shorter d)) (front ++ fields))

struct_body_complete : {b : Body} {ts us : List Token} → IsStructBody b ts us → read_struct_body ts ≡ Some (b, us)
unfolding read_struct_body
struct_body_complete (IsStructBody.body {o = o} {ts = ts} is d) = rw (want_is term.OpenBrace o ts is, fields_complete d (length ts) (omega arith) [])

struct_body_begins : {b : Body} {ts us : List Token} → IsStructBody b ts us → next ts ≡ term.OpenBrace
struct_body_begins (IsStructBody.body is d) = is

-- globals

const_complete : {e : Expr} {ts us : List Token} → IsConst e ts us → read_const ts ≡ Some (e, us)
unfolding read_const
const_complete (IsConst.number {t = t} is) = rw (number_term t _ is, is)
const_complete (IsConst.minus is number) = rw (is, number)
const_complete (IsConst.null is) = rw is
const_complete (IsConst.eof is) = rw is

global_complete : {b : Base} {f : Token} {g : GlobalDecl} {t : Token} {ts us : List Token} → IsGlobal b f g ts (t ∷ us) → ends_declr (term_of t) ≡ true
    → read_global (spec b f 0 None) ts ≡ Some (g, t ∷ us)
unfolding read_global
global_complete {t = t} (IsGlobal.bare stars name) ends = rw (stars_complete stars name, declr_not_put (term_of t) ends)
global_complete (IsGlobal.given stars name put d) ends = rw (stars_complete stars name, put, same_self term.Put, const_complete d)

last_global_read : {g : GlobalDecl} (s : Spec) (n : ℕ) (front : List GlobalDecl) (ts : List Token) (t : Token) (us : List Token) → read_global s ts ≡ Some (g, t ∷ us)
    → term_of t ≡ term.Semicolon → read_globals s (suc n) front ts ≡ Some (front ++ g ∷ [], us)
unfolding read_globals
last_global_read s n front ts t us read is = rw (read, is)

more_globals_read : {g : GlobalDecl} {vs : List Token} (s : Spec) (n : ℕ) (front others : List GlobalDecl) (ts : List Token) (t : Token) (us : List Token)
    → read_global s ts ≡ Some (g, t ∷ us) → term_of t ≡ term.Comma → read_globals s n (front ++ g ∷ []) us ≡ Some ((front ++ g ∷ []) ++ others, vs)
    → read_globals s (suc n) front ts ≡ Some (front ++ g ∷ others, vs)
unfolding read_globals
more_globals_read {g = g} {vs = vs} s n front others ts t us read is behind = rw (read, is) (behind ∙ ap (λ l. Some (l, vs)) (append_assoc front (g ∷ []) others))

globals_complete : {b : Base} {f : Token} {gs : List GlobalDecl} {ts us : List Token} → IsGlobals b f gs ts us → (n : ℕ) → length ts ≤ n → (front : List GlobalDecl)
    → read_globals (spec b f 0 None) n front ts ≡ Some (front ++ gs, us)
globals_complete d zero more front = absurd (omega (arith, more, globals_shorter d))
globals_complete {b = b} {f = f} (IsGlobals.last {t = t} {ts = ts} {us = us} d is) (suc n) more front =
    last_global_read (spec b f 0 None) n front ts t us (global_complete d (ap ends_declr is)) is
globals_complete {b = b} {f = f} (IsGlobals.more {g = g} {others = others} {t = t} {ts = ts} {us = us} d is q) (suc n) more front =
    more_globals_read (spec b f 0 None) n front others ts t us (global_complete d (ap ends_declr is)) is
    (globals_complete q n (omega (arith, more, global_shorter d)) (front ++ g ∷ []))

-- parameters

-- what stands behind a parameter
abbrev pub ends_param : Term → Bool
ends_param term.Comma = true
ends_param term.Close = true
ends_param _ = false

param_not_star : (x : Term) → ends_param x ≡ true → same term.Star x ≡ false
unfolding same
param_not_star term.Star is = absurd (cc)
param_not_star _ is = refl

param_not_name : (x : Term) → ends_param x ≡ true → same term.Name x ≡ false
unfolding same
param_not_name term.Name is = absurd (cc)
param_not_name _ is = refl

param_complete : {p : Spec} {ts us : List Token} → IsParam p ts us → ends_param (next us) ≡ true → read_param ts ≡ Some (p, us)
unfolding read_param
param_complete {us = us} (IsParam.param b stars name) ends =
    rw (base_complete b, stars_read stars (optional_not_star name (param_not_star (next us) ends)), optional_read name (param_not_name (next us) ends))

pub more_params_end : {ps : List Spec} {ts us : List Token} → IsMoreParams ps ts us → ends_param (next ts) ≡ true
more_params_end (IsMoreParams.close is) = rw is
more_params_end (IsMoreParams.comma is d q) = rw is

close_read : (n : ℕ) (front : List Spec) (t : Token) (ts : List Token) → term_of t ≡ term.Close → read_more_params (suc n) front (t ∷ ts) ≡ Some (front ++ [], ts)
unfolding read_more_params
close_read n front t ts is = rw (append-nil front, is)

comma_read : {p : Spec} {us vs : List Token} (n : ℕ) (front others : List Spec) (t : Token) (ts : List Token) → term_of t ≡ term.Comma → read_param ts ≡ Some (p, us)
    → read_more_params n (front ++ p ∷ []) us ≡ Some ((front ++ p ∷ []) ++ others, vs) → read_more_params (suc n) front (t ∷ ts) ≡ Some (front ++ p ∷ others, vs)
unfolding read_more_params
comma_read {p = p} {vs = vs} n front others t ts is read behind = rw (is, read) (behind ∙ ap (λ l. Some (l, vs)) (append_assoc front (p ∷ []) others))

more_params_complete : {ps : List Spec} {ts us : List Token} → IsMoreParams ps ts us → (n : ℕ) → length ts ≤ n → (front : List Spec) → read_more_params n front ts ≡ Some (front ++ ps, us)
more_params_complete d zero more front = absurd (omega (arith, more, more_params_shorter d))
more_params_complete (IsMoreParams.close {t = t} {ts = ts} is) (suc n) more front = close_read n front t ts is
more_params_complete (IsMoreParams.comma {t = t} {p = p} {others = others} {ts = ts} is d q) (suc n) more front =
    comma_read n front others t ts is (param_complete d (more_params_end q)) (more_params_complete q n (omega (arith, more, param_shorter d)) (front ++ p ∷ []))

some_params : (x : Term) (ts : List Token) → begins_base x ≡ true → {p : Spec} {ps : List Spec} {us vs : List Token} → read_param ts ≡ Some (p, us)
    → read_more_params (length ts) (p ∷ []) us ≡ Some (ps, vs) → read_params_at x ts ≡ Some (ps, vs)
some_params term.Close ts begins first behind = absurd (cc)
some_params term.Void ts begins first behind = absurd (cc)
some_params _ ts begins first behind = rw first behind

param_begins : {p : Spec} {ts us : List Token} → IsParam p ts us → begins_base (next ts) ≡ true
param_begins (IsParam.param b stars name) = base_begins b

params_complete : {ps : List Spec} {ts us : List Token} → IsParams ps ts us → read_params ts ≡ Some (ps, us)
unfolding read_params
params_complete (IsParams.nothing is) = rw is
params_complete (IsParams.void {t = t} {ts = ts} is close) = rw (is, want_is term.Close t ts close)
params_complete (IsParams.some {p = p} {ts = ts} d q) =
    some_params (next ts) ts (param_begins d) (param_complete d (more_params_end q)) (more_params_complete q (length ts) (omega (arith, param_shorter d)) (p ∷ []))

-- functions and globals

name_no_struct : (x : Term) → is_decl term.Name x ≡ true → is_struct x ≡ false
name_no_struct term.Semicolon is = absurd (cc)
name_no_struct term.OpenBrace is = absurd (cc)
name_no_struct _ is = refl

outer_read : {b : Base} {f : Token} {ts us : List Token} → IsBase b (f ∷ ts) us → is_decl term.Name (next us) ≡ true → (depth : ℕ) → read_top depth (f ∷ ts) ≡ read_outer depth (f ∷ ts)
unfolding read_top
outer_read (IsBase.int is) named depth = rw is
outer_read {us = us} (IsBase.tag is name) named depth = rw (is, name_no_struct (next us) named)
outer_read {f = f} (IsBase.alias name) named depth = rw (name_term f _ name)

head_begins : {stars : ℕ} {n o : Token} {text : List ℕ} {ts us : List Token} → IsStars stars ts (n ∷ o ∷ us) → n.kind ≡ kind.Name text → term_of o ≡ term.Open → begins_head ts ≡ true
head_begins {n = n} {text = text} stars name opens = rw (stars_read stars (name_not_star n text name), opens, same_self term.Open)

head_complete : {h : Head} {ts us : List Token} → IsHead h ts us → (depth : ℕ) → read_top depth ts ≡ read_after_head depth h us
unfolding read_top read_void read_head read_outer
head_complete (IsHead.void {o = o} {ts = ts} is name opens d) depth = rw (is, name, want_is term.Open o ts opens, params_complete d)
head_complete (IsHead.value {o = o} {vs = vs} b stars name opens d) depth =
    outer_read b (stars_begin stars name) depth
    ∙ rw (base_complete b, head_begins stars name opens, stars_complete stars name, want_is term.Open o vs opens, params_complete d)

not_head : {stars : ℕ} {n t : Token} {text : List ℕ} {ts us : List Token} → IsStars stars ts (n ∷ t ∷ us) → n.kind ≡ kind.Name text → same term.Open (term_of t) ≡ false → begins_head ts ≡ false
not_head {n = n} {text = text} stars name apart = rw (stars_read stars (name_not_star n text name), apart)

declr_not_open : (x : Term) → ends_declr x ≡ true → same term.Open x ≡ false
unfolding same
declr_not_open term.Open is = absurd (cc)
declr_not_open _ is = refl

put_not_open : (t : Token) → term_of t ≡ term.Put → same term.Open (term_of t) ≡ false
unfolding same
put_not_open t is = rw is

global_no_head : {b : Base} {f : Token} {g : GlobalDecl} {t : Token} {ts us : List Token} → IsGlobal b f g ts (t ∷ us) → ends_declr (term_of t) ≡ true → begins_head ts ≡ false
global_no_head {t = t} (IsGlobal.bare stars name) ends = not_head stars name (declr_not_open (term_of t) ends)
global_no_head (IsGlobal.given {t = t} stars name put d) ends = not_head stars name (put_not_open t put)

globals_no_head : {b : Base} {f : Token} {gs : List GlobalDecl} {ts us : List Token} → IsGlobals b f gs ts us → begins_head ts ≡ false
globals_no_head (IsGlobals.last d is) = global_no_head d (ap ends_declr is)
globals_no_head (IsGlobals.more d is q) = global_no_head d (ap ends_declr is)

global_begins : {b : Base} {f : Token} {g : GlobalDecl} {ts us : List Token} → IsGlobal b f g ts us → is_decl term.Name (next ts) ≡ true
global_begins (IsGlobal.bare stars name) = stars_begin stars name
global_begins (IsGlobal.given stars name put d) = stars_begin stars name

pub globals_begin : {b : Base} {f : Token} {gs : List GlobalDecl} {ts us : List Token} → IsGlobals b f gs ts us → is_decl term.Name (next ts) ≡ true
globals_begin (IsGlobals.last d is) = global_begins d
globals_begin (IsGlobals.more d is q) = global_begins d

globals_read : {b : Base} {f : Token} {gs : List GlobalDecl} {ts us vs : List Token} → IsBase b (f ∷ ts) us → IsGlobals b f gs us vs → (depth : ℕ)
    → read_outer depth (f ∷ ts) ≡ Some (top.Globals gs, vs)
unfolding read_outer
globals_read {us = us} b d depth = rw (base_complete b, globals_no_head d, globals_complete d (length us) (omega arith) [])

prototype_read : (depth : ℕ) (h : Head) (e : Token) (us : List Token) → term_of e ≡ term.Semicolon → read_after_head depth h (e ∷ us) ≡ Some (top.Proto h, us)
prototype_read depth h e us is = rw (is, same_self term.Semicolon)

block_not_semicolon : {b : Block} {end : ℕ} {ts us : List Token} → IsBlock b end ts us → sees term.Semicolon ts ≡ false
unfolding same
block_not_semicolon (IsBlock.braces is d) = rw is

function_read : {b : Block} {end : ℕ} {us vs : List Token} (depth : ℕ) (h : Head) → IsBlock b end us vs → length us ≤ depth → read_after_head depth h us ≡ Some (top.Fun h b, vs)
function_read depth h d enough = rw (block_not_semicolon d, block_complete d depth enough)

-- structs

name_not_brace : (n : Token) (text : List ℕ) → n.kind ≡ kind.Name text → same term.OpenBrace (term_of n) ≡ false
unfolding same
name_not_brace n text name = rw (name_term n text name)

brace_not_name : (x : Term) → x ≡ term.OpenBrace → same term.Name x ≡ false
unfolding same
brace_not_name x is = rw is

alias_read : {tag text : List ℕ} (s n m e : Token) (ts : List Token) → term_of s ≡ term.Struct → n.kind ≡ kind.Name tag → m.kind ≡ kind.Name text → term_of e ≡ term.Semicolon
    → read_typedef (s ∷ n ∷ m ∷ e ∷ ts) ≡ Some (top.Struct (Some (word tag n)) None (Some (word text m)), ts)
unfolding read_typedef
alias_read {text = text} s n m e ts is tagged named semicolon =
    rw (want_is term.Struct s (n ∷ m ∷ e ∷ ts) is, tagged, name_not_brace m text named, named, want_is term.Semicolon e ts semicolon)

body_alias_read : {tag : Option Word} {text : List ℕ} {body : Body} {ts us vs : List Token} (s m e : Token) → term_of s ≡ term.Struct → IsOptionalName tag ts us
    → IsStructBody body us (m ∷ e ∷ vs) → m.kind ≡ kind.Name text → term_of e ≡ term.Semicolon → read_typedef (s ∷ ts) ≡ Some (top.Struct tag (Some body) (Some (word text m)), vs)
unfolding read_typedef
body_alias_read {ts = ts} {us = us} {vs = vs} s m e is tag d named semicolon =
    rw (
      want_is term.Struct s ts is,
      optional_read tag (brace_not_name (next us) (struct_body_begins d)),
      struct_body_begins d,
      same_self term.OpenBrace,
      struct_body_complete d,
      named,
      want_is term.Semicolon e vs semicolon,
    )

tag_read : {text : List ℕ} (n e : Token) (ts : List Token) → n.kind ≡ kind.Name text → term_of e ≡ term.Semicolon
    → read_tag (n ∷ e ∷ ts) ≡ Some (top.Struct (Some (word text n)) None None, ts)
unfolding read_tag
tag_read n e ts name is = rw (name, is)

body_tag_read : {text : List ℕ} {body : Body} {ts us : List Token} (n e : Token) → n.kind ≡ kind.Name text → IsStructBody body ts (e ∷ us) → term_of e ≡ term.Semicolon
    → read_tag (n ∷ ts) ≡ Some (top.Struct (Some (word text n)) (Some body) None, us)
unfolding read_tag
body_tag_read {us = us} n e name d is = rw (name, struct_body_begins d, struct_body_complete d, want_is term.Semicolon e us is)

typedef_top : (depth : ℕ) (t : Token) (ts : List Token) → term_of t ≡ term.Typedef → read_top depth (t ∷ ts) ≡ read_typedef ts
unfolding read_top
typedef_top depth t ts is = rw is

tag_top : (depth : ℕ) (t : Token) (ts : List Token) → term_of t ≡ term.Struct → is_struct (next (drop 1 ts)) ≡ true → read_top depth (t ∷ ts) ≡ read_tag ts
unfolding read_top
tag_top depth t ts is struct = rw (is, struct)

-- files

top_complete : {x : Top} {ts us : List Token} → IsTop x ts us → (depth : ℕ) → length ts ≤ depth → read_top depth ts ≡ Some (x, us)
top_complete (IsTop.alias {t = t} {s = s} {n = n} {m = m} {e = e} {ts = ts} is struct tagged named semicolon) depth enough =
    typedef_top depth t (s ∷ n ∷ m ∷ e ∷ ts) is ∙ alias_read s n m e ts struct tagged named semicolon
top_complete (IsTop.alias_of_body {t = t} {s = s} {m = m} {e = e} {ts = ts} is struct tag d named semicolon) depth enough =
    typedef_top depth t (s ∷ ts) is ∙ body_alias_read s m e struct tag d named semicolon
top_complete (IsTop.tag {s = s} {n = n} {e = e} {ts = ts} is name semicolon) depth enough =
    tag_top depth s (n ∷ e ∷ ts) is (ap is_struct semicolon) ∙ tag_read n e ts name semicolon
top_complete (IsTop.tag_of_body {s = s} {n = n} {e = e} {ts = ts} is name d semicolon) depth enough =
    tag_top depth s (n ∷ ts) is (ap is_struct (struct_body_begins d)) ∙ body_tag_read n e name d semicolon
top_complete (IsTop.globals b d) depth enough = outer_read b (globals_begin d) depth ∙ globals_read b d depth
top_complete (IsTop.prototype {h = h} {e = e} {us = us} d semicolon) depth enough = head_complete d depth ∙ prototype_read depth h e us semicolon
top_complete (IsTop.function {h = h} d q) depth enough = head_complete d depth ∙ function_read depth h q (omega (arith, enough, head_shorter d))

file_read : {x : Top} {us : List Token} {tops : List Top} (depth n : ℕ) (front : List Top) (ts : List Token) → length us < length ts → read_top depth ts ≡ Some (x, us)
    → read_file depth n (front ++ x ∷ []) us ≡ Some tops → read_file depth (suc n) front ts ≡ Some tops
unfolding read_file
file_read depth n front [] less first behind = absurd (omega (arith, less))
file_read depth n front (t ∷ ts) less first behind = rw first behind

file_done : (depth n : ℕ) (front : List Top) → read_file depth n front [] ≡ Some (front ++ [])
unfolding read_file
file_done depth n front = rw (append-nil front)

pub file_complete : {tops : List Top} {ts : List Token} → IsFile tops ts → (depth n : ℕ) → length ts ≤ depth → length ts ≤ n → (front : List Top)
    → read_file depth n front ts ≡ Some (front ++ tops)
file_complete IsFile.done depth n deep enough front = file_done depth n front
file_complete (IsFile.more d q) depth zero deep enough front = absurd (omega (arith, enough, top_shorter d))
file_complete (IsFile.more {x = x} {others = others} {ts = ts} d q) depth (suc n) deep enough front =
    file_read depth n front ts (top_shorter d) (top_complete d depth deep)
    (file_complete q depth n (omega (arith, deep, top_shorter d)) (omega (arith, enough, top_shorter d)) (front ++ x ∷ [])
    ∙ ap (λ l. Some l) (append_assoc front (x ∷ []) others))

-- so a tree that generates the tokens is the one that is read, and there is no other
pub complete : (t : Tree) (tokens : Tokens) → Generates t tokens → read_tree tokens ≡ Some t
unfolding read_tree
complete t tokens d =
    rw (file_complete d.file (length tokens.list) (length tokens.list) (omega arith) (omega arith) []) (ap (λ n. Some (record t { end = n })) (sym d.end))
