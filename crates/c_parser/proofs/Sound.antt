-- A tree that is read of tokens generates them.
use Rattle.std.proofs.Common.{◌≡◌, ℕ, zero, suc, List, [], ◌∷◌, ◌++◌, Option, Some, None, length, drop, refl, ap, subst, ◌∙◌, append_assoc}
use Rattle.std.specs.Option.{IfSome, option_map, option_and_then}
use Rattle.std.proofs.lemmas.Option.{IfSome_then}
use Rattle.c_lexer.specs.declared.token.Token.{Token}
use Rattle.c_lexer.specs.declared.token.Tokens.{Tokens}
use Rattle.c_lexer.specs.declared.token.Kind.TheVariants as kind
use Rattle.c_tree.specs.declared.tree.Base.{Base}
use Rattle.c_tree.specs.declared.tree.Base.TheVariants as base
use Rattle.c_tree.specs.declared.tree.GlobalDecl.{GlobalDecl}
use Rattle.c_tree.specs.declared.tree.Head.{Head}
use Rattle.c_tree.specs.declared.tree.Spec.{Spec}
use Rattle.c_tree.specs.declared.tree.Top.{Top}
use Rattle.c_tree.specs.declared.tree.Top.TheVariants as top
use Rattle.c_tree.specs.declared.tree.Tree.{Tree}
use Rattle.c_tree.specs.declared.tree.Word.{Word}
use Rattle.c_parser.specs.Declarators.{IsOptionalName, IsStars, spec}
use Rattle.c_parser.specs.Grammar.{Generates, IsConst, IsFieldNames, IsFields, IsFile, IsGlobal, IsGlobals, IsHead, IsMoreParams, IsParam, IsParams, IsStructBody, IsTop}
use Rattle.c_parser.specs.ReadExpressions.{Read, name_in, read_want}
use Rattle.c_parser.specs.ReadFile.{begins_head, is_struct, optional_at, read_after_head, read_alias, read_body_alias, read_const, read_const_at, read_field_names, read_field_names_at, read_fields, read_fields_behind, read_file, read_global, read_globals, read_globals_at, read_head, read_more_params, read_more_params_at, read_optional, read_outer, read_param, read_param_behind, read_params, read_params_at, read_struct_body, read_tag, read_tag_behind, read_top, read_top_at, read_tree, read_typedef, read_typedef_behind, read_value, read_void}
use Rattle.c_parser.specs.ReadStatements.{read_stars}
use Rattle.c_parser.specs.Term.{next, same, sees, term_of, word}
use Rattle.c_parser.specs.declared.term.Term.{Term}
use Rattle.c_parser.specs.declared.term.Term.TheVariants as term
use Rattle.c_parser.proofs.Terms.{name_in_is}
use Rattle.c_parser.proofs.Yields.{Yields, ReadsOnly, Appends, IsToken, chains, maps, so, either, whether, want, first_number, name, appends_none, appends_more}
use Rattle.c_parser.proofs.SoundStatements.{IsStarred, IsTyped, base_sound, starred_sound, stars_sound}
use Rattle.c_parser.proofs.SoundBlocks.{block_sound}

-- struct bodies

field_names_at_sound : (b : Base) (f : Token) (on : List Spec → Read (List Spec)) → ((front : List Spec) → ReadsOnly (Appends (IsFieldNames b f) front) (on front))
    → (front : List Spec) (p : ℕ × Word) (ts : List Token) (x : Term) (t : Token) (us : List Token) → IsStarred p ts (t ∷ us) → term_of t ≡ x
    → Yields (λ all vs. Appends (IsFieldNames b f) front all ts vs) (read_field_names_at on (front ++ spec b f p.0 (Some p.1) ∷ []) x (t ∷ us))
field_names_at_sound b f on rest front p ts term.Comma t us d is =
    so (rest (front ++ spec b f p.0 (Some p.1) ∷ []) us) (λ all vs q. appends_more (spec b f p.0 (Some p.1)) q (λ others r. rw d.word (IsFieldNames.more d.stars d.kind is r)))
field_names_at_sound b f on rest front p ts term.Semicolon t us d is =
    Yields.found (record { others = spec b f p.0 (Some p.1) ∷ []; list = refl; is = rw d.word (IsFieldNames.last d.stars d.kind is) })
field_names_at_sound b f on rest front p ts _ t us d is = Yields.nothing

field_names_behind_sound : (b : Base) (f : Token) (on : List Spec → Read (List Spec)) → ((front : List Spec) → ReadsOnly (Appends (IsFieldNames b f) front) (on front))
    → (front : List Spec) (p : ℕ × Word) (ts us : List Token) → IsStarred p ts us
    → Yields (λ all vs. Appends (IsFieldNames b f) front all ts vs) (read_field_names_at on (front ++ spec b f p.0 (Some p.1) ∷ []) (next us) us)
field_names_behind_sound b f on rest front p ts [] d = Yields.nothing
field_names_behind_sound b f on rest front p ts (t ∷ us) d = field_names_at_sound b f on rest front p ts (term_of t) t us d refl

field_names_sound : (b : Base) (f : Token) (n : ℕ) (front : List Spec) → ReadsOnly (Appends (IsFieldNames b f) front) (read_field_names (spec b f 0 None) n front)
unfolding read_field_names
field_names_sound b f zero front ts = Yields.nothing
field_names_sound b f (suc n) front ts =
    chains _ (starred_sound ts) (λ p us d. field_names_behind_sound b f (read_field_names (spec b f 0 None) n) (field_names_sound b f n) front p ts us d)

-- a field, and the others behind it
fields_more : (front names all : List Spec) (s : Spec) (ts us vs ws : List Token) → (d : IsTyped s ts us) → Appends (IsFieldNames d.base d.first) front names us vs
    → Appends IsFields names all vs ws → Appends IsFields front all ts ws
fields_more front names all s ts us vs ws d g q = record {
  others = g.others ++ q.others;
  list = q.list ∙ ap (λ l. l ++ q.others) g.list ∙ append_assoc front g.others q.others;
  is = rw d.list (IsFields.more d.is g.is q.is);
}

fields_behind_sound : (on : List Spec → Read (List Spec)) → ((front : List Spec) → ReadsOnly (Appends IsFields front) (on front))
    → (front names : List Spec) (s : Spec) (ts us vs : List Token) → (d : IsTyped s ts us) → Appends (IsFieldNames d.base d.first) front names us vs
    → Yields (λ all vs. Appends IsFields front all ts vs) (read_fields_behind on names vs)
unfolding same
fields_behind_sound on rest front names s ts us [] d g = so (rest names []) (λ all ws q. fields_more front names all s ts us [] ws d g q)
fields_behind_sound on rest front names s ts us (c ∷ vs) d g =
    whether term.CloseBrace c
    (λ close. Yields.found (record { others = g.others; list = g.list; is = rw d.list (IsFields.last d.is g.is close) }))
    (λ goes. so (rest names (c ∷ vs)) (λ all ws q. fields_more front names all s ts us (c ∷ vs) ws d g q))

fields_sound : (n : ℕ) (front : List Spec) → ReadsOnly (Appends IsFields front) (read_fields n front)
unfolding read_fields
fields_sound zero front ts = Yields.nothing
fields_sound (suc n) front ts =
    chains _ (base_sound ts) (λ s us d. rw d.spec (chains _ (field_names_sound d.base d.first (length us) front us) (λ names vs g.
    fields_behind_sound (read_fields n) (fields_sound n) front names s ts us vs d g)))

struct_body_sound : ReadsOnly IsStructBody read_struct_body
unfolding read_struct_body
struct_body_sound ts =
    chains _ (want term.OpenBrace ts) (λ o us opens. maps _ (fields_sound (length us) [] us) (λ fields vs q. rw (opens.list, q.list) (IsStructBody.body opens.term q.is)))

-- globals

minus_sound : (m : Token) (ts : List Token) → term_of m ≡ term.Minus → Yields (λ e us. IsConst e (m ∷ ts) us) (read_const_at term.Minus m ts)
minus_sound m [] is = Yields.nothing
minus_sound m (t ∷ ts) is = maps _ (first_number t ts) (λ e us n. rw (n.expr, n.list) (IsConst.minus is n.kind))

const_at_sound : (x : Term) (t : Token) (ts : List Token) → term_of t ≡ x → Yields (λ e us. IsConst e (t ∷ ts) us) (read_const_at x t ts)
const_at_sound term.Number t ts is = so (first_number t ts) (λ e us n. rw (n.expr, n.list) (IsConst.number n.kind))
const_at_sound term.Minus t ts is = minus_sound t ts is
const_at_sound term.Null t ts is = Yields.found (IsConst.null is)
const_at_sound term.Eof t ts is = Yields.found (IsConst.eof is)
const_at_sound _ t ts is = Yields.nothing

const_sound : ReadsOnly IsConst read_const
unfolding read_const
const_sound [] = Yields.nothing
const_sound (t ∷ ts) = const_at_sound (term_of t) t ts refl

value_sound : (b : Base) (f : Token) (p : ℕ × Word) (ts us : List Token) → IsStarred p ts us
    → Yields (λ g vs. IsGlobal b f g ts vs) (read_value (spec b f p.0 (Some p.1)) p.1.at us)
value_sound b f p ts [] d = Yields.found (rw d.word (IsGlobal.bare d.stars d.kind))
value_sound b f p ts (t ∷ us) d =
    whether term.Put t
    (λ put. maps _ (const_sound us) (λ e vs q. rw d.word (IsGlobal.given d.stars d.kind put q)))
    (λ other. Yields.found (rw d.word (IsGlobal.bare d.stars d.kind)))

global_sound : (b : Base) (f : Token) → ReadsOnly (IsGlobal b f) (read_global (spec b f 0 None))
unfolding read_global
global_sound b f ts = chains _ (starred_sound ts) (λ p us d. value_sound b f p ts us d)

globals_at_sound : (b : Base) (f : Token) (on : List GlobalDecl → Read (List GlobalDecl))
    → ((front : List GlobalDecl) → ReadsOnly (Appends (IsGlobals b f) front) (on front))
    → (front : List GlobalDecl) (g : GlobalDecl) (ts : List Token) (x : Term) (t : Token) (us : List Token) → IsGlobal b f g ts (t ∷ us) → term_of t ≡ x
    → Yields (λ all vs. Appends (IsGlobals b f) front all ts vs) (read_globals_at on (front ++ g ∷ []) x (t ∷ us))
globals_at_sound b f on rest front g ts term.Comma t us d is = so (rest (front ++ g ∷ []) us) (λ all vs q. appends_more g q (λ others r. IsGlobals.more d is r))
globals_at_sound b f on rest front g ts term.Semicolon t us d is = Yields.found (record { others = g ∷ []; list = refl; is = IsGlobals.last d is })
globals_at_sound b f on rest front g ts _ t us d is = Yields.nothing

globals_behind_sound : (b : Base) (f : Token) (on : List GlobalDecl → Read (List GlobalDecl))
    → ((front : List GlobalDecl) → ReadsOnly (Appends (IsGlobals b f) front) (on front))
    → (front : List GlobalDecl) (g : GlobalDecl) (ts us : List Token) → IsGlobal b f g ts us → Yields (λ all vs. Appends (IsGlobals b f) front all ts vs) (read_globals_at on (front ++ g ∷ []) (next us) us)
globals_behind_sound b f on rest front g ts [] d = Yields.nothing
globals_behind_sound b f on rest front g ts (t ∷ us) d = globals_at_sound b f on rest front g ts (term_of t) t us d refl

globals_sound : (b : Base) (f : Token) (n : ℕ) (front : List GlobalDecl) → ReadsOnly (Appends (IsGlobals b f) front) (read_globals (spec b f 0 None) n front)
unfolding read_globals
globals_sound b f zero front ts = Yields.nothing
globals_sound b f (suc n) front ts =
    chains _ (global_sound b f ts) (λ g us d. globals_behind_sound b f (read_globals (spec b f 0 None) n) (globals_sound b f n) front g ts us d)

-- parameters

optional_of : (t : Token) (ts : List Token) (found : Option (List ℕ)) → name_in t.kind ≡ found → IsOptionalName (optional_at found t ts).0 (t ∷ ts) (optional_at found t ts).1
optional_of t ts None is = IsOptionalName.none
optional_of t ts (Some text) is = IsOptionalName.named (name_in_is t.kind text is)

optional_sound : (ts : List Token) → IsOptionalName (read_optional ts).0 ts (read_optional ts).1
optional_sound [] = IsOptionalName.none
optional_sound (t ∷ ts) = optional_of t ts (name_in t.kind) refl

param_behind_sound : (s : Spec) (ts us : List Token) → (d : IsTyped s ts us) (p : ℕ × List Token) → IsStars p.0 us p.1
    → Yields (λ x vs. IsParam x ts vs) (read_param_behind (spec d.base d.first 0 None) p)
param_behind_sound s ts us d p stars =
    let param : IsParam (spec d.base d.first p.0 (read_optional p.1).0) ts (read_optional p.1).1 = rw d.list (IsParam.param d.is stars (optional_sound p.1)) in
    Yields.found param

param_sound : ReadsOnly IsParam read_param
unfolding read_param
param_sound ts = chains _ (base_sound ts) (λ s us d. rw d.spec (param_behind_sound s ts us d (read_stars us) (stars_sound us)))

more_params_at_sound : (on : List Spec → Read (List Spec)) → ((front : List Spec) → ReadsOnly (Appends IsMoreParams front) (on front))
    → (front : List Spec) (x : Term) (t : Token) (ts : List Token) → term_of t ≡ x → Yields (λ all us. Appends IsMoreParams front all (t ∷ ts) us) (read_more_params_at on front x (t ∷ ts))
more_params_at_sound on rest front term.Close t ts is = Yields.found (appends_none (IsMoreParams.close is))
more_params_at_sound on rest front term.Comma t ts is =
    chains _ (param_sound ts) (λ p us d. so (rest (front ++ p ∷ []) us) (λ all vs q. appends_more p q (λ others r. IsMoreParams.comma is d r)))
more_params_at_sound on rest front _ t ts is = Yields.nothing

more_params_sound : (n : ℕ) (front : List Spec) → ReadsOnly (Appends IsMoreParams front) (read_more_params n front)
unfolding read_more_params
more_params_sound zero front ts = Yields.nothing
more_params_sound (suc n) front [] = Yields.nothing
more_params_sound (suc n) front (t ∷ ts) = more_params_at_sound (read_more_params n) (more_params_sound n) front (term_of t) t ts refl

some_params_sound : (ts : List Token) → Yields (λ params us. IsParams params ts us) (option_and_then (λ p. read_more_params (length ts) (p.0 ∷ []) p.1) (read_param ts))
some_params_sound ts = chains _ (param_sound ts) (λ p us d. so (more_params_sound (length ts) (p ∷ []) us) (λ all vs q. rw q.list (IsParams.some d q.is)))

params_at_sound : (x : Term) (t : Token) (ts : List Token) → term_of t ≡ x → Yields (λ params us. IsParams params (t ∷ ts) us) (read_params_at x (t ∷ ts))
params_at_sound term.Close t ts is = Yields.found (IsParams.nothing is)
params_at_sound term.Void t ts is = maps _ (want term.Close ts) (λ c us close. rw close.list (IsParams.void is close.term))
params_at_sound _ t ts is = some_params_sound (t ∷ ts)

params_sound : ReadsOnly IsParams read_params
unfolding read_params
params_sound [] = some_params_sound []
params_sound (t ∷ ts) = params_at_sound (term_of t) t ts refl

-- structs

alias_sound : (t s : Token) → term_of t ≡ term.Typedef → term_of s ≡ term.Struct → {tag : Option Word} {ts us : List Token} → IsOptionalName tag ts us
    → Yields (λ x vs. IsTop x (t ∷ s ∷ ts) vs) (read_alias tag us)
alias_sound t s is struct IsOptionalName.none = Yields.nothing
alias_sound t s is struct (IsOptionalName.named {ts = us} named) =
    chains _ (name us) (λ w vs m. maps _ (want term.Semicolon vs) (λ e ws ends. rw (m.word, m.list, ends.list) (IsTop.alias is struct named m.kind ends.term)))

body_alias_sound : (t s : Token) → term_of t ≡ term.Typedef → term_of s ≡ term.Struct → (tag : Option Word) (ts us : List Token) → IsOptionalName tag ts us
    → Yields (λ x vs. IsTop x (t ∷ s ∷ ts) vs) (read_body_alias tag us)
body_alias_sound t s is struct tag ts us d =
    chains _ (struct_body_sound us) (λ body vs b. chains _ (name vs) (λ w ws m. maps _ (want term.Semicolon ws) (λ e xs ends.
    rw m.word (IsTop.alias_of_body is struct d (rw (m.list, ends.list) at b) m.kind ends.term))))

typedef_behind_sound : (t s : Token) → term_of t ≡ term.Typedef → term_of s ≡ term.Struct → (ts : List Token)
    → Yields (λ x us. IsTop x (t ∷ s ∷ ts) us) (read_typedef_behind (read_optional ts))
typedef_behind_sound t s is struct ts =
    either (sees term.OpenBrace (read_optional ts).1)
    (λ body. body_alias_sound t s is struct (read_optional ts).0 ts (read_optional ts).1 (optional_sound ts))
    (λ other. alias_sound t s is struct (optional_sound ts))

typedef_sound : (t : Token) (ts : List Token) → term_of t ≡ term.Typedef → Yields (λ x us. IsTop x (t ∷ ts) us) (read_typedef ts)
unfolding read_typedef
typedef_sound t ts is =
    chains _ (want term.Struct ts) (λ s us struct. so (typedef_behind_sound t s is struct.term us) (λ x vs d. rw struct.list d))

tag_body_sound : {text : List ℕ} (s n : Token) → term_of s ≡ term.Struct → n.kind ≡ kind.Name text → (ts : List Token)
    → Yields (λ x us. IsTop x (s ∷ n ∷ ts) us) (option_and_then (λ p. option_map (λ q. (top.Struct (Some (word text n)) (Some p.0) None, q.1)) (read_want term.Semicolon p.1)) (read_struct_body ts))
tag_body_sound s n is named ts =
    chains _ (struct_body_sound ts) (λ body us b. maps _ (want term.Semicolon us) (λ e vs ends. IsTop.tag_of_body is named (rw ends.list at b) ends.term))

tag_at_sound : {text : List ℕ} (s n : Token) → term_of s ≡ term.Struct → n.kind ≡ kind.Name text → (x : Term) (e : Token) (ts : List Token) → term_of e ≡ x
    → Yields (λ x us. IsTop x (s ∷ n ∷ e ∷ ts) us) (read_tag_behind (word text n) x (e ∷ ts))
tag_at_sound s n is named term.Semicolon e ts ends = Yields.found (IsTop.tag is named ends)
tag_at_sound s n is named _ e ts other = tag_body_sound s n is named (e ∷ ts)

tag_behind_sound : {text : List ℕ} (s n : Token) → term_of s ≡ term.Struct → n.kind ≡ kind.Name text → (ts : List Token)
    → Yields (λ x us. IsTop x (s ∷ n ∷ ts) us) (read_tag_behind (word text n) (next ts) ts)
tag_behind_sound s n is named [] = tag_body_sound s n is named []
tag_behind_sound s n is named (e ∷ ts) = tag_at_sound s n is named (term_of e) e ts refl

tag_sound : (s : Token) (ts : List Token) → term_of s ≡ term.Struct → Yields (λ x us. IsTop x (s ∷ ts) us) (read_tag ts)
unfolding read_tag
tag_sound s ts is = chains _ (name ts) (λ w us n. rw (n.word, n.list) (tag_behind_sound s n.token is n.kind us))

-- functions

after_head_sound : (depth : ℕ) (h : Head) (ts us : List Token) → IsHead h ts us → Yields (λ x vs. IsTop x ts vs) (read_after_head depth h us)
unfolding same
after_head_sound depth h ts [] d = maps _ (block_sound depth []) (λ b vs q. IsTop.function d q)
after_head_sound depth h ts (e ∷ us) d =
    whether term.Semicolon e
    (λ ends. Yields.found (IsTop.prototype d ends))
    (λ other. maps _ (block_sound depth (e ∷ us)) (λ b vs q. IsTop.function d q))

head_sound : (depth : ℕ) (s : Spec) (ts us : List Token)
    → ((o : Token) (vs : List Token) (params : List Spec) (ws : List Token) → IsToken term.Open o us vs → IsParams params vs ws → IsHead (record { result = s; params = params }) ts ws)
    → Yields (λ x vs. IsTop x ts vs) (read_head depth s us)
unfolding read_head
head_sound depth s ts us heads =
    chains _ (want term.Open us) (λ o vs opens. chains _ (params_sound vs) (λ params ws d.
    after_head_sound depth (record { result = s; params = params }) ts ws (heads o vs params ws opens d)))

void_sound : (depth : ℕ) (t : Token) (ts : List Token) → term_of t ≡ term.Void → Yields (λ x us. IsTop x (t ∷ ts) us) (read_void depth t ts)
unfolding read_void
void_sound depth t ts is =
    chains _ (name ts) (λ w us n. head_sound depth (spec base.Void t 0 (Some w)) (t ∷ ts) us (λ o vs params ws opens d.
    rw (n.word, n.list, opens.list) (IsHead.void is n.kind opens.term d)))

function_sound : (depth : ℕ) (s : Spec) (ts us : List Token) → (d : IsTyped s ts us) → (p : ℕ × Word) (vs : List Token) → IsStarred p us vs
    → Yields (λ x ws. IsTop x ts ws) (read_head depth (spec d.base d.first p.0 (Some p.1)) vs)
function_sound depth s ts us d p vs q =
    head_sound depth (spec d.base d.first p.0 (Some p.1)) ts vs (λ o ws params xs opens r.
    rw (q.word, d.list) (IsHead.value d.is (rw opens.list at q.stars) q.kind opens.term r))

outer_sound : (depth : ℕ) → ReadsOnly IsTop (read_outer depth)
unfolding read_outer
outer_sound depth ts =
    chains _ (base_sound ts) (λ s us d. rw d.spec (either (begins_head us)
    (λ head. chains _ (starred_sound us) (λ p vs q. function_sound depth s ts us d p vs q))
    (λ other. maps _ (globals_sound d.base d.first (length us) [] us) (λ all vs q. rw (q.list, d.list) (IsTop.globals d.is q.is)))))

top_at_sound : (depth : ℕ) (x : Term) (t : Token) (ts : List Token) → term_of t ≡ x → Yields (λ x us. IsTop x (t ∷ ts) us) (read_top_at depth x t ts)
top_at_sound depth term.Typedef t ts is = typedef_sound t ts is
top_at_sound depth term.Struct t ts is = either (is_struct (next (drop 1 ts))) (λ struct. tag_sound t ts is) (λ other. outer_sound depth (t ∷ ts))
top_at_sound depth term.Void t ts is = void_sound depth t ts is
top_at_sound depth _ t ts is = outer_sound depth (t ∷ ts)

top_sound : (depth : ℕ) → ReadsOnly IsTop (read_top depth)
unfolding read_top
top_sound depth [] = Yields.nothing
top_sound depth (t ∷ ts) = top_at_sound depth (term_of t) t ts refl

-- files

abbrev MoreTops : List Top → List Token → List Top → Type 0
MoreTops front ts all = Appends (λ tops us vs. IsFile tops us) front all ts []

file_behind_sound : {r : Option (Top × List Token)} {ts : List Token} (on : List Top → List Token → Option (List Top))
    → ((front : List Top) (ts : List Token) → IfSome (on front ts) (MoreTops front ts)) → (front : List Top)
    → Yields (λ x us. IsTop x ts us) r → IfSome (option_and_then (λ p. on (front ++ p.0 ∷ []) p.1) r) (MoreTops front ts)
file_behind_sound on rest front Yields.nothing = tt
file_behind_sound on rest front (Yields.found {a = x} {us = us} d) =
    IfSome_then (on (front ++ x ∷ []) us) (rest (front ++ x ∷ []) us) (λ all q. appends_more x q (λ others r. IsFile.more d r))

file_sound : (depth n : ℕ) (front : List Top) (ts : List Token) → IfSome (read_file depth n front ts) (MoreTops front ts)
unfolding read_file
file_sound depth zero front [] = appends_none IsFile.done
file_sound depth (suc n) front [] = appends_none IsFile.done
file_sound depth zero front (t ∷ ts) = tt
file_sound depth (suc n) front (t ∷ ts) = file_behind_sound (read_file depth n) (file_sound depth n) front (top_sound depth (t ∷ ts))

tree_of : (tokens : Tokens) (r : Option (List Top)) → IfSome r (MoreTops [] tokens.list)
    → IfSome (option_map (λ tops. record { tops = tops; end = tokens.size }) r) (λ t. Generates t tokens)
tree_of tokens None d = tt
tree_of tokens (Some tops) d = record { file = rw d.list d.is; end = refl }

tree_sound : (tokens : Tokens) → IfSome (read_tree tokens) (λ t. Generates t tokens)
unfolding read_tree
tree_sound tokens = tree_of tokens (read_file (length tokens.list) (length tokens.list) [] tokens.list) (file_sound (length tokens.list) (length tokens.list) [] tokens.list)

pub sound : (t : Tree) (tokens : Tokens) → read_tree tokens ≡ Some t → Generates t tokens
sound t tokens is = subst (λ r. IfSome r (λ t. Generates t tokens)) is (tree_sound tokens)
