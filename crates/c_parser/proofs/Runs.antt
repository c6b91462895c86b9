-- The recogniser stops in no tokens with which a generated list begins.
use Rattle.std.proofs.Common.{◌≡◌, ℕ, true, false, List, [], ◌∷◌, ◌++◌, Option, Some, None, refl, ap, ◌∙◌}
use Rattle.c_lexer.specs.declared.token.Token.{Token}
use Rattle.c_tree.specs.declared.tree.Base.{Base}
use Rattle.c_tree.specs.declared.tree.Body.{Body}
use Rattle.c_tree.specs.declared.tree.Expr.{Expr}
use Rattle.c_tree.specs.declared.tree.GlobalDecl.{GlobalDecl}
use Rattle.c_tree.specs.declared.tree.Head.{Head}
use Rattle.c_tree.specs.declared.tree.Spec.{Spec}
use Rattle.c_tree.specs.declared.tree.Top.{Top}
use Rattle.c_tree.specs.declared.tree.Word.{Word}
use Rattle.c_parser.specs.Answer.{Begins}
use Rattle.c_parser.specs.Blocks.{IsBlock}
use Rattle.c_parser.specs.Declarators.{IsBase, IsStars, IsOptionalName}
use Rattle.c_parser.specs.Grammar.{IsFile, IsTop, IsHead, IsParams, IsMoreParams, IsParam, IsGlobals, IsGlobal, IsConst, IsStructBody, IsFields, IsFieldNames}
use Rattle.c_parser.specs.ReadStatements.{is_decl}
use Rattle.c_parser.specs.Recogniser.{advance, may_end, stop, stopped, takes}
use Rattle.c_parser.specs.Term.{next, same, term_of}
use Rattle.c_parser.specs.declared.symbol.Symbol.{Symbol}
use Rattle.c_parser.specs.declared.symbol.Symbol.TheVariants as symbol
use Rattle.c_parser.specs.declared.term.Term.{Term}
use Rattle.c_parser.specs.declared.term.Term.TheVariants as term
use Rattle.c_parser.proofs.Terms.{name_term, number_term}
use Rattle.c_parser.proofs.CompleteStatements.{ends_declr, stars_begin}
use Rattle.c_parser.proofs.Complete.{ends_param, fields_go, globals_begin, more_params_end}
use Rattle.c_parser.proofs.RunsExpressions.{stops_alike, taken}
use Rattle.c_parser.proofs.RunsStatements.{base_runs, stars_runs}
use Rattle.c_parser.proofs.RunsBlocks.{pieces_runs}

-- struct bodies

field_names_runs : {b : Base} {f : Token} {fields : List Spec} {ts us : List Token} → IsFieldNames b f fields ts us → (stack : List Symbol)
    → stop ts (symbol.StarredName ∷ symbol.MoreNames ∷ stack) ≡ stop us stack
unfolding advance takes
field_names_runs (IsFieldNames.last stars name is) stack =
    stars_runs stars name (symbol.StarredName ∷ symbol.MoreNames ∷ stack) (symbol.MoreNames ∷ stack) refl refl ∙ rw is
field_names_runs (IsFieldNames.more stars name is d) stack =
    stars_runs stars name (symbol.StarredName ∷ symbol.MoreNames ∷ stack) (symbol.MoreNames ∷ stack) refl refl ∙ rw is (field_names_runs d stack)

fields_go_on : (x : Term) → same term.CloseBrace x ≡ false → (stack : List Symbol) → advance (symbol.MoreFields ∷ stack) x ≡ advance (symbol.Field ∷ symbol.MoreFields ∷ stack) x
unfolding advance takes may_end same
fields_go_on term.CloseBrace apart stack = absurd (cc)
fields_go_on _ apart stack = refl

fields_runs : {fields : List Spec} {ts us : List Token} → IsFields fields ts us → (stack : List Symbol) → stop ts (symbol.Field ∷ symbol.MoreFields ∷ stack) ≡ stop us stack
unfolding advance takes
fields_runs (IsFields.last b d is) stack =
    base_runs b (symbol.Field ∷ symbol.MoreFields ∷ stack) (symbol.StarredName ∷ symbol.MoreNames ∷ symbol.MoreFields ∷ stack) refl refl refl
    ∙ field_names_runs d (symbol.MoreFields ∷ stack) ∙ rw is
fields_runs (IsFields.more {vs = vs} b d q) stack =
    base_runs b (symbol.Field ∷ symbol.MoreFields ∷ stack) (symbol.StarredName ∷ symbol.MoreNames ∷ symbol.MoreFields ∷ stack) refl refl refl
    ∙ field_names_runs d (symbol.MoreFields ∷ stack)
    ∙ stops_alike vs (symbol.MoreFields ∷ stack) (symbol.Field ∷ symbol.MoreFields ∷ stack) (fields_go_on (next vs) (fields_go q) stack) ∙ fields_runs q stack

struct_body_runs : {b : Body} {ts us : List Token} → IsStructBody b ts us → (stack front : List Symbol)
    → advance stack term.OpenBrace ≡ Some (symbol.Field ∷ symbol.MoreFields ∷ front) → stop ts stack ≡ stop us front
struct_body_runs (IsStructBody.body {o = o} {ts = ts} is d) stack front opens =
    taken o ts stack (symbol.Field ∷ symbol.MoreFields ∷ front) term.OpenBrace is opens ∙ fields_runs d front

-- globals: the first is named where a function might be

const_runs : {e : Expr} {ts us : List Token} → IsConst e ts us → (stack : List Symbol) → stop ts (symbol.Const ∷ stack) ≡ stop us stack
unfolding advance takes same
const_runs (IsConst.number {t = t} is) stack = rw (number_term t _ is)
const_runs (IsConst.minus {t = t} is number) stack = rw (is, number_term t _ number)
const_runs (IsConst.null is) stack = rw is
const_runs (IsConst.eof is) stack = rw is

-- a global may stand for the symbol, and behind its name this one is left
record NamesGlobal (s after : Symbol) : Type 0 where
  star : (stack : List Symbol) → advance (s ∷ stack) term.Star ≡ Some (symbol.Want term.Name ∷ after ∷ stack)
  name : (stack : List Symbol) → advance (s ∷ stack) term.Name ≡ Some (after ∷ stack)
  put : (stack : List Symbol) → advance (after ∷ stack) term.Put ≡ Some (symbol.Const ∷ symbol.MoreGlobals ∷ stack)
  ends : (x : Term) → ends_declr x ≡ true → (stack : List Symbol) → advance (after ∷ stack) x ≡ advance (symbol.MoreGlobals ∷ stack) x

outer_ends : (x : Term) → ends_declr x ≡ true → (stack : List Symbol) → advance (symbol.AfterOuter ∷ stack) x ≡ advance (symbol.MoreGlobals ∷ stack) x
unfolding advance takes
outer_ends term.Semicolon ends stack = refl
outer_ends term.Comma ends stack = refl
outer_ends _ ends stack = absurd (cc)

global_ends : (x : Term) → ends_declr x ≡ true → (stack : List Symbol) → advance (symbol.AfterGlobal ∷ stack) x ≡ advance (symbol.MoreGlobals ∷ stack) x
unfolding advance takes
global_ends term.Semicolon ends stack = refl
global_ends term.Comma ends stack = refl
global_ends _ ends stack = absurd (cc)

outer_names : NamesGlobal symbol.Outer symbol.AfterOuter
unfolding advance takes
outer_names = record { star = λ stack. refl; name = λ stack. refl; put = λ stack. refl; ends = outer_ends }

global_names : NamesGlobal symbol.Global symbol.AfterGlobal
unfolding advance takes
global_names = record { star = λ stack. refl; name = λ stack. refl; put = λ stack. refl; ends = global_ends }

global_runs : {s after : Symbol} → NamesGlobal s after → {b : Base} {f : Token} {g : GlobalDecl} {t : Token} {ts us : List Token} → IsGlobal b f g ts (t ∷ us) → ends_declr (term_of t) ≡ true
    → (stack : List Symbol) → stop ts (s ∷ stack) ≡ stop (t ∷ us) (symbol.MoreGlobals ∷ stack)
global_runs {s = s} {after = after} names {t = t} {us = us} (IsGlobal.bare stars name) ends stack =
    stars_runs stars name (s ∷ stack) (after ∷ stack) (names.star stack) (names.name stack)
    ∙ stops_alike (t ∷ us) (after ∷ stack) (symbol.MoreGlobals ∷ stack) (names.ends (term_of t) ends stack)
global_runs {s = s} {after = after} names (IsGlobal.given {t = p} {us = vs} stars name put d) ends stack =
    stars_runs stars name (s ∷ stack) (after ∷ stack) (names.star stack) (names.name stack)
    ∙ taken p vs (after ∷ stack) (symbol.Const ∷ symbol.MoreGlobals ∷ stack) term.Put put (names.put stack) ∙ const_runs d (symbol.MoreGlobals ∷ stack)

globals_runs : {b : Base} {f : Token} {gs : List GlobalDecl} {ts us : List Token} → IsGlobals b f gs ts us → {s after : Symbol} → NamesGlobal s after → (stack : List Symbol)
    → stop ts (s ∷ stack) ≡ stop us stack
unfolding advance takes
globals_runs (IsGlobals.last d is) names stack = global_runs names d (ap ends_declr is) stack ∙ rw is
globals_runs (IsGlobals.more d is q) names stack = global_runs names d (ap ends_declr is) stack ∙ rw is (globals_runs q global_names stack)

-- parameters

star_ends : (x : Term) → ends_param x ≡ true → (stack : List Symbol) → advance (symbol.AfterStar ∷ stack) x ≡ advance (symbol.MoreParameters ∷ stack) x
unfolding advance takes
star_ends term.Comma ends stack = refl
star_ends term.Close ends stack = refl
star_ends _ ends stack = absurd (cc)

base_ends : (x : Term) → ends_param x ≡ true → (stack : List Symbol) → advance (symbol.AfterBase ∷ stack) x ≡ advance (symbol.AfterStar ∷ stack) x
unfolding advance takes
base_ends term.Comma ends stack = refl
base_ends term.Close ends stack = refl
base_ends _ ends stack = absurd (cc)

optional_runs : {name : Option Word} {ts us : List Token} → IsOptionalName name ts us → ends_param (next us) ≡ true → (stack : List Symbol)
    → stop ts (symbol.AfterStar ∷ stack) ≡ stop us (symbol.MoreParameters ∷ stack)
unfolding advance takes
optional_runs {us = us} IsOptionalName.none ends stack = stops_alike us (symbol.AfterStar ∷ stack) (symbol.MoreParameters ∷ stack) (star_ends (next us) ends stack)
optional_runs (IsOptionalName.named {n = n} name) ends stack = rw (name_term n _ name)

no_star_runs : {name : Option Word} {ts us : List Token} → IsOptionalName name ts us → ends_param (next us) ≡ true → (stack : List Symbol)
    → stop ts (symbol.AfterBase ∷ stack) ≡ stop ts (symbol.AfterStar ∷ stack)
unfolding advance takes
no_star_runs {us = us} IsOptionalName.none ends stack = stops_alike us (symbol.AfterBase ∷ stack) (symbol.AfterStar ∷ stack) (base_ends (next us) ends stack)
no_star_runs (IsOptionalName.named {n = n} name) ends stack = rw (name_term n _ name)

starred_param_runs : {stars : ℕ} {name : Option Word} {ts us vs : List Token} → IsStars stars ts us → IsOptionalName name us vs → ends_param (next vs) ≡ true → (stack : List Symbol)
    → stop ts (symbol.AfterBase ∷ stack) ≡ stop vs (symbol.MoreParameters ∷ stack)
unfolding advance takes
starred_param_runs IsStars.none name ends stack = no_star_runs name ends stack ∙ optional_runs name ends stack
starred_param_runs (IsStars.star is) name ends stack = rw is (optional_runs name ends stack)

param_runs : {p : Spec} {ts us : List Token} → IsParam p ts us → ends_param (next us) ≡ true → (stack : List Symbol)
    → (stop ts (symbol.Parameters ∷ stack) ≡ stop us (symbol.MoreParameters ∷ stack)) × (stop ts (symbol.Parameter ∷ stack) ≡ stop us (symbol.MoreParameters ∷ stack))
unfolding advance takes
param_runs (IsParam.param b stars name) ends stack = (
  base_runs b (symbol.Parameters ∷ stack) (symbol.AfterBase ∷ stack) refl refl refl ∙ starred_param_runs stars name ends stack,
  base_runs b (symbol.Parameter ∷ stack) (symbol.AfterBase ∷ stack) refl refl refl ∙ starred_param_runs stars name ends stack,
)

more_params_runs : {ps : List Spec} {ts us : List Token} → IsMoreParams ps ts us → (stack : List Symbol) → stop ts (symbol.MoreParameters ∷ stack) ≡ stop us stack
unfolding advance takes
more_params_runs (IsMoreParams.close is) stack = rw is
more_params_runs (IsMoreParams.comma is d q) stack = rw is ((param_runs d (more_params_end q) stack).1 ∙ more_params_runs q stack)

params_runs : {ps : List Spec} {ts us : List Token} → IsParams ps ts us → (stack : List Symbol) → stop ts (symbol.Parameters ∷ stack) ≡ stop us stack
unfolding advance takes same
params_runs (IsParams.nothing is) stack = rw is
params_runs (IsParams.void is close) stack = rw (is, close)
params_runs (IsParams.some d q) stack = (param_runs d (more_params_end q) stack).0 ∙ more_params_runs q stack

-- external declarations

-- behind `struct` and a name a declaration goes on as behind another base
tagged_alike : (x : Term) → is_decl term.Name x ≡ true → (stack : List Symbol) → advance (symbol.Tagged ∷ stack) x ≡ advance (symbol.Outer ∷ stack) x
unfolding advance takes
tagged_alike term.Name is stack = refl
tagged_alike term.Star is stack = refl
tagged_alike _ is stack = absurd (cc)

outer_runs : {b : Base} {ts us : List Token} → IsBase b ts us → is_decl term.Name (next us) ≡ true → (stack : List Symbol)
    → stop ts (symbol.File ∷ stack) ≡ stop us (symbol.Outer ∷ symbol.File ∷ stack)
unfolding advance takes same
outer_runs (IsBase.int is) named stack = rw is
outer_runs {us = us} (IsBase.tag {n = n} is name) named stack =
    rw (is, name_term n _ name) (stops_alike us (symbol.Tagged ∷ symbol.File ∷ stack) (symbol.Outer ∷ symbol.File ∷ stack) (tagged_alike (next us) named (symbol.File ∷ stack)))
outer_runs (IsBase.alias {t = t} name) named stack = rw (name_term t _ name)

head_runs : {h : Head} {ts us : List Token} → IsHead h ts us → (stack : List Symbol) → stop ts (symbol.File ∷ stack) ≡ stop us (symbol.AfterHead ∷ symbol.File ∷ stack)
unfolding advance takes same
head_runs (IsHead.void {n = n} is name opens d) stack = rw (is, name_term n _ name, opens) (params_runs d (symbol.AfterHead ∷ symbol.File ∷ stack))
head_runs (IsHead.value b stars name opens d) stack =
    outer_runs b (stars_begin stars name) stack ∙ stars_runs stars name (symbol.Outer ∷ symbol.File ∷ stack) (symbol.AfterOuter ∷ symbol.File ∷ stack) refl refl
    ∙ rw opens (params_runs d (symbol.AfterHead ∷ symbol.File ∷ stack))

optional_body_runs : {tag : Option Word} {body : Body} {ts us vs : List Token} → IsOptionalName tag ts us → IsStructBody body us vs → (stack : List Symbol)
    → stop ts (symbol.Typedef ∷ stack) ≡ stop vs (symbol.Want term.Name ∷ symbol.Want term.Semicolon ∷ stack)
unfolding advance takes
optional_body_runs IsOptionalName.none d stack = struct_body_runs d (symbol.Typedef ∷ stack) (symbol.Want term.Name ∷ symbol.Want term.Semicolon ∷ stack) refl
optional_body_runs (IsOptionalName.named {n = n} name) d stack =
    rw (name_term n _ name) (struct_body_runs d (symbol.TypedefNamed ∷ stack) (symbol.Want term.Name ∷ symbol.Want term.Semicolon ∷ stack) refl)

pub top_runs : {x : Top} {ts us : List Token} → IsTop x ts us → (stack : List Symbol) → stop ts (symbol.File ∷ stack) ≡ stop us (symbol.File ∷ stack)
unfolding advance takes same
top_runs (IsTop.alias {n = n} {m = m} is struct tag name semicolon) stack = rw (is, struct, name_term n _ tag, name_term m _ name, semicolon)
top_runs (IsTop.alias_of_body {m = m} is struct tag d name semicolon) stack =
    rw (is, struct) (optional_body_runs tag d (symbol.File ∷ stack) ∙ rw (name_term m _ name, semicolon))
top_runs (IsTop.tag {n = n} is name semicolon) stack = rw (is, name_term n _ name, semicolon)
top_runs (IsTop.tag_of_body {n = n} is name d semicolon) stack =
    rw (is, name_term n _ name) (struct_body_runs d (symbol.Tagged ∷ symbol.File ∷ stack) (symbol.Want term.Semicolon ∷ symbol.File ∷ stack) refl ∙ rw semicolon)
top_runs (IsTop.globals b d) stack = outer_runs b (globals_begin d) stack ∙ globals_runs d outer_names (symbol.File ∷ stack)
top_runs (IsTop.prototype d semicolon) stack = head_runs d stack ∙ rw semicolon
top_runs (IsTop.function d (IsBlock.braces is q)) stack = head_runs d stack ∙ rw is (pieces_runs q (symbol.File ∷ stack))

pub file_runs : {tops : List Top} {ts : List Token} → IsFile tops ts → stop ts (symbol.File ∷ []) ≡ None
file_runs IsFile.done = refl
file_runs (IsFile.more d q) = top_runs d [] ∙ file_runs q

-- beginnings

stopped_front : (t : Token) (front rest : List Token) (row : Option (List Symbol)) → ((stack : List Symbol) → stop (front ++ rest) stack ≡ None → stop front stack ≡ None)
    → stopped (t ∷ front ++ rest) (stop (front ++ rest)) row ≡ None → stopped (t ∷ front) (stop front) row ≡ None
stopped_front t front rest None goes is = absurd (cc)
stopped_front t front rest (Some stack) goes is = goes stack is

pub front_goes : (front rest : List Token) (stack : List Symbol) → stop (front ++ rest) stack ≡ None → stop front stack ≡ None
front_goes [] rest stack goes = refl
front_goes (t ∷ front) rest stack goes = stopped_front t front rest (advance stack (term_of t)) (λ other. front_goes front rest other) goes

-- so no generated list begins with tokens in which the recogniser stops
pub begun_goes : (front : List Token) → Begins front → stop front (symbol.File ∷ []) ≡ None
begun_goes front begins = front_goes front begins.rest (symbol.File ∷ []) (file_runs begins.file)
