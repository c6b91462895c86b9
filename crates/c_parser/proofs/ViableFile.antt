-- Behind each row of the recogniser for external declarations stands what its symbol stands for.
use Rattle.std.proofs.Common.{◌≡◌, ℕ, List, [], ◌∷◌, Option}
use Rattle.c_lexer.specs.declared.token.Token.{Token}
use Rattle.c_lexer.specs.declared.token.Kind.TheVariants as kind
use Rattle.c_tree.specs.declared.tree.Base.{Base}
use Rattle.c_tree.specs.declared.tree.Body.{Body}
use Rattle.c_tree.specs.declared.tree.GlobalDecl.{GlobalDecl}
use Rattle.c_tree.specs.declared.tree.Head.{Head}
use Rattle.c_tree.specs.declared.tree.Word.{Word}
use Rattle.c_parser.specs.declared.symbol.Symbol.{Symbol}
use Rattle.c_parser.specs.declared.symbol.Symbol.TheVariants as symbol
use Rattle.c_parser.specs.declared.term.Term.{Term}
use Rattle.c_parser.specs.declared.term.Term.TheVariants as term
use Rattle.c_parser.specs.Term.{term_of}
use Rattle.c_parser.specs.Blocks.{IsBlock}
use Rattle.c_parser.specs.Declarators.{IsBase, IsOptionalName, IsStars}
use Rattle.c_parser.specs.Grammar.{IsConst, IsFieldNames, IsFields, IsGlobal, IsGlobals, IsHead, IsMoreParams, IsParam, IsParams, IsStructBody, IsTop}
use Rattle.c_parser.specs.Recogniser.{after_base, after_global, after_head, after_outer, after_star, based, const, field, file, more_fields, more_globals, more_names, more_parameters, parameters, starred, tagged, typedef, typedef_named}
use Rattle.c_parser.proofs.ViableSymbols.{AConst, AField, AParam, AStarredName, AToken, ATop, AnAfterBase, AnAfterHead, AnAfterStar, OfAfterGlobal, OfAfterOuter, OfGlobal, OfMoreGlobals, OfOuter, OfRow, OfStack, OfTagged, OfTypedef, OfTypedefNamed, PartedRow, SomeFieldNames, SomeFields, SomeGlobals, SomeMoreFields, SomeMoreNames, SomeMoreParams, SomeParams, SomePieces, SomeTops, part_row}
use Rattle.c_parser.proofs.ViableExpressions.{name_of, number_of}
use Rattle.c_parser.proofs.ViableStatements.{AStarred, starred_sound}

-- a base and what stands behind it
pub data ABased (behind : List Symbol) : List Token → List Token → Type 0 where
  of_base : {b : Base} {f : Token} {ts us vs : List Token} → IsBase b (f ∷ ts) us → OfStack behind us vs → ABased behind (f ∷ ts) vs

based_sound : (behind : List Symbol) (x : Term) (t : Token) → term_of t ≡ x → {ts us : List Token} → OfRow (based behind x) ts us → ABased behind (t ∷ ts) us
based_sound behind term.Int t is d = ABased.of_base (IsBase.int is) d
based_sound behind term.Struct t is (OfStack.then (AToken.token {t = n} name) d) = ABased.of_base (IsBase.tag is (name_of n name).1) d
based_sound behind term.Name t is d = ABased.of_base (IsBase.alias (name_of t is).1) d
based_sound behind _ t is d = absurd d

-- fields

more_field_names : {b : Base} {f n t : Token} {stars : ℕ} {text : List ℕ} {ts us vs : List Token} → IsStars stars ts (n ∷ t ∷ us) → n.kind ≡ kind.Name text
    → term_of t ≡ term.Comma
    → SomeFieldNames b f us vs → SomeFieldNames b f ts vs
more_field_names d name is (SomeFieldNames.names q) = SomeFieldNames.names (IsFieldNames.more d name is q)

field_names : {ts us vs : List Token} → AStarredName ts us → SomeMoreNames us vs → (b : Base) (f : Token) → SomeFieldNames b f ts vs
field_names (AStarredName.starred d name) (SomeMoreNames.end is) b f = SomeFieldNames.names (IsFieldNames.last d name is)
field_names (AStarredName.starred d name) (SomeMoreNames.more is q) b f = more_field_names d name is (q b f)

pub more_names_sound : (x : Term) (t : Token) → term_of t ≡ x → {ts us : List Token} → OfRow (more_names x) ts us → SomeMoreNames (t ∷ ts) us
more_names_sound term.Comma t is (OfStack.then d (OfStack.then q OfStack.done)) = SomeMoreNames.more is (λ b f. field_names d q b f)
more_names_sound term.Semicolon t is OfStack.done = SomeMoreNames.end is
more_names_sound _ t is d = absurd d

starred_name : {ts us : List Token} → AStarred [] ts us → AStarredName ts us
starred_name (AStarred.word d name OfStack.done) = AStarredName.starred d name

pub starred_name_sound : (x : Term) (t : Token) → term_of t ≡ x → {ts us : List Token} → OfRow (starred [] x) ts us → AStarredName (t ∷ ts) us
starred_name_sound x t is d = starred_name (starred_sound [] x t is d)

names_field : {b : Base} {f : Token} {ts us vs : List Token} → IsBase b (f ∷ ts) us → SomeFieldNames b f us vs → AField (f ∷ ts) vs
names_field base (SomeFieldNames.names d) = AField.field base d

based_field : {ts us : List Token} → ABased (symbol.StarredName ∷ symbol.MoreNames ∷ []) ts us → AField ts us
based_field (ABased.of_base {b = b} {f = f} base (OfStack.then d (OfStack.then q OfStack.done))) = names_field base (field_names d q b f)

pub field_sound : (x : Term) (t : Token) → term_of t ≡ x → {ts us : List Token} → OfRow (field x) ts us → AField (t ∷ ts) us
field_sound x t is d = based_field (based_sound (symbol.StarredName ∷ symbol.MoreNames ∷ []) x t is d)

fields_row : {ts us vs : List Token} → AField ts us → SomeMoreFields us vs → SomeFields ts vs
fields_row (AField.field base d) (SomeMoreFields.close is) = SomeFields.fields (IsFields.last base d is)
fields_row (AField.field base d) (SomeMoreFields.more (SomeFields.fields q)) = SomeFields.fields (IsFields.more base d q)

fields_parted : (x : Term) (t : Token) {ts us : List Token} → term_of t ≡ x → PartedRow (field x) (symbol.MoreFields ∷ []) ts us → SomeMoreFields (t ∷ ts) us
fields_parted x t is (PartedRow.parted d (OfStack.then q OfStack.done)) = SomeMoreFields.more (fields_row (field_sound x t is d) q)

pub more_fields_sound : (x : Term) (t : Token) → term_of t ≡ x → {ts us : List Token} → OfRow (more_fields x) ts us → SomeMoreFields (t ∷ ts) us
more_fields_sound term.CloseBrace t is OfStack.done = SomeMoreFields.close is
more_fields_sound x t is d = fields_parted x t is (part_row (field x) (symbol.MoreFields ∷ []) d)

-- structs

pub data AStructBody : List Token → List Token → Type 0 where
  body : {body : Body} {ts us : List Token} → IsStructBody body ts us → AStructBody ts us

struct_body : {o : Token} {ts us : List Token} → term_of o ≡ term.OpenBrace → SomeFields ts us → AStructBody (o ∷ ts) us
struct_body is (SomeFields.fields d) = AStructBody.body (IsStructBody.body is d)

alias_row : {tag : Option Word} {t s m e : Token} {ts us vs : List Token} → term_of t ≡ term.Typedef → term_of s ≡ term.Struct → IsOptionalName tag ts us
    → AStructBody us (m ∷ e ∷ vs) → term_of m ≡ term.Name → term_of e ≡ term.Semicolon → ATop (t ∷ s ∷ ts) vs
alias_row {m = m} is struct tag (AStructBody.body d) name end = ATop.top (IsTop.alias_of_body is struct tag d (name_of m name).1 end)

pub typedef_named_sound : (x : Term) (t : Token) → term_of t ≡ x → {ts us : List Token} → OfRow (typedef_named x) ts us → OfTypedefNamed (t ∷ ts) us
typedef_named_sound term.Name t is (OfStack.then (AToken.token end) OfStack.done) =
    λ y s n text begins struct tag. ATop.top (IsTop.alias begins struct tag (name_of t is).1 end)
typedef_named_sound term.OpenBrace t is (OfStack.then d (OfStack.then q (OfStack.then (AToken.token name) (OfStack.then (AToken.token end) OfStack.done)))) =
    λ y s n text begins struct tag. alias_row begins struct (IsOptionalName.named tag) (struct_body is (fields_row d q)) name end
typedef_named_sound _ t is d = absurd d

pub typedef_sound : (x : Term) (t : Token) → term_of t ≡ x → {ts us : List Token} → OfRow (typedef x) ts us → OfTypedef (t ∷ ts) us
typedef_sound term.Name t is (OfStack.then d OfStack.done) = λ y s begins struct. let named = name_of t is in d y s t named.0 begins struct named.1
typedef_sound term.OpenBrace t is (OfStack.then d (OfStack.then q (OfStack.then (AToken.token name) (OfStack.then (AToken.token end) OfStack.done)))) =
    λ y s begins struct. alias_row begins struct IsOptionalName.none (struct_body is (fields_row d q)) name end
typedef_sound _ t is d = absurd d

-- global declarations

pub const_sound : (x : Term) (t : Token) → term_of t ≡ x → {ts us : List Token} → OfRow (const x) ts us → AConst (t ∷ ts) us
const_sound term.Minus t is (OfStack.then (AToken.token {t = n} number) OfStack.done) = AConst.const (IsConst.minus is (number_of n number).1)
const_sound term.Number t is OfStack.done = AConst.const (IsConst.number (number_of t is).1)
const_sound term.Null t is OfStack.done = AConst.const (IsConst.null is)
const_sound term.Eof t is OfStack.done = AConst.const (IsConst.eof is)
const_sound _ t is d = absurd d

global_starred : {ts us : List Token} → AStarred (symbol.AfterGlobal ∷ []) ts us → OfGlobal ts us
global_starred {ts = ts} (AStarred.word {stars = stars} {n = n} {text = text} d name (OfStack.then q OfStack.done)) = λ b f. q b f n stars text ts d name

pub global_sound : (x : Term) (t : Token) → term_of t ≡ x → {ts us : List Token} → OfRow (starred (symbol.AfterGlobal ∷ []) x) ts us → OfGlobal (t ∷ ts) us
global_sound x t is d = global_starred (starred_sound (symbol.AfterGlobal ∷ []) x t is d)

globals_more : {b : Base} {f t : Token} {g : GlobalDecl} {ws ts us : List Token} → IsGlobal b f g ws (t ∷ ts) → term_of t ≡ term.Comma → SomeGlobals b f ts us
    → SomeGlobals b f ws us
globals_more d is (SomeGlobals.globals q) = SomeGlobals.globals (IsGlobals.more d is q)

pub more_globals_sound : (x : Term) (t : Token) → term_of t ≡ x → {ts us : List Token} → OfRow (more_globals x) ts us → OfMoreGlobals (t ∷ ts) us
more_globals_sound term.Comma t is (OfStack.then q OfStack.done) = λ b f g ws first. globals_more first is (q b f)
more_globals_sound term.Semicolon t is OfStack.done = λ b f g ws first. SomeGlobals.globals (IsGlobals.last first is)
more_globals_sound _ t is d = absurd d

given_globals : {t : Token} {ts us vs : List Token} → term_of t ≡ term.Put → AConst ts us → OfMoreGlobals us vs → OfAfterGlobal (t ∷ ts) vs
given_globals is (AConst.const e) q = λ b f n stars text ws d name. q b f _ ws (IsGlobal.given d name is e)

bare_globals : {ts us : List Token} → OfMoreGlobals ts us → OfAfterGlobal ts us
bare_globals q = λ b f n stars text ws d name. q b f _ ws (IsGlobal.bare d name)

pub after_global_sound : (x : Term) (t : Token) → term_of t ≡ x → {ts us : List Token} → OfRow (after_global x) ts us → OfAfterGlobal (t ∷ ts) us
after_global_sound term.Put t is (OfStack.then d (OfStack.then q OfStack.done)) = given_globals is d q
after_global_sound x t is d = bare_globals (more_globals_sound x t is d)

globals_top : {b : Base} {f : Token} {ts us vs : List Token} → IsBase b (f ∷ ts) us → SomeGlobals b f us vs → ATop (f ∷ ts) vs
globals_top base (SomeGlobals.globals d) = ATop.top (IsTop.globals base d)

-- functions

pub more_parameters_sound : (x : Term) (t : Token) → term_of t ≡ x → {ts us : List Token} → OfRow (more_parameters x) ts us → SomeMoreParams (t ∷ ts) us
more_parameters_sound term.Comma t is (OfStack.then (AParam.param d (SomeMoreParams.more_params q)) OfStack.done) = SomeMoreParams.more_params (IsMoreParams.comma is d q)
more_parameters_sound term.Close t is OfStack.done = SomeMoreParams.more_params (IsMoreParams.close is)
more_parameters_sound _ t is d = absurd d

pub after_star_sound : (x : Term) (t : Token) → term_of t ≡ x → {ts us : List Token} → OfRow (after_star x) ts us → AnAfterStar (t ∷ ts) us
after_star_sound term.Name t is (OfStack.then d OfStack.done) = AnAfterStar.name (IsOptionalName.named (name_of t is).1) d
after_star_sound x t is d = AnAfterStar.name IsOptionalName.none (more_parameters_sound x t is d)

pub after_base_sound : (x : Term) (t : Token) → term_of t ≡ x → {ts us : List Token} → OfRow (after_base x) ts us → AnAfterBase (t ∷ ts) us
after_base_sound term.Star t is (OfStack.then d OfStack.done) = AnAfterBase.stars (IsStars.star is) d
after_base_sound x t is d = AnAfterBase.stars IsStars.none (after_star_sound x t is d)

based_param : {ts us : List Token} → ABased (symbol.AfterBase ∷ []) ts us → AParam ts us
based_param (ABased.of_base base (OfStack.then (AnAfterBase.stars d (AnAfterStar.name n q)) OfStack.done)) = AParam.param (IsParam.param base d n) q

pub parameter_sound : (x : Term) (t : Token) → term_of t ≡ x → {ts us : List Token} → OfRow (based (symbol.AfterBase ∷ []) x) ts us → AParam (t ∷ ts) us
parameter_sound x t is d = based_param (based_sound (symbol.AfterBase ∷ []) x t is d)

some_params : {ts us : List Token} → AParam ts us → SomeParams ts us
some_params (AParam.param d (SomeMoreParams.more_params q)) = SomeParams.params (IsParams.some d q)

pub parameters_sound : (x : Term) (t : Token) → term_of t ≡ x → {ts us : List Token} → OfRow (parameters x) ts us → SomeParams (t ∷ ts) us
parameters_sound term.Close t is OfStack.done = SomeParams.params (IsParams.nothing is)
parameters_sound term.Void t is (OfStack.then (AToken.token close) OfStack.done) = SomeParams.params (IsParams.void is close)
parameters_sound x t is d = some_params (parameter_sound x t is d)

function_row : {t : Token} {ts us : List Token} → term_of t ≡ term.OpenBrace → SomePieces ts us → AnAfterHead (t ∷ ts) us
function_row is (SomePieces.pieces d) = AnAfterHead.function (IsBlock.braces is d)

pub after_head_sound : (x : Term) (t : Token) → term_of t ≡ x → {ts us : List Token} → OfRow (after_head x) ts us → AnAfterHead (t ∷ ts) us
after_head_sound term.Semicolon t is OfStack.done = AnAfterHead.prototype is
after_head_sound term.OpenBrace t is (OfStack.then d OfStack.done) = function_row is d
after_head_sound _ t is d = absurd d

head_top : {h : Head} {ts us vs : List Token} → IsHead h ts us → AnAfterHead us vs → ATop ts vs
head_top d (AnAfterHead.prototype is) = ATop.top (IsTop.prototype d is)
head_top d (AnAfterHead.function b) = ATop.top (IsTop.function d b)

function_top : {o : Token} {ts us vs : List Token} → term_of o ≡ term.Open → SomeParams ts us → AnAfterHead us vs → OfAfterOuter (o ∷ ts) vs
function_top is (SomeParams.params d) q = λ b f n stars text ws vs base star name. head_top (IsHead.value base star name is d) q

void_top : {t n o : Token} {ts us vs : List Token} → term_of t ≡ term.Void → term_of n ≡ term.Name → term_of o ≡ term.Open → SomeParams ts us → AnAfterHead us vs
    → ATop (t ∷ n ∷ o ∷ ts) vs
void_top {n = n} is name opens (SomeParams.params d) q = head_top (IsHead.void is (name_of n name).1 opens d) q

after_top : {ts us : List Token} → OfAfterGlobal ts us → OfAfterOuter ts us
after_top d = λ b f n stars text ws vs base star name. globals_top base (d b f n stars text vs star name)

pub after_outer_sound : (x : Term) (t : Token) → term_of t ≡ x → {ts us : List Token} → OfRow (after_outer x) ts us → OfAfterOuter (t ∷ ts) us
after_outer_sound term.Open t is (OfStack.then d (OfStack.then q OfStack.done)) = function_top is d q
after_outer_sound x t is d = after_top (after_global_sound x t is d)

outer_starred : {ts us : List Token} → AStarred (symbol.AfterOuter ∷ []) ts us → OfOuter ts us
outer_starred {ts = ts} (AStarred.word {stars = stars} {n = n} {text = text} d name (OfStack.then q OfStack.done)) = λ b f ws base. q b f n stars text ws ts base d name

pub outer_sound : (x : Term) (t : Token) → term_of t ≡ x → {ts us : List Token} → OfRow (starred (symbol.AfterOuter ∷ []) x) ts us → OfOuter (t ∷ ts) us
outer_sound x t is d = outer_starred (starred_sound (symbol.AfterOuter ∷ []) x t is d)

-- behind `struct` and a name

tag_row : {o e : Token} {ts us : List Token} → AStructBody (o ∷ ts) (e ∷ us) → term_of e ≡ term.Semicolon → OfTagged (o ∷ ts) us
tag_row (AStructBody.body d) end = λ s n text struct name. ATop.top (IsTop.tag_of_body struct name d end)

outer_tagged : {ts us : List Token} → OfOuter ts us → OfTagged ts us
outer_tagged {ts = ts} d = λ s n text struct name. d _ s (n ∷ ts) (IsBase.tag struct name)

pub tagged_sound : (x : Term) (t : Token) → term_of t ≡ x → {ts us : List Token} → OfRow (tagged x) ts us → OfTagged (t ∷ ts) us
tagged_sound term.Semicolon t is OfStack.done = λ s n text struct name. ATop.top (IsTop.tag struct name is)
tagged_sound term.OpenBrace t is (OfStack.then d (OfStack.then q (OfStack.then (AToken.token end) OfStack.done))) = tag_row (struct_body is (fields_row d q)) end
tagged_sound x t is d = outer_tagged (outer_sound x t is d)

-- files

based_tops : {ts us : List Token} → ABased (symbol.Outer ∷ symbol.File ∷ []) ts us → SomeTops ts us
based_tops (ABased.of_base {b = b} {f = f} {ts = ts} base (OfStack.then d (OfStack.then q OfStack.done))) = SomeTops.more (d b f ts base) q

pub file_sound : (x : Term) (t : Token) → term_of t ≡ x → {ts us : List Token} → OfRow (file x) ts us → SomeTops (t ∷ ts) us
file_sound term.Typedef t is (OfStack.then (AToken.token {t = s} struct) (OfStack.then d (OfStack.then q OfStack.done))) = SomeTops.more (d t s is struct) q
file_sound term.Struct t is (OfStack.then (AToken.token {t = n} name) (OfStack.then d (OfStack.then q OfStack.done))) =
    let named = name_of n name in SomeTops.more (d t n named.0 is named.1) q
file_sound term.Void t is (OfStack.then (AToken.token name) (OfStack.then (AToken.token opens) (OfStack.then d (OfStack.then q (OfStack.then rest OfStack.done))))) =
    SomeTops.more (void_top is name opens d q) rest
file_sound x t is d = based_tops (based_sound (symbol.Outer ∷ symbol.File ∷ []) x t is d)
