-- What is read as a call, an assignment or a declaration is one.
use Rattle.std.proofs.Common.{◌≡◌, ℕ, zero, suc, Bool, true, false, List, [], ◌∷◌, ◌++◌, Option, Some, None, if◌then◌else◌, length, drop, refl, ap, sym}
use Rattle.std.specs.Option.{option_map, option_and_then}
use Rattle.c_lexer.specs.declared.token.Token.{Token}
use Rattle.c_lexer.specs.declared.token.Kind.TheVariants as kind
use Rattle.c_tree.specs.declared.expr.Op.{Op}
use Rattle.c_tree.specs.declared.tree.Arg.{Arg}
use Rattle.c_tree.specs.declared.tree.Base.{Base}
use Rattle.c_tree.specs.declared.tree.Base.TheVariants as base
use Rattle.c_tree.specs.declared.tree.Declr.{Declr}
use Rattle.c_tree.specs.declared.tree.Expr.{Expr}
use Rattle.c_tree.specs.declared.tree.Spec.{Spec}
use Rattle.c_tree.specs.declared.tree.Unit.{Unit as Counted}
use Rattle.c_tree.specs.declared.tree.Word.{Word}
use Rattle.c_parser.specs.Declarators.{IsBase, IsCast, IsSize, IsStars, IsUnit, spec}
use Rattle.c_parser.specs.Expressions.{IsPost, IsUnary, arg}
use Rattle.c_parser.specs.ReadExpressions.{Read, placed, read_unary, text_in}
use Rattle.c_parser.specs.ReadStatements.{begins_call, cast_to, read_args, read_base, read_base_at, read_call, read_call_at, read_cast, read_change, read_changed, read_count_before, read_count_behind, read_decl, read_declr, read_declrs, read_declrs_behind, read_initialiser, read_more_args, read_more_args_at, read_place, read_request, read_right, read_simple, read_simple_at, read_size, read_starred, read_stars, read_step, read_text, read_unit, read_unit_at, read_unit_within}
use Rattle.c_parser.specs.Statements.{IsArgs, IsCall, IsDecl, IsDeclr, IsDeclrs, IsMoreArgs, IsPlace, IsRight, IsSimple, change_of, step_of}
use Rattle.c_parser.specs.Term.{next, same, sees, term_of, word}
use Rattle.c_parser.specs.declared.term.Term.{Term}
use Rattle.c_parser.specs.declared.term.Term.TheVariants as term
use Rattle.c_parser.proofs.Terms.{same_is, text_in_is}
use Rattle.c_parser.proofs.Yields.{Yields, ReadsOnly, Appends, chains, maps, so, either, whether, want, first_name, name, appends_none, appends_more}
use Rattle.c_parser.proofs.SoundExpressions.{arg_sound, begins_post, level_sound, post_sound, unary_sound}

-- types

-- the type without stars or a name that is read of a base
pub record IsTyped (s : Spec) (ts us : List Token) : Type 0 where
  pub base : Base
  pub first : Token
  pub rest : List Token
  pub list : ts ≡ first ∷ rest
  pub is : IsBase base (first ∷ rest) us
  pub spec : s ≡ spec base first 0 None

base_at_sound : (x : Term) (t : Token) (ts : List Token) → term_of t ≡ x → Yields (λ s us. IsTyped s (t ∷ ts) us) (read_base_at x t ts)
base_at_sound term.Int t ts is = Yields.found (record { base = base.Int; first = t; rest = ts; list = refl; is = IsBase.int is; spec = refl })
base_at_sound term.Struct t ts is =
    maps _ (name ts) (λ w us n. record { base = base.Tag w; first = t; rest = ts; list = refl; is = rw (n.word, n.list) (IsBase.tag is n.kind); spec = refl })
base_at_sound term.Name t ts is =
    maps _ (first_name t ts) (λ w us n. record { base = base.Alias w; first = t; rest = ts; list = refl; is = rw (n.word, n.list) (IsBase.alias n.kind); spec = refl })
base_at_sound _ t ts is = Yields.nothing

pub base_sound : ReadsOnly IsTyped read_base
unfolding read_base
base_sound [] = Yields.nothing
base_sound (t ∷ ts) = base_at_sound (term_of t) t ts refl

abbrev stars_at : Bool → Token → List Token → ℕ × List Token
stars_at star t ts = if star then (1, ts) else (0, t ∷ ts)

star_sound : (star : Bool) (t : Token) (ts : List Token) → same term.Star (term_of t) ≡ star → IsStars (stars_at star t ts).0 (t ∷ ts) (stars_at star t ts).1
star_sound true t ts is = IsStars.star (sym (same_is term.Star (term_of t) is))
star_sound false t ts is = IsStars.none

pub stars_sound : (ts : List Token) → IsStars (read_stars ts).0 ts (read_stars ts).1
stars_sound [] = IsStars.none
stars_sound (t ∷ ts) = star_sound (same term.Star (term_of t)) t ts refl

-- the number of stars and the name behind them
pub record IsStarred (p : ℕ × Word) (ts us : List Token) : Type 0 where
  pub token : Token
  pub text : List ℕ
  pub stars : IsStars p.0 ts (token ∷ us)
  pub kind : token.kind ≡ kind.Name text
  pub word : p.1 ≡ word text token

pub starred_sound : ReadsOnly IsStarred read_starred
starred_sound ts =
    maps _ (name (read_stars ts).1) (λ w us n. record { token = n.token; text = n.text; stars = rw n.list at (stars_sound ts); kind = n.kind; word = n.word })

-- units and sizes

-- a unit that wants the `)` behind it
abbrev Unclosed : Token → List Token → Counted → List Token → Type 0
Unclosed z ts u us = (c : Token) (vs : List Token) → us ≡ c ∷ vs → term_of c ≡ term.Close → IsUnit u z.start ts vs

unit_within_sound : (z o : Token) → term_of z ≡ term.Sizeof → term_of o ≡ term.Open → (ts : List Token) → Yields (Unclosed z (z ∷ o ∷ ts)) (read_unit_within ts)
unit_within_sound z o is opens [] = Yields.nothing
unit_within_sound z o is opens (t ∷ ts) =
    whether term.Star t
    (λ star. maps _ (name ts) (λ w us n c vs list close. rw (n.word, n.list, list) (IsUnit.of_star_within is opens star n.kind close)))
    (λ other. maps _ (base_sound (t ∷ ts)) (λ s us d c vs list close. rw (d.spec, d.list) (IsUnit.of_type is opens (rw list at d.is) close)))

unit_at_sound : (z : Token) → term_of z ≡ term.Sizeof → (x : Term) (o : Token) (ts : List Token) → term_of o ≡ x
    → Yields (λ u us. IsUnit u z.start (z ∷ o ∷ ts) us) (read_unit_at x ts)
unit_at_sound z is term.Star o ts star = maps _ (name ts) (λ w us n. rw (n.word, n.list) (IsUnit.of_star is star n.kind))
unit_at_sound z is term.Open o ts opens =
    chains _ (unit_within_sound z o is opens ts) (λ u us d. maps _ (want term.Close us) (λ c vs close. d c vs close.list close.term))
unit_at_sound z is _ o ts other = Yields.nothing

unit_behind_sound : (z : Token) → term_of z ≡ term.Sizeof → (ts : List Token) → Yields (λ u us. IsUnit u z.start (z ∷ ts) us) (read_unit_at (next ts) (drop 1 ts))
unit_behind_sound z is [] = Yields.nothing
unit_behind_sound z is (o ∷ ts) = unit_at_sound z is (term_of o) o ts refl

unit_sound : ReadsOnly (λ u ts us. IsUnit u.0 u.1 ts us) read_unit
unfolding read_unit
unit_sound ts = chains _ (want term.Sizeof ts) (λ z us is. maps _ (unit_behind_sound z is.term us) (λ u vs d. rw is.list d))

count_behind_sound : (depth : ℕ) (u : Counted × ℕ) (ts us : List Token) → IsUnit u.0 u.1 ts us → Yields (λ z vs. IsSize z ts vs) (read_count_behind depth u us)
count_behind_sound depth u ts [] d = Yields.found (IsSize.one d)
count_behind_sound depth u ts (t ∷ us) d =
    whether term.Star t
    (λ star. maps _ (unary_sound depth us) (λ e vs q. IsSize.count_behind d star q))
    (λ other. Yields.found (IsSize.one d))

count_before_sound : (depth : ℕ) → ReadsOnly IsSize (read_count_before depth)
count_before_sound depth ts =
    chains _ (level_sound depth 1 ts) (λ e us d. chains _ (want term.Star us) (λ s vs star.
    maps _ (unit_sound vs) (λ u ws q. IsSize.count_before (rw star.list at d) star.term q)))

size_sound : (depth : ℕ) → ReadsOnly IsSize (read_size depth)
unfolding read_size
size_sound depth ts =
    either (sees term.Sizeof ts)
    (λ unit. chains _ (unit_sound ts) (λ u us d. count_behind_sound depth u ts us d))
    (λ count. count_before_sound depth ts)

-- arguments

-- these arguments, with the place of the `)`
abbrev MoreArgs : List Arg → List Arg × ℕ → List Token → List Token → Type 0
MoreArgs front p ts us = Appends (λ args vs ws. IsMoreArgs args p.1 vs ws) front p.0 ts us

more_args_at_sound : (depth : ℕ) (on : List Arg → Read (List Arg × ℕ)) → ((front : List Arg) → ReadsOnly (MoreArgs front) (on front))
    → (front : List Arg) (x : Term) (t : Token) (ts : List Token) → term_of t ≡ x → Yields (λ p us. MoreArgs front p (t ∷ ts) us) (read_more_args_at depth on front x t ts)
more_args_at_sound depth on rest front term.Close t ts is = Yields.found (appends_none (IsMoreArgs.close is))
more_args_at_sound depth on rest front term.Comma t ts is =
    chains _ (arg_sound depth ts) (λ a us d. so (rest (front ++ a ∷ []) us) (λ p vs q. appends_more a q (λ others r. IsMoreArgs.comma is d r)))
more_args_at_sound depth on rest front _ t ts is = Yields.nothing

more_args_sound : (depth n : ℕ) (front : List Arg) → ReadsOnly (MoreArgs front) (read_more_args depth n front)
unfolding read_more_args
more_args_sound depth zero front ts = Yields.nothing
more_args_sound depth (suc n) front [] = Yields.nothing
more_args_sound depth (suc n) front (t ∷ ts) = more_args_at_sound depth (read_more_args depth n) (more_args_sound depth n) front (term_of t) t ts refl

args_sound : (depth : ℕ) → ReadsOnly (λ p ts us. IsArgs p.0 p.1 ts us) (read_args depth)
unfolding read_args
args_sound depth [] = Yields.nothing
args_sound depth (t ∷ ts) =
    whether term.Close t
    (λ close. Yields.found (IsArgs.none close))
    (λ other. chains _ (arg_sound depth (t ∷ ts)) (λ a us d. so (more_args_sound depth (length (t ∷ ts)) (a ∷ []) us) (λ p vs q. rw q.list (IsArgs.some d q.is))))

-- calls

request_sound : (depth : ℕ) (cast : Option Spec) (t : Token) (ts us : List Token) → IsCast cast ts (t ∷ us) → term_of t ≡ term.Malloc
    → Yields (λ c vs. IsCall c ts vs) (read_request depth cast t us)
request_sound depth cast t ts us d is =
    chains _ (want term.Open us) (λ o vs opens. chains _ (size_sound depth vs) (λ z ws size. maps _ (want term.Close ws) (λ c xs close.
    IsCall.malloc (rw opens.list at d) is opens.term (rw close.list at size) close.term)))

cast_sound : (depth : ℕ) (o : Token) (ts : List Token) → term_of o ≡ term.Open → Yields (λ c us. IsCall c (o ∷ ts) us) (read_cast depth ts)
cast_sound depth o ts opens =
    chains _ (base_sound ts) (λ s us d. chains _ (want term.Star us) (λ p vs star. chains _ (want term.Close vs) (λ c ws close. chains _ (want term.Malloc ws) (λ t xs is.
    request_sound depth (Some (cast_to s)) t (o ∷ ts) xs
    (rw (d.spec, d.list) (IsCast.cast opens (rw (star.list, close.list, is.list) at d.is) star.term close.term)) is.term))))

-- a text and its place
record IsText (x : List ℕ × ℕ) (ts us : List Token) : Type 0 where
  pub token : Token
  pub list : ts ≡ token ∷ us
  pub kind : token.kind ≡ kind.Text x.0
  pub at : x.1 ≡ token.start

text_of : (t : Token) (ts : List Token) (found : Option (List ℕ)) → text_in t.kind ≡ found → Yields (λ x us. IsText x (t ∷ ts) us) (option_map (λ text. ((text, t.start), ts)) found)
text_of t ts None is = Yields.nothing
text_of t ts (Some text) is = Yields.found (record { token = t; list = refl; kind = text_in_is t.kind text is; at = refl })

text_sound : ReadsOnly IsText read_text
text_sound [] = Yields.nothing
text_sound (t ∷ ts) = text_of t ts (text_in t.kind) refl

call_at_sound : (depth : ℕ) (x : Term) (t : Token) (ts : List Token) → term_of t ≡ x → Yields (λ c us. IsCall c (t ∷ ts) us) (read_call_at depth x t ts)
call_at_sound depth term.Name t ts is =
    chains _ (first_name t ts) (λ w us n. chains _ (want term.Open us) (λ o vs opens.
    maps _ (args_sound depth vs) (λ p ws d. rw (n.word, n.list, opens.list) (IsCall.user n.kind opens.term d))))
call_at_sound depth term.Getchar t ts is =
    chains _ (want term.Open ts) (λ o us opens. maps _ (want term.Close us) (λ c vs close. rw (opens.list, close.list) (IsCall.getchar is opens.term close.term)))
call_at_sound depth term.Putchar t ts is =
    chains _ (want term.Open ts) (λ o us opens. chains _ (arg_sound depth us) (λ a vs d. maps _ (want term.Close vs) (λ c ws close.
    rw opens.list (IsCall.putchar is opens.term (rw close.list at d) close.term))))
call_at_sound depth term.Printf t ts is =
    chains _ (want term.Open ts) (λ o us opens. chains _ (text_sound us) (λ x vs string. maps _ (more_args_sound depth (length us) [] vs) (λ p ws d.
    rw (opens.list, string.list, string.at, d.list) (IsCall.printf is opens.term string.kind d.is))))
call_at_sound depth term.Malloc t ts is = request_sound depth None t (t ∷ ts) ts IsCast.none is
call_at_sound depth term.Open t ts is = cast_sound depth t ts is
call_at_sound depth _ t ts is = Yields.nothing

pub call_sound : (depth : ℕ) → ReadsOnly IsCall (read_call depth)
unfolding read_call
call_sound depth [] = Yields.nothing
call_sound depth (t ∷ ts) = call_at_sound depth (term_of t) t ts refl

pub right_sound : (depth : ℕ) → ReadsOnly IsRight (read_right depth)
unfolding read_right
right_sound depth ts =
    either (begins_call ts) (λ call. maps _ (call_sound depth ts) (λ c us d. IsRight.called d)) (λ plain. maps _ (arg_sound depth ts) (λ a us d. IsRight.plain d))

-- assignments

-- an operand with the place of its first token
record IsPlaced (P : Expr → List Token → List Token → Type 0) (a : Arg) (ts us : List Token) : Type 0 where
  pub expr : Expr
  pub first : Token
  pub rest : List Token
  pub list : ts ≡ first ∷ rest
  pub arg : a ≡ arg expr first
  pub is : P expr (first ∷ rest) us

placed_sound : {P : Expr → List Token → List Token → Type 0} (read : Read Expr) (t : Token) (ts : List Token) → Yields (λ e us. P e (t ∷ ts) us) (read (t ∷ ts))
    → Yields (λ a us. IsPlaced P a (t ∷ ts) us) (placed read (t ∷ ts))
placed_sound read t ts d = maps _ d (λ e us is. record { expr = e; first = t; rest = ts; list = refl; arg = refl; is = is })

-- what is changed: a post where `++` and `--` may follow
abbrev Changed : Bool → Expr → List Token → List Token → Type 0
Changed true e ts us = IsPost e ts us
Changed false e ts us = IsPlace e ts us

changed_place : (steps : Bool) {e : Expr} {ts us : List Token} → Changed steps e ts us → IsPlace e ts us
changed_place true d = IsPlace.post d
changed_place false d = d

step_sound : (steps : Bool) (a : Arg) (o : Option Op) (t : Token) (ts us : List Token) → IsPlaced (Changed steps) a ts (t ∷ us) → step_of (term_of t) ≡ o
    → Yields (λ s vs. IsSimple s ts vs) (read_step steps a o t us)
step_sound true a (Some o) t ts us d is = Yields.found (rw (d.arg, d.list) (IsSimple.step_behind d.is is))
step_sound true a None t ts us d is = Yields.nothing
step_sound false a o t ts us d is = Yields.nothing

change_sound : (depth : ℕ) (steps : Bool) (a : Arg) (o : Option Op) (t : Token) (ts us : List Token) → IsPlaced (Changed steps) a ts (t ∷ us) → change_of (term_of t) ≡ o
    → Yields (λ s vs. IsSimple s ts vs) (read_change depth steps a o t us)
change_sound depth steps a (Some o) t ts us d is =
    maps _ (arg_sound depth us) (λ b vs q. rw (d.arg, d.list) (IsSimple.change (changed_place steps d.is) is q))
change_sound depth steps a None t ts us d is = step_sound steps a (step_of (term_of t)) t ts us d refl

changed_sound : (depth : ℕ) (steps : Bool) (a : Arg) (ts us : List Token) → IsPlaced (Changed steps) a ts us → Yields (λ s vs. IsSimple s ts vs) (read_changed depth steps a us)
unfolding read_changed
changed_sound depth steps a ts [] d = Yields.nothing
changed_sound depth steps a ts (t ∷ us) d =
    whether term.Put t
    (λ put. maps _ (right_sound depth us) (λ r vs q. rw (d.arg, d.list) (IsSimple.put (changed_place steps d.is) put q)))
    (λ other. change_sound depth steps a (change_of (term_of t)) t ts us d refl)

-- `*` and an operand are a place
star_place : (depth : ℕ) (t : Token) (ts : List Token) → term_of t ≡ term.Star → Yields (λ e us. IsPlace e (t ∷ ts) us) (read_unary depth (t ∷ ts))
unfolding read_unary
star_place zero t ts is = Yields.nothing
star_place (suc depth) t ts is = rw is (maps _ (unary_sound depth ts) (λ e us d. IsPlace.deref is d))

post_place_sound : (depth : ℕ) (t : Token) (ts : List Token) → begins_post (term_of t) ≡ true
    → Yields (λ s us. IsSimple s (t ∷ ts) us) (option_and_then (λ p. read_changed depth true p.0 p.1) (placed (read_unary depth) (t ∷ ts)))
post_place_sound depth t ts begins =
    chains _ (placed_sound {P = Changed true} (read_unary depth) t ts (post_sound depth t ts begins)) (λ a us d. changed_sound depth true a (t ∷ ts) us d)

place_sound : (depth : ℕ) (x : Term) (t : Token) (ts : List Token) → term_of t ≡ x → Yields (λ s us. IsSimple s (t ∷ ts) us) (read_place depth x (t ∷ ts))
place_sound depth term.Minus t ts is = Yields.nothing
place_sound depth term.Not t ts is = Yields.nothing
place_sound depth term.Star t ts is =
    chains _ (placed_sound {P = Changed false} (read_unary depth) t ts (star_place depth t ts is)) (λ a us d. changed_sound depth false a (t ∷ ts) us d)
place_sound depth _ t ts is = post_place_sound depth t ts (ap begins_post is)

unary_placed : (depth : ℕ) → ReadsOnly (IsPlaced IsUnary) (placed (read_unary depth))
unary_placed depth [] = Yields.nothing
unary_placed depth (t ∷ ts) = placed_sound {P = IsUnary} (read_unary depth) t ts (unary_sound depth (t ∷ ts))

simple_at_sound : (depth : ℕ) (o : Option Op) (t : Token) (ts : List Token) → step_of (term_of t) ≡ o → Yields (λ s us. IsSimple s (t ∷ ts) us) (read_simple_at depth o t ts)
simple_at_sound depth (Some o) t ts is = maps _ (unary_placed depth ts) (λ a us d. rw (d.arg, d.list) (IsSimple.step_before is d.is))
simple_at_sound depth None t ts is = place_sound depth (term_of t) t ts refl

pub simple_sound : (depth : ℕ) → ReadsOnly IsSimple (read_simple depth)
unfolding read_simple
simple_sound depth [] = Yields.nothing
simple_sound depth (t ∷ ts) = simple_at_sound depth (step_of (term_of t)) t ts refl

-- declarations

initialiser_sound : (depth : ℕ) (b : Base) (f : Token) (p : ℕ × Word) (ts us : List Token) → IsStarred p ts us
    → Yields (λ d vs. IsDeclr b f d ts vs) (read_initialiser depth (spec b f p.0 (Some p.1)) p.1.at us)
initialiser_sound depth b f p ts [] d = Yields.found (rw d.word (IsDeclr.bare d.stars d.kind))
initialiser_sound depth b f p ts (t ∷ us) d =
    whether term.Put t
    (λ put. maps _ (right_sound depth us) (λ r vs q. rw d.word (IsDeclr.given d.stars d.kind put q)))
    (λ other. Yields.found (rw d.word (IsDeclr.bare d.stars d.kind)))

declr_sound : (depth : ℕ) (b : Base) (f : Token) → ReadsOnly (IsDeclr b f) (read_declr depth (spec b f 0 None))
unfolding read_declr
declr_sound depth b f ts = chains _ (starred_sound ts) (λ p us d. initialiser_sound depth b f p ts us d)

declrs_behind_sound : (b : Base) (f : Token) (on : List Declr → Read (List Declr)) → ((front : List Declr) → ReadsOnly (Appends (IsDeclrs b f) front) (on front))
    → (front : List Declr) (d : Declr) (ts us : List Token) → IsDeclr b f d ts us → Yields (λ all vs. Appends (IsDeclrs b f) front all ts vs) (read_declrs_behind on (front ++ d ∷ []) us)
declrs_behind_sound b f on rest front d ts [] is = Yields.found (record { others = d ∷ []; list = refl; is = IsDeclrs.last is })
declrs_behind_sound b f on rest front d ts (t ∷ us) is =
    whether term.Comma t
    (λ comma. so (rest (front ++ d ∷ []) us) (λ all vs q. appends_more d q (λ others r. IsDeclrs.more is comma r)))
    (λ other. Yields.found (record { others = d ∷ []; list = refl; is = IsDeclrs.last is }))

declrs_sound : (depth : ℕ) (b : Base) (f : Token) (n : ℕ) (front : List Declr) → ReadsOnly (Appends (IsDeclrs b f) front) (read_declrs depth (spec b f 0 None) n front)
unfolding read_declrs
declrs_sound depth b f zero front ts = Yields.nothing
declrs_sound depth b f (suc n) front ts =
    chains _ (declr_sound depth b f ts) (λ d us is. declrs_behind_sound b f (read_declrs depth (spec b f 0 None) n) (declrs_sound depth b f n) front d ts us is)

pub decl_sound : (depth : ℕ) → ReadsOnly IsDecl (read_decl depth)
unfolding read_decl
decl_sound depth ts =
    chains _ (base_sound ts) (λ s us d. rw d.spec (so (declrs_sound depth d.base d.first (length ts) [] us) (λ all vs q. rw (q.list, d.list) (IsDecl.decl d.is q.is))))
