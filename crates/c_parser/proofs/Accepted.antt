-- No token is refused of a list that the grammar generates.
use Rattle.std.proofs.Common.{◌≡◌, ℕ, zero, suc, List, Option, Some, sym, subst}
use Rattle.c_lexer.specs.declared.token.Token.{Token}
use Rattle.c_tree.specs.declared.tree.Expr.{Expr}
use Rattle.c_tree.specs.declared.tree.Arg.{Arg}
use Rattle.c_tree.specs.declared.tree.Base.{Base}
use Rattle.c_tree.specs.declared.tree.Word.{Word}
use Rattle.c_tree.specs.declared.tree.Spec.{Spec}
use Rattle.c_tree.specs.declared.tree.Unit.{Unit as Counted}
use Rattle.c_tree.specs.declared.tree.Size.{Size}
use Rattle.c_tree.specs.declared.tree.Call.{Call}
use Rattle.c_tree.specs.declared.tree.Right.{Right}
use Rattle.c_tree.specs.declared.tree.Simple.{Simple}
use Rattle.c_tree.specs.declared.tree.Declr.{Declr}
use Rattle.c_tree.specs.declared.tree.Free.{Free}
use Rattle.c_tree.specs.declared.tree.Start.{Start}
use Rattle.c_tree.specs.declared.tree.ForHead.{ForHead}
use Rattle.c_tree.specs.declared.tree.Item.{Item}
use Rattle.c_tree.specs.declared.tree.Arm.{Arm}
use Rattle.c_tree.specs.declared.tree.Block.{Block}
use Rattle.c_tree.specs.declared.tree.Piece.{Piece}
use Rattle.c_tree.specs.declared.tree.Body.{Body}
use Rattle.c_tree.specs.declared.tree.GlobalDecl.{GlobalDecl}
use Rattle.c_tree.specs.declared.tree.Head.{Head}
use Rattle.c_tree.specs.declared.tree.Top.{Top}
use Rattle.c_parser.specs.Expressions.{IsLevel, IsTail, IsUnary, IsPost, IsPosts, IsPrim, IsArg}
use Rattle.c_parser.specs.Declarators.{IsBase, IsStars, IsOptionalName, IsCast, IsUnit, IsSize}
use Rattle.c_parser.specs.Statements.{IsMoreArgs, IsArgs, IsCall, IsRight, IsPlace, IsSimple, IsDeclr, IsDeclrs, IsDecl}
use Rattle.c_parser.specs.Blocks.{IsFree, IsGap, IsTest, IsForStart, IsForTest, IsForStep, IsForHead, IsItem, IsElse, IsBody, IsBlock, IsPieces}
use Rattle.c_parser.specs.Grammar.{IsFieldNames, IsFields, IsStructBody, IsConst, IsGlobal, IsGlobals, IsParam, IsMoreParams, IsParams, IsHead, IsTop, IsFile, Generates}
use Rattle.c_lexer.specs.declared.token.Tokens.{Tokens}
use Rattle.c_lexer.specs.declared.token.Kind.{Kind}
use Rattle.c_lexer.specs.declared.token.Kind.TheVariants as kind
use Rattle.c_lexer.proofs.LocalElement.{IsAccepted}
use Rattle.c_lexer.proofs.LocalPasses.{NoneRefused}
use Rattle.c_tree.specs.declared.expr.Op.{Op}
use Rattle.c_tree.specs.declared.expr.Oper.{Oper}
use Rattle.c_tree.specs.declared.tree.Tree.{Tree}
use Rattle.c_parser.specs.declared.term.Term.{Term}
use Rattle.c_parser.specs.declared.term.Term.TheVariants as term
use Rattle.c_parser.specs.Term.{term_of, kind_term}
use Rattle.c_parser.specs.Expressions.{oper_of}
use Rattle.c_parser.specs.Statements.{change_of, step_of}

-- a term that the grammar tells apart
abbrev IsSeen : Term → Type 0
IsSeen term.Other = ⊥
IsSeen _ = Unit {0}

kind_accepted : (k : Kind) → IsSeen (kind_term k) → IsAccepted k
kind_accepted (kind.Refused row) seen = seen
kind_accepted (kind.Name text) seen = tt
kind_accepted (kind.Key number) seen = tt
kind_accepted (kind.Number value) seen = tt
kind_accepted (kind.Text text) seen = tt
kind_accepted (kind.Punct number) seen = tt

accepted : (t : Token) (x : Term) → term_of t ≡ x → IsSeen x → IsAccepted t.kind
unfolding term_of
accepted t x is seen = kind_accepted t.kind (subst IsSeen (sym is) seen)

of_kind : (t : Token) (k : Kind) → t.kind ≡ k → IsAccepted k → IsAccepted t.kind
of_kind t k is accepts = subst IsAccepted (sym is) accepts

-- operators are seen

no_oper : (k : ℕ) (o : Oper) → oper_of k term.Other ≡ Some o → ⊥
unfolding oper_of
no_oper zero o is = absurd (cc)
no_oper (suc zero) o is = absurd (cc)
no_oper (suc (suc zero)) o is = absurd (cc)
no_oper (suc (suc (suc zero))) o is = absurd (cc)
no_oper (suc (suc (suc (suc zero)))) o is = absurd (cc)
no_oper (suc (suc (suc (suc (suc zero))))) o is = absurd (cc)
no_oper (suc (suc (suc (suc (suc (suc k)))))) o is = absurd (cc)

oper_seen : (k : ℕ) (o : Oper) (x : Term) → oper_of k x ≡ Some o → IsSeen x
oper_seen k o term.Other is = no_oper k o is
oper_seen k o _ is = tt

change_seen : (o : Op) (x : Term) → change_of x ≡ Some o → IsSeen x
change_seen o term.Other is = absurd (cc)
change_seen o _ is = tt

step_seen : (o : Op) (x : Term) → step_of x ≡ Some o → IsSeen x
step_seen o term.Other is = absurd (cc)
step_seen o _ is = tt

seen_accepted : (t : Token) → IsSeen (term_of t) → IsAccepted t.kind
unfolding term_of
seen_accepted t seen = kind_accepted t.kind seen

oper_accepted : (k : ℕ) (t : Token) (o : Oper) → oper_of k (term_of t) ≡ Some o → IsAccepted t.kind
oper_accepted k t o is = seen_accepted t (oper_seen k o (term_of t) is)

change_accepted : (t : Token) (o : Op) → change_of (term_of t) ≡ Some o → IsAccepted t.kind
change_accepted t o is = seen_accepted t (change_seen o (term_of t) is)

step_accepted : (t : Token) (o : Op) → step_of (term_of t) ≡ Some o → IsAccepted t.kind
step_accepted t o is = seen_accepted t (step_seen o (term_of t) is)

mutual
  level_accepted : {k : ℕ} {e : Expr} {ts us : List Token} → IsLevel k e ts us → NoneRefused us → NoneRefused ts
  level_accepted (IsLevel.operand d) h = unary_accepted d h
  level_accepted (IsLevel.level d q) h = level_accepted d (tail_accepted q h)

  tail_accepted : {k : ℕ} {a e : Expr} {ts us : List Token} → IsTail k a e ts us → NoneRefused us → NoneRefused ts
  tail_accepted IsTail.done h = h
  tail_accepted (IsTail.more {k = k} {o = o} {t = t} is d q) h = (oper_accepted k t o is, level_accepted d (tail_accepted q h))

  unary_accepted : {e : Expr} {ts us : List Token} → IsUnary e ts us → NoneRefused us → NoneRefused ts
  unary_accepted (IsUnary.plain d) h = post_accepted d h
  unary_accepted (IsUnary.minus {t = t} is d) h = (accepted t term.Minus is tt, unary_accepted d h)
  unary_accepted (IsUnary.not {t = t} is d) h = (accepted t term.Not is tt, unary_accepted d h)
  unary_accepted (IsUnary.deref {t = t} is d) h = (accepted t term.Star is tt, unary_accepted d h)

  post_accepted : {e : Expr} {ts us : List Token} → IsPost e ts us → NoneRefused us → NoneRefused ts
  post_accepted (IsPost.post d q) h = prim_accepted d (posts_accepted q h)

  posts_accepted : {a e : Expr} {ts us : List Token} → IsPosts a e ts us → NoneRefused us → NoneRefused ts
  posts_accepted IsPosts.end h = h
  posts_accepted (IsPosts.field {t = t} {n = n} {text = text} is_t is_n d) h = (accepted t term.Arrow is_t tt, (of_kind n (kind.Name text) is_n tt, posts_accepted d h))
  posts_accepted (IsPosts.index {t = t} {c = c} is_t d is_c q) h = (accepted t term.OpenIndex is_t tt, level_accepted d (accepted c term.CloseIndex is_c tt, posts_accepted q h))

  prim_accepted : {e : Expr} {ts us : List Token} → IsPrim e ts us → NoneRefused us → NoneRefused ts
  prim_accepted (IsPrim.number {t = t} {value = value} is) h = (of_kind t (kind.Number value) is tt, h)
  prim_accepted (IsPrim.null {t = t} is) h = (accepted t term.Null is tt, h)
  prim_accepted (IsPrim.eof {t = t} is) h = (accepted t term.Eof is tt, h)
  prim_accepted (IsPrim.variable {t = t} {text = text} is) h = (of_kind t (kind.Name text) is tt, h)
  prim_accepted (IsPrim.group {o = o} {c = c} is_o d is_c) h = (accepted o term.Open is_o tt, level_accepted d (accepted c term.Close is_c tt, h))

arg_accepted : {a : Arg} {ts us : List Token} → IsArg a ts us → NoneRefused us → NoneRefused ts
arg_accepted (IsArg.argument d) h = level_accepted d h

base_accepted : {b : Base} {ts us : List Token} → IsBase b ts us → NoneRefused us → NoneRefused ts
base_accepted (IsBase.int {t = t} is) h = (accepted t term.Int is tt, h)
base_accepted (IsBase.tag {t = t} {n = n} {text = text} is_t is_n) h = (accepted t term.Struct is_t tt, (of_kind n (kind.Name text) is_n tt, h))
base_accepted (IsBase.alias {t = t} {text = text} is) h = (of_kind t (kind.Name text) is tt, h)

stars_accepted : {n : ℕ} {ts us : List Token} → IsStars n ts us → NoneRefused us → NoneRefused ts
stars_accepted IsStars.none h = h
stars_accepted (IsStars.star {t = t} is) h = (accepted t term.Star is tt, h)

optional_name_accepted : {w : Option Word} {ts us : List Token} → IsOptionalName w ts us → NoneRefused us → NoneRefused ts
optional_name_accepted IsOptionalName.none h = h
optional_name_accepted (IsOptionalName.named {n = n} {text = text} is) h = (of_kind n (kind.Name text) is tt, h)

cast_accepted : {c : Option Spec} {ts us : List Token} → IsCast c ts us → NoneRefused us → NoneRefused ts
cast_accepted IsCast.none h = h
cast_accepted (IsCast.cast {o = o} {s = s} {c = c} is_o d is_s is_c) h = (accepted o term.Open is_o tt, base_accepted d (accepted s term.Star is_s tt, (accepted c term.Close is_c tt, h)))

unit_accepted : {u : Counted} {at : ℕ} {ts us : List Token} → IsUnit u at ts us → NoneRefused us → NoneRefused ts
unit_accepted (IsUnit.of_type {z = z} {o = o} {c = c} is_z is_o d is_c) h = (accepted z term.Sizeof is_z tt, (accepted o term.Open is_o tt, base_accepted d (accepted c term.Close is_c tt, h)))
unit_accepted (IsUnit.of_star_within {z = z} {o = o} {s = s} {n = n} {c = c} {text = text} is_z is_o is_s is_n is_c) h = (accepted z term.Sizeof is_z tt, (accepted o term.Open is_o tt, (accepted s term.Star is_s tt, (of_kind n (kind.Name text) is_n tt, (accepted c term.Close is_c tt, h)))))
unit_accepted (IsUnit.of_star {z = z} {s = s} {n = n} {text = text} is_z is_s is_n) h = (accepted z term.Sizeof is_z tt, (accepted s term.Star is_s tt, (of_kind n (kind.Name text) is_n tt, h)))

size_accepted : {z : Size} {ts us : List Token} → IsSize z ts us → NoneRefused us → NoneRefused ts
size_accepted (IsSize.one d) h = unit_accepted d h
size_accepted (IsSize.count_before {t = t} d is q) h = level_accepted d (accepted t term.Star is tt, unit_accepted q h)
size_accepted (IsSize.count_behind {t = t} d is q) h = unit_accepted d (accepted t term.Star is tt, unary_accepted q h)

more_args_accepted : {args : List Arg} {at : ℕ} {ts us : List Token} → IsMoreArgs args at ts us → NoneRefused us → NoneRefused ts
more_args_accepted (IsMoreArgs.close {t = t} is) h = (accepted t term.Close is tt, h)
more_args_accepted (IsMoreArgs.comma {t = t} is d q) h = (accepted t term.Comma is tt, arg_accepted d (more_args_accepted q h))

args_accepted : {args : List Arg} {at : ℕ} {ts us : List Token} → IsArgs args at ts us → NoneRefused us → NoneRefused ts
args_accepted (IsArgs.none {t = t} is) h = (accepted t term.Close is tt, h)
args_accepted (IsArgs.some d q) h = arg_accepted d (more_args_accepted q h)

call_accepted : {c : Call} {ts us : List Token} → IsCall c ts us → NoneRefused us → NoneRefused ts
call_accepted (IsCall.user {n = n} {o = o} {text = text} is_n is_o d) h = (of_kind n (kind.Name text) is_n tt, (accepted o term.Open is_o tt, args_accepted d h))
call_accepted (IsCall.getchar {t = t} {o = o} {c = c} is_t is_o is_c) h = (accepted t term.Getchar is_t tt, (accepted o term.Open is_o tt, (accepted c term.Close is_c tt, h)))
call_accepted (IsCall.putchar {t = t} {o = o} {c = c} is_t is_o d is_c) h = (accepted t term.Putchar is_t tt, (accepted o term.Open is_o tt, arg_accepted d (accepted c term.Close is_c tt, h)))
call_accepted (IsCall.printf {t = t} {o = o} {x = x} {text = text} is_t is_o is_x d) h = (accepted t term.Printf is_t tt, (accepted o term.Open is_o tt, (of_kind x (kind.Text text) is_x tt, more_args_accepted d h)))
call_accepted (IsCall.malloc {t = t} {o = o} {c = c} d is_t is_o q is_c) h = cast_accepted d (accepted t term.Malloc is_t tt, (accepted o term.Open is_o tt, size_accepted q (accepted c term.Close is_c tt, h)))

right_accepted : {r : Right} {ts us : List Token} → IsRight r ts us → NoneRefused us → NoneRefused ts
right_accepted (IsRight.plain d) h = arg_accepted d h
right_accepted (IsRight.called d) h = call_accepted d h

place_accepted : {e : Expr} {ts us : List Token} → IsPlace e ts us → NoneRefused us → NoneRefused ts
place_accepted (IsPlace.post d) h = post_accepted d h
place_accepted (IsPlace.deref {t = t} is d) h = (accepted t term.Star is tt, unary_accepted d h)

simple_accepted : {s : Simple} {ts us : List Token} → IsSimple s ts us → NoneRefused us → NoneRefused ts
simple_accepted (IsSimple.put {t = t} d is q) h = place_accepted d (accepted t term.Put is tt, right_accepted q h)
simple_accepted (IsSimple.change {o = o} {t = t} d is q) h = place_accepted d (change_accepted t o is, arg_accepted q h)
simple_accepted (IsSimple.step_behind {o = o} {t = t} d is) h = post_accepted d (step_accepted t o is, h)
simple_accepted (IsSimple.step_before {o = o} {t = t} is d) h = (step_accepted t o is, unary_accepted d h)

declr_accepted : {b : Base} {f : Token} {d : Declr} {ts us : List Token} → IsDeclr b f d ts us → NoneRefused us → NoneRefused ts
declr_accepted (IsDeclr.bare {n = n} {text = text} d is) h = stars_accepted d (of_kind n (kind.Name text) is tt, h)
declr_accepted (IsDeclr.given {n = n} {t = t} {text = text} d is_n is_t q) h = stars_accepted d (of_kind n (kind.Name text) is_n tt, (accepted t term.Put is_t tt, right_accepted q h))

declrs_accepted : {b : Base} {f : Token} {ds : List Declr} {ts us : List Token} → IsDeclrs b f ds ts us → NoneRefused us → NoneRefused ts
declrs_accepted (IsDeclrs.last d) h = declr_accepted d h
declrs_accepted (IsDeclrs.more {t = t} d is q) h = declr_accepted d (accepted t term.Comma is tt, declrs_accepted q h)

decl_accepted : {ds : List Declr} {ts us : List Token} → IsDecl ds ts us → NoneRefused us → NoneRefused ts
decl_accepted (IsDecl.decl d q) h = base_accepted d (declrs_accepted q h)

free_accepted : {f : Free} {ts us : List Token} → IsFree f ts us → NoneRefused us → NoneRefused ts
free_accepted (IsFree.free {t = t} {o = o} {c = c} {s = s} is_t is_o d is_c is_s) h = (accepted t term.Free is_t tt, (accepted o term.Open is_o tt, arg_accepted d (accepted c term.Close is_c tt, (accepted s term.Semicolon is_s tt, h))))

gap_accepted : {frees : List Free} {ts us : List Token} → IsGap frees ts us → NoneRefused us → NoneRefused ts
gap_accepted IsGap.done h = h
gap_accepted (IsGap.empty {t = t} is d) h = (accepted t term.Semicolon is tt, gap_accepted d h)
gap_accepted (IsGap.free d q) h = free_accepted d (gap_accepted q h)

test_accepted : {e : Expr} {ts us : List Token} → IsTest e ts us → NoneRefused us → NoneRefused ts
test_accepted (IsTest.test {o = o} {c = c} is_o d is_c) h = (accepted o term.Open is_o tt, level_accepted d (accepted c term.Close is_c tt, h))

for_start_accepted : {starts : List Start} {ts us : List Token} → IsForStart starts ts us → NoneRefused us → NoneRefused ts
for_start_accepted (IsForStart.none {t = t} is) h = (accepted t term.Semicolon is tt, h)
for_start_accepted (IsForStart.declare {t = t} d is) h = decl_accepted d (accepted t term.Semicolon is tt, h)
for_start_accepted (IsForStart.assign {t = t} d is) h = simple_accepted d (accepted t term.Semicolon is tt, h)

for_test_accepted : {test : Option Expr} {ts us : List Token} → IsForTest test ts us → NoneRefused us → NoneRefused ts
for_test_accepted (IsForTest.none {t = t} is) h = (accepted t term.Semicolon is tt, h)
for_test_accepted (IsForTest.test {t = t} d is) h = level_accepted d (accepted t term.Semicolon is tt, h)

for_step_accepted : {step : Option Simple} {ts us : List Token} → IsForStep step ts us → NoneRefused us → NoneRefused ts
for_step_accepted (IsForStep.none {t = t} is) h = (accepted t term.Close is tt, h)
for_step_accepted (IsForStep.step {t = t} d is) h = simple_accepted d (accepted t term.Close is tt, h)

for_head_accepted : {h : ForHead} {ts us : List Token} → IsForHead h ts us → NoneRefused us → NoneRefused ts
for_head_accepted (IsForHead.head {o = o} is d q r) h = (accepted o term.Open is tt, for_start_accepted d (for_test_accepted q (for_step_accepted r h)))

mutual
  item_accepted : {i : Item} {end : ℕ} {ts us : List Token} → IsItem i end ts us → NoneRefused us → NoneRefused ts
  item_accepted (IsItem.declare {t = t} d is) h = decl_accepted d (accepted t term.Semicolon is tt, h)
  item_accepted (IsItem.assign {t = t} d is) h = simple_accepted d (accepted t term.Semicolon is tt, h)
  item_accepted (IsItem.call {t = t} d is) h = call_accepted d (accepted t term.Semicolon is tt, h)
  item_accepted (IsItem.nest d) h = block_accepted d h
  item_accepted (IsItem.branch {t = t} is d q r) h = (accepted t term.If is tt, test_accepted d (body_accepted q (else_accepted r h)))
  item_accepted (IsItem.while {t = t} is d q) h = (accepted t term.While is tt, test_accepted d (body_accepted q h))
  item_accepted (IsItem.for {t = t} is d q) h = (accepted t term.For is tt, for_head_accepted d (body_accepted q h))
  item_accepted (IsItem.break {t = t} {s = s} is_t is_s) h = (accepted t term.Break is_t tt, (accepted s term.Semicolon is_s tt, h))
  item_accepted (IsItem.continue {t = t} {s = s} is_t is_s) h = (accepted t term.Continue is_t tt, (accepted s term.Semicolon is_s tt, h))
  item_accepted (IsItem.return {t = t} {s = s} is_t is_s) h = (accepted t term.Return is_t tt, (accepted s term.Semicolon is_s tt, h))
  item_accepted (IsItem.return_value {t = t} {s = s} is_t d is_s) h = (accepted t term.Return is_t tt, right_accepted d (accepted s term.Semicolon is_s tt, h))

  else_accepted : {arms : List Arm} {last : Option Block} {before end : ℕ} {ts us : List Token} → IsElse arms last before end ts us → NoneRefused us → NoneRefused ts
  else_accepted (IsElse.none _) h = h
  else_accepted (IsElse.else_if {t = t} {i = i} is_t is_i d q r) h = (accepted t term.Else is_t tt, (accepted i term.If is_i tt, test_accepted d (body_accepted q (else_accepted r h))))
  else_accepted (IsElse.otherwise {t = t} is_t _ d) h = (accepted t term.Else is_t tt, body_accepted d h)

  body_accepted : {b : Block} {end : ℕ} {ts us : List Token} → IsBody b end ts us → NoneRefused us → NoneRefused ts
  body_accepted (IsBody.braced d) h = block_accepted d h
  body_accepted (IsBody.unbraced _ d) h = item_accepted d h
  body_accepted (IsBody.free d) h = free_accepted d h
  body_accepted (IsBody.empty {t = t} is) h = (accepted t term.Semicolon is tt, h)

  block_accepted : {b : Block} {end : ℕ} {ts us : List Token} → IsBlock b end ts us → NoneRefused us → NoneRefused ts
  block_accepted (IsBlock.braces {t = t} is d) h = (accepted t term.OpenBrace is tt, pieces_accepted d h)

  pieces_accepted : {pieces : List Piece} {frees : List Free} {end : ℕ} {ts us : List Token} → IsPieces pieces frees end ts us → NoneRefused us → NoneRefused ts
  pieces_accepted (IsPieces.last {t = t} d is) h = gap_accepted d (accepted t term.CloseBrace is tt, h)
  pieces_accepted (IsPieces.more d q r) h = gap_accepted d (item_accepted q (pieces_accepted r h))

field_names_accepted : {b : Base} {f : Token} {fields : List Spec} {ts us : List Token} → IsFieldNames b f fields ts us → NoneRefused us → NoneRefused ts
field_names_accepted (IsFieldNames.last {n = n} {t = t} {text = text} d is_n is_t) h = stars_accepted d (of_kind n (kind.Name text) is_n tt, (accepted t term.Semicolon is_t tt, h))
field_names_accepted (IsFieldNames.more {n = n} {t = t} {text = text} d is_n is_t q) h = stars_accepted d (of_kind n (kind.Name text) is_n tt, (accepted t term.Comma is_t tt, field_names_accepted q h))

fields_accepted : {fields : List Spec} {ts us : List Token} → IsFields fields ts us → NoneRefused us → NoneRefused ts
fields_accepted (IsFields.last {c = c} d q is) h = base_accepted d (field_names_accepted q (accepted c term.CloseBrace is tt, h))
fields_accepted (IsFields.more d q r) h = base_accepted d (field_names_accepted q (fields_accepted r h))

struct_body_accepted : {b : Body} {ts us : List Token} → IsStructBody b ts us → NoneRefused us → NoneRefused ts
struct_body_accepted (IsStructBody.body {o = o} is d) h = (accepted o term.OpenBrace is tt, fields_accepted d h)

const_accepted : {e : Expr} {ts us : List Token} → IsConst e ts us → NoneRefused us → NoneRefused ts
const_accepted (IsConst.number {t = t} {value = value} is) h = (of_kind t (kind.Number value) is tt, h)
const_accepted (IsConst.minus {m = m} {t = t} {value = value} is_m is_t) h = (accepted m term.Minus is_m tt, (of_kind t (kind.Number value) is_t tt, h))
const_accepted (IsConst.null {t = t} is) h = (accepted t term.Null is tt, h)
const_accepted (IsConst.eof {t = t} is) h = (accepted t term.Eof is tt, h)

global_accepted : {b : Base} {f : Token} {g : GlobalDecl} {ts us : List Token} → IsGlobal b f g ts us → NoneRefused us → NoneRefused ts
global_accepted (IsGlobal.bare {n = n} {text = text} d is) h = stars_accepted d (of_kind n (kind.Name text) is tt, h)
global_accepted (IsGlobal.given {n = n} {t = t} {text = text} d is_n is_t q) h = stars_accepted d (of_kind n (kind.Name text) is_n tt, (accepted t term.Put is_t tt, const_accepted q h))

globals_accepted : {b : Base} {f : Token} {gs : List GlobalDecl} {ts us : List Token} → IsGlobals b f gs ts us → NoneRefused us → NoneRefused ts
globals_accepted (IsGlobals.last {t = t} d is) h = global_accepted d (accepted t term.Semicolon is tt, h)
globals_accepted (IsGlobals.more {t = t} d is q) h = global_accepted d (accepted t term.Comma is tt, globals_accepted q h)

param_accepted : {p : Spec} {ts us : List Token} → IsParam p ts us → NoneRefused us → NoneRefused ts
param_accepted (IsParam.param d q r) h = base_accepted d (stars_accepted q (optional_name_accepted r h))

more_params_accepted : {ps : List Spec} {ts us : List Token} → IsMoreParams ps ts us → NoneRefused us → NoneRefused ts
more_params_accepted (IsMoreParams.close {t = t} is) h = (accepted t term.Close is tt, h)
more_params_accepted (IsMoreParams.comma {t = t} is d q) h = (accepted t term.Comma is tt, param_accepted d (more_params_accepted q h))

params_accepted : {ps : List Spec} {ts us : List Token} → IsParams ps ts us → NoneRefused us → NoneRefused ts
params_accepted (IsParams.nothing {t = t} is) h = (accepted t term.Close is tt, h)
params_accepted (IsParams.void {v = v} {t = t} is_v is_t) h = (accepted v term.Void is_v tt, (accepted t term.Close is_t tt, h))
params_accepted (IsParams.some d q) h = param_accepted d (more_params_accepted q h)

head_accepted : {h : Head} {ts us : List Token} → IsHead h ts us → NoneRefused us → NoneRefused ts
head_accepted (IsHead.void {t = t} {n = n} {o = o} {text = text} is_t is_n is_o d) h = (accepted t term.Void is_t tt, (of_kind n (kind.Name text) is_n tt, (accepted o term.Open is_o tt, params_accepted d h)))
head_accepted (IsHead.value {n = n} {o = o} {text = text} d q is_n is_o r) h = base_accepted d (stars_accepted q (of_kind n (kind.Name text) is_n tt, (accepted o term.Open is_o tt, params_accepted r h)))

top_accepted : {x : Top} {ts us : List Token} → IsTop x ts us → NoneRefused us → NoneRefused ts
top_accepted (IsTop.alias {t = t} {s = s} {n = n} {m = m} {e = e} {tag = tag} {text = text} is_t is_s is_n is_m is_e) h = (accepted t term.Typedef is_t tt, (accepted s term.Struct is_s tt, (of_kind n (kind.Name tag) is_n tt, (of_kind m (kind.Name text) is_m tt, (accepted e term.Semicolon is_e tt, h)))))
top_accepted (IsTop.alias_of_body {t = t} {s = s} {m = m} {e = e} {text = text} is_t is_s d q is_m is_e) h = (accepted t term.Typedef is_t tt, (accepted s term.Struct is_s tt, optional_name_accepted d (struct_body_accepted q (of_kind m (kind.Name text) is_m tt, (accepted e term.Semicolon is_e tt, h)))))
top_accepted (IsTop.tag {s = s} {n = n} {e = e} {text = text} is_s is_n is_e) h = (accepted s term.Struct is_s tt, (of_kind n (kind.Name text) is_n tt, (accepted e term.Semicolon is_e tt, h)))
top_accepted (IsTop.tag_of_body {s = s} {n = n} {e = e} {text = text} is_s is_n d is_e) h = (accepted s term.Struct is_s tt, (of_kind n (kind.Name text) is_n tt, struct_body_accepted d (accepted e term.Semicolon is_e tt, h)))
top_accepted (IsTop.globals d q) h = base_accepted d (globals_accepted q h)
top_accepted (IsTop.prototype {e = e} d is) h = head_accepted d (accepted e term.Semicolon is tt, h)
top_accepted (IsTop.function d q) h = head_accepted d (block_accepted q h)

file_accepted : {tops : List Top} {ts : List Token} → IsFile tops ts → NoneRefused ts
file_accepted IsFile.done = tt
file_accepted (IsFile.more d q) = top_accepted d (file_accepted q)

pub generated_accepted : (tree : Tree) (tokens : Tokens) → Generates tree tokens → NoneRefused tokens.list
generated_accepted tree tokens generates = file_accepted generates.file
