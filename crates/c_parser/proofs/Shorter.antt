-- What is left behind a derivation is shorter.
use Rattle.std.proofs.Common.{ℕ, ◌<◌, ◌≤◌, List, Option, length, arith}
use Rattle.c_lexer.specs.declared.token.Token.{Token}
use Rattle.c_tree.specs.declared.tree.Expr.{Expr}
use Rattle.c_tree.specs.declared.tree.Arg.{Arg}
use Rattle.c_tree.specs.declared.tree.Base.{Base}
use Rattle.c_tree.specs.declared.tree.Word.{Word}
use Rattle.c_tree.specs.declared.tree.Spec.{Spec}
use Rattle.c_tree.specs.declared.tree.Unit.{Unit as Counted}
use Rattle.c_tree.specs.declared.tree.Size.{Size}
use Rattle.c_tree.specs.declared.tree.Call.{Call}
use Rattle.c_tree.specs.declared.tree.Right.{Right}
use Rattle.c_tree.specs.declared.tree.Simple.{Simple}
use Rattle.c_tree.specs.declared.tree.Declr.{Declr}
use Rattle.c_tree.specs.declared.tree.Free.{Free}
use Rattle.c_tree.specs.declared.tree.Start.{Start}
use Rattle.c_tree.specs.declared.tree.ForHead.{ForHead}
use Rattle.c_tree.specs.declared.tree.Item.{Item}
use Rattle.c_tree.specs.declared.tree.Arm.{Arm}
use Rattle.c_tree.specs.declared.tree.Block.{Block}
use Rattle.c_tree.specs.declared.tree.Piece.{Piece}
use Rattle.c_tree.specs.declared.tree.Body.{Body}
use Rattle.c_tree.specs.declared.tree.GlobalDecl.{GlobalDecl}
use Rattle.c_tree.specs.declared.tree.Head.{Head}
use Rattle.c_tree.specs.declared.tree.Top.{Top}
use Rattle.c_parser.specs.Expressions.{IsLevel, IsTail, IsUnary, IsPost, IsPosts, IsPrim, IsArg}
use Rattle.c_parser.specs.Declarators.{IsBase, IsStars, IsOptionalName, IsCast, IsUnit, IsSize}
use Rattle.c_parser.specs.Statements.{IsMoreArgs, IsArgs, IsCall, IsRight, IsPlace, IsSimple, IsDeclr, IsDeclrs, IsDecl}
use Rattle.c_parser.specs.Blocks.{IsFree, IsGap, IsTest, IsForStart, IsForTest, IsForStep, IsForHead, IsItem, IsElse, IsBody, IsBlock, IsPieces}
use Rattle.c_parser.specs.Grammar.{IsFieldNames, IsFields, IsStructBody, IsConst, IsGlobal, IsGlobals, IsParam, IsMoreParams, IsParams, IsHead, IsTop}

mutual
  pub level_shorter : {k : ℕ} {e : Expr} {ts us : List Token} → IsLevel k e ts us → length us < length ts
  level_shorter (IsLevel.operand d) = omega (arith, unary_shorter d)
  level_shorter (IsLevel.level d q) = omega (arith, level_shorter d, tail_shorter q)

  pub tail_shorter : {k : ℕ} {a e : Expr} {ts us : List Token} → IsTail k a e ts us → length us ≤ length ts
  tail_shorter IsTail.done = omega arith
  tail_shorter (IsTail.more _ d q) = omega (arith, level_shorter d, tail_shorter q)

  pub unary_shorter : {e : Expr} {ts us : List Token} → IsUnary e ts us → length us < length ts
  unary_shorter (IsUnary.plain d) = omega (arith, post_shorter d)
  unary_shorter (IsUnary.minus _ d) = omega (arith, unary_shorter d)
  unary_shorter (IsUnary.not _ d) = omega (arith, unary_shorter d)
  unary_shorter (IsUnary.deref _ d) = omega (arith, unary_shorter d)

  pub post_shorter : {e : Expr} {ts us : List Token} → IsPost e ts us → length us < length ts
  post_shorter (IsPost.post d q) = omega (arith, prim_shorter d, posts_shorter q)

  pub posts_shorter : {a e : Expr} {ts us : List Token} → IsPosts a e ts us → length us ≤ length ts
  posts_shorter IsPosts.end = omega arith
  posts_shorter (IsPosts.field _ _ d) = omega (arith, posts_shorter d)
  posts_shorter (IsPosts.index _ d _ q) = omega (arith, level_shorter d, posts_shorter q)

  pub prim_shorter : {e : Expr} {ts us : List Token} → IsPrim e ts us → length us < length ts
  prim_shorter (IsPrim.number _) = omega arith
  prim_shorter (IsPrim.null _) = omega arith
  prim_shorter (IsPrim.eof _) = omega arith
  prim_shorter (IsPrim.variable _) = omega arith
  prim_shorter (IsPrim.group _ d _) = omega (arith, level_shorter d)

pub arg_shorter : {a : Arg} {ts us : List Token} → IsArg a ts us → length us < length ts
arg_shorter (IsArg.argument d) = omega (arith, level_shorter d)

pub base_shorter : {b : Base} {ts us : List Token} → IsBase b ts us → length us < length ts
base_shorter (IsBase.int _) = omega arith
base_shorter (IsBase.tag _ _) = omega arith
base_shorter (IsBase.alias _) = omega arith

pub stars_shorter : {n : ℕ} {ts us : List Token} → IsStars n ts us → length us ≤ length ts
stars_shorter IsStars.none = omega arith
stars_shorter (IsStars.star _) = omega arith

pub optional_name_shorter : {w : Option Word} {ts us : List Token} → IsOptionalName w ts us → length us ≤ length ts
optional_name_shorter IsOptionalName.none = omega arith
optional_name_shorter (IsOptionalName.named _) = omega arith

pub cast_shorter : {c : Option Spec} {ts us : List Token} → IsCast c ts us → length us ≤ length ts
cast_shorter IsCast.none = omega arith
cast_shorter (IsCast.cast _ d _ _) = omega (arith, base_shorter d)

pub unit_shorter : {u : Counted} {at : ℕ} {ts us : List Token} → IsUnit u at ts us → length us < length ts
unit_shorter (IsUnit.of_type _ _ d _) = omega (arith, base_shorter d)
unit_shorter (IsUnit.of_star_within _ _ _ _ _) = omega arith
unit_shorter (IsUnit.of_star _ _ _) = omega arith

pub size_shorter : {z : Size} {ts us : List Token} → IsSize z ts us → length us < length ts
size_shorter (IsSize.one d) = omega (arith, unit_shorter d)
size_shorter (IsSize.count_before d _ q) = omega (arith, level_shorter d, unit_shorter q)
size_shorter (IsSize.count_behind d _ q) = omega (arith, unit_shorter d, unary_shorter q)

pub more_args_shorter : {args : List Arg} {at : ℕ} {ts us : List Token} → IsMoreArgs args at ts us → length us < length ts
more_args_shorter (IsMoreArgs.close _) = omega arith
more_args_shorter (IsMoreArgs.comma _ d q) = omega (arith, arg_shorter d, more_args_shorter q)

pub args_shorter : {args : List Arg} {at : ℕ} {ts us : List Token} → IsArgs args at ts us → length us < length ts
args_shorter (IsArgs.none _) = omega arith
args_shorter (IsArgs.some d q) = omega (arith, arg_shorter d, more_args_shorter q)

pub call_shorter : {c : Call} {ts us : List Token} → IsCall c ts us → length us < length ts
call_shorter (IsCall.user _ _ d) = omega (arith, args_shorter d)
call_shorter (IsCall.getchar _ _ _) = omega arith
call_shorter (IsCall.putchar _ _ d _) = omega (arith, arg_shorter d)
call_shorter (IsCall.printf _ _ _ d) = omega (arith, more_args_shorter d)
call_shorter (IsCall.malloc d _ _ q _) = omega (arith, cast_shorter d, size_shorter q)

pub right_shorter : {r : Right} {ts us : List Token} → IsRight r ts us → length us < length ts
right_shorter (IsRight.plain d) = omega (arith, arg_shorter d)
right_shorter (IsRight.called d) = omega (arith, call_shorter d)

pub place_shorter : {e : Expr} {ts us : List Token} → IsPlace e ts us → length us < length ts
place_shorter (IsPlace.post d) = omega (arith, post_shorter d)
place_shorter (IsPlace.deref _ d) = omega (arith, unary_shorter d)

pub simple_shorter : {s : Simple} {ts us : List Token} → IsSimple s ts us → length us < length ts
simple_shorter (IsSimple.put d _ q) = omega (arith, place_shorter d, right_shorter q)
simple_shorter (IsSimple.change d _ q) = omega (arith, place_shorter d, arg_shorter q)
simple_shorter (IsSimple.step_behind d _) = omega (arith, post_shorter d)
simple_shorter (IsSimple.step_before _ d) = omega (arith, unary_shorter d)

pub declr_shorter : {b : Base} {f : Token} {d : Declr} {ts us : List Token} → IsDeclr b f d ts us → length us < length ts
declr_shorter (IsDeclr.bare d _) = omega (arith, stars_shorter d)
declr_shorter (IsDeclr.given d _ _ q) = omega (arith, stars_shorter d, right_shorter q)

pub declrs_shorter : {b : Base} {f : Token} {ds : List Declr} {ts us : List Token} → IsDeclrs b f ds ts us → length us < length ts
declrs_shorter (IsDeclrs.last d) = omega (arith, declr_shorter d)
declrs_shorter (IsDeclrs.more d _ q) = omega (arith, declr_shorter d, declrs_shorter q)

pub decl_shorter : {ds : List Declr} {ts us : List Token} → IsDecl ds ts us → length us < length ts
decl_shorter (IsDecl.decl d q) = omega (arith, base_shorter d, declrs_shorter q)

pub free_shorter : {f : Free} {ts us : List Token} → IsFree f ts us → length us < length ts
free_shorter (IsFree.free _ _ d _ _) = omega (arith, arg_shorter d)

pub gap_shorter : {frees : List Free} {ts us : List Token} → IsGap frees ts us → length us ≤ length ts
gap_shorter IsGap.done = omega arith
gap_shorter (IsGap.empty _ d) = omega (arith, gap_shorter d)
gap_shorter (IsGap.free d q) = omega (arith, free_shorter d, gap_shorter q)

pub test_shorter : {e : Expr} {ts us : List Token} → IsTest e ts us → length us < length ts
test_shorter (IsTest.test _ d _) = omega (arith, level_shorter d)

pub for_start_shorter : {starts : List Start} {ts us : List Token} → IsForStart starts ts us → length us < length ts
for_start_shorter (IsForStart.none _) = omega arith
for_start_shorter (IsForStart.declare d _) = omega (arith, decl_shorter d)
for_start_shorter (IsForStart.assign d _) = omega (arith, simple_shorter d)

pub for_test_shorter : {test : Option Expr} {ts us : List Token} → IsForTest test ts us → length us < length ts
for_test_shorter (IsForTest.none _) = omega arith
for_test_shorter (IsForTest.test d _) = omega (arith, level_shorter d)

pub for_step_shorter : {step : Option Simple} {ts us : List Token} → IsForStep step ts us → length us < length ts
for_step_shorter (IsForStep.none _) = omega arith
for_step_shorter (IsForStep.step d _) = omega (arith, simple_shorter d)

pub for_head_shorter : {h : ForHead} {ts us : List Token} → IsForHead h ts us → length us < length ts
for_head_shorter (IsForHead.head _ d q r) = omega (arith, for_start_shorter d, for_test_shorter q, for_step_shorter r)

mutual
  pub item_shorter : {i : Item} {end : ℕ} {ts us : List Token} → IsItem i end ts us → length us < length ts
  item_shorter (IsItem.declare d _) = omega (arith, decl_shorter d)
  item_shorter (IsItem.assign d _) = omega (arith, simple_shorter d)
  item_shorter (IsItem.call d _) = omega (arith, call_shorter d)
  item_shorter (IsItem.nest d) = omega (arith, block_shorter d)
  item_shorter (IsItem.branch _ d q r) = omega (arith, test_shorter d, body_shorter q, else_shorter r)
  item_shorter (IsItem.while _ d q) = omega (arith, test_shorter d, body_shorter q)
  item_shorter (IsItem.for _ d q) = omega (arith, for_head_shorter d, body_shorter q)
  item_shorter (IsItem.break _ _) = omega arith
  item_shorter (IsItem.continue _ _) = omega arith
  item_shorter (IsItem.return _ _) = omega arith
  item_shorter (IsItem.return_value _ d _) = omega (arith, right_shorter d)

  pub else_shorter : {arms : List Arm} {last : Option Block} {before end : ℕ} {ts us : List Token} → IsElse arms last before end ts us → length us ≤ length ts
  else_shorter (IsElse.none _) = omega arith
  else_shorter (IsElse.else_if _ _ d q r) = omega (arith, test_shorter d, body_shorter q, else_shorter r)
  else_shorter (IsElse.otherwise _ _ d) = omega (arith, body_shorter d)

  pub body_shorter : {b : Block} {end : ℕ} {ts us : List Token} → IsBody b end ts us → length us < length ts
  body_shorter (IsBody.braced d) = omega (arith, block_shorter d)
  body_shorter (IsBody.unbraced _ d) = omega (arith, item_shorter d)
  body_shorter (IsBody.free d) = omega (arith, free_shorter d)
  body_shorter (IsBody.empty _) = omega arith

  pub block_shorter : {b : Block} {end : ℕ} {ts us : List Token} → IsBlock b end ts us → length us < length ts
  block_shorter (IsBlock.braces _ d) = omega (arith, pieces_shorter d)

  pub pieces_shorter : {pieces : List Piece} {frees : List Free} {end : ℕ} {ts us : List Token} → IsPieces pieces frees end ts us → length us < length ts
  pieces_shorter (IsPieces.last d _) = omega (arith, gap_shorter d)
  pieces_shorter (IsPieces.more d q r) = omega (arith, gap_shorter d, item_shorter q, pieces_shorter r)

pub field_names_shorter : {b : Base} {f : Token} {fields : List Spec} {ts us : List Token} → IsFieldNames b f fields ts us → length us < length ts
field_names_shorter (IsFieldNames.last d _ _) = omega (arith, stars_shorter d)
field_names_shorter (IsFieldNames.more d _ _ q) = omega (arith, stars_shorter d, field_names_shorter q)

pub fields_shorter : {fields : List Spec} {ts us : List Token} → IsFields fields ts us → length us < length ts
fields_shorter (IsFields.last d q _) = omega (arith, base_shorter d, field_names_shorter q)
fields_shorter (IsFields.more d q r) = omega (arith, base_shorter d, field_names_shorter q, fields_shorter r)

pub struct_body_shorter : {b : Body} {ts us : List Token} → IsStructBody b ts us → length us < length ts
struct_body_shorter (IsStructBody.body _ d) = omega (arith, fields_shorter d)

pub const_shorter : {e : Expr} {ts us : List Token} → IsConst e ts us → length us < length ts
const_shorter (IsConst.number _) = omega arith
const_shorter (IsConst.minus _ _) = omega arith
const_shorter (IsConst.null _) = omega arith
const_shorter (IsConst.eof _) = omega arith

pub global_shorter : {b : Base} {f : Token} {g : GlobalDecl} {ts us : List Token} → IsGlobal b f g ts us → length us < length ts
global_shorter (IsGlobal.bare d _) = omega (arith, stars_shorter d)
global_shorter (IsGlobal.given d _ _ q) = omega (arith, stars_shorter d, const_shorter q)

pub globals_shorter : {b : Base} {f : Token} {gs : List GlobalDecl} {ts us : List Token} → IsGlobals b f gs ts us → length us < length ts
globals_shorter (IsGlobals.last d _) = omega (arith, global_shorter d)
globals_shorter (IsGlobals.more d _ q) = omega (arith, global_shorter d, globals_shorter q)

pub param_shorter : {p : Spec} {ts us : List Token} → IsParam p ts us → length us < length ts
param_shorter (IsParam.param d q r) = omega (arith, base_shorter d, stars_shorter q, optional_name_shorter r)

pub more_params_shorter : {ps : List Spec} {ts us : List Token} → IsMoreParams ps ts us → length us < length ts
more_params_shorter (IsMoreParams.close _) = omega arith
more_params_shorter (IsMoreParams.comma _ d q) = omega (arith, param_shorter d, more_params_shorter q)

pub params_shorter : {ps : List Spec} {ts us : List Token} → IsParams ps ts us → length us < length ts
params_shorter (IsParams.nothing _) = omega arith
params_shorter (IsParams.void _ _) = omega arith
params_shorter (IsParams.some d q) = omega (arith, param_shorter d, more_params_shorter q)

pub head_shorter : {h : Head} {ts us : List Token} → IsHead h ts us → length us < length ts
head_shorter (IsHead.void _ _ _ d) = omega (arith, params_shorter d)
head_shorter (IsHead.value d q _ _ r) = omega (arith, base_shorter d, stars_shorter q, params_shorter r)

pub top_shorter : {x : Top} {ts us : List Token} → IsTop x ts us → length us < length ts
top_shorter (IsTop.alias _ _ _ _ _) = omega arith
top_shorter (IsTop.alias_of_body _ _ q d _ _) = omega (arith, optional_name_shorter q, struct_body_shorter d)
top_shorter (IsTop.tag _ _ _) = omega arith
top_shorter (IsTop.tag_of_body _ _ d _) = omega (arith, struct_body_shorter d)
top_shorter (IsTop.globals d q) = omega (arith, base_shorter d, globals_shorter q)
top_shorter (IsTop.prototype d _) = omega (arith, head_shorter d)
top_shorter (IsTop.function d q) = omega (arith, head_shorter d, block_shorter q)
