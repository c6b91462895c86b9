-- What is left behind a derivation is the rest of its tokens.
use Rattle.std.proofs.Common.{◌≡◌, ℕ, List, [], ◌∷◌, ◌++◌, Option, refl, ap}
use Rattle.c_lexer.specs.declared.token.Token.{Token}
use Rattle.c_tree.specs.declared.tree.Expr.{Expr}
use Rattle.c_tree.specs.declared.tree.Arg.{Arg}
use Rattle.c_tree.specs.declared.tree.Base.{Base}
use Rattle.c_tree.specs.declared.tree.Word.{Word}
use Rattle.c_tree.specs.declared.tree.Spec.{Spec}
use Rattle.c_tree.specs.declared.tree.Unit.{Unit as Counted}
use Rattle.c_tree.specs.declared.tree.Size.{Size}
use Rattle.c_tree.specs.declared.tree.Call.{Call}
use Rattle.c_tree.specs.declared.tree.Right.{Right}
use Rattle.c_tree.specs.declared.tree.Simple.{Simple}
use Rattle.c_tree.specs.declared.tree.Declr.{Declr}
use Rattle.c_tree.specs.declared.tree.Free.{Free}
use Rattle.c_tree.specs.declared.tree.Start.{Start}
use Rattle.c_tree.specs.declared.tree.ForHead.{ForHead}
use Rattle.c_tree.specs.declared.tree.Item.{Item}
use Rattle.c_tree.specs.declared.tree.Arm.{Arm}
use Rattle.c_tree.specs.declared.tree.Block.{Block}
use Rattle.c_tree.specs.declared.tree.Piece.{Piece}
use Rattle.c_tree.specs.declared.tree.Body.{Body}
use Rattle.c_tree.specs.declared.tree.GlobalDecl.{GlobalDecl}
use Rattle.c_tree.specs.declared.tree.Head.{Head}
use Rattle.c_tree.specs.declared.tree.Top.{Top}
use Rattle.c_parser.specs.Expressions.{IsLevel, IsTail, IsUnary, IsPost, IsPosts, IsPrim, IsArg}
use Rattle.c_parser.specs.Declarators.{IsBase, IsStars, IsOptionalName, IsCast, IsUnit, IsSize}
use Rattle.c_parser.specs.Statements.{IsMoreArgs, IsArgs, IsCall, IsRight, IsPlace, IsSimple, IsDeclr, IsDeclrs, IsDecl}
use Rattle.c_parser.specs.Blocks.{IsFree, IsGap, IsTest, IsForStart, IsForTest, IsForStep, IsForHead, IsItem, IsElse, IsBody, IsBlock, IsPieces}
use Rattle.c_parser.specs.Grammar.{IsFieldNames, IsFields, IsStructBody, IsConst, IsGlobal, IsGlobals, IsParam, IsMoreParams, IsParams, IsHead, IsTop}

-- the second list is what is left of the first
pub data Rest : List Token → List Token → Type 0 where
  here : {ts : List Token} → Rest ts ts
  behind : {t : Token} {ts us : List Token} → Rest ts us → Rest (t ∷ ts) us

pub rest_more : {ts us vs : List Token} → Rest ts us → Rest us vs → Rest ts vs
rest_more Rest.here q = q
rest_more (Rest.behind p) q = Rest.behind (rest_more p q)

pub rest_next : {u : Token} {ts us : List Token} → Rest ts (u ∷ us) → Rest ts us
rest_next p = rest_more p (Rest.behind Rest.here)

-- the tokens before the rest
pub record Front (ts us : List Token) : Type 0 where
  pub front : List Token
  pub is : ts ≡ front ++ us

pub front_of : {ts us : List Token} → Rest ts us → Front ts us
front_of Rest.here = record { front = []; is = refl }
front_of (Rest.behind {t = t} p) = let f = front_of p in record { front = t ∷ f.front; is = ap (λ (xs : List Token). t ∷ xs) f.is }

mutual
  pub level_rest : {k : ℕ} {e : Expr} {ts us : List Token} → IsLevel k e ts us → Rest ts us
  level_rest (IsLevel.operand d) = unary_rest d
  level_rest (IsLevel.level d q) = rest_more (level_rest d) (tail_rest q)

  pub tail_rest : {k : ℕ} {a e : Expr} {ts us : List Token} → IsTail k a e ts us → Rest ts us
  tail_rest IsTail.done = Rest.here
  tail_rest (IsTail.more _ d q) = Rest.behind (rest_more (level_rest d) (tail_rest q))

  pub unary_rest : {e : Expr} {ts us : List Token} → IsUnary e ts us → Rest ts us
  unary_rest (IsUnary.plain d) = post_rest d
  unary_rest (IsUnary.minus _ d) = Rest.behind (unary_rest d)
  unary_rest (IsUnary.not _ d) = Rest.behind (unary_rest d)
  unary_rest (IsUnary.deref _ d) = Rest.behind (unary_rest d)

  pub post_rest : {e : Expr} {ts us : List Token} → IsPost e ts us → Rest ts us
  post_rest (IsPost.post d q) = rest_more (prim_rest d) (posts_rest q)

  pub posts_rest : {a e : Expr} {ts us : List Token} → IsPosts a e ts us → Rest ts us
  posts_rest IsPosts.end = Rest.here
  posts_rest (IsPosts.field _ _ d) = Rest.behind (Rest.behind (posts_rest d))
  posts_rest (IsPosts.index _ d _ q) = Rest.behind (rest_more (level_rest d) (Rest.behind (posts_rest q)))

  pub prim_rest : {e : Expr} {ts us : List Token} → IsPrim e ts us → Rest ts us
  prim_rest (IsPrim.number _) = Rest.behind Rest.here
  prim_rest (IsPrim.null _) = Rest.behind Rest.here
  prim_rest (IsPrim.eof _) = Rest.behind Rest.here
  prim_rest (IsPrim.variable _) = Rest.behind Rest.here
  prim_rest (IsPrim.group _ d _) = Rest.behind (rest_next (level_rest d))

pub arg_rest : {a : Arg} {ts us : List Token} → IsArg a ts us → Rest ts us
arg_rest (IsArg.argument d) = level_rest d

pub base_rest : {b : Base} {ts us : List Token} → IsBase b ts us → Rest ts us
base_rest (IsBase.int _) = Rest.behind Rest.here
base_rest (IsBase.tag _ _) = Rest.behind (Rest.behind Rest.here)
base_rest (IsBase.alias _) = Rest.behind Rest.here

pub stars_rest : {n : ℕ} {ts us : List Token} → IsStars n ts us → Rest ts us
stars_rest IsStars.none = Rest.here
stars_rest (IsStars.star _) = Rest.behind Rest.here

pub optional_name_rest : {w : Option Word} {ts us : List Token} → IsOptionalName w ts us → Rest ts us
optional_name_rest IsOptionalName.none = Rest.here
optional_name_rest (IsOptionalName.named _) = Rest.behind Rest.here

pub cast_rest : {c : Option Spec} {ts us : List Token} → IsCast c ts us → Rest ts us
cast_rest IsCast.none = Rest.here
cast_rest (IsCast.cast _ d _ _) = Rest.behind (rest_next (rest_next (base_rest d)))

pub unit_rest : {u : Counted} {at : ℕ} {ts us : List Token} → IsUnit u at ts us → Rest ts us
unit_rest (IsUnit.of_type _ _ d _) = Rest.behind (Rest.behind (rest_next (base_rest d)))
unit_rest (IsUnit.of_star_within _ _ _ _ _) = Rest.behind (Rest.behind (Rest.behind (Rest.behind (Rest.behind Rest.here))))
unit_rest (IsUnit.of_star _ _ _) = Rest.behind (Rest.behind (Rest.behind Rest.here))

pub size_rest : {z : Size} {ts us : List Token} → IsSize z ts us → Rest ts us
size_rest (IsSize.one d) = unit_rest d
size_rest (IsSize.count_before d _ q) = rest_more (level_rest d) (Rest.behind (unit_rest q))
size_rest (IsSize.count_behind d _ q) = rest_more (unit_rest d) (Rest.behind (unary_rest q))

pub more_args_rest : {args : List Arg} {at : ℕ} {ts us : List Token} → IsMoreArgs args at ts us → Rest ts us
more_args_rest (IsMoreArgs.close _) = Rest.behind Rest.here
more_args_rest (IsMoreArgs.comma _ d q) = Rest.behind (rest_more (arg_rest d) (more_args_rest q))

pub args_rest : {args : List Arg} {at : ℕ} {ts us : List Token} → IsArgs args at ts us → Rest ts us
args_rest (IsArgs.none _) = Rest.behind Rest.here
args_rest (IsArgs.some d q) = rest_more (arg_rest d) (more_args_rest q)

pub call_rest : {c : Call} {ts us : List Token} → IsCall c ts us → Rest ts us
call_rest (IsCall.user _ _ d) = Rest.behind (Rest.behind (args_rest d))
call_rest (IsCall.getchar _ _ _) = Rest.behind (Rest.behind (Rest.behind Rest.here))
call_rest (IsCall.putchar _ _ d _) = Rest.behind (Rest.behind (rest_next (arg_rest d)))
call_rest (IsCall.printf _ _ _ d) = Rest.behind (Rest.behind (Rest.behind (more_args_rest d)))
call_rest (IsCall.malloc d _ _ q _) = rest_more (cast_rest d) (Rest.behind (Rest.behind (rest_next (size_rest q))))

pub right_rest : {r : Right} {ts us : List Token} → IsRight r ts us → Rest ts us
right_rest (IsRight.plain d) = arg_rest d
right_rest (IsRight.called d) = call_rest d

pub place_rest : {e : Expr} {ts us : List Token} → IsPlace e ts us → Rest ts us
place_rest (IsPlace.post d) = post_rest d
place_rest (IsPlace.deref _ d) = Rest.behind (unary_rest d)

pub simple_rest : {s : Simple} {ts us : List Token} → IsSimple s ts us → Rest ts us
simple_rest (IsSimple.put d _ q) = rest_more (place_rest d) (Rest.behind (right_rest q))
simple_rest (IsSimple.change d _ q) = rest_more (place_rest d) (Rest.behind (arg_rest q))
simple_rest (IsSimple.step_behind d _) = rest_next (post_rest d)
simple_rest (IsSimple.step_before _ d) = Rest.behind (unary_rest d)

pub declr_rest : {b : Base} {f : Token} {d : Declr} {ts us : List Token} → IsDeclr b f d ts us → Rest ts us
declr_rest (IsDeclr.bare d _) = rest_next (stars_rest d)
declr_rest (IsDeclr.given d _ _ q) = rest_more (stars_rest d) (Rest.behind (Rest.behind (right_rest q)))

pub declrs_rest : {b : Base} {f : Token} {ds : List Declr} {ts us : List Token} → IsDeclrs b f ds ts us → Rest ts us
declrs_rest (IsDeclrs.last d) = declr_rest d
declrs_rest (IsDeclrs.more d _ q) = rest_more (declr_rest d) (Rest.behind (declrs_rest q))

pub decl_rest : {ds : List Declr} {ts us : List Token} → IsDecl ds ts us → Rest ts us
decl_rest (IsDecl.decl d q) = rest_more (base_rest d) (declrs_rest q)

pub free_rest : {f : Free} {ts us : List Token} → IsFree f ts us → Rest ts us
free_rest (IsFree.free _ _ d _ _) = Rest.behind (Rest.behind (rest_next (rest_next (arg_rest d))))

pub gap_rest : {frees : List Free} {ts us : List Token} → IsGap frees ts us → Rest ts us
gap_rest IsGap.done = Rest.here
gap_rest (IsGap.empty _ d) = Rest.behind (gap_rest d)
gap_rest (IsGap.free d q) = rest_more (free_rest d) (gap_rest q)

pub test_rest : {e : Expr} {ts us : List Token} → IsTest e ts us → Rest ts us
test_rest (IsTest.test _ d _) = Rest.behind (rest_next (level_rest d))

pub for_start_rest : {starts : List Start} {ts us : List Token} → IsForStart starts ts us → Rest ts us
for_start_rest (IsForStart.none _) = Rest.behind Rest.here
for_start_rest (IsForStart.declare d _) = rest_next (decl_rest d)
for_start_rest (IsForStart.assign d _) = rest_next (simple_rest d)

pub for_test_rest : {test : Option Expr} {ts us : List Token} → IsForTest test ts us → Rest ts us
for_test_rest (IsForTest.none _) = Rest.behind Rest.here
for_test_rest (IsForTest.test d _) = rest_next (level_rest d)

pub for_step_rest : {step : Option Simple} {ts us : List Token} → IsForStep step ts us → Rest ts us
for_step_rest (IsForStep.none _) = Rest.behind Rest.here
for_step_rest (IsForStep.step d _) = rest_next (simple_rest d)

pub for_head_rest : {h : ForHead} {ts us : List Token} → IsForHead h ts us → Rest ts us
for_head_rest (IsForHead.head _ d q r) = Rest.behind (rest_more (for_start_rest d) (rest_more (for_test_rest q) (for_step_rest r)))

mutual
  pub item_rest : {i : Item} {end : ℕ} {ts us : List Token} → IsItem i end ts us → Rest ts us
  item_rest (IsItem.declare d _) = rest_next (decl_rest d)
  item_rest (IsItem.assign d _) = rest_next (simple_rest d)
  item_rest (IsItem.call d _) = rest_next (call_rest d)
  item_rest (IsItem.nest d) = block_rest d
  item_rest (IsItem.branch _ d q r) = Rest.behind (rest_more (test_rest d) (rest_more (body_rest q) (else_rest r)))
  item_rest (IsItem.while _ d q) = Rest.behind (rest_more (test_rest d) (body_rest q))
  item_rest (IsItem.for _ d q) = Rest.behind (rest_more (for_head_rest d) (body_rest q))
  item_rest (IsItem.break _ _) = Rest.behind (Rest.behind Rest.here)
  item_rest (IsItem.continue _ _) = Rest.behind (Rest.behind Rest.here)
  item_rest (IsItem.return _ _) = Rest.behind (Rest.behind Rest.here)
  item_rest (IsItem.return_value _ d _) = Rest.behind (rest_next (right_rest d))

  pub else_rest : {arms : List Arm} {last : Option Block} {before end : ℕ} {ts us : List Token} → IsElse arms last before end ts us → Rest ts us
  else_rest (IsElse.none _) = Rest.here
  else_rest (IsElse.else_if _ _ d q r) = Rest.behind (Rest.behind (rest_more (test_rest d) (rest_more (body_rest q) (else_rest r))))
  else_rest (IsElse.otherwise _ _ d) = Rest.behind (body_rest d)

  pub body_rest : {b : Block} {end : ℕ} {ts us : List Token} → IsBody b end ts us → Rest ts us
  body_rest (IsBody.braced d) = block_rest d
  body_rest (IsBody.unbraced _ d) = item_rest d
  body_rest (IsBody.free d) = free_rest d
  body_rest (IsBody.empty _) = Rest.behind Rest.here

  pub block_rest : {b : Block} {end : ℕ} {ts us : List Token} → IsBlock b end ts us → Rest ts us
  block_rest (IsBlock.braces _ d) = Rest.behind (pieces_rest d)

  pub pieces_rest : {pieces : List Piece} {frees : List Free} {end : ℕ} {ts us : List Token} → IsPieces pieces frees end ts us → Rest ts us
  pieces_rest (IsPieces.last d _) = rest_next (gap_rest d)
  pieces_rest (IsPieces.more d q r) = rest_more (gap_rest d) (rest_more (item_rest q) (pieces_rest r))

pub field_names_rest : {b : Base} {f : Token} {fields : List Spec} {ts us : List Token} → IsFieldNames b f fields ts us → Rest ts us
field_names_rest (IsFieldNames.last d _ _) = rest_next (rest_next (stars_rest d))
field_names_rest (IsFieldNames.more d _ _ q) = rest_more (stars_rest d) (Rest.behind (Rest.behind (field_names_rest q)))

pub fields_rest : {fields : List Spec} {ts us : List Token} → IsFields fields ts us → Rest ts us
fields_rest (IsFields.last d q _) = rest_more (base_rest d) (rest_next (field_names_rest q))
fields_rest (IsFields.more d q r) = rest_more (base_rest d) (rest_more (field_names_rest q) (fields_rest r))

pub struct_body_rest : {b : Body} {ts us : List Token} → IsStructBody b ts us → Rest ts us
struct_body_rest (IsStructBody.body _ d) = Rest.behind (fields_rest d)

pub const_rest : {e : Expr} {ts us : List Token} → IsConst e ts us → Rest ts us
const_rest (IsConst.number _) = Rest.behind Rest.here
const_rest (IsConst.minus _ _) = Rest.behind (Rest.behind Rest.here)
const_rest (IsConst.null _) = Rest.behind Rest.here
const_rest (IsConst.eof _) = Rest.behind Rest.here

pub global_rest : {b : Base} {f : Token} {g : GlobalDecl} {ts us : List Token} → IsGlobal b f g ts us → Rest ts us
global_rest (IsGlobal.bare d _) = rest_next (stars_rest d)
global_rest (IsGlobal.given d _ _ q) = rest_more (stars_rest d) (Rest.behind (Rest.behind (const_rest q)))

pub globals_rest : {b : Base} {f : Token} {gs : List GlobalDecl} {ts us : List Token} → IsGlobals b f gs ts us → Rest ts us
globals_rest (IsGlobals.last d _) = rest_next (global_rest d)
globals_rest (IsGlobals.more d _ q) = rest_more (global_rest d) (Rest.behind (globals_rest q))

pub param_rest : {p : Spec} {ts us : List Token} → IsParam p ts us → Rest ts us
param_rest (IsParam.param d q r) = rest_more (base_rest d) (rest_more (stars_rest q) (optional_name_rest r))

pub more_params_rest : {ps : List Spec} {ts us : List Token} → IsMoreParams ps ts us → Rest ts us
more_params_rest (IsMoreParams.close _) = Rest.behind Rest.here
more_params_rest (IsMoreParams.comma _ d q) = Rest.behind (rest_more (param_rest d) (more_params_rest q))

pub params_rest : {ps : List Spec} {ts us : List Token} → IsParams ps ts us → Rest ts us
params_rest (IsParams.nothing _) = Rest.behind Rest.here
params_rest (IsParams.void _ _) = Rest.behind (Rest.behind Rest.here)
params_rest (IsParams.some d q) = rest_more (param_rest d) (more_params_rest q)

pub head_rest : {h : Head} {ts us : List Token} → IsHead h ts us → Rest ts us
head_rest (IsHead.void _ _ _ d) = Rest.behind (Rest.behind (Rest.behind (params_rest d)))
head_rest (IsHead.value d q _ _ r) = rest_more (base_rest d) (rest_more (stars_rest q) (Rest.behind (Rest.behind (params_rest r))))

pub top_rest : {x : Top} {ts us : List Token} → IsTop x ts us → Rest ts us
top_rest (IsTop.alias _ _ _ _ _) = Rest.behind (Rest.behind (Rest.behind (Rest.behind (Rest.behind Rest.here))))
top_rest (IsTop.alias_of_body _ _ d q _ _) = Rest.behind (Rest.behind (rest_more (optional_name_rest d) (rest_next (rest_next (struct_body_rest q)))))
top_rest (IsTop.tag _ _ _) = Rest.behind (Rest.behind (Rest.behind Rest.here))
top_rest (IsTop.tag_of_body _ _ d _) = Rest.behind (Rest.behind (rest_next (struct_body_rest d)))
top_rest (IsTop.globals d q) = rest_more (base_rest d) (globals_rest q)
top_rest (IsTop.prototype d _) = rest_next (head_rest d)
top_rest (IsTop.function d q) = rest_more (head_rest d) (block_rest q)
