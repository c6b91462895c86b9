-- Behind a derivation other tokens may stand: with another rest the same tokens are of the same tree. A statement wants that
-- no `else` comes to stand behind it.
use Rattle.std.proofs.Common.{◌≡◌, ℕ, ◌<◌, false, List, ◌∷◌, Option, length, arith}
use Rattle.c_lexer.specs.declared.token.Token.{Token}
use Rattle.c_tree.specs.declared.tree.Expr.{Expr}
use Rattle.c_tree.specs.declared.tree.Arg.{Arg}
use Rattle.c_tree.specs.declared.tree.Base.{Base}
use Rattle.c_tree.specs.declared.tree.Word.{Word}
use Rattle.c_tree.specs.declared.tree.Spec.{Spec}
use Rattle.c_tree.specs.declared.tree.Unit.{Unit as Counted}
use Rattle.c_tree.specs.declared.tree.Size.{Size}
use Rattle.c_tree.specs.declared.tree.Call.{Call}
use Rattle.c_tree.specs.declared.tree.Right.{Right}
use Rattle.c_tree.specs.declared.tree.Simple.{Simple}
use Rattle.c_tree.specs.declared.tree.Declr.{Declr}
use Rattle.c_tree.specs.declared.tree.Free.{Free}
use Rattle.c_tree.specs.declared.tree.Start.{Start}
use Rattle.c_tree.specs.declared.tree.ForHead.{ForHead}
use Rattle.c_tree.specs.declared.tree.Item.{Item}
use Rattle.c_tree.specs.declared.tree.Arm.{Arm}
use Rattle.c_tree.specs.declared.tree.Block.{Block}
use Rattle.c_tree.specs.declared.tree.Piece.{Piece}
use Rattle.c_tree.specs.declared.tree.Body.{Body}
use Rattle.c_tree.specs.declared.tree.GlobalDecl.{GlobalDecl}
use Rattle.c_tree.specs.declared.tree.Head.{Head}
use Rattle.c_tree.specs.declared.tree.Top.{Top}
use Rattle.c_parser.specs.Expressions.{IsLevel, IsTail, IsUnary, IsPost, IsPosts, IsPrim, IsArg}
use Rattle.c_parser.specs.Declarators.{IsBase, IsStars, IsOptionalName, IsCast, IsUnit, IsSize}
use Rattle.c_parser.specs.Statements.{IsMoreArgs, IsArgs, IsCall, IsRight, IsPlace, IsSimple, IsDeclr, IsDeclrs, IsDecl}
use Rattle.c_parser.specs.Blocks.{IsFree, IsGap, IsTest, IsForStart, IsForTest, IsForStep, IsForHead, IsItem, IsElse, IsBody, IsBlock, IsPieces}
use Rattle.c_parser.specs.Grammar.{IsFieldNames, IsFields, IsStructBody, IsConst, IsGlobal, IsGlobals, IsParam, IsMoreParams, IsParams, IsHead, IsTop}
use Rattle.c_parser.specs.declared.term.Term.{Term}
use Rattle.c_parser.specs.declared.term.Term.TheVariants as term
use Rattle.c_parser.specs.Term.{sees}
use Rattle.c_parser.proofs.Shorter.{level_shorter, unary_shorter, post_shorter, base_shorter, place_shorter, item_shorter, body_shorter, pieces_shorter}

-- the tokens of the first list before the second are those of the third before the fourth
pub data SameFront : List Token → List Token → List Token → List Token → Type 0 where
  here : {us ws : List Token} → SameFront us us ws ws
  next : {t : Token} {ts us vs ws : List Token} → SameFront ts us vs ws → SameFront (t ∷ ts) us (t ∷ vs) ws

pub front_more : {ts us vs ws xs ys : List Token} → SameFront ts us vs ws → SameFront us xs ws ys → SameFront ts xs vs ys
front_more SameFront.here q = q
front_more (SameFront.next p) q = SameFront.next (front_more p q)

-- no `else` comes to stand there
abbrev pub KeepsElse : List Token → List Token → Type 0
KeepsElse us ws = sees term.Else us ≡ false → sees term.Else ws ≡ false

keeps_front : {ts us vs ws : List Token} → SameFront ts us vs ws → KeepsElse us ws → KeepsElse ts vs
keeps_front SameFront.here keeps = keeps
keeps_front (SameFront.next p) keeps = λ is. is

-- where a part has a token, the lists begin with the same one
sees_front : (x : Term) {ts us vs ws : List Token} → SameFront ts us vs ws → length us < length ts → sees x ts ≡ false → sees x vs ≡ false
sees_front x SameFront.here less is = absurd (omega (arith, less))
sees_front x (SameFront.next p) less is = is

keeps_begun : {ts us vs ws : List Token} → SameFront ts us vs ws → length us < length ts → KeepsElse ts vs
keeps_begun p less is = sees_front term.Else p less is

-- the tokens before another rest
pub record Exchanged (Is : List Token → List Token → Type 0) (ts us ws : List Token) : Type 0 where
  pub list : List Token
  pub is : Is list ws
  pub same : SameFront ts us list ws

record FirstKept (Is : List Token → List Token → Type 0) (t : Token) (ts us ws : List Token) : Type 0 where
  list : List Token
  is : Is (t ∷ list) ws
  same : SameFront (t ∷ ts) us (t ∷ list) ws

kept_by : {Is : List Token → List Token → Type 0} {t : Token} {ts us list ws : List Token} → Is list ws → SameFront (t ∷ ts) us list ws → length us < length (t ∷ ts)
    → FirstKept Is t ts us ws
kept_by is SameFront.here less = absurd (omega (arith, less))
kept_by is (SameFront.next {vs = vs} p) less = record { list = vs; is = is; same = SameFront.next p }

first_kept : {Is : List Token → List Token → Type 0} {t : Token} {ts us ws : List Token} → Exchanged Is (t ∷ ts) us ws → length us < length (t ∷ ts) → FirstKept Is t ts us ws
first_kept e less = kept_by e.is e.same less

mutual
  pub level_exchanged : {k : ℕ} {e : Expr} {ts us : List Token} → IsLevel k e ts us → (ws : List Token) → Exchanged (IsLevel k e) ts us ws
  level_exchanged (IsLevel.operand d) ws = let a = unary_exchanged d ws in record { list = a.list; is = IsLevel.operand a.is; same = a.same }
  level_exchanged (IsLevel.level d q) ws =
      let b = tail_exchanged q ws in
      let a = level_exchanged d b.list in
      record { list = a.list; is = IsLevel.level a.is b.is; same = front_more a.same b.same }

  pub tail_exchanged : {k : ℕ} {a e : Expr} {ts us : List Token} → IsTail k a e ts us → (ws : List Token) → Exchanged (IsTail k a e) ts us ws
  tail_exchanged IsTail.done ws = record { list = ws; is = IsTail.done; same = SameFront.here }
  tail_exchanged (IsTail.more {t = t} is d q) ws =
      let b = tail_exchanged q ws in
      let a = level_exchanged d b.list in
      record { list = t ∷ a.list; is = IsTail.more is a.is b.is; same = SameFront.next (front_more a.same b.same) }

  pub unary_exchanged : {e : Expr} {ts us : List Token} → IsUnary e ts us → (ws : List Token) → Exchanged (IsUnary e) ts us ws
  unary_exchanged (IsUnary.plain d) ws = let a = post_exchanged d ws in record { list = a.list; is = IsUnary.plain a.is; same = a.same }
  unary_exchanged (IsUnary.minus {t = t} is d) ws =
      let a = unary_exchanged d ws in
      record { list = t ∷ a.list; is = IsUnary.minus is a.is; same = SameFront.next a.same }
  unary_exchanged (IsUnary.not {t = t} is d) ws =
      let a = unary_exchanged d ws in
      record { list = t ∷ a.list; is = IsUnary.not is a.is; same = SameFront.next a.same }
  unary_exchanged (IsUnary.deref {t = t} is d) ws =
      let a = unary_exchanged d ws in
      record { list = t ∷ a.list; is = IsUnary.deref is a.is; same = SameFront.next a.same }

  pub post_exchanged : {e : Expr} {ts us : List Token} → IsPost e ts us → (ws : List Token) → Exchanged (IsPost e) ts us ws
  post_exchanged (IsPost.post d q) ws =
      let b = posts_exchanged q ws in
      let a = prim_exchanged d b.list in
      record { list = a.list; is = IsPost.post a.is b.is; same = front_more a.same b.same }

  pub posts_exchanged : {a e : Expr} {ts us : List Token} → IsPosts a e ts us → (ws : List Token) → Exchanged (IsPosts a e) ts us ws
  posts_exchanged IsPosts.end ws = record { list = ws; is = IsPosts.end; same = SameFront.here }
  posts_exchanged (IsPosts.field {t = t} {n = n} is_t is_n d) ws =
      let a = posts_exchanged d ws in
      record { list = t ∷ n ∷ a.list; is = IsPosts.field is_t is_n a.is; same = SameFront.next (SameFront.next a.same) }
  posts_exchanged (IsPosts.index {t = t} {c = c} is_t d is_c q) ws =
      let b = posts_exchanged q ws in
      let a = level_exchanged d (c ∷ b.list) in
      record { list = t ∷ a.list; is = IsPosts.index is_t a.is is_c b.is; same = SameFront.next (front_more a.same (SameFront.next b.same)) }

  pub prim_exchanged : {e : Expr} {ts us : List Token} → IsPrim e ts us → (ws : List Token) → Exchanged (IsPrim e) ts us ws
  prim_exchanged (IsPrim.number {t = t} is) ws = record { list = t ∷ ws; is = IsPrim.number is; same = SameFront.next SameFront.here }
  prim_exchanged (IsPrim.null {t = t} is) ws = record { list = t ∷ ws; is = IsPrim.null is; same = SameFront.next SameFront.here }
  prim_exchanged (IsPrim.eof {t = t} is) ws = record { list = t ∷ ws; is = IsPrim.eof is; same = SameFront.next SameFront.here }
  prim_exchanged (IsPrim.variable {t = t} is) ws = record { list = t ∷ ws; is = IsPrim.variable is; same = SameFront.next SameFront.here }
  prim_exchanged (IsPrim.group {o = o} {c = c} is_o d is_c) ws =
      let a = level_exchanged d (c ∷ ws) in
      record { list = o ∷ a.list; is = IsPrim.group is_o a.is is_c; same = SameFront.next (front_more a.same (SameFront.next SameFront.here)) }

pub arg_exchanged : {a : Arg} {ts us : List Token} → IsArg a ts us → (ws : List Token) → Exchanged (IsArg a) ts us ws
arg_exchanged (IsArg.argument {t = t} d) ws =
    let a = first_kept (level_exchanged d ws) (level_shorter d) in
    record { list = t ∷ a.list; is = IsArg.argument a.is; same = a.same }

pub base_exchanged : {b : Base} {ts us : List Token} → IsBase b ts us → (ws : List Token) → Exchanged (IsBase b) ts us ws
base_exchanged (IsBase.int {t = t} is) ws = record { list = t ∷ ws; is = IsBase.int is; same = SameFront.next SameFront.here }
base_exchanged (IsBase.tag {t = t} {n = n} is_t is_n) ws = record { list = t ∷ n ∷ ws; is = IsBase.tag is_t is_n; same = SameFront.next (SameFront.next SameFront.here) }
base_exchanged (IsBase.alias {t = t} is) ws = record { list = t ∷ ws; is = IsBase.alias is; same = SameFront.next SameFront.here }

pub stars_exchanged : {n : ℕ} {ts us : List Token} → IsStars n ts us → (ws : List Token) → Exchanged (IsStars n) ts us ws
stars_exchanged IsStars.none ws = record { list = ws; is = IsStars.none; same = SameFront.here }
stars_exchanged (IsStars.star {t = t} is) ws = record { list = t ∷ ws; is = IsStars.star is; same = SameFront.next SameFront.here }

pub optional_name_exchanged : {w : Option Word} {ts us : List Token} → IsOptionalName w ts us → (ws : List Token) → Exchanged (IsOptionalName w) ts us ws
optional_name_exchanged IsOptionalName.none ws = record { list = ws; is = IsOptionalName.none; same = SameFront.here }
optional_name_exchanged (IsOptionalName.named {n = n} is) ws = record { list = n ∷ ws; is = IsOptionalName.named is; same = SameFront.next SameFront.here }

pub cast_exchanged : {c : Option Spec} {ts us : List Token} → IsCast c ts us → (ws : List Token) → Exchanged (IsCast c) ts us ws
cast_exchanged IsCast.none ws = record { list = ws; is = IsCast.none; same = SameFront.here }
cast_exchanged (IsCast.cast {o = o} {t = t} {s = s} {c = c} is_o d is_s is_c) ws =
    let a = first_kept (base_exchanged d (s ∷ c ∷ ws)) (base_shorter d) in
    record { list = o ∷ t ∷ a.list; is = IsCast.cast is_o a.is is_s is_c; same = SameFront.next (front_more a.same (SameFront.next (SameFront.next SameFront.here))) }

pub unit_exchanged : {u : Counted} {at : ℕ} {ts us : List Token} → IsUnit u at ts us → (ws : List Token) → Exchanged (IsUnit u at) ts us ws
unit_exchanged (IsUnit.of_type {z = z} {o = o} {t = t} {c = c} is_z is_o d is_c) ws =
    let a = first_kept (base_exchanged d (c ∷ ws)) (base_shorter d) in
    record { list = z ∷ o ∷ t ∷ a.list; is = IsUnit.of_type is_z is_o a.is is_c; same = SameFront.next (SameFront.next (front_more a.same (SameFront.next SameFront.here))) }
unit_exchanged (IsUnit.of_star_within {z = z} {o = o} {s = s} {n = n} {c = c} is_z is_o is_s is_n is_c) ws = record { list = z ∷ o ∷ s ∷ n ∷ c ∷ ws; is = IsUnit.of_star_within is_z is_o is_s is_n is_c; same = SameFront.next (SameFront.next (SameFront.next (SameFront.next (SameFront.next SameFront.here)))) }
unit_exchanged (IsUnit.of_star {z = z} {s = s} {n = n} is_z is_s is_n) ws = record { list = z ∷ s ∷ n ∷ ws; is = IsUnit.of_star is_z is_s is_n; same = SameFront.next (SameFront.next (SameFront.next SameFront.here)) }

pub size_exchanged : {z : Size} {ts us : List Token} → IsSize z ts us → (ws : List Token) → Exchanged (IsSize z) ts us ws
size_exchanged (IsSize.one d) ws = let a = unit_exchanged d ws in record { list = a.list; is = IsSize.one a.is; same = a.same }
size_exchanged (IsSize.count_before {t = t} d is q) ws =
    let b = unit_exchanged q ws in
    let a = level_exchanged d (t ∷ b.list) in
    record { list = a.list; is = IsSize.count_before a.is is b.is; same = front_more a.same (SameFront.next b.same) }
size_exchanged (IsSize.count_behind {t = t} d is q) ws =
    let b = unary_exchanged q ws in
    let a = unit_exchanged d (t ∷ b.list) in
    record { list = a.list; is = IsSize.count_behind a.is is b.is; same = front_more a.same (SameFront.next b.same) }

pub more_args_exchanged : {args : List Arg} {at : ℕ} {ts us : List Token} → IsMoreArgs args at ts us → (ws : List Token) → Exchanged (IsMoreArgs args at) ts us ws
more_args_exchanged (IsMoreArgs.close {t = t} is) ws = record { list = t ∷ ws; is = IsMoreArgs.close is; same = SameFront.next SameFront.here }
more_args_exchanged (IsMoreArgs.comma {t = t} is d q) ws =
    let b = more_args_exchanged q ws in
    let a = arg_exchanged d b.list in
    record { list = t ∷ a.list; is = IsMoreArgs.comma is a.is b.is; same = SameFront.next (front_more a.same b.same) }

pub args_exchanged : {args : List Arg} {at : ℕ} {ts us : List Token} → IsArgs args at ts us → (ws : List Token) → Exchanged (IsArgs args at) ts us ws
args_exchanged (IsArgs.none {t = t} is) ws = record { list = t ∷ ws; is = IsArgs.none is; same = SameFront.next SameFront.here }
args_exchanged (IsArgs.some d q) ws =
    let b = more_args_exchanged q ws in
    let a = arg_exchanged d b.list in
    record { list = a.list; is = IsArgs.some a.is b.is; same = front_more a.same b.same }

pub call_exchanged : {c : Call} {ts us : List Token} → IsCall c ts us → (ws : List Token) → Exchanged (IsCall c) ts us ws
call_exchanged (IsCall.user {n = n} {o = o} is_n is_o d) ws =
    let a = args_exchanged d ws in
    record { list = n ∷ o ∷ a.list; is = IsCall.user is_n is_o a.is; same = SameFront.next (SameFront.next a.same) }
call_exchanged (IsCall.getchar {t = t} {o = o} {c = c} is_t is_o is_c) ws = record { list = t ∷ o ∷ c ∷ ws; is = IsCall.getchar is_t is_o is_c; same = SameFront.next (SameFront.next (SameFront.next SameFront.here)) }
call_exchanged (IsCall.putchar {t = t} {o = o} {c = c} is_t is_o d is_c) ws =
    let a = arg_exchanged d (c ∷ ws) in
    record { list = t ∷ o ∷ a.list; is = IsCall.putchar is_t is_o a.is is_c; same = SameFront.next (SameFront.next (front_more a.same (SameFront.next SameFront.here))) }
call_exchanged (IsCall.printf {t = t} {o = o} {x = x} is_t is_o is_x d) ws =
    let a = more_args_exchanged d ws in
    record { list = t ∷ o ∷ x ∷ a.list; is = IsCall.printf is_t is_o is_x a.is; same = SameFront.next (SameFront.next (SameFront.next a.same)) }
call_exchanged (IsCall.malloc {t = t} {o = o} {c = c} d is_t is_o q is_c) ws =
    let b = size_exchanged q (c ∷ ws) in
    let a = cast_exchanged d (t ∷ o ∷ b.list) in
    record { list = a.list; is = IsCall.malloc a.is is_t is_o b.is is_c; same = front_more a.same (SameFront.next (SameFront.next (front_more b.same (SameFront.next SameFront.here)))) }

pub right_exchanged : {r : Right} {ts us : List Token} → IsRight r ts us → (ws : List Token) → Exchanged (IsRight r) ts us ws
right_exchanged (IsRight.plain d) ws = let a = arg_exchanged d ws in record { list = a.list; is = IsRight.plain a.is; same = a.same }
right_exchanged (IsRight.called d) ws = let a = call_exchanged d ws in record { list = a.list; is = IsRight.called a.is; same = a.same }

pub place_exchanged : {e : Expr} {ts us : List Token} → IsPlace e ts us → (ws : List Token) → Exchanged (IsPlace e) ts us ws
place_exchanged (IsPlace.post d) ws = let a = post_exchanged d ws in record { list = a.list; is = IsPlace.post a.is; same = a.same }
place_exchanged (IsPlace.deref {t = t} is d) ws =
    let a = unary_exchanged d ws in
    record { list = t ∷ a.list; is = IsPlace.deref is a.is; same = SameFront.next a.same }

pub simple_exchanged : {s : Simple} {ts us : List Token} → IsSimple s ts us → (ws : List Token) → Exchanged (IsSimple s) ts us ws
simple_exchanged (IsSimple.put {p = p} {t = t} d is q) ws =
    let b = right_exchanged q ws in
    let a = first_kept (place_exchanged d (t ∷ b.list)) (place_shorter d) in
    record { list = p ∷ a.list; is = IsSimple.put a.is is b.is; same = front_more a.same (SameFront.next b.same) }
simple_exchanged (IsSimple.change {p = p} {t = t} d is q) ws =
    let b = arg_exchanged q ws in
    let a = first_kept (place_exchanged d (t ∷ b.list)) (place_shorter d) in
    record { list = p ∷ a.list; is = IsSimple.change a.is is b.is; same = front_more a.same (SameFront.next b.same) }
simple_exchanged (IsSimple.step_behind {p = p} {t = t} d is) ws =
    let a = first_kept (post_exchanged d (t ∷ ws)) (post_shorter d) in
    record { list = p ∷ a.list; is = IsSimple.step_behind a.is is; same = front_more a.same (SameFront.next SameFront.here) }
simple_exchanged (IsSimple.step_before {p = p} {t = t} is d) ws =
    let a = first_kept (unary_exchanged d ws) (unary_shorter d) in
    record { list = t ∷ p ∷ a.list; is = IsSimple.step_before is a.is; same = SameFront.next a.same }

pub declr_exchanged : {b : Base} {f : Token} {d : Declr} {ts us : List Token} → IsDeclr b f d ts us → (ws : List Token) → Exchanged (IsDeclr b f d) ts us ws
declr_exchanged (IsDeclr.bare {n = n} d is) ws =
    let a = stars_exchanged d (n ∷ ws) in
    record { list = a.list; is = IsDeclr.bare a.is is; same = front_more a.same (SameFront.next SameFront.here) }
declr_exchanged (IsDeclr.given {n = n} {t = t} d is_n is_t q) ws =
    let b = right_exchanged q ws in
    let a = stars_exchanged d (n ∷ t ∷ b.list) in
    record { list = a.list; is = IsDeclr.given a.is is_n is_t b.is; same = front_more a.same (SameFront.next (SameFront.next b.same)) }

pub declrs_exchanged : {b : Base} {f : Token} {ds : List Declr} {ts us : List Token} → IsDeclrs b f ds ts us → (ws : List Token) → Exchanged (IsDeclrs b f ds) ts us ws
declrs_exchanged (IsDeclrs.last d) ws = let a = declr_exchanged d ws in record { list = a.list; is = IsDeclrs.last a.is; same = a.same }
declrs_exchanged (IsDeclrs.more {t = t} d is q) ws =
    let b = declrs_exchanged q ws in
    let a = declr_exchanged d (t ∷ b.list) in
    record { list = a.list; is = IsDeclrs.more a.is is b.is; same = front_more a.same (SameFront.next b.same) }

pub decl_exchanged : {ds : List Declr} {ts us : List Token} → IsDecl ds ts us → (ws : List Token) → Exchanged (IsDecl ds) ts us ws
decl_exchanged (IsDecl.decl {f = f} d q) ws =
    let b = declrs_exchanged q ws in
    let a = first_kept (base_exchanged d b.list) (base_shorter d) in
    record { list = f ∷ a.list; is = IsDecl.decl a.is b.is; same = front_more a.same b.same }

pub free_exchanged : {f : Free} {ts us : List Token} → IsFree f ts us → (ws : List Token) → Exchanged (IsFree f) ts us ws
free_exchanged (IsFree.free {t = t} {o = o} {c = c} {s = s} is_t is_o d is_c is_s) ws =
    let a = arg_exchanged d (c ∷ s ∷ ws) in
    record { list = t ∷ o ∷ a.list; is = IsFree.free is_t is_o a.is is_c is_s; same = SameFront.next (SameFront.next (front_more a.same (SameFront.next (SameFront.next SameFront.here)))) }

pub gap_exchanged : {frees : List Free} {ts us : List Token} → IsGap frees ts us → (ws : List Token) → Exchanged (IsGap frees) ts us ws
gap_exchanged IsGap.done ws = record { list = ws; is = IsGap.done; same = SameFront.here }
gap_exchanged (IsGap.empty {t = t} is d) ws =
    let a = gap_exchanged d ws in
    record { list = t ∷ a.list; is = IsGap.empty is a.is; same = SameFront.next a.same }
gap_exchanged (IsGap.free d q) ws =
    let b = gap_exchanged q ws in
    let a = free_exchanged d b.list in
    record { list = a.list; is = IsGap.free a.is b.is; same = front_more a.same b.same }

pub test_exchanged : {e : Expr} {ts us : List Token} → IsTest e ts us → (ws : List Token) → Exchanged (IsTest e) ts us ws
test_exchanged (IsTest.test {o = o} {c = c} is_o d is_c) ws =
    let a = level_exchanged d (c ∷ ws) in
    record { list = o ∷ a.list; is = IsTest.test is_o a.is is_c; same = SameFront.next (front_more a.same (SameFront.next SameFront.here)) }

pub for_start_exchanged : {starts : List Start} {ts us : List Token} → IsForStart starts ts us → (ws : List Token) → Exchanged (IsForStart starts) ts us ws
for_start_exchanged (IsForStart.none {t = t} is) ws = record { list = t ∷ ws; is = IsForStart.none is; same = SameFront.next SameFront.here }
for_start_exchanged (IsForStart.declare {t = t} d is) ws =
    let a = decl_exchanged d (t ∷ ws) in
    record { list = a.list; is = IsForStart.declare a.is is; same = front_more a.same (SameFront.next SameFront.here) }
for_start_exchanged (IsForStart.assign {t = t} d is) ws =
    let a = simple_exchanged d (t ∷ ws) in
    record { list = a.list; is = IsForStart.assign a.is is; same = front_more a.same (SameFront.next SameFront.here) }

pub for_test_exchanged : {test : Option Expr} {ts us : List Token} → IsForTest test ts us → (ws : List Token) → Exchanged (IsForTest test) ts us ws
for_test_exchanged (IsForTest.none {t = t} is) ws = record { list = t ∷ ws; is = IsForTest.none is; same = SameFront.next SameFront.here }
for_test_exchanged (IsForTest.test {t = t} d is) ws =
    let a = level_exchanged d (t ∷ ws) in
    record { list = a.list; is = IsForTest.test a.is is; same = front_more a.same (SameFront.next SameFront.here) }

pub for_step_exchanged : {step : Option Simple} {ts us : List Token} → IsForStep step ts us → (ws : List Token) → Exchanged (IsForStep step) ts us ws
for_step_exchanged (IsForStep.none {t = t} is) ws = record { list = t ∷ ws; is = IsForStep.none is; same = SameFront.next SameFront.here }
for_step_exchanged (IsForStep.step {t = t} d is) ws =
    let a = simple_exchanged d (t ∷ ws) in
    record { list = a.list; is = IsForStep.step a.is is; same = front_more a.same (SameFront.next SameFront.here) }

pub for_head_exchanged : {h : ForHead} {ts us : List Token} → IsForHead h ts us → (ws : List Token) → Exchanged (IsForHead h) ts us ws
for_head_exchanged (IsForHead.head {o = o} is d q r) ws =
    let c = for_step_exchanged r ws in
    let b = for_test_exchanged q c.list in
    let a = for_start_exchanged d b.list in
    record { list = o ∷ a.list; is = IsForHead.head is a.is b.is c.is; same = SameFront.next (front_more a.same (front_more b.same c.same)) }

mutual
  pub item_exchanged : {i : Item} {end : ℕ} {ts us : List Token} → IsItem i end ts us → (ws : List Token) → KeepsElse us ws → Exchanged (IsItem i end) ts us ws
  item_exchanged (IsItem.declare {t = t} d is) ws keeps =
      let a = decl_exchanged d (t ∷ ws) in
      record { list = a.list; is = IsItem.declare a.is is; same = front_more a.same (SameFront.next SameFront.here) }
  item_exchanged (IsItem.assign {t = t} d is) ws keeps =
      let a = simple_exchanged d (t ∷ ws) in
      record { list = a.list; is = IsItem.assign a.is is; same = front_more a.same (SameFront.next SameFront.here) }
  item_exchanged (IsItem.call {t = t} d is) ws keeps =
      let a = call_exchanged d (t ∷ ws) in
      record { list = a.list; is = IsItem.call a.is is; same = front_more a.same (SameFront.next SameFront.here) }
  item_exchanged (IsItem.nest d) ws keeps = let a = block_exchanged d ws in record { list = a.list; is = IsItem.nest a.is; same = a.same }
  item_exchanged (IsItem.branch {t = t} is d q r) ws keeps =
      let c = else_exchanged r ws keeps in
      let b = body_exchanged q c.list (keeps_front c.same keeps) in
      let a = test_exchanged d b.list in
      record { list = t ∷ a.list; is = IsItem.branch is a.is b.is c.is; same = SameFront.next (front_more a.same (front_more b.same c.same)) }
  item_exchanged (IsItem.while {t = t} is d q) ws keeps =
      let b = body_exchanged q ws keeps in
      let a = test_exchanged d b.list in
      record { list = t ∷ a.list; is = IsItem.while is a.is b.is; same = SameFront.next (front_more a.same b.same) }
  item_exchanged (IsItem.for {t = t} is d q) ws keeps =
      let b = body_exchanged q ws keeps in
      let a = for_head_exchanged d b.list in
      record { list = t ∷ a.list; is = IsItem.for is a.is b.is; same = SameFront.next (front_more a.same b.same) }
  item_exchanged (IsItem.break {t = t} {s = s} is_t is_s) ws keeps = record { list = t ∷ s ∷ ws; is = IsItem.break is_t is_s; same = SameFront.next (SameFront.next SameFront.here) }
  item_exchanged (IsItem.continue {t = t} {s = s} is_t is_s) ws keeps = record { list = t ∷ s ∷ ws; is = IsItem.continue is_t is_s; same = SameFront.next (SameFront.next SameFront.here) }
  item_exchanged (IsItem.return {t = t} {s = s} is_t is_s) ws keeps = record { list = t ∷ s ∷ ws; is = IsItem.return is_t is_s; same = SameFront.next (SameFront.next SameFront.here) }
  item_exchanged (IsItem.return_value {t = t} {s = s} is_t d is_s) ws keeps =
      let a = right_exchanged d (s ∷ ws) in
      record { list = t ∷ a.list; is = IsItem.return_value is_t a.is is_s; same = SameFront.next (front_more a.same (SameFront.next SameFront.here)) }

  pub else_exchanged : {arms : List Arm} {last : Option Block} {before end : ℕ} {ts us : List Token} → IsElse arms last before end ts us → (ws : List Token) → KeepsElse us ws → Exchanged (IsElse arms last before end) ts us ws
  else_exchanged (IsElse.none is) ws keeps = record { list = ws; is = IsElse.none (keeps is); same = SameFront.here }
  else_exchanged (IsElse.else_if {t = t} {i = i} is_t is_i d q r) ws keeps =
      let c = else_exchanged r ws keeps in
      let b = body_exchanged q c.list (keeps_front c.same keeps) in
      let a = test_exchanged d b.list in
      record { list = t ∷ i ∷ a.list; is = IsElse.else_if is_t is_i a.is b.is c.is; same = SameFront.next (SameFront.next (front_more a.same (front_more b.same c.same))) }
  else_exchanged (IsElse.otherwise {t = t} is_t no_if d) ws keeps =
      let a = body_exchanged d ws keeps in
      record { list = t ∷ a.list; is = IsElse.otherwise is_t (sees_front term.If a.same (body_shorter d) no_if) a.is; same = SameFront.next a.same }

  pub body_exchanged : {b : Block} {end : ℕ} {ts us : List Token} → IsBody b end ts us → (ws : List Token) → KeepsElse us ws → Exchanged (IsBody b end) ts us ws
  body_exchanged (IsBody.braced d) ws keeps = let a = block_exchanged d ws in record { list = a.list; is = IsBody.braced a.is; same = a.same }
  body_exchanged (IsBody.unbraced {t = t} is d) ws keeps =
      let a = first_kept (item_exchanged d ws keeps) (item_shorter d) in
      record { list = t ∷ a.list; is = IsBody.unbraced is a.is; same = a.same }
  body_exchanged (IsBody.free d) ws keeps = let a = free_exchanged d ws in record { list = a.list; is = IsBody.free a.is; same = a.same }
  body_exchanged (IsBody.empty {t = t} is) ws keeps = record { list = t ∷ ws; is = IsBody.empty is; same = SameFront.next SameFront.here }

  pub block_exchanged : {b : Block} {end : ℕ} {ts us : List Token} → IsBlock b end ts us → (ws : List Token) → Exchanged (IsBlock b end) ts us ws
  block_exchanged (IsBlock.braces {t = t} is d) ws =
      let a = pieces_exchanged d ws in
      record { list = t ∷ a.list; is = IsBlock.braces is a.is; same = SameFront.next a.same }

  pub pieces_exchanged : {pieces : List Piece} {frees : List Free} {end : ℕ} {ts us : List Token} → IsPieces pieces frees end ts us → (ws : List Token) → Exchanged (IsPieces pieces frees end) ts us ws
  pieces_exchanged (IsPieces.last {t = t} d is) ws =
      let a = gap_exchanged d (t ∷ ws) in
      record { list = a.list; is = IsPieces.last a.is is; same = front_more a.same (SameFront.next SameFront.here) }
  pieces_exchanged (IsPieces.more {t = t} d q r) ws =
      let c = pieces_exchanged r ws in
      let b = first_kept (item_exchanged q c.list (keeps_begun c.same (pieces_shorter r))) (item_shorter q) in
      let a = gap_exchanged d (t ∷ b.list) in
      record { list = a.list; is = IsPieces.more a.is b.is c.is; same = front_more a.same (front_more b.same c.same) }

pub field_names_exchanged : {b : Base} {f : Token} {fields : List Spec} {ts us : List Token} → IsFieldNames b f fields ts us → (ws : List Token) → Exchanged (IsFieldNames b f fields) ts us ws
field_names_exchanged (IsFieldNames.last {n = n} {t = t} d is_n is_t) ws =
    let a = stars_exchanged d (n ∷ t ∷ ws) in
    record { list = a.list; is = IsFieldNames.last a.is is_n is_t; same = front_more a.same (SameFront.next (SameFront.next SameFront.here)) }
field_names_exchanged (IsFieldNames.more {n = n} {t = t} d is_n is_t q) ws =
    let b = field_names_exchanged q ws in
    let a = stars_exchanged d (n ∷ t ∷ b.list) in
    record { list = a.list; is = IsFieldNames.more a.is is_n is_t b.is; same = front_more a.same (SameFront.next (SameFront.next b.same)) }

pub fields_exchanged : {fields : List Spec} {ts us : List Token} → IsFields fields ts us → (ws : List Token) → Exchanged (IsFields fields) ts us ws
fields_exchanged (IsFields.last {f = f} {c = c} d q is) ws =
    let b = field_names_exchanged q (c ∷ ws) in
    let a = first_kept (base_exchanged d b.list) (base_shorter d) in
    record { list = f ∷ a.list; is = IsFields.last a.is b.is is; same = front_more a.same (front_more b.same (SameFront.next SameFront.here)) }
fields_exchanged (IsFields.more {f = f} d q r) ws =
    let c = fields_exchanged r ws in
    let b = field_names_exchanged q c.list in
    let a = first_kept (base_exchanged d b.list) (base_shorter d) in
    record { list = f ∷ a.list; is = IsFields.more a.is b.is c.is; same = front_more a.same (front_more b.same c.same) }

pub struct_body_exchanged : {b : Body} {ts us : List Token} → IsStructBody b ts us → (ws : List Token) → Exchanged (IsStructBody b) ts us ws
struct_body_exchanged (IsStructBody.body {o = o} is d) ws =
    let a = fields_exchanged d ws in
    record { list = o ∷ a.list; is = IsStructBody.body is a.is; same = SameFront.next a.same }

pub const_exchanged : {e : Expr} {ts us : List Token} → IsConst e ts us → (ws : List Token) → Exchanged (IsConst e) ts us ws
const_exchanged (IsConst.number {t = t} is) ws = record { list = t ∷ ws; is = IsConst.number is; same = SameFront.next SameFront.here }
const_exchanged (IsConst.minus {m = m} {t = t} is_m is_t) ws = record { list = m ∷ t ∷ ws; is = IsConst.minus is_m is_t; same = SameFront.next (SameFront.next SameFront.here) }
const_exchanged (IsConst.null {t = t} is) ws = record { list = t ∷ ws; is = IsConst.null is; same = SameFront.next SameFront.here }
const_exchanged (IsConst.eof {t = t} is) ws = record { list = t ∷ ws; is = IsConst.eof is; same = SameFront.next SameFront.here }

pub global_exchanged : {b : Base} {f : Token} {g : GlobalDecl} {ts us : List Token} → IsGlobal b f g ts us → (ws : List Token) → Exchanged (IsGlobal b f g) ts us ws
global_exchanged (IsGlobal.bare {n = n} d is) ws =
    let a = stars_exchanged d (n ∷ ws) in
    record { list = a.list; is = IsGlobal.bare a.is is; same = front_more a.same (SameFront.next SameFront.here) }
global_exchanged (IsGlobal.given {n = n} {t = t} d is_n is_t q) ws =
    let b = const_exchanged q ws in
    let a = stars_exchanged d (n ∷ t ∷ b.list) in
    record { list = a.list; is = IsGlobal.given a.is is_n is_t b.is; same = front_more a.same (SameFront.next (SameFront.next b.same)) }

pub globals_exchanged : {b : Base} {f : Token} {gs : List GlobalDecl} {ts us : List Token} → IsGlobals b f gs ts us → (ws : List Token) → Exchanged (IsGlobals b f gs) ts us ws
globals_exchanged (IsGlobals.last {t = t} d is) ws =
    let a = global_exchanged d (t ∷ ws) in
    record { list = a.list; is = IsGlobals.last a.is is; same = front_more a.same (SameFront.next SameFront.here) }
globals_exchanged (IsGlobals.more {t = t} d is q) ws =
    let b = globals_exchanged q ws in
    let a = global_exchanged d (t ∷ b.list) in
    record { list = a.list; is = IsGlobals.more a.is is b.is; same = front_more a.same (SameFront.next b.same) }

pub param_exchanged : {p : Spec} {ts us : List Token} → IsParam p ts us → (ws : List Token) → Exchanged (IsParam p) ts us ws
param_exchanged (IsParam.param {f = f} d q r) ws =
    let c = optional_name_exchanged r ws in
    let b = stars_exchanged q c.list in
    let a = first_kept (base_exchanged d b.list) (base_shorter d) in
    record { list = f ∷ a.list; is = IsParam.param a.is b.is c.is; same = front_more a.same (front_more b.same c.same) }

pub more_params_exchanged : {ps : List Spec} {ts us : List Token} → IsMoreParams ps ts us → (ws : List Token) → Exchanged (IsMoreParams ps) ts us ws
more_params_exchanged (IsMoreParams.close {t = t} is) ws = record { list = t ∷ ws; is = IsMoreParams.close is; same = SameFront.next SameFront.here }
more_params_exchanged (IsMoreParams.comma {t = t} is d q) ws =
    let b = more_params_exchanged q ws in
    let a = param_exchanged d b.list in
    record { list = t ∷ a.list; is = IsMoreParams.comma is a.is b.is; same = SameFront.next (front_more a.same b.same) }

pub params_exchanged : {ps : List Spec} {ts us : List Token} → IsParams ps ts us → (ws : List Token) → Exchanged (IsParams ps) ts us ws
params_exchanged (IsParams.nothing {t = t} is) ws = record { list = t ∷ ws; is = IsParams.nothing is; same = SameFront.next SameFront.here }
params_exchanged (IsParams.void {v = v} {t = t} is_v is_t) ws = record { list = v ∷ t ∷ ws; is = IsParams.void is_v is_t; same = SameFront.next (SameFront.next SameFront.here) }
params_exchanged (IsParams.some d q) ws =
    let b = more_params_exchanged q ws in
    let a = param_exchanged d b.list in
    record { list = a.list; is = IsParams.some a.is b.is; same = front_more a.same b.same }

pub head_exchanged : {h : Head} {ts us : List Token} → IsHead h ts us → (ws : List Token) → Exchanged (IsHead h) ts us ws
head_exchanged (IsHead.void {t = t} {n = n} {o = o} is_t is_n is_o d) ws =
    let a = params_exchanged d ws in
    record { list = t ∷ n ∷ o ∷ a.list; is = IsHead.void is_t is_n is_o a.is; same = SameFront.next (SameFront.next (SameFront.next a.same)) }
head_exchanged (IsHead.value {f = f} {n = n} {o = o} d q is_n is_o r) ws =
    let c = params_exchanged r ws in
    let b = stars_exchanged q (n ∷ o ∷ c.list) in
    let a = first_kept (base_exchanged d b.list) (base_shorter d) in
    record { list = f ∷ a.list; is = IsHead.value a.is b.is is_n is_o c.is; same = front_more a.same (front_more b.same (SameFront.next (SameFront.next c.same))) }

pub top_exchanged : {x : Top} {ts us : List Token} → IsTop x ts us → (ws : List Token) → Exchanged (IsTop x) ts us ws
top_exchanged (IsTop.alias {t = t} {s = s} {n = n} {m = m} {e = e} is_t is_s is_n is_m is_e) ws = record { list = t ∷ s ∷ n ∷ m ∷ e ∷ ws; is = IsTop.alias is_t is_s is_n is_m is_e; same = SameFront.next (SameFront.next (SameFront.next (SameFront.next (SameFront.next SameFront.here)))) }
top_exchanged (IsTop.alias_of_body {t = t} {s = s} {m = m} {e = e} is_t is_s d q is_m is_e) ws =
    let b = struct_body_exchanged q (m ∷ e ∷ ws) in
    let a = optional_name_exchanged d b.list in
    record { list = t ∷ s ∷ a.list; is = IsTop.alias_of_body is_t is_s a.is b.is is_m is_e; same = SameFront.next (SameFront.next (front_more a.same (front_more b.same (SameFront.next (SameFront.next SameFront.here))))) }
top_exchanged (IsTop.tag {s = s} {n = n} {e = e} is_s is_n is_e) ws = record { list = s ∷ n ∷ e ∷ ws; is = IsTop.tag is_s is_n is_e; same = SameFront.next (SameFront.next (SameFront.next SameFront.here)) }
top_exchanged (IsTop.tag_of_body {s = s} {n = n} {e = e} is_s is_n d is_e) ws =
    let a = struct_body_exchanged d (e ∷ ws) in
    record { list = s ∷ n ∷ a.list; is = IsTop.tag_of_body is_s is_n a.is is_e; same = SameFront.next (SameFront.next (front_more a.same (SameFront.next SameFront.here))) }
top_exchanged (IsTop.globals {f = f} d q) ws =
    let b = globals_exchanged q ws in
    let a = first_kept (base_exchanged d b.list) (base_shorter d) in
    record { list = f ∷ a.list; is = IsTop.globals a.is b.is; same = front_more a.same b.same }
top_exchanged (IsTop.prototype {e = e} d is) ws =
    let a = head_exchanged d (e ∷ ws) in
    record { list = a.list; is = IsTop.prototype a.is is; same = front_more a.same (SameFront.next SameFront.here) }
top_exchanged (IsTop.function d q) ws =
    let b = block_exchanged q ws in
    let a = head_exchanged d b.list in
    record { list = a.list; is = IsTop.function a.is b.is; same = front_more a.same b.same }
