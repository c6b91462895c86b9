-- Tokens of the same kinds at other places are of expressions, statements and declarations that are equal but for offsets.
use Rattle.std.proofs.Common.{◌≡◌, ℕ, ℤ, pos, negsuc, false, List, [], ◌∷◌, map, Option, Some, None, option_map, refl, ap, sym, ◌∙◌}
use Rattle.c_lexer.specs.declared.token.Token.{Token}
use Rattle.c_tree.specs.declared.expr.Op.{Op}
use Rattle.c_tree.specs.declared.expr.Op.TheVariants as op
use Rattle.c_tree.specs.declared.expr.Oper.{Oper}
use Rattle.c_tree.specs.declared.expr.Sign.{Sign}
use Rattle.c_tree.specs.declared.expr.Sign.TheVariants as sign
use Rattle.c_tree.specs.declared.tree.Arg.{Arg}
use Rattle.c_tree.specs.declared.tree.Base.{Base}
use Rattle.c_tree.specs.declared.tree.Base.TheVariants as base
use Rattle.c_tree.specs.declared.tree.Call.{Call}
use Rattle.c_tree.specs.declared.tree.Call.TheVariants as call
use Rattle.c_tree.specs.declared.tree.Declr.{Declr}
use Rattle.c_tree.specs.declared.tree.Expr.{Expr}
use Rattle.c_tree.specs.declared.tree.Expr.TheVariants as expr
use Rattle.c_tree.specs.declared.tree.ForHead.{ForHead}
use Rattle.c_tree.specs.declared.tree.Free.{Free}
use Rattle.c_tree.specs.declared.tree.Right.{Right}
use Rattle.c_tree.specs.declared.tree.Right.TheVariants as right
use Rattle.c_tree.specs.declared.tree.Simple.{Simple}
use Rattle.c_tree.specs.declared.tree.Size.{Size}
use Rattle.c_tree.specs.declared.tree.Spec.{Spec}
use Rattle.c_tree.specs.declared.tree.Start.{Start}
use Rattle.c_tree.specs.declared.tree.Start.TheVariants as start
use Rattle.c_tree.specs.declared.tree.Unit.{Unit as Counted}
use Rattle.c_tree.specs.declared.tree.Unit.TheVariants as unit
use Rattle.c_tree.specs.declared.tree.Word.{Word}
use Rattle.c_parser.specs.declared.term.Term.{Term}
use Rattle.c_parser.specs.Term.{term_of, same, sees, word}
use Rattle.c_parser.specs.Expressions.{IsLevel, IsTail, IsUnary, IsPost, IsPosts, IsPrim, IsArg, oper_of, arg}
use Rattle.c_parser.specs.Declarators.{IsBase, IsStars, IsOptionalName, IsCast, IsUnit, IsSize, spec}
use Rattle.c_parser.specs.Statements.{IsMoreArgs, IsArgs, IsCall, IsRight, IsPlace, IsSimple, IsDeclr, IsDeclrs, IsDecl, change_of, step_of, simple, one_at}
use Rattle.c_parser.specs.Blocks.{IsFree, IsGap, IsTest, IsForStart, IsForTest, IsForStep, IsForHead}
use Rattle.c_parser.specs.Alike.{moved_word, moved_base, moved_spec, moved_arg, moved_unit, moved_size, moved_call, moved_right, moved_declr, moved_simple, moved_start, moved_for_head, moved_free}
use Rattle.c_parser.proofs.PrintedExpressions.{bare, bare_const, bare_null, bare_var, bare_field, bare_deref, bare_index, bare_unary, bare_binary}
use Rattle.c_parser.proofs.PrintedStatements.{Like, none_at, IsUnitAt, IsMoreArgsAt, IsArgsAt}

-- parts of the same form

deref_alike : (a b : Expr) (at to : ℕ) → bare b ≡ bare a → bare (expr.Deref b to) ≡ bare (expr.Deref a at)
deref_alike a b at to p = bare_deref b to ∙ ap (λ (x : Expr). expr.Deref x 0) p ∙ sym (bare_deref a at)

pub unary_alike : (s : Sign) (a b : Expr) (at to : ℕ) → bare b ≡ bare a → bare (expr.Unary s b to) ≡ bare (expr.Unary s a at)
unary_alike s a b at to p = bare_unary s b to ∙ ap (λ (x : Expr). expr.Unary s x 0) p ∙ sym (bare_unary s a at)

field_alike : (a b : Expr) (text : List ℕ) (n m : Token) (at to : ℕ) → bare b ≡ bare a → bare (expr.Field b (word text m) to) ≡ bare (expr.Field a (word text n) at)
field_alike a b text n m at to p =
    bare_field b (word text m) to ∙ ap (λ (x : Expr). expr.Field x (record { text = text; at = 0 }) 0) p ∙ sym (bare_field a (word text n) at)

index_alike : (a b i j : Expr) (at to : ℕ) → bare b ≡ bare a → bare j ≡ bare i → bare (expr.Index b j to) ≡ bare (expr.Index a i at)
index_alike a b i j at to p q =
    bare_index b j to ∙ ap (λ (x : Expr). expr.Index x (bare j) 0) p ∙ ap (λ (x : Expr). expr.Index (bare a) x 0) q ∙ sym (bare_index a i at)

binary_alike : (o : Oper) (a b i j : Expr) (at to : ℕ) → bare b ≡ bare a → bare j ≡ bare i → bare (expr.Binary o b j to) ≡ bare (expr.Binary o a i at)
binary_alike o a b i j at to p q =
    bare_binary o b j to ∙ ap (λ (x : Expr). expr.Binary o x (bare j) 0) p ∙ ap (λ (x : Expr). expr.Binary o (bare a) x 0) q ∙ sym (bare_binary o a i at)

pub const_alike : (n : ℤ) (at to : ℕ) → bare (expr.Const n to) ≡ bare (expr.Const n at)
const_alike n at to = bare_const n to ∙ sym (bare_const n at)

pub null_alike : (at to : ℕ) → bare (expr.Null to) ≡ bare (expr.Null at)
null_alike at to = bare_null to ∙ sym (bare_null at)

var_alike : (text : List ℕ) (n m : Token) → bare (expr.Var (word text m)) ≡ bare (expr.Var (word text n))
var_alike text n m = bare_var (word text m) ∙ sym (bare_var (word text n))

one_alike : (t u : Token) → moved_right none_at (one_at u) ≡ moved_right none_at (one_at t)
one_alike t u = ap (λ (x : Expr). right.Plain (record { expr = x; at = 0 })) (const_alike (pos 1) t.start u.start)

simple_alike : (o : Op) (e i : Expr) (r s : Right) (p q t u : Token) → bare i ≡ bare e → moved_right none_at s ≡ moved_right none_at r
    → moved_simple none_at (simple i q o s u) ≡ moved_simple none_at (simple e p o r t)
simple_alike o e i r s p q t u a b =
    ap (λ (x : Expr). record { place = record { expr = x; at = 0 }; op = o; right = moved_right none_at s; at = 0 }) a
    ∙ ap (λ (x : Right). record { place = record { expr = bare e; at = 0 }; op = o; right = x; at = 0 }) b

pub spec_alike : (b c : Base) (f g : Token) (stars : ℕ) (text : List ℕ) (n m : Token) → moved_base none_at c ≡ moved_base none_at b
    → moved_spec none_at (spec c g stars (Some (word text m))) ≡ moved_spec none_at (spec b f stars (Some (word text n)))
spec_alike b c f g stars text n m p = ap (λ (x : Base). record { base = x; stars = stars; name = Some (record { text = text; at = 0 }); at = 0 }) p

pub lists_alike : {X : Type 0} (f : X → X) (x y : X) (xs ys : List X) → f y ≡ f x → map f ys ≡ map f xs → map f (y ∷ ys) ≡ map f (x ∷ xs)
lists_alike {X} f x y xs ys p q = ap (λ (z : X). z ∷ map f ys) p ∙ ap (λ (zs : List X). f x ∷ zs) q

declared_starts : (ds : List Declr) → map (moved_start none_at) (map start.Declare ds) ≡ map start.Declare (map (moved_declr none_at) ds)
declared_starts [] = refl
declared_starts (d ∷ ds) = ap (λ (xs : List Start). start.Declare (moved_declr none_at d) ∷ xs) (declared_starts ds)

-- where a token begins and ends, by it and what follows it
module _ (place : List Token → ℕ × ℕ) where
  abbrev pub put : Token → List Token → Token
  put t ts = record { kind = t.kind; start = (place (t ∷ ts)).0; end = (place (t ∷ ts)).1 }

  -- the same kinds at these places
  abbrev pub placed : List Token → List Token
  placed [] = []
  placed (t ∷ ts) = put t ts ∷ placed ts

  pub term_put : (t : Token) (ts : List Token) {x : Term} → term_of t ≡ x → term_of (put t ts) ≡ x
  unfolding term_of
  term_put t ts is = is

  oper_put : (k : ℕ) (t : Token) (ts : List Token) {o : Oper} → oper_of k (term_of t) ≡ Some o → oper_of k (term_of (put t ts)) ≡ Some o
  unfolding term_of
  oper_put k t ts is = is

  change_put : (t : Token) (ts : List Token) {o : Op} → change_of (term_of t) ≡ Some o → change_of (term_of (put t ts)) ≡ Some o
  unfolding term_of
  change_put t ts is = is

  step_put : (t : Token) (ts : List Token) {o : Op} → step_of (term_of t) ≡ Some o → step_of (term_of (put t ts)) ≡ Some o
  unfolding term_of
  step_put t ts is = is

  pub same_put : (x : Term) (t : Token) (ts : List Token) → same x (term_of t) ≡ false → same x (term_of (put t ts)) ≡ false
  unfolding term_of
  same_put x t ts is = is

  pub sees_placed : (x : Term) (ts : List Token) → sees x ts ≡ false → sees x (placed ts) ≡ false
  sees_placed x [] is = is
  sees_placed x (t ∷ ts) is = same_put x t ts is

  mutual
    level_retold : {k : ℕ} {e : Expr} {ts us : List Token} → IsLevel k e ts us → Like (IsLevel k) bare e (placed ts) (placed us)
    level_retold (IsLevel.operand d) = let a = unary_retold d in record { other = a.other; alike = a.alike; is = IsLevel.operand a.is }
    level_retold (IsLevel.level d q) =
        let a = level_retold d in
        let b = tail_retold q a.other a.alike in
        record { other = b.other; alike = b.alike; is = IsLevel.level a.is b.is }

    tail_retold : {k : ℕ} {a e : Expr} {ts us : List Token} → IsTail k a e ts us → (before : Expr) → bare before ≡ bare a → Like (IsTail k before) bare e (placed ts) (placed us)
    tail_retold IsTail.done before alike = record { other = before; alike = alike; is = IsTail.done }
    tail_retold (IsTail.more {k = k} {o = o} {a = a} {b = b} {t = t} {ts = ts} is d q) before alike =
        let c = level_retold d in
        let all = tail_retold q (expr.Binary o before c.other (put t ts).start) (binary_alike o a before b c.other t.start (put t ts).start alike c.alike) in
        record { other = all.other; alike = all.alike; is = IsTail.more (oper_put k t ts is) c.is all.is }

    unary_retold : {e : Expr} {ts us : List Token} → IsUnary e ts us → Like IsUnary bare e (placed ts) (placed us)
    unary_retold (IsUnary.plain d) = let a = post_retold d in record { other = a.other; alike = a.alike; is = IsUnary.plain a.is }
    unary_retold (IsUnary.minus {t = t} {e = e} {ts = ts} is d) =
        let a = unary_retold d in
        record { other = expr.Unary sign.Minus a.other (put t ts).start; alike = unary_alike sign.Minus e a.other t.start (put t ts).start a.alike; is = IsUnary.minus (term_put t ts is) a.is }
    unary_retold (IsUnary.not {t = t} {e = e} {ts = ts} is d) =
        let a = unary_retold d in
        record { other = expr.Unary sign.Not a.other (put t ts).start; alike = unary_alike sign.Not e a.other t.start (put t ts).start a.alike; is = IsUnary.not (term_put t ts is) a.is }
    unary_retold (IsUnary.deref {t = t} {e = e} {ts = ts} is d) =
        let a = unary_retold d in
        record { other = expr.Deref a.other (put t ts).start; alike = deref_alike e a.other t.start (put t ts).start a.alike; is = IsUnary.deref (term_put t ts is) a.is }

    post_retold : {e : Expr} {ts us : List Token} → IsPost e ts us → Like IsPost bare e (placed ts) (placed us)
    post_retold (IsPost.post d q) =
        let a = prim_retold d in
        let b = posts_retold q a.other a.alike in
        record { other = b.other; alike = b.alike; is = IsPost.post a.is b.is }

    posts_retold : {a e : Expr} {ts us : List Token} → IsPosts a e ts us → (before : Expr) → bare before ≡ bare a → Like (IsPosts before) bare e (placed ts) (placed us)
    posts_retold IsPosts.end before alike = record { other = before; alike = alike; is = IsPosts.end }
    posts_retold (IsPosts.field {a = a} {t = t} {n = n} {text = text} {ts = ts} is name d) before alike =
        let at = (put t (n ∷ ts)).start in
        let all = posts_retold d (expr.Field before (word text (put n ts)) at) (field_alike a before text n (put n ts) t.start at alike) in
        record { other = all.other; alike = all.alike; is = IsPosts.field (term_put t (n ∷ ts) is) name all.is }
    posts_retold (IsPosts.index {a = a} {i = i} {t = t} {c = c} {ts = ts} {us = us} is d close q) before alike =
        let j = level_retold d in
        let all = posts_retold q (expr.Index before j.other (put t ts).start) (index_alike a before i j.other t.start (put t ts).start alike j.alike) in
        record { other = all.other; alike = all.alike; is = IsPosts.index (term_put t ts is) j.is (term_put c us close) all.is }

    prim_retold : {e : Expr} {ts us : List Token} → IsPrim e ts us → Like IsPrim bare e (placed ts) (placed us)
    prim_retold (IsPrim.number {t = t} {value = n} {ts = ts} is) = record { other = expr.Const n (put t ts).start; alike = const_alike n t.start (put t ts).start; is = IsPrim.number is }
    prim_retold (IsPrim.null {t = t} {ts = ts} is) = record { other = expr.Null (put t ts).start; alike = null_alike t.start (put t ts).start; is = IsPrim.null (term_put t ts is) }
    prim_retold (IsPrim.eof {t = t} {ts = ts} is) =
        record { other = expr.Const (negsuc 0) (put t ts).start; alike = const_alike (negsuc 0) t.start (put t ts).start; is = IsPrim.eof (term_put t ts is) }
    prim_retold (IsPrim.variable {t = t} {text = text} {ts = ts} is) = record { other = expr.Var (word text (put t ts)); alike = var_alike text t (put t ts); is = IsPrim.variable is }
    prim_retold (IsPrim.group {o = o} {c = c} {ts = ts} {us = us} opens d close) =
        let a = level_retold d in
        record { other = a.other; alike = a.alike; is = IsPrim.group (term_put o ts opens) a.is (term_put c us close) }

  arg_retold : {a : Arg} {ts us : List Token} → IsArg a ts us → Like IsArg (moved_arg none_at) a (placed ts) (placed us)
  arg_retold (IsArg.argument {t = t} {ts = ts} d) =
      let a = level_retold d in
      record { other = arg a.other (put t ts); alike = ap (λ (x : Expr). record { expr = x; at = 0 }) a.alike; is = IsArg.argument a.is }

  -- types

  pub base_retold : {b : Base} {ts us : List Token} → IsBase b ts us → Like IsBase (moved_base none_at) b (placed ts) (placed us)
  base_retold (IsBase.int {t = t} {ts = ts} is) = record { other = base.Int; alike = refl; is = IsBase.int (term_put t ts is) }
  base_retold (IsBase.tag {t = t} {n = n} {text = text} {ts = ts} is name) = record { other = base.Tag (word text (put n ts)); alike = refl; is = IsBase.tag (term_put t (n ∷ ts) is) name }
  base_retold (IsBase.alias {t = t} {text = text} {ts = ts} name) = record { other = base.Alias (word text (put t ts)); alike = refl; is = IsBase.alias name }

  pub stars_retold : {n : ℕ} {ts us : List Token} → IsStars n ts us → IsStars n (placed ts) (placed us)
  stars_retold IsStars.none = IsStars.none
  stars_retold (IsStars.star {t = t} {ts = ts} is) = IsStars.star (term_put t ts is)

  pub optional_name_retold : {w : Option Word} {ts us : List Token} → IsOptionalName w ts us → Like IsOptionalName (option_map (moved_word none_at)) w (placed ts) (placed us)
  optional_name_retold IsOptionalName.none = record { other = None; alike = refl; is = IsOptionalName.none }
  optional_name_retold (IsOptionalName.named {n = n} {text = text} {ts = ts} name) = record { other = Some (word text (put n ts)); alike = refl; is = IsOptionalName.named name }

  cast_retold : {c : Option Spec} {ts us : List Token} → IsCast c ts us → Like IsCast (option_map (moved_spec none_at)) c (placed ts) (placed us)
  cast_retold IsCast.none = record { other = None; alike = refl; is = IsCast.none }
  cast_retold (IsCast.cast {o = o} {t = t} {s = s} {c = c} {ts = ts} {us = us} opens d star close) =
      let b = base_retold d in
      record {
        other = Some (spec b.other (put t ts) 1 None);
        alike = ap (λ (x : Base). Some (record { base = x; stars = 1; name = None; at = 0 })) b.alike;
        is = IsCast.cast (term_put o (t ∷ ts) opens) b.is (term_put s (c ∷ us) star) (term_put c us close);
      }

  unit_retold : {u : Counted} {at : ℕ} {ts us : List Token} → IsUnit u at ts us → Like IsUnitAt (moved_unit none_at) u (placed ts) (placed us)
  unit_retold (IsUnit.of_type {z = z} {o = o} {t = t} {c = c} {ts = ts} {us = us} is opens d close) =
      let b = base_retold d in
      record {
        other = unit.Of (spec b.other (put t ts) 0 None);
        alike = ap (λ (x : Base). unit.Of (record { base = x; stars = 0; name = None; at = 0 })) b.alike;
        is = ((put z (o ∷ t ∷ ts)).start, IsUnit.of_type (term_put z (o ∷ t ∷ ts) is) (term_put o (t ∷ ts) opens) b.is (term_put c us close));
      }
  unit_retold (IsUnit.of_star_within {z = z} {o = o} {s = s} {n = n} {c = c} {text = text} {ts = ts} is opens star name close) = record {
    other = unit.Star (word text (put n (c ∷ ts)));
    alike = refl;
    is = (
      (put z (o ∷ s ∷ n ∷ c ∷ ts)).start,
      IsUnit.of_star_within (term_put z (o ∷ s ∷ n ∷ c ∷ ts) is) (term_put o (s ∷ n ∷ c ∷ ts) opens) (term_put s (n ∷ c ∷ ts) star) name (term_put c ts close),
    );
  }
  unit_retold (IsUnit.of_star {z = z} {s = s} {n = n} {text = text} {ts = ts} is star name) = record {
    other = unit.Star (word text (put n ts));
    alike = refl;
    is = ((put z (s ∷ n ∷ ts)).start, IsUnit.of_star (term_put z (s ∷ n ∷ ts) is) (term_put s (n ∷ ts) star) name);
  }

  size_retold : {z : Size} {ts us : List Token} → IsSize z ts us → Like IsSize (moved_size none_at) z (placed ts) (placed us)
  size_retold (IsSize.one d) =
      let u = unit_retold d in
      record { other = record { unit = u.other; count = None; at = u.is.0 }; alike = ap (λ (x : Counted). record { unit = x; count = None; at = 0 }) u.alike; is = IsSize.one u.is.1 }
  size_retold (IsSize.count_before {u = unit} {t = t} {us = us} d star q) =
      let e = level_retold d in
      let u = unit_retold q in
      record {
        other = record { unit = u.other; count = Some e.other; at = u.is.0 };
        alike = ap (λ (x : Counted). record { unit = x; count = Some (bare e.other); at = 0 }) u.alike ∙ ap (λ (x : Expr). record { unit = moved_unit none_at unit; count = Some x; at = 0 }) e.alike;
        is = IsSize.count_before e.is (term_put t us star) u.is.1;
      }
  size_retold (IsSize.count_behind {u = unit} {t = t} {us = us} d star q) =
      let u = unit_retold d in
      let e = unary_retold q in
      record {
        other = record { unit = u.other; count = Some e.other; at = u.is.0 };
        alike = ap (λ (x : Counted). record { unit = x; count = Some (bare e.other); at = 0 }) u.alike ∙ ap (λ (x : Expr). record { unit = moved_unit none_at unit; count = Some x; at = 0 }) e.alike;
        is = IsSize.count_behind u.is.1 (term_put t us star) e.is;
      }

  -- calls and assignments

  more_args_retold : {args : List Arg} {at : ℕ} {ts us : List Token} → IsMoreArgs args at ts us → Like IsMoreArgsAt (map (moved_arg none_at)) args (placed ts) (placed us)
  more_args_retold (IsMoreArgs.close {t = t} {ts = ts} is) = record { other = []; alike = refl; is = ((put t ts).start, IsMoreArgs.close (term_put t ts is)) }
  more_args_retold (IsMoreArgs.comma {t = t} {a = x} {others = xs} {ts = ts} is d q) =
      let a = arg_retold d in
      let others = more_args_retold q in
      record { other = a.other ∷ others.other; alike = lists_alike (moved_arg none_at) x a.other xs others.other a.alike others.alike; is = (others.is.0, IsMoreArgs.comma (term_put t ts is) a.is others.is.1) }

  args_retold : {args : List Arg} {at : ℕ} {ts us : List Token} → IsArgs args at ts us → Like IsArgsAt (map (moved_arg none_at)) args (placed ts) (placed us)
  args_retold (IsArgs.none {t = t} {ts = ts} is) = record { other = []; alike = refl; is = ((put t ts).start, IsArgs.none (term_put t ts is)) }
  args_retold (IsArgs.some {a = x} {others = xs} d q) =
      let a = arg_retold d in
      let others = more_args_retold q in
      record { other = a.other ∷ others.other; alike = lists_alike (moved_arg none_at) x a.other xs others.other a.alike others.alike; is = (others.is.0, IsArgs.some a.is others.is.1) }

  pub call_retold : {c : Call} {ts us : List Token} → IsCall c ts us → Like IsCall (moved_call none_at) c (placed ts) (placed us)
  call_retold (IsCall.user {n = n} {o = o} {text = text} {ts = ts} name opens d) =
      let args = args_retold d in
      record {
        other = call.User (word text (put n (o ∷ ts))) args.other args.is.0;
        alike = ap (λ (xs : List Arg). call.User (record { text = text; at = 0 }) xs 0) args.alike;
        is = IsCall.user name (term_put o ts opens) args.is.1;
      }
  call_retold (IsCall.getchar {t = t} {o = o} {c = c} {ts = ts} is opens close) =
      record { other = call.Getchar (put t (o ∷ c ∷ ts)).start; alike = refl; is = IsCall.getchar (term_put t (o ∷ c ∷ ts) is) (term_put o (c ∷ ts) opens) (term_put c ts close) }
  call_retold (IsCall.putchar {t = t} {o = o} {c = c} {ts = ts} {us = us} is opens d close) =
      let a = arg_retold d in
      record {
        other = call.Putchar a.other (put t (o ∷ ts)).start;
        alike = ap (λ (x : Arg). call.Putchar x 0) a.alike;
        is = IsCall.putchar (term_put t (o ∷ ts) is) (term_put o ts opens) a.is (term_put c us close);
      }
  call_retold (IsCall.printf {t = t} {o = o} {x = x} {text = text} {ts = ts} is opens said d) =
      let args = more_args_retold d in
      record {
        other = call.Printf text (put x ts).start args.other (put t (o ∷ x ∷ ts)).start args.is.0;
        alike = ap (λ (xs : List Arg). call.Printf text 0 xs 0 0) args.alike;
        is = IsCall.printf (term_put t (o ∷ x ∷ ts) is) (term_put o (x ∷ ts) opens) said args.is.1;
      }
  call_retold (IsCall.malloc {cast = cast} {t = t} {o = o} {c = c} {us = us} {vs = vs} d is opens q close) =
      let k = cast_retold d in
      let z = size_retold q in
      record {
        other = call.Malloc k.other z.other (put t (o ∷ us)).start;
        alike = ap (λ (x : Option Spec). call.Malloc x (moved_size none_at z.other) 0) k.alike ∙ ap (λ (x : Size). call.Malloc (option_map (moved_spec none_at) cast) x 0) z.alike;
        is = IsCall.malloc k.is (term_put t (o ∷ us) is) (term_put o us opens) z.is (term_put c vs close);
      }

  pub right_retold : {r : Right} {ts us : List Token} → IsRight r ts us → Like IsRight (moved_right none_at) r (placed ts) (placed us)
  right_retold (IsRight.plain d) = let a = arg_retold d in record { other = right.Plain a.other; alike = ap (λ (x : Arg). right.Plain x) a.alike; is = IsRight.plain a.is }
  right_retold (IsRight.called d) = let c = call_retold d in record { other = right.Call c.other; alike = ap (λ (x : Call). right.Call x) c.alike; is = IsRight.called c.is }

  place_retold : {e : Expr} {ts us : List Token} → IsPlace e ts us → Like IsPlace bare e (placed ts) (placed us)
  place_retold (IsPlace.post d) = let a = post_retold d in record { other = a.other; alike = a.alike; is = IsPlace.post a.is }
  place_retold (IsPlace.deref {t = t} {e = e} {ts = ts} is d) =
      let a = unary_retold d in
      record { other = expr.Deref a.other (put t ts).start; alike = deref_alike e a.other t.start (put t ts).start a.alike; is = IsPlace.deref (term_put t ts is) a.is }

  pub simple_retold : {s : Simple} {ts us : List Token} → IsSimple s ts us → Like IsSimple (moved_simple none_at) s (placed ts) (placed us)
  simple_retold (IsSimple.put {e = e} {r = r} {p = p} {t = t} {ts = ts} {us = us} d is q) =
      let x = place_retold d in
      let y = right_retold q in
      record {
        other = simple x.other (put p ts) op.Put y.other (put t us);
        alike = simple_alike op.Put e x.other r y.other p (put p ts) t (put t us) x.alike y.alike;
        is = IsSimple.put x.is (term_put t us is) y.is;
      }
  simple_retold (IsSimple.change {e = e} {a = a} {o = o} {p = p} {t = t} {ts = ts} {us = us} d is q) =
      let x = place_retold d in
      let y = arg_retold q in
      record {
        other = simple x.other (put p ts) o (right.Plain y.other) (put t us);
        alike = simple_alike o e x.other (right.Plain a) (right.Plain y.other) p (put p ts) t (put t us) x.alike (ap (λ (z : Arg). right.Plain z) y.alike);
        is = IsSimple.change x.is (change_put t us is) y.is;
      }
  simple_retold (IsSimple.step_behind {e = e} {o = o} {p = p} {t = t} {ts = ts} {us = us} d is) =
      let x = post_retold d in
      record {
        other = simple x.other (put p ts) o (one_at (put t us)) (put t us);
        alike = simple_alike o e x.other (one_at t) (one_at (put t us)) p (put p ts) t (put t us) x.alike (one_alike t (put t us));
        is = IsSimple.step_behind x.is (step_put t us is);
      }
  simple_retold (IsSimple.step_before {e = e} {o = o} {p = p} {t = t} {ts = ts} is d) =
      let x = unary_retold d in
      record {
        other = simple x.other (put p ts) o (one_at (put t (p ∷ ts))) (put t (p ∷ ts));
        alike = simple_alike o e x.other (one_at t) (one_at (put t (p ∷ ts))) p (put p ts) t (put t (p ∷ ts)) x.alike (one_alike t (put t (p ∷ ts)));
        is = IsSimple.step_before (step_put t (p ∷ ts) is) x.is;
      }

  -- declarations

  declr_retold : {b : Base} {f : Token} {d : Declr} {ts us : List Token} → IsDeclr b f d ts us → (c : Base) → moved_base none_at c ≡ moved_base none_at b → (g : Token)
      → Like (IsDeclr c g) (moved_declr none_at) d (placed ts) (placed us)
  declr_retold {b = b} {f = f} (IsDeclr.bare {n = n} {stars = stars} {text = text} {us = us} d name) c alike g = record {
    other = record { spec = spec c g stars (Some (word text (put n us))); right = None; at = (put n us).start };
    alike = ap (λ (x : Spec). record { spec = x; right = None; at = 0 }) (spec_alike b c f g stars text n (put n us) alike);
    is = IsDeclr.bare (stars_retold d) name;
  }
  declr_retold {b = b} {f = f} (IsDeclr.given {n = n} {t = t} {stars = stars} {text = text} {us = us} d name is q) c alike g =
      let r = right_retold q in
      record {
        other = record { spec = spec c g stars (Some (word text (put n (t ∷ us)))); right = Some r.other; at = (put t us).start };
        alike = ap (λ (x : Spec). record { spec = x; right = Some (moved_right none_at r.other); at = 0 }) (spec_alike b c f g stars text n (put n (t ∷ us)) alike)
            ∙ ap (λ (x : Right). record { spec = moved_spec none_at (spec b f stars (Some (word text n))); right = Some x; at = 0 }) r.alike;
        is = IsDeclr.given (stars_retold d) name (term_put t us is) r.is;
      }

  declrs_retold : {b : Base} {f : Token} {ds : List Declr} {ts us : List Token} → IsDeclrs b f ds ts us → (c : Base) → moved_base none_at c ≡ moved_base none_at b → (g : Token)
      → Like (IsDeclrs c g) (map (moved_declr none_at)) ds (placed ts) (placed us)
  declrs_retold (IsDeclrs.last {d = d} p) c alike g =
      let x = declr_retold p c alike g in
      record { other = x.other ∷ []; alike = lists_alike (moved_declr none_at) d x.other [] [] x.alike refl; is = IsDeclrs.last x.is }
  declrs_retold (IsDeclrs.more {d = d} {others = ds} {t = t} {us = us} p is q) c alike g =
      let x = declr_retold p c alike g in
      let others = declrs_retold q c alike g in
      record { other = x.other ∷ others.other; alike = lists_alike (moved_declr none_at) d x.other ds others.other x.alike others.alike; is = IsDeclrs.more x.is (term_put t us is) others.is }

  pub decl_retold : {ds : List Declr} {ts us : List Token} → IsDecl ds ts us → Like IsDecl (map (moved_declr none_at)) ds (placed ts) (placed us)
  decl_retold (IsDecl.decl {f = f} {ts = ts} d q) =
      let b = base_retold d in
      let all = declrs_retold q b.other b.alike (put f ts) in
      record { other = all.other; alike = all.alike; is = IsDecl.decl b.is all.is }

  -- frees, tests and what stands before the body of a `for`

  pub free_retold : {f : Free} {ts us : List Token} → IsFree f ts us → Like IsFree (moved_free none_at) f (placed ts) (placed us)
  free_retold (IsFree.free {t = t} {o = o} {c = c} {s = s} {ts = ts} {us = us} is opens d close end) =
      let a = arg_retold d in
      record {
        other = record { expr = a.other; start = (put t (o ∷ ts)).start; end = (put s us).end };
        alike = ap (λ (x : Arg). record { expr = x; start = 0; end = 0 }) a.alike;
        is = IsFree.free (term_put t (o ∷ ts) is) (term_put o ts opens) a.is (term_put c (s ∷ us) close) (term_put s us end);
      }

  pub gap_retold : {frees : List Free} {ts us : List Token} → IsGap frees ts us → Like IsGap (map (moved_free none_at)) frees (placed ts) (placed us)
  gap_retold IsGap.done = record { other = []; alike = refl; is = IsGap.done }
  gap_retold (IsGap.empty {t = t} {ts = ts} is d) = let a = gap_retold d in record { other = a.other; alike = a.alike; is = IsGap.empty (term_put t ts is) a.is }
  gap_retold (IsGap.free {f = f} {frees = frees} d q) =
      let x = free_retold d in
      let others = gap_retold q in
      record { other = x.other ∷ others.other; alike = lists_alike (moved_free none_at) f x.other frees others.other x.alike others.alike; is = IsGap.free x.is others.is }

  pub test_retold : {e : Expr} {ts us : List Token} → IsTest e ts us → Like IsTest bare e (placed ts) (placed us)
  test_retold (IsTest.test {o = o} {c = c} {ts = ts} {us = us} opens d close) =
      let a = level_retold d in
      record { other = a.other; alike = a.alike; is = IsTest.test (term_put o ts opens) a.is (term_put c us close) }

  for_start_retold : {starts : List Start} {ts us : List Token} → IsForStart starts ts us → Like IsForStart (map (moved_start none_at)) starts (placed ts) (placed us)
  for_start_retold (IsForStart.none {t = t} {ts = ts} is) = record { other = []; alike = refl; is = IsForStart.none (term_put t ts is) }
  for_start_retold (IsForStart.declare {declrs = ds} {t = t} {us = us} d is) =
      let a = decl_retold d in
      record {
        other = map start.Declare a.other;
        alike = declared_starts a.other ∙ ap (λ (xs : List Declr). map start.Declare xs) a.alike ∙ sym (declared_starts ds);
        is = IsForStart.declare a.is (term_put t us is);
      }
  for_start_retold (IsForStart.assign {t = t} {us = us} d is) =
      let a = simple_retold d in
      record { other = start.Assign a.other ∷ []; alike = ap (λ (x : Simple). start.Assign x ∷ []) a.alike; is = IsForStart.assign a.is (term_put t us is) }

  for_test_retold : {test : Option Expr} {ts us : List Token} → IsForTest test ts us → Like IsForTest (option_map bare) test (placed ts) (placed us)
  for_test_retold (IsForTest.none {t = t} {ts = ts} is) = record { other = None; alike = refl; is = IsForTest.none (term_put t ts is) }
  for_test_retold (IsForTest.test {t = t} {us = us} d is) =
      let a = level_retold d in
      record { other = Some a.other; alike = ap (λ (x : Expr). Some x) a.alike; is = IsForTest.test a.is (term_put t us is) }

  for_step_retold : {step : Option Simple} {ts us : List Token} → IsForStep step ts us → Like IsForStep (option_map (moved_simple none_at)) step (placed ts) (placed us)
  for_step_retold (IsForStep.none {t = t} {ts = ts} is) = record { other = None; alike = refl; is = IsForStep.none (term_put t ts is) }
  for_step_retold (IsForStep.step {t = t} {us = us} d is) =
      let a = simple_retold d in
      record { other = Some a.other; alike = ap (λ (x : Simple). Some x) a.alike; is = IsForStep.step a.is (term_put t us is) }

  pub for_head_retold : {h : ForHead} {ts us : List Token} → IsForHead h ts us → Like IsForHead (moved_for_head none_at) h (placed ts) (placed us)
  for_head_retold (IsForHead.head {o = o} {starts = starts} {test = test} {ts = ts} is d q r) =
      let a = for_start_retold d in
      let b = for_test_retold q in
      let c = for_step_retold r in
      record {
        other = record { start = a.other; test = b.other; step = c.other };
        alike = ap (λ (x : List Start). record { start = x; test = option_map bare b.other; step = option_map (moved_simple none_at) c.other }) a.alike
            ∙ ap (λ (x : Option Expr). record { start = map (moved_start none_at) starts; test = x; step = option_map (moved_simple none_at) c.other }) b.alike
            ∙ ap (λ (x : Option Simple). record { start = map (moved_start none_at) starts; test = option_map bare test; step = x }) c.alike;
        is = IsForHead.head (term_put o ts is) a.is b.is c.is;
      }
