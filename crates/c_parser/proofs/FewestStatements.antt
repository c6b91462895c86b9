-- What is printed of a call, an assignment or a declaration opens the fewest parentheses.
use Rattle.std.proofs.Common.{◌≡◌, ℕ, zero, suc, ◌+◌, ◌≤◌, pos, Bool, true, false, List, [], ◌∷◌, ◌++◌, codes, Option, Some, None, refl, ap, sym, subst, arith}
use Rattle.c_lexer.specs.declared.token.Token.{Token}
use Rattle.c_lexer.specs.declared.token.Kind.{Kind}
use Rattle.c_lexer.specs.declared.token.Kind.TheVariants as kind
use Rattle.c_tree.specs.declared.expr.Op.{Op}
use Rattle.c_tree.specs.declared.expr.Op.TheVariants as op
use Rattle.c_tree.specs.declared.tree.Arg.{Arg}
use Rattle.c_tree.specs.declared.tree.Base.{Base}
use Rattle.c_tree.specs.declared.tree.Base.TheVariants as base
use Rattle.c_tree.specs.declared.tree.Call.{Call}
use Rattle.c_tree.specs.declared.tree.Call.TheVariants as call
use Rattle.c_tree.specs.declared.tree.Declr.{Declr}
use Rattle.c_tree.specs.declared.tree.Expr.{Expr, Expr-F, out-Expr}
use Rattle.c_tree.specs.declared.tree.Expr.TheVariants as expr
use Rattle.c_tree.specs.declared.tree.Expr.TheOpen.{Const, Null, Var, Field, Deref, Index, Unary, Binary}
use Rattle.c_tree.specs.declared.tree.Right.{Right}
use Rattle.c_tree.specs.declared.tree.Right.TheVariants as right
use Rattle.c_tree.specs.declared.tree.Simple.{Simple}
use Rattle.c_tree.specs.declared.tree.Size.{Size}
use Rattle.c_tree.specs.declared.tree.Spec.{Spec}
use Rattle.c_tree.specs.declared.tree.Unit.{Unit as Counted}
use Rattle.c_tree.specs.declared.tree.Unit.TheVariants as unit
use Rattle.c_tree.specs.declared.tree.Word.{Word}
use Rattle.c_parser.specs.declared.term.Term.{Term}
use Rattle.c_parser.specs.declared.term.Term.TheVariants as term
use Rattle.c_parser.specs.Term.{term_of, same, word}
use Rattle.c_parser.specs.Expressions.{IsUnary}
use Rattle.c_parser.specs.Declarators.{IsBase, IsStars, IsOptionalName, IsCast, IsUnit, IsSize, spec}
use Rattle.c_parser.specs.Statements.{IsMoreArgs, IsArgs, IsCall, IsRight, IsPlace, IsSimple, IsDeclr, IsDeclrs, IsDecl, step_of, simple, one_at}
use Rattle.c_parser.specs.Printed.{key, mark, within, each, maybe, printed_expr, printed_arg, printed_base, printed_stars, printed_word, printed_starred, printed_spec, printed_unit, printed_count, printed_size, behind_comma, printed_args, printed_cast, printed_call, printed_right, op_kind, is_one, by_one, step_kind, place_room, printed_by, printed_simple, printed_given, printed_declr, next_declr, printed_decl}
use Rattle.c_parser.proofs.Spelled.{opens, opens_both, opens_within, tally, tally_behind, tally_open}
use Rattle.c_parser.proofs.FewestExpressions.{expr_roomy, level_fewest, unary_fewest, post_fewest, arg_fewest}
use Rattle.c_parser.proofs.PrintedStatements.{printed_declrs}

-- types open none

opens_base : (b : Base) → opens (printed_base b) ≡ 0
unfolding same
opens_base base.Void = refl
opens_base base.Int = refl
opens_base (base.Tag w) = refl
opens_base (base.Alias w) = refl

opens_stars : (n : ℕ) → opens (printed_stars n) ≡ 0
unfolding same
opens_stars zero = refl
opens_stars (suc n) = opens_stars n

opens_name : (w : Option Word) → opens (maybe printed_word w) ≡ 0
unfolding same
opens_name None = refl
opens_name (Some w) = refl

pub opens_starred : (s : Spec) → opens (printed_starred s) ≡ 0
opens_starred s =
    let both = opens_both (printed_stars s.stars) (maybe printed_word s.name) in
    let stars = opens_stars s.stars in
    let name = opens_name s.name in
    omega (arith, both, stars, name)

pub opens_spec : (s : Spec) → opens (printed_spec s) ≡ 0
opens_spec s =
    let both = opens_both (printed_base s.base) (printed_starred s) in
    let base = opens_base s.base in
    let starred = opens_starred s in
    omega (arith, both, base, starred)

pub opens_behind_base : (b : Base) (ks : List Kind) → opens (printed_base b ++ ks) ≡ opens ks
opens_behind_base b ks = let both = opens_both (printed_base b) ks in let base = opens_base b in omega (arith, both, base)

pub base_fewest : {b : Base} {ts us : List Token} → IsBase b ts us → tally us ≤ tally ts
base_fewest (IsBase.int {t = t} {ts = ts} is) = tally_behind t ts
base_fewest (IsBase.tag {t = t} {n = n} {ts = ts} is name) = let a = tally_behind n ts in let b = tally_behind t (n ∷ ts) in omega (arith, a, b)
base_fewest (IsBase.alias {t = t} {ts = ts} name) = tally_behind t ts

pub stars_fewest : {stars : ℕ} {ts us : List Token} → IsStars stars ts us → tally us ≤ tally ts
stars_fewest IsStars.none = omega arith
stars_fewest (IsStars.star {t = t} {ts = ts} is) = tally_behind t ts

pub name_fewest : {name : Option Word} {ts us : List Token} → IsOptionalName name ts us → tally us ≤ tally ts
name_fewest IsOptionalName.none = omega arith
name_fewest (IsOptionalName.named {n = n} {ts = ts} is) = tally_behind n ts

opens_cast : (s : Spec) → opens (printed_cast s) ≡ 1
opens_cast s = let one = opens_within (printed_spec s) in let none = opens_spec s in omega (arith, one, none)

cast_fewest : {c : Option Spec} {ts us : List Token} → IsCast c ts us → opens (maybe printed_cast c) + tally us ≤ tally ts
cast_fewest IsCast.none = omega arith
cast_fewest (IsCast.cast {o = o} {t = t} {s = s} {c = c} {b = b} {ts = ts} {us = us} is p star close) =
    let one = opens_cast (spec b t 1 None) in
    let here = base_fewest p in
    let first = tally_behind t ts in
    let bracket = tally_open o (t ∷ ts) is in
    let end = tally_behind c us in
    let times = tally_behind s (c ∷ us) in
    omega (arith, one, here, first, bracket, end, times)

opens_of : (s : Spec) → opens (printed_unit (unit.Of s)) ≡ 1
unfolding same
opens_of s = opens_cast s

opens_star : (w : Word) → opens (printed_unit (unit.Star w)) ≡ 0
unfolding same
opens_star w = refl

unit_fewest : {u : Counted} {at : ℕ} {ts us : List Token} → IsUnit u at ts us → opens (printed_unit u) + tally us ≤ tally ts
unit_fewest (IsUnit.of_type {z = z} {o = o} {t = t} {c = c} {b = b} {ts = ts} {us = us} is opening p close) =
    let one = opens_of (spec b t 0 None) in
    let here = base_fewest p in
    let bracket = tally_open o (t ∷ ts) opening in
    let first = tally_behind z (o ∷ t ∷ ts) in
    let end = tally_behind c us in
    omega (arith, one, here, bracket, first, end)
unit_fewest (IsUnit.of_star_within {z = z} {o = o} {s = s} {n = n} {c = c} {text = text} {ts = ts} is opening star name close) =
    let none = opens_star (word text n) in
    let a = tally_behind c ts in
    let b = tally_behind n (c ∷ ts) in
    let d = tally_behind s (n ∷ c ∷ ts) in
    let e = tally_behind o (s ∷ n ∷ c ∷ ts) in
    let f = tally_behind z (o ∷ s ∷ n ∷ c ∷ ts) in
    omega (arith, none, a, b, d, e, f)
unit_fewest (IsUnit.of_star {z = z} {s = s} {n = n} {text = text} {ts = ts} is star name) =
    let none = opens_star (word text n) in
    let b = tally_behind n ts in
    let d = tally_behind s (n ∷ ts) in
    let e = tally_behind z (s ∷ n ∷ ts) in
    omega (arith, none, b, d, e)

opens_star_behind : (ks : List Kind) → opens (ks ++ mark (codes "*") ∷ []) ≡ opens ks + 0
unfolding same
opens_star_behind ks = opens_both ks (mark (codes "*") ∷ [])

opens_size : (u : Counted) (e : Expr) (at : ℕ) → opens (printed_size (record { unit = u; count = Some e; at = at })) ≡ opens (printed_expr 2 e) + opens (printed_unit u)
opens_size u e at =
    let both = opens_both (printed_count e) (printed_unit u) in
    let count = opens_star_behind (printed_expr 2 e) in
    omega (arith, both, count)

size_fewest : {z : Size} {ts us : List Token} → IsSize z ts us → opens (printed_size z) + tally us ≤ tally ts
size_fewest (IsSize.one p) = unit_fewest p
size_fewest (IsSize.count_before {u = u} {e = e} {at = at} {t = t} {us = us} q is p) =
    let all = opens_size u e at in
    let count = level_fewest q in
    let token = tally_behind t us in
    let here = unit_fewest p in
    omega (arith, all, count, token, here)
size_fewest (IsSize.count_behind {u = u} {e = e} {at = at} {t = t} {us = us} p is q) =
    let all = opens_size u e at in
    let count = unary_fewest q in
    let room = (expr_roomy e 1 2 (omega arith)).0 in
    let token = tally_behind t us in
    let here = unit_fewest p in
    omega (arith, all, count, room, token, here)

-- calls

opens_comma : (ks : List Kind) → opens (mark (codes ",") ∷ ks) ≡ opens ks
unfolding same
opens_comma ks = refl

more_args_fewest : {args : List Arg} {at : ℕ} {ts us : List Token} → IsMoreArgs args at ts us → opens (each behind_comma args) + tally us ≤ tally ts
more_args_fewest (IsMoreArgs.close {t = t} {ts = ts} is) = let token = tally_behind t ts in omega (arith, token)
more_args_fewest (IsMoreArgs.comma {t = t} {a = a} {others = others} {ts = ts} is p r) =
    let both = opens_both (behind_comma a) (each behind_comma others) in
    let comma = opens_comma (printed_arg a) in
    let here = arg_fewest p in
    let rest = more_args_fewest r in
    let token = tally_behind t ts in
    omega (arith, both, comma, here, rest, token)

args_fewest : {args : List Arg} {at : ℕ} {ts us : List Token} → IsArgs args at ts us → opens (printed_args args) + tally us ≤ tally ts
args_fewest (IsArgs.none {t = t} {ts = ts} is) = let token = tally_behind t ts in omega (arith, token)
args_fewest (IsArgs.some {a = a} {others = others} p r) =
    let both = opens_both (printed_arg a) (each behind_comma others) in
    let here = arg_fewest p in
    let rest = more_args_fewest r in
    omega (arith, both, here, rest)

opens_user : (w : Word) (args : List Arg) (at : ℕ) → opens (printed_call (call.User w args at)) ≡ 1 + opens (printed_args args)
unfolding same
opens_user w args at = opens_within (printed_args args)

opens_getchar : (at : ℕ) → opens (printed_call (call.Getchar at)) ≡ 1
unfolding same
opens_getchar at = opens_within []

opens_putchar : (a : Arg) (at : ℕ) → opens (printed_call (call.Putchar a at)) ≡ 1 + opens (printed_arg a)
unfolding same
opens_putchar a at = opens_within (printed_arg a)

opens_printf : (text : List ℕ) (text_at : ℕ) (args : List Arg) (at end : ℕ) → opens (printed_call (call.Printf text text_at args at end)) ≡ 1 + opens (each behind_comma args)
unfolding same
opens_printf text text_at args at end = opens_within (kind.Text text ∷ each behind_comma args)

opens_request : (size : Size) → opens (key (codes "malloc") ∷ within (printed_size size)) ≡ 1 + opens (printed_size size)
unfolding same
opens_request size = opens_within (printed_size size)

pub call_fewest : {c : Call} {ts us : List Token} → IsCall c ts us → opens (printed_call c) + tally us ≤ tally ts
call_fewest (IsCall.user {n = n} {o = o} {text = text} {args = args} {at = at} {ts = ts} name opening p) =
    let one = opens_user (word text n) args at in
    let here = args_fewest p in
    let bracket = tally_open o ts opening in
    let token = tally_behind n (o ∷ ts) in
    omega (arith, one, here, bracket, token)
call_fewest (IsCall.getchar {t = t} {o = o} {c = c} {ts = ts} is opening close) =
    let one = opens_getchar t.start in
    let end = tally_behind c ts in
    let bracket = tally_open o (c ∷ ts) opening in
    let token = tally_behind t (o ∷ c ∷ ts) in
    omega (arith, one, end, bracket, token)
call_fewest (IsCall.putchar {t = t} {o = o} {c = c} {a = a} {ts = ts} {us = us} is opening p close) =
    let one = opens_putchar a t.start in
    let here = arg_fewest p in
    let end = tally_behind c us in
    let bracket = tally_open o ts opening in
    let token = tally_behind t (o ∷ ts) in
    omega (arith, one, here, end, bracket, token)
call_fewest (IsCall.printf {t = t} {o = o} {x = x} {text = text} {args = args} {at = at} {ts = ts} is opening said p) =
    let one = opens_printf text x.start args t.start at in
    let here = more_args_fewest p in
    let word = tally_behind x ts in
    let bracket = tally_open o (x ∷ ts) opening in
    let token = tally_behind t (o ∷ x ∷ ts) in
    omega (arith, one, here, word, bracket, token)
call_fewest (IsCall.malloc {cast = cast} {t = t} {o = o} {c = c} {size = size} {us = us} {vs = vs} q is opening p close) =
    let both = opens_both (maybe printed_cast cast) (key (codes "malloc") ∷ within (printed_size size)) in
    let one = opens_request size in
    let front = cast_fewest q in
    let here = size_fewest p in
    let end = tally_behind c vs in
    let bracket = tally_open o us opening in
    let token = tally_behind t (o ∷ us) in
    omega (arith, both, one, front, here, end, bracket, token)

pub right_fewest : {r : Right} {ts us : List Token} → IsRight r ts us → opens (printed_right r) + tally us ≤ tally ts
right_fewest (IsRight.plain p) = arg_fewest p
right_fewest (IsRight.called p) = call_fewest p

-- assignments

abbrev printed_place : Expr → List Kind
printed_place e = printed_expr (place_room (out-Expr e)) e

layer_room : (l : Expr-F Expr) → place_room l ≤ 1
layer_room (Const n at) = omega arith
layer_room (Null at) = omega arith
layer_room (Var w) = omega arith
layer_room (Field e w at) = omega arith
layer_room (Deref e at) = omega arith
layer_room (Index e i at) = omega arith
layer_room (Unary s e at) = omega arith
layer_room (Binary o a b at) = omega arith

place_fewest : {e : Expr} {ts us : List Token} → IsPlace e ts us → opens (printed_place e) + tally us ≤ tally ts
place_fewest (IsPlace.post {e = e} d) =
    let here = post_fewest d in
    let room = (expr_roomy e 0 (place_room (out-Expr e)) (omega arith)).0 in
    omega (arith, here, room)
place_fewest (IsPlace.deref {t = t} {e = e} {ts = ts} {us = us} is d) =
    subst (λ (room : ℕ). opens (printed_expr room (expr.Deref e t.start)) + tally us ≤ tally (t ∷ ts)) (sym (ap place_room (expr.outs-Deref e t.start)))
    (unary_fewest (IsUnary.deref is d))

opens_op : (o : Op) (ks : List Kind) → opens (op_kind o ∷ ks) ≡ opens ks
unfolding same
opens_op op.Put ks = refl
opens_op op.Add ks = refl
opens_op op.Sub ks = refl
opens_op op.Mul ks = refl

some_same : {A : Type 0} {x y : A} → Some x ≡ Some y → y ≡ x
some_same is = cc

step_opens : (o : Op) (b : Bool) (k : Kind) (ks : List Kind) → step_kind o b ≡ Some k → opens (k ∷ ks) ≡ opens ks
unfolding same
step_opens op.Add true k ks is = ap (λ (x : Kind). opens (x ∷ ks)) (some_same is)
step_opens op.Sub true k ks is = ap (λ (x : Kind). opens (x ∷ ks)) (some_same is)
step_opens op.Add false k ks is = absurd (cc)
step_opens op.Sub false k ks is = absurd (cc)
step_opens op.Put b k ks is = absurd (cc)
step_opens op.Mul b k ks is = absurd (cc)

-- a step opens no more than the place and the operator
by_fewest : (s : Simple) (k : Option Kind) → step_kind s.op (by_one s.right) ≡ k → opens (printed_by s k) ≤ opens (printed_place s.place.expr) + opens (printed_right s.right)
by_fewest s (Some k) is =
    let step = step_opens s.op (by_one s.right) k (printed_expr 1 s.place.expr) is in
    let small = layer_room (out-Expr s.place.expr) in
    let room = (expr_roomy s.place.expr (place_room (out-Expr s.place.expr)) 1 small).0 in
    omega (arith, step, room)
by_fewest s None is =
    let both = opens_both (printed_place s.place.expr) (op_kind s.op ∷ printed_right s.right) in
    let one = opens_op s.op (printed_right s.right) in
    omega (arith, both, one)

one_is_one : (t : Token) → by_one (one_at t) ≡ true
one_is_one t = ap is_one (expr.outs-Const (pos 1) t.start)

step_printed : (e : Expr) (p : Token) (x : Term) (o : Op) (t : Token) → step_of x ≡ Some o → opens (printed_simple (simple e p o (one_at t) t)) ≡ opens (printed_expr 1 e)
unfolding same
step_printed e p term.PlusPlus op.Add t is = ap (λ (b : Bool). opens (printed_by (simple e p op.Add (one_at t) t) (step_kind op.Add b))) (one_is_one t)
step_printed e p term.MinusMinus op.Sub t is = ap (λ (b : Bool). opens (printed_by (simple e p op.Sub (one_at t) t) (step_kind op.Sub b))) (one_is_one t)
step_printed e p _ _ t is = absurd (cc)

pub simple_fewest : {s : Simple} {ts us : List Token} → IsSimple s ts us → opens (printed_simple s) + tally us ≤ tally ts
simple_fewest (IsSimple.put {e = e} {r = r} {p = p} {t = t} {us = us} d is q) =
    let all = by_fewest (simple e p op.Put r t) (step_kind op.Put (by_one r)) refl in
    let place = place_fewest d in
    let value = right_fewest q in
    let token = tally_behind t us in
    omega (arith, all, place, value, token)
simple_fewest (IsSimple.change {e = e} {a = a} {o = o} {p = p} {t = t} {us = us} d is q) =
    let all = by_fewest (simple e p o (right.Plain a) t) (step_kind o (by_one (right.Plain a))) refl in
    let place = place_fewest d in
    let value = arg_fewest q in
    let token = tally_behind t us in
    omega (arith, all, place, value, token)
simple_fewest (IsSimple.step_behind {e = e} {o = o} {p = p} {t = t} {us = us} d is) =
    let all = step_printed e p (term_of t) o t is in
    let place = post_fewest d in
    let room = (expr_roomy e 0 1 (omega arith)).0 in
    let token = tally_behind t us in
    omega (arith, all, place, room, token)
simple_fewest (IsSimple.step_before {e = e} {o = o} {p = p} {t = t} {ts = ts} is d) =
    let all = step_printed e p (term_of t) o t is in
    let place = unary_fewest d in
    let token = tally_behind t (p ∷ ts) in
    omega (arith, all, place, token)

-- declarations

opens_given : (r : Right) → opens (printed_given r) ≡ opens (printed_right r)
unfolding same
opens_given r = refl

declr_fewest : {b : Base} {f : Token} {d : Declr} {ts us : List Token} → IsDeclr b f d ts us → opens (printed_declr d) + tally us ≤ tally ts
declr_fewest {b} {f} (IsDeclr.bare {n = n} {stars = stars} {text = text} {us = us} p name) =
    let both = opens_both (printed_starred (spec b f stars (Some (word text n)))) [] in
    let none = opens_starred (spec b f stars (Some (word text n))) in
    let front = stars_fewest p in
    let token = tally_behind n us in
    omega (arith, both, none, front, token)
declr_fewest {b} {f} (IsDeclr.given {n = n} {t = t} {stars = stars} {text = text} {r = r} {us = us} p name is q) =
    let both = opens_both (printed_starred (spec b f stars (Some (word text n)))) (printed_given r) in
    let none = opens_starred (spec b f stars (Some (word text n))) in
    let given = opens_given r in
    let front = stars_fewest p in
    let value = right_fewest q in
    let token = tally_behind t us in
    let first = tally_behind n (t ∷ us) in
    omega (arith, both, none, given, front, value, token, first)

opens_next : (ds : List Declr) → opens (each next_declr ds) ≡ opens (printed_declrs ds)
unfolding same
opens_next [] = refl
opens_next (d ∷ ds) = refl

declrs_fewest : {b : Base} {f : Token} {ds : List Declr} {ts us : List Token} → IsDeclrs b f ds ts us → opens (printed_declrs ds) + tally us ≤ tally ts
declrs_fewest (IsDeclrs.last {d = d} p) =
    let both = opens_both (printed_declr d) [] in
    let here = declr_fewest p in
    omega (arith, both, here)
declrs_fewest (IsDeclrs.more {d = d} {others = others} {t = t} {us = us} p is r) =
    let both = opens_both (printed_declr d) (each next_declr others) in
    let next = opens_next others in
    let here = declr_fewest p in
    let rest = declrs_fewest r in
    let token = tally_behind t us in
    omega (arith, both, next, here, rest, token)

opens_decl : (ds : List Declr) → opens (printed_decl ds) ≡ opens (printed_declrs ds)
opens_decl [] = refl
opens_decl (d ∷ ds) = opens_behind_base d.spec.base (printed_declrs (d ∷ ds))

pub decl_fewest : {ds : List Declr} {ts us : List Token} → IsDecl ds ts us → opens (printed_decl ds) + tally us ≤ tally ts
decl_fewest (IsDecl.decl {declrs = ds} p q) =
    let all = opens_decl ds in
    let front = base_fewest p in
    let rest = declrs_fewest q in
    omega (arith, all, front, rest)
