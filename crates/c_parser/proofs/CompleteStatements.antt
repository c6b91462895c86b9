-- Each derivation of a call, an assignment or a declaration is what is read.
use Rattle.std.proofs.Common.{◌≡◌, ℕ, zero, suc, ◌<◌, ◌≤◌, Bool, true, false, List, [], ◌∷◌, ◌++◌, drop, Option, Some, None, length, refl, ap, ◌∙◌, append_assoc, append-nil, arith}
use Rattle.c_lexer.specs.declared.token.Token.{Token}
use Rattle.c_lexer.specs.declared.token.Kind.TheVariants as kind
use Rattle.c_tree.specs.declared.expr.Op.{Op}
use Rattle.c_tree.specs.declared.expr.Op.TheVariants as op
use Rattle.c_tree.specs.declared.expr.Oper.{Oper}
use Rattle.c_tree.specs.declared.tree.Arg.{Arg}
use Rattle.c_tree.specs.declared.tree.Base.{Base}
use Rattle.c_tree.specs.declared.tree.Expr.{Expr}
use Rattle.c_tree.specs.declared.tree.Spec.{Spec}
use Rattle.c_tree.specs.declared.tree.Unit.{Unit as Counted}
use Rattle.c_tree.specs.declared.tree.Size.{Size}
use Rattle.c_tree.specs.declared.tree.Call.{Call}
use Rattle.c_tree.specs.declared.tree.Call.TheVariants as call
use Rattle.c_tree.specs.declared.tree.Right.{Right}
use Rattle.c_tree.specs.declared.tree.Right.TheVariants as right
use Rattle.c_tree.specs.declared.tree.Simple.{Simple}
use Rattle.c_tree.specs.declared.tree.Declr.{Declr}
use Rattle.c_parser.specs.Expressions.{IsArg, IsLevel, IsTail, IsUnary, IsPost, IsPosts, IsPrim, arg, oper_of}
use Rattle.c_parser.specs.Declarators.{IsBase, IsStars, IsCast, IsSize, IsUnit, spec}
use Rattle.c_parser.specs.Statements.{IsArgs, IsMoreArgs, IsCall, IsRight, IsPlace, IsSimple, IsDeclr, IsDeclrs, IsDecl, change_of, step_of, one_at}
use Rattle.c_parser.specs.ReadExpressions.{read_arg, read_unary, placed, chained}
use Rattle.c_parser.specs.ReadStatements.{begins_call, begins_decl, is_call, is_cast, is_decl, read_args, read_more_args, read_base, read_starred, read_call, read_request, read_changed, read_place, read_decl, read_declr, read_declrs, read_right, read_simple, read_size, read_unit}
use Rattle.c_parser.specs.Term.{next, same, sees, term_of, word}
use Rattle.c_parser.specs.declared.term.Term.{Term}
use Rattle.c_parser.specs.declared.term.Term.TheVariants as term
use Rattle.c_parser.proofs.Terms.{name_term, number_term, same_self}
use Rattle.c_parser.proofs.Shorter.{level_shorter, arg_shorter, base_shorter, stars_shorter, unit_shorter, post_shorter, unary_shorter, declr_shorter}
use Rattle.c_parser.proofs.CompleteExpressions.{Ends, ends_post, closes, closed, begins_operand, no_operator, level_begins, level_not_sizeof, want_is, arg_complete, unary_complete, level_complete}

-- The depth is at least the number of tokens; what ends an expression stands behind what may end with one.

ends_operand : (us : List Token) → Ends 6 us → Ends 0 us
ends_operand us ends = record { post = ends.post; below = λ j less. ends.below j (omega (arith, less)) }

-- types

pub base_complete : {b : Base} {f : Token} {ts us : List Token} → IsBase b (f ∷ ts) us → read_base (f ∷ ts) ≡ Some (spec b f 0 None, us)
unfolding read_base
base_complete (IsBase.int is) = rw is
base_complete (IsBase.tag is name) = rw (is, name)
base_complete {f = f} (IsBase.alias name) = rw (name_term f _ name, name)

base_not_star : {b : Base} {ts us : List Token} → IsBase b ts us → sees term.Star ts ≡ false
unfolding same
base_not_star (IsBase.int is) = rw is
base_not_star (IsBase.tag is name) = rw is
base_not_star (IsBase.alias {t = t} name) = rw (name_term t _ name)

pub name_not_star : (n : Token) (text : List ℕ) → n.kind ≡ kind.Name text → same term.Star (term_of n) ≡ false
unfolding same
name_not_star n text name = rw (name_term n text name)

pub stars_complete : {stars : ℕ} {n : Token} {text : List ℕ} {ts us : List Token} → IsStars stars ts (n ∷ us) → n.kind ≡ kind.Name text
    → read_starred ts ≡ Some ((stars, word text n), us)
stars_complete {n = n} {text = text} IsStars.none name = rw (name_not_star n text name, name)
stars_complete (IsStars.star is) name = rw (is, same_self term.Star, name)

-- units and sizes

pub unit_sizeof : {u : Counted} {at : ℕ} {ts us : List Token} → IsUnit u at ts us → sees term.Sizeof ts ≡ true
unit_sizeof (IsUnit.of_type is opening b close) = rw (is, same_self term.Sizeof)
unit_sizeof (IsUnit.of_star_within is opening star name close) = rw (is, same_self term.Sizeof)
unit_sizeof (IsUnit.of_star is star name) = rw (is, same_self term.Sizeof)

pub unit_complete : {u : Counted} {at : ℕ} {ts us : List Token} → IsUnit u at ts us → read_unit ts ≡ Some ((u, at), us)
unfolding read_unit
unit_complete (IsUnit.of_type {z = z} {o = o} {t = t} {c = c} {ts = ts} {us = us} is opening b close) =
    rw (want_is term.Sizeof z (o ∷ t ∷ ts) is, opening, base_not_star b, base_complete b, want_is term.Close c us close)
unit_complete (IsUnit.of_star_within {z = z} {o = o} {s = s} {n = n} {c = c} {ts = ts} is opening star name close) =
    rw (want_is term.Sizeof z (o ∷ s ∷ n ∷ c ∷ ts) is, opening, star, same_self term.Star, name, want_is term.Close c ts close)
unit_complete (IsUnit.of_star {z = z} {s = s} {n = n} {ts = ts} is star name) = rw (want_is term.Sizeof z (s ∷ n ∷ ts) is, star, name)

-- in a size the last `*` of the count stands before `sizeof`
ends_count : (s : Token) (us : List Token) → term_of s ≡ term.Star → sees term.Sizeof us ≡ true → Ends 1 (s ∷ us)
ends_count s us star sizeof = record { post = ap ends_post star; below = λ j less. rw sizeof }

close_not_star : (t : Token) → term_of t ≡ term.Close → same term.Star (term_of t) ≡ false
unfolding same
close_not_star t close = rw close

pub size_complete : {z : Size} {t : Token} {ts us : List Token} → IsSize z ts (t ∷ us) → (depth : ℕ) → length ts ≤ depth → term_of t ≡ term.Close → read_size depth ts ≡ Some (z, t ∷ us)
unfolding read_size
size_complete {t = t} (IsSize.one d) depth enough close = rw (unit_sizeof d, unit_complete d, close_not_star t close)
size_complete (IsSize.count_before {t = s} {us = us} d star q) depth enough close =
    rw (level_not_sizeof d, level_complete d depth enough (ends_count s us star (unit_sizeof q)), want_is term.Star s us star, unit_complete q)
size_complete {t = t} {us = us} (IsSize.count_behind d star q) depth enough close =
    rw (
      unit_sizeof d,
      unit_complete d,
      star,
      same_self term.Star,
      unary_complete q depth (omega (arith, enough, unit_shorter d)) (closed 0 t us term.Close close refl),
    )

-- arguments

more_args_end : {args : List Arg} {at : ℕ} {ts us : List Token} → IsMoreArgs args at ts us → Ends 6 ts
more_args_end (IsMoreArgs.close {t = t} {ts = ts} is) = closed 6 t ts term.Close is refl
more_args_end (IsMoreArgs.comma {t = t} {ts = ts} is d q) = closed 6 t ts term.Comma is refl

more_args_close : (depth n : ℕ) (front : List Arg) (t : Token) (ts : List Token) → term_of t ≡ term.Close
    → read_more_args depth (suc n) front (t ∷ ts) ≡ Some ((front ++ [], t.start), ts)
unfolding read_more_args
more_args_close depth n front t ts is = rw (is, append-nil front)

more_args_comma : {a : Arg} {at : ℕ} {us vs : List Token} (depth n : ℕ) (front others : List Arg) (t : Token) (ts : List Token) → term_of t ≡ term.Comma
    → read_arg depth ts ≡ Some (a, us) → read_more_args depth n (front ++ a ∷ []) us ≡ Some (((front ++ a ∷ []) ++ others, at), vs)
    → read_more_args depth (suc n) front (t ∷ ts) ≡ Some ((front ++ a ∷ others, at), vs)
unfolding read_more_args
more_args_comma {a = a} {at = at} {vs = vs} depth n front others t ts is first behind =
    rw (is, first) (behind ∙ ap (λ l. Some ((l, at), vs)) (append_assoc front (a ∷ []) others))

pub more_args_complete : {args : List Arg} {at : ℕ} {ts us : List Token} → IsMoreArgs args at ts us → (depth n : ℕ) → length ts ≤ depth → length ts < n → (front : List Arg)
    → read_more_args depth n front ts ≡ Some ((front ++ args, at), us)
more_args_complete d depth zero enough more front = absurd (omega (arith, more))
more_args_complete (IsMoreArgs.close {t = t} {ts = ts} is) depth (suc n) enough more front = more_args_close depth n front t ts is
more_args_complete (IsMoreArgs.comma {t = t} {a = a} {ts = ts} is d q) depth (suc n) enough more front =
    more_args_comma depth n front _ t ts is (arg_complete d depth (omega (arith, enough)) (more_args_end q))
    (more_args_complete q depth n (omega (arith, enough, arg_shorter d)) (omega (arith, more, arg_shorter d)) (front ++ a ∷ []))

operand_not_close : (x : Term) → begins_operand x ≡ true → same term.Close x ≡ false
unfolding same
operand_not_close term.Close is = absurd (cc)
operand_not_close _ is = refl

pub args_complete : {args : List Arg} {at : ℕ} {ts us : List Token} → IsArgs args at ts us → (depth : ℕ) → length ts ≤ depth → read_args depth ts ≡ Some ((args, at), us)
unfolding read_args
args_complete (IsArgs.none is) depth enough = rw (is, same_self term.Close)
args_complete (IsArgs.some {a = a} (IsArg.argument {t = t} {ts = ts} d) q) depth enough =
    rw (operand_not_close (term_of t) (level_begins d), arg_complete (IsArg.argument d) depth enough (more_args_end q))
    (more_args_complete q depth (length (t ∷ ts)) (omega (arith, enough, level_shorter d)) (level_shorter d) (a ∷ []))

-- calls

request_read : {z : Size} {us vs : List Token} (depth : ℕ) (cast : Option Spec) (t o c : Token) → term_of o ≡ term.Open → IsSize z us (c ∷ vs) → length us ≤ depth
    → term_of c ≡ term.Close → read_request depth cast t (o ∷ us) ≡ Some (call.Malloc cast z t.start, vs)
request_read {us = us} {vs = vs} depth cast t o c opening size enough close =
    rw (want_is term.Open o us opening, size_complete size depth enough close, want_is term.Close c vs close)

pub call_complete : {c : Call} {ts us : List Token} → IsCall c ts us → (depth : ℕ) → length ts ≤ depth → read_call depth ts ≡ Some (c, us)
unfolding read_call
call_complete (IsCall.user {n = n} {o = o} {ts = ts} name opening d) depth enough =
    rw (name_term n _ name, name, want_is term.Open o ts opening, args_complete d depth (omega (arith, enough)))
call_complete (IsCall.getchar {o = o} {c = c} {ts = ts} is opening close) depth enough = rw (is, want_is term.Open o (c ∷ ts) opening, want_is term.Close c ts close)
call_complete (IsCall.putchar {o = o} {c = c} {ts = ts} {us = us} is opening d close) depth enough =
    rw (is, want_is term.Open o ts opening, arg_complete d depth (omega (arith, enough)) (closed 6 c us term.Close close refl), want_is term.Close c us close)
call_complete (IsCall.printf {o = o} {x = x} {ts = ts} is opening text d) depth enough =
    rw (is, want_is term.Open o (x ∷ ts) opening, text, more_args_complete d depth (length (x ∷ ts)) (omega (arith, enough)) (omega arith) [])
call_complete (IsCall.malloc {t = t} {o = o} {c = c} IsCast.none is opening d close) depth enough =
    rw is (request_read depth None t o c opening d (omega (arith, enough)) close)
call_complete (IsCall.malloc {t = t} {o = o} {c = c} {us = us} (IsCast.cast {s = s} {c = e} opens b star closes_cast) is opening d close) depth enough =
    rw (opens, base_complete b, want_is term.Star s (e ∷ t ∷ o ∷ us) star, want_is term.Close e (t ∷ o ∷ us) closes_cast, want_is term.Malloc t (o ∷ us) is)
    (request_read depth (Some _) t o c opening d (omega (arith, enough, base_shorter b)) close)

-- how calls, expressions, assignments and declarations begin

pub call_begins : {c : Call} {ts us : List Token} → IsCall c ts us → begins_call ts ≡ true
call_begins (IsCall.user {n = n} name opening d) = rw (name_term n _ name, opening, same_self term.Open)
call_begins (IsCall.getchar is opening close) = rw is
call_begins (IsCall.putchar is opening d close) = rw is
call_begins (IsCall.printf is opening text d) = rw is
call_begins (IsCall.malloc IsCast.none is opening d close) = rw is
call_begins (IsCall.malloc (IsCast.cast opens (IsBase.int int) star closes_cast) is opening d close) = rw (opens, int)
call_begins (IsCall.malloc (IsCast.cast opens (IsBase.tag struct name) star closes_cast) is opening d close) = rw (opens, struct)
call_begins (IsCall.malloc (IsCast.cast {t = f} opens (IsBase.alias name) star closes_cast) is opening d close) = rw (opens, name_term f _ name, star, closes_cast)

pub call_begins_no_decl : {c : Call} {ts us : List Token} → IsCall c ts us → begins_decl ts ≡ false
call_begins_no_decl (IsCall.user {n = n} name opening d) = rw (name_term n _ name, opening)
call_begins_no_decl (IsCall.getchar is opening close) = rw is
call_begins_no_decl (IsCall.putchar is opening d close) = rw is
call_begins_no_decl (IsCall.printf is opening text d) = rw is
call_begins_no_decl (IsCall.malloc IsCast.none is opening d close) = rw is
call_begins_no_decl (IsCall.malloc (IsCast.cast opens b star closes_cast) is opening d close) = rw opens

-- A question on two tokens that is answered by no at each `->`, `[` and operator is answered by no behind an operand, if it is behind the whole.

abbrev asked : (Term → Term → Bool) → List Token → Bool
asked q ts = q (next ts) (next (drop 1 ts))

posts_asked : (q : Term → Term → Bool) → ((y : Term) → q term.Arrow y ≡ false) → ((y : Term) → q term.OpenIndex y ≡ false)
    → {a e : Expr} {ts us : List Token} → IsPosts a e ts us → asked q us ≡ false → asked q ts ≡ false
posts_asked q arrow index IsPosts.end apart = apart
posts_asked q arrow index (IsPosts.field is name d) apart = rw is (arrow _)
posts_asked q arrow index (IsPosts.index is d end p) apart = rw is (index _)

tail_asked : (q : Term → Term → Bool) → ((k : ℕ) (x y : Term) (o : Oper) → oper_of k x ≡ Some o → begins_operand y ≡ true → q x y ≡ false)
    → {k : ℕ} {a e : Expr} {ts us : List Token} → IsTail k a e ts us → asked q us ≡ false → asked q ts ≡ false
tail_asked q joins IsTail.done apart = apart
tail_asked q joins (IsTail.more {k = k} {o = o} {t = t} {ts = ts} is d p) apart = joins k (term_of t) (next ts) o is (level_begins d)

abbrev is_open : Term → Term → Bool
is_open x y = same term.Open x

is_open_arrow : (y : Term) → is_open term.Arrow y ≡ false
unfolding same
is_open_arrow y = refl

is_open_index : (y : Term) → is_open term.OpenIndex y ≡ false
unfolding same
is_open_index y = refl

is_open_joins : (k : ℕ) (x y : Term) (o : Oper) → oper_of k x ≡ Some o → begins_operand y ≡ true → is_open x y ≡ false
unfolding same
is_open_joins k term.Open y o is operand = absurd (no_operator k term.Open o is (omega arith))
is_open_joins k _ y o is operand = refl

-- `*` and `)` behind a name within parentheses
abbrev pointer : Term → Term → Bool
pointer x y = is_cast term.Name x y

pointer_joins : (k : ℕ) (x y : Term) (o : Oper) → oper_of k x ≡ Some o → begins_operand y ≡ true → pointer x y ≡ false
pointer_joins k term.Star term.Close o is operand = absurd (cc)
pointer_joins k term.Star _ o is operand = refl
pointer_joins k _ y o is operand = refl

drop_two : (ts : List Token) → drop 2 ts ≡ drop 1 (drop 1 ts)
drop_two [] = refl
drop_two (t ∷ ts) = refl

post_no_cast : {e : Expr} {ts us : List Token} → IsPost e ts us → asked pointer us ≡ false → is_cast (next ts) (next (drop 1 ts)) (next (drop 2 ts)) ≡ false
post_no_cast (IsPost.post (IsPrim.number {t = t} is) q) apart = rw (number_term t _ is)
post_no_cast (IsPost.post (IsPrim.null is) q) apart = rw is
post_no_cast (IsPost.post (IsPrim.eof is) q) apart = rw is
post_no_cast (IsPost.post (IsPrim.variable {t = t} name) q) apart = rw (name_term t _ name) (posts_asked pointer (λ y. refl) (λ y. refl) q apart)
post_no_cast (IsPost.post (IsPrim.group is d end) q) apart = rw is

unary_no_cast : {e : Expr} {ts us : List Token} → IsUnary e ts us → asked pointer us ≡ false → is_cast (next ts) (next (drop 1 ts)) (next (drop 2 ts)) ≡ false
unary_no_cast (IsUnary.plain d) apart = post_no_cast d apart
unary_no_cast (IsUnary.minus is d) apart = rw is
unary_no_cast (IsUnary.not is d) apart = rw is
unary_no_cast (IsUnary.deref is d) apart = rw is

level_no_cast : {k : ℕ} {e : Expr} {ts us : List Token} → IsLevel k e ts us → asked pointer us ≡ false → is_cast (next ts) (next (drop 1 ts)) (next (drop 2 ts)) ≡ false
level_no_cast (IsLevel.operand d) apart = unary_no_cast d apart
level_no_cast (IsLevel.level d q) apart = level_no_cast d (tail_asked pointer pointer_joins q apart)

post_no_call : {e : Expr} {ts us : List Token} → IsPost e ts us → sees term.Open us ≡ false → begins_call ts ≡ false
post_no_call (IsPost.post (IsPrim.number {t = t} is) q) apart = rw (number_term t _ is)
post_no_call (IsPost.post (IsPrim.null is) q) apart = rw is
post_no_call (IsPost.post (IsPrim.eof is) q) apart = rw is
post_no_call (IsPost.post (IsPrim.variable {t = t} name) q) apart = rw (name_term t _ name) (posts_asked is_open is_open_arrow is_open_index q apart)
post_no_call (IsPost.post (IsPrim.group {c = c} {ts = ts} is d end) q) apart =
    let behind : pointer (term_of c) _ ≡ false = rw end in
    rw is (level_no_cast d behind)

unary_no_call : {e : Expr} {ts us : List Token} → IsUnary e ts us → sees term.Open us ≡ false → begins_call ts ≡ false
unary_no_call (IsUnary.plain d) apart = post_no_call d apart
unary_no_call (IsUnary.minus is d) apart = rw is
unary_no_call (IsUnary.not is d) apart = rw is
unary_no_call (IsUnary.deref is d) apart = rw is

level_no_call : {k : ℕ} {e : Expr} {ts us : List Token} → IsLevel k e ts us → sees term.Open us ≡ false → begins_call ts ≡ false
level_no_call (IsLevel.operand d) apart = unary_no_call d apart
level_no_call (IsLevel.level d q) apart = level_no_call d (tail_asked is_open is_open_joins q apart)

-- `f` before `(` begins a call
pub arg_begins : {a : Arg} {ts us : List Token} → IsArg a ts us → sees term.Open us ≡ false → begins_call ts ≡ false
arg_begins (IsArg.argument d) apart = level_no_call d apart

pub right_complete : {r : Right} {ts us : List Token} → IsRight r ts us → (depth : ℕ) → length ts ≤ depth → Ends 6 us → sees term.Open us ≡ false → read_right depth ts ≡ Some (r, us)
unfolding read_right
right_complete (IsRight.plain d) depth enough ends not_open = rw (arg_begins d not_open, arg_complete d depth enough ends)
right_complete (IsRight.called d) depth enough ends not_open = rw (call_begins d, call_complete d depth enough)

-- assignments

-- what stands behind a place changes it

change_closes : (x : Term) (o : Op) → change_of x ≡ Some o → closes x ≡ true
change_closes term.PlusPut o is = refl
change_closes term.MinusPut o is = refl
change_closes term.StarPut o is = refl
change_closes _ o is = absurd (cc)

change_not_put : (x : Term) (o : Op) → change_of x ≡ Some o → same term.Put x ≡ false
unfolding same
change_not_put term.Put o is = absurd (cc)
change_not_put _ o is = refl

step_closes : (x : Term) (o : Op) → step_of x ≡ Some o → closes x ≡ true
step_closes term.PlusPlus o is = refl
step_closes term.MinusMinus o is = refl
step_closes _ o is = absurd (cc)

step_not_put : (x : Term) (o : Op) → step_of x ≡ Some o → same term.Put x ≡ false
unfolding same
step_not_put term.Put o is = absurd (cc)
step_not_put _ o is = refl

step_no_change : (x : Term) (o : Op) → step_of x ≡ Some o → change_of x ≡ None
step_no_change term.PlusPlus o is = refl
step_no_change term.MinusMinus o is = refl
step_no_change _ o is = absurd (cc)

put_read : {r : Right} {vs : List Token} (depth : ℕ) (steps : Bool) (a : Arg) (t : Token) (us : List Token) → term_of t ≡ term.Put → read_right depth us ≡ Some (r, vs)
    → read_changed depth steps a (t ∷ us) ≡ Some (record { place = a; op = op.Put; right = r; at = t.start }, vs)
unfolding read_changed
put_read depth steps a t us is read = rw (is, same_self term.Put, read)

change_read : {b : Arg} {vs : List Token} (depth : ℕ) (steps : Bool) (a : Arg) (o : Op) (t : Token) (us : List Token) → change_of (term_of t) ≡ Some o
    → read_arg depth us ≡ Some (b, vs) → read_changed depth steps a (t ∷ us) ≡ Some (record { place = a; op = o; right = right.Plain b; at = t.start }, vs)
unfolding read_changed
change_read depth steps a o t us is read = rw (change_not_put (term_of t) o is, is, read)

step_read : (depth : ℕ) (a : Arg) (o : Op) (t : Token) (us : List Token) → step_of (term_of t) ≡ Some o
    → read_changed depth true a (t ∷ us) ≡ Some (record { place = a; op = o; right = one_at t; at = t.start }, us)
unfolding read_changed
step_read depth a o t us is = rw (step_not_put (term_of t) o is, step_no_change (term_of t) o is, is)

-- a place that begins with a token of this term

abbrev pub begins_primary : Term → Bool
begins_primary term.Minus = false
begins_primary term.Not = false
begins_primary term.Star = false
begins_primary x = begins_operand x

pub post_primary : {e : Expr} {ts us : List Token} → IsPost e ts us → begins_primary (next ts) ≡ true
post_primary (IsPost.post (IsPrim.number {t = t} is) q) = rw (number_term t _ is)
post_primary (IsPost.post (IsPrim.null is) q) = rw is
post_primary (IsPost.post (IsPrim.eof is) q) = rw is
post_primary (IsPost.post (IsPrim.variable {t = t} name) q) = rw (name_term t _ name)
post_primary (IsPost.post (IsPrim.group is d end) q) = rw is

primary_no_step : (x : Term) → begins_primary x ≡ true → step_of x ≡ None
primary_no_step term.PlusPlus is = absurd (cc)
primary_no_step term.MinusMinus is = absurd (cc)
primary_no_step _ is = refl

primary_place : (depth : ℕ) (x : Term) (ts : List Token) → begins_primary x ≡ true
    → read_place depth x ts ≡ chained (placed (read_unary depth) ts) (λ a us. read_changed depth true a us)
primary_place depth term.Minus ts is = absurd (cc)
primary_place depth term.Not ts is = absurd (cc)
primary_place depth term.Star ts is = absurd (cc)
primary_place depth _ ts is = refl

post_read : {e : Expr} {p : Token} {ts us : List Token} → IsPost e (p ∷ ts) us → (depth : ℕ) → length (p ∷ ts) ≤ depth → Ends 0 us
    → read_simple depth (p ∷ ts) ≡ read_changed depth true (arg e p) us
unfolding read_simple
post_read {p = p} {ts = ts} d depth enough ends =
    rw (primary_no_step (term_of p) (post_primary d), primary_place depth (term_of p) (p ∷ ts) (post_primary d), unary_complete (IsUnary.plain d) depth enough ends)

deref_read : {e : Expr} {p : Token} {ts us : List Token} → term_of p ≡ term.Star → IsUnary e (p ∷ ts) us → (depth : ℕ) → length (p ∷ ts) ≤ depth → Ends 0 us
    → read_simple depth (p ∷ ts) ≡ read_changed depth false (arg e p) us
unfolding read_simple
deref_read {p = p} is d depth enough ends = rw (is, is, unary_complete d depth enough ends)

pub simple_complete : {s : Simple} {ts us : List Token} → IsSimple s ts us → (depth : ℕ) → length ts ≤ depth → Ends 6 us → sees term.Open us ≡ false → read_simple depth ts ≡ Some (s, us)
unfolding read_simple
simple_complete (IsSimple.put {e = e} {p = p} {t = t} {us = us} (IsPlace.post d) put r) depth enough ends not_open =
    post_read d depth enough (closed 0 t us term.Put put refl)
    ∙ put_read depth true (arg e p) t us put (right_complete r depth (omega (arith, enough, post_shorter d)) ends not_open)
simple_complete (IsSimple.put {e = e} {p = p} {t = t} {us = us} (IsPlace.deref is d) put r) depth enough ends not_open =
    deref_read is (IsUnary.deref is d) depth enough (closed 0 t us term.Put put refl)
    ∙ put_read depth false (arg e p) t us put (right_complete r depth (omega (arith, enough, unary_shorter d)) ends not_open)
simple_complete (IsSimple.change {e = e} {o = o} {p = p} {t = t} {us = us} (IsPlace.post d) change a) depth enough ends not_open =
    post_read d depth enough (closed 0 t us (term_of t) refl (change_closes (term_of t) o change))
    ∙ change_read depth true (arg e p) o t us change (arg_complete a depth (omega (arith, enough, post_shorter d)) ends)
simple_complete (IsSimple.change {e = e} {o = o} {p = p} {t = t} {us = us} (IsPlace.deref is d) change a) depth enough ends not_open =
    deref_read is (IsUnary.deref is d) depth enough (closed 0 t us (term_of t) refl (change_closes (term_of t) o change))
    ∙ change_read depth false (arg e p) o t us change (arg_complete a depth (omega (arith, enough, unary_shorter d)) ends)
simple_complete (IsSimple.step_behind {e = e} {o = o} {p = p} {t = t} {us = us} d step) depth enough ends not_open =
    post_read d depth enough (closed 0 t us (term_of t) refl (step_closes (term_of t) o step)) ∙ step_read depth (arg e p) o t us step
simple_complete {us = us} (IsSimple.step_before step d) depth enough ends not_open =
    rw (step, unary_complete d depth (omega (arith, enough)) (ends_operand us ends))

-- how an assignment begins

post_no_decl : {e : Expr} {ts us : List Token} → IsPost e ts us → is_decl term.Name (next us) ≡ false → begins_decl ts ≡ false
post_no_decl (IsPost.post (IsPrim.number {t = t} is) q) apart = rw (number_term t _ is)
post_no_decl (IsPost.post (IsPrim.null is) q) apart = rw is
post_no_decl (IsPost.post (IsPrim.eof is) q) apart = rw is
post_no_decl (IsPost.post (IsPrim.variable {t = t} name) q) apart = rw (name_term t _ name) (posts_asked (λ x y. is_decl term.Name x) (λ y. refl) (λ y. refl) q apart)
post_no_decl (IsPost.post (IsPrim.group is d end) q) apart = rw is

closes_no_decl : (x : Term) → closes x ≡ true → is_decl term.Name x ≡ false
closes_no_decl term.Name is = absurd (cc)
closes_no_decl term.Star is = absurd (cc)
closes_no_decl _ is = refl

pub closes_not_open : (x : Term) → closes x ≡ true → same term.Open x ≡ false
unfolding same
closes_not_open term.Open is = absurd (cc)
closes_not_open _ is = refl

post_begins_neither : {e : Expr} {t : Token} {ts us : List Token} → IsPost e ts (t ∷ us) → closes (term_of t) ≡ true → (begins_decl ts ≡ false) × (begins_call ts ≡ false)
post_begins_neither {t = t} d ends = (post_no_decl d (closes_no_decl (term_of t) ends), post_no_call d (closes_not_open (term_of t) ends))

place_begins_neither : {e : Expr} {t : Token} {ts us : List Token} → IsPlace e ts (t ∷ us) → closes (term_of t) ≡ true → (begins_decl ts ≡ false) × (begins_call ts ≡ false)
place_begins_neither (IsPlace.post d) ends = post_begins_neither d ends
place_begins_neither (IsPlace.deref is d) ends = (rw is, rw is)

step_begins_neither : (x : Term) (o : Op) → step_of x ≡ Some o → (y z w : Term) → (is_decl x y ≡ false) × (is_call x y z w ≡ false)
step_begins_neither term.PlusPlus o is y z w = (refl, refl)
step_begins_neither term.MinusMinus o is y z w = (refl, refl)
step_begins_neither _ o is y z w = absurd (cc)

pub simple_begins : {s : Simple} {ts us : List Token} → IsSimple s ts us → (begins_decl ts ≡ false) × (begins_call ts ≡ false)
simple_begins (IsSimple.put {t = t} d put r) = place_begins_neither d (ap closes put)
simple_begins (IsSimple.change {o = o} {t = t} d change a) = place_begins_neither d (change_closes (term_of t) o change)
simple_begins (IsSimple.step_behind {o = o} {t = t} d step) = post_begins_neither d (step_closes (term_of t) o step)
simple_begins (IsSimple.step_before {o = o} {t = t} step d) = step_begins_neither (term_of t) o step _ _ _

-- declarations

-- what stands behind a declarator
abbrev pub ends_declr : Term → Bool
ends_declr term.Semicolon = true
ends_declr term.Comma = true
ends_declr _ = false

pub declr_closes : (x : Term) → ends_declr x ≡ true → closes x ≡ true
declr_closes term.Semicolon is = refl
declr_closes term.Comma is = refl
declr_closes _ is = absurd (cc)

pub declr_not_put : (x : Term) → ends_declr x ≡ true → same term.Put x ≡ false
unfolding same
declr_not_put term.Put is = absurd (cc)
declr_not_put _ is = refl

declr_complete : {b : Base} {f : Token} {d : Declr} {t : Token} {ts us : List Token} → IsDeclr b f d ts (t ∷ us) → (depth : ℕ) → length ts ≤ depth
    → ends_declr (term_of t) ≡ true → read_declr depth (spec b f 0 None) ts ≡ Some (d, t ∷ us)
unfolding read_declr
declr_complete {t = t} (IsDeclr.bare stars name) depth enough ends = rw (stars_complete stars name, declr_not_put (term_of t) ends)
declr_complete {t = t} {us = us} (IsDeclr.given stars name put r) depth enough ends =
    rw (
      stars_complete stars name,
      put,
      same_self term.Put,
      right_complete r depth (omega (arith, enough, stars_shorter stars)) (closed 6 t us (term_of t) refl (declr_closes (term_of t) ends)) (closes_not_open (term_of t) (declr_closes (term_of t) ends)),
    )

last_read : {d : Declr} {t : Token} {us : List Token} (depth : ℕ) (s : Spec) (n : ℕ) (front : List Declr) (ts : List Token) → read_declr depth s ts ≡ Some (d, t ∷ us)
    → term_of t ≡ term.Semicolon → read_declrs depth s (suc n) front ts ≡ Some (front ++ d ∷ [], t ∷ us)
unfolding read_declrs same
last_read depth s n front ts read is = rw (read, is)

more_read : {d : Declr} {t : Token} {us vs : List Token} (depth : ℕ) (s : Spec) (n : ℕ) (front others : List Declr) (ts : List Token)
    → read_declr depth s ts ≡ Some (d, t ∷ us) → term_of t ≡ term.Comma → read_declrs depth s n (front ++ d ∷ []) us ≡ Some ((front ++ d ∷ []) ++ others, vs)
    → read_declrs depth s (suc n) front ts ≡ Some (front ++ d ∷ others, vs)
unfolding read_declrs same
more_read {d = d} {vs = vs} depth s n front others ts read is behind = rw (read, is) (behind ∙ ap (λ l. Some (l, vs)) (append_assoc front (d ∷ []) others))

declrs_complete : {b : Base} {f : Token} {ds : List Declr} {t : Token} {ts us : List Token} → IsDeclrs b f ds ts (t ∷ us) → (depth n : ℕ) → length ts ≤ depth → length ts < n
    → term_of t ≡ term.Semicolon → (front : List Declr) → read_declrs depth (spec b f 0 None) n front ts ≡ Some (front ++ ds, t ∷ us)
declrs_complete d depth zero enough more semicolon front = absurd (omega (arith, more))
declrs_complete {b = b} {f = f} {ts = ts} (IsDeclrs.last d) depth (suc n) enough more semicolon front =
    last_read depth (spec b f 0 None) n front ts (declr_complete d depth enough (ap ends_declr semicolon)) semicolon
declrs_complete {b = b} {f = f} {ts = ts} (IsDeclrs.more {d = x} d comma q) depth (suc n) enough more semicolon front =
    more_read depth (spec b f 0 None) n front _ ts (declr_complete d depth enough (ap ends_declr comma)) comma
    (declrs_complete q depth n (omega (arith, enough, declr_shorter d)) (omega (arith, more, declr_shorter d)) semicolon (front ++ x ∷ []))

pub decl_complete : {ds : List Declr} {t : Token} {ts us : List Token} → IsDecl ds ts (t ∷ us) → (depth : ℕ) → length ts ≤ depth → term_of t ≡ term.Semicolon → read_decl depth ts ≡ Some (ds, t ∷ us)
unfolding read_decl
decl_complete (IsDecl.decl {f = f} {ts = ts} b d) depth enough semicolon =
    rw (base_complete b) (declrs_complete d depth (length (f ∷ ts)) (omega (arith, enough, base_shorter b)) (base_shorter b) semicolon [])

pub stars_begin : {stars : ℕ} {n : Token} {text : List ℕ} {ts us : List Token} → IsStars stars ts (n ∷ us) → n.kind ≡ kind.Name text → is_decl term.Name (next ts) ≡ true
stars_begin {n = n} {text = text} IsStars.none name = rw (name_term n text name)
stars_begin (IsStars.star is) name = rw is

declr_begins : {b : Base} {f : Token} {d : Declr} {ts us : List Token} → IsDeclr b f d ts us → is_decl term.Name (next ts) ≡ true
declr_begins (IsDeclr.bare stars name) = stars_begin stars name
declr_begins (IsDeclr.given stars name put r) = stars_begin stars name

pub declrs_begin : {b : Base} {f : Token} {ds : List Declr} {ts us : List Token} → IsDeclrs b f ds ts us → is_decl term.Name (next ts) ≡ true
declrs_begin (IsDeclrs.last d) = declr_begins d
declrs_begin (IsDeclrs.more d comma q) = declr_begins d

pub decl_begins : {ds : List Declr} {ts us : List Token} → IsDecl ds ts us → begins_decl ts ≡ true
decl_begins (IsDecl.decl (IsBase.int is) d) = rw is
decl_begins (IsDecl.decl (IsBase.tag is name) d) = rw is
decl_begins (IsDecl.decl {f = f} (IsBase.alias name) d) = rw (name_term f _ name) (declrs_begin d)
