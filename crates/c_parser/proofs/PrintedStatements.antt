-- What is printed of a call, an assignment or a declaration is read as one alike it.
use Rattle.std.proofs.Common.{◌≡◌, ℕ, ◌<◌, ℤ, pos, Bool, true, false, List, [], ◌∷◌, ◌++◌, map, codes, Option, Some, None, option_map, length, refl, ap, sym, subst, ◌∙◌, arith}
use Rattle.std.specs.Ordering.{int_eq}
use Rattle.std.proofs.lemmas.Bool.Decides.{Decides-int_eq}
use Rattle.c_lexer.specs.declared.token.Token.{Token}
use Rattle.c_lexer.specs.declared.token.Kind.{Kind}
use Rattle.c_lexer.specs.declared.token.Kind.TheVariants as kind
use Rattle.c_tree.specs.declared.expr.Op.{Op}
use Rattle.c_tree.specs.declared.expr.Op.TheVariants as op
use Rattle.c_tree.specs.declared.tree.Arg.{Arg}
use Rattle.c_tree.specs.declared.tree.Base.{Base}
use Rattle.c_tree.specs.declared.tree.Base.TheVariants as base
use Rattle.c_tree.specs.declared.tree.Call.{Call}
use Rattle.c_tree.specs.declared.tree.Call.TheVariants as call
use Rattle.c_tree.specs.declared.tree.Declr.{Declr}
use Rattle.c_tree.specs.declared.tree.Expr.{Expr, Expr-F, roll-Expr, out-Expr, roll-out-Expr}
use Rattle.c_tree.specs.declared.tree.Expr.TheVariants as expr
use Rattle.c_tree.specs.declared.tree.Expr.TheOpen.{Const, Null, Var, Field, Deref, Index, Unary, Binary}
use Rattle.c_tree.specs.declared.tree.Right.{Right}
use Rattle.c_tree.specs.declared.tree.Right.TheVariants as right
use Rattle.c_tree.specs.declared.tree.Simple.{Simple}
use Rattle.c_tree.specs.declared.tree.Size.{Size}
use Rattle.c_tree.specs.declared.tree.Spec.{Spec}
use Rattle.c_tree.specs.declared.tree.Unit.{Unit as Counted}
use Rattle.c_tree.specs.declared.tree.Unit.TheVariants as unit
use Rattle.c_tree.specs.declared.tree.Word.{Word}
use Rattle.c_parser.specs.declared.term.Term.{Term}
use Rattle.c_parser.specs.declared.term.Term.TheVariants as term
use Rattle.c_parser.specs.Term.{term_of, word}
use Rattle.c_parser.specs.Expressions.{IsArg, arg}
use Rattle.c_parser.specs.Declarators.{IsBase, IsStars, IsOptionalName, IsCast, IsUnit, IsSize, spec}
use Rattle.c_parser.specs.Statements.{IsMoreArgs, IsArgs, IsCall, IsRight, IsPlace, IsSimple, IsDeclr, IsDeclrs, IsDecl, change_of, step_of, simple, one_at}
use Rattle.c_parser.specs.Alike.{moved_base, moved_word, moved_spec, moved_arg, moved_unit, moved_size, moved_call, moved_right, moved_declr, moved_simple}
use Rattle.c_parser.specs.Printed.{key, mark, within, each, maybe, printed_expr, printed_arg, printed_base, printed_stars, printed_word, printed_spec, printed_unit, printed_count, printed_size, behind_comma, printed_args, printed_cast, printed_call, printed_right, op_kind, is_one, by_one, step_kind, place_room, printed_by, printed_simple, printed_given, printed_declr, next_declr, printed_decl}
use Rattle.c_parser.proofs.Shorter.{level_shorter, post_shorter, unary_shorter}
use Rattle.c_parser.proofs.Spelled.{Spells, Split, split, spelled}
use Rattle.c_parser.proofs.PrintedExpressions.{Again, bare, bare_const, bare_deref, expr_again, level_unary, print_deref}

-- no offset
abbrev pub none_at : ℕ → ℕ
none_at at = 0

-- these tokens are of something alike x
pub record Like {X : Type 0} (Is : X → List Token → List Token → Type 0) (unplaced : X → X) (x : X) (ts us : List Token) : Type 0 where
  pub other : X
  pub alike : unplaced other ≡ unplaced x
  pub is : Is other ts us

-- so are all tokens of what is printed of x
abbrev pub Back : {X : Type 0} → (X → List Token → List Token → Type 0) → (X → X) → (X → List Kind) → X → Type 0
Back Is unplaced printed x = (ts us : List Token) → Spells (printed x) ts us → Like Is unplaced x ts us

-- expressions where they stand

arg_on : (a : Arg) (ts us : List Token) → Again 7 a.expr ts us → Like IsArg (moved_arg none_at) a ts us
arg_on a [] us e = absurd (let less = level_shorter e.is in omega (arith, less))
arg_on a (t ∷ ts) us e = record { other = arg e.other t; alike = ap (λ (x : Expr). record { expr = x; at = 0 }) e.alike; is = IsArg.argument e.is }

pub arg_again : (a : Arg) → Back IsArg (moved_arg none_at) printed_arg a
arg_again a ts us d = arg_on a ts us (expr_again a.expr 7 ts us d)

-- types

pub base_again : {b : Base} {ts us : List Token} → IsBase b ts us → Back IsBase (moved_base none_at) printed_base b
base_again (IsBase.int is) _ _ (Spells.more {t = t} here Spells.done) = record { other = base.Int; alike = refl; is = IsBase.int (spelled t term.Int here refl) }
base_again (IsBase.tag is name) _ _ (Spells.more {t = t} here (Spells.more {t = n} named Spells.done)) =
    record { other = base.Tag (word _ n); alike = refl; is = IsBase.tag (spelled t term.Struct here refl) named }
base_again (IsBase.alias name) _ _ (Spells.more {t = n} named Spells.done) = record { other = base.Alias (word _ n); alike = refl; is = IsBase.alias named }

pub stars_again : {stars : ℕ} {ts us : List Token} → IsStars stars ts us → (vs ws : List Token) → Spells (printed_stars stars) vs ws → IsStars stars vs ws
stars_again IsStars.none _ _ Spells.done = IsStars.none
stars_again (IsStars.star is) _ _ (Spells.more {t = t} here Spells.done) = IsStars.star (spelled t term.Star here refl)

pub optional_name_again : {name : Option Word} {ts us : List Token} → IsOptionalName name ts us → Back IsOptionalName (option_map (moved_word none_at)) (maybe printed_word) name
optional_name_again IsOptionalName.none _ _ Spells.done = record { other = None; alike = refl; is = IsOptionalName.none }
optional_name_again (IsOptionalName.named is) _ _ (Spells.more {t = n} named Spells.done) = record { other = Some (word _ n); alike = refl; is = IsOptionalName.named named }

-- a base begins with a token
pub record Begun (b : Base) (ts us : List Token) : Type 0 where
  pub first : Token
  pub rest : List Token
  pub here : ts ≡ first ∷ rest
  pub is : IsBase b (first ∷ rest) us

pub base_begun : {b : Base} {ts us : List Token} → IsBase b ts us → Begun b ts us
base_begun (IsBase.int {t = t} {ts = ts} is) = record { first = t; rest = ts; here = refl; is = IsBase.int is }
base_begun (IsBase.tag {t = t} {n = n} {ts = ts} is name) = record { first = t; rest = n ∷ ts; here = refl; is = IsBase.tag is name }
base_begun (IsBase.alias {t = t} {ts = ts} name) = record { first = t; rest = ts; here = refl; is = IsBase.alias name }

-- requests

cast_on : (b : Base) (t : Token) {o : Token} {ts us vs ws : List Token} → o.kind ≡ mark (codes "(") → Like IsBase (moved_base none_at) b ts us
    → Spells (mark (codes "*") ∷ []) us vs → Spells (mark (codes ")") ∷ []) vs ws → Like IsCast (option_map (moved_spec none_at)) (Some (spec b t 1 None)) (o ∷ ts) ws
cast_on b t {o} {ts} {us} {vs} {ws} opens l (Spells.more {t = s} star Spells.done) (Spells.more {t = c} close Spells.done) =
    let begun = base_begun l.is in
    subst (λ (ts : List Token). Like IsCast (option_map (moved_spec none_at)) (Some (spec b t 1 None)) (o ∷ ts) ws) (sym begun.here) (record {
      other = Some (spec l.other begun.first 1 None);
      alike = ap (λ (x : Base). Some (record { base = x; stars = 1; name = None; at = 0 })) l.alike;
      is = IsCast.cast (spelled o term.Open opens refl) begun.is (spelled s term.Star star refl) (spelled c term.Close close refl);
    })

cast_within : {b : Base} (t : Token) {vs ws : List Token} → IsBase b vs ws → {ts us : List Token} → Spells (printed_cast (spec b t 1 None)) ts us
    → Like IsCast (option_map (moved_spec none_at)) (Some (spec b t 1 None)) ts us
cast_within {b} t p (Spells.more opens d) =
    let out = split (printed_spec (spec b t 1 None)) (mark (codes ")") ∷ []) d in
    let s = split (printed_base b) (mark (codes "*") ∷ []) out.front in
    cast_on b t opens (base_again p _ _ s.front) s.back out.back

pub cast_again : {c : Option Spec} {ts us : List Token} → IsCast c ts us → Back IsCast (option_map (moved_spec none_at)) (maybe printed_cast) c
cast_again IsCast.none _ _ Spells.done = record { other = None; alike = refl; is = IsCast.none }
cast_again (IsCast.cast {t = t} is p star close) ts us d = cast_within t p d

abbrev pub IsUnitAt : Counted → List Token → List Token → Type 0
IsUnitAt u ts us = (at : ℕ) × IsUnit u at ts us

unit_on : (b : Base) (t : Token) {z o : Token} {ts us vs : List Token} → z.kind ≡ key (codes "sizeof") → o.kind ≡ mark (codes "(") → Like IsBase (moved_base none_at) b ts us
    → Spells (mark (codes ")") ∷ []) us vs → Like IsUnitAt (moved_unit none_at) (unit.Of (spec b t 0 None)) (z ∷ o ∷ ts) vs
unit_on b t {z} {o} {ts} {us} {vs} word opens l (Spells.more {t = c} close Spells.done) =
    let begun = base_begun l.is in
    subst (λ (ts : List Token). Like IsUnitAt (moved_unit none_at) (unit.Of (spec b t 0 None)) (z ∷ o ∷ ts) vs) (sym begun.here) (record {
      other = unit.Of (spec l.other begun.first 0 None);
      alike = ap (λ (x : Base). unit.Of (record { base = x; stars = 0; name = None; at = 0 })) l.alike;
      is = (z.start, IsUnit.of_type (spelled z term.Sizeof word refl) (spelled o term.Open opens refl) begun.is (spelled c term.Close close refl));
    })

unit_within : {b : Base} (t : Token) {vs ws : List Token} → IsBase b vs ws → {ts us : List Token} → Spells (printed_unit (unit.Of (spec b t 0 None))) ts us
    → Like IsUnitAt (moved_unit none_at) (unit.Of (spec b t 0 None)) ts us
unit_within {b} t p (Spells.more word (Spells.more opens d)) =
    let out = split (printed_spec (spec b t 0 None)) (mark (codes ")") ∷ []) d in
    unit_ended b t p word opens (split (printed_base b) [] out.front) out.back
  where
    unit_ended : (b : Base) (t : Token) {vs ws : List Token} → IsBase b vs ws → {z o : Token} {ts us vs : List Token} → z.kind ≡ key (codes "sizeof") → o.kind ≡ mark (codes "(")
        → Split (printed_base b) [] ts us → Spells (mark (codes ")") ∷ []) us vs → Like IsUnitAt (moved_unit none_at) (unit.Of (spec b t 0 None)) (z ∷ o ∷ ts) vs
    unit_ended b t p word opens s close = unit_closed b t p word opens s.front s.back close
      where
        unit_closed : (b : Base) (t : Token) {vs ws : List Token} → IsBase b vs ws → {z o : Token} {ts us vs ws : List Token} → z.kind ≡ key (codes "sizeof") → o.kind ≡ mark (codes "(")
            → Spells (printed_base b) ts us → Spells [] us vs → Spells (mark (codes ")") ∷ []) vs ws → Like IsUnitAt (moved_unit none_at) (unit.Of (spec b t 0 None)) (z ∷ o ∷ ts) ws
        unit_closed b t p word opens front Spells.done close = unit_on b t word opens (base_again p _ _ front) close

star_unit : (w : Word) {ts us : List Token} → Spells (printed_unit (unit.Star w)) ts us → Like IsUnitAt (moved_unit none_at) (unit.Star w) ts us
star_unit w (Spells.more {t = z} is (Spells.more {t = s} star (Spells.more {t = n} name Spells.done))) =
    record { other = unit.Star (word w.text n); alike = refl; is = (z.start, IsUnit.of_star (spelled z term.Sizeof is refl) (spelled s term.Star star refl) name) }

pub unit_again : {u : Counted} {at : ℕ} {ts us : List Token} → IsUnit u at ts us → Back IsUnitAt (moved_unit none_at) printed_unit u
unit_again (IsUnit.of_type {t = t} is opens p close) ts us d = unit_within t p d
unit_again (IsUnit.of_star_within {n = n} {text = text} is opens star name close) ts us d = star_unit (word text n) d
unit_again (IsUnit.of_star {n = n} {text = text} is star name) ts us d = star_unit (word text n) d

abbrev request : Counted → Option Expr → Size
request u count = record { unit = u; count = count; at = 0 }

size_one : (u : Counted) (at : ℕ) {ts us : List Token} → Like IsUnitAt (moved_unit none_at) u ts us → Like IsSize (moved_size none_at) (record { unit = u; count = None; at = at }) ts us
size_one u at l = record { other = record { unit = l.other; count = None; at = l.is.0 }; alike = ap (λ (x : Counted). request x None) l.alike; is = IsSize.one l.is.1 }

size_count : (u : Counted) (e : Expr) (at : ℕ) {ts us vs ws : List Token} → Again 2 e ts us → Spells (mark (codes "*") ∷ []) us vs → Like IsUnitAt (moved_unit none_at) u vs ws
    → Like IsSize (moved_size none_at) (record { unit = u; count = Some e; at = at }) ts ws
size_count u e at a (Spells.more {t = s} star Spells.done) l = record {
  other = record { unit = l.other; count = Some a.other; at = l.is.0 };
  alike = ap (λ (x : Counted). request x (Some (bare a.other))) l.alike ∙ ap (λ (x : Expr). request (moved_unit none_at u) (Some x)) a.alike;
  is = IsSize.count_before a.is (spelled s term.Star star refl) l.is.1;
}

size_counted : {u : Counted} (e : Expr) (at : ℕ) {unit_at : ℕ} {vs ws : List Token} → IsUnit u unit_at vs ws
    → Back IsSize (moved_size none_at) printed_size (record { unit = u; count = Some e; at = at })
size_counted {u} e at p ts us d =
    let out = split (printed_count e) (printed_unit u) d in
    let s = split (printed_expr 2 e) (mark (codes "*") ∷ []) out.front in
    size_count u e at (expr_again e 2 ts s.middle s.front) s.back (unit_again p out.middle us out.back)

pub size_again : {z : Size} {ts us : List Token} → IsSize z ts us → Back IsSize (moved_size none_at) printed_size z
size_again (IsSize.one {u = u} {at = at} p) ts us d = size_one u at (unit_again p ts us d)
size_again (IsSize.count_before {e = e} {at = at} q is p) ts us d = size_counted e at p ts us d
size_again (IsSize.count_behind {e = e} {at = at} p is q) ts us d = size_counted e at p ts us d

-- calls

abbrev pub IsMoreArgsAt : List Arg → List Token → List Token → Type 0
IsMoreArgsAt args ts us = (at : ℕ) × IsMoreArgs args at ts us

abbrev pub IsArgsAt : List Arg → List Token → List Token → Type 0
IsArgsAt args ts us = (at : ℕ) × IsArgs args at ts us

no_more : {ts us : List Token} → Spells (mark (codes ")") ∷ []) ts us → Like IsMoreArgsAt (map (moved_arg none_at)) [] ts us
no_more (Spells.more {t = t} is Spells.done) = record { other = []; alike = refl; is = (t.start, IsMoreArgs.close (spelled t term.Close is refl)) }

more_on : (a : Arg) (args : List Arg) {t : Token} {ts us vs : List Token} → t.kind ≡ mark (codes ",") → Like IsArg (moved_arg none_at) a ts us → Like IsMoreArgsAt (map (moved_arg none_at)) args us vs
    → Like IsMoreArgsAt (map (moved_arg none_at)) (a ∷ args) (t ∷ ts) vs
more_on a args {t} is x rest = record {
  other = x.other ∷ rest.other;
  alike = ap (λ (b : Arg). b ∷ map (moved_arg none_at) rest.other) x.alike ∙ ap (λ (bs : List Arg). moved_arg none_at a ∷ bs) rest.alike;
  is = (rest.is.0, IsMoreArgs.comma (spelled t term.Comma is refl) x.is rest.is.1);
}

pub more_args_again : (args : List Arg) {ts us vs : List Token} → Spells (each behind_comma args) ts us → Spells (mark (codes ")") ∷ []) us vs → Like IsMoreArgsAt (map (moved_arg none_at)) args ts vs
more_args_again [] Spells.done close = no_more close
more_args_again (a ∷ args) (Spells.more {ts = ts} is d) close =
    let s = split (printed_arg a) (each behind_comma args) d in
    more_on a args is (arg_again a ts s.middle s.front) (more_args_again args s.back close)

args_on : (a : Arg) (args : List Arg) {ts us vs : List Token} → Like IsArg (moved_arg none_at) a ts us → Like IsMoreArgsAt (map (moved_arg none_at)) args us vs
    → Like IsArgsAt (map (moved_arg none_at)) (a ∷ args) ts vs
args_on a args x rest = record {
  other = x.other ∷ rest.other;
  alike = ap (λ (b : Arg). b ∷ map (moved_arg none_at) rest.other) x.alike ∙ ap (λ (bs : List Arg). moved_arg none_at a ∷ bs) rest.alike;
  is = (rest.is.0, IsArgs.some x.is rest.is.1);
}

no_args : {ts us : List Token} → Spells (mark (codes ")") ∷ []) ts us → Like IsArgsAt (map (moved_arg none_at)) [] ts us
no_args (Spells.more {t = t} is Spells.done) = record { other = []; alike = refl; is = (t.start, IsArgs.none (spelled t term.Close is refl)) }

pub args_again : (args : List Arg) {ts us vs : List Token} → Spells (printed_args args) ts us → Spells (mark (codes ")") ∷ []) us vs → Like IsArgsAt (map (moved_arg none_at)) args ts vs
args_again [] Spells.done close = no_args close
args_again (a ∷ args) {ts} d close =
    let s = split (printed_arg a) (each behind_comma args) d in
    args_on a args (arg_again a ts s.middle s.front) (more_args_again args s.back close)

user_again : (w : Word) (args : List Arg) (at : ℕ) → Back IsCall (moved_call none_at) printed_call (call.User w args at)
user_again w args at _ _ (Spells.more {t = n} name (Spells.more {t = o} opens d)) =
    let s = split (printed_args args) (mark (codes ")") ∷ []) d in
    let l = args_again args s.front s.back in
    record { other = call.User (word w.text n) l.other l.is.0; alike = ap (λ (xs : List Arg). call.User (record { text = w.text; at = 0 }) xs 0) l.alike; is = IsCall.user name (spelled o term.Open opens refl) l.is.1 }

getchar_again : (at : ℕ) → Back IsCall (moved_call none_at) printed_call (call.Getchar at)
getchar_again at _ _ (Spells.more {t = t} is (Spells.more {t = o} opens (Spells.more {t = c} close Spells.done))) =
    record { other = call.Getchar t.start; alike = refl; is = IsCall.getchar (spelled t term.Getchar is refl) (spelled o term.Open opens refl) (spelled c term.Close close refl) }

putchar_on : (a : Arg) (at : ℕ) {t o : Token} {ts us vs : List Token} → t.kind ≡ key (codes "putchar") → o.kind ≡ mark (codes "(") → Like IsArg (moved_arg none_at) a ts us
    → Spells (mark (codes ")") ∷ []) us vs → Like IsCall (moved_call none_at) (call.Putchar a at) (t ∷ o ∷ ts) vs
putchar_on a at {t} {o} is opens l (Spells.more {t = c} close Spells.done) = record {
  other = call.Putchar l.other t.start;
  alike = ap (λ (x : Arg). call.Putchar x 0) l.alike;
  is = IsCall.putchar (spelled t term.Putchar is refl) (spelled o term.Open opens refl) l.is (spelled c term.Close close refl);
}

putchar_again : (a : Arg) (at : ℕ) → Back IsCall (moved_call none_at) printed_call (call.Putchar a at)
putchar_again a at _ _ (Spells.more is (Spells.more {ts = ts} opens d)) =
    let s = split (printed_arg a) (mark (codes ")") ∷ []) d in
    putchar_on a at is opens (arg_again a ts s.middle s.front) s.back

printf_again : (text : List ℕ) (text_at : ℕ) (args : List Arg) (at end : ℕ) → Back IsCall (moved_call none_at) printed_call (call.Printf text text_at args at end)
printf_again text text_at args at end _ _ (Spells.more {t = t} is (Spells.more {t = o} opens (Spells.more {t = x} said d))) =
    let s = split (each behind_comma args) (mark (codes ")") ∷ []) d in
    let l = more_args_again args s.front s.back in
    record {
      other = call.Printf text x.start l.other t.start l.is.0;
      alike = ap (λ (xs : List Arg). call.Printf text 0 xs 0 0) l.alike;
      is = IsCall.printf (spelled t term.Printf is refl) (spelled o term.Open opens refl) said l.is.1;
    }

malloc_on : (cast : Option Spec) (size : Size) (at : ℕ) {t o : Token} {ts us vs ws : List Token} → Like IsCast (option_map (moved_spec none_at)) cast ts (t ∷ o ∷ us)
    → t.kind ≡ key (codes "malloc") → o.kind ≡ mark (codes "(") → Like IsSize (moved_size none_at) size us vs → Spells (mark (codes ")") ∷ []) vs ws
    → Like IsCall (moved_call none_at) (call.Malloc cast size at) ts ws
malloc_on cast size at {t} {o} l is opens m (Spells.more {t = c} close Spells.done) = record {
  other = call.Malloc l.other m.other t.start;
  alike = ap (λ (x : Option Spec). call.Malloc x (moved_size none_at m.other) 0) l.alike ∙ ap (λ (x : Size). call.Malloc (option_map (moved_spec none_at) cast) x 0) m.alike;
  is = IsCall.malloc l.is (spelled t term.Malloc is refl) (spelled o term.Open opens refl) m.is (spelled c term.Close close refl);
}

malloc_behind : (cast : Option Spec) {size : Size} (at : ℕ) {vs ws : List Token} → IsSize size vs ws → {ts us vs : List Token} → Like IsCast (option_map (moved_spec none_at)) cast ts us
    → Spells (key (codes "malloc") ∷ within (printed_size size)) us vs → Like IsCall (moved_call none_at) (call.Malloc cast size at) ts vs
malloc_behind cast {size} at p l (Spells.more is (Spells.more {ts = ts} opens d)) =
    let s = split (printed_size size) (mark (codes ")") ∷ []) d in
    malloc_on cast size at l is opens (size_again p ts s.middle s.front) s.back

pub call_again : {c : Call} {ts us : List Token} → IsCall c ts us → Back IsCall (moved_call none_at) printed_call c
call_again (IsCall.user {n = n} {text = text} {args = args} {at = at} name opens p) ts us d = user_again (word text n) args at ts us d
call_again (IsCall.getchar {t = t} is opens close) ts us d = getchar_again t.start ts us d
call_again (IsCall.putchar {t = t} {a = a} is opens p close) ts us d = putchar_again a t.start ts us d
call_again (IsCall.printf {t = t} {x = x} {text = text} {args = args} {at = at} is opens said p) ts us d = printf_again text x.start args t.start at ts us d
call_again (IsCall.malloc {cast = cast} {t = t} {size = size} q is opens p close) ts us d =
    let s = split (maybe printed_cast cast) (key (codes "malloc") ∷ within (printed_size size)) d in
    malloc_behind cast t.start p (cast_again q ts s.middle s.front) s.back

plain_again : (a : Arg) → Back IsRight (moved_right none_at) printed_right (right.Plain a)
plain_again a ts us d = let l = arg_again a ts us d in record { other = right.Plain l.other; alike = ap (λ (x : Arg). right.Plain x) l.alike; is = IsRight.plain l.is }

pub right_again : {r : Right} {ts us : List Token} → IsRight r ts us → Back IsRight (moved_right none_at) printed_right r
right_again (IsRight.plain {a = a} p) ts us d = plain_again a ts us d
right_again (IsRight.called p) ts us d = let l = call_again p ts us d in record { other = right.Call l.other; alike = ap (λ (x : Call). right.Call x) l.alike; is = IsRight.called l.is }

-- a place: a post, or `*` and a unary

abbrev PlaceBack : Expr-F Expr → Type 0
PlaceBack l = (ts us : List Token) → Spells (printed_expr (place_room l) (roll-Expr l)) ts us → Like IsPlace bare (roll-Expr l) ts us

post_place : (e : Expr) {ts us : List Token} → Again 0 e ts us → Like IsPlace bare e ts us
post_place e a = record { other = a.other; alike = a.alike; is = IsPlace.post a.is }

deref_place : (e : Expr) (at : ℕ) {ts us : List Token} → Spells (mark (codes "*") ∷ printed_expr 1 e) ts us → Like IsPlace bare (expr.Deref e at) ts us
deref_place e at {us = us} (Spells.more {t = t} {ts = ts} is d) =
    let a = expr_again e 1 ts us d in
    record {
      other = expr.Deref a.other t.start;
      alike = bare_deref a.other t.start ∙ ap (λ (x : Expr). expr.Deref x 0) a.alike ∙ sym (bare_deref e at);
      is = IsPlace.deref (spelled t term.Star is refl) (level_unary a.is);
    }

layer_place : (l : Expr-F Expr) → PlaceBack l
layer_place (Const n at) ts us d = post_place (roll-Expr (Const n at)) (expr_again (roll-Expr (Const n at)) 0 ts us d)
layer_place (Null at) ts us d = post_place (roll-Expr (Null at)) (expr_again (roll-Expr (Null at)) 0 ts us d)
layer_place (Var w) ts us d = post_place (roll-Expr (Var w)) (expr_again (roll-Expr (Var w)) 0 ts us d)
layer_place (Field e w at) ts us d = post_place (roll-Expr (Field e w at)) (expr_again (roll-Expr (Field e w at)) 0 ts us d)
layer_place (Index e i at) ts us d = post_place (roll-Expr (Index e i at)) (expr_again (roll-Expr (Index e i at)) 0 ts us d)
layer_place (Unary s e at) ts us d = post_place (roll-Expr (Unary s e at)) (expr_again (roll-Expr (Unary s e at)) 0 ts us d)
layer_place (Binary o a b at) ts us d = post_place (roll-Expr (Binary o a b at)) (expr_again (roll-Expr (Binary o a b at)) 0 ts us d)
layer_place (Deref e at) ts us d =
    subst (λ (z : Expr). Like IsPlace bare z ts us) (sym (expr.rolls-Deref e at))
    (deref_place e at (subst (λ (ks : List Kind). Spells ks ts us) (ap (printed_expr 1) (expr.rolls-Deref e at) ∙ print_deref 1 e at) d))

abbrev printed_place : Expr → List Kind
printed_place e = printed_expr (place_room (out-Expr e)) e

place_again : (e : Expr) → Back IsPlace bare printed_place e
place_again e ts us d =
    subst (λ (z : Expr). Like IsPlace bare z ts us) (roll-out-Expr e)
    (layer_place (out-Expr e) ts us (subst (λ (z : Expr). Spells (printed_expr (place_room (out-Expr e)) z) ts us) (sym (roll-out-Expr e)) d))

place_shorter : {e : Expr} {ts us : List Token} → IsPlace e ts us → length us < length ts
place_shorter (IsPlace.post d) = post_shorter d
place_shorter (IsPlace.deref is d) = let less = unary_shorter d in omega (arith, less)

abbrev RightBack : Right → Type 0
RightBack r = Back IsRight (moved_right none_at) printed_right r

change_spelled : (o : Op) (x : Term) → change_of x ≡ Some o → (t : Token) → t.kind ≡ op_kind o → change_of (term_of t) ≡ Some o
change_spelled op.Put term.PlusPut is t here = absurd (cc)
change_spelled op.Put term.MinusPut is t here = absurd (cc)
change_spelled op.Put term.StarPut is t here = absurd (cc)
change_spelled op.Put _ is t here = absurd (cc)
change_spelled op.Add x is t here = ap change_of (spelled t term.PlusPut here refl)
change_spelled op.Sub x is t here = ap change_of (spelled t term.MinusPut here refl)
change_spelled op.Mul x is t here = ap change_of (spelled t term.StarPut here refl)

abbrev unplaced_simple : Expr → Op → Right → Simple
unplaced_simple e o r = record { place = record { expr = e; at = 0 }; op = o; right = r; at = 0 }

simple_alike : (o : Op) (e f : Expr) (r q : Right) → bare f ≡ bare e → moved_right none_at q ≡ moved_right none_at r
    → unplaced_simple (bare f) o (moved_right none_at q) ≡ unplaced_simple (bare e) o (moved_right none_at r)
simple_alike o e f r q same like = ap (λ (x : Expr). unplaced_simple x o (moved_right none_at q)) same ∙ ap (λ (x : Right). unplaced_simple (bare e) o x) like

put_on : (e : Expr) (p : Token) (r : Right) (at : Token) (ts us : List Token) {t : Token} {vs : List Token} → Like IsPlace bare e ts (t ∷ us) → t.kind ≡ op_kind op.Put → Like IsRight (moved_right none_at) r us vs
    → Like IsSimple (moved_simple none_at) (simple e p op.Put r at) ts vs
put_on e p r at [] us l is m = absurd (let less = place_shorter l.is in omega (arith, less))
put_on e p r at (q ∷ ts) us {t} l is m = record {
  other = simple l.other q op.Put m.other t;
  alike = simple_alike op.Put e l.other r m.other l.alike m.alike;
  is = IsSimple.put l.is (spelled t term.Put is refl) m.is;
}

change_on : (e : Expr) (p : Token) (o : Op) (x : Term) → change_of x ≡ Some o → (a : Arg) (at : Token) (ts us : List Token) {t : Token} {vs : List Token} → Like IsPlace bare e ts (t ∷ us) → t.kind ≡ op_kind o
    → Like IsArg (moved_arg none_at) a us vs → Like IsSimple (moved_simple none_at) (simple e p o (right.Plain a) at) ts vs
change_on e p o x changes a at [] us l is m = absurd (let less = place_shorter l.is in omega (arith, less))
change_on e p o x changes a at (q ∷ ts) us {t} l is m = record {
  other = simple l.other q o (right.Plain m.other) t;
  alike = simple_alike o e l.other (right.Plain a) (right.Plain m.other) l.alike (ap (λ (y : Arg). right.Plain y) m.alike);
  is = IsSimple.change l.is (change_spelled o x changes t is) m.is;
}

put_behind : (e : Expr) (p : Token) {r : Right} (at : Token) → RightBack r → {ts us vs : List Token} → Like IsPlace bare e ts us → Spells (op_kind op.Put ∷ printed_right r) us vs
    → Like IsSimple (moved_simple none_at) (simple e p op.Put r at) ts vs
put_behind e p {r} at back {ts} {vs = vs} l (Spells.more {ts = us} is d) = put_on e p r at ts us l is (back us vs d)

change_behind : (e : Expr) (p : Token) (o : Op) (x : Term) → change_of x ≡ Some o → (a : Arg) (at : Token) {ts us vs : List Token} → Like IsPlace bare e ts us → Spells (op_kind o ∷ printed_right (right.Plain a)) us vs
    → Like IsSimple (moved_simple none_at) (simple e p o (right.Plain a) at) ts vs
change_behind e p o x changes a at {ts} {vs = vs} l (Spells.more {ts = us} is d) = change_on e p o x changes a at ts us l is (arg_again a us vs d)

-- a step: what is changed by 1

int_one : (n : ℤ) → int_eq n (pos 1) ≡ true → n ≡ pos 1
int_one n is = (Decides-int_eq n (pos 1)).0 is

one_layer : (l : Expr-F Expr) → is_one l ≡ true → bare (roll-Expr l) ≡ expr.Const (pos 1) 0
one_layer (Const n at) is = ap bare (expr.rolls-Const n at) ∙ bare_const n at ∙ ap (λ (z : ℤ). expr.Const z 0) (int_one n is)
one_layer _ is = absurd (cc)

one_alike : (e : Expr) → is_one (out-Expr e) ≡ true → bare e ≡ expr.Const (pos 1) 0
one_alike e is = ap bare (sym (roll-out-Expr e)) ∙ one_layer (out-Expr e) is

right_one : (r : Right) (t : Token) → by_one r ≡ true → moved_right none_at (one_at t) ≡ moved_right none_at r
right_one (right.Plain a) t is = ap (λ (x : Expr). right.Plain (record { expr = x; at = 0 })) (bare_const (pos 1) t.start ∙ sym (one_alike a.expr is))
right_one (right.Call c) t is = absurd (cc)

some_same : {A : Type 0} {x y : A} → Some x ≡ Some y → y ≡ x
some_same is = cc

step_spelled : (o : Op) (b : Bool) (k : Kind) → step_kind o b ≡ Some k → (t : Token) → t.kind ≡ k → (step_of (term_of t) ≡ Some o) × (b ≡ true)
step_spelled op.Add true k is t here = (ap step_of (spelled t term.PlusPlus (here ∙ some_same is) refl), refl)
step_spelled op.Sub true k is t here = (ap step_of (spelled t term.MinusMinus (here ∙ some_same is) refl), refl)
step_spelled op.Add false k is t here = absurd (cc)
step_spelled op.Sub false k is t here = absurd (cc)
step_spelled op.Put b k is t here = absurd (cc)
step_spelled op.Mul b k is t here = absurd (cc)

step_on : (e : Expr) (p : Token) (o : Op) (r : Right) (at : Token) → by_one r ≡ true → {t : Token} (ts : List Token) {us : List Token} → step_of (term_of t) ≡ Some o → Again 1 e ts us
    → Like IsSimple (moved_simple none_at) (simple e p o r at) (t ∷ ts) us
step_on e p o r at one [] is a = absurd (let less = level_shorter a.is in omega (arith, less))
step_on e p o r at one {t} (q ∷ ts) is a = record {
  other = simple a.other q o (one_at t) t;
  alike = simple_alike o e a.other r (one_at t) a.alike (right_one r t one);
  is = IsSimple.step_before is (level_unary a.is);
}

step_behind : (e : Expr) (p : Token) (o : Op) (r : Right) (at : Token) (k : Kind) → step_kind o (by_one r) ≡ Some k → {ts us : List Token} → Spells (k ∷ printed_expr 1 e) ts us
    → Like IsSimple (moved_simple none_at) (simple e p o r at) ts us
step_behind e p o r at k steps {us = us} (Spells.more {t = t} {ts = ts} is d) =
    let s = step_spelled o (by_one r) k steps t is in
    step_on e p o r at s.1 ts s.0 (expr_again e 1 ts us d)

-- an assignment as it is printed, a step or not

abbrev SimpleBack : Simple → Type 0
SimpleBack s = Back IsSimple (moved_simple none_at) printed_simple s

put_again : (e : Expr) (p : Token) {r : Right} (at : Token) → RightBack r → SimpleBack (simple e p op.Put r at)
put_again e p {r} at back ts us d =
    let s = split (printed_place e) (op_kind op.Put ∷ printed_right r) d in
    put_behind e p at back (place_again e ts s.middle s.front) s.back

change_at : (e : Expr) (p : Token) (o : Op) (x : Term) → change_of x ≡ Some o → (a : Arg) (at : Token) (k : Option Kind) → step_kind o (by_one (right.Plain a)) ≡ k
    → {ts us : List Token} → Spells (printed_by (simple e p o (right.Plain a) at) k) ts us → Like IsSimple (moved_simple none_at) (simple e p o (right.Plain a) at) ts us
change_at e p o x changes a at (Some k) steps d = step_behind e p o (right.Plain a) at k steps d
change_at e p o x changes a at None steps {ts} d =
    let s = split (printed_place e) (op_kind o ∷ printed_right (right.Plain a)) d in
    change_behind e p o x changes a at (place_again e ts s.middle s.front) s.back

change_again : (e : Expr) (p : Token) (o : Op) (x : Term) → change_of x ≡ Some o → (a : Arg) (at : Token) → SimpleBack (simple e p o (right.Plain a) at)
change_again e p o x changes a at ts us d = change_at e p o x changes a at (step_kind o (by_one (right.Plain a))) refl d

step_changes : (x : Term) (o : Op) → step_of x ≡ Some o → (y : Term) × (change_of y ≡ Some o)
step_changes term.PlusPlus op.Add is = (term.PlusPut, refl)
step_changes term.MinusMinus op.Sub is = (term.MinusPut, refl)
step_changes _ _ is = absurd (cc)

step_again : (e : Expr) (p : Token) (o : Op) (t : Token) → step_of (term_of t) ≡ Some o → SimpleBack (simple e p o (one_at t) t)
step_again e p o t is = let c = step_changes (term_of t) o is in change_again e p o c.0 c.1 (arg (expr.Const (pos 1) t.start) t) t

pub simple_again : {s : Simple} {ts us : List Token} → IsSimple s ts us → SimpleBack s
simple_again (IsSimple.put {e = e} {p = p} {t = t} d is q) = put_again e p t (right_again q)
simple_again (IsSimple.change {e = e} {a = a} {o = o} {p = p} {t = t} d is q) = change_again e p o (term_of t) is a t
simple_again (IsSimple.step_behind {e = e} {o = o} {p = p} {t = t} d is) = step_again e p o t is
simple_again (IsSimple.step_before {e = e} {o = o} {p = p} {t = t} is d) = step_again e p o t is

-- declarations

abbrev declared : Base → ℕ → List ℕ → Option Right → Declr
declared b stars text r = record { spec = record { base = b; stars = stars; name = Some (record { text = text; at = 0 }); at = 0 }; right = r; at = 0 }

-- what is printed of a declarator, behind a base alike its own
abbrev pub DeclrBack : Declr → Type 0
DeclrBack d = (b : Base) (f : Token) → moved_base none_at b ≡ moved_base none_at d.spec.base → (ts us : List Token) → Spells (printed_declr d) ts us → Like (IsDeclr b f) (moved_declr none_at) d ts us

pub record Starred (stars : ℕ) (text : List ℕ) (ts us : List Token) : Type 0 where
  pub name : Token
  pub rest : List Token
  pub is : IsStars stars ts (name ∷ us)
  pub named : name.kind ≡ kind.Name text

starred_on : {stars : ℕ} (text : List ℕ) {ts us vs : List Token} → IsStars stars ts us → Spells (kind.Name text ∷ []) us vs → Starred stars text ts vs
starred_on text {ts} p (Spells.more {t = n} is Spells.done) = record { name = n; rest = ts; is = p; named = is }

pub starred_again : {stars : ℕ} {vs ws : List Token} → IsStars stars vs ws → (text : List ℕ) {ts us : List Token} → Spells (printed_stars stars ++ kind.Name text ∷ []) ts us → Starred stars text ts us
starred_again {stars} p text {ts} d =
    let s = split (printed_stars stars) (kind.Name text ∷ []) d in
    starred_on text (stars_again p ts s.middle s.front) s.back

bare_on : (c : Base) (g n : Token) {stars : ℕ} (text : List ℕ) {vs ws : List Token} → IsStars stars vs ws → (b : Base) (f : Token) → moved_base none_at b ≡ moved_base none_at c
    → {ts us vs : List Token} → Spells (printed_stars stars ++ kind.Name text ∷ []) ts us → Spells [] us vs
    → Like (IsDeclr b f) (moved_declr none_at) (record { spec = spec c g stars (Some (word text n)); right = None; at = n.start }) ts vs
bare_on c g n {stars} text p b f like d Spells.done =
    let s = starred_again p text d in
    record {
      other = record { spec = spec b f stars (Some (word text s.name)); right = None; at = s.name.start };
      alike = ap (λ (x : Base). declared x stars text None) like;
      is = IsDeclr.bare s.is s.named;
    }

given_on : (c : Base) (g n at : Token) {stars : ℕ} (text : List ℕ) {vs ws : List Token} → IsStars stars vs ws → {r : Right} → RightBack r → (b : Base) (f : Token) → moved_base none_at b ≡ moved_base none_at c
    → {ts us vs : List Token} → Spells (printed_stars stars ++ kind.Name text ∷ []) ts us → Spells (printed_given r) us vs
    → Like (IsDeclr b f) (moved_declr none_at) (record { spec = spec c g stars (Some (word text n)); right = Some r; at = at.start }) ts vs
given_on c g n at {stars} text p {r} back b f like {vs = vs} d (Spells.more {t = t} {ts = us} is q) =
    let s = starred_again p text d in
    let l = back us vs q in
    record {
      other = record { spec = spec b f stars (Some (word text s.name)); right = Some l.other; at = t.start };
      alike = ap (λ (x : Base). declared x stars text (Some (moved_right none_at l.other))) like ∙ ap (λ (x : Right). declared (moved_base none_at c) stars text (Some x)) l.alike;
      is = IsDeclr.given s.is s.named (spelled t term.Put is refl) l.is;
    }

pub declr_again : {c : Base} {g : Token} {d : Declr} {ts us : List Token} → IsDeclr c g d ts us → DeclrBack d
declr_again {c} {g} (IsDeclr.bare {n = n} {stars = stars} {text = text} p name) b f like ts us d =
    let s = split (printed_stars stars ++ kind.Name text ∷ []) [] d in
    bare_on c g n text p b f like s.front s.back
declr_again {c} {g} (IsDeclr.given {n = n} {t = t} {stars = stars} {text = text} {r = r} p name is q) b f like ts us d =
    let s = split (printed_stars stars ++ kind.Name text ∷ []) (printed_given r) d in
    given_on c g n t text p (right_again q) b f like s.front s.back

declr_base : {b : Base} {f : Token} {d : Declr} {ts us : List Token} → IsDeclr b f d ts us → d.spec.base ≡ b
declr_base (IsDeclr.bare p name) = refl
declr_base (IsDeclr.given p name is q) = refl

-- all declarators behind a base alike theirs
abbrev pub printed_declrs : List Declr → List Kind
printed_declrs [] = []
printed_declrs (d ∷ ds) = printed_declr d ++ each next_declr ds

abbrev pub DeclrsBack : Base → List Declr → Type 0
DeclrsBack c ds = (b : Base) (f : Token) → moved_base none_at b ≡ moved_base none_at c → (ts us : List Token) → Spells (printed_declrs ds) ts us → Like (IsDeclrs b f) (map (moved_declr none_at)) ds ts us

last_declr : {b : Base} {f : Token} (d : Declr) {ts us vs : List Token} → Like (IsDeclr b f) (moved_declr none_at) d ts us → Spells [] us vs → Like (IsDeclrs b f) (map (moved_declr none_at)) (d ∷ []) ts vs
last_declr d l Spells.done = record { other = l.other ∷ []; alike = ap (λ (x : Declr). x ∷ []) l.alike; is = IsDeclrs.last l.is }

more_declrs : {b : Base} {f : Token} (d : Declr) (ds : List Declr) {t : Token} {ts us vs : List Token} → Like (IsDeclr b f) (moved_declr none_at) d ts (t ∷ us) → t.kind ≡ mark (codes ",")
    → Like (IsDeclrs b f) (map (moved_declr none_at)) ds us vs → Like (IsDeclrs b f) (map (moved_declr none_at)) (d ∷ ds) ts vs
more_declrs d ds {t} l is rest = record {
  other = l.other ∷ rest.other;
  alike = ap (λ (x : Declr). x ∷ map (moved_declr none_at) rest.other) l.alike ∙ ap (λ (xs : List Declr). moved_declr none_at d ∷ xs) rest.alike;
  is = IsDeclrs.more l.is (spelled t term.Comma is refl) rest.is;
}

declrs_behind : (c : Base) (d e : Declr) (ds : List Declr) → DeclrsBack c (e ∷ ds) → (b : Base) (f : Token) → moved_base none_at b ≡ moved_base none_at c → {ts us vs : List Token}
    → Like (IsDeclr b f) (moved_declr none_at) d ts us → Spells (next_declr e ++ each next_declr ds) us vs → Like (IsDeclrs b f) (map (moved_declr none_at)) (d ∷ e ∷ ds) ts vs
declrs_behind c d e ds back b f like {vs = vs} l (Spells.more {ts = us} is q) = more_declrs d (e ∷ ds) l is (back b f like us vs q)

pub declrs_again : {c : Base} {g : Token} {ds : List Declr} {ts us : List Token} → IsDeclrs c g ds ts us → DeclrsBack c ds
declrs_again {c} (IsDeclrs.last {d = d} p) = λ b f like ts us q.
    let s = split (printed_declr d) [] q in
    last_declr d (declr_again p b f (like ∙ ap (moved_base none_at) (sym (declr_base p))) ts s.middle s.front) s.back
declrs_again {c} (IsDeclrs.more {d = d} {others = []} p is rest) = elim rest [ ]
declrs_again {c} (IsDeclrs.more {d = d} {others = e ∷ ds} p is rest) = λ b f like ts us q.
    let s = split (printed_declr d) (each next_declr (e ∷ ds)) q in
    declrs_behind c d e ds (declrs_again rest) b f like (declr_again p b f (like ∙ ap (moved_base none_at) (sym (declr_base p))) ts s.middle s.front) s.back

declrs_base : {b : Base} {f : Token} {d : Declr} {ds : List Declr} {ts us : List Token} → IsDeclrs b f (d ∷ ds) ts us → d.spec.base ≡ b
declrs_base (IsDeclrs.last p) = declr_base p
declrs_base (IsDeclrs.more p is rest) = declr_base p

decl_on : (c : Base) (d : Declr) (ds : List Declr) → DeclrsBack c (d ∷ ds) → {ts us vs : List Token} → Like IsBase (moved_base none_at) c ts us → Spells (printed_declrs (d ∷ ds)) us vs
    → Like IsDecl (map (moved_declr none_at)) (d ∷ ds) ts vs
decl_on c d ds back {us = us} {vs = vs} l q =
    let begun = base_begun l.is in
    let rest = back l.other begun.first l.alike us vs q in
    subst (λ (ts : List Token). Like IsDecl (map (moved_declr none_at)) (d ∷ ds) ts vs) (sym begun.here) (record { other = rest.other; alike = rest.alike; is = IsDecl.decl begun.is rest.is })

pub decl_again : {ds : List Declr} {ts us : List Token} → IsDecl ds ts us → Back IsDecl (map (moved_declr none_at)) printed_decl ds
decl_again (IsDecl.decl {declrs = []} p q) = elim q [ ]
decl_again (IsDecl.decl {b = c} {declrs = d ∷ ds} p q) = λ ts us k.
    let s = split (printed_base d.spec.base) (printed_declrs (d ∷ ds)) k in
    decl_on c d ds (declrs_again q) (base_again p ts s.middle (subst (λ (b : Base). Spells (printed_base b) ts s.middle) (declrs_base q) s.front)) s.back
