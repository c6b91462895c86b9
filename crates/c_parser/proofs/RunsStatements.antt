-- The recogniser goes over each call, assignment and declaration.
use Rattle.std.proofs.Common.{◌≡◌, ℕ, true, false, List, [], ◌∷◌, Some, drop, refl, ap, sym, ◌∙◌}
use Rattle.c_lexer.specs.declared.token.Token.{Token}
use Rattle.c_lexer.specs.declared.token.Kind.TheVariants as kind
use Rattle.c_tree.specs.declared.expr.Op.{Op}
use Rattle.c_tree.specs.declared.tree.Arg.{Arg}
use Rattle.c_tree.specs.declared.tree.Base.{Base}
use Rattle.c_tree.specs.declared.tree.Spec.{Spec}
use Rattle.c_tree.specs.declared.tree.Unit.{Unit as Counted}
use Rattle.c_tree.specs.declared.tree.Size.{Size}
use Rattle.c_tree.specs.declared.tree.Call.{Call}
use Rattle.c_tree.specs.declared.tree.Right.{Right}
use Rattle.c_tree.specs.declared.tree.Simple.{Simple}
use Rattle.c_tree.specs.declared.tree.Declr.{Declr}
use Rattle.c_parser.specs.Expressions.{IsArg}
use Rattle.c_parser.specs.Declarators.{IsBase, IsStars, IsCast, IsSize, IsUnit}
use Rattle.c_parser.specs.Statements.{IsArgs, IsMoreArgs, IsCall, IsRight, IsPlace, IsSimple, IsDeclr, IsDeclrs, IsDecl, change_of, step_of}
use Rattle.c_parser.specs.ReadStatements.{begins_call, begins_decl, is_call, is_cast, is_decl}
use Rattle.c_parser.specs.Recogniser.{advance, may_end, stop, stopped, takes}
use Rattle.c_parser.specs.Term.{next, same, term_of}
use Rattle.c_parser.specs.declared.symbol.Part.{Part}
use Rattle.c_parser.specs.declared.symbol.Part.TheVariants.{Whole, Factor, Count, Target, Pointed}
use Rattle.c_parser.specs.declared.symbol.Symbol.{Symbol}
use Rattle.c_parser.specs.declared.symbol.Symbol.TheVariants as symbol
use Rattle.c_parser.specs.declared.term.Term.{Term}
use Rattle.c_parser.specs.declared.term.Term.TheVariants as term
use Rattle.c_parser.proofs.Terms.{name_term, text_term}
use Rattle.c_parser.proofs.CompleteExpressions.{begins_operand, closes, level_begins}
use Rattle.c_parser.proofs.CompleteStatements.{arg_begins, begins_primary, closes_not_open, declr_closes, declrs_begin, ends_declr, post_primary, simple_begins}
use Rattle.c_parser.proofs.RunsExpressions.{stops_alike, taken, wanted_taken, level_runs, arg_runs, post_runs, product_runs, unary_runs}

-- What ends an expression is left to the symbols below.

whole_ends : (x : Term) → closes x ≡ true → (stack : List Symbol) → advance (symbol.After Whole ∷ stack) x ≡ advance stack x
unfolding advance takes may_end
whole_ends term.Close is stack = refl
whole_ends term.CloseIndex is stack = refl
whole_ends term.Semicolon is stack = refl
whole_ends term.Comma is stack = refl
whole_ends term.Put is stack = refl
whole_ends term.PlusPut is stack = refl
whole_ends term.MinusPut is stack = refl
whole_ends term.StarPut is stack = refl
whole_ends term.PlusPlus is stack = refl
whole_ends term.MinusMinus is stack = refl
whole_ends _ is stack = absurd (cc)

factor_ends : (x : Term) → closes x ≡ true → (stack : List Symbol) → advance (symbol.After Factor ∷ stack) x ≡ advance stack x
unfolding advance takes may_end
factor_ends term.Arrow is stack = absurd (cc)
factor_ends term.OpenIndex is stack = absurd (cc)
factor_ends _ is stack = refl

pub whole_ended : (t : Token) (us : List Token) → closes (term_of t) ≡ true → (stack : List Symbol) → stop (t ∷ us) (symbol.After Whole ∷ stack) ≡ stop (t ∷ us) stack
whole_ended t us ends stack = stops_alike (t ∷ us) (symbol.After Whole ∷ stack) stack (whole_ends (term_of t) ends stack)

factor_ended : (t : Token) (us : List Token) → closes (term_of t) ≡ true → (stack : List Symbol) → stop (t ∷ us) (symbol.After Factor ∷ stack) ≡ stop (t ∷ us) stack
factor_ended t us ends stack = stops_alike (t ∷ us) (symbol.After Factor ∷ stack) stack (factor_ends (term_of t) ends stack)

-- types: what a symbol takes of each first token says how it goes over a base, and over `["*"] N`

pub base_runs : {b : Base} {ts us : List Token} → IsBase b ts us → (stack front : List Symbol) → advance stack term.Int ≡ Some front
    → advance stack term.Struct ≡ Some (symbol.Want term.Name ∷ front) → advance stack term.Name ≡ Some front → stop ts stack ≡ stop us front
base_runs (IsBase.int {t = t} {ts = ts} is) stack front int struct name = taken t ts stack front term.Int is int
base_runs (IsBase.tag {t = t} {n = n} {text = text} {ts = ts} is named) stack front int struct name =
    taken t (n ∷ ts) stack (symbol.Want term.Name ∷ front) term.Struct is struct ∙ wanted_taken n ts front term.Name (name_term n text named)
base_runs (IsBase.alias {t = t} {text = text} {ts = ts} named) stack front int struct name = taken t ts stack front term.Name (name_term t text named) name

pub stars_runs : {stars : ℕ} {n : Token} {text : List ℕ} {ts us : List Token} → IsStars stars ts (n ∷ us) → n.kind ≡ kind.Name text → (stack front : List Symbol)
    → advance stack term.Star ≡ Some (symbol.Want term.Name ∷ front) → advance stack term.Name ≡ Some front → stop ts stack ≡ stop us front
stars_runs {n = n} {text = text} {us = us} IsStars.none named stack front star name = taken n us stack front term.Name (name_term n text named) name
stars_runs {n = n} {text = text} {us = us} (IsStars.star {t = t} is) named stack front star name =
    taken t (n ∷ us) stack (symbol.Want term.Name ∷ front) term.Star is star ∙ wanted_taken n us front term.Name (name_term n text named)

-- units and sizes

unit_runs : {u : Counted} {at : ℕ} {ts us : List Token} → IsUnit u at ts us → (stack front : List Symbol) → advance stack term.Sizeof ≡ Some (symbol.Unit ∷ front)
    → stop ts stack ≡ stop us front
unfolding advance takes
unit_runs (IsUnit.of_type {z = z} {o = o} {t = t} {c = c} {ts = ts} {us = us} is opening b close) stack front sizeof =
    taken z (o ∷ t ∷ ts) stack (symbol.Unit ∷ front) term.Sizeof is sizeof
    ∙ taken o (t ∷ ts) (symbol.Unit ∷ front) (symbol.UnitWithin ∷ front) term.Open opening refl
    ∙ base_runs b (symbol.UnitWithin ∷ front) (symbol.Want term.Close ∷ front) refl refl refl
    ∙ wanted_taken c us front term.Close close
unit_runs (IsUnit.of_star_within {z = z} {o = o} {s = s} {n = n} {c = c} {ts = ts} is opening star name close) stack front sizeof =
    taken z (o ∷ s ∷ n ∷ c ∷ ts) stack (symbol.Unit ∷ front) term.Sizeof is sizeof
    ∙ taken o (s ∷ n ∷ c ∷ ts) (symbol.Unit ∷ front) (symbol.UnitWithin ∷ front) term.Open opening refl
    ∙ taken s (n ∷ c ∷ ts) (symbol.UnitWithin ∷ front) (symbol.Want term.Name ∷ symbol.Want term.Close ∷ front) term.Star star refl
    ∙ wanted_taken n (c ∷ ts) (symbol.Want term.Close ∷ front) term.Name (name_term n _ name)
    ∙ wanted_taken c ts front term.Close close
unit_runs (IsUnit.of_star {z = z} {s = s} {n = n} {ts = ts} is star name) stack front sizeof =
    taken z (s ∷ n ∷ ts) stack (symbol.Unit ∷ front) term.Sizeof is sizeof
    ∙ taken s (n ∷ ts) (symbol.Unit ∷ front) (symbol.Want term.Name ∷ front) term.Star star refl
    ∙ wanted_taken n ts front term.Name (name_term n _ name)

-- an operand is no unit
size_goes_on : (x : Term) → begins_operand x ≡ true → (stack : List Symbol) → advance (symbol.Size ∷ stack) x ≡ advance (symbol.Operand Count ∷ stack) x
unfolding advance takes may_end
size_goes_on term.Sizeof is stack = absurd (cc)
size_goes_on _ is stack = refl

pub size_runs : {z : Size} {c : Token} {ts us : List Token} → IsSize z ts (c ∷ us) → term_of c ≡ term.Close → (stack : List Symbol)
    → stop ts (symbol.Size ∷ symbol.Want term.Close ∷ stack) ≡ stop us stack
unfolding advance takes may_end same
size_runs (IsSize.one d) close stack =
    unit_runs d (symbol.Size ∷ symbol.Want term.Close ∷ stack) (symbol.AfterUnit ∷ symbol.Want term.Close ∷ stack) refl ∙ rw close
size_runs {c = c} {ts = ts} {us = us} (IsSize.count_before d star q) close stack =
    stops_alike ts (symbol.Size ∷ symbol.Want term.Close ∷ stack) (symbol.Operand Count ∷ symbol.Want term.Close ∷ stack)
    (size_goes_on (next ts) (level_begins d) (symbol.Want term.Close ∷ stack))
    ∙ product_runs d (symbol.Want term.Close ∷ stack)
    ∙ rw star (unit_runs q (symbol.NextFactor ∷ symbol.Want term.Close ∷ stack) (symbol.Want term.Close ∷ stack) refl ∙ wanted_taken c us stack term.Close close)
size_runs (IsSize.count_behind d star q) close stack =
    unit_runs d (symbol.Size ∷ symbol.Want term.Close ∷ stack) (symbol.AfterUnit ∷ symbol.Want term.Close ∷ stack) refl
    ∙ rw star (unary_runs q Factor (symbol.Want term.Close ∷ stack) ∙ rw close)

-- arguments

more_args_behind : {args : List Arg} {at : ℕ} {ts us : List Token} → IsMoreArgs args at ts us → (stack : List Symbol)
    → stop ts (symbol.After Whole ∷ symbol.MoreArguments ∷ stack) ≡ stop ts (symbol.MoreArguments ∷ stack)
more_args_behind (IsMoreArgs.close {t = t} {ts = ts} is) stack = whole_ended t ts (ap closes is) (symbol.MoreArguments ∷ stack)
more_args_behind (IsMoreArgs.comma {t = t} {ts = ts} is d q) stack = whole_ended t ts (ap closes is) (symbol.MoreArguments ∷ stack)

more_args_runs : {args : List Arg} {at : ℕ} {ts us : List Token} → IsMoreArgs args at ts us → (stack : List Symbol) → stop ts (symbol.MoreArguments ∷ stack) ≡ stop us stack
unfolding advance takes
more_args_runs (IsMoreArgs.close is) stack = rw is
more_args_runs (IsMoreArgs.comma is d q) stack =
    rw is (arg_runs d (symbol.MoreArguments ∷ stack) ∙ more_args_behind q stack ∙ more_args_runs q stack)

arguments_go_on : (x : Term) → begins_operand x ≡ true → (stack : List Symbol)
    → advance (symbol.Arguments ∷ stack) x ≡ advance (symbol.Operand Whole ∷ symbol.MoreArguments ∷ stack) x
unfolding advance takes may_end
arguments_go_on term.Close is stack = absurd (cc)
arguments_go_on _ is stack = refl

pub args_runs : {args : List Arg} {at : ℕ} {ts us : List Token} → IsArgs args at ts us → (stack : List Symbol) → stop ts (symbol.Arguments ∷ stack) ≡ stop us stack
unfolding advance takes
args_runs (IsArgs.none is) stack = rw is
args_runs (IsArgs.some (IsArg.argument {t = t} {ts = ts} d) q) stack =
    stops_alike (t ∷ ts) (symbol.Arguments ∷ stack) (symbol.Operand Whole ∷ symbol.MoreArguments ∷ stack) (arguments_go_on (term_of t) (level_begins d) stack)
    ∙ level_runs d (symbol.MoreArguments ∷ stack) ∙ more_args_behind q stack ∙ more_args_runs q stack

-- calls

cast_runs : {s : Spec} {ts us : List Token} → IsCast (Some s) ts us → (p : Part) (stack behind : List Symbol) → advance stack term.Open ≡ Some (symbol.Opened p ∷ behind)
    → stop ts stack ≡ stop us (symbol.Want term.Malloc ∷ symbol.Want term.Open ∷ symbol.Size ∷ symbol.Want term.Close ∷ behind)
unfolding advance takes may_end same
cast_runs (IsCast.cast {o = o} {t = t} {ts = ts} opens (IsBase.int is) star close) p stack behind opening =
    taken o (t ∷ ts) stack (symbol.Opened p ∷ behind) term.Open opens opening ∙ rw (is, star, close)
cast_runs (IsCast.cast {o = o} {t = t} {ts = ts} opens (IsBase.tag {n = n} is name) star close) p stack behind opening =
    taken o (t ∷ ts) stack (symbol.Opened p ∷ behind) term.Open opens opening ∙ rw (is, name_term n _ name, star, close)
cast_runs (IsCast.cast {o = o} {t = t} {ts = ts} opens (IsBase.alias name) star close) p stack behind opening =
    taken o (t ∷ ts) stack (symbol.Opened p ∷ behind) term.Open opens opening ∙ rw (name_term t _ name, star, close)

pub call_runs : {c : Call} {ts us : List Token} → IsCall c ts us → (stack : List Symbol) → stop ts (symbol.Right ∷ stack) ≡ stop us stack
unfolding advance takes may_end same
call_runs (IsCall.user {n = n} name opening d) stack = rw (name_term n _ name, opening) (args_runs d stack)
call_runs (IsCall.getchar is opening close) stack = rw (is, opening, close)
call_runs (IsCall.putchar is opening d close) stack = rw (is, opening) (arg_runs d (symbol.Want term.Close ∷ stack) ∙ rw close)
call_runs (IsCall.printf {x = x} is opening text d) stack = rw (is, opening, text_term x _ text) (more_args_runs d stack)
call_runs (IsCall.malloc IsCast.none is opening d close) stack = rw (is, opening) (size_runs d close stack)
call_runs (IsCall.malloc (IsCast.cast opens b star closes_cast) is opening d close) stack =
    cast_runs (IsCast.cast opens b star closes_cast) Whole (symbol.Right ∷ stack) stack refl ∙ rw (is, opening) (size_runs d close stack)

-- a call by itself goes as one on a right side
call_alike : {c : Call} {ts us : List Token} → IsCall c ts us → (stack : List Symbol) → stop ts (symbol.Piece ∷ stack) ≡ stop ts (symbol.Right ∷ symbol.Want term.Semicolon ∷ stack)
unfolding advance takes may_end same
call_alike (IsCall.user {n = n} name opening d) stack = rw (name_term n _ name, opening)
call_alike (IsCall.getchar is opening close) stack = rw is
call_alike (IsCall.putchar is opening d close) stack = rw is
call_alike (IsCall.printf is opening text d) stack = rw is
call_alike (IsCall.malloc IsCast.none is opening d close) stack = rw is
call_alike (IsCall.malloc (IsCast.cast opens b star closes_cast) is opening d close) stack =
    cast_runs (IsCast.cast opens b star closes_cast) Target (symbol.Piece ∷ stack) (symbol.Want term.Semicolon ∷ stack) refl
    ∙ sym (cast_runs (IsCast.cast opens b star closes_cast) Whole (symbol.Right ∷ symbol.Want term.Semicolon ∷ stack) (symbol.Want term.Semicolon ∷ stack) refl)

pub call_item_runs : {c : Call} {t : Token} {ts us : List Token} → IsCall c ts (t ∷ us) → term_of t ≡ term.Semicolon → (stack : List Symbol) → stop ts (symbol.Piece ∷ stack) ≡ stop us stack
call_item_runs {t = t} {us = us} d semicolon stack =
    call_alike d stack ∙ call_runs d (symbol.Want term.Semicolon ∷ stack) ∙ wanted_taken t us stack term.Semicolon semicolon

-- A group that begins a right side or an item, and no cast.

opened_star_alike : (p : Part) (z : Term) (stack : List Symbol) → is_cast term.Name term.Star z ≡ false
    → advance (symbol.OpenedStar p ∷ stack) z ≡ advance (symbol.Operand Whole ∷ symbol.Want term.Close ∷ symbol.After p ∷ stack) z
unfolding advance takes may_end
opened_star_alike p term.Close stack no_cast = absurd (cc)
opened_star_alike p _ stack no_cast = refl

opened_name_alike : (p : Part) (y : Term) (t : Token) (ts : List Token) (stack : List Symbol) → is_cast term.Name y (next ts) ≡ false
    → stopped (t ∷ ts) (stop ts) (advance (symbol.OpenedName p ∷ stack) y) ≡ stopped (t ∷ ts) (stop ts) (advance (symbol.After Whole ∷ symbol.Want term.Close ∷ symbol.After p ∷ stack) y)
unfolding advance takes may_end same
opened_name_alike p term.Star t ts stack no_cast =
    stops_alike ts (symbol.OpenedStar p ∷ stack) (symbol.Operand Whole ∷ symbol.Want term.Close ∷ symbol.After p ∷ stack) (opened_star_alike p (next ts) stack no_cast)
opened_name_alike p _ t ts stack no_cast = refl

name_opened : (p : Part) (ts : List Token) (stack : List Symbol) → is_cast term.Name (next ts) (next (drop 1 ts)) ≡ false
    → stop ts (symbol.OpenedName p ∷ stack) ≡ stop ts (symbol.After Whole ∷ symbol.Want term.Close ∷ symbol.After p ∷ stack)
name_opened p [] stack no_cast = refl
name_opened p (t ∷ ts) stack no_cast = opened_name_alike p (term_of t) t ts stack no_cast

opened_alike : (p : Part) (x : Term) (t : Token) (ts : List Token) (stack : List Symbol) → is_cast x (next ts) (next (drop 1 ts)) ≡ false
    → stopped (t ∷ ts) (stop ts) (advance (symbol.Opened p ∷ stack) x) ≡ stopped (t ∷ ts) (stop ts) (advance (symbol.Operand Whole ∷ symbol.Want term.Close ∷ symbol.After p ∷ stack) x)
unfolding advance takes may_end
opened_alike p term.Int t ts stack no_cast = absurd (cc)
opened_alike p term.Struct t ts stack no_cast = absurd (cc)
opened_alike p term.Name t ts stack no_cast = name_opened p ts stack no_cast
opened_alike p _ t ts stack no_cast = refl

pub opened_runs : (p : Part) (ts : List Token) (stack : List Symbol) → is_cast (next ts) (next (drop 1 ts)) (next (drop 2 ts)) ≡ false
    → stop ts (symbol.Opened p ∷ stack) ≡ stop ts (symbol.Operand Whole ∷ symbol.Want term.Close ∷ symbol.After p ∷ stack)
opened_runs p [] stack no_cast = refl
opened_runs p (t ∷ ts) stack no_cast = opened_alike p (term_of t) t ts stack no_cast

-- right sides

named_alike : (y : Term) → same term.Open y ≡ false → (stack : List Symbol) → advance (symbol.Named ∷ stack) y ≡ advance (symbol.After Whole ∷ stack) y
unfolding advance takes may_end same
named_alike term.Open apart stack = absurd (cc)
named_alike _ apart stack = refl

right_alike : (x : Term) (t : Token) (ts : List Token) (stack : List Symbol) → is_call x (next ts) (next (drop 1 ts)) (next (drop 2 ts)) ≡ false
    → stopped (t ∷ ts) (stop ts) (advance (symbol.Right ∷ stack) x) ≡ stopped (t ∷ ts) (stop ts) (advance (symbol.Operand Whole ∷ stack) x)
unfolding advance takes may_end
right_alike term.Getchar t ts stack no_call = absurd (cc)
right_alike term.Putchar t ts stack no_call = absurd (cc)
right_alike term.Printf t ts stack no_call = absurd (cc)
right_alike term.Malloc t ts stack no_call = absurd (cc)
right_alike term.Name t ts stack no_call = stops_alike ts (symbol.Named ∷ stack) (symbol.After Whole ∷ stack) (named_alike (next ts) no_call stack)
right_alike term.Open t ts stack no_call = opened_runs Whole ts stack no_call
right_alike _ t ts stack no_call = refl

pub right_runs : {r : Right} {t : Token} {ts us : List Token} → IsRight r ts (t ∷ us) → closes (term_of t) ≡ true → (stack : List Symbol)
    → stop ts (symbol.Right ∷ stack) ≡ stop (t ∷ us) stack
right_runs {t = t} {us = us} (IsRight.plain (IsArg.argument {t = f} {ts = ts} d)) ends stack =
    right_alike (term_of f) f ts stack (arg_begins (IsArg.argument d) (closes_not_open (term_of t) ends)) ∙ level_runs d stack ∙ whole_ended t us ends stack
right_runs (IsRight.called d) ends stack = call_runs d stack

-- assignments

change_goes_on : (x : Term) (o : Op) → change_of x ≡ Some o → (stack : List Symbol)
    → (advance (symbol.After Target ∷ stack) x ≡ Some (symbol.Operand Whole ∷ stack)) × (advance (symbol.After Pointed ∷ stack) x ≡ Some (symbol.Operand Whole ∷ stack))
unfolding advance takes
change_goes_on term.PlusPut o is stack = (refl, refl)
change_goes_on term.MinusPut o is stack = (refl, refl)
change_goes_on term.StarPut o is stack = (refl, refl)
change_goes_on _ o is stack = absurd (cc)

step_goes_on : (x : Term) (o : Op) → step_of x ≡ Some o → (stack : List Symbol) → advance (symbol.After Target ∷ stack) x ≡ Some stack
unfolding advance takes
step_goes_on term.PlusPlus o is stack = refl
step_goes_on term.MinusMinus o is stack = refl
step_goes_on _ o is stack = absurd (cc)

-- an assignment may stand for the symbol, up to a token of this term
record Assigns (s : Symbol) (end : Term) : Type 0 where
  ends : closes end ≡ true
  post : (t : Token) (ts : List Token) (stack : List Symbol) → begins_primary (term_of t) ≡ true → (begins_decl (t ∷ ts) ≡ false) × (begins_call (t ∷ ts) ≡ false)
      → stop (t ∷ ts) (s ∷ stack) ≡ stop (t ∷ ts) (symbol.Operand Target ∷ symbol.Want end ∷ stack)
  deref : (stack : List Symbol) → advance (s ∷ stack) term.Star ≡ Some (symbol.Operand Pointed ∷ symbol.Want end ∷ stack)
  step : (x : Term) (o : Op) → step_of x ≡ Some o → (stack : List Symbol) → advance (s ∷ stack) x ≡ Some (symbol.Operand Factor ∷ symbol.Want end ∷ stack)

simple_runs_at : {s : Symbol} {end : Term} → Assigns s end → {x : Simple} {t : Token} {ts us : List Token} → IsSimple x ts (t ∷ us) → term_of t ≡ end → (stack : List Symbol)
    → stop ts (s ∷ stack) ≡ stop us stack
unfolding advance takes
simple_runs_at {s = s} {end = end} begins {t = t} {us = us} (IsSimple.put {p = p} {ts = ts} (IsPlace.post d) put r) is stack =
    begins.post p ts stack (post_primary d) (simple_begins (IsSimple.put {p = p} (IsPlace.post d) put r)) ∙ post_runs d Target (symbol.Want end ∷ stack)
    ∙ rw put (right_runs r (ap closes is ∙ begins.ends) (symbol.Want end ∷ stack) ∙ wanted_taken t us stack end is)
simple_runs_at {s = s} {end = end} begins {t = t} {us = us} (IsSimple.put {p = p} {ts = ts} (IsPlace.deref star d) put r) is stack =
    taken p ts (s ∷ stack) (symbol.Operand Pointed ∷ symbol.Want end ∷ stack) term.Star star (begins.deref stack) ∙ unary_runs d Pointed (symbol.Want end ∷ stack)
    ∙ rw put (right_runs r (ap closes is ∙ begins.ends) (symbol.Want end ∷ stack) ∙ wanted_taken t us stack end is)
simple_runs_at {s = s} {end = end} begins {t = t} {us = us} (IsSimple.change {o = o} {p = p} {t = c} {ts = ts} {us = vs} (IsPlace.post d) change a) is stack =
    begins.post p ts stack (post_primary d) (simple_begins (IsSimple.change {p = p} (IsPlace.post d) change a)) ∙ post_runs d Target (symbol.Want end ∷ stack)
    ∙ taken c vs (symbol.After Target ∷ symbol.Want end ∷ stack) (symbol.Operand Whole ∷ symbol.Want end ∷ stack) (term_of c) refl (change_goes_on (term_of c) o change (symbol.Want end ∷ stack)).0
    ∙ arg_runs a (symbol.Want end ∷ stack) ∙ whole_ended t us (ap closes is ∙ begins.ends) (symbol.Want end ∷ stack) ∙ wanted_taken t us stack end is
simple_runs_at {s = s} {end = end} begins {t = t} {us = us} (IsSimple.change {o = o} {p = p} {t = c} {ts = ts} {us = vs} (IsPlace.deref star d) change a) is stack =
    taken p ts (s ∷ stack) (symbol.Operand Pointed ∷ symbol.Want end ∷ stack) term.Star star (begins.deref stack) ∙ unary_runs d Pointed (symbol.Want end ∷ stack)
    ∙ taken c vs (symbol.After Pointed ∷ symbol.Want end ∷ stack) (symbol.Operand Whole ∷ symbol.Want end ∷ stack) (term_of c) refl (change_goes_on (term_of c) o change (symbol.Want end ∷ stack)).1
    ∙ arg_runs a (symbol.Want end ∷ stack) ∙ whole_ended t us (ap closes is ∙ begins.ends) (symbol.Want end ∷ stack) ∙ wanted_taken t us stack end is
simple_runs_at {s = s} {end = end} begins {t = t} {us = us} (IsSimple.step_behind {o = o} {p = p} {t = c} {ts = ts} d step) is stack =
    begins.post p ts stack (post_primary d) (simple_begins (IsSimple.step_behind {p = p} d step)) ∙ post_runs d Target (symbol.Want end ∷ stack)
    ∙ taken c (t ∷ us) (symbol.After Target ∷ symbol.Want end ∷ stack) (symbol.Want end ∷ stack) (term_of c) refl (step_goes_on (term_of c) o step (symbol.Want end ∷ stack))
    ∙ wanted_taken t us stack end is
simple_runs_at {s = s} {end = end} begins {t = t} {us = us} (IsSimple.step_before {o = o} {p = p} {t = c} {ts = ts} step d) is stack =
    taken c (p ∷ ts) (s ∷ stack) (symbol.Operand Factor ∷ symbol.Want end ∷ stack) (term_of c) refl (begins.step (term_of c) o step stack)
    ∙ unary_runs d Factor (symbol.Want end ∷ stack) ∙ factor_ended t us (ap closes is ∙ begins.ends) (symbol.Want end ∷ stack) ∙ wanted_taken t us stack end is

-- by itself

begun_post : (y : Term) → is_decl term.Name y ≡ false → same term.Open y ≡ false → (stack : List Symbol)
    → advance (symbol.Begun ∷ stack) y ≡ advance (symbol.After Target ∷ symbol.Want term.Semicolon ∷ stack) y
unfolding advance takes may_end same
begun_post term.Name no_decl no_call stack = absurd (cc)
begun_post term.Star no_decl no_call stack = absurd (cc)
begun_post term.Open no_decl no_call stack = absurd (cc)
begun_post _ no_decl no_call stack = refl

piece_post : (x : Term) (t : Token) (ts : List Token) (stack : List Symbol) → begins_primary x ≡ true
    → (is_decl x (next ts) ≡ false) × (is_call x (next ts) (next (drop 1 ts)) (next (drop 2 ts)) ≡ false)
    → stopped (t ∷ ts) (stop ts) (advance (symbol.Piece ∷ stack) x) ≡ stopped (t ∷ ts) (stop ts) (advance (symbol.Operand Target ∷ symbol.Want term.Semicolon ∷ stack) x)
unfolding advance takes
piece_post term.Number t ts stack primary neither = refl
piece_post term.Null t ts stack primary neither = refl
piece_post term.Eof t ts stack primary neither = refl
piece_post term.Name t ts stack primary neither =
    stops_alike ts (symbol.Begun ∷ stack) (symbol.After Target ∷ symbol.Want term.Semicolon ∷ stack) (begun_post (next ts) neither.0 neither.1 stack)
piece_post term.Open t ts stack primary neither = opened_runs Target ts (symbol.Want term.Semicolon ∷ stack) neither.1
piece_post _ t ts stack primary neither = absurd (cc)

piece_step : (x : Term) (o : Op) → step_of x ≡ Some o → (stack : List Symbol) → advance (symbol.Piece ∷ stack) x ≡ Some (symbol.Operand Factor ∷ symbol.Want term.Semicolon ∷ stack)
unfolding advance takes
piece_step term.PlusPlus o is stack = refl
piece_step term.MinusMinus o is stack = refl
piece_step _ o is stack = absurd (cc)

piece_assigns : Assigns symbol.Piece term.Semicolon
unfolding advance takes
piece_assigns = record {
  ends = refl;
  post = λ t ts stack primary neither. piece_post (term_of t) t ts stack primary neither;
  deref = λ stack. refl;
  step = piece_step;
}

pub simple_runs : {s : Simple} {t : Token} {ts us : List Token} → IsSimple s ts (t ∷ us) → term_of t ≡ term.Semicolon → (stack : List Symbol) → stop ts (symbol.Piece ∷ stack) ≡ stop us stack
simple_runs d semicolon stack = simple_runs_at piece_assigns d semicolon stack

-- before the `)` of a `for`

step_post : (x : Term) (t : Token) (ts : List Token) (stack : List Symbol) → begins_primary x ≡ true
    → stopped (t ∷ ts) (stop ts) (advance (symbol.ForStep ∷ stack) x) ≡ stopped (t ∷ ts) (stop ts) (advance (symbol.Operand Target ∷ symbol.Want term.Close ∷ stack) x)
unfolding advance takes
step_post term.Number t ts stack primary = refl
step_post term.Null t ts stack primary = refl
step_post term.Eof t ts stack primary = refl
step_post term.Name t ts stack primary = refl
step_post term.Open t ts stack primary = refl
step_post _ t ts stack primary = absurd (cc)

step_step : (x : Term) (o : Op) → step_of x ≡ Some o → (stack : List Symbol) → advance (symbol.ForStep ∷ stack) x ≡ Some (symbol.Operand Factor ∷ symbol.Want term.Close ∷ stack)
unfolding advance takes
step_step term.PlusPlus o is stack = refl
step_step term.MinusMinus o is stack = refl
step_step _ o is stack = absurd (cc)

step_assigns : Assigns symbol.ForStep term.Close
unfolding advance takes
step_assigns = record {
  ends = refl;
  post = λ t ts stack primary neither. step_post (term_of t) t ts stack primary;
  deref = λ stack. refl;
  step = step_step;
}

pub step_runs : {s : Simple} {t : Token} {ts us : List Token} → IsSimple s ts (t ∷ us) → term_of t ≡ term.Close → (stack : List Symbol) → stop ts (symbol.ForStep ∷ stack) ≡ stop us stack
step_runs d close stack = simple_runs_at step_assigns d close stack

-- that begins a `for`

for_begun_post : (y : Term) → is_decl term.Name y ≡ false → (stack : List Symbol)
    → advance (symbol.ForBegun ∷ stack) y ≡ advance (symbol.After Target ∷ symbol.Want term.Semicolon ∷ stack) y
unfolding advance takes may_end
for_begun_post term.Name no_decl stack = absurd (cc)
for_begun_post term.Star no_decl stack = absurd (cc)
for_begun_post _ no_decl stack = refl

start_post : (x : Term) (t : Token) (ts : List Token) (stack : List Symbol) → begins_primary x ≡ true → is_decl x (next ts) ≡ false
    → stopped (t ∷ ts) (stop ts) (advance (symbol.ForStart ∷ stack) x) ≡ stopped (t ∷ ts) (stop ts) (advance (symbol.Operand Target ∷ symbol.Want term.Semicolon ∷ stack) x)
unfolding advance takes
start_post term.Number t ts stack primary no_decl = refl
start_post term.Null t ts stack primary no_decl = refl
start_post term.Eof t ts stack primary no_decl = refl
start_post term.Name t ts stack primary no_decl =
    stops_alike ts (symbol.ForBegun ∷ stack) (symbol.After Target ∷ symbol.Want term.Semicolon ∷ stack) (for_begun_post (next ts) no_decl stack)
start_post term.Open t ts stack primary no_decl = refl
start_post _ t ts stack primary no_decl = absurd (cc)

start_step : (x : Term) (o : Op) → step_of x ≡ Some o → (stack : List Symbol) → advance (symbol.ForStart ∷ stack) x ≡ Some (symbol.Operand Factor ∷ symbol.Want term.Semicolon ∷ stack)
unfolding advance takes
start_step term.PlusPlus o is stack = refl
start_step term.MinusMinus o is stack = refl
start_step _ o is stack = absurd (cc)

start_assigns : Assigns symbol.ForStart term.Semicolon
unfolding advance takes
start_assigns = record {
  ends = refl;
  post = λ t ts stack primary neither. start_post (term_of t) t ts stack primary neither.0;
  deref = λ stack. refl;
  step = start_step;
}

pub start_runs : {s : Simple} {t : Token} {ts us : List Token} → IsSimple s ts (t ∷ us) → term_of t ≡ term.Semicolon → (stack : List Symbol) → stop ts (symbol.ForStart ∷ stack) ≡ stop us stack
start_runs d semicolon stack = simple_runs_at start_assigns d semicolon stack

-- declarations

behind_declr : (x : Term) → ends_declr x ≡ true → (stack : List Symbol) → advance (symbol.AfterLocal ∷ stack) x ≡ advance (symbol.MoreLocals ∷ stack) x
unfolding advance takes
behind_declr term.Semicolon ends stack = refl
behind_declr term.Comma ends stack = refl
behind_declr _ ends stack = absurd (cc)

declr_runs : {b : Base} {f : Token} {d : Declr} {t : Token} {ts us : List Token} → IsDeclr b f d ts (t ∷ us) → ends_declr (term_of t) ≡ true → (stack : List Symbol)
    → stop ts (symbol.Local ∷ stack) ≡ stop (t ∷ us) (symbol.MoreLocals ∷ stack)
unfolding advance takes
declr_runs {t = t} {us = us} (IsDeclr.bare stars name) ends stack =
    stars_runs stars name (symbol.Local ∷ stack) (symbol.AfterLocal ∷ stack) refl refl
    ∙ stops_alike (t ∷ us) (symbol.AfterLocal ∷ stack) (symbol.MoreLocals ∷ stack) (behind_declr (term_of t) ends stack)
declr_runs {t = t} (IsDeclr.given stars name put r) ends stack =
    stars_runs stars name (symbol.Local ∷ stack) (symbol.AfterLocal ∷ stack) refl refl ∙ rw put (right_runs r (declr_closes (term_of t) ends) (symbol.MoreLocals ∷ stack))

declrs_runs : {b : Base} {f : Token} {ds : List Declr} {t : Token} {ts us : List Token} → IsDeclrs b f ds ts (t ∷ us) → term_of t ≡ term.Semicolon → (stack : List Symbol)
    → stop ts (symbol.Local ∷ stack) ≡ stop us stack
unfolding advance takes
declrs_runs (IsDeclrs.last d) semicolon stack = declr_runs d (ap ends_declr semicolon) stack ∙ rw semicolon
declrs_runs (IsDeclrs.more d comma q) semicolon stack = declr_runs d (ap ends_declr comma) stack ∙ rw comma (declrs_runs q semicolon stack)

-- a declaration may stand for the symbol, and behind an alias that begins one this one is left
record Declares (s begun : Symbol) : Type 0 where
  int : (stack : List Symbol) → advance (s ∷ stack) term.Int ≡ Some (symbol.Local ∷ stack)
  struct : (stack : List Symbol) → advance (s ∷ stack) term.Struct ≡ Some (symbol.Want term.Name ∷ symbol.Local ∷ stack)
  name : (stack : List Symbol) → advance (s ∷ stack) term.Name ≡ Some (begun ∷ stack)
  local : (y : Term) → is_decl term.Name y ≡ true → (stack : List Symbol) → advance (begun ∷ stack) y ≡ advance (symbol.Local ∷ stack) y

decl_runs_at : {s begun : Symbol} → Declares s begun → {ds : List Declr} {t : Token} {ts us : List Token} → IsDecl ds ts (t ∷ us) → term_of t ≡ term.Semicolon → (stack : List Symbol)
    → stop ts (s ∷ stack) ≡ stop us stack
decl_runs_at {s = s} begins (IsDecl.decl (IsBase.int {t = f} {ts = ts} is) d) semicolon stack =
    taken f ts (s ∷ stack) (symbol.Local ∷ stack) term.Int is (begins.int stack) ∙ declrs_runs d semicolon stack
decl_runs_at {s = s} begins (IsDecl.decl (IsBase.tag {t = f} {n = n} {text = text} {ts = ts} is name) d) semicolon stack =
    taken f (n ∷ ts) (s ∷ stack) (symbol.Want term.Name ∷ symbol.Local ∷ stack) term.Struct is (begins.struct stack)
    ∙ wanted_taken n ts (symbol.Local ∷ stack) term.Name (name_term n text name) ∙ declrs_runs d semicolon stack
decl_runs_at {s = s} {begun = begun} begins (IsDecl.decl (IsBase.alias {t = f} {text = text} {ts = ts} name) d) semicolon stack =
    taken f ts (s ∷ stack) (begun ∷ stack) term.Name (name_term f text name) (begins.name stack)
    ∙ stops_alike ts (begun ∷ stack) (symbol.Local ∷ stack) (begins.local (next ts) (declrs_begin d) stack) ∙ declrs_runs d semicolon stack

begun_local : (y : Term) → is_decl term.Name y ≡ true → (stack : List Symbol) → advance (symbol.Begun ∷ stack) y ≡ advance (symbol.Local ∷ stack) y
unfolding advance takes
begun_local term.Name is stack = refl
begun_local term.Star is stack = refl
begun_local _ is stack = absurd (cc)

piece_declares : Declares symbol.Piece symbol.Begun
unfolding advance takes
piece_declares = record { int = λ stack. refl; struct = λ stack. refl; name = λ stack. refl; local = begun_local }

pub decl_runs : {ds : List Declr} {t : Token} {ts us : List Token} → IsDecl ds ts (t ∷ us) → term_of t ≡ term.Semicolon → (stack : List Symbol) → stop ts (symbol.Piece ∷ stack) ≡ stop us stack
decl_runs d semicolon stack = decl_runs_at piece_declares d semicolon stack

for_begun_local : (y : Term) → is_decl term.Name y ≡ true → (stack : List Symbol) → advance (symbol.ForBegun ∷ stack) y ≡ advance (symbol.Local ∷ stack) y
unfolding advance takes
for_begun_local term.Name is stack = refl
for_begun_local term.Star is stack = refl
for_begun_local _ is stack = absurd (cc)

start_declares : Declares symbol.ForStart symbol.ForBegun
unfolding advance takes
start_declares = record { int = λ stack. refl; struct = λ stack. refl; name = λ stack. refl; local = for_begun_local }

pub decl_start_runs : {ds : List Declr} {t : Token} {ts us : List Token} → IsDecl ds ts (t ∷ us) → term_of t ≡ term.Semicolon → (stack : List Symbol)
    → stop ts (symbol.ForStart ∷ stack) ≡ stop us stack
decl_start_runs d semicolon stack = decl_runs_at start_declares d semicolon stack
