-- Behind each row of the recogniser for right sides, sizes and declarations in functions stands what its symbol stands for.
use Rattle.std.proofs.Common.{◌≡◌, ℕ, List, [], ◌∷◌, Some, ap, arith}
use Rattle.c_lexer.specs.declared.token.Token.{Token}
use Rattle.c_lexer.specs.declared.token.Kind.TheVariants as kind
use Rattle.c_tree.specs.declared.tree.Arg.{Arg}
use Rattle.c_tree.specs.declared.tree.Base.{Base}
use Rattle.c_tree.specs.declared.tree.Declr.{Declr}
use Rattle.c_tree.specs.declared.tree.Expr.{Expr}
use Rattle.c_tree.specs.declared.expr.Op.{Op}
use Rattle.c_tree.specs.declared.expr.Oper.{Oper}
use Rattle.c_parser.specs.declared.symbol.Part.{Part}
use Rattle.c_parser.specs.declared.symbol.Part.TheVariants.{Whole, Factor, Count, Target, Pointed}
use Rattle.c_parser.specs.declared.symbol.Symbol.{Symbol}
use Rattle.c_parser.specs.declared.symbol.Symbol.TheVariants as symbol
use Rattle.c_parser.specs.declared.term.Term.{Term}
use Rattle.c_parser.specs.declared.term.Term.TheVariants as term
use Rattle.c_parser.specs.Term.{term_of}
use Rattle.c_parser.specs.Expressions.{IsArg, IsLevel, IsPost, IsPrim, IsUnary, oper_of, product_of}
use Rattle.c_parser.specs.Declarators.{IsBase, IsCast, IsSize, IsStars, IsUnit}
use Rattle.c_parser.specs.Statements.{IsArgs, IsCall, IsDeclr, IsDeclrs, IsMoreArgs, IsPlace, IsRight, IsSimple, change_of, step_of}
use Rattle.c_parser.specs.Recogniser.{after, after_local, after_unit, arguments, called, more_arguments, more_locals, named, next_factor, opened, opened_name, opened_star, operand, request, right, simple, size, starred, unit, unit_within}
use Rattle.c_parser.proofs.Shorter.{level_shorter, unary_shorter}
use Rattle.c_parser.proofs.ViableSymbols.{ACall, ACasted, AChange, ANamed, ANextFactor, ARequest, ARight, ASimple, ASize, AStep, AToken, AUnit, AnAfter, AnAfterUnit, AnExpr, AnOpened, AnOpenedName, AnOpenedStar, AnOperand, Factors, Nothing, OfAfterLocal, OfLocal, OfMoreLocals, OfRow, OfStack, OfUnit, OfUnitWithin, Operands, PartedRow, SomeArgs, SomeDeclrs, SomeMoreArgs, part_row}
use Rattle.c_parser.proofs.ViableExpressions.{ALevel, joined, times_after, after_sound, alone, group_operand, name_of, number_of, no_posts, operand_sound, prim_operand, text_of, whole_expr}

-- arguments

pub data AnArg : List Token → List Token → Type 0 where
  arg : {a : Arg} {ts us : List Token} → IsArg a ts us → AnArg ts us

-- an expression has a first token
pub expr_arg : {ts us : List Token} → AnExpr ts us → AnArg ts us
expr_arg {ts = []} (AnExpr.expr d) = absurd (omega (arith, level_shorter d))
expr_arg {ts = t ∷ ts} (AnExpr.expr d) = AnArg.arg (IsArg.argument d)

more_args_row : {t : Token} {ts us vs : List Token} → term_of t ≡ term.Comma → AnArg ts us → SomeMoreArgs us vs → SomeMoreArgs (t ∷ ts) vs
more_args_row is (AnArg.arg d) (SomeMoreArgs.more_args q) = SomeMoreArgs.more_args (IsMoreArgs.comma is d q)

args_row : {ts us vs : List Token} → AnArg ts us → SomeMoreArgs us vs → SomeArgs ts vs
args_row (AnArg.arg d) (SomeMoreArgs.more_args q) = SomeArgs.args (IsArgs.some d q)

args_parted : (x : Term) {t : Token} {ts us : List Token} → term_of t ≡ x → PartedRow (operand Whole x) (symbol.MoreArguments ∷ []) ts us → SomeArgs (t ∷ ts) us
args_parted x {t = t} is (PartedRow.parted d (OfStack.then q OfStack.done)) = args_row (expr_arg (whole_expr (operand_sound Whole x t is d))) q

pub arguments_sound : (x : Term) (t : Token) → term_of t ≡ x → {ts us : List Token} → OfRow (arguments x) ts us → SomeArgs (t ∷ ts) us
arguments_sound term.Close t is OfStack.done = SomeArgs.args (IsArgs.none is)
arguments_sound x t is d = args_parted x is (part_row (operand Whole x) (symbol.MoreArguments ∷ []) d)

pub more_arguments_sound : (x : Term) (t : Token) → term_of t ≡ x → {ts us : List Token} → OfRow (more_arguments x) ts us → SomeMoreArgs (t ∷ ts) us
more_arguments_sound term.Close t is OfStack.done = SomeMoreArgs.more_args (IsMoreArgs.close is)
more_arguments_sound term.Comma t is (OfStack.then d (OfStack.then q OfStack.done)) = more_args_row is (expr_arg (whole_expr d)) q
more_arguments_sound _ t is d = absurd d

-- sizes

-- a count, `*` and a unit
pub data ACount : List Token → List Token → Type 0 where
  count : {e : Expr} {t : Token} {ts us vs : List Token} → IsLevel 1 e ts (t ∷ us) → term_of t ≡ term.Star → AUnit us vs → ACount ts vs

level_count : {t : Token} {ts us vs : List Token} → ALevel 1 ts (t ∷ us) → term_of t ≡ term.Star → AUnit us vs → ACount ts vs
level_count (ALevel.level d) star u = ACount.count d star u

count_joined : {o : Oper} {a : Expr} {t : Token} {ws ts us : List Token} → IsUnary a ws (t ∷ ts) → product_of (term_of t) ≡ Some o → ACount ts us → ACount ws us
unfolding oper_of
count_joined d is (ACount.count q star u) = level_count (joined 1 0 (omega arith) d is q) star u

factors_count : {e : Expr} {ws ts us : List Token} → IsUnary e ws ts → Factors ts us → ACount ws us
factors_count d (Factors.last star u) = ACount.count (alone 1 d) star u
factors_count d (Factors.more is q rest) = count_joined d is (factors_count q rest)

count_size : {ts us : List Token} → ACount ts us → ASize ts us
count_size (ACount.count d star (AUnit.unit u)) = ASize.size (IsSize.count_before d star u)

counted_size : {ts us : List Token} → AnOperand Count ts us → ASize ts us
counted_size (AnOperand.operand d factors) = count_size (factors_count d factors)

unit_size : {ts us vs : List Token} → AUnit ts us → AnAfterUnit us vs → ASize ts vs
unit_size (AUnit.unit d) AnAfterUnit.none = ASize.size (IsSize.one d)
unit_size (AUnit.unit d) (AnAfterUnit.times star q) = ASize.size (IsSize.count_behind d star q)

pub size_sound : (x : Term) (t : Token) → term_of t ≡ x → {ts us : List Token} → OfRow (size x) ts us → ASize (t ∷ ts) us
size_sound term.Sizeof t is (OfStack.then d (OfStack.then q OfStack.done)) = unit_size (d t is) q
size_sound x t is d = counted_size (operand_sound Count x t is d)

pub next_factor_sound : (x : Term) (t : Token) → term_of t ≡ x → {ts us : List Token} → OfRow (next_factor x) ts us → ANextFactor (t ∷ ts) us
next_factor_sound term.Sizeof t is (OfStack.then d OfStack.done) = ANextFactor.unit (d t is)
next_factor_sound x t is d = ANextFactor.factor (operand_sound Count x t is d)

pub unit_sound : (x : Term) (t : Token) → term_of t ≡ x → {ts us : List Token} → OfRow (unit x) ts us → OfUnit (t ∷ ts) us
unit_sound term.Open t is (OfStack.then d OfStack.done) = λ z begins. d z t begins is
unit_sound term.Star t is (OfStack.then (AToken.token {t = n} name) OfStack.done) = λ z begins. AUnit.unit (IsUnit.of_star begins is (name_of n name).1)
unit_sound _ t is d = absurd d

pub unit_within_sound : (x : Term) (t : Token) → term_of t ≡ x → {ts us : List Token} → OfRow (unit_within x) ts us → OfUnitWithin (t ∷ ts) us
unit_within_sound term.Int t is (OfStack.then (AToken.token close) OfStack.done) = λ z o begins opens. AUnit.unit (IsUnit.of_type begins opens (IsBase.int is) close)
unit_within_sound term.Name t is (OfStack.then (AToken.token close) OfStack.done) =
    λ z o begins opens. AUnit.unit (IsUnit.of_type begins opens (IsBase.alias (name_of t is).1) close)
unit_within_sound term.Struct t is (OfStack.then (AToken.token {t = n} name) (OfStack.then (AToken.token close) OfStack.done)) =
    λ z o begins opens. AUnit.unit (IsUnit.of_type begins opens (IsBase.tag is (name_of n name).1) close)
unit_within_sound term.Star t is (OfStack.then (AToken.token {t = n} name) (OfStack.then (AToken.token close) OfStack.done)) =
    λ z o begins opens. AUnit.unit (IsUnit.of_star_within begins opens is (name_of n name).1 close)
unit_within_sound _ t is d = absurd d

pub after_unit_sound : (x : Term) (t : Token) → term_of t ≡ x → {ts us : List Token} → OfRow (after_unit x) ts us → AnAfterUnit (t ∷ ts) us
after_unit_sound term.Star t is (OfStack.then (AnOperand.operand d Nothing.nothing) OfStack.done) = AnAfterUnit.times is d
after_unit_sound _ t is d = absurd d

-- calls

request_row : {m : Token} {ts us : List Token} → term_of m ≡ term.Malloc → OfStack request ts us → ARequest (m ∷ ts) us
request_row is (OfStack.then (AToken.token opens) (OfStack.then (ASize.size d) (OfStack.then (AToken.token close) OfStack.done))) = ARequest.request is opens d close

request_call : {ts us : List Token} → ARequest ts us → ACall ts us
request_call (ARequest.request is opens d close) = ACall.call (IsCall.malloc IsCast.none is opens d close)

pub cast_call : {o f : Token} {b : Base} {ts us vs : List Token} → term_of o ≡ term.Open → IsBase b (f ∷ ts) us → ACasted us vs → ACall (o ∷ f ∷ ts) vs
cast_call is b (ACasted.casted star close (ARequest.request malloc opens d end)) = ACall.call (IsCall.malloc (IsCast.cast is b star close) malloc opens d end)

putchar_call : {t o c : Token} {ts us : List Token} → term_of t ≡ term.Putchar → term_of o ≡ term.Open → AnArg ts (c ∷ us) → term_of c ≡ term.Close
    → ACall (t ∷ o ∷ ts) us
putchar_call is opens (AnArg.arg d) close = ACall.call (IsCall.putchar is opens d close)

printf_call : {t o x : Token} {ts us : List Token} → term_of t ≡ term.Printf → term_of o ≡ term.Open → term_of x ≡ term.Text → SomeMoreArgs ts us
    → ACall (t ∷ o ∷ x ∷ ts) us
printf_call {x = x} is opens text (SomeMoreArgs.more_args d) = ACall.call (IsCall.printf is opens (text_of x text).1 d)

pub user_call : {n o : Token} {ts us : List Token} → term_of n ≡ term.Name → term_of o ≡ term.Open → SomeArgs ts us → ACall (n ∷ o ∷ ts) us
user_call {n = n} name opens (SomeArgs.args d) = ACall.call (IsCall.user (name_of n name).1 opens d)

pub called_sound : (x : Term) (t : Token) → term_of t ≡ x → {ts us : List Token} → OfRow (called x) ts us → ACall (t ∷ ts) us
called_sound term.Getchar t is (OfStack.then (AToken.token opens) (OfStack.then (AToken.token close) OfStack.done)) = ACall.call (IsCall.getchar is opens close)
called_sound term.Putchar t is (OfStack.then (AToken.token opens) (OfStack.then d (OfStack.then (AToken.token close) OfStack.done))) =
    putchar_call is opens (expr_arg (whole_expr d)) close
called_sound term.Printf t is (OfStack.then (AToken.token opens) (OfStack.then (AToken.token text) (OfStack.then d OfStack.done))) = printf_call is opens text d
called_sound term.Malloc t is d = request_call (request_row is d)
called_sound _ t is d = absurd d

-- what stands behind a `(`

opened_parted : (p : Part) (x : Term) (t : Token) {ts us : List Token} → term_of t ≡ x
    → PartedRow (operand Whole x) (symbol.Want term.Close ∷ symbol.After p ∷ []) ts us → AnOpened p (t ∷ ts) us
opened_parted p x t is (PartedRow.parted d (OfStack.then (AToken.token close) (OfStack.then q OfStack.done))) =
    AnOpened.group (whole_expr (operand_sound Whole x t is d)) close q

opened_name_row : {p : Part} {n : Token} {ts us : List Token} → term_of n ≡ term.Name → AnOpenedName p ts us → AnOpened p (n ∷ ts) us
opened_name_row {n = n} name (AnOpenedName.cast d) = AnOpened.cast (IsBase.alias (name_of n name).1) d
opened_name_row {n = n} name (AnOpenedName.group d close q) = AnOpened.group (whole_expr (prim_operand (IsPrim.variable (name_of n name).1) d)) close q

pub opened_sound : (p : Part) (x : Term) (t : Token) → term_of t ≡ x → {ts us : List Token} → OfRow (opened p x) ts us → AnOpened p (t ∷ ts) us
opened_sound p term.Int t is (OfStack.then (AToken.token star) (OfStack.then (AToken.token close) (OfStack.then (AToken.token malloc) d))) =
    AnOpened.cast (IsBase.int is) (ACasted.casted star close (request_row malloc d))
opened_sound p term.Struct t is (OfStack.then (AToken.token {t = n} name) (OfStack.then (AToken.token star) (OfStack.then (AToken.token close) (OfStack.then (AToken.token malloc) d)))) =
    AnOpened.cast (IsBase.tag is (name_of n name).1) (ACasted.casted star close (request_row malloc d))
opened_sound p term.Name t is (OfStack.then d OfStack.done) = opened_name_row is d
opened_sound p x t is d = opened_parted p x t is (part_row (operand Whole x) (symbol.Want term.Close ∷ symbol.After p ∷ []) d)

opened_star_row : {p : Part} {t : Token} {ts us : List Token} → term_of t ≡ term.Star → AnOpenedStar p ts us → AnOpenedName p (t ∷ ts) us
opened_star_row is (AnOpenedStar.cast close d) = AnOpenedName.cast (ACasted.casted is close d)
opened_star_row {t = t} is (AnOpenedStar.group d close q) = AnOpenedName.group (times_after t is d) close q

-- no operator and no operand
no_operands : {ts : List Token} → AnAfter Whole ts ts
no_operands = AnAfter.after no_posts Operands.none

name_parted : (p : Part) (x : Term) (t : Token) {ts us : List Token} → term_of t ≡ x
    → PartedRow (after Whole x) (symbol.Want term.Close ∷ symbol.After p ∷ []) ts us → AnOpenedName p (t ∷ ts) us
name_parted p x t is (PartedRow.parted d (OfStack.then (AToken.token close) (OfStack.then q OfStack.done))) = AnOpenedName.group (after_sound Whole x t is d) close q

pub opened_name_sound : (p : Part) (x : Term) (t : Token) → term_of t ≡ x → {ts us : List Token} → OfRow (opened_name p x) ts us → AnOpenedName p (t ∷ ts) us
opened_name_sound p term.Star t is (OfStack.then d OfStack.done) = opened_star_row is d
opened_name_sound p term.Close t is (OfStack.then d OfStack.done) = AnOpenedName.group no_operands is d
opened_name_sound p x t is d = name_parted p x t is (part_row (after Whole x) (symbol.Want term.Close ∷ symbol.After p ∷ []) d)

star_parted : (p : Part) (x : Term) (t : Token) {ts us : List Token} → term_of t ≡ x
    → PartedRow (operand Whole x) (symbol.Want term.Close ∷ symbol.After p ∷ []) ts us → AnOpenedStar p (t ∷ ts) us
star_parted p x t is (PartedRow.parted d (OfStack.then (AToken.token close) (OfStack.then q OfStack.done))) = AnOpenedStar.group (operand_sound Whole x t is d) close q

pub opened_star_sound : (p : Part) (x : Term) (t : Token) → term_of t ≡ x → {ts us : List Token} → OfRow (opened_star p x) ts us → AnOpenedStar p (t ∷ ts) us
opened_star_sound p term.Close t is (OfStack.then (AToken.token malloc) d) = AnOpenedStar.cast is (request_row malloc d)
opened_star_sound p x t is d = star_parted p x t is (part_row (operand Whole x) (symbol.Want term.Close ∷ symbol.After p ∷ []) d)

-- right sides

arg_right : {ts us : List Token} → AnArg ts us → ARight ts us
arg_right (AnArg.arg d) = ARight.right (IsRight.plain d)

expr_right : {ts us : List Token} → AnExpr ts us → ARight ts us
expr_right d = arg_right (expr_arg d)

call_right : {ts us : List Token} → ACall ts us → ARight ts us
call_right (ACall.call d) = ARight.right (IsRight.called d)

named_right : {n : Token} {ts us : List Token} → term_of n ≡ term.Name → ANamed ts us → ARight (n ∷ ts) us
named_right name (ANamed.call opens d) = call_right (user_call name opens d)
named_right {n = n} name (ANamed.plain d) = expr_right (whole_expr (prim_operand (IsPrim.variable (name_of n name).1) d))

opened_right : {o : Token} {ts us : List Token} → term_of o ≡ term.Open → AnOpened Whole ts us → ARight (o ∷ ts) us
opened_right is (AnOpened.cast b d) = call_right (cast_call is b d)
opened_right is (AnOpened.group d close q) = expr_right (whole_expr (group_operand is d close q))

pub named_sound : (x : Term) (t : Token) → term_of t ≡ x → {ts us : List Token} → OfRow (named x) ts us → ANamed (t ∷ ts) us
named_sound term.Open t is (OfStack.then d OfStack.done) = ANamed.call is d
named_sound x t is d = ANamed.plain (after_sound Whole x t is d)

pub right_sound : (x : Term) (t : Token) → term_of t ≡ x → {ts us : List Token} → OfRow (right x) ts us → ARight (t ∷ ts) us
right_sound term.Name t is (OfStack.then d OfStack.done) = named_right is d
right_sound term.Open t is (OfStack.then d OfStack.done) = opened_right is d
right_sound term.Getchar t is d = call_right (called_sound term.Getchar t is d)
right_sound term.Putchar t is d = call_right (called_sound term.Putchar t is d)
right_sound term.Printf t is d = call_right (called_sound term.Printf t is d)
right_sound term.Malloc t is d = call_right (called_sound term.Malloc t is d)
right_sound x t is d = expr_right (whole_expr (operand_sound Whole x t is d))

-- assignments

change_simple : {p t : Token} {o : Op} {e : Expr} {ws ts us : List Token} → IsPlace e (p ∷ ws) (t ∷ ts) → change_of (term_of t) ≡ Some o → AnArg ts us
    → ASimple (p ∷ ws) us
change_simple d is (AnArg.arg q) = ASimple.simple (IsSimple.change d is q)

place_simple : {p : Token} {e : Expr} {ws ts us : List Token} → IsPlace e (p ∷ ws) ts → AChange ts us → ASimple (p ∷ ws) us
place_simple d (AChange.put is (ARight.right q)) = ASimple.simple (IsSimple.put d is q)
place_simple d (AChange.change is q) = change_simple d is (expr_arg q)

post_simple : {p : Token} {e : Expr} {ws ts us : List Token} → IsPost e (p ∷ ws) ts → AStep ts us → ASimple (p ∷ ws) us
post_simple d (AStep.changed q) = place_simple (IsPlace.post d) q
post_simple d (AStep.stepped is) = ASimple.simple (IsSimple.step_behind d is)

pub prim_simple : {p : Token} {e : Expr} {ws ts us : List Token} → IsPrim e (p ∷ ws) ts → AnAfter Target ts us → ASimple (p ∷ ws) us
prim_simple {e = e} d (AnAfter.after posts q) = post_simple (IsPost.post d (posts e).1) q

pub group_simple : {o c : Token} {ts us vs : List Token} → term_of o ≡ term.Open → AnExpr ts (c ∷ us) → term_of c ≡ term.Close → AnAfter Target us vs
    → ASimple (o ∷ ts) vs
group_simple is (AnExpr.expr d) close q = prim_simple (IsPrim.group is d close) q

deref_simple : {t : Token} {ts us : List Token} → term_of t ≡ term.Star → AnOperand Pointed ts us → ASimple (t ∷ ts) us
deref_simple is (AnOperand.operand d q) = place_simple (IsPlace.deref is d) q

step_simple : {o : Op} {t : Token} {e : Expr} {ts us : List Token} → step_of (term_of t) ≡ Some o → IsUnary e ts us → ASimple (t ∷ ts) us
step_simple {ts = []} is d = absurd (omega (arith, unary_shorter d))
step_simple {ts = p ∷ ts} is d = ASimple.simple (IsSimple.step_before is d)

factor_simple : {o : Op} {t : Token} {ts us : List Token} → step_of (term_of t) ≡ Some o → AnOperand Factor ts us → ASimple (t ∷ ts) us
factor_simple is (AnOperand.operand d Nothing.nothing) = step_simple is d

pub simple_sound : (x : Term) (t : Token) → term_of t ≡ x → {ts us : List Token} → OfRow (simple x) ts us → ASimple (t ∷ ts) us
simple_sound term.Number t is (OfStack.then d OfStack.done) = prim_simple (IsPrim.number (number_of t is).1) d
simple_sound term.Null t is (OfStack.then d OfStack.done) = prim_simple (IsPrim.null is) d
simple_sound term.Eof t is (OfStack.then d OfStack.done) = prim_simple (IsPrim.eof is) d
simple_sound term.Star t is (OfStack.then d OfStack.done) = deref_simple is d
simple_sound term.PlusPlus t is (OfStack.then d OfStack.done) = factor_simple (ap step_of is) d
simple_sound term.MinusMinus t is (OfStack.then d OfStack.done) = factor_simple (ap step_of is) d
simple_sound _ t is d = absurd d

-- declarations

-- ["*"] N and what stands behind it
pub data AStarred (behind : List Symbol) : List Token → List Token → Type 0 where
  word : {stars : ℕ} {n : Token} {text : List ℕ} {ts us vs : List Token} →
      IsStars stars ts (n ∷ us) → n.kind ≡ kind.Name text → OfStack behind us vs → AStarred behind ts vs

pub starred_sound : (behind : List Symbol) (x : Term) (t : Token) → term_of t ≡ x → {ts us : List Token} → OfRow (starred behind x) ts us → AStarred behind (t ∷ ts) us
starred_sound behind term.Star t is (OfStack.then (AToken.token {t = n} name) d) = AStarred.word (IsStars.star is) (name_of n name).1 d
starred_sound behind term.Name t is d = AStarred.word IsStars.none (name_of t is).1 d
starred_sound behind _ t is d = absurd d

local_starred : {ts us : List Token} → AStarred (symbol.AfterLocal ∷ []) ts us → OfLocal ts us
local_starred {ts = ts} (AStarred.word {stars = stars} {n = n} {text = text} d is (OfStack.then q OfStack.done)) = λ b f. q b f n stars text ts d is

pub local_sound : (x : Term) (t : Token) → term_of t ≡ x → {ts us : List Token} → OfRow (starred (symbol.AfterLocal ∷ []) x) ts us → OfLocal (t ∷ ts) us
local_sound x t is d = local_starred (starred_sound (symbol.AfterLocal ∷ []) x t is d)

more_declrs : {b : Base} {f t : Token} {d : Declr} {ws ts us : List Token} → IsDeclr b f d ws (t ∷ ts) → term_of t ≡ term.Comma → SomeDeclrs b f ts us
    → SomeDeclrs b f ws us
more_declrs d is (SomeDeclrs.declrs q end) = SomeDeclrs.declrs (IsDeclrs.more d is q) end

pub more_locals_sound : (x : Term) (t : Token) → term_of t ≡ x → {ts us : List Token} → OfRow (more_locals x) ts us → OfMoreLocals (t ∷ ts) us
more_locals_sound term.Comma t is (OfStack.then q OfStack.done) = λ b f d ws first. more_declrs first is (q b f)
more_locals_sound term.Semicolon t is OfStack.done = λ b f d ws first. SomeDeclrs.declrs (IsDeclrs.last first) is
more_locals_sound _ t is d = absurd d

given_locals : {t : Token} {ts us vs : List Token} → term_of t ≡ term.Put → ARight ts us → OfMoreLocals us vs → OfAfterLocal (t ∷ ts) vs
given_locals is (ARight.right r) q = λ b f n stars text ws d name. q b f _ ws (IsDeclr.given d name is r)

bare_locals : {ts us : List Token} → OfMoreLocals ts us → OfAfterLocal ts us
bare_locals q = λ b f n stars text ws d name. q b f _ ws (IsDeclr.bare d name)

pub after_local_sound : (x : Term) (t : Token) → term_of t ≡ x → {ts us : List Token} → OfRow (after_local x) ts us → OfAfterLocal (t ∷ ts) us
after_local_sound term.Put t is (OfStack.then d (OfStack.then q OfStack.done)) = given_locals is d q
after_local_sound x t is d = bare_locals (more_locals_sound x t is d)
