-- The recogniser goes over each expression.
use Rattle.std.proofs.Common.{◌≡◌, ℕ, true, List, [], ◌∷◌, Some, refl, ap, ◌∙◌, ◌<◌, arith}
use Rattle.c_lexer.specs.declared.token.Token.{Token}
use Rattle.c_tree.specs.declared.expr.Oper.{Oper}
use Rattle.c_tree.specs.declared.tree.Expr.{Expr}
use Rattle.c_tree.specs.declared.tree.Arg.{Arg}
use Rattle.c_parser.specs.Expressions.{IsArg, IsLevel, IsTail, IsUnary, IsPost, IsPosts, IsPrim, oper_of, product_of}
use Rattle.c_parser.specs.Recogniser.{advance, may_end, stop, stopped, takes}
use Rattle.c_parser.specs.Term.{next, same, term_of}
use Rattle.c_parser.specs.declared.symbol.Part.{Part}
use Rattle.c_parser.specs.declared.symbol.Part.TheVariants.{Whole, Count}
use Rattle.c_parser.specs.declared.symbol.Symbol.{Symbol}
use Rattle.c_parser.specs.declared.symbol.Symbol.TheVariants as symbol
use Rattle.c_parser.specs.declared.term.Term.{Term}
use Rattle.c_parser.specs.declared.term.Term.TheVariants as term
use Rattle.c_parser.proofs.Terms.{name_term, number_term, same_self}
use Rattle.c_parser.proofs.CompleteExpressions.{begins_operand, level_of, oper_level, unary_begins}

-- where two stacks take the next token alike, the recogniser goes on alike
pub stops_alike : (ts : List Token) (stack other : List Symbol) → advance stack (next ts) ≡ advance other (next ts) → stop ts stack ≡ stop ts other
stops_alike [] stack other alike = refl
stops_alike (t ∷ ts) stack other alike = ap (stopped (t ∷ ts) (stop ts)) alike

-- the token is taken, and these are still to come
pub taken : (t : Token) (ts : List Token) (stack front : List Symbol) (x : Term) → term_of t ≡ x → advance stack x ≡ Some front → stop (t ∷ ts) stack ≡ stop ts front
taken t ts stack front x is moves = rw (is, moves)

pub wanted_taken : (t : Token) (ts : List Token) (stack : List Symbol) (x : Term) → term_of t ≡ x → stop (t ∷ ts) (symbol.Want x ∷ stack) ≡ stop ts stack
unfolding advance takes
wanted_taken t ts stack x is = rw (is, same_self x)

-- an operator stands between two operands, whatever its level

whole_goes_on : (x : Term) → level_of x < 6 → (stack : List Symbol) → advance (symbol.After Whole ∷ stack) x ≡ Some (symbol.Operand Whole ∷ stack)
unfolding advance takes
whole_goes_on term.Star operator stack = refl
whole_goes_on term.Slash operator stack = refl
whole_goes_on term.Percent operator stack = refl
whole_goes_on term.Plus operator stack = refl
whole_goes_on term.Minus operator stack = refl
whole_goes_on term.Less operator stack = refl
whole_goes_on term.AtMost operator stack = refl
whole_goes_on term.Greater operator stack = refl
whole_goes_on term.AtLeast operator stack = refl
whole_goes_on term.Equals operator stack = refl
whole_goes_on term.Differs operator stack = refl
whole_goes_on term.AndAnd operator stack = refl
whole_goes_on term.OrOr operator stack = refl
whole_goes_on _ operator stack = absurd (omega (arith, operator))

operator_taken : (k : ℕ) (o : Oper) (t : Token) (ts : List Token) → oper_of k (term_of t) ≡ Some o → (stack : List Symbol)
    → stop (t ∷ ts) (symbol.After Whole ∷ stack) ≡ stop ts (symbol.Operand Whole ∷ stack)
operator_taken k o t ts is stack =
    let there = oper_level k (term_of t) o is in
    taken t ts (symbol.After Whole ∷ stack) (symbol.Operand Whole ∷ stack) (term_of t) refl (whole_goes_on (term_of t) (omega (arith, there)) stack)

-- A derivation takes the recogniser over its tokens, whatever the operand is a part of and whatever symbols stand below.

mutual
  unfolding advance takes may_end same

  pub unary_runs : {e : Expr} {ts us : List Token} → IsUnary e ts us → (p : Part) (stack : List Symbol) → stop ts (symbol.Operand p ∷ stack) ≡ stop us (symbol.After p ∷ stack)
  unary_runs (IsUnary.plain d) p stack = post_runs d p stack
  unary_runs (IsUnary.minus is d) p stack = rw is (unary_runs d p stack)
  unary_runs (IsUnary.not is d) p stack = rw is (unary_runs d p stack)
  unary_runs (IsUnary.deref is d) p stack = rw is (unary_runs d p stack)

  pub post_runs : {e : Expr} {ts us : List Token} → IsPost e ts us → (p : Part) (stack : List Symbol) → stop ts (symbol.Operand p ∷ stack) ≡ stop us (symbol.After p ∷ stack)
  post_runs (IsPost.post d q) p stack = prim_runs d p stack ∙ posts_runs q p stack

  prim_runs : {e : Expr} {ts us : List Token} → IsPrim e ts us → (p : Part) (stack : List Symbol) → stop ts (symbol.Operand p ∷ stack) ≡ stop us (symbol.After p ∷ stack)
  prim_runs (IsPrim.number {t = t} is) p stack = rw (number_term t _ is)
  prim_runs (IsPrim.null is) p stack = rw is
  prim_runs (IsPrim.eof is) p stack = rw is
  prim_runs (IsPrim.variable {t = t} is) p stack = rw (name_term t _ is)
  prim_runs (IsPrim.group is d end) p stack = rw is (level_runs d (symbol.Want term.Close ∷ symbol.After p ∷ stack) ∙ rw end)

  posts_runs : {a e : Expr} {ts us : List Token} → IsPosts a e ts us → (p : Part) (stack : List Symbol) → stop ts (symbol.After p ∷ stack) ≡ stop us (symbol.After p ∷ stack)
  posts_runs IsPosts.end p stack = refl
  posts_runs (IsPosts.field {n = n} is name d) p stack = rw (is, name_term n _ name) (posts_runs d p stack)
  posts_runs (IsPosts.index is d end q) p stack = rw is (level_runs d (symbol.Want term.CloseIndex ∷ symbol.After p ∷ stack) ∙ rw end (posts_runs q p stack))

  pub level_runs : {k : ℕ} {e : Expr} {ts us : List Token} → IsLevel k e ts us → (stack : List Symbol) → stop ts (symbol.Operand Whole ∷ stack) ≡ stop us (symbol.After Whole ∷ stack)
  level_runs (IsLevel.operand d) stack = unary_runs d Whole stack
  level_runs (IsLevel.level d q) stack = level_runs d stack ∙ tail_runs q stack

  tail_runs : {k : ℕ} {a e : Expr} {ts us : List Token} → IsTail k a e ts us → (stack : List Symbol) → stop ts (symbol.After Whole ∷ stack) ≡ stop us (symbol.After Whole ∷ stack)
  tail_runs IsTail.done stack = refl
  tail_runs (IsTail.more {k = k} {o = o} {t = t} {ts = ts} is d q) stack =
      operator_taken k o t ts is stack ∙ level_runs d stack ∙ tail_runs q stack

pub arg_runs : {a : Arg} {ts us : List Token} → IsArg a ts us → (stack : List Symbol) → stop ts (symbol.Operand Whole ∷ stack) ≡ stop us (symbol.After Whole ∷ stack)
arg_runs (IsArg.argument d) stack = level_runs d stack

-- products that are counted

-- an operand is no unit
factor_goes_on : (x : Term) → begins_operand x ≡ true → (stack : List Symbol) → advance (symbol.NextFactor ∷ stack) x ≡ advance (symbol.Operand Count ∷ stack) x
unfolding advance takes may_end
factor_goes_on term.Sizeof is stack = absurd (cc)
factor_goes_on _ is stack = refl

factor_runs : {e : Expr} {ts us : List Token} → IsUnary e ts us → (stack : List Symbol) → stop ts (symbol.NextFactor ∷ stack) ≡ stop us (symbol.After Count ∷ stack)
factor_runs {ts = ts} d stack =
    stops_alike ts (symbol.NextFactor ∷ stack) (symbol.Operand Count ∷ stack) (factor_goes_on (next ts) (unary_begins d) stack) ∙ unary_runs d Count stack

product_goes_on : {b : Expr} {ts us : List Token} (x : Term) (o : Oper) → product_of x ≡ Some o → IsUnary b ts us → (t : Token) → term_of t ≡ x → (stack : List Symbol)
    → stop (t ∷ ts) (symbol.After Count ∷ stack) ≡ stop us (symbol.After Count ∷ stack)
unfolding advance takes
product_goes_on term.Star o is d t term_is stack = rw term_is (factor_runs d stack)
product_goes_on term.Slash o is d t term_is stack = rw term_is (unary_runs d Count stack)
product_goes_on term.Percent o is d t term_is stack = rw term_is (unary_runs d Count stack)
product_goes_on _ o is d t term_is stack = absurd (cc)

factors_runs : {a e : Expr} {ts us : List Token} → IsTail 0 a e ts us → (stack : List Symbol) → stop ts (symbol.After Count ∷ stack) ≡ stop us (symbol.After Count ∷ stack)
unfolding oper_of
factors_runs IsTail.done stack = refl
factors_runs (IsTail.more {o = o} {t = t} is (IsLevel.operand d) q) stack = product_goes_on (term_of t) o is d t refl stack ∙ factors_runs q stack

pub product_runs : {e : Expr} {ts us : List Token} → IsLevel 1 e ts us → (stack : List Symbol) → stop ts (symbol.Operand Count ∷ stack) ≡ stop us (symbol.After Count ∷ stack)
product_runs (IsLevel.level (IsLevel.operand d) q) stack = unary_runs d Count stack ∙ factors_runs q stack
