-- The grammar of expressions (C99 6.5): which tokens each is read from, and which are left behind it.
use Rattle.std.specs.Prelude.{◌≡◌, ℕ, zero, suc, ℤ, negsuc, List, [], ◌∷◌, Option, Some, None}
use Rattle.c_lexer.specs.declared.token.Token.{Token}
use Rattle.c_lexer.specs.declared.token.Kind.TheVariants as kind
use Rattle.c_tree.specs.declared.expr.Sign.TheVariants as sign
use Rattle.c_tree.specs.declared.expr.Oper.{Oper}
use Rattle.c_tree.specs.declared.expr.Oper.TheVariants as oper
use Rattle.c_tree.specs.declared.tree.Arg.{Arg}
use Rattle.c_tree.specs.declared.tree.Expr.{Expr}
use Rattle.c_tree.specs.declared.tree.Expr.TheVariants as expr
use Rattle.c_parser.specs.declared.term.Term.{Term}
use Rattle.c_parser.specs.declared.term.Term.TheVariants as term
use Rattle.c_parser.specs.Term.{term_of, word}

-- the operators of each level: `*`, `/` and `%` bind closest
abbrev pub product_of : Term → Option Oper
product_of term.Star = Some oper.Mul
product_of term.Slash = Some oper.Div
product_of term.Percent = Some oper.Rem
product_of _ = None

abbrev pub sum_of : Term → Option Oper
sum_of term.Plus = Some oper.Add
sum_of term.Minus = Some oper.Sub
sum_of _ = None

abbrev pub order_of : Term → Option Oper
order_of term.Less = Some oper.Lt
order_of term.AtMost = Some oper.Le
order_of term.Greater = Some oper.Gt
order_of term.AtLeast = Some oper.Ge
order_of _ = None

abbrev pub equality_of : Term → Option Oper
equality_of term.Equals = Some oper.Eq
equality_of term.Differs = Some oper.Ne
equality_of _ = None

abbrev pub and_of : Term → Option Oper
and_of term.AndAnd = Some oper.And
and_of _ = None

abbrev pub or_of : Term → Option Oper
or_of term.OrOr = Some oper.Or
or_of _ = None

unfoldable pub oper_of : ℕ → Term → Option Oper
oper_of zero x = product_of x
oper_of (suc zero) x = sum_of x
oper_of (suc (suc zero)) x = order_of x
oper_of (suc (suc (suc zero))) x = equality_of x
oper_of (suc (suc (suc (suc zero)))) x = and_of x
oper_of (suc (suc (suc (suc (suc zero))))) x = or_of x
oper_of (suc (suc (suc (suc (suc (suc k)))))) x = None

mutual
  -- Level 0 is unary; level k + 1 is operands of level k with the operators of k between: 1 is mul, 2 add, 3 rel, 4 eq,
  -- 5 and, 6 expr.
  pub data IsLevel : ℕ → Expr → List Token → List Token → Type 0 where
    operand : {e : Expr} {ts us : List Token} → IsUnary e ts us → IsLevel zero e ts us
    level : {k : ℕ} {a e : Expr} {ts us vs : List Token} →
        IsLevel k a ts us → IsTail k a e us vs → IsLevel (suc k) e ts vs

  -- the operators and operands behind a, grouped from the left
  pub data IsTail : ℕ → Expr → Expr → List Token → List Token → Type 0 where
    done : {k : ℕ} {a : Expr} {ts : List Token} → IsTail k a a ts ts
    more : {k : ℕ} {o : Oper} {a b e : Expr} {t : Token} {ts us vs : List Token} →
        oper_of k (term_of t) ≡ Some o → IsLevel k b ts us → IsTail k (expr.Binary o a b t.start) e us vs → IsTail k a e (t ∷ ts) vs

  -- unary = post | ("-" | "!" | "*") unary
  pub data IsUnary : Expr → List Token → List Token → Type 0 where
    plain : {e : Expr} {ts us : List Token} → IsPost e ts us → IsUnary e ts us
    minus : {t : Token} {e : Expr} {ts us : List Token} →
        term_of t ≡ term.Minus → IsUnary e ts us → IsUnary (expr.Unary sign.Minus e t.start) (t ∷ ts) us
    not : {t : Token} {e : Expr} {ts us : List Token} →
        term_of t ≡ term.Not → IsUnary e ts us → IsUnary (expr.Unary sign.Not e t.start) (t ∷ ts) us
    deref : {t : Token} {e : Expr} {ts us : List Token} →
        term_of t ≡ term.Star → IsUnary e ts us → IsUnary (expr.Deref e t.start) (t ∷ ts) us

  -- post = prim { "->" N | "[" expr "]" }
  pub data IsPost : Expr → List Token → List Token → Type 0 where
    post : {a e : Expr} {ts us vs : List Token} → IsPrim a ts us → IsPosts a e us vs → IsPost e ts vs

  -- what stands behind a
  pub data IsPosts : Expr → Expr → List Token → List Token → Type 0 where
    end : {a : Expr} {ts : List Token} → IsPosts a a ts ts
    field : {a e : Expr} {t n : Token} {text : List ℕ} {ts us : List Token} →
        term_of t ≡ term.Arrow → n.kind ≡ kind.Name text → IsPosts (expr.Field a (word text n) t.start) e ts us
        → IsPosts a e (t ∷ n ∷ ts) us
    index : {a i e : Expr} {t c : Token} {ts us vs : List Token} →
        term_of t ≡ term.OpenIndex → IsLevel 6 i ts (c ∷ us) → term_of c ≡ term.CloseIndex
        → IsPosts (expr.Index a i t.start) e us vs → IsPosts a e (t ∷ ts) vs

  -- prim = K | "NULL" | "EOF" | N | "(" expr ")"
  pub data IsPrim : Expr → List Token → List Token → Type 0 where
    number : {t : Token} {value : ℤ} {ts : List Token} →
        t.kind ≡ kind.Number value → IsPrim (expr.Const value t.start) (t ∷ ts) ts
    null : {t : Token} {ts : List Token} → term_of t ≡ term.Null → IsPrim (expr.Null t.start) (t ∷ ts) ts
    eof : {t : Token} {ts : List Token} → term_of t ≡ term.Eof → IsPrim (expr.Const (negsuc 0) t.start) (t ∷ ts) ts
    variable : {t : Token} {text : List ℕ} {ts : List Token} →
        t.kind ≡ kind.Name text → IsPrim (expr.Var (word text t)) (t ∷ ts) ts
    group : {o c : Token} {e : Expr} {ts us : List Token} →
        term_of o ≡ term.Open → IsLevel 6 e ts (c ∷ us) → term_of c ≡ term.Close → IsPrim e (o ∷ ts) us

-- expr = and {"||" and}
abbrev pub IsExpr : Expr → List Token → List Token → Type 0
IsExpr e ts us = IsLevel 6 e ts us

abbrev pub arg : Expr → Token → Arg
arg e t = record { expr = e; at = t.start }

-- an expr with the place of its first token
pub data IsArg : Arg → List Token → List Token → Type 0 where
  argument : {e : Expr} {t : Token} {ts us : List Token} → IsExpr e (t ∷ ts) us → IsArg (arg e t) (t ∷ ts) us
