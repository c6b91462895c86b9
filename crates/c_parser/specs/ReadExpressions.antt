-- How expressions are read: functions from tokens to a tree and the tokens behind it. The number is a bound on the depth.
use Rattle.std.specs.Prelude.{ℕ, zero, suc, ℤ, negsuc, if◌then◌else◌, List, [], ◌∷◌, length, Option, Some, None, option_map, option_and_then}
use Rattle.c_lexer.specs.declared.token.Token.{Token}
use Rattle.c_lexer.specs.declared.token.Kind.{Kind}
use Rattle.c_lexer.specs.declared.token.Kind.TheVariants as kind
use Rattle.c_tree.specs.declared.expr.Oper.{Oper}
use Rattle.c_tree.specs.declared.expr.Sign.TheVariants as sign
use Rattle.c_tree.specs.declared.tree.Arg.{Arg}
use Rattle.c_tree.specs.declared.tree.Expr.{Expr}
use Rattle.c_tree.specs.declared.tree.Expr.TheVariants as expr
use Rattle.c_tree.specs.declared.tree.Word.{Word}
use Rattle.c_parser.specs.declared.term.Term.{Term}
use Rattle.c_parser.specs.declared.term.Term.TheVariants as term
use Rattle.c_parser.specs.Term.{term_of, same, sees, word}
use Rattle.c_parser.specs.Expressions.{oper_of, arg}

-- what is read, with the tokens behind it
abbrev pub Read : Type 0 → Type 0
Read A = List Token → Option (A × List Token)

-- what is read changed
abbrev pub mapped : {A B : Type 0} → (A → B) → Option (A × List Token) → Option (B × List Token)
mapped f r = option_map (λ p. (f p.0, p.1)) r

-- and something else read behind it
abbrev pub chained : {A B : Type 0} → Option (A × List Token) → (A → Read B) → Option (B × List Token)
chained r f = option_and_then (λ p. f p.0 p.1) r

-- a token of this term
abbrev pub read_want : Term → Read Token
read_want x [] = None
read_want x (t ∷ ts) = if same x (term_of t) then Some (t, ts) else None

-- what a name, a number and a text carry

abbrev pub name_in : Kind → Option (List ℕ)
name_in (kind.Name text) = Some text
name_in _ = None

abbrev pub number_in : Kind → Option ℤ
number_in (kind.Number value) = Some value
number_in _ = None

abbrev pub text_in : Kind → Option (List ℕ)
text_in (kind.Text text) = Some text
text_in _ = None

abbrev pub read_name : Read Word
read_name [] = None
read_name (t ∷ ts) = option_map (λ text. (word text t, ts)) (name_in t.kind)

abbrev pub read_number : Read Expr
read_number [] = None
read_number (t ∷ ts) = option_map (λ value. (expr.Const value t.start, ts)) (number_in t.kind)

-- The reader within is that of an expr in parentheses or brackets.

abbrev pub read_prim_at : Read Expr → Term → Token → Read Expr
read_prim_at within term.Number t ts = read_number (t ∷ ts)
read_prim_at within term.Null t ts = Some (expr.Null t.start, ts)
read_prim_at within term.Eof t ts = Some (expr.Const (negsuc 0) t.start, ts)
read_prim_at within term.Name t ts = mapped expr.Var (read_name (t ∷ ts))
read_prim_at within term.Open t ts = chained (within ts) (λ e us. mapped (λ c. e) (read_want term.Close us))
read_prim_at within _ t ts = None

abbrev pub read_prim : Read Expr → Read Expr
read_prim within [] = None
read_prim within (t ∷ ts) = read_prim_at within (term_of t) t ts

-- one turn behind the operand a; the reader on goes from what is read so far
abbrev pub read_posts_at : Read Expr → (Expr → Read Expr) → Expr → Term → Token → Read Expr
read_posts_at within on a term.Arrow t ts = chained (read_name ts) (λ w us. on (expr.Field a w t.start) us)
read_posts_at within on a term.OpenIndex t ts =
    chained (within ts) (λ i us. chained (read_want term.CloseIndex us) (λ c vs. on (expr.Index a i t.start) vs))
read_posts_at within on a _ t ts = Some (a, t ∷ ts)

-- the number of turns is more than the number of tokens
unfoldable pub read_posts : Read Expr → ℕ → Expr → Read Expr
read_posts within zero a ts = None
read_posts within (suc n) a [] = Some (a, [])
read_posts within (suc n) a (t ∷ ts) = read_posts_at within (read_posts within n) a (term_of t) t ts

unfoldable pub read_post : Read Expr → Read Expr
read_post within ts = chained (read_prim within ts) (λ a us. read_posts within (length ts) a us)

-- The operator of level k that joins an operand with the next one. In a size the last `*` stands before `sizeof`.
abbrev pub joint : ℕ → Token → List Token → Option Oper
joint k t ts = if sees term.Sizeof ts then None else oper_of k (term_of t)

abbrev pub read_tail_at : Read Expr → (Expr → Read Expr) → Expr → Option Oper → Token → Read Expr
read_tail_at operand on a None t ts = Some (a, t ∷ ts)
read_tail_at operand on a (Some o) t ts = chained (operand ts) (λ b us. on (expr.Binary o a b t.start) us)

unfoldable pub read_tail : Read Expr → ℕ → ℕ → Expr → Read Expr
read_tail operand k zero a ts = None
read_tail operand k (suc n) a [] = Some (a, [])
read_tail operand k (suc n) a (t ∷ ts) = read_tail_at operand (read_tail operand k n) a (joint k t ts) t ts

unfoldable pub read_level : Read Expr → ℕ → Read Expr
read_level unary zero ts = unary ts
read_level unary (suc k) ts = chained (read_level unary k ts) (λ a us. read_tail (read_level unary k) k (length ts) a us)

abbrev pub read_unary_at : Read Expr → Term → Token → Read Expr
read_unary_at inner term.Minus t ts = mapped (λ e. expr.Unary sign.Minus e t.start) (inner ts)
read_unary_at inner term.Not t ts = mapped (λ e. expr.Unary sign.Not e t.start) (inner ts)
read_unary_at inner term.Star t ts = mapped (λ e. expr.Deref e t.start) (inner ts)
read_unary_at inner _ t ts = read_post (read_level inner 6) (t ∷ ts)

unfoldable pub read_unary : ℕ → Read Expr
read_unary zero ts = None
read_unary (suc depth) [] = None
read_unary (suc depth) (t ∷ ts) = read_unary_at (read_unary depth) (term_of t) t ts

abbrev pub read_expr : ℕ → Read Expr
read_expr depth ts = read_level (read_unary depth) 6 ts

-- what a reader reads, with the place of its first token
abbrev pub placed : Read Expr → Read Arg
placed read [] = None
placed read (t ∷ ts) = mapped (λ e. arg e t) (read (t ∷ ts))

abbrev pub read_arg : ℕ → Read Arg
read_arg depth = placed (read_expr depth)
