-- One turn of each loop of the readers.
use Rattle.std.specs.Prelude.{ℕ, Bool, true, false, List, [], ◌∷◌, Option, Some, None}
use Rattle.c_lexer.specs.declared.token.Token.{Token}
use Rattle.c_tree.specs.declared.expr.Oper.{Oper}
use Rattle.c_tree.specs.declared.tree.Arg.{Arg}
use Rattle.c_tree.specs.declared.tree.Expr.{Expr}
use Rattle.c_tree.specs.declared.tree.Expr.TheVariants as expr
use Rattle.c_parser.specs.declared.term.Term.{Term}
use Rattle.c_parser.specs.declared.term.Term.TheVariants as term
use Rattle.c_parser.specs.Term.{term_of, next}
use Rattle.c_parser.specs.ReadExpressions.{Read, chained, read_want, read_posts_at, joint, read_arg}

-- what is read, and no turn more
abbrev pub stays : {A : Type 0} → A → Read A
stays a ts = Some (a, ts)

-- an operand goes on with `->` or `[`

abbrev pub is_post : Term → Bool
is_post term.Arrow = true
is_post term.OpenIndex = true
is_post _ = false

abbrev pub goes_on : List Token → Bool
goes_on ts = is_post (next ts)

abbrev pub post_turn : Read Expr → Expr → Read Expr
post_turn within a [] = None
post_turn within a (t ∷ ts) = read_posts_at within stays a (term_of t) t ts

-- the operator of the level that joins what is read with what is left

abbrev pub joins : ℕ → List Token → Option Oper
joins k [] = None
joins k (t ∷ ts) = joint k t ts

abbrev pub tail_turn : Read Expr → Oper → Expr → Read Expr
tail_turn operand o a [] = None
tail_turn operand o a (t ∷ ts) = chained (operand ts) (λ b us. stays (expr.Binary o a b t.start) us)

-- an argument behind its comma
abbrev pub comma_arg : ℕ → Read Arg
comma_arg depth ts = chained (read_want term.Comma ts) (λ c us. read_arg depth us)
