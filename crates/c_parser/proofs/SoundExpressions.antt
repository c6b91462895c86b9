-- What is read as an expression is one.
use Rattle.std.proofs.Common.{◌≡◌, ℕ, zero, suc, Bool, true, false, List, [], ◌∷◌, Option, Some, None, if◌then◌else◌, length, refl}
use Rattle.c_lexer.specs.declared.token.Token.{Token}
use Rattle.c_tree.specs.declared.expr.Oper.{Oper}
use Rattle.c_tree.specs.declared.tree.Expr.{Expr}
use Rattle.c_tree.specs.declared.tree.Expr.TheVariants as expr
use Rattle.c_parser.specs.Expressions.{IsArg, IsLevel, IsPost, IsPosts, IsPrim, IsTail, IsUnary, oper_of}
use Rattle.c_parser.specs.ReadExpressions.{Read, joint, read_arg, read_expr, read_level, read_post, read_posts, read_posts_at, read_prim, read_prim_at, read_tail, read_tail_at, read_unary, read_unary_at}
use Rattle.c_parser.specs.Term.{sees, term_of}
use Rattle.c_parser.specs.declared.term.Term.{Term}
use Rattle.c_parser.specs.declared.term.Term.TheVariants as term
use Rattle.c_parser.proofs.Yields.{Yields, ReadsOnly, chains, maps, so, want, first_name, first_number, name}

prim_at_sound : (within : Read Expr) → ReadsOnly (IsLevel 6) within → (x : Term) (t : Token) (ts : List Token) → term_of t ≡ x
    → Yields (λ e us. IsPrim e (t ∷ ts) us) (read_prim_at within x t ts)
prim_at_sound within sound term.Number t ts is = so (first_number t ts) (λ e us n. rw (n.expr, n.list) (IsPrim.number n.kind))
prim_at_sound within sound term.Null t ts is = Yields.found (IsPrim.null is)
prim_at_sound within sound term.Eof t ts is = Yields.found (IsPrim.eof is)
prim_at_sound within sound term.Name t ts is = maps _ (first_name t ts) (λ w us n. rw (n.word, n.list) (IsPrim.variable n.kind))
prim_at_sound within sound term.Open t ts is = chains _ (sound ts) (λ e us d. maps _ (want term.Close us) (λ c vs end. IsPrim.group is (rw end.list at d) end.term))
prim_at_sound within sound _ t ts is = Yields.nothing

prim_sound : (within : Read Expr) → ReadsOnly (IsLevel 6) within → ReadsOnly IsPrim (read_prim within)
prim_sound within sound [] = Yields.nothing
prim_sound within sound (t ∷ ts) = prim_at_sound within sound (term_of t) t ts refl

posts_at_sound : (within : Read Expr) → ReadsOnly (IsLevel 6) within → (on : Expr → Read Expr) → ((a : Expr) → ReadsOnly (IsPosts a) (on a))
    → (a : Expr) (x : Term) (t : Token) (ts : List Token) → term_of t ≡ x → Yields (λ e us. IsPosts a e (t ∷ ts) us) (read_posts_at within on a x t ts)
posts_at_sound within sound on rest a term.Arrow t ts is =
    chains _ (name ts) (λ w us n. so (rest (expr.Field a w t.start) us) (λ e vs d. rw n.list (IsPosts.field is n.kind (rw n.word at d))))
posts_at_sound within sound on rest a term.OpenIndex t ts is =
    chains _ (sound ts) (λ i us d. chains _ (want term.CloseIndex us) (λ c vs end.
    so (rest (expr.Index a i t.start) vs) (λ e ws p. IsPosts.index is (rw end.list at d) end.term p)))
posts_at_sound within sound on rest a _ t ts is = Yields.found IsPosts.end

posts_sound : (within : Read Expr) → ReadsOnly (IsLevel 6) within → (n : ℕ) (a : Expr) → ReadsOnly (IsPosts a) (read_posts within n a)
unfolding read_posts
posts_sound within sound zero a ts = Yields.nothing
posts_sound within sound (suc n) a [] = Yields.found IsPosts.end
posts_sound within sound (suc n) a (t ∷ ts) = posts_at_sound within sound (read_posts within n) (posts_sound within sound n) a (term_of t) t ts refl

post_within_sound : (within : Read Expr) → ReadsOnly (IsLevel 6) within → ReadsOnly IsPost (read_post within)
unfolding read_post
post_within_sound within sound ts = chains _ (prim_sound within sound ts) (λ a us d. so (posts_sound within sound (length ts) a us) (λ e vs p. IsPost.post d p))

-- an operator that joins here is one of the level
joint_oper : (b : Bool) (r : Option Oper) (o : Oper) → (if b then None else r) ≡ Some o → r ≡ Some o
joint_oper true r o is = absurd (cc)
joint_oper false r o is = is

tail_at_sound : (k : ℕ) (operand : Read Expr) → ReadsOnly (IsLevel k) operand → (on : Expr → Read Expr) → ((a : Expr) → ReadsOnly (IsTail k a) (on a))
    → (a : Expr) (o : Option Oper) (t : Token) (ts : List Token) → joint k t ts ≡ o → Yields (λ e us. IsTail k a e (t ∷ ts) us) (read_tail_at operand on a o t ts)
tail_at_sound k operand sound on rest a None t ts is = Yields.found IsTail.done
tail_at_sound k operand sound on rest a (Some o) t ts is =
    chains _ (sound ts) (λ b us d. so (rest (expr.Binary o a b t.start) us) (λ e vs q. IsTail.more (joint_oper (sees term.Sizeof ts) (oper_of k (term_of t)) o is) d q))

tail_sound : (k : ℕ) (operand : Read Expr) → ReadsOnly (IsLevel k) operand → (n : ℕ) (a : Expr) → ReadsOnly (IsTail k a) (read_tail operand k n a)
unfolding read_tail
tail_sound k operand sound zero a ts = Yields.nothing
tail_sound k operand sound (suc n) a [] = Yields.found IsTail.done
tail_sound k operand sound (suc n) a (t ∷ ts) = tail_at_sound k operand sound (read_tail operand k n) (tail_sound k operand sound n) a (joint k t ts) t ts refl

level_within_sound : (unary : Read Expr) → ReadsOnly IsUnary unary → (k : ℕ) → ReadsOnly (IsLevel k) (read_level unary k)
unfolding read_level
level_within_sound unary sound zero ts = so (sound ts) (λ e us d. IsLevel.operand d)
level_within_sound unary sound (suc k) ts =
    chains _ (level_within_sound unary sound k ts) (λ a us d.
    so (tail_sound k (read_level unary k) (level_within_sound unary sound k) (length ts) a us) (λ e vs q. IsLevel.level d q))

unary_at_sound : (inner : Read Expr) → ReadsOnly IsUnary inner → (x : Term) (t : Token) (ts : List Token) → term_of t ≡ x → Yields (λ e us. IsUnary e (t ∷ ts) us) (read_unary_at inner x t ts)
unary_at_sound inner sound term.Minus t ts is = maps _ (sound ts) (λ e us d. IsUnary.minus is d)
unary_at_sound inner sound term.Not t ts is = maps _ (sound ts) (λ e us d. IsUnary.not is d)
unary_at_sound inner sound term.Star t ts is = maps _ (sound ts) (λ e us d. IsUnary.deref is d)
unary_at_sound inner sound _ t ts is = so (post_within_sound (read_level inner 6) (level_within_sound inner sound 6) (t ∷ ts)) (λ e us d. IsUnary.plain d)

pub unary_sound : (depth : ℕ) → ReadsOnly IsUnary (read_unary depth)
unfolding read_unary
unary_sound zero ts = Yields.nothing
unary_sound (suc depth) [] = Yields.nothing
unary_sound (suc depth) (t ∷ ts) = unary_at_sound (read_unary depth) (unary_sound depth) (term_of t) t ts refl

pub level_sound : (depth k : ℕ) → ReadsOnly (IsLevel k) (read_level (read_unary depth) k)
level_sound depth k ts = level_within_sound (read_unary depth) (unary_sound depth) k ts

pub arg_sound : (depth : ℕ) → ReadsOnly IsArg (read_arg depth)
arg_sound depth [] = Yields.nothing
arg_sound depth (t ∷ ts) = maps _ (level_sound depth 6 (t ∷ ts)) (λ e us d. IsArg.argument d)

-- what begins with this term is no `-`, `!` or `*`
abbrev pub begins_post : Term → Bool
begins_post term.Minus = false
begins_post term.Not = false
begins_post term.Star = false
begins_post _ = true

post_at_sound : (depth : ℕ) (x : Term) (t : Token) (ts : List Token) → begins_post x ≡ true → Yields (λ e us. IsPost e (t ∷ ts) us) (read_unary_at (read_unary depth) x t ts)
post_at_sound depth term.Minus t ts begins = absurd (cc)
post_at_sound depth term.Not t ts begins = absurd (cc)
post_at_sound depth term.Star t ts begins = absurd (cc)
post_at_sound depth _ t ts begins = post_within_sound (read_expr depth) (level_sound depth 6) (t ∷ ts)

pub post_sound : (depth : ℕ) (t : Token) (ts : List Token) → begins_post (term_of t) ≡ true → Yields (λ e us. IsPost e (t ∷ ts) us) (read_unary depth (t ∷ ts))
unfolding read_unary
post_sound zero t ts begins = Yields.nothing
post_sound (suc depth) t ts begins = post_at_sound depth (term_of t) t ts begins
