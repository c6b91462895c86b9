-- Each derivation of an expression is what is read.
use Rattle.std.proofs.Common.{◌≡◌, ℕ, zero, suc, ◌<◌, ◌≤◌, Bool, true, false, List, [], ◌∷◌, Option, Some, None, if◌then◌else◌, length, refl, ap, ◌∙◌, ◌⊎◌, inl, inr, arith}
use Rattle.c_lexer.specs.declared.token.Token.{Token}
use Rattle.c_tree.specs.declared.expr.Oper.{Oper}
use Rattle.c_tree.specs.declared.expr.Sign.TheVariants as sign
use Rattle.c_lexer.specs.declared.token.Kind.TheVariants as kind
use Rattle.c_tree.specs.declared.tree.Expr.{Expr}
use Rattle.c_tree.specs.declared.tree.Expr.TheVariants as expr
use Rattle.c_tree.specs.declared.tree.Arg.{Arg}
use Rattle.c_parser.specs.Expressions.{IsArg, IsLevel, IsTail, IsUnary, IsPost, IsPosts, IsPrim, oper_of, product_of, sum_of, order_of, equality_of, and_of, or_of}
use Rattle.c_parser.specs.ReadExpressions.{Read, joint, read_arg, read_expr, read_level, read_tail, read_post, read_posts, read_posts_at, read_prim, read_unary, read_want}
use Rattle.c_parser.specs.Term.{next, same, sees, term_of, word}
use Rattle.c_parser.specs.declared.term.Term.{Term}
use Rattle.c_parser.specs.declared.term.Term.TheVariants as term
use Rattle.c_parser.proofs.Terms.{name_term, number_term, same_self}
use Rattle.c_parser.proofs.Shorter.{level_shorter, unary_shorter, prim_shorter}

-- no `->` or `[` comes
abbrev pub ends_post : Term → Bool
ends_post term.Arrow = false
ends_post term.OpenIndex = false
ends_post _ = true

-- the operator of a level that joins here
abbrev pub joint_at : ℕ → List Token → Option Oper
joint_at k [] = None
joint_at k (t ∷ ts) = joint k t ts

-- what stands here goes on with no expression of this level
pub record Ends (k : ℕ) (us : List Token) : Type 0 where
  pub post : ends_post (next us) ≡ true
  pub below : (j : ℕ) → j < k → joint_at j us ≡ None

-- a token that ends each expression

abbrev pub closes : Term → Bool
closes term.Close = true
closes term.CloseIndex = true
closes term.Semicolon = true
closes term.Comma = true
closes term.Put = true
closes term.PlusPut = true
closes term.MinusPut = true
closes term.StarPut = true
closes term.PlusPlus = true
closes term.MinusMinus = true
closes _ = false

-- The operators of each level are others; 6 is the level of what is no operator.

abbrev pub level_of : Term → ℕ
level_of term.Star = 0
level_of term.Slash = 0
level_of term.Percent = 0
level_of term.Plus = 1
level_of term.Minus = 1
level_of term.Less = 2
level_of term.AtMost = 2
level_of term.Greater = 2
level_of term.AtLeast = 2
level_of term.Equals = 3
level_of term.Differs = 3
level_of term.AndAnd = 4
level_of term.OrOr = 5
level_of _ = 6

product_level : (x : Term) (o : Oper) → product_of x ≡ Some o → level_of x ≡ 0
product_level term.Star o is = refl
product_level term.Slash o is = refl
product_level term.Percent o is = refl
product_level _ o is = absurd (cc)

sum_level : (x : Term) (o : Oper) → sum_of x ≡ Some o → level_of x ≡ 1
sum_level term.Plus o is = refl
sum_level term.Minus o is = refl
sum_level _ o is = absurd (cc)

order_level : (x : Term) (o : Oper) → order_of x ≡ Some o → level_of x ≡ 2
order_level term.Less o is = refl
order_level term.AtMost o is = refl
order_level term.Greater o is = refl
order_level term.AtLeast o is = refl
order_level _ o is = absurd (cc)

equality_level : (x : Term) (o : Oper) → equality_of x ≡ Some o → level_of x ≡ 3
equality_level term.Equals o is = refl
equality_level term.Differs o is = refl
equality_level _ o is = absurd (cc)

and_level : (x : Term) (o : Oper) → and_of x ≡ Some o → level_of x ≡ 4
and_level term.AndAnd o is = refl
and_level _ o is = absurd (cc)

or_level : (x : Term) (o : Oper) → or_of x ≡ Some o → level_of x ≡ 5
or_level term.OrOr o is = refl
or_level _ o is = absurd (cc)

pub oper_level : (k : ℕ) (x : Term) (o : Oper) → oper_of k x ≡ Some o → (level_of x ≡ k) × (k < 6)
unfolding oper_of
oper_level zero x o is = (product_level x o is, omega arith)
oper_level (suc zero) x o is = (sum_level x o is, omega arith)
oper_level (suc (suc zero)) x o is = (order_level x o is, omega arith)
oper_level (suc (suc (suc zero))) x o is = (equality_level x o is, omega arith)
oper_level (suc (suc (suc (suc zero)))) x o is = (and_level x o is, omega arith)
oper_level (suc (suc (suc (suc (suc zero))))) x o is = (or_level x o is, omega arith)
oper_level (suc (suc (suc (suc (suc (suc k)))))) x o is = absurd (cc)

if_never : (r : Option Oper) → ((o : Oper) → r ≡ Some o → ⊥) → r ≡ None
if_never None never = refl
if_never (Some o) never = absurd (never o refl)

other_level : (k j : ℕ) (x : Term) → level_of x ≡ k → (j < k) ⊎ (6 ≤ k) → oper_of j x ≡ None
other_level k j x is apart = if_never (oper_of j x) (λ o joins. let there = oper_level j x o joins in omega (arith, is, there, apart))

joint_none : (b : Bool) (r : Option Oper) → r ≡ None → (if b then None else r) ≡ None
joint_none true r is = refl
joint_none false r is = is

-- what ends an expression

ends_less : (k : ℕ) (us : List Token) → Ends (suc k) us → Ends k us
ends_less k us ends = record { post = ends.post; below = λ j less. ends.below j (omega (arith, less)) }

oper_post : (x : Term) → level_of x < 6 → ends_post x ≡ true
oper_post term.Arrow less = absurd (omega (arith, less))
oper_post term.OpenIndex less = absurd (omega (arith, less))
oper_post _ less = refl

oper_ends : (k : ℕ) (t : Token) (us : List Token) (o : Oper) → oper_of k (term_of t) ≡ Some o → Ends k (t ∷ us)
oper_ends k t us o is = let there = oper_level k (term_of t) o is in record {
  post = oper_post (term_of t) (omega (arith, there));
  below = λ j less. joint_none (sees term.Sizeof us) (oper_of j (term_of t)) (other_level k j (term_of t) there.0 (inl less));
}

tail_ends : {k : ℕ} {a e : Expr} {ts us : List Token} → IsTail k a e ts us → Ends (suc k) us → Ends k ts
tail_ends (IsTail.done {k = k} {ts = ts}) ends = ends_less k ts ends
tail_ends (IsTail.more {k = k} {o = o} {t = t} {ts = ts} is d q) ends = oper_ends k t ts o is

closes_post : (x : Term) → closes x ≡ true → ends_post x ≡ true
closes_post term.Arrow is = absurd (cc)
closes_post term.OpenIndex is = absurd (cc)
closes_post _ is = refl

closes_level : (x : Term) → closes x ≡ true → level_of x ≡ 6
closes_level term.Close is = refl
closes_level term.CloseIndex is = refl
closes_level term.Semicolon is = refl
closes_level term.Comma is = refl
closes_level term.Put is = refl
closes_level term.PlusPut is = refl
closes_level term.MinusPut is = refl
closes_level term.StarPut is = refl
closes_level term.PlusPlus is = refl
closes_level term.MinusMinus is = refl
closes_level _ is = absurd (cc)

pub closes_ends : (k : ℕ) (t : Token) (us : List Token) → closes (term_of t) ≡ true → Ends k (t ∷ us)
closes_ends k t us is = record {
  post = closes_post (term_of t) is;
  below = λ j less. joint_none (sees term.Sizeof us) (oper_of j (term_of t)) (other_level 6 j (term_of t) (closes_level (term_of t) is) (inr (omega arith)));
}

-- with the term of the token given
pub closed : (k : ℕ) (t : Token) (us : List Token) (x : Term) → term_of t ≡ x → closes x ≡ true → Ends k (t ∷ us)
closed k t us x is ends = closes_ends k t us (ap closes is ∙ ends)

-- a term that is no operator joins nothing
pub no_operator : (k : ℕ) (x : Term) (o : Oper) → oper_of k x ≡ Some o → 6 ≤ level_of x → ⊥
no_operator k x o is level = let there = oper_level k x o is in omega (arith, level, there)

-- what an expression begins with

abbrev pub begins_operand : Term → Bool
begins_operand term.Number = true
begins_operand term.Null = true
begins_operand term.Eof = true
begins_operand term.Name = true
begins_operand term.Open = true
begins_operand term.Minus = true
begins_operand term.Not = true
begins_operand term.Star = true
begins_operand _ = false

pub prim_begins : {e : Expr} {ts us : List Token} → IsPrim e ts us → begins_operand (next ts) ≡ true
prim_begins (IsPrim.number {t = t} is) = rw (number_term t _ is)
prim_begins (IsPrim.null is) = rw is
prim_begins (IsPrim.eof is) = rw is
prim_begins (IsPrim.variable {t = t} is) = rw (name_term t _ is)
prim_begins (IsPrim.group is d end) = rw is

pub post_begins : {e : Expr} {ts us : List Token} → IsPost e ts us → begins_operand (next ts) ≡ true
post_begins (IsPost.post d q) = prim_begins d

pub unary_begins : {e : Expr} {ts us : List Token} → IsUnary e ts us → begins_operand (next ts) ≡ true
unary_begins (IsUnary.plain d) = post_begins d
unary_begins (IsUnary.minus is d) = rw is
unary_begins (IsUnary.not is d) = rw is
unary_begins (IsUnary.deref is d) = rw is

pub level_begins : {k : ℕ} {e : Expr} {ts us : List Token} → IsLevel k e ts us → begins_operand (next ts) ≡ true
level_begins (IsLevel.operand d) = unary_begins d
level_begins (IsLevel.level d q) = level_begins d

no_sizeof : (x : Term) → begins_operand x ≡ true → same term.Sizeof x ≡ false
unfolding same
no_sizeof term.Sizeof is = absurd (cc)
no_sizeof _ is = refl

pub level_not_sizeof : {k : ℕ} {e : Expr} {ts us : List Token} → IsLevel k e ts us → sees term.Sizeof ts ≡ false
level_not_sizeof {ts = ts} d = no_sizeof (next ts) (level_begins d)

-- one step of reading

pub want_is : (x : Term) (t : Token) (ts : List Token) → term_of t ≡ x → read_want x (t ∷ ts) ≡ Some (t, ts)
want_is x t ts is = rw (is, same_self x)

posts_stop : (within : Read Expr) (on : Expr → Read Expr) (a : Expr) (x : Term) (t : Token) (ts : List Token) → ends_post x ≡ true →
    read_posts_at within on a x t ts ≡ Some (a, t ∷ ts)
posts_stop within on a term.Arrow t ts is = absurd (cc)
posts_stop within on a term.OpenIndex t ts is = absurd (cc)
posts_stop within on a _ t ts is = refl

posts_end : (within : Read Expr) (n : ℕ) (a : Expr) (ts : List Token) → Ends 0 ts → read_posts within (suc n) a ts ≡ Some (a, ts)
unfolding read_posts
posts_end within n a [] ends = refl
posts_end within n a (t ∷ ts) ends = posts_stop within (read_posts within n) a (term_of t) t ts ends.post

tail_end : (operand : Read Expr) (k n : ℕ) (a : Expr) (ts : List Token) → Ends (suc k) ts → read_tail operand k (suc n) a ts ≡ Some (a, ts)
unfolding read_tail
tail_end operand k n a [] ends = refl
tail_end operand k n a (t ∷ ts) ends = let none : joint k t ts ≡ None = ends.below k (omega arith) in rw none

joint_is : (k : ℕ) (o : Oper) (t : Token) (ts : List Token) → sees term.Sizeof ts ≡ false → oper_of k (term_of t) ≡ Some o → joint k t ts ≡ Some o
joint_is k o t ts plain is = rw (plain, is)

unary_of_prim : {e : Expr} {ts us : List Token} → IsPrim e ts us → (depth : ℕ) → read_unary (suc depth) ts ≡ read_post (read_expr depth) ts
unfolding read_unary
unary_of_prim (IsPrim.number {t = t} is) depth = rw (number_term t _ is)
unary_of_prim (IsPrim.null is) depth = rw is
unary_of_prim (IsPrim.eof is) depth = rw is
unary_of_prim (IsPrim.variable {t = t} is) depth = rw (name_term t _ is)
unary_of_prim (IsPrim.group is d end) depth = rw is

unary_of_post : {e : Expr} {ts us : List Token} → IsPost e ts us → (depth : ℕ) → read_unary (suc depth) ts ≡ read_post (read_expr depth) ts
unary_of_post (IsPost.post d q) depth = unary_of_prim d depth

-- one production, from what its parts are read as

minus_read : {e : Expr} {us : List Token} (depth : ℕ) (t : Token) (ts : List Token) → term_of t ≡ term.Minus → read_unary depth ts ≡ Some (e, us)
    → read_unary (suc depth) (t ∷ ts) ≡ Some (expr.Unary sign.Minus e t.start, us)
unfolding read_unary
minus_read depth t ts is read = rw (is, read)

not_read : {e : Expr} {us : List Token} (depth : ℕ) (t : Token) (ts : List Token) → term_of t ≡ term.Not → read_unary depth ts ≡ Some (e, us)
    → read_unary (suc depth) (t ∷ ts) ≡ Some (expr.Unary sign.Not e t.start, us)
unfolding read_unary
not_read depth t ts is read = rw (is, read)

deref_read : {e : Expr} {us : List Token} (depth : ℕ) (t : Token) (ts : List Token) → term_of t ≡ term.Star → read_unary depth ts ≡ Some (e, us)
    → read_unary (suc depth) (t ∷ ts) ≡ Some (expr.Deref e t.start, us)
unfolding read_unary
deref_read depth t ts is read = rw (is, read)

post_read : {a e : Expr} {us vs : List Token} (within : Read Expr) (ts : List Token) → read_prim within ts ≡ Some (a, us)
    → read_posts within (length ts) a us ≡ Some (e, vs) → read_post within ts ≡ Some (e, vs)
unfolding read_post
post_read within ts first behind = rw first behind

field_read : {e : Expr} {text : List ℕ} {us : List Token} (within : Read Expr) (turns : ℕ) (a : Expr) (t n : Token) (ts : List Token) → term_of t ≡ term.Arrow
    → n.kind ≡ kind.Name text → read_posts within turns (expr.Field a (word text n) t.start) ts ≡ Some (e, us)
    → read_posts within (suc turns) a (t ∷ n ∷ ts) ≡ Some (e, us)
unfolding read_posts
field_read within turns a t n ts is name behind = rw (is, name) behind

index_read : {i e : Expr} {c : Token} {ts us vs : List Token} (within : Read Expr) (turns : ℕ) (a : Expr) (t : Token) → term_of t ≡ term.OpenIndex
    → within ts ≡ Some (i, c ∷ us) → term_of c ≡ term.CloseIndex → read_posts within turns (expr.Index a i t.start) us ≡ Some (e, vs)
    → read_posts within (suc turns) a (t ∷ ts) ≡ Some (e, vs)
unfolding read_posts
index_read {c = c} {us = us} within turns a t is read end behind = rw (is, read, want_is term.CloseIndex c us end) behind

group_read : {c : Token} {e : Expr} {ts us : List Token} (within : Read Expr) (o : Token) → term_of o ≡ term.Open → within ts ≡ Some (e, c ∷ us)
    → term_of c ≡ term.Close → read_prim within (o ∷ ts) ≡ Some (e, us)
group_read {c = c} {us = us} within o is read end = rw (is, read, want_is term.Close c us end)

operand_read : {e : Expr} {ts us : List Token} (unary : Read Expr) → unary ts ≡ Some (e, us) → read_level unary 0 ts ≡ Some (e, us)
unfolding read_level
operand_read unary read = read

level_read : {a e : Expr} {us vs : List Token} (unary : Read Expr) (k : ℕ) (ts : List Token) → read_level unary k ts ≡ Some (a, us)
    → read_tail (read_level unary k) k (length ts) a us ≡ Some (e, vs) → read_level unary (suc k) ts ≡ Some (e, vs)
unfolding read_level
level_read unary k ts first behind = rw first behind

more_read : {o : Oper} {b e : Expr} {ts us vs : List Token} (operand : Read Expr) (k turns : ℕ) (a : Expr) (t : Token)
    → joint k t ts ≡ Some o → operand ts ≡ Some (b, us) → read_tail operand k turns (expr.Binary o a b t.start) us ≡ Some (e, vs)
    → read_tail operand k (suc turns) a (t ∷ ts) ≡ Some (e, vs)
unfolding read_tail
more_read operand k turns a t joins read behind = rw (joins, read) behind

-- The depth is at least the number of tokens. Each is read as far as the derivation goes, where nothing behind it goes on with it.

mutual
  pub unary_complete : {e : Expr} {ts us : List Token} → IsUnary e ts us → (depth : ℕ) → length ts ≤ depth → Ends 0 us → read_unary depth ts ≡ Some (e, us)
  unary_complete d zero enough ends = absurd (omega (arith, enough, unary_shorter d))
  unary_complete (IsUnary.plain d) (suc depth) enough ends = unary_of_post d depth ∙ post_complete d depth enough ends
  unary_complete (IsUnary.minus is d) (suc depth) enough ends = minus_read depth _ _ is (unary_complete d depth (omega (arith, enough)) ends)
  unary_complete (IsUnary.not is d) (suc depth) enough ends = not_read depth _ _ is (unary_complete d depth (omega (arith, enough)) ends)
  unary_complete (IsUnary.deref is d) (suc depth) enough ends = deref_read depth _ _ is (unary_complete d depth (omega (arith, enough)) ends)

  pub post_complete : {e : Expr} {ts us : List Token} → IsPost e ts us → (depth : ℕ) → length ts ≤ suc depth → Ends 0 us → read_post (read_expr depth) ts ≡ Some (e, us)
  post_complete (IsPost.post {ts = ts} d q) depth enough ends = post_read (read_expr depth) ts (prim_complete d depth enough)
      (posts_complete q depth (length ts) (omega (arith, enough, prim_shorter d)) (prim_shorter d) ends)

  prim_complete : {e : Expr} {ts us : List Token} → IsPrim e ts us → (depth : ℕ) → length ts ≤ suc depth → read_prim (read_expr depth) ts ≡ Some (e, us)
  prim_complete (IsPrim.number {t = t} is) depth enough = rw (number_term t _ is, is)
  prim_complete (IsPrim.null is) depth enough = rw is
  prim_complete (IsPrim.eof is) depth enough = rw is
  prim_complete (IsPrim.variable {t = t} is) depth enough = rw (name_term t _ is, is)
  prim_complete (IsPrim.group {c = c} {us = us} is d end) depth enough =
      group_read (read_expr depth) _ is (level_complete d depth (omega (arith, enough)) (closed 6 c us term.Close end refl)) end

  posts_complete : {a e : Expr} {ts us : List Token} → IsPosts a e ts us → (depth n : ℕ) → length ts ≤ depth → length ts < n → Ends 0 us
      → read_posts (read_expr depth) n a ts ≡ Some (e, us)
  posts_complete d depth zero enough more ends = absurd (omega (arith, more))
  posts_complete (IsPosts.end {a = a} {ts = ts}) depth (suc n) enough more ends = posts_end (read_expr depth) n a ts ends
  posts_complete (IsPosts.field is name d) depth (suc n) enough more ends =
      field_read (read_expr depth) n _ _ _ _ is name (posts_complete d depth n (omega (arith, enough)) (omega (arith, more)) ends)
  posts_complete (IsPosts.index {c = c} {us = us} is d end q) depth (suc n) enough more ends =
      index_read (read_expr depth) n _ _ is (level_complete d depth (omega (arith, enough)) (closed 6 c us term.CloseIndex end refl)) end
      (posts_complete q depth n (omega (arith, enough, level_shorter d)) (omega (arith, more, level_shorter d)) ends)

  pub level_complete : {k : ℕ} {e : Expr} {ts us : List Token} → IsLevel k e ts us → (depth : ℕ) → length ts ≤ depth → Ends k us
      → read_level (read_unary depth) k ts ≡ Some (e, us)
  level_complete (IsLevel.operand d) depth enough ends = operand_read (read_unary depth) (unary_complete d depth enough ends)
  level_complete (IsLevel.level {ts = ts} d q) depth enough ends = level_read (read_unary depth) _ ts (level_complete d depth enough (tail_ends q ends))
      (tail_complete q depth (length ts) (omega (arith, enough, level_shorter d)) (level_shorter d) ends)

  tail_complete : {k : ℕ} {a e : Expr} {ts us : List Token} → IsTail k a e ts us → (depth n : ℕ) → length ts ≤ depth → length ts < n → Ends (suc k) us
      → read_tail (read_level (read_unary depth) k) k n a ts ≡ Some (e, us)
  tail_complete d depth zero enough more ends = absurd (omega (arith, more))
  tail_complete (IsTail.done {k = k} {a = a} {ts = ts}) depth (suc n) enough more ends = tail_end (read_level (read_unary depth) k) k n a ts ends
  tail_complete (IsTail.more {k = k} {o = o} {t = t} {ts = ts} is d q) depth (suc n) enough more ends =
      more_read (read_level (read_unary depth) k) k n _ t (joint_is k o t ts (level_not_sizeof d) is)
      (level_complete d depth (omega (arith, enough)) (tail_ends q ends))
      (tail_complete q depth n (omega (arith, enough, level_shorter d)) (omega (arith, more, level_shorter d)) ends)

pub arg_complete : {a : Arg} {ts us : List Token} → IsArg a ts us → (depth : ℕ) → length ts ≤ depth → Ends 6 us → read_arg depth ts ≡ Some (a, us)
arg_complete (IsArg.argument d) depth enough ends = rw (level_complete d depth enough ends)
