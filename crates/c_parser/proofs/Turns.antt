-- The loops of the readers, turn by turn: a turn more is what the reader reads, and a turn of no more ends it.
use Rattle.std.proofs.Common.{◌≡◌, ℕ, zero, suc, true, false, List, [], ◌∷◌, length, Option, Some, None, refl, ap, sym, subst, ◌∙◌, arith, ◌+◌, ◌-◌, ◌<◌, ◌≤◌, get_or, Result, Err}
use Rattle.c_lexer.specs.declared.token.Token.{Token}
use Rattle.c_tree.specs.declared.expr.Oper.{Oper}
use Rattle.c_tree.specs.declared.tree.Expr.{Expr}
use Rattle.c_tree.specs.declared.tree.Expr.TheVariants as expr
use Rattle.c_parser.specs.declared.term.Term.{Term}
use Rattle.c_parser.specs.declared.term.Term.TheVariants as term
use Rattle.c_parser.specs.Term.{term_of}
use Rattle.c_parser.specs.ReadExpressions.{Read, chained, read_name, read_want, read_posts_at, read_posts, read_post, read_tail_at, read_tail, read_level, read_unary_at, read_unary, read_expr}
use Rattle.c_parser.specs.Answer.{Gives}
use Rattle.c_parser.specs.declared.reading.Unread.{Unread}
use Rattle.c_parser.specs.declared.reading.Unread.TheVariants as unread
use Rattle.c_parser.specs.Turns.{stays, is_post, goes_on, post_turn, joins, tail_turn}

-- chains

pub chained_twice : {A B C : Type 0} → (r : Option (A × List Token)) (f : A → Read B) (g : B → Read C) → chained (chained r f) g ≡ chained r (λ x us. chained (f x us) g)
chained_twice None f g = refl
chained_twice (Some p) f g = refl

pub chained_some : {A B : Type 0} → (r : Option (A × List Token)) (f : A → Read B) (x : A) (us : List Token) → r ≡ Some (x, us) → chained r f ≡ f x us
chained_some r f x us is = ap (λ q. chained q f) is

pub chained_none : {A B : Type 0} → (r : Option (A × List Token)) (f : A → Read B) → r ≡ None → chained r f ≡ None
chained_none r f is = ap (λ q. chained q f) is

-- posts

index_more : (on : Expr → Read Expr) (a : Expr) (t : Token) (r : Option (Expr × List Token)) →
    chained (chained r (λ i us. chained (read_want term.CloseIndex us) (λ c vs. stays (expr.Index a i t.start) vs))) on
    ≡ chained r (λ i us. chained (read_want term.CloseIndex us) (λ c vs. on (expr.Index a i t.start) vs))
index_more on a t None = refl
index_more on a t (Some p) = chained_twice (read_want term.CloseIndex p.1) (λ c vs. stays (expr.Index a p.0 t.start) vs) on

posts_at_more : (within : Read Expr) (on : Expr → Read Expr) (a : Expr) (x : Term) (t : Token) (ts : List Token) → is_post x ≡ true →
    chained (read_posts_at within stays a x t ts) on ≡ read_posts_at within on a x t ts
posts_at_more within on a term.Arrow t ts is = chained_twice (read_name ts) (λ w us. stays (expr.Field a w t.start) us) on
posts_at_more within on a term.OpenIndex t ts is = index_more on a t (within ts)
posts_at_more within on a _ t ts is = absurd (cc)

posts_at_done : (within : Read Expr) (on : Expr → Read Expr) (a : Expr) (x : Term) (t : Token) (ts : List Token) → is_post x ≡ false → read_posts_at within on a x t ts ≡ Some (a, t ∷ ts)
posts_at_done within on a term.Arrow t ts is = absurd (cc)
posts_at_done within on a term.OpenIndex t ts is = absurd (cc)
posts_at_done within on a _ t ts is = refl

posts_more : (within : Read Expr) (m : ℕ) (a : Expr) (ts : List Token) → goes_on ts ≡ true → chained (post_turn within a ts) (read_posts within m) ≡ read_posts within (suc m) a ts
unfolding read_posts
posts_more within m a [] goes = absurd (cc)
posts_more within m a (t ∷ ts) goes = posts_at_more within (read_posts within m) a (term_of t) t ts goes

posts_done : (within : Read Expr) (m : ℕ) (a : Expr) (ts : List Token) → goes_on ts ≡ false → read_posts within (suc m) a ts ≡ Some (a, ts)
unfolding read_posts
posts_done within m a [] goes = refl
posts_done within m a (t ∷ ts) goes = posts_at_done within (read_posts within m) a (term_of t) t ts goes

-- a turn is left where the turns so far are fewer than all
pub turn_left : (all so_far : ℕ) → so_far < all → all - so_far ≡ suc (all - (so_far + 1))
turn_left all so_far is = omega arith

pub none_left : (all so_far : ℕ) → all ≤ so_far → all - so_far ≡ 0
none_left all so_far is = omega arith

pub posts_stop : (within : Read Expr) (all so_far : ℕ) (a : Expr) (ts : List Token) (answer : Option (Expr × List Token)) →
    so_far < all → goes_on ts ≡ false → read_posts within (all - so_far) a ts ≡ answer → answer ≡ Some (a, ts)
posts_stop within all so_far a ts answer is goes reads =
    sym reads ∙ ap (λ n. read_posts within n a ts) (turn_left all so_far is) ∙ posts_done within (all - (so_far + 1)) a ts goes

pub posts_go : (within : Read Expr) (all so_far : ℕ) (a : Expr) (ts : List Token) (answer : Option (Expr × List Token)) →
    so_far < all → goes_on ts ≡ true → read_posts within (all - so_far) a ts ≡ answer → answer ≡ chained (post_turn within a ts) (read_posts within (all - (so_far + 1)))
posts_go within all so_far a ts answer is goes reads =
    sym reads ∙ ap (λ n. read_posts within n a ts) (turn_left all so_far is) ∙ sym (posts_more within (all - (so_far + 1)) a ts goes)

pub posts_end : (within : Read Expr) (all so_far : ℕ) (a : Expr) (ts : List Token) (answer : Option (Expr × List Token)) →
    all ≤ so_far → read_posts within (all - so_far) a ts ≡ answer → answer ≡ None
unfolding read_posts
posts_end within all so_far a ts answer is reads = sym reads ∙ ap (λ n. read_posts within n a ts) (none_left all so_far is)

-- levels

tail_more : (operand : Read Expr) (k m : ℕ) (a : Expr) (ts : List Token) (o : Oper) → joins k ts ≡ Some o →
    chained (tail_turn operand o a ts) (read_tail operand k m) ≡ read_tail operand k (suc m) a ts
unfolding read_tail
tail_more operand k m a [] o is = absurd (cc)
tail_more operand k m a (t ∷ ts) o is =
    chained_twice (operand ts) (λ b us. stays (expr.Binary o a b t.start) us) (read_tail operand k m)
    ∙ sym (ap (λ q. read_tail_at operand (read_tail operand k m) a q t ts) is)

tail_done : (operand : Read Expr) (k m : ℕ) (a : Expr) (ts : List Token) → joins k ts ≡ None → read_tail operand k (suc m) a ts ≡ Some (a, ts)
unfolding read_tail
tail_done operand k m a [] is = refl
tail_done operand k m a (t ∷ ts) is = ap (λ q. read_tail_at operand (read_tail operand k m) a q t ts) is

pub tail_stop : (operand : Read Expr) (k all so_far : ℕ) (a : Expr) (ts : List Token) (answer : Option (Expr × List Token)) →
    so_far < all → joins k ts ≡ None → read_tail operand k (all - so_far) a ts ≡ answer → answer ≡ Some (a, ts)
tail_stop operand k all so_far a ts answer is joined reads =
    sym reads ∙ ap (λ n. read_tail operand k n a ts) (turn_left all so_far is) ∙ tail_done operand k (all - (so_far + 1)) a ts joined

pub tail_go : (operand : Read Expr) (k all so_far : ℕ) (a : Expr) (ts : List Token) (o : Oper) (answer : Option (Expr × List Token)) →
    so_far < all → joins k ts ≡ Some o → read_tail operand k (all - so_far) a ts ≡ answer → answer ≡ chained (tail_turn operand o a ts) (read_tail operand k (all - (so_far + 1)))
tail_go operand k all so_far a ts o answer is joined reads =
    sym reads ∙ ap (λ n. read_tail operand k n a ts) (turn_left all so_far is) ∙ sym (tail_more operand k (all - (so_far + 1)) a ts o joined)

pub tail_end : (operand : Read Expr) (k all so_far : ℕ) (a : Expr) (ts : List Token) (answer : Option (Expr × List Token)) →
    all ≤ so_far → read_tail operand k (all - so_far) a ts ≡ answer → answer ≡ None
unfolding read_tail
tail_end operand k all so_far a ts answer is reads = sym reads ∙ ap (λ n. read_tail operand k n a ts) (none_left all so_far is)

-- what fails where a chain begins fails
pub fails : {R A S B : Type 0} → (f : R → A × List Token) (g : S → B × List Token) (e : Unread) (r : Option (A × List Token)) (on : A → Read B) →
    Gives f (Err e) r → Gives g (Err e) (chained r on)
fails f g unread.NotHere r on gives = chained_none r on gives
fails f g unread.Memory r on gives = gives

-- and so with these answers
pub fails_as : {R A S B : Type 0} → (turned : Result R Unread) (result : Result S Unread) (f : R → A × List Token) (g : S → B × List Token)
    (r : Option (A × List Token)) (answer : Option (B × List Token)) (e : Unread) (on : A → Read B) →
    result ≡ Err e → turned ≡ Err e → answer ≡ chained r on → Gives f turned r → Gives g result answer
fails_as turned result f g r answer e on is was at gives =
    subst (λ q. Gives g q answer) (sym is) (subst (λ q. Gives g (Err e) q) (sym at) (fails f g e r on (subst (λ q. Gives f q r) was gives)))

-- unaries

unary_at_post : (inner : Read Expr) (x : Term) (t : Token) (ts : List Token) → (x ≡ term.Minus → ⊥) → (x ≡ term.Not → ⊥) → (x ≡ term.Star → ⊥) →
    read_unary_at inner x t ts ≡ read_post (read_level inner 6) (t ∷ ts)
unary_at_post inner term.Minus t ts minus not star = absurd (minus refl)
unary_at_post inner term.Not t ts minus not star = absurd (not refl)
unary_at_post inner term.Star t ts minus not star = absurd (star refl)
unary_at_post inner _ t ts minus not star = refl

pub unary_post : (depth : ℕ) (ts : List Token) (t : Token) (x : Term) → (depth ≡ 0 → ⊥) → 1 ≤ length ts → t ≡ get_or ts 0 t → x ≡ term_of t →
    (x ≡ term.Minus → ⊥) → (x ≡ term.Not → ⊥) → (x ≡ term.Star → ⊥) → read_unary depth ts ≡ read_post (read_expr (depth - 1)) ts
unfolding read_unary
unary_post zero ts t x deep long is of minus not star = absurd (deep refl)
unary_post (suc d) [] t x deep long is of minus not star = absurd (omega arith)
unary_post (suc d) (u ∷ us) t x deep long is of minus not star =
    let same_term : x ≡ term_of u = of ∙ ap term_of is in
    let less : suc d - 1 ≡ d = omega arith in
    rw less (unary_at_post (read_unary d) (term_of u) u us (λ e. minus (same_term ∙ e)) (λ e. not (same_term ∙ e)) (λ e. star (same_term ∙ e)))
