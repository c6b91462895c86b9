-- What is printed of an expression opens the fewest parentheses.
use Rattle.std.proofs.Common.{◌≡◌, ℕ, zero, suc, ◌+◌, ◌<◌, ◌≤◌, ℤ, pos, negsuc, Bool, true, false, nat_lt, List, [], ◌∷◌, ◌++◌, codes, Some, refl, ap, sym, subst, ◌∙◌, arith}
use Rattle.std.proofs.lemmas.Bool.{ltb-false, ltb-true}
use Rattle.c_lexer.specs.declared.token.Token.{Token}
use Rattle.c_lexer.specs.declared.token.Kind.{Kind}
use Rattle.c_lexer.specs.declared.token.Kind.TheVariants as kind
use Rattle.c_tree.specs.declared.expr.Oper.{Oper}
use Rattle.c_tree.specs.declared.expr.Oper.TheVariants as oper
use Rattle.c_tree.specs.declared.expr.Sign.{Sign}
use Rattle.c_tree.specs.declared.expr.Sign.TheVariants as sign
use Rattle.c_tree.specs.declared.tree.Arg.{Arg}
use Rattle.c_tree.specs.declared.tree.Word.{Word}
use Rattle.c_tree.specs.declared.tree.Expr.{Expr, Expr-F, roll-Expr, out-Expr, roll-out-Expr, map-Expr}
use Rattle.c_tree.specs.declared.tree.Expr.TheVariants as expr
use Rattle.c_tree.specs.declared.tree.Expr.TheOpen.{Const, Null, Var, Field, Deref, Index, Unary, Binary}
use Rattle.c_parser.specs.declared.term.Term.{Term}
use Rattle.c_parser.specs.declared.term.Term.TheVariants as term
use Rattle.c_parser.specs.Term.{term_of, same}
use Rattle.c_parser.specs.Expressions.{IsArg, IsLevel, IsTail, IsUnary, IsPost, IsPosts, IsPrim, oper_of, product_of, sum_of, order_of, equality_of, and_of, or_of}
use Rattle.c_parser.specs.Printed.{key, mark, within, grouped, level_of, oper_kind, sign_kind, const_kind, printed_layer, printed_expr, printed_arg}
use Rattle.c_parser.proofs.Spelled.{opens, opens_both, opens_within, tally, tally_behind, tally_open}
use Rattle.c_parser.proofs.PrintedExpressions.{printed_operands, print_layer, print_const, print_null, print_var, print_field, print_deref, print_index, print_unary, print_binary}

-- more room needs no more parentheses, and less at most one more

abbrev Roomy : List Kind → List Kind → Type 0
Roomy less more = (opens more ≤ opens less) × (opens less ≤ 1 + opens more)

same_roomy : (ks : List Kind) → Roomy ks ks
same_roomy ks = (omega arith, omega arith)

grouped_at : (b c : Bool) (n room other : ℕ) → nat_lt room n ≡ b → nat_lt other n ≡ c → room ≤ other → (ks : List Kind) → Roomy (grouped b ks) (grouped c ks)
grouped_at true true n room other is there less ks = same_roomy (within ks)
grouped_at true false n room other is there less ks = let e = opens_within ks in (omega (arith, e), omega (arith, e))
grouped_at false true n room other is there less ks = let small : n ≤ room = ltb-false room n is in let large : other < n = ltb-true other n there in absurd (omega (arith, small, large, less))
grouped_at false false n room other is there less ks = same_roomy ks

grouped_roomy : (n room other : ℕ) → room ≤ other → (ks : List Kind) → Roomy (grouped (nat_lt room n) ks) (grouped (nat_lt other n) ks)
grouped_roomy n room other less ks = grouped_at (nat_lt room n) (nat_lt other n) n room other refl refl less ks

layer_roomy : (x : Expr-F (ℕ → List Kind)) (room other : ℕ) → room ≤ other → Roomy (printed_layer x room) (printed_layer x other)
layer_roomy (Const n at) room other less = same_roomy (const_kind n ∷ [])
layer_roomy (Null at) room other less = same_roomy (key (codes "NULL") ∷ [])
layer_roomy (Var w) room other less = same_roomy (kind.Name w.text ∷ [])
layer_roomy (Field e w at) room other less = same_roomy (e 0 ++ mark (codes "->") ∷ kind.Name w.text ∷ [])
layer_roomy (Deref e at) room other less = grouped_roomy 1 room other less (mark (codes "*") ∷ e 1)
layer_roomy (Index e i at) room other less = same_roomy (e 0 ++ mark (codes "[") ∷ (i 7 ++ mark (codes "]") ∷ []))
layer_roomy (Unary s e at) room other less = grouped_roomy 1 room other less (sign_kind s ∷ e 1)
layer_roomy (Binary o a b at) room other less = grouped_roomy (level_of o + 2) room other less (a (level_of o + 2) ++ oper_kind o ∷ b (level_of o + 1))

abbrev printed_parts : Expr-F Expr → Expr-F (ℕ → List Kind)
printed_parts = map-Expr Expr (ℕ → List Kind) (λ e r. printed_expr r e)

rolled_roomy : (x : Expr-F Expr) (room other : ℕ) → room ≤ other → Roomy (printed_expr room (roll-Expr x)) (printed_expr other (roll-Expr x))
rolled_roomy x room other less =
    subst (λ (ks : List Kind). Roomy ks (printed_expr other (roll-Expr x))) (sym (print_layer room x))
    (subst (λ (ks : List Kind). Roomy (printed_layer (printed_parts x) room) ks) (sym (print_layer other x)) (layer_roomy (printed_parts x) room other less))

pub expr_roomy : (e : Expr) (room other : ℕ) → room ≤ other → Roomy (printed_expr room e) (printed_expr other e)
expr_roomy e room other less = subst (λ (z : Expr). Roomy (printed_expr room z) (printed_expr other z)) (roll-out-Expr e) (rolled_roomy (out-Expr e) room other less)

-- how many each variant opens, where it has room

opens_number : (n : ℤ) → opens (const_kind n ∷ []) ≡ 0
unfolding same
opens_number (pos n) = refl
opens_number (negsuc zero) = refl
opens_number (negsuc (suc n)) = refl

opens_const : (room : ℕ) (n : ℤ) (at : ℕ) → opens (printed_expr room (expr.Const n at)) ≡ 0
opens_const room n at = ap opens (print_const room n at) ∙ opens_number n

opens_null : (room at : ℕ) → opens (printed_expr room (expr.Null at)) ≡ 0
unfolding same
opens_null room at = ap opens (print_null room at)

opens_var : (room : ℕ) (w : Word) → opens (printed_expr room (expr.Var w)) ≡ 0
unfolding same
opens_var room w = ap opens (print_var room w)

opens_field : (room : ℕ) (e : Expr) (w : Word) (at : ℕ) → opens (printed_expr room (expr.Field e w at)) ≡ opens (printed_expr 0 e) + 0
unfolding same
opens_field room e w at = ap opens (print_field room e w at) ∙ opens_both (printed_expr 0 e) (mark (codes "->") ∷ kind.Name w.text ∷ [])

opens_index : (room : ℕ) (e i : Expr) (at : ℕ) → opens (printed_expr room (expr.Index e i at)) ≡ opens (printed_expr 0 e) + (opens (printed_expr 7 i) + 0)
unfolding same
opens_index room e i at =
    ap opens (print_index room e i at) ∙ opens_both (printed_expr 0 e) (mark (codes "[") ∷ (printed_expr 7 i ++ mark (codes "]") ∷ []))
    ∙ ap (λ (n : ℕ). opens (printed_expr 0 e) + n) (opens_both (printed_expr 7 i) (mark (codes "]") ∷ []))

opens_deref : (e : Expr) (at : ℕ) → opens (printed_expr 1 (expr.Deref e at)) ≡ opens (printed_expr 1 e)
unfolding same
opens_deref e at = ap opens (print_deref 1 e at)

opens_sign : (s : Sign) (ks : List Kind) → opens (sign_kind s ∷ ks) ≡ opens ks
unfolding same
opens_sign sign.Minus ks = refl
opens_sign sign.Not ks = refl

opens_unary : (s : Sign) (e : Expr) (at : ℕ) → opens (printed_expr 1 (expr.Unary s e at)) ≡ opens (printed_expr 1 e)
opens_unary s e at = ap opens (print_unary 1 s e at) ∙ opens_sign s (printed_expr 1 e)

opens_oper : (o : Oper) (ks : List Kind) → opens (oper_kind o ∷ ks) ≡ opens ks
unfolding same
opens_oper oper.Mul ks = refl
opens_oper oper.Div ks = refl
opens_oper oper.Rem ks = refl
opens_oper oper.Add ks = refl
opens_oper oper.Sub ks = refl
opens_oper oper.Lt ks = refl
opens_oper oper.Le ks = refl
opens_oper oper.Gt ks = refl
opens_oper oper.Ge ks = refl
opens_oper oper.Eq ks = refl
opens_oper oper.Ne ks = refl
opens_oper oper.And ks = refl
opens_oper oper.Or ks = refl

not_less : (n : ℕ) (b : Bool) → nat_lt n n ≡ b → b ≡ false
not_less n true is = let large : n < n = ltb-true n n is in absurd (omega (arith, large))
not_less n false is = refl

opens_binary : (o : Oper) (a b : Expr) (at : ℕ) → opens (printed_expr (suc (suc (level_of o))) (expr.Binary o a b at)) ≡ opens (printed_expr (suc (suc (level_of o))) a) + opens (printed_expr (suc (level_of o)) b)
opens_binary o a b at =
    ap opens (print_binary (suc (suc (level_of o))) o a b at)
    ∙ ap (λ (z : Bool). opens (grouped z (printed_operands o a b))) (not_less (suc (suc (level_of o))) (nat_lt (suc (suc (level_of o))) (suc (suc (level_of o)))) refl)
    ∙ opens_both (printed_expr (suc (suc (level_of o))) a) (oper_kind o ∷ printed_expr (suc (level_of o)) b)
    ∙ ap (λ (n : ℕ). opens (printed_expr (suc (suc (level_of o))) a) + n) (opens_oper o (printed_expr (suc (level_of o)) b))

-- an operator's level is the one where it stands

product_level : (x : Term) (o : Oper) → product_of x ≡ Some o → level_of o ≡ 0
product_level term.Star oper.Mul is = refl
product_level term.Slash oper.Div is = refl
product_level term.Percent oper.Rem is = refl
product_level _ _ is = absurd (cc)

sum_level : (x : Term) (o : Oper) → sum_of x ≡ Some o → level_of o ≡ 1
sum_level term.Plus oper.Add is = refl
sum_level term.Minus oper.Sub is = refl
sum_level _ _ is = absurd (cc)

order_level : (x : Term) (o : Oper) → order_of x ≡ Some o → level_of o ≡ 2
order_level term.Less oper.Lt is = refl
order_level term.AtMost oper.Le is = refl
order_level term.Greater oper.Gt is = refl
order_level term.AtLeast oper.Ge is = refl
order_level _ _ is = absurd (cc)

equality_level : (x : Term) (o : Oper) → equality_of x ≡ Some o → level_of o ≡ 3
equality_level term.Equals oper.Eq is = refl
equality_level term.Differs oper.Ne is = refl
equality_level _ _ is = absurd (cc)

and_level : (x : Term) (o : Oper) → and_of x ≡ Some o → level_of o ≡ 4
and_level term.AndAnd oper.And is = refl
and_level _ _ is = absurd (cc)

or_level : (x : Term) (o : Oper) → or_of x ≡ Some o → level_of o ≡ 5
or_level term.OrOr oper.Or is = refl
or_level _ _ is = absurd (cc)

oper_level : (k : ℕ) (x : Term) (o : Oper) → oper_of k x ≡ Some o → level_of o ≡ k
unfolding oper_of
oper_level zero x o is = product_level x o is
oper_level (suc zero) x o is = sum_level x o is
oper_level (suc (suc zero)) x o is = order_level x o is
oper_level (suc (suc (suc zero))) x o is = equality_level x o is
oper_level (suc (suc (suc (suc zero)))) x o is = and_level x o is
oper_level (suc (suc (suc (suc (suc zero))))) x o is = or_level x o is
oper_level (suc (suc (suc (suc (suc (suc k)))))) x o is = absurd (cc)

opens_joined : (k : ℕ) (o : Oper) (a b : Expr) (at : ℕ) → level_of o ≡ k → opens (printed_expr (suc (suc k)) (expr.Binary o a b at)) ≡ opens (printed_expr (suc (suc k)) a) + opens (printed_expr (suc k) b)
opens_joined k o a b at is =
    subst (λ (k : ℕ). opens (printed_expr (suc (suc k)) (expr.Binary o a b at)) ≡ opens (printed_expr (suc (suc k)) a) + opens (printed_expr (suc k) b)) is (opens_binary o a b at)

-- Tokens from which an expression is read open no fewer than what is printed of it in the room of that place.

mutual
  pub level_fewest : {k : ℕ} {e : Expr} {ts us : List Token} → IsLevel k e ts us → opens (printed_expr (suc k) e) + tally us ≤ tally ts
  level_fewest (IsLevel.operand d) = unary_fewest d
  level_fewest (IsLevel.level {k = k} {a = a} d q) =
      let here = level_fewest d in
      let tail = tail_fewest q in
      let room = (expr_roomy a (suc k) (suc (suc k)) (omega arith)).0 in
      omega (arith, here, tail, room)

  tail_fewest : {k : ℕ} {a e : Expr} {us vs : List Token} → IsTail k a e us vs → opens (printed_expr (suc (suc k)) e) + tally vs ≤ opens (printed_expr (suc (suc k)) a) + tally us
  tail_fewest IsTail.done = omega arith
  tail_fewest (IsTail.more {k = k} {o = o} {a = a} {b = b} {t = t} {ts = ts} is d q) =
      let here = level_fewest d in
      let tail = tail_fewest q in
      let joined = opens_joined k o a b t.start (oper_level k (term_of t) o is) in
      let token = tally_behind t ts in
      omega (arith, here, tail, joined, token)

  pub unary_fewest : {e : Expr} {ts us : List Token} → IsUnary e ts us → opens (printed_expr 1 e) + tally us ≤ tally ts
  unary_fewest (IsUnary.plain {e = e} d) =
      let here = post_fewest d in
      let room = (expr_roomy e 0 1 (omega arith)).0 in
      omega (arith, here, room)
  unary_fewest (IsUnary.minus {t = t} {e = e} {ts = ts} is d) =
      let here = unary_fewest d in
      let one = opens_unary sign.Minus e t.start in
      let token = tally_behind t ts in
      omega (arith, here, one, token)
  unary_fewest (IsUnary.not {t = t} {e = e} {ts = ts} is d) =
      let here = unary_fewest d in
      let one = opens_unary sign.Not e t.start in
      let token = tally_behind t ts in
      omega (arith, here, one, token)
  unary_fewest (IsUnary.deref {t = t} {e = e} {ts = ts} is d) =
      let here = unary_fewest d in
      let one = opens_deref e t.start in
      let token = tally_behind t ts in
      omega (arith, here, one, token)

  pub post_fewest : {e : Expr} {ts us : List Token} → IsPost e ts us → opens (printed_expr 0 e) + tally us ≤ tally ts
  post_fewest (IsPost.post d q) =
      let here = prim_fewest d in
      let rest = posts_fewest q in
      omega (arith, here, rest)

  posts_fewest : {a e : Expr} {us vs : List Token} → IsPosts a e us vs → opens (printed_expr 0 e) + tally vs ≤ opens (printed_expr 0 a) + tally us
  posts_fewest IsPosts.end = omega arith
  posts_fewest (IsPosts.field {a = a} {t = t} {n = n} {text = text} {ts = ts} is name d) =
      let rest = posts_fewest d in
      let one = opens_field 0 a (record { text = text; at = n.start }) t.start in
      let token = tally_behind n ts in
      let arrow = tally_behind t (n ∷ ts) in
      omega (arith, rest, one, token, arrow)
  posts_fewest (IsPosts.index {a = a} {i = i} {t = t} {c = c} {ts = ts} {us = us} is p end d) =
      let rest = posts_fewest d in
      let here = level_fewest p in
      let one = opens_index 0 a i t.start in
      let token = tally_behind t ts in
      let close = tally_behind c us in
      omega (arith, rest, here, one, token, close)

  prim_fewest : {e : Expr} {ts us : List Token} → IsPrim e ts us → opens (printed_expr 0 e) + tally us ≤ tally ts
  prim_fewest (IsPrim.number {t = t} {value = value} {ts = ts} is) =
      let one = opens_const 0 value t.start in
      let token = tally_behind t ts in
      omega (arith, one, token)
  prim_fewest (IsPrim.null {t = t} {ts = ts} is) =
      let one = opens_null 0 t.start in
      let token = tally_behind t ts in
      omega (arith, one, token)
  prim_fewest (IsPrim.eof {t = t} {ts = ts} is) =
      let one = opens_const 0 (negsuc 0) t.start in
      let token = tally_behind t ts in
      omega (arith, one, token)
  prim_fewest (IsPrim.variable {t = t} {text = text} {ts = ts} is) =
      let one = opens_var 0 (record { text = text; at = t.start }) in
      let token = tally_behind t ts in
      omega (arith, one, token)
  prim_fewest (IsPrim.group {o = o} {c = c} {e = e} {ts = ts} {us = us} is d end) =
      let here = level_fewest d in
      let room = (expr_roomy e 0 7 (omega arith)).1 in
      let bracket = tally_open o ts is in
      let close = tally_behind c us in
      omega (arith, here, room, bracket, close)

pub arg_fewest : {a : Arg} {ts us : List Token} → IsArg a ts us → opens (printed_arg a) + tally us ≤ tally ts
arg_fewest (IsArg.argument d) = level_fewest d
