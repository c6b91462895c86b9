-- The tests of expressions decide whether their bare forms are equal.
use Rattle.std.proofs.Common.{◌≡◌, ℕ, ℤ, Bool, ◌==◌, ◌&&◌, refl, ap, sym, subst, ◌∙◌}
use Rattle.std.specs.Bool.{Decides}
use Rattle.std.specs.Ordering.{int_eq}
use Rattle.std.proofs.lemmas.Bool.Decides.{Decides-and, Decides-like, Decides-at, Decides-eqb, Decides-int_eq}
use Rattle.c_tree.specs.Alike.{bare_layer, bare_expr}
use Rattle.c_tree.specs.AlikeTest.{same_op, same_sign, same_oper, alike_layer, alike_expr}
use Rattle.c_tree.specs.declared.expr.Op.{Op}
use Rattle.c_tree.specs.declared.expr.Op.TheVariants as op
use Rattle.c_tree.specs.declared.expr.Sign.{Sign}
use Rattle.c_tree.specs.declared.expr.Sign.TheVariants as sign
use Rattle.c_tree.specs.declared.expr.Oper.{Oper}
use Rattle.c_tree.specs.declared.expr.Oper.TheVariants as oper
use Rattle.c_tree.specs.declared.expr.Expr.{Expr, Expr-F, roll-Expr, out-Expr, out-roll-Expr, map-Expr, fold-roll-Expr, fold_out-Expr, ind-Expr}
use Rattle.c_tree.specs.declared.expr.Expr.TheOpen.{Const, Null, Var, Field, Deref, Index, Unary, Binary}

pub op_decides : (a b : Op) → Decides (same_op a b) (a ≡ b)
op_decides op.Put op.Put = (λ _. refl, λ _. refl)
op_decides op.Add op.Add = (λ _. refl, λ _. refl)
op_decides op.Sub op.Sub = (λ _. refl, λ _. refl)
op_decides op.Mul op.Mul = (λ _. refl, λ _. refl)
op_decides _ _ = (λ e. cc, λ e. cc)

pub sign_decides : (a b : Sign) → Decides (same_sign a b) (a ≡ b)
sign_decides sign.Minus sign.Minus = (λ _. refl, λ _. refl)
sign_decides sign.Not sign.Not = (λ _. refl, λ _. refl)
sign_decides _ _ = (λ e. cc, λ e. cc)

pub oper_decides : (a b : Oper) → Decides (same_oper a b) (a ≡ b)
oper_decides oper.Mul oper.Mul = (λ _. refl, λ _. refl)
oper_decides oper.Div oper.Div = (λ _. refl, λ _. refl)
oper_decides oper.Rem oper.Rem = (λ _. refl, λ _. refl)
oper_decides oper.Add oper.Add = (λ _. refl, λ _. refl)
oper_decides oper.Sub oper.Sub = (λ _. refl, λ _. refl)
oper_decides oper.Lt oper.Lt = (λ _. refl, λ _. refl)
oper_decides oper.Le oper.Le = (λ _. refl, λ _. refl)
oper_decides oper.Gt oper.Gt = (λ _. refl, λ _. refl)
oper_decides oper.Ge oper.Ge = (λ _. refl, λ _. refl)
oper_decides oper.Eq oper.Eq = (λ _. refl, λ _. refl)
oper_decides oper.Ne oper.Ne = (λ _. refl, λ _. refl)
oper_decides oper.And oper.And = (λ _. refl, λ _. refl)
oper_decides oper.Or oper.Or = (λ _. refl, λ _. refl)
oper_decides _ _ = (λ e. cc, λ e. cc)

abbrev Decided : Expr → Type 0
Decided a = (b : Expr) → Decides (alike_expr a b) (bare_expr a ≡ bare_expr b)

-- the layer without what is held beside its parts
abbrev plain : Expr-F ((a : Expr) × Decided a) → Expr-F Expr
plain = map-Expr ((a : Expr) × Decided a) Expr (λ e. e.0)

abbrev tests : Expr-F Expr → Expr-F (Expr → Bool)
tests = map-Expr Expr (Expr → Bool) alike_expr

abbrev bared : Expr-F Expr → Expr-F Expr
bared l = bare_layer (map-Expr Expr Expr bare_expr l)

layer_decides : (y : Expr-F ((a : Expr) × Decided a)) (m : Expr-F Expr) → Decides (alike_layer (tests (plain y)) m) (bared (plain y) ≡ bared m)
layer_decides (Const n at) (Const k at') = Decides-like (int_eq n k) (λ e. ap (λ (i : ℤ). Const i 0) e) (λ e. cc) (Decides-int_eq n k)
layer_decides (Null at) (Null at') = (λ _. refl, λ _. refl)
layer_decides (Var x at) (Var y at') = Decides-like (x == y) (λ e. ap (λ (i : ℕ). Var i 0) e) (λ e. cc) (Decides-eqb x y)
layer_decides (Field a f at) (Field b g at') = Decides-like (alike_expr a.0 b && (f == g)) (λ (p, q). cc) (λ e. (cc, cc)) (Decides-and (alike_expr a.0 b) (f == g) (a.1 b) (Decides-eqb f g))
layer_decides (Deref a at) (Deref b at') = Decides-like (alike_expr a.0 b) (λ e. ap (λ (z : Expr). Deref z 0) e) (λ e. cc) (a.1 b)
layer_decides (Index a i at) (Index b j at') = Decides-like (alike_expr a.0 b && alike_expr i.0 j) (λ (p, q). cc) (λ e. (cc, cc)) (Decides-and (alike_expr a.0 b) (alike_expr i.0 j) (a.1 b) (i.1 j))
layer_decides (Unary s a at) (Unary t b at') = Decides-like (same_sign s t && alike_expr a.0 b) (λ (p, q). cc) (λ e. (cc, cc)) (Decides-and (same_sign s t) (alike_expr a.0 b) (sign_decides s t) (a.1 b))
layer_decides (Binary o a c at) (Binary p b d at') = Decides-like ((same_oper o p && alike_expr a.0 b) && alike_expr c.0 d) (λ ((p, q), r). cc) (λ e. ((cc, cc), cc))
    (Decides-and (same_oper o p && alike_expr a.0 b) (alike_expr c.0 d) (Decides-and (same_oper o p) (alike_expr a.0 b) (oper_decides o p) (a.1 b)) (c.1 d))
layer_decides _ _ = (λ e. cc, λ e. cc)

step : (x : Expr-F Expr) (y : Expr-F ((a : Expr) × Decided a)) → plain y ≡ x → Decided (roll-Expr x)
step x y is b =
    let layer : Decides (alike_layer (tests x) (out-Expr b)) (bared x ≡ bared (out-Expr b)) =
    subst (λ (z : Expr-F Expr). Decides (alike_layer (tests z) (out-Expr b)) (bared z ≡ bared (out-Expr b))) is (layer_decides y (out-Expr b)) in
    let test : alike_expr (roll-Expr x) b ≡ alike_layer (tests x) (out-Expr b) = ap (λ (f : Expr → Bool). f b) (fold-roll-Expr (Expr → Bool) (λ l e. alike_layer l (out-Expr e)) x) in
    let left : bare_expr (roll-Expr x) ≡ roll-Expr (bared x) = fold-roll-Expr Expr (λ l. roll-Expr (bare_layer l)) x in
    let right : bare_expr b ≡ roll-Expr (bared (out-Expr b)) = fold_out-Expr Expr (λ l. roll-Expr (bare_layer l)) b in
    Decides-at (alike_expr (roll-Expr x) b) (alike_layer (tests x) (out-Expr b)) test
    (Decides-like (alike_layer (tests x) (out-Expr b))
    (λ e. left ∙ ap (λ (z : Expr-F Expr). roll-Expr z) e ∙ sym right)
    (λ e. sym (out-roll-Expr (bared x)) ∙ ap out-Expr (sym left ∙ e ∙ right) ∙ out-roll-Expr (bared (out-Expr b)))
    layer)

pub expr_decides : (a b : Expr) → Decides (alike_expr a b) (bare_expr a ≡ bare_expr b)
expr_decides = ind-Expr Decided step
