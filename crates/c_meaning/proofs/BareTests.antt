-- Conditions without offsets: the same ways to the same atomic tests, and the same goes on behind each.
use Rattle.std.proofs.Common.{◌≡◌, ℕ, zero, suc, Bool, true, false, List, [], ◌∷◌, Option, Some, None, option_map, option_and_then, refl, ap, sym, subst, ◌∙◌}
use Rattle.c_tree.specs.Alike.{bare_layer, bare_expr}
use Rattle.c_tree.specs.declared.expr.Expr.{Expr, Expr-F, out-Expr, fold-Expr, map-Expr, fold-roll-Expr, ind-Expr}
use Rattle.c_tree.specs.declared.expr.Expr.TheOpen.{Const, Null, Var, Field, Deref, Index, Unary, Binary}
use Rattle.c_tree.specs.declared.expr.Sign.TheVariants as sign
use Rattle.c_tree.specs.declared.expr.Oper.TheVariants as oper
use Rattle.c_meaning.specs.Parts.{Found}
use Rattle.c_meaning.specs.Place.{Onward, To, By, operand, atomic, test_at, tests_layer, tests_of, first_layer, first_test, decided, behind_operand, within_operand, behind_test}
use Rattle.c_meaning.proofs.Opened.{bared, bare_rolled, bare_out}

-- what looks at no offset says the same of a bare expression
module _ {A : Type 0} (f : Expr-F A → A) (blind : (l : Expr-F A) → f (bare_layer l) ≡ f l) where
  abbrev Blind : Expr → Type 0
  Blind e = fold-Expr A f (bare_expr e) ≡ fold-Expr A f e

  abbrev folded : Expr-F Expr → Expr-F A
  folded = map-Expr Expr A (fold-Expr A f)

  abbrev plain : Expr-F ((e : Expr) × Blind e) → Expr-F Expr
  plain = map-Expr ((e : Expr) × Blind e) Expr (λ e. e.0)

  layer_blind : (y : Expr-F ((e : Expr) × Blind e)) → f (folded (bared (plain y))) ≡ f (folded (plain y))
  layer_blind (Const n offset) = blind (Const n offset)
  layer_blind (Null offset) = blind (Null offset)
  layer_blind (Var x offset) = blind (Var x offset)
  layer_blind (Field e g offset) = blind (Field (fold-Expr A f (bare_expr e.0)) g offset) ∙ ap (λ (z : A). f (Field z g offset)) e.1
  layer_blind (Deref e offset) = blind (Deref (fold-Expr A f (bare_expr e.0)) offset) ∙ ap (λ (z : A). f (Deref z offset)) e.1
  layer_blind (Index e i offset) = blind (Index (fold-Expr A f (bare_expr e.0)) (fold-Expr A f (bare_expr i.0)) offset)
      ∙ ap (λ (z : A). f (Index z (fold-Expr A f (bare_expr i.0)) offset)) e.1 ∙ ap (λ (z : A). f (Index (fold-Expr A f e.0) z offset)) i.1
  layer_blind (Unary s e offset) = blind (Unary s (fold-Expr A f (bare_expr e.0)) offset) ∙ ap (λ (z : A). f (Unary s z offset)) e.1
  layer_blind (Binary o a b offset) = blind (Binary o (fold-Expr A f (bare_expr a.0)) (fold-Expr A f (bare_expr b.0)) offset)
      ∙ ap (λ (z : A). f (Binary o z (fold-Expr A f (bare_expr b.0)) offset)) a.1 ∙ ap (λ (z : A). f (Binary o (fold-Expr A f a.0) z offset)) b.1

  pub fold_bare : (e : Expr) → fold-Expr A f (bare_expr e) ≡ fold-Expr A f e
  fold_bare = ind-Expr Blind (λ x y is.
      let layer : f (folded (bared x)) ≡ f (folded x) = subst (λ (z : Expr-F Expr). f (folded (bared z)) ≡ f (folded z)) is (layer_blind y) in
      ap (fold-Expr A f) (bare_rolled x) ∙ fold-roll-Expr A f (bared x) ∙ layer ∙ sym (fold-roll-Expr A f x))

first_blind : (l : Expr-F (List ℕ)) → first_layer (bare_layer l) ≡ first_layer l
first_blind (Unary sign.Not p offset) = refl
first_blind (Binary oper.And p q offset) = refl
first_blind (Binary oper.Or p q offset) = refl
first_blind _ = refl

pub first_bare : (e : Expr) → first_test (bare_expr e) ≡ first_test e
first_bare = fold_bare first_layer first_blind

tests_blind : (l : Expr-F (List (List ℕ))) → tests_layer (bare_layer l) ≡ tests_layer l
tests_blind (Unary sign.Not p offset) = refl
tests_blind (Binary oper.And p q offset) = refl
tests_blind (Binary oper.Or p q offset) = refl
tests_blind _ = refl

pub tests_bare : (e : Expr) → tests_of (bare_expr e) ≡ tests_of e
tests_bare = fold_bare tests_layer tests_blind

operand_layer : (k : ℕ) (l : Expr-F Expr) → operand k (bared l) ≡ option_map bare_expr (operand k l)
operand_layer zero (Unary sign.Not e offset) = refl
operand_layer zero (Binary oper.And a b offset) = refl
operand_layer (suc zero) (Binary oper.And a b offset) = refl
operand_layer zero (Binary oper.Or a b offset) = refl
operand_layer (suc zero) (Binary oper.Or a b offset) = refl
operand_layer _ _ = refl

operand_bare : (k : ℕ) (e : Expr) → operand k (out-Expr (bare_expr e)) ≡ option_map bare_expr (operand k (out-Expr e))
operand_bare k e = ap (operand k) (bare_out e) ∙ operand_layer k (out-Expr e)

atomic_layer : (e : Expr) (l : Expr-F Expr) → atomic (bare_expr e) (bared l) ≡ option_map bare_expr (atomic e l)
atomic_layer e (Unary sign.Not a offset) = refl
atomic_layer e (Binary oper.And a b offset) = refl
atomic_layer e (Binary oper.Or a b offset) = refl
atomic_layer e _ = refl

and_then_bare : (f : Expr → Option Expr) → ((e : Expr) → f (bare_expr e) ≡ option_map bare_expr (f e)) → (o : Option Expr) →
    option_and_then f (option_map bare_expr o) ≡ option_map bare_expr (option_and_then f o)
and_then_bare f h None = refl
and_then_bare f h (Some e) = h e

pub test_bare : (path : List ℕ) (e : Expr) → test_at path (bare_expr e) ≡ option_map bare_expr (test_at path e)
test_bare [] e = ap (atomic (bare_expr e)) (bare_out e) ∙ atomic_layer e (out-Expr e)
test_bare (k ∷ path) e = ap (option_and_then (test_at path)) (operand_bare k e) ∙ and_then_bare (test_at path) (test_bare path) (operand k (out-Expr e))

decided_layer : (k : ℕ) (l : Expr-F Expr) (b : Bool) → decided k (bared l) b ≡ decided k l b
decided_layer k (Unary sign.Not e offset) b = refl
decided_layer zero (Binary oper.And a b offset) true = ap (λ (p : List ℕ). To (1 ∷ p)) (first_bare b)
decided_layer zero (Binary oper.And a b offset) false = refl
decided_layer (suc k) (Binary oper.And a b offset) s = refl
decided_layer zero (Binary oper.Or a b offset) false = ap (λ (p : List ℕ). To (1 ∷ p)) (first_bare b)
decided_layer zero (Binary oper.Or a b offset) true = refl
decided_layer (suc k) (Binary oper.Or a b offset) s = refl
decided_layer _ _ _ = refl

behind_layer : (k : ℕ) (l : Expr-F Expr) (o : Onward) → behind_operand k (bared l) o ≡ behind_operand k l o
behind_layer k l (To path) = refl
behind_layer k l (By (Found b)) = decided_layer k l b
behind_layer k l (By _) = refl

within_bare : (f : Expr → Onward) → ((e : Expr) → f (bare_expr e) ≡ f e) → (o : Option Expr) → within_operand f (option_map bare_expr o) ≡ within_operand f o
within_bare f h None = refl
within_bare f h (Some e) = h e

pub behind_bare : (path : List ℕ) (b : Bool) (e : Expr) → behind_test path b (bare_expr e) ≡ behind_test path b e
behind_bare [] b e = refl
behind_bare (k ∷ path) b e =
    ap (λ (l : Expr-F Expr). behind_operand k l (within_operand (behind_test path b) (operand k (out-Expr (bare_expr e))))) (bare_out e)
    ∙ behind_layer k (out-Expr e) (within_operand (behind_test path b) (operand k (out-Expr (bare_expr e))))
    ∙ ap (λ (o : Option Expr). behind_operand k (out-Expr e) (within_operand (behind_test path b) o)) (operand_bare k e)
    ∙ ap (behind_operand k (out-Expr e)) (within_bare (behind_test path b) (behind_bare path b) (operand k (out-Expr e)))
