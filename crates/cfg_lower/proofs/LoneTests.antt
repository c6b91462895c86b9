-- A condition that is no `!`, `&&` or `||` has no operand, so no place below it.
use Rattle.std.proofs.Common.{◌⊎◌, inl, inr, ◌≡◌, ℕ, zero, suc, ◌≤◌, Bool, List, [], ◌∷◌, length, Option, None, refl, ap, ◌∙◌, arith}
use Rattle.std.specs.Prelude.{pos}
use Rattle.std.specs.Option.{option_and_then}
use Rattle.c_tree.specs.declared.expr.Expr.{Expr, out-Expr}
use Rattle.c_tree.specs.declared.expr.Expr.TheVariants as expr
use Rattle.c_tree.specs.declared.expr.Expr.TheOpen as layer
use Rattle.c_meaning.specs.Parts.{Lost}
use Rattle.cfg_lower.specs.declared.forms.Operand.{Operand}
use Rattle.cfg_lower.specs.declared.forms.Operand.TheVariants as lent
use Rattle.cfg_lower.specs.Meant.{expr_of}
use Rattle.c_meaning.specs.Place.{By, operand, behind_operand, within_operand, behind_test, test_at}

variable_operand : (k x offset : ℕ) → operand k (layer.Var x offset) ≡ None
variable_operand zero x offset = refl
variable_operand (suc zero) x offset = refl
variable_operand (suc (suc k)) x offset = refl

constant_operand : (k : ℕ) → operand k (layer.Const (pos 1) 0) ≡ None
constant_operand zero = refl
constant_operand (suc zero) = refl
constant_operand (suc (suc k)) = refl

no_operand_of_variable : (x offset k : ℕ) → operand k (out-Expr (expr.Var x offset)) ≡ None
no_operand_of_variable x offset k = ap (operand k) (expr.outs-Var x offset) ∙ variable_operand k x offset

no_operand_of_one : (k : ℕ) → operand k (out-Expr (expr.Const (pos 1) 0)) ≡ None
no_operand_of_one k = ap (operand k) (expr.outs-Const (pos 1) 0) ∙ constant_operand k

pub no_test : (path : List ℕ) (e : Expr) → ((k : ℕ) → operand k (out-Expr e) ≡ None) → 1 ≤ length path → test_at path e ≡ None
no_test [] e none some = absurd (omega arith)
no_test (k ∷ path) e none some = ap (λ (o : Option Expr). option_and_then (test_at path) o) (none k)

pub no_way : (path : List ℕ) (said : Bool) (e : Expr) → ((k : ℕ) → operand k (out-Expr e) ≡ None) → 1 ≤ length path → behind_test path said e ≡ By Lost
no_way [] said e none some = absurd (omega arith)
no_way (k ∷ path) said e none some = ap (λ (o : Option Expr). behind_operand k (out-Expr e) (within_operand (behind_test path said) o)) (none k)

-- a variable, or the constant of an absent condition
pub lone : (c : Operand) → ((x : ℕ) × (offset : ℕ) × (c ≡ lent.Variable x offset)) ⊎ (c ≡ lent.One) → (k : ℕ) → operand k (out-Expr (expr_of c)) ≡ None
lone c (inl v) k = ap (λ (d : Operand). operand k (out-Expr (expr_of d))) v.2 ∙ no_operand_of_variable v.0 v.1 k
lone c (inr e) k = ap (λ (d : Operand). operand k (out-Expr (expr_of d))) e ∙ no_operand_of_one k
