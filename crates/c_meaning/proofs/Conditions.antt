-- The first atomic test of a condition, and the arms of an if, one level opened.
use Rattle.std.proofs.Common.{◌≡◌, ℕ, List, [], ap, sym, ◌∙◌}
use Rattle.c_tree.specs.declared.expr.Expr.{Expr, fold-roll-Expr}
use Rattle.c_tree.specs.declared.expr.Expr.TheVariants as expr
use Rattle.c_tree.specs.declared.expr.Expr.TheOpen as layer
use Rattle.c_tree.specs.declared.expr.Sign.{Sign}
use Rattle.c_tree.specs.declared.expr.Oper.{Oper}
use Rattle.c_tree.specs.declared.program.Block.{Block}
use Rattle.c_tree.specs.declared.program.Piece.{Piece}
use Rattle.c_tree.specs.declared.program.Item.{Item}
use Rattle.c_tree.specs.declared.program.Arm.{Arm, Arm-F, roll-Arm, out-roll-Arm}
use Rattle.c_meaning.specs.Place.{first_layer, first_test, arm_test, arm_body}

pub test_of_arm : (a : Arm-F Item Arm Block Piece) → arm_test (roll-Arm a) ≡ a.test
test_of_arm a = ap (λ (z : Arm-F Item Arm Block Piece). z.test) (out-roll-Arm a)

pub body_of_arm : (a : Arm-F Item Arm Block Piece) → arm_body (roll-Arm a) ≡ a.body
body_of_arm a = ap (λ (z : Arm-F Item Arm Block Piece). z.body) (out-roll-Arm a)

pub first_var : (x offset : ℕ) → first_test (expr.Var x offset) ≡ []
first_var x offset = ap first_test (sym (expr.rolls-Var x offset)) ∙ fold-roll-Expr (List ℕ) first_layer (layer.Var x offset)

pub first_unary : (s : Sign) (e : Expr) (offset : ℕ) → first_test (expr.Unary s e offset) ≡ first_layer (layer.Unary s (first_test e) offset)
first_unary s e offset = ap first_test (sym (expr.rolls-Unary s e offset)) ∙ fold-roll-Expr (List ℕ) first_layer (layer.Unary s e offset)

pub first_binary : (o : Oper) (a b : Expr) (offset : ℕ) → first_test (expr.Binary o a b offset) ≡ first_layer (layer.Binary o (first_test a) (first_test b) offset)
first_binary o a b offset = ap first_test (sym (expr.rolls-Binary o a b offset)) ∙ fold-roll-Expr (List ℕ) first_layer (layer.Binary o a b offset)
