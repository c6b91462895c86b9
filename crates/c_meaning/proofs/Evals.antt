-- The values and locations of expressions, one level opened.
use Rattle.std.proofs.Common.{◌≡◌, ℕ, ℤ, pos, List, Result, Ok, ap, sym, ◌∙◌}
use Rattle.c_tree.specs.declared.expr.Expr.{Expr, fold-roll-Expr}
use Rattle.c_tree.specs.declared.expr.Expr.TheVariants as expr
use Rattle.c_tree.specs.declared.expr.Expr.TheOpen as layer
use Rattle.c_tree.specs.declared.expr.Oper.{Oper}
use Rattle.c_meaning.specs.declared.value.Value.{Value}
use Rattle.c_meaning.specs.declared.value.Value.TheVariants as value
use Rattle.c_meaning.specs.declared.machine.Object.{Object}
use Rattle.c_meaning.specs.declared.machine.Location.TheVariants.{Slot}
use Rattle.c_meaning.specs.declared.machine.Stop.{Stop}
use Rattle.c_meaning.specs.Eval.{◌>>=◌, value_at, cell_of, field_cell, binary, eval_layer, eval, place_layer, place_of}

pub eval_var : (slots : List Value) (objects : List Object) (x offset : ℕ) → eval slots objects (expr.Var x offset) ≡ value_at slots objects offset (Slot x)
eval_var slots objects x offset =
    ap (eval slots objects) (sym (expr.rolls-Var x offset))
    ∙ fold-roll-Expr (Result Value Stop) (eval_layer slots objects) (layer.Var x offset)

pub eval_const : (slots : List Value) (objects : List Object) (n : ℤ) (offset : ℕ) → eval slots objects (expr.Const n offset) ≡ Ok (value.Int n)
eval_const slots objects n offset =
    ap (eval slots objects) (sym (expr.rolls-Const n offset))
    ∙ fold-roll-Expr (Result Value Stop) (eval_layer slots objects) (layer.Const n offset)

pub eval_null : (slots : List Value) (objects : List Object) (offset : ℕ) → eval slots objects (expr.Null offset) ≡ Ok value.Null
eval_null slots objects offset =
    ap (eval slots objects) (sym (expr.rolls-Null offset))
    ∙ fold-roll-Expr (Result Value Stop) (eval_layer slots objects) (layer.Null offset)

pub eval_field : (slots : List Value) (objects : List Object) (e : Expr) (f offset : ℕ) →
    eval slots objects (expr.Field e f offset) ≡ (eval slots objects e >>= field_cell objects offset f >>= value_at slots objects offset)
eval_field slots objects e f offset =
    ap (eval slots objects) (sym (expr.rolls-Field e f offset))
    ∙ fold-roll-Expr (Result Value Stop) (eval_layer slots objects) (layer.Field e f offset)

pub eval_deref : (slots : List Value) (objects : List Object) (e : Expr) (offset : ℕ) →
    eval slots objects (expr.Deref e offset) ≡ (eval slots objects e >>= cell_of objects offset (pos 0) >>= value_at slots objects offset)
eval_deref slots objects e offset =
    ap (eval slots objects) (sym (expr.rolls-Deref e offset))
    ∙ fold-roll-Expr (Result Value Stop) (eval_layer slots objects) (layer.Deref e offset)

pub eval_binary : (slots : List Value) (objects : List Object) (o : Oper) (a b : Expr) (offset : ℕ) →
    eval slots objects (expr.Binary o a b offset) ≡ (eval slots objects a >>= λ v. eval slots objects b >>= binary o offset v)
eval_binary slots objects o a b offset =
    ap (eval slots objects) (sym (expr.rolls-Binary o a b offset))
    ∙ fold-roll-Expr (Result Value Stop) (eval_layer slots objects) (layer.Binary o a b offset)

pub place_var : (slots : List Value) (objects : List Object) (x offset : ℕ) → place_of slots objects (expr.Var x offset) ≡ Ok (Slot x)
place_var slots objects x offset = ap (place_layer slots objects) (expr.outs-Var x offset)

pub place_deref : (slots : List Value) (objects : List Object) (e : Expr) (offset : ℕ) →
    place_of slots objects (expr.Deref e offset) ≡ (eval slots objects e >>= cell_of objects offset (pos 0))
place_deref slots objects e offset = ap (place_layer slots objects) (expr.outs-Deref e offset)
