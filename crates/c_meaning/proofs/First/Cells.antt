-- Reads and stores through a variable that holds a null pointer or an object of one cell.
use Rattle.std.proofs.Common.{◌≡◌, ℕ, pos, Bool, false, List, [], ◌∷◌, slice_get, Some, Result, Ok, refl, ap, ◌∙◌}
use Rattle.c_tree.specs.declared.expr.Expr.TheVariants as expr
use Rattle.c_meaning.specs.declared.value.Value.{Value}
use Rattle.c_meaning.specs.declared.value.Value.TheVariants as value
use Rattle.c_meaning.specs.declared.machine.Object.{Object}
use Rattle.c_meaning.specs.declared.machine.Location.TheVariants.{Cell}
use Rattle.c_meaning.specs.declared.machine.Stop.{Stop}
use Rattle.c_meaning.specs.declared.machine.Kind.TheVariants.{NullDeref}
use Rattle.c_meaning.specs.Eval.{flaw, ◌>>=◌, slot_of, read, value_at, cell_of, eval, place_of}
use Rattle.c_meaning.proofs.Evals.{eval_var, eval_deref, place_deref}

-- an object of one cell, and whether it is freed
abbrev pub cell_object : Value → Bool → Object
cell_object v freed = record { cells = v ∷ []; freed = freed }

-- *x where x holds a null pointer, and where it holds an object of one cell that is not freed

pub place_at_null : (slots : List Value) (objects : List Object) (x offset star : ℕ) → slot_of slots x ≡ value.Null →
    place_of slots objects (expr.Deref (expr.Var x offset) star) ≡ flaw NullDeref star
place_at_null slots objects x offset star h =
    place_deref slots objects (expr.Var x offset) star
    ∙ ap (λ (r : Result Value Stop). r >>= cell_of objects star (pos 0)) (eval_var slots objects x offset)
    ∙ ap (λ (v : Value). read objects offset v >>= cell_of objects star (pos 0)) h

pub place_at_cell : (slots : List Value) (objects : List Object) (x offset star o : ℕ) (w : Value) → slot_of slots x ≡ value.Ptr o → slice_get objects o ≡ Some (cell_object w false) →
    place_of slots objects (expr.Deref (expr.Var x offset) star) ≡ Ok (Cell o 0)
place_at_cell slots objects x offset star o w h k =
    place_deref slots objects (expr.Var x offset) star
    ∙ ap (λ (r : Result Value Stop). r >>= cell_of objects star (pos 0)) (eval_var slots objects x offset)
    ∙ ap (λ (v : Value). read objects offset v >>= cell_of objects star (pos 0)) h
    ∙ rw (k, k) refl

pub eval_at_null : (slots : List Value) (objects : List Object) (x offset star : ℕ) → slot_of slots x ≡ value.Null →
    eval slots objects (expr.Deref (expr.Var x offset) star) ≡ flaw NullDeref star
eval_at_null slots objects x offset star h =
    eval_deref slots objects (expr.Var x offset) star
    ∙ ap (λ (r : Result Value Stop). r >>= cell_of objects star (pos 0) >>= value_at slots objects star) (eval_var slots objects x offset)
    ∙ ap (λ (v : Value). read objects offset v >>= cell_of objects star (pos 0) >>= value_at slots objects star) h

pub eval_at_cell : (slots : List Value) (objects : List Object) (x offset star o : ℕ) (w : Value) → slot_of slots x ≡ value.Ptr o → slice_get objects o ≡ Some (cell_object w false) →
    eval slots objects (expr.Deref (expr.Var x offset) star) ≡ read objects star w
eval_at_cell slots objects x offset star o w h k =
    eval_deref slots objects (expr.Var x offset) star
    ∙ ap (λ (r : Result Value Stop). r >>= cell_of objects star (pos 0) >>= value_at slots objects star) (eval_var slots objects x offset)
    ∙ ap (λ (v : Value). read objects offset v >>= cell_of objects star (pos 0) >>= value_at slots objects star) h
    ∙ rw (k, k, k) refl
