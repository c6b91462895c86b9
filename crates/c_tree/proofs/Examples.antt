-- A loop `while (x) ..`, with its gaps filled, emptied and compared.
use Rattle.std.proofs.Common.{◌≡◌, ℕ, ◌+◌, Bool, true, false, List, [], ◌∷◌, Some, None, refl}
use Rattle.c_tree.specs.Fill.{skeleton, fill, ascends, IsAscending}
use Rattle.c_tree.specs.Alike.{IsAlike}
use Rattle.c_tree.proofs.Alikes.{bare_variable}
use Rattle.c_tree.specs.declared.choice.Choice.{Choice}
use Rattle.c_tree.specs.declared.expr.Expr.TheVariants as expr
use Rattle.c_tree.specs.declared.program.Block.{Block, roll-Block, fold-roll-Block}
use Rattle.c_tree.specs.declared.program.Piece.{roll-Piece, fold-roll-Piece}
use Rattle.c_tree.specs.declared.program.Item.{roll-Item, fold-roll-Item}
use Rattle.c_tree.specs.declared.program.Item.TheOpen.{While}
use Rattle.c_tree.specs.declared.program.Free.{Free}
use Rattle.c_tree.specs.declared.program.Program.{Program}

-- the loop's body, with the frees of gap 1
abbrev inner : ℕ → Bool → List Free → Block
inner at braced frees = roll-Block (record { items = []; last_gap = record { number = 1; frees = frees }; braced = braced; start = at + 3; end = at + 4 })

-- the body of main, with the frees of the gaps 0, 1 and 2
abbrev body : ℕ → Bool → List Free → List Free → List Free → Block
body at braced first second third = roll-Block (record {
  items = roll-Piece (record { gap = record { number = 0; frees = first }; item = roll-Item (While (expr.Var 0 (at + 1)) (inner at braced second)); start = at; end = at + 4 }) ∷ [];
  last_gap = record { number = 2; frees = third };
  braced = true;
  start = 0;
  end = at + 5;
})

abbrev sample : ℕ → Bool → List Free → List Free → List Free → Program
sample at braced first second third = record {
  structs = [];
  vars = [];
  funs = record { name = []; result = None; params = []; body = body at braced first second third; at = 0 } ∷ [];
  main = 0;
  gaps = 3;
  calls = 0;
}

abbrev of_variable : ℕ → Free
of_variable x = record { expr = expr.Var x 0; start = 0; end = 0 }

abbrev of_field : ℕ → ℕ → Free
of_field x f = record { expr = expr.Field (expr.Var x 0) f 0; start = 0; end = 0 }

-- in gap 1 the field 5 of 4 and then 3, and in gap 2 the variable 4
abbrev choice : Choice
choice = record { puts = record { gap = 1; var = 4; field = Some 5 } ∷ record { gap = 1; var = 3; field = None } ∷ record { gap = 2; var = 4; field = None } ∷ [] }

pub choice_ascends : IsAscending choice
choice_ascends = refl

-- a variable does not come before a field
pub variable_first : ascends (record { gap = 1; var = 3; field = None } ∷ record { gap = 1; var = 4; field = Some 5 } ∷ []) ≡ false
variable_first = refl

pub skeleton_sample : (at : ℕ) (braced : Bool) (first second third : List Free) → skeleton (sample at braced first second third) ≡ sample at braced [] [] []
skeleton_sample at braced first second third = simp (fold-roll-Block, fold-roll-Piece, fold-roll-Item)

pub fill_sample : (at : ℕ) (braced : Bool) (first second third : List Free) → fill (sample at braced first second third) choice ≡ sample at braced [] (of_field 4 5 ∷ of_variable 3 ∷ []) (of_variable 4 ∷ [])
fill_sample at braced first second third = simp (fold-roll-Block, fold-roll-Piece, fold-roll-Item)

pub alike_sample : (at at' : ℕ) (braced : Bool) → IsAlike (sample at true [] [] []) (sample at' braced [] [] [])
alike_sample at at' braced = simp (fold-roll-Block, fold-roll-Piece, fold-roll-Item, bare_variable)
