-- The gaps of a program, its skeleton, and how a choice of puts fills it.
use Rattle.std.specs.Prelude.{ℕ, Bool, true, false, ◌==◌, ◌&&◌, ◌||◌, nat_lt, List, [], ◌∷◌, map, filter, Option, Some, None, IsTrue}
use Rattle.c_tree.specs.declared.choice.Put.{Put}
use Rattle.c_tree.specs.declared.choice.Choice.{Choice}
use Rattle.c_tree.specs.declared.expr.Expr.{Expr}
use Rattle.c_tree.specs.declared.expr.Expr.TheVariants as expr
use Rattle.c_tree.specs.declared.program.Block.{Block, roll-Block, fold-Block}
use Rattle.c_tree.specs.declared.program.Piece.{Piece, roll-Piece}
use Rattle.c_tree.specs.declared.program.Item.{Item, roll-Item}
use Rattle.c_tree.specs.declared.program.Arm.{Arm, roll-Arm}
use Rattle.c_tree.specs.declared.program.Gap.{Gap}
use Rattle.c_tree.specs.declared.program.Free.{Free}
use Rattle.c_tree.specs.declared.program.FunDef.{FunDef}
use Rattle.c_tree.specs.declared.program.Program.{Program}

-- a block in which each gap g is f g
abbrev pub regapped_block : (Gap → Gap) → Block → Block
regapped_block f = fold-Block Item Arm Block Piece roll-Item roll-Arm
    (λ b. roll-Block (record b { last_gap = f b.last_gap }))
    (λ p. roll-Piece (record p { gap = f p.gap }))

abbrev pub regapped_fun : (Gap → Gap) → FunDef → FunDef
regapped_fun f d = record d { body = regapped_block f d.body }

-- a program in which each gap g is f g
abbrev pub regapped : (Gap → Gap) → Program → Program
regapped f p = record p { funs = map (regapped_fun f) p.funs }

abbrev pub emptied : Gap → Gap
emptied g = record g { frees = [] }

-- the program without free statements
abbrev pub skeleton : Program → Program
skeleton = regapped emptied

-- what a put frees: x, or x->f
abbrev pub pointing : ℕ → Option ℕ → Expr
pointing x None = expr.Var x 0
pointing x (Some f) = expr.Field (expr.Var x 0) f 0

abbrev pub free_of : Put → Free
free_of q = record { expr = pointing q.var q.field; start = 0; end = 0 }

-- the puts of a gap, in the order of the choice
abbrev pub puts_at : List Put → ℕ → List Put
puts_at puts k = filter (λ q. q.gap == k) puts

abbrev pub filled : List Put → Gap → Gap
filled puts g = record g { frees = map free_of (puts_at puts g.number) }

-- the skeleton with the free statements that the choice has
abbrev pub fill : Program → Choice → Program
fill p choice = regapped (filled choice.puts) p

-- in a gap fields come before variables, each by number
abbrev pub precedes_in_gap : Option ℕ → Option ℕ → ℕ → ℕ → Bool
precedes_in_gap None None x y = nat_lt x y
precedes_in_gap None (Some g) x y = false
precedes_in_gap (Some f) None x y = true
precedes_in_gap (Some f) (Some g) x y = nat_lt x y || (x == y && nat_lt f g)

abbrev pub precedes : Put → Put → Bool
precedes p q = nat_lt p.gap q.gap || (p.gap == q.gap && precedes_in_gap p.field q.field p.var q.var)

abbrev pub ascends : List Put → Bool
ascends [] = true
ascends (p ∷ []) = true
ascends (p ∷ q ∷ puts) = precedes p q && ascends (q ∷ puts)

-- the puts ascend, so none comes twice
abbrev pub IsAscending : Choice → Type 0
IsAscending choice = IsTrue (ascends choice.puts)
