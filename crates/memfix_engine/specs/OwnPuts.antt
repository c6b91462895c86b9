-- What the frees in the gaps of a program free, as puts.
use Rattle.std.specs.Prelude.{ℕ, Bool, true, List, ◌∷◌, map, Option, Some, None, option_map}
use Rattle.std.specs.List.{flat_map}
use Rattle.c_tree.specs.Fill.{ascends, precedes}
use Rattle.c_tree.specs.Numbers.{Gaps, arm_gaps, block_gaps, gaps_of, item_gaps, piece_gaps}
use Rattle.c_tree.specs.declared.choice.Put.{Put}
use Rattle.c_tree.specs.declared.expr.Expr.{Expr, Expr-F, out-Expr}
use Rattle.c_tree.specs.declared.expr.Expr.TheOpen.{Const, Null, Var, Field, Deref, Index, Unary, Binary}
use Rattle.c_tree.specs.declared.program.Arm.{Arm, fold-Arm}
use Rattle.c_tree.specs.declared.program.Free.{Free}
use Rattle.c_tree.specs.declared.program.Gap.{Gap}
use Rattle.c_tree.specs.declared.program.Item.{Item, fold-Item}
use Rattle.c_tree.specs.declared.program.Piece.{Piece, fold-Piece}
use Rattle.c_tree.specs.declared.program.Program.{Program}

-- the variable that an expression is, if it is one
abbrev pub variable_of : Expr-F Expr → Option ℕ
variable_of (Var x at) = Some x
variable_of (Const n at) = None
variable_of (Null at) = None
variable_of (Field e f at) = None
variable_of (Deref e at) = None
variable_of (Index e i at) = None
variable_of (Unary s e at) = None
variable_of (Binary o a b at) = None

-- the put of x->f in a gap
abbrev pub field_put : ℕ → ℕ → ℕ → Put
field_put g f x = record { gap = g; var = x; field = Some f }

-- the put in a gap that frees an expression, if it is x or x->f
abbrev pub put_of : ℕ → Expr-F Expr → Option Put
put_of g (Var x at) = Some (record { gap = g; var = x; field = None })
put_of g (Field e f at) = option_map (field_put g f) (variable_of (out-Expr e))
put_of g (Const n at) = None
put_of g (Null at) = None
put_of g (Deref e at) = None
put_of g (Index e i at) = None
put_of g (Unary s e at) = None
put_of g (Binary o a b at) = None

-- the gaps of an item, an arm and a piece, in the order of the text

-- those of an item
abbrev pub item_gaps_in : Item → Gaps
item_gaps_in = fold-Item Gaps Gaps Gaps Gaps item_gaps arm_gaps block_gaps piece_gaps

-- those of an arm
abbrev pub arm_gaps_in : Arm → Gaps
arm_gaps_in = fold-Arm Gaps Gaps Gaps Gaps item_gaps arm_gaps block_gaps piece_gaps

-- those of a piece
abbrev pub piece_gaps_in : Piece → Gaps
piece_gaps_in = fold-Piece Gaps Gaps Gaps Gaps item_gaps arm_gaps block_gaps piece_gaps

-- the puts of the frees that stand in a gap
abbrev pub gap_puts : Gap → List (Option Put)
gap_puts g = map (λ (f : Free). put_of g.number (out-Expr f.expr)) g.frees

-- those of all gaps of a program, in the order of the text
abbrev pub own_puts : Program → List (Option Put)
own_puts p = flat_map gap_puts (gaps_of p)

-- a put comes behind the one before it, if there is one
abbrev pub follows : Option Put → Put → Bool
follows None q = true
follows (Some p) q = precedes p q

-- puts ascend behind one
abbrev pub ascends_behind : Option Put → List Put → Bool
ascends_behind None qs = ascends qs
ascends_behind (Some p) qs = ascends (p ∷ qs)
