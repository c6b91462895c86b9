-- Where control may go in a block: both edges of each test count, but a constant has one, and every
-- call returns.
use Rattle.std.specs.Prelude.{Bool, true, false, not, ◌&&◌, ◌||◌, pos, List, [], ◌∷◌, Option, None, Some, if◌then◌else◌}
use Rattle.std.specs.List.{list_any}
use Rattle.std.specs.Ordering.{int_eq}
use Rattle.c_tree.specs.declared.expr.Expr.{Expr, Expr-F, fold-Expr}
use Rattle.c_tree.specs.declared.expr.Expr.TheOpen.{Const, Null, Var, Field, Deref, Index, Unary, Binary}
use Rattle.c_tree.specs.declared.expr.Oper.{Oper}
use Rattle.c_tree.specs.declared.expr.Oper.TheVariants as oper
use Rattle.c_tree.specs.declared.expr.Sign.{Sign}
use Rattle.c_tree.specs.declared.expr.Sign.TheVariants as sign
use Rattle.c_tree.specs.declared.program.Arm.{Arm, Arm-F, fold-Arm}
use Rattle.c_tree.specs.declared.program.Block.{Block, Block-F, fold-Block}
use Rattle.c_tree.specs.declared.program.Item.{Item, Item-F, fold-Item}
use Rattle.c_tree.specs.declared.program.Item.TheOpen.{Declare, Assign, Do, Nest, If, While, For, Break, Continue, Return}
use Rattle.c_tree.specs.declared.program.Piece.{Piece, Piece-F, fold-Piece}
use Rattle.c_tree.specs.declared.control.Edges.{Edges}
use Rattle.c_tree.specs.declared.control.Flow.{Flow}

abbrev pub both : Edges
both = record { holds = true; fails = true }

-- a condition is taken apart at `!`, `&&` and `||` (C99 6.5.3.3, 6.5.13, 6.5.14)
abbrev pub signed_edges : Sign → Edges → Edges
signed_edges sign.Minus a = both
signed_edges sign.Not a = record { holds = a.fails; fails = a.holds }

abbrev pub both_hold : Edges → Edges → Edges
both_hold a b = record { holds = a.holds && b.holds; fails = a.fails || (a.holds && b.fails) }

abbrev pub one_holds : Edges → Edges → Edges
one_holds a b = record { holds = a.holds || (a.fails && b.holds); fails = a.fails && b.fails }

abbrev pub combined_edges : Oper → Edges → Edges → Edges
combined_edges oper.And a b = both_hold a b
combined_edges oper.Or a b = one_holds a b
combined_edges _ a b = both

abbrev pub edges_layer : Expr-F Edges → Edges
edges_layer (Const n at) = record { holds = not (int_eq n (pos 0)); fails = int_eq n (pos 0) }
edges_layer (Null at) = both
edges_layer (Var x at) = both
edges_layer (Field e f at) = both
edges_layer (Deref e at) = both
edges_layer (Index e i at) = both
edges_layer (Unary s e at) = signed_edges s e
edges_layer (Binary o a b at) = combined_edges o a b

-- the edges of a test that may be taken
abbrev pub edges_of : Expr → Edges
edges_of = fold-Expr Edges edges_layer

-- the absent test of a `for` holds
abbrev pub edges_or_hold : Option Expr → Edges
edges_or_hold None = record { holds = true; fails = false }
edges_or_hold (Some e) = edges_of e

abbrev pub goes_on : Flow
goes_on = record { ends = true; breaks = false }

abbrev pub leaves : Flow
leaves = record { ends = false; breaks = false }

-- what stands behind an item is reached where the item's end is
abbrev pub followed : Flow → Flow → Flow
followed a b = if a.ends then record { ends = b.ends; breaks = a.breaks || b.breaks } else a

-- a part that is reached by an edge
abbrev pub along : Bool → Flow → Flow
along taken a = if taken then a else leaves

abbrev pub either : Flow → Flow → Flow
either a b = record { ends = a.ends || b.ends; breaks = a.breaks || b.breaks }

-- a loop ends where its test fails or its body breaks
abbrev pub loop : Edges → Flow → Flow
loop t body = record { ends = t.fails || (t.holds && body.breaks); breaks = false }

abbrev pub sequence : List Flow → Flow
sequence [] = goes_on
sequence (f ∷ fs) = followed f (sequence fs)

abbrev pub flow_or : Option Flow → Flow
flow_or None = goes_on
flow_or (Some f) = f

abbrev pub FlowArm : Type 0
FlowArm = Arm-F Flow (Edges × Flow) Flow Flow

abbrev pub arms_flow : List (Edges × Flow) → Flow → Flow
arms_flow [] last = last
arms_flow (a ∷ arms) last = either (along a.0.holds a.1) (along a.0.fails (arms_flow arms last))

abbrev pub item_flow : Item-F Flow (Edges × Flow) Flow Flow → Flow
item_flow (Declare ds) = goes_on
item_flow (Assign s) = goes_on
item_flow (Do c) = goes_on
item_flow (Nest b) = b
item_flow (If arms last) = arms_flow arms (flow_or last)
item_flow (While e b) = loop (edges_of e) b
item_flow (For h b) = loop (edges_or_hold h.test) b
item_flow Break = record { ends = false; breaks = true }
item_flow Continue = leaves
item_flow (Return r at) = leaves

abbrev pub arm_flow : FlowArm → Edges × Flow
arm_flow a = (edges_of a.test, a.body)

abbrev pub block_flow : Block-F Flow (Edges × Flow) Flow Flow → Flow
block_flow b = sequence b.items

abbrev pub piece_flow : Piece-F Flow (Edges × Flow) Flow Flow → Flow
piece_flow p = p.item

-- whether a path may reach the end of a block, and whether one may leave it by `break`
abbrev pub flow_of : Block → Flow
flow_of = fold-Block Flow (Edges × Flow) Flow Flow item_flow arm_flow block_flow piece_flow

abbrev pub piece_flow_of : Piece → Flow
piece_flow_of = fold-Piece Flow (Edges × Flow) Flow Flow item_flow arm_flow block_flow piece_flow

abbrev pub item_flow_of : Item → Flow
item_flow_of = fold-Item Flow (Edges × Flow) Flow Flow item_flow arm_flow block_flow piece_flow

abbrev pub arm_flow_of : Arm → Edges × Flow
arm_flow_of = fold-Arm Flow (Edges × Flow) Flow Flow item_flow arm_flow block_flow piece_flow

-- whether a `break` or `continue` stands in no loop of a part (6.8.6.2, 6.8.6.3)

abbrev pub last_jumps : Option Bool → Bool
last_jumps None = false
last_jumps (Some b) = b

abbrev pub item_jumps : Item-F Bool Bool Bool Bool → Bool
item_jumps (Nest b) = b
item_jumps (If arms last) = list_any (λ a. a) arms || last_jumps last
item_jumps (While e b) = false
item_jumps (For h b) = false
item_jumps Break = true
item_jumps Continue = true
item_jumps (Declare ds) = false
item_jumps (Assign s) = false
item_jumps (Do c) = false
item_jumps (Return r at) = false

abbrev pub arm_jumps : Arm-F Bool Bool Bool Bool → Bool
arm_jumps a = a.body

abbrev pub block_jumps : Block-F Bool Bool Bool Bool → Bool
block_jumps b = list_any (λ p. p) b.items

abbrev pub piece_jumps : Piece-F Bool Bool Bool Bool → Bool
piece_jumps p = p.item

abbrev pub jumps_out : Block → Bool
jumps_out = fold-Block Bool Bool Bool Bool item_jumps arm_jumps block_jumps piece_jumps
