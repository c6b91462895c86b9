-- The parts of an item and the flow of control through them, one kind of item at a time.
use Rattle.std.specs.Prelude.{ℕ, List, [], Option, Some, None}
use Rattle.c_tree.specs.declared.expr.Expr.{Expr}
use Rattle.c_tree.specs.declared.program.Block.{Block}
use Rattle.c_tree.specs.declared.program.Piece.{Piece}
use Rattle.c_tree.specs.declared.program.Arm.{Arm}
use Rattle.c_tree.specs.declared.program.Item.{Item, Item-F}
use Rattle.c_tree.specs.declared.program.Item.TheOpen as item
use Rattle.c_tree.specs.declared.program.Declr.{Declr}
use Rattle.c_tree.specs.declared.program.ForHead.{ForHead}
use Rattle.c_tree.specs.declared.program.Right.{Right}
use Rattle.c_tree.specs.declared.program.Right.TheVariants as right
use Rattle.c_tree.specs.declared.program.Call.{Call}
use Rattle.c_meaning.specs.Parts.{Part, Departure, Goal, parts, goal}
use Rattle.c_meaning.specs.Place.{arm_test, arm_body}

-- one layer of an item
abbrev pub Layer : Type 0
Layer = Item-F Item Arm Block Piece

abbrev pub parts_of : Option ℕ → Layer → List (Part Block)
parts_of = parts arm_test arm_body

abbrev pub declared_parts : List Declr → List (Part Block)
declared_parts ds = parts_of None (item.Declare ds)

abbrev pub if_parts : List Arm → Option Block → List (Part Block)
if_parts arms otherwise = parts_of None (item.If arms otherwise)

abbrev pub while_parts : Expr → Block → List (Part Block)
while_parts e b = parts_of None (item.While e b)

abbrev pub for_parts : ForHead → Block → List (Part Block)
for_parts head b = parts_of None (item.For head b)

abbrev pub returned_parts : Option ℕ → Option Right → ℕ → List (Part Block)
returned_parts slot value offset = parts_of slot (item.Return value offset)

abbrev pub returned_call_parts : Option ℕ → Call → ℕ → List (Part Block)
returned_call_parts slot c offset = returned_parts slot (Some (right.Call c)) offset

-- behind part k of a declaration, of an if, a while, a for
abbrev pub declared_goal : ℕ → Departure → Goal
declared_goal = goal {I = Item} {A = Arm} {B = Block} {P = Piece} (item.Declare [])

abbrev pub if_goal : ℕ → Departure → Goal
if_goal = goal {I = Item} {A = Arm} {B = Block} {P = Piece} (item.If [] None)

abbrev pub while_goal : Expr → Block → ℕ → Departure → Goal
while_goal e b = goal {I = Item} {A = Arm} {B = Block} {P = Piece} (item.While e b)

abbrev pub for_goal : ForHead → Block → ℕ → Departure → Goal
for_goal head b = goal {I = Item} {A = Arm} {B = Block} {P = Piece} (item.For head b)
