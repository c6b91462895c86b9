-- The calls of users' functions in a program, in the order of the text.
use Rattle.std.specs.Prelude.{ℕ, ◌+◌, List, [], ◌∷◌, ◌++◌, Option, None, Some}
use Rattle.std.specs.List.{flat_map}
use Rattle.c_tree.specs.declared.program.Arm.{Arm, Arm-F, fold-Arm}
use Rattle.c_tree.specs.declared.program.Block.{Block, Block-F, fold-Block}
use Rattle.c_tree.specs.declared.program.Call.{Call}
use Rattle.c_tree.specs.declared.program.Call.TheVariants as call
use Rattle.c_tree.specs.declared.program.Declr.{Declr}
use Rattle.c_tree.specs.declared.program.ForHead.{ForHead}
use Rattle.c_tree.specs.declared.program.FunDef.{FunDef}
use Rattle.c_tree.specs.declared.program.Item.{Item, Item-F, fold-Item}
use Rattle.c_tree.specs.declared.program.Item.TheOpen.{Declare, Assign, Do, Nest, If, While, For, Break, Continue, Return}
use Rattle.c_tree.specs.declared.program.Piece.{Piece, Piece-F, fold-Piece}
use Rattle.c_tree.specs.declared.program.Program.{Program}
use Rattle.c_tree.specs.declared.program.Right.{Right}
use Rattle.c_tree.specs.declared.program.Right.TheVariants as right
use Rattle.c_tree.specs.declared.program.Simple.{Simple}
use Rattle.c_tree.specs.declared.program.Start.{Start}
use Rattle.c_tree.specs.declared.program.Start.TheVariants as start
use Rattle.c_tree.specs.declared.control.UserCall.{UserCall}

abbrev pub from_option : {A : Type 0} → (A → List UserCall) → Option A → List UserCall
from_option f None = []
from_option f (Some x) = f x

abbrev pub call_calls : ℕ → Call → List UserCall
call_calls f (call.User n g xs at) = record { number = n; caller = f; callee = g; at = at } ∷ []
call_calls f (call.Malloc s at) = []
call_calls f (call.Getchar at) = []
call_calls f (call.Putchar e at) = []
call_calls f (call.Printf text xs at) = []

abbrev pub right_calls : ℕ → Right → List UserCall
right_calls f (right.Plain e) = []
right_calls f (right.Call c) = call_calls f c

abbrev pub declr_calls : ℕ → Declr → List UserCall
declr_calls f d = from_option (right_calls f) d.right

abbrev pub simple_calls : ℕ → Simple → List UserCall
simple_calls f s = right_calls f s.right

abbrev pub start_calls : ℕ → Start → List UserCall
start_calls f (start.Declare d) = declr_calls f d
start_calls f (start.Assign s) = simple_calls f s

abbrev pub head_calls : ℕ → ForHead → List UserCall
head_calls f h = flat_map (start_calls f) h.start ++ from_option (simple_calls f) h.step

abbrev pub Here : Type 0
Here = List UserCall

abbrev pub item_calls : ℕ → Item-F Here Here Here Here → Here
item_calls f (Declare ds) = flat_map (declr_calls f) ds
item_calls f (Assign s) = simple_calls f s
item_calls f (Do c) = call_calls f c
item_calls f (Nest b) = b
item_calls f (If arms last) = flat_map (λ c. c) arms ++ from_option (λ b. b) last
item_calls f (While e b) = b
item_calls f (For h b) = head_calls f h ++ b
item_calls f Break = []
item_calls f Continue = []
item_calls f (Return r at) = from_option (right_calls f) r

abbrev pub arm_calls : Arm-F Here Here Here Here → Here
arm_calls a = a.body

abbrev pub block_calls : Block-F Here Here Here Here → Here
block_calls b = flat_map (λ c. c) b.items

abbrev pub piece_calls : Piece-F Here Here Here Here → Here
piece_calls p = p.item

-- the calls in the body of function f
abbrev pub calls_in : ℕ → Block → List UserCall
calls_in f = fold-Block Here Here Here Here (item_calls f) arm_calls block_calls piece_calls

abbrev pub calls_from : ℕ → List FunDef → List UserCall
calls_from f [] = []
calls_from f (d ∷ ds) = calls_in f d.body ++ calls_from (f + 1) ds

abbrev pub user_calls : Program → List UserCall
user_calls p = calls_from 0 p.funs

abbrev pub piece_calls_in : ℕ → Piece → Here
piece_calls_in f = fold-Piece Here Here Here Here (item_calls f) arm_calls block_calls piece_calls

abbrev pub item_calls_in : ℕ → Item → Here
item_calls_in f = fold-Item Here Here Here Here (item_calls f) arm_calls block_calls piece_calls

abbrev pub arm_calls_in : ℕ → Arm → Here
arm_calls_in f = fold-Arm Here Here Here Here (item_calls f) arm_calls block_calls piece_calls
