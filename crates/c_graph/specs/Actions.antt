-- The actions of nodes, and the instructions that they are.
use Rattle.std.specs.Prelude.{true, Option, None, Some}
use Rattle.c_tree.specs.declared.program.Right.TheVariants as right
use Rattle.c_meaning.specs.Parts.{Instruction, Unset, Assign, Malloc, Getchar, Putchar, Printf, Test, Invoke, Return, Close, assigned}
use Rattle.c_graph.specs.declared.graph.Action.{Action}
use Rattle.c_graph.specs.declared.graph.Action.TheVariants as action

-- an instruction as the action of a node: edges say where a call leads and where its result goes, and exits have the offsets
-- of returns
abbrev pub action_of : Instruction → Action
action_of (Unset x) = action.Unset x
action_of (Assign place o value offset) = action.Assign (record { place = place; op = o; right = right.Plain value; at = offset })
action_of (Malloc place size offset) = action.Malloc place size offset
action_of (Getchar place) = action.Getchar place
action_of (Putchar value) = action.Putchar value
action_of (Printf text arguments) = action.Printf text arguments
action_of (Test e) = action.Test e
action_of (Invoke number callee arguments target) = action.Call callee arguments
action_of (Return value offset) = action.Return value
action_of (Close goes_back offset) = action.Close

-- what an action does; no instruction looks at the numbers that an action has not. An assignment of a call is no action
abbrev pub instruction_of : Action → Option Instruction
instruction_of (action.Unset x) = Some (Unset x)
instruction_of (action.Assign s) = assigned s s.right
instruction_of (action.Malloc place size offset) = Some (Malloc place size offset)
instruction_of (action.Getchar place) = Some (Getchar place)
instruction_of (action.Putchar value) = Some (Putchar value)
instruction_of (action.Printf text arguments) = Some (Printf text arguments)
instruction_of (action.Test e) = Some (Test e)
instruction_of (action.Call callee arguments) = Some (Invoke 0 callee arguments None)
instruction_of (action.Return value) = Some (Return value 0)
instruction_of action.Close = Some (Close true 0)
