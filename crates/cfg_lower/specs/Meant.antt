-- What the interpreter's forms stand for in the definitions: the same with expressions, blocks and
-- gaps in place of references to them.
use Rattle.std.specs.Prelude.{ℕ, pos, List, map, option_map, Option}
use Rattle.c_tree.specs.declared.expr.Expr.{Expr}
use Rattle.c_tree.specs.declared.expr.Expr.TheVariants as expr
use Rattle.c_tree.specs.declared.program.Block.{Block}
use Rattle.c_meaning.specs.Parts as tree
use Rattle.c_meaning.specs.Parts.{started, last_row}
use Rattle.c_meaning.specs.Place as place
use Rattle.cfg_lower.specs.declared.forms.Operand.{Operand}
use Rattle.cfg_lower.specs.declared.forms.Operand.TheVariants as operand
use Rattle.cfg_lower.specs.declared.forms.Deed.{Deed}
use Rattle.cfg_lower.specs.declared.forms.Deed.TheVariants as deed
use Rattle.cfg_lower.specs.declared.forms.Instruction.{Instruction}
use Rattle.cfg_lower.specs.declared.forms.Instruction.TheVariants as instruction
use Rattle.cfg_lower.specs.declared.forms.Row.{Row}
use Rattle.cfg_lower.specs.declared.forms.Row.TheVariants as row
use Rattle.cfg_lower.specs.declared.forms.Part.{Part}
use Rattle.cfg_lower.specs.declared.forms.Part.TheVariants as part
use Rattle.cfg_lower.specs.declared.forms.Spot.{Spot}
use Rattle.cfg_lower.specs.declared.forms.Spot.TheVariants as spot
use Rattle.cfg_lower.specs.declared.forms.Departure.{Departure}
use Rattle.cfg_lower.specs.declared.forms.Departure.TheVariants as departure
use Rattle.cfg_lower.specs.declared.forms.Goal.{Goal}
use Rattle.cfg_lower.specs.declared.forms.Goal.TheVariants as goal
use Rattle.cfg_lower.specs.declared.forms.Onward.{Onward}
use Rattle.cfg_lower.specs.declared.forms.Onward.TheVariants as onward

abbrev pub expr_of : Operand → Expr
expr_of (operand.Written e) = e.now
expr_of (operand.Variable x offset) = expr.Var x offset
expr_of operand.One = expr.Const (pos 1) 0

-- a variable as an expression, at an offset
abbrev pub variable_at : ℕ → ℕ → Expr
variable_at offset x = expr.Var x offset

abbrev pub deed_of : Deed → tree.Instruction
deed_of (deed.Unset x) = tree.Unset x
deed_of (deed.Assign place o e offset) = tree.Assign (expr_of place) o e.now offset
deed_of (deed.Malloc place size offset) = tree.Malloc (option_map expr_of place) size.now offset
deed_of (deed.Getchar place) = tree.Getchar (option_map expr_of place)
deed_of (deed.Putchar e) = tree.Putchar e.now
deed_of (deed.Printf text arguments) = tree.Printf text.now arguments.now

abbrev pub instruction_of : Instruction → tree.Instruction
instruction_of (instruction.Plain d) = deed_of d
instruction_of (instruction.Test e) = tree.Test (expr_of e)
instruction_of (instruction.Invoke number callee arguments target) = tree.Invoke number callee arguments.now target
instruction_of (instruction.Return value offset) = tree.Return (option_map expr_of value) offset
instruction_of (instruction.Close goes_back offset) = tree.Close goes_back offset

-- an action that may be excluded
abbrev pub action_of : Option Instruction → Option tree.Instruction
action_of = option_map instruction_of

abbrev pub actions_of : Row → List (Option tree.Instruction)
actions_of (row.Starts starts) = map started starts.now
actions_of (row.Step s) = last_row s.now

abbrev pub part_of : Part → tree.Part Block
part_of (part.One a) = tree.One (action_of a)
part_of (part.Row r) = tree.Row (actions_of r)
part_of (part.Condition e) = tree.Condition (expr_of e)
part_of (part.Within b) = tree.Within b.now

abbrev pub spot_of : Spot → place.Spot
spot_of (spot.AtGap g) = place.AtGap g.now
spot_of (spot.AtAction a) = place.AtAction (instruction_of a)
spot_of spot.Nowhere = place.Nowhere

abbrev pub departure_of : Departure → tree.Departure
departure_of departure.Through = tree.Through
departure_of (departure.Found b) = tree.Found b
departure_of departure.Broken = tree.Broken
departure_of departure.Continued = tree.Continued
departure_of departure.Lost = tree.Lost

abbrev pub goal_of : Goal → tree.Goal
goal_of (goal.Into k) = tree.Into k
goal_of (goal.Out d) = tree.Out (departure_of d)

abbrev pub onward_of : Onward → place.Onward
onward_of (onward.To path) = place.To path
onward_of (onward.By d) = place.By (departure_of d)
