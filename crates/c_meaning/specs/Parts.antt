-- The flow of control in a function: its instructions, the parts of each item, and how control passes
-- from part to part. A part whose instruction is none is excluded by the grammar or the types.
use Rattle.std.specs.Prelude.{ℕ, ◌+◌, ◌==◌, Bool, true, false, pos, List, [], ◌∷◌, ◌++◌, map, option_map, Option, Some, None, if◌then◌else◌}
use Rattle.c_tree.specs.declared.expr.Expr.{Expr, Expr-F, out-Expr}
use Rattle.c_tree.specs.declared.expr.Expr.TheVariants as expr
use Rattle.c_tree.specs.declared.expr.Expr.TheOpen as layer
use Rattle.c_tree.specs.declared.expr.Op.{Op}
use Rattle.c_tree.specs.declared.expr.Op.TheVariants as op
use Rattle.c_tree.specs.declared.program.Item.{Item-F}
use Rattle.c_tree.specs.declared.program.Item.TheOpen as item
use Rattle.c_tree.specs.declared.program.Declr.{Declr}
use Rattle.c_tree.specs.declared.program.Simple.{Simple}
use Rattle.c_tree.specs.declared.program.Start.{Start}
use Rattle.c_tree.specs.declared.program.Start.TheVariants as start
use Rattle.c_tree.specs.declared.program.ForHead.{ForHead}
use Rattle.c_tree.specs.declared.program.Right.{Right}
use Rattle.c_tree.specs.declared.program.Right.TheVariants as right
use Rattle.c_tree.specs.declared.program.Call.{Call}
use Rattle.c_tree.specs.declared.program.Call.TheVariants as call
use Rattle.c_tree.specs.declared.program.Size.{Size}

-- what one step does behind the frees
pub data Instruction : Type 0 where
  -- a declarator without initialiser: the variable is indeterminate (6.7.8p10)
  Unset : (x : ℕ) → Instruction
  -- an assignment, an initialiser or a change by a plain value, and the operator's offset (6.5.16)
  Assign : (place : Expr) (o : Op) (value : Expr) (offset : ℕ) → Instruction
  -- a malloc, the place that gets its answer, and the offset of the word (7.20.3.3)
  Malloc : (place : Option Expr) (size : Size) (offset : ℕ) → Instruction
  -- a getchar and the place that gets its answer (7.19.7.6)
  Getchar : (place : Option Expr) → Instruction
  Putchar : (value : Expr) → Instruction
  Printf : (text : List ℕ) (arguments : List Expr) → Instruction
  -- an atomic test of a condition (6.8.4.1, 6.8.5)
  Test : (e : Expr) → Instruction
  -- a call by its number, the callee, and the variable that gets the result (6.5.2.2)
  Invoke : (number callee : ℕ) (arguments : List Expr) (target : Option ℕ) → Instruction
  -- a return and the offset of its word (6.8.6.4)
  Return : (value : Option Expr) (offset : ℕ) → Instruction
  -- the closing brace of a function and its offset; control goes back from it in main and in functions
  -- without a result
  Close : (goes_back : Bool) (offset : ℕ) → Instruction

-- calls

-- the variable that an expression is
abbrev pub variable_of : {A : Type 0} → Expr-F A → Option ℕ
variable_of (layer.Var x offset) = Some x
variable_of _ = None

-- where a user's call puts its result: nowhere or into a variable, and the types exclude other places
abbrev pub target_of : Option Expr → Option (Option ℕ)
target_of None = Some None
target_of (Some e) = option_map (λ x. Some x) (variable_of (out-Expr e))

-- a call for the place that gets its result; the types exclude printf and putchar where there is one
abbrev pub called : Option Expr → Call → Option Instruction
called place (call.User number callee arguments offset) = option_map (λ t. Invoke number callee arguments t) (target_of place)
called place (call.Malloc size offset) = Some (Malloc place size offset)
called place (call.Getchar offset) = Some (Getchar place)
called None (call.Putchar e offset) = Some (Putchar e)
called None (call.Printf text arguments offset) = Some (Printf text arguments)
called (Some place) (call.Putchar e offset) = None
called (Some place) (call.Printf text arguments offset) = None

-- the grammar excludes a change by a call, as in `x += f()`
abbrev pub put_call : Op → Expr → Call → Option Instruction
put_call op.Put place c = called (Some place) c
put_call op.Add place c = None
put_call op.Sub place c = None
put_call op.Mul place c = None

-- an assignment or a change (6.5.16)
abbrev pub assigned : Simple → Right → Option Instruction
assigned s (right.Plain e) = Some (Assign s.place s.op e s.at)
assigned s (right.Call c) = put_call s.op s.place c

-- a declarator (6.7.8)
abbrev pub declared : Declr → Option Right → Option Instruction
declared d None = Some (Unset d.var)
declared d (Some (right.Plain e)) = Some (Assign (expr.Var d.var d.at) op.Put e d.at)
declared d (Some (right.Call c)) = called (Some (expr.Var d.var d.at)) c

-- what stands before the first `;` of a for (6.8.5.3)
abbrev pub started : Start → Option Instruction
started (start.Declare d) = declared d d.right
started (start.Assign s) = assigned s s.right

-- a return; of a call it is two actions, the call into the function's nameless slot and the return of that
abbrev pub returned : Option ℕ → Option Right → ℕ → List (Option Instruction)
returned slot None offset = Some (Return None offset) ∷ []
returned slot (Some (right.Plain e)) offset = Some (Return (Some e) offset) ∷ []
returned slot (Some (right.Call c)) offset =
    let place : Option Expr = option_map (λ x. expr.Var x offset) slot in
    called place c ∷ Some (Return place offset) ∷ []

-- the parts of items

-- what an item consists of; B stands for a block
pub data Part (B : Type 0) : Type 0 where
  -- one action
  One : (a : Option Instruction) → Part B
  -- actions one after another
  Row : (row : List (Option Instruction)) → Part B
  -- a condition, taken apart into its atomic tests
  Condition : (e : Expr) → Part B
  -- a block
  Within : (b : B) → Part B

-- an absent condition is the constant 1 (6.8.5.3p2)
abbrev pub condition_of : Option Expr → Expr
condition_of None = expr.Const (pos 1) 0
condition_of (Some e) = e

-- the step of a for, if there is one (6.8.5.3)
abbrev pub last_row : Option Simple → List (Option Instruction)
last_row None = []
last_row (Some s) = assigned s s.right ∷ []

-- an arm is a condition and a block (6.8.4.1)
abbrev pub arm_parts : {A B : Type 0} → (A → Expr) → (A → B) → List A → List (Part B)
arm_parts test body [] = []
arm_parts test body (a ∷ arms) = Condition (test a) ∷ Within (body a) ∷ arm_parts test body arms

-- the block of a last else, if there is one (6.8.4.1)
abbrev pub else_parts : {B : Type 0} → Option B → List (Part B)
else_parts None = []
else_parts (Some b) = Within b ∷ []

-- the parts of an item in the order of the text; `test` and `body` are those of an arm, `slot` is that of
-- the result
abbrev pub parts : {I A B P : Type 0} → (A → Expr) → (A → B) → Option ℕ → Item-F I A B P → List (Part B)
parts test body slot (item.Declare ds) = map (λ d. One (declared d d.right)) ds
parts test body slot (item.Assign s) = One (assigned s s.right) ∷ []
parts test body slot (item.Do c) = One (called None c) ∷ []
parts test body slot (item.Nest b) = Within b ∷ []
parts test body slot (item.If arms otherwise) = arm_parts test body arms ++ else_parts otherwise
parts test body slot (item.While e b) = Condition e ∷ Within b ∷ []
parts test body slot (item.For head b) = Row (map started head.start) ∷ Condition (condition_of head.test) ∷ Row (last_row head.step) ∷ Within b ∷ []
parts test body slot item.Break = []
parts test body slot item.Continue = []
parts test body slot (item.Return value offset) = map (λ a. One a) (returned slot value offset)

-- how control leaves a part
pub data Departure : Type 0 where
  -- to what follows the part
  Through : Departure
  -- a condition, with what it says
  Found : (b : Bool) → Departure
  -- by a break or a continue, which the loop around it takes (6.8.6.2, 6.8.6.3)
  Broken : Departure
  Continued : Departure
  -- nothing stands there
  Lost : Departure

-- where control goes on in an item: at a part, behind the item where it has no such part; or out of it
pub data Goal : Type 0 where
  Into : (k : ℕ) → Goal
  Out : (d : Departure) → Goal

-- a for without a first part begins with its condition
abbrev pub first_part : ForHead → List Start → Goal
first_part head [] = Into 1
first_part head (s ∷ ss) = Into 0

-- behind the body of a for comes its step, or its condition
abbrev pub step_part : Option Simple → Goal
step_part None = Into 1
step_part (Some s) = Into 2

-- where an item is entered
abbrev pub entry : {I A B P : Type 0} → Item-F I A B P → Goal
entry (item.For head body) = first_part head head.start
entry item.Break = Out Broken
entry item.Continue = Out Continued
entry _ = Into 0

-- behind part k of a for that is no condition: behind its body comes the step
abbrev pub behind_for : ForHead → ℕ → Goal
behind_for head k = if k == 3 then step_part head.step else Into 1

-- where control goes on when it leaves part k of an item (6.8.2 to 6.8.6)
abbrev pub goal : {I A B P : Type 0} → Item-F I A B P → ℕ → Departure → Goal
goal (item.Declare ds) k Through = Into (k + 1)
goal (item.Return value offset) k Through = Into (k + 1)
goal (item.If arms otherwise) k (Found true) = Into (k + 1)
goal (item.If arms otherwise) k (Found false) = Into (k + 2)
goal (item.While test body) k (Found true) = Into 1
goal (item.While test body) k (Found false) = Out Through
goal (item.While test body) k Through = Into 0
goal (item.While test body) k Continued = Into 0
goal (item.While test body) k Broken = Out Through
goal (item.For head body) k (Found true) = Into 3
goal (item.For head body) k (Found false) = Out Through
goal (item.For head body) k Through = behind_for head k
goal (item.For head body) k Continued = step_part head.step
goal (item.For head body) k Broken = Out Through
goal i k d = Out d
