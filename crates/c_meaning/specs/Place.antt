-- The places of a function: its gaps and its actions, by their paths, and what follows each.
use Rattle.std.specs.Prelude.{ℕ, zero, suc, ◌+◌, ◌-◌, nat_lt, ◌==◌, Bool, true, false, not, List, [], ◌∷◌, ◌++◌, map, length, slice_get, option_map, Option, Some, None, if◌then◌else◌}
use Rattle.std.specs.Option.{option_and_then}
use Rattle.c_tree.specs.declared.expr.Expr.{Expr, Expr-F, out-Expr, fold-Expr}
use Rattle.c_tree.specs.declared.expr.Expr.TheOpen.{Unary, Binary}
use Rattle.c_tree.specs.declared.expr.Sign.TheVariants as sign
use Rattle.c_tree.specs.declared.expr.Oper.TheVariants as oper
use Rattle.c_tree.specs.declared.program.Ty.{Ty}
use Rattle.c_tree.specs.declared.program.Home.{Home}
use Rattle.c_tree.specs.declared.program.Home.TheVariants as home
use Rattle.c_tree.specs.declared.program.VarDef.{VarDef}
use Rattle.c_tree.specs.declared.program.Block.{Block, Block-F, out-Block, fold-Block}
use Rattle.c_tree.specs.declared.program.Piece.{Piece, Piece-F, out-Piece}
use Rattle.c_tree.specs.declared.program.Item.{Item, Item-F, out-Item}
use Rattle.c_tree.specs.declared.program.Arm.{Arm, Arm-F, out-Arm}
use Rattle.c_tree.specs.declared.program.Gap.{Gap}
use Rattle.c_tree.specs.declared.program.FunDef.{FunDef}
use Rattle.c_tree.specs.declared.program.Program.{Program}
use Rattle.c_meaning.specs.Parts.{Instruction, Test, Close, Part, One, Row, Condition, Within, parts, Departure, Through, Found, Lost, Goal, Into, Out, entry, goal}

-- what stands at a place
pub data Spot : Type 0 where
  AtGap : (g : Gap) → Spot
  AtAction : (a : Instruction) → Spot
  -- no place, or one that the grammar or the types exclude
  Nowhere : Spot

-- what follows a place: another place of the same part or block, or how control leaves that
pub data Onward : Type 0 where
  To : (path : List ℕ) → Onward
  By : (d : Departure) → Onward

-- conditions: a condition is taken apart at !, && and || (6.5.3.3, 6.5.13, 6.5.14)

-- an operand that is a condition of its own
abbrev pub operand : ℕ → Expr-F Expr → Option Expr
operand zero (Unary sign.Not e offset) = Some e
operand zero (Binary oper.And a b offset) = Some a
operand (suc zero) (Binary oper.And a b offset) = Some b
operand zero (Binary oper.Or a b offset) = Some a
operand (suc zero) (Binary oper.Or a b offset) = Some b
operand _ _ = None

-- a condition that is no !, && or ||
abbrev pub atomic : Expr → Expr-F Expr → Option Expr
atomic e (Unary sign.Not a offset) = None
atomic e (Binary oper.And a b offset) = None
atomic e (Binary oper.Or a b offset) = None
atomic e _ = Some e

-- the atomic test at the end of a way down a condition
abbrev pub test_at : List ℕ → Expr → Option Expr
test_at [] e = atomic e (out-Expr e)
test_at (k ∷ path) e = option_and_then (test_at path) (operand k (out-Expr e))

-- the ways down to all atomic tests, in the order of the text
abbrev pub tests_layer : Expr-F (List (List ℕ)) → List (List ℕ)
tests_layer (Unary sign.Not ps offset) = map (λ p. 0 ∷ p) ps
tests_layer (Binary oper.And ps qs offset) = map (λ p. 0 ∷ p) ps ++ map (λ p. 1 ∷ p) qs
tests_layer (Binary oper.Or ps qs offset) = map (λ p. 0 ∷ p) ps ++ map (λ p. 1 ∷ p) qs
tests_layer _ = [] ∷ []

abbrev pub tests_of : Expr → List (List ℕ)
tests_of = fold-Expr (List (List ℕ)) tests_layer

-- the way down to the first of them
abbrev pub first_layer : Expr-F (List ℕ) → List ℕ
first_layer (Unary sign.Not p offset) = 0 ∷ p
first_layer (Binary oper.And p q offset) = 0 ∷ p
first_layer (Binary oper.Or p q offset) = 0 ∷ p
first_layer _ = []

abbrev pub first_test : Expr → List ℕ
first_test = fold-Expr (List ℕ) first_layer

-- behind an operand that says b: the other operand, where that decides, else what the condition says
abbrev pub decided : ℕ → Expr-F Expr → Bool → Onward
decided k (Unary sign.Not e offset) b = By (Found (not b))
decided zero (Binary oper.And a b offset) true = To (1 ∷ first_test b)
decided zero (Binary oper.Or a b offset) false = To (1 ∷ first_test b)
decided k (Binary oper.And a b offset) said = By (Found said)
decided k (Binary oper.Or a b offset) said = By (Found said)
decided _ _ _ = By Lost

-- behind an operand, from what became of it
abbrev pub behind_operand : ℕ → Expr-F Expr → Onward → Onward
behind_operand k e (To path) = To (k ∷ path)
behind_operand k e (By (Found b)) = decided k e b
behind_operand k e (By d) = By d

-- an operand that is no condition has no test
abbrev pub within_operand : (Expr → Onward) → Option Expr → Onward
within_operand inner None = By Lost
within_operand inner (Some e) = inner e

-- behind the test at a way down a condition, where it says b
abbrev pub behind_test : List ℕ → Bool → Expr → Onward
behind_test [] b e = By (Found b)
behind_test (k ∷ path) b e = behind_operand k (out-Expr e) (within_operand (behind_test path b) (operand k (out-Expr e)))

-- blocks

-- the condition of an arm
abbrev pub arm_test : Arm → Expr
arm_test a = (out-Arm a).test

-- the block of an arm
abbrev pub arm_body : Arm → Block
arm_body a = (out-Arm a).body

-- the item behind a gap of a block; none behind the last gap
abbrev pub item_at : Block → ℕ → Option (Item-F Item Arm Block Piece)
item_at b i = option_map (λ p. out-Item (out-Piece p).item) (slice_get (out-Block b).items i)

-- part k of an item
abbrev pub part_of : Option ℕ → ℕ → Item-F Item Arm Block Piece → Option (Part Block)
part_of slot k i = slice_get (parts arm_test arm_body slot i) k

-- part k of item i of a block
abbrev pub part_at : Option ℕ → Block → ℕ → ℕ → Option (Part Block)
part_at slot b i k = option_and_then (part_of slot k) (item_at b i)

-- what stands there

-- the last gap of a block comes behind all items
abbrev pub gap_at : Block → ℕ → Option Piece → Spot
gap_at b i (Some p) = AtGap (out-Piece p).gap
gap_at b i None = if i == length (out-Block b).items then AtGap (out-Block b).last_gap else Nowhere

-- an instruction, or none where it is excluded
abbrev pub instruction_spot : Option Instruction → Spot
instruction_spot (Some a) = AtAction a
instruction_spot None = Nowhere

-- an instruction of a row
abbrev pub row_spot : Option (Option Instruction) → Spot
row_spot (Some a) = instruction_spot a
row_spot None = Nowhere

-- an atomic test
abbrev pub test_spot : Option Expr → Spot
test_spot (Some e) = AtAction (Test e)
test_spot None = Nowhere

-- `inner` says what stands in a block at the rest of the path
abbrev pub spot_in : (Block → Spot) → List ℕ → Option (Part Block) → Spot
spot_in inner [] (Some (One a)) = instruction_spot a
spot_in inner (k ∷ []) (Some (Row row)) = row_spot (slice_get row k)
spot_in inner path (Some (Condition e)) = test_spot (test_at path e)
spot_in inner path (Some (Within b)) = inner b
spot_in inner path _ = Nowhere

-- what stands at a path in a block
abbrev pub spot_of : Option ℕ → List ℕ → Block → Spot
spot_of slot [] b = Nowhere
spot_of slot (i ∷ []) b = gap_at b i (slice_get (out-Block b).items i)
spot_of slot (i ∷ k ∷ path) b = spot_in (spot_of slot path) path (part_at slot b i k)

-- what follows

-- the first place of a part
abbrev pub first_place : Part Block → List ℕ
first_place (One a) = []
first_place (Row row) = 0 ∷ []
first_place (Condition e) = first_test e
first_place (Within b) = 0 ∷ []

-- part k of item i, or the gap behind the item where there is none
abbrev pub entered : ℕ → ℕ → Option (Part Block) → Onward
entered i k (Some part) = To (i ∷ k ∷ first_place part)
entered i k None = To ((i + 1) ∷ [])

-- behind an item comes the next gap
abbrev pub departed : ℕ → Departure → Onward
departed i Through = To ((i + 1) ∷ [])
departed i d = By d

-- the place where control goes on in or behind item i
abbrev pub reached : Option ℕ → ℕ → Item-F Item Arm Block Piece → Goal → Onward
reached slot i item (Into k) = entered i k (part_of slot k item)
reached slot i item (Out d) = departed i d

-- behind a gap its item is entered; behind the last gap the block is left
abbrev pub behind_gap : Option ℕ → ℕ → Option (Item-F Item Arm Block Piece) → Onward
behind_gap slot i None = By Through
behind_gap slot i (Some item) = reached slot i item (entry item)

-- behind part k of item i, from what became of it
abbrev pub behind_part : Option ℕ → ℕ → ℕ → Onward → Item-F Item Arm Block Piece → Onward
behind_part slot i k (To path) item = To (i ∷ k ∷ path)
behind_part slot i k (By d) item = reached slot i item (goal item k d)

-- the same, where there is such an item
abbrev pub behind_item : Option ℕ → ℕ → ℕ → Onward → Option (Item-F Item Arm Block Piece) → Onward
behind_item slot i k o None = By Lost
behind_item slot i k o (Some item) = behind_part slot i k o item

-- the next action of a row
abbrev pub behind_in_row : ℕ → ℕ → Onward
behind_in_row k count = if nat_lt (k + 1) count then To ((k + 1) ∷ []) else By Through

-- behind a test, by what it says
abbrev pub behind_atom : List ℕ → Option Bool → Expr → Onward
behind_atom path None e = By Lost
behind_atom path (Some b) e = behind_test path b e

-- behind a place in a part; `said` is what a test says, and `inner` goes on in a block
abbrev pub next_in : (Block → Onward) → List ℕ → Option Bool → Option (Part Block) → Onward
next_in inner [] said (Some (One a)) = By Through
next_in inner (k ∷ []) said (Some (Row row)) = behind_in_row k (length row)
next_in inner path said (Some (Condition e)) = behind_atom path said e
next_in inner path said (Some (Within b)) = inner b
next_in inner path said _ = By Lost

-- what follows a path in a block
abbrev pub next : Option ℕ → Option Bool → List ℕ → Block → Onward
next slot said [] b = By Lost
next slot said (i ∷ []) b = behind_gap slot i (item_at b i)
next slot said (i ∷ k ∷ path) b = behind_item slot i k (next_in (next slot said path) path said (part_at slot b i k)) (item_at b i)

-- functions

-- the nameless slot of a function's result: the variable of that home
abbrev pub is_result : ℕ → Home → Bool
is_result f (home.Result g) = g == f
is_result f (home.Global n) = false
is_result f (home.Param g) = false
is_result f (home.Local g) = false

-- the first of these variables that is, numbered from x on
abbrev pub slot_from : ℕ → ℕ → List VarDef → Option ℕ
slot_from f x [] = None
slot_from f x (v ∷ vs) = if is_result f v.home then Some x else slot_from f (x + 1) vs

-- the nameless slot of function f, if it has a result
abbrev pub result_slot : Program → ℕ → Option ℕ
result_slot p f = slot_from f 0 p.vars

-- a function's closing brace comes behind its last gap
abbrev pub brace_of : Block → ℕ
brace_of b = length (out-Block b).items + 1

-- control goes back from the brace of main and of a function without a result; in others the types
-- exclude that it comes there (6.9.1p12)
abbrev pub goes_back : Program → ℕ → Option Ty → Bool
goes_back p f None = true
goes_back p f (Some t) = f == p.main

-- the closing brace as an instruction
abbrev pub closing : Program → ℕ → FunDef → Instruction
closing p f d = Close (goes_back p f d.result) ((out-Block d.body).end - 1)

-- what stands at a path in function f
abbrev pub spot_or_brace : Program → ℕ → FunDef → List ℕ → Spot
spot_or_brace p f d (i ∷ []) = if i == brace_of d.body then AtAction (closing p f d) else spot_of (result_slot p f) (i ∷ []) d.body
spot_or_brace p f d path = spot_of (result_slot p f) path d.body

-- what stands at a path in function f; nothing where there is no such function
abbrev pub spot_in_fun : Program → ℕ → Option FunDef → List ℕ → Spot
spot_in_fun p f None path = Nowhere
spot_in_fun p f (Some d) path = spot_or_brace p f d path

-- behind the last gap of the body comes the brace; no path where control is lost
abbrev pub onward_path : Block → Onward → List ℕ
onward_path b (To path) = path
onward_path b (By Through) = brace_of b ∷ []
onward_path b (By d) = []

-- what follows a path in function f
abbrev pub next_in_fun : Program → ℕ → Option FunDef → Option Bool → List ℕ → List ℕ
next_in_fun p f None said path = []
next_in_fun p f (Some d) said path = onward_path d.body (next (result_slot p f) said path d.body)

-- all places of a function, in the order of the text

-- each list of paths below its number, from k on
abbrev pub numbered : ℕ → List (List (List ℕ)) → List (List ℕ)
numbered k [] = []
numbered k (ps ∷ pss) = map (λ p. k ∷ p) ps ++ numbered (k + 1) pss

-- the place of an instruction, unless it is excluded
abbrev pub instruction_places : Option Instruction → List (List ℕ)
instruction_places (Some a) = [] ∷ []
instruction_places None = []

-- the places of a part
abbrev pub places_in : Part (List (List ℕ)) → List (List ℕ)
places_in (One a) = instruction_places a
places_in (Row row) = numbered 0 (map instruction_places row)
places_in (Condition e) = tests_of e
places_in (Within ps) = ps

-- the places of an item below its parts
abbrev pub item_places : Option ℕ → Item-F (List (List ℕ)) (Expr × List (List ℕ)) (List (List ℕ)) (List (List ℕ)) → List (List ℕ)
item_places slot i = numbered 0 (map places_in (parts (λ a. a.0) (λ a. a.1) slot i))

-- the places of an arm: its condition, and those of its block
abbrev pub arm_places : Arm-F (List (List ℕ)) (Expr × List (List ℕ)) (List (List ℕ)) (List (List ℕ)) → Expr × List (List ℕ)
arm_places a = (a.test, a.body)

-- the places of a block: of each piece, and the last gap
abbrev pub block_places : Block-F (List (List ℕ)) (Expr × List (List ℕ)) (List (List ℕ)) (List (List ℕ)) → List (List ℕ)
block_places b = numbered 0 (b.items ++ (([] ∷ []) ∷ []))

-- a gap comes before its item
abbrev pub piece_places : Piece-F (List (List ℕ)) (Expr × List (List ℕ)) (List (List ℕ)) (List (List ℕ)) → List (List ℕ)
piece_places p = [] ∷ p.item

-- the places of a block
abbrev pub places_of : Option ℕ → Block → List (List ℕ)
places_of slot = fold-Block (List (List ℕ)) (Expr × List (List ℕ)) (List (List ℕ)) (List (List ℕ)) (item_places slot) arm_places block_places piece_places

-- the places of a function
abbrev pub places_in_fun : Program → ℕ → FunDef → List (List ℕ)
places_in_fun p f d = places_of (result_slot p f) d.body ++ ((brace_of d.body ∷ []) ∷ [])
