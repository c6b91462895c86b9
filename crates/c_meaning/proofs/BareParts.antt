-- The instructions and parts of items without offsets, and how control enters and leaves them.
use Rattle.std.proofs.Common.{◌≡◌, ℕ, true, false, ◌==◌, pos, List, [], ◌∷◌, ◌++◌, map, Option, Some, None, option_map, refl, ap, sym, ◌∙◌}
use Rattle.std.specs.Prelude.{if◌then◌else◌}
use Rattle.std.proofs.lemmas.List.{map-append}
use Rattle.c_tree.specs.Alike.{bare_expr, bare_size, bare_call, bare_right, bare_declr, bare_simple, bare_start, bare_head, bare_item}
use Rattle.c_tree.proofs.Rebuilds.{Maps, in_item}
use Rattle.c_tree.proofs.Alikes.{bare_variable}
use Rattle.c_tree.specs.declared.expr.Expr.{Expr, Expr-F, out-Expr}
use Rattle.c_tree.specs.declared.expr.Expr.TheVariants as expr
use Rattle.c_tree.specs.declared.expr.Expr.TheOpen as layer
use Rattle.c_tree.specs.declared.expr.Op.{Op}
use Rattle.c_tree.specs.declared.expr.Op.TheVariants as op
use Rattle.c_tree.specs.declared.program.Block.{Block}
use Rattle.c_tree.specs.declared.program.Piece.{Piece}
use Rattle.c_tree.specs.declared.program.Item.{Item, Item-F}
use Rattle.c_tree.specs.declared.program.Item.TheOpen as item
use Rattle.c_tree.specs.declared.program.Arm.{Arm}
use Rattle.c_tree.specs.declared.program.Declr.{Declr}
use Rattle.c_tree.specs.declared.program.Simple.{Simple}
use Rattle.c_tree.specs.declared.program.Start.{Start}
use Rattle.c_tree.specs.declared.program.Start.TheVariants as start
use Rattle.c_tree.specs.declared.program.ForHead.{ForHead}
use Rattle.c_tree.specs.declared.program.Right.{Right}
use Rattle.c_tree.specs.declared.program.Right.TheVariants as right
use Rattle.c_tree.specs.declared.program.Call.{Call}
use Rattle.c_tree.specs.declared.program.Call.TheVariants as call
use Rattle.c_meaning.specs.Parts.{Instruction, Unset, Assign, Malloc, Getchar, Putchar, Printf, Test, Invoke, Return, Close, variable_of, target_of, called, put_call, assigned, declared, started, returned, Part, One, Row, Condition, Within, condition_of, last_row, arm_parts, else_parts, parts, Departure, Through, Found, Continued, Goal, Into, first_part, step_part, entry, goal}
use Rattle.c_meaning.proofs.Opened.{bared, bare_rolled, bare_out}

-- an instruction, and a part, without offsets

abbrev pub bare_instruction : Instruction → Instruction
bare_instruction (Unset x) = Unset x
bare_instruction (Assign place o e offset) = Assign (bare_expr place) o (bare_expr e) 0
bare_instruction (Malloc place size offset) = Malloc (option_map bare_expr place) (bare_size size) 0
bare_instruction (Getchar place) = Getchar (option_map bare_expr place)
bare_instruction (Putchar e) = Putchar (bare_expr e)
bare_instruction (Printf text arguments) = Printf text (map bare_expr arguments)
bare_instruction (Test e) = Test (bare_expr e)
bare_instruction (Invoke number callee arguments target) = Invoke number callee (map bare_expr arguments) target
bare_instruction (Return value offset) = Return (option_map bare_expr value) 0
bare_instruction (Close goes_back offset) = Close goes_back 0

abbrev pub bare_action : Option Instruction → Option Instruction
bare_action = option_map bare_instruction

-- a part with functions on its instructions, its condition and its block
abbrev pub mapped_part : {B C : Type 0} → (Instruction → Instruction) → (Expr → Expr) → (B → C) → Part B → Part C
mapped_part instruction expr f (One a) = One (option_map instruction a)
mapped_part instruction expr f (Row row) = Row (map (option_map instruction) row)
mapped_part instruction expr f (Condition e) = Condition (expr e)
mapped_part instruction expr f (Within b) = Within (f b)

abbrev pub bare_part : {B C : Type 0} → (B → C) → Part B → Part C
bare_part = mapped_part bare_instruction bare_expr

-- the actions

variable_layer : (l : Expr-F Expr) → variable_of (bared l) ≡ variable_of l
variable_layer (layer.Var x offset) = refl
variable_layer _ = refl

target_bare : (place : Option Expr) → target_of (option_map bare_expr place) ≡ target_of place
target_bare None = refl
target_bare (Some e) = ap (λ (x : Option ℕ). option_map (λ x. Some x) x) (ap variable_of (bare_out e) ∙ variable_layer (out-Expr e))

invoke_bare : (number callee : ℕ) (arguments : List Expr) (t : Option (Option ℕ)) →
    option_map (λ t. Invoke number callee (map bare_expr arguments) t) t ≡ bare_action (option_map (λ t. Invoke number callee arguments t) t)
invoke_bare number callee arguments None = refl
invoke_bare number callee arguments (Some t) = refl

called_bare : (place : Option Expr) (c : Call) → called (option_map bare_expr place) (bare_call c) ≡ bare_action (called place c)
called_bare place (call.User number callee arguments offset) =
    ap (λ (t : Option (Option ℕ)). option_map (λ t. Invoke number callee (map bare_expr arguments) t) t) (target_bare place) ∙ invoke_bare number callee arguments (target_of place)
called_bare place (call.Malloc size offset) = refl
called_bare place (call.Getchar offset) = refl
called_bare None (call.Putchar e offset) = refl
called_bare None (call.Printf text arguments offset) = refl
called_bare (Some place) (call.Putchar e offset) = refl
called_bare (Some place) (call.Printf text arguments offset) = refl

put_bare : (o : Op) (place : Expr) (c : Call) → put_call o (bare_expr place) (bare_call c) ≡ bare_action (put_call o place c)
put_bare op.Put place c = called_bare (Some place) c
put_bare op.Add place c = refl
put_bare op.Sub place c = refl
put_bare op.Mul place c = refl

assigned_bare : (s : Simple) (r : Right) → assigned (bare_simple s) (bare_right r) ≡ bare_action (assigned s r)
assigned_bare s (right.Plain e) = refl
assigned_bare s (right.Call c) = put_bare s.op s.place c

declared_bare : (d : Declr) (r : Option Right) → declared (bare_declr d) (option_map bare_right r) ≡ bare_action (declared d r)
declared_bare d None = refl
declared_bare d (Some (right.Plain e)) = ap (λ (x : Expr). Some (Assign x op.Put (bare_expr e) 0)) (sym (bare_variable d.var d.at))
declared_bare d (Some (right.Call c)) = ap (λ (x : Expr). called (Some x) (bare_call c)) (sym (bare_variable d.var d.at)) ∙ called_bare (Some (expr.Var d.var d.at)) c

started_bare : (s : Start) → started (bare_start s) ≡ bare_action (started s)
started_bare (start.Declare d) = declared_bare d d.right
started_bare (start.Assign s) = assigned_bare s s.right

slot_bare : (slot : Option ℕ) (offset : ℕ) → option_map (λ x. expr.Var x 0) slot ≡ option_map bare_expr (option_map (λ x. expr.Var x offset) slot)
slot_bare None offset = refl
slot_bare (Some x) offset = ap (λ (e : Expr). Some e) (sym (bare_variable x offset))

-- the parts

module _ {B C : Type 0} (f : B → C) where
  abbrev ones : List (Option Instruction) → List (Part B)
  ones = map (λ a. One a)

  abbrev bare_one : Option Instruction → Part C
  bare_one a = One a

  returned_bare : (slot : Option ℕ) (value : Option Right) (offset : ℕ) →
      map (λ a. One a) (returned slot (option_map bare_right value) 0) ≡ map (bare_part f) (ones (returned slot value offset))
  returned_bare slot None offset = refl
  returned_bare slot (Some (right.Plain e)) offset = refl
  returned_bare slot (Some (right.Call c)) offset =
      ap (λ (place : Option Expr). map bare_one (called place (bare_call c) ∷ Some (Return place 0) ∷ [])) (slot_bare slot offset)
      ∙ ap (λ (a : Option Instruction). bare_one a ∷ bare_one (Some (Return (option_map bare_expr (option_map (λ x. expr.Var x offset) slot)) 0)) ∷ []) (called_bare (option_map (λ x. expr.Var x offset) slot) c)

  declared_all : (ds : List Declr) → map (λ d. bare_one (declared d d.right)) (map bare_declr ds) ≡ map (bare_part f) (map (λ d. One (declared d d.right)) ds)
  declared_all [] = refl
  declared_all (d ∷ ds) = ap (λ (a : Option Instruction). bare_one a ∷ map (λ d. bare_one (declared d d.right)) (map bare_declr ds)) (declared_bare d d.right)
      ∙ ap (λ (ps : List (Part C)). One (bare_action (declared d d.right)) ∷ ps) (declared_all ds)

  else_bare : (b : Option B) → else_parts (option_map f b) ≡ map (bare_part f) (else_parts b)
  else_bare None = refl
  else_bare (Some b) = refl

started_all : (ss : List Start) → map started (map bare_start ss) ≡ map bare_action (map started ss)
started_all [] = refl
started_all (s ∷ ss) = ap (λ (a : Option Instruction). a ∷ map started (map bare_start ss)) (started_bare s) ∙ ap (λ (rest : List (Option Instruction)). bare_action (started s) ∷ rest) (started_all ss)

last_bare : (s : Option Simple) → last_row (option_map bare_simple s) ≡ map bare_action (last_row s)
last_bare None = refl
last_bare (Some s) = ap (λ (a : Option Instruction). a ∷ []) (assigned_bare s s.right)

bare_constant : bare_expr (expr.Const (pos 1) 0) ≡ expr.Const (pos 1) 0
bare_constant = ap bare_expr (sym (expr.rolls-Const (pos 1) 0)) ∙ bare_rolled (layer.Const (pos 1) 0) ∙ expr.rolls-Const (pos 1) 0

condition_bare : (e : Option Expr) → condition_of (option_map bare_expr e) ≡ bare_expr (condition_of e)
condition_bare None = sym bare_constant
condition_bare (Some e) = refl

-- a layer of an item without offsets, with `arm` of its arms and `block` of its blocks
abbrev pub bare_item_of : {I A B P C D : Type 0} → (A → C) → (B → D) → Item-F I A B P → Item-F I C D P
bare_item_of arm block (item.Declare ds) = item.Declare (map bare_declr ds)
bare_item_of arm block (item.Assign s) = item.Assign (bare_simple s)
bare_item_of arm block (item.Do c) = item.Do (bare_call c)
bare_item_of arm block (item.Nest b) = item.Nest (block b)
bare_item_of arm block (item.If arms otherwise) = item.If (map arm arms) (option_map block otherwise)
bare_item_of arm block (item.While test body) = item.While (bare_expr test) (block body)
bare_item_of arm block (item.For head body) = item.For (bare_head head) (block body)
bare_item_of arm block item.Break = item.Break
bare_item_of arm block item.Continue = item.Continue
bare_item_of arm block (item.Return value offset) = item.Return (option_map bare_right value) 0

pub bare_item_is : (f : Maps) (x : Item-F Item Arm Block Piece) → bare_item (in_item f x) ≡ bare_item_of f.arm f.block x
bare_item_is f (item.Declare ds) = refl
bare_item_is f (item.Assign s) = refl
bare_item_is f (item.Do c) = refl
bare_item_is f (item.Nest b) = refl
bare_item_is f (item.If arms otherwise) = refl
bare_item_is f (item.While test body) = refl
bare_item_is f (item.For head body) = refl
bare_item_is f item.Break = refl
bare_item_is f item.Continue = refl
bare_item_is f (item.Return value offset) = refl

module _ {A B C D : Type 0} (arm : A → C) (block : B → D) (test : A → Expr) (body : A → B) (bared_test : C → Expr) (bared_body : C → D)
    (tests : (a : A) → bared_test (arm a) ≡ bare_expr (test a)) (bodies : (a : A) → bared_body (arm a) ≡ block (body a)) where
  arms_bare : (arms : List A) → arm_parts bared_test bared_body (map arm arms) ≡ map (bare_part block) (arm_parts test body arms)
  arms_bare [] = refl
  arms_bare (a ∷ arms) =
      ap (λ (e : Expr). Condition e ∷ Within (bared_body (arm a)) ∷ arm_parts bared_test bared_body (map arm arms)) (tests a)
      ∙ ap (λ (b : D). Condition (bare_expr (test a)) ∷ Within b ∷ arm_parts bared_test bared_body (map arm arms)) (bodies a)
      ∙ ap (λ (ps : List (Part D)). Condition (bare_expr (test a)) ∷ Within (block (body a)) ∷ ps) (arms_bare arms)

  -- the parts of an item without offsets are its parts without offsets
  pub parts_bare : {I P : Type 0} (slot : Option ℕ) (x : Item-F I A B P) → parts bared_test bared_body slot (bare_item_of arm block x) ≡ map (bare_part block) (parts test body slot x)
  parts_bare slot (item.Declare ds) = declared_all block ds
  parts_bare slot (item.Assign s) = ap (λ (a : Option Instruction). One a ∷ []) (assigned_bare s s.right)
  parts_bare slot (item.Do c) = ap (λ (a : Option Instruction). One a ∷ []) (called_bare None c)
  parts_bare slot (item.Nest b) = refl
  parts_bare slot (item.If arms otherwise) =
      ap (λ (ps : List (Part D)). ps ++ else_parts (option_map block otherwise)) (arms_bare arms)
      ∙ ap (λ (ps : List (Part D)). map (bare_part block) (arm_parts test body arms) ++ ps) (else_bare block otherwise)
      ∙ sym (map-append (bare_part block) (arm_parts test body arms) (else_parts otherwise))
  parts_bare slot (item.While e b) = refl
  parts_bare slot (item.For head b) =
      ap (λ (row : List (Option Instruction)). Row row ∷ Condition (condition_of (option_map bare_expr head.test)) ∷ Row (last_row (option_map bare_simple head.step)) ∷ Within (block b) ∷ []) (started_all head.start)
      ∙ ap (λ (e : Expr). Row (map bare_action (map started head.start)) ∷ Condition e ∷ Row (last_row (option_map bare_simple head.step)) ∷ Within (block b) ∷ []) (condition_bare head.test)
      ∙ ap (λ (row : List (Option Instruction)). Row (map bare_action (map started head.start)) ∷ Condition (bare_expr (condition_of head.test)) ∷ Row row ∷ Within (block b) ∷ []) (last_bare head.step)
  parts_bare slot item.Break = refl
  parts_bare slot item.Continue = refl
  parts_bare slot (item.Return value offset) = returned_bare block slot value offset

-- how control enters and leaves an item

first_part_bare : (head : ForHead) (ss : List Start) → first_part (bare_head head) (map bare_start ss) ≡ first_part head ss
first_part_bare head [] = refl
first_part_bare head (s ∷ ss) = refl

step_part_bare : (s : Option Simple) → step_part (option_map bare_simple s) ≡ step_part s
step_part_bare None = refl
step_part_bare (Some s) = refl

module _ {I A B P C D : Type 0} (arm : A → C) (block : B → D) where
  abbrev bare_of : Item-F I A B P → Item-F I C D P
  bare_of = bare_item_of arm block

  pub entry_bare : (x : Item-F I A B P) → entry (bare_of x) ≡ entry x
  entry_bare (item.For head body) = first_part_bare head head.start
  entry_bare item.Break = refl
  entry_bare item.Continue = refl
  entry_bare _ = refl

  pub goal_bare : (x : Item-F I A B P) (k : ℕ) (d : Departure) → goal (bare_of x) k d ≡ goal x k d
  goal_bare (item.For head body) k Through = ap (λ (g : Goal). if k == 3 then g else Into 1) (step_part_bare head.step)
  goal_bare (item.For head body) k Continued = step_part_bare head.step
  goal_bare (item.For head body) k (Found true) = refl
  goal_bare (item.For head body) k (Found false) = refl
  goal_bare (item.If arms otherwise) k (Found true) = refl
  goal_bare (item.If arms otherwise) k (Found false) = refl
  goal_bare (item.While test body) k (Found true) = refl
  goal_bare (item.While test body) k (Found false) = refl
  goal_bare _ _ _ = refl
