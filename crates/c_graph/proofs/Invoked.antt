-- Where a call stands at a path of a function, it is one of the function's calls.
use Rattle.std.proofs.Common.{◌≡◌, ℕ, zero, suc, ◌==◌, Bool, true, false, List, [], ◌∷◌, ◌++◌, map, length, slice_get, unwrap_or, Option, Some, None, option_map, option_and_then, sym, subst, ◌∙◌, flat_map, append_assoc, ⊎_elim}
use Rattle.std.specs.Prelude.{if◌then◌else◌}
use Rattle.c_tree.specs.declared.expr.Expr.{Expr}
use Rattle.c_tree.specs.declared.expr.Expr.TheVariants as expr
use Rattle.c_tree.specs.declared.expr.Op.{Op}
use Rattle.c_tree.specs.declared.expr.Op.TheVariants as op
use Rattle.c_tree.specs.declared.program.Block.{Block, out-Block}
use Rattle.c_tree.specs.declared.program.Piece.{Piece, out-Piece, fold_out-Piece}
use Rattle.c_tree.specs.declared.program.Item.{Item, Item-F, out-Item, fold_out-Item, map-Item}
use Rattle.c_tree.specs.declared.program.Item.TheOpen.{Declare, Assign, Do, Nest, If, While, For, Break, Continue, Return}
use Rattle.c_tree.specs.declared.program.Arm.{Arm, fold_out-Arm}
use Rattle.c_tree.specs.declared.program.Declr.{Declr}
use Rattle.c_tree.specs.declared.program.Simple.{Simple}
use Rattle.c_tree.specs.declared.program.Start.{Start}
use Rattle.c_tree.specs.declared.program.Start.TheVariants as start
use Rattle.c_tree.specs.declared.program.Right.{Right}
use Rattle.c_tree.specs.declared.program.Right.TheVariants as right
use Rattle.c_tree.specs.declared.program.Call.{Call}
use Rattle.c_tree.specs.declared.program.Call.TheVariants as call
use Rattle.c_tree.specs.declared.program.ForHead.{ForHead}
use Rattle.c_tree.specs.declared.program.FunDef.{FunDef}
use Rattle.c_tree.specs.declared.program.Program.{Program}
use Rattle.c_meaning.specs.Parts.{Instruction, Invoke, Part, One, Row, Condition, Within, target_of, called, put_call, assigned, declared, started, returned, condition_of, last_row, arm_parts, else_parts}
use Rattle.c_meaning.specs.Place.{Spot, AtGap, AtAction, Nowhere, test_at, arm_test, arm_body, part_of, part_at, gap_at, instruction_spot, row_spot, test_spot, spot_in, spot_of, result_slot, brace_of, closing, spot_or_brace, spot_in_fun}
use Rattle.c_tree.specs.declared.control.UserCall.{UserCall}
use Rattle.c_tree.specs.UserCalls.{Here, from_option, call_calls, right_calls, declr_calls, simple_calls, start_calls, head_calls, item_calls, arm_calls, block_calls, piece_calls, calls_in, piece_calls_in, item_calls_in, arm_calls_in}
use Rattle.call_contexts.specs.Calls.{calls_of, calls_by_function}
use Rattle.call_contexts.proofs.CallLaws.{block_opens, row_of}
use Rattle.c_graph.specs.Nodes.{spot_at}
use Rattle.call_contexts.proofs.Has.{Has, first, has_left, has_right, has_split, only_one}

-- a call by its number and its callee alone
abbrev pub call_of : ℕ → ℕ → UserCall
call_of number callee = record { number = number; caller = 0; callee = callee; at = 0 }

abbrev pub erased : UserCall → UserCall
erased c = call_of c.number c.callee

-- a call is among these, but for its caller and offset
abbrev pub HasCall : UserCall → List UserCall → Type 0
HasCall c xs = (d : UserCall) × Has d xs × (erased d ≡ c)

call_left : {c : UserCall} {xs : List UserCall} (ys : List UserCall) → HasCall c xs → HasCall c (xs ++ ys)
call_left ys h = (h.0, has_left ys h.1, h.2)

call_right : {c : UserCall} (xs : List UserCall) {ys : List UserCall} → HasCall c ys → HasCall c (xs ++ ys)
call_right xs h = (h.0, has_right xs h.1, h.2)

-- the calls that an instruction is
abbrev pub instruction_calls : Instruction → List UserCall
instruction_calls (Invoke number callee arguments target) = call_of number callee ∷ []
instruction_calls a = []

abbrev pub option_calls : Option Instruction → List UserCall
option_calls None = []
option_calls (Some a) = instruction_calls a

-- the calls that stand at a place
abbrev pub spot_calls : Spot → List UserCall
spot_calls (AtAction a) = instruction_calls a
spot_calls spot = []

abbrev option_row : Option (Option Instruction) → List UserCall
option_row None = []
option_row (Some a) = option_calls a

-- a call is one of a part of function f
abbrev PartHas : ℕ → UserCall → Part Block → Type 0
PartHas f c (One a) = Has c (option_calls a)
PartHas f c (Row row) = Has c (flat_map option_calls row)
PartHas f c (Condition e) = ⊥
PartHas f c (Within b) = HasCall c (calls_in f b)

abbrev Picked : ℕ → UserCall → Option (Part Block) → Type 0
Picked f c None = ⊥
Picked f c (Some part) = PartHas f c part

-- an item with the calls of its blocks
abbrev called_item : ℕ → Item-F Item Arm Block Piece → Item-F Here Here Here Here
called_item f = map-Item Item Arm Block Piece Here Here Here Here (item_calls_in f) (arm_calls_in f) (calls_in f) (piece_calls_in f)

arm_opened : (f : ℕ) (a : Arm) → arm_calls_in f a ≡ calls_in f (arm_body a)
arm_opened f a = fold_out-Arm Here Here Here Here (item_calls f) arm_calls block_calls piece_calls a

item_opened : (f : ℕ) (i : Item) → item_calls_in f i ≡ item_calls f (called_item f (out-Item i))
item_opened f i = fold_out-Item Here Here Here Here (item_calls f) arm_calls block_calls piece_calls i

piece_opened : (f : ℕ) (p : Piece) → piece_calls_in f p ≡ item_calls f (called_item f (out-Item (out-Piece p).item))
piece_opened f p = fold_out-Piece Here Here Here Here (item_calls f) arm_calls block_calls piece_calls p ∙ item_opened f (out-Piece p).item

-- instructions have no calls but those that are written

module _ (f : ℕ) {c : UserCall} where
  user_written : (number callee offset : ℕ) (arguments : List Expr) (o : Option (Option ℕ)) → Has c (option_calls (option_map (λ t. Invoke number callee arguments t) o)) →
      HasCall c (record { number = number; caller = f; callee = callee; at = offset } ∷ [])
  user_written number callee offset arguments None h = elim h [ ]
  user_written number callee offset arguments (Some t) h = (record { number = number; caller = f; callee = callee; at = offset }, first, sym (only_one h))

  called_written : (place : Option Expr) (k : Call) → Has c (option_calls (called place k)) → HasCall c (call_calls f k)
  called_written place (call.User number callee arguments offset) h = user_written number callee offset arguments (target_of place) h
  called_written place (call.Malloc size offset) h = elim h [ ]
  called_written place (call.Getchar offset) h = elim h [ ]
  called_written None (call.Putchar e offset) h = elim h [ ]
  called_written None (call.Printf text arguments offset) h = elim h [ ]
  called_written (Some place) (call.Putchar e offset) h = elim h [ ]
  called_written (Some place) (call.Printf text arguments offset) h = elim h [ ]

  put_written : (o : Op) (place : Expr) (k : Call) → Has c (option_calls (put_call o place k)) → HasCall c (call_calls f k)
  put_written op.Put place k h = called_written (Some place) k h
  put_written op.Add place k h = elim h [ ]
  put_written op.Sub place k h = elim h [ ]
  put_written op.Mul place k h = elim h [ ]

  assigned_written : (s : Simple) (r : Right) → Has c (option_calls (assigned s r)) → HasCall c (right_calls f r)
  assigned_written s (right.Plain e) h = elim h [ ]
  assigned_written s (right.Call k) h = put_written s.op s.place k h

  declared_written : (d : Declr) (r : Option Right) → Has c (option_calls (declared d r)) → HasCall c (from_option (right_calls f) r)
  declared_written d None h = elim h [ ]
  declared_written d (Some (right.Plain e)) h = elim h [ ]
  declared_written d (Some (right.Call k)) h = called_written (Some (expr.Var d.var d.at)) k h

  started_written : (s : Start) → Has c (option_calls (started s)) → HasCall c (start_calls f s)
  started_written (start.Declare d) h = declared_written d d.right h
  started_written (start.Assign s) h = assigned_written s s.right h

  row_written : (ss : List Start) → Has c (flat_map option_calls (map started ss)) → HasCall c (flat_map (start_calls f) ss)
  row_written [] h = elim h [ ]
  row_written (s ∷ ss) h = ⊎_elim (λ g. call_left (flat_map (start_calls f) ss) (started_written s g)) (λ g. call_right (start_calls f s) (row_written ss g)) (has_split (option_calls (started s)) h)

  step_written : (s : Option Simple) → Has c (flat_map option_calls (last_row s)) → HasCall c (from_option (simple_calls f) s)
  step_written None h = elim h [ ]
  step_written (Some s) h = ⊎_elim (λ g. assigned_written s s.right g) (λ g. elim g [ ]) (has_split (option_calls (assigned s s.right)) h)

  -- parts

  ones_written : {A : Type 0} (a : A → Option Instruction) (g : A → List UserCall) → ((x : A) → Has c (option_calls (a x)) → HasCall c (g x)) → (xs : List A) (k : ℕ) →
      Picked f c (slice_get (map (λ x. One (a x)) xs) k) → HasCall c (flat_map g xs)
  ones_written a g each [] k h = absurd h
  ones_written a g each (x ∷ xs) zero h = call_left (flat_map g xs) (each x h)
  ones_written a g each (x ∷ xs) (suc k) h = call_right (g x) (ones_written a g each xs k h)

  returned_written : (slot : Option ℕ) (value : Option Right) (offset k : ℕ) → Picked f c (slice_get (map (λ a. One a) (returned slot value offset)) k) → HasCall c (from_option (right_calls f) value)
  returned_written slot None offset zero h = elim h [ ]
  returned_written slot None offset (suc k) h = absurd h
  returned_written slot (Some (right.Plain e)) offset zero h = elim h [ ]
  returned_written slot (Some (right.Plain e)) offset (suc k) h = absurd h
  returned_written slot (Some (right.Call k)) offset zero h = called_written (option_map (λ x. expr.Var x offset) slot) k h
  returned_written slot (Some (right.Call k)) offset (suc zero) h = elim h [ ]
  returned_written slot (Some (right.Call k)) offset (suc (suc j)) h = absurd h

  arms_written : (arms : List Arm) (rest : List (Part Block)) (last : List UserCall) → ((k : ℕ) → Picked f c (slice_get rest k) → HasCall c last) → (k : ℕ) →
      Picked f c (slice_get (arm_parts arm_test arm_body arms ++ rest) k) → HasCall c (flat_map (λ cs. cs) (map (arm_calls_in f) arms) ++ last)
  arms_written [] rest last behind k h = behind k h
  arms_written (a ∷ arms) rest last behind zero h = absurd h
  arms_written (a ∷ arms) rest last behind (suc zero) h = call_left last (call_left (flat_map (λ cs. cs) (map (arm_calls_in f) arms)) (subst (λ (cs : List UserCall). HasCall c cs) (sym (arm_opened f a)) h))
  arms_written (a ∷ arms) rest last behind (suc (suc k)) h =
      subst (λ (cs : List UserCall). HasCall c cs) (sym (append_assoc (arm_calls_in f a) (flat_map (λ cs. cs) (map (arm_calls_in f) arms)) last)) (call_right (arm_calls_in f a) (arms_written arms rest last behind k h))

  no_else : (k : ℕ) → Picked f c (slice_get (else_parts None) k) → HasCall c []
  no_else k h = absurd h

  one_else : (b : Block) (k : ℕ) → Picked f c (slice_get (else_parts (Some b)) k) → HasCall c (calls_in f b)
  one_else b zero h = h
  one_else b (suc k) h = absurd h

  for_written : (head : ForHead) (b : Block) (k : ℕ) →
      Picked f c (slice_get (Row (map started head.start) ∷ Condition (condition_of head.test) ∷ Row (last_row head.step) ∷ Within b ∷ []) k) → HasCall c (head_calls f head ++ calls_in f b)
  for_written head b zero h = call_left (calls_in f b) (call_left (from_option (simple_calls f) head.step) (row_written head.start h))
  for_written head b (suc zero) h = absurd h
  for_written head b (suc (suc zero)) h = call_left (calls_in f b) (call_right (flat_map (start_calls f) head.start) (step_written head.step h))
  for_written head b (suc (suc (suc zero))) h = call_right (head_calls f head) h
  for_written head b (suc (suc (suc (suc k)))) h = absurd h

  -- the calls of an item, from those of its part k
  item_written : (slot : Option ℕ) (k : ℕ) (x : Item-F Item Arm Block Piece) → Picked f c (part_of slot k x) → HasCall c (item_calls f (called_item f x))
  item_written slot k (Declare ds) h = ones_written (λ d. declared d d.right) (declr_calls f) (λ d g. declared_written d d.right g) ds k h
  item_written slot zero (Assign s) h = assigned_written s s.right h
  item_written slot (suc k) (Assign s) h = absurd h
  item_written slot zero (Do k) h = called_written None k h
  item_written slot (suc j) (Do k) h = absurd h
  item_written slot zero (Nest b) h = h
  item_written slot (suc k) (Nest b) h = absurd h
  item_written slot k (If arms None) h = arms_written arms [] [] no_else k h
  item_written slot k (If arms (Some b)) h = arms_written arms (Within b ∷ []) (calls_in f b) (one_else b) k h
  item_written slot zero (While e b) h = absurd h
  item_written slot (suc zero) (While e b) h = h
  item_written slot (suc (suc k)) (While e b) h = absurd h
  item_written slot k (For head b) h = for_written head b k h
  item_written slot k Break h = absurd h
  item_written slot k Continue h = absurd h
  item_written slot k (Return value offset) h = returned_written slot value offset k h

  -- what stands in a part

  row_invoked : (a : Option (Option Instruction)) → Has c (spot_calls (row_spot a)) → Has c (option_row a)
  row_invoked None h = h
  row_invoked (Some None) h = h
  row_invoked (Some (Some a)) h = h

  picked : (row : List (Option Instruction)) (k : ℕ) → Has c (option_row (slice_get row k)) → Has c (flat_map option_calls row)
  picked [] k h = elim h [ ]
  picked (a ∷ row) zero h = has_left (flat_map option_calls row) h
  picked (a ∷ row) (suc k) h = has_right (option_calls a) (picked row k h)

  no_test_there : (e : Option Expr) → Has c (spot_calls (test_spot e)) → ⊥
  no_test_there None h = elim h [ ]
  no_test_there (Some e) h = elim h [ ]

  instruction_invoked : (a : Option Instruction) → Has c (spot_calls (instruction_spot a)) → Has c (option_calls a)
  instruction_invoked None h = h
  instruction_invoked (Some a) h = h

  part_invoked : (inner : Block → Spot) (path : List ℕ) → ((b : Block) → Has c (spot_calls (inner b)) → HasCall c (calls_in f b)) →
      (part : Option (Part Block)) → Has c (spot_calls (spot_in inner path part)) → Picked f c part
  part_invoked inner [] below None h = elim h [ ]
  part_invoked inner [] below (Some (One a)) h = instruction_invoked a h
  part_invoked inner [] below (Some (Row row)) h = elim h [ ]
  part_invoked inner [] below (Some (Condition e)) h = no_test_there (test_at [] e) h
  part_invoked inner [] below (Some (Within b)) h = below b h
  part_invoked inner (k ∷ []) below None h = elim h [ ]
  part_invoked inner (k ∷ []) below (Some (One a)) h = elim h [ ]
  part_invoked inner (k ∷ []) below (Some (Row row)) h = picked row k (row_invoked (slice_get row k) h)
  part_invoked inner (k ∷ []) below (Some (Condition e)) h = no_test_there (test_at (k ∷ []) e) h
  part_invoked inner (k ∷ []) below (Some (Within b)) h = below b h
  part_invoked inner (k ∷ j ∷ path) below None h = elim h [ ]
  part_invoked inner (k ∷ j ∷ path) below (Some (One a)) h = elim h [ ]
  part_invoked inner (k ∷ j ∷ path) below (Some (Row row)) h = elim h [ ]
  part_invoked inner (k ∷ j ∷ path) below (Some (Condition e)) h = no_test_there (test_at (k ∷ j ∷ path) e) h
  part_invoked inner (k ∷ j ∷ path) below (Some (Within b)) h = below b h

  piece_invoked : (slot : Option ℕ) (k : ℕ) (p : Piece) → Picked f c (part_of slot k (out-Item (out-Piece p).item)) → HasCall c (piece_calls_in f p)
  piece_invoked slot k p h = subst (λ (cs : List UserCall). HasCall c cs) (sym (piece_opened f p)) (item_written slot k (out-Item (out-Piece p).item) h)

  in_piece_invoked : (slot : Option ℕ) (i k : ℕ) (items : List Piece) →
      Picked f c (option_and_then (part_of slot k) (option_map (λ p. out-Item (out-Piece p).item) (slice_get items i))) → HasCall c (flat_map (piece_calls_in f) items)
  in_piece_invoked slot i k [] h = absurd h
  in_piece_invoked slot zero k (p ∷ ps) h = call_left (flat_map (piece_calls_in f) ps) (piece_invoked slot k p h)
  in_piece_invoked slot (suc i) k (p ∷ ps) h = call_right (piece_calls_in f p) (in_piece_invoked slot i k ps h)

  no_gap : (i : ℕ) (b : Block) (o : Option Piece) → Has c (spot_calls (gap_at b i o)) → HasCall c (calls_in f b)
  no_gap i b (Some p) h = elim h [ ]
  no_gap i b None h = past_gap b (i == length (out-Block b).items) h
    where
      past_gap : (b : Block) (t : Bool) → Has c (spot_calls (if t then AtGap (out-Block b).last_gap else Nowhere)) → HasCall c (calls_in f b)
      past_gap b true h = elim h [ ]
      past_gap b false h = elim h [ ]

  pub block_invoked : (slot : Option ℕ) (path : List ℕ) (b : Block) → Has c (spot_calls (spot_of slot path b)) → HasCall c (calls_in f b)
  block_invoked slot [] b h = elim h [ ]
  block_invoked slot (i ∷ []) b h = no_gap i b (slice_get (out-Block b).items i) h
  block_invoked slot (i ∷ k ∷ path) b h =
      subst (λ (cs : List UserCall). HasCall c cs) (sym (block_opens f b))
      (in_piece_invoked slot i k (out-Block b).items (part_invoked (spot_of slot path) path (block_invoked slot path) (part_at slot b i k) h))

  -- functions

  brace_invoked : (p : Program) (d : FunDef) (i : ℕ) (t : Bool) → Has c (spot_calls (if t then AtAction (closing p f d) else spot_of (result_slot p f) (i ∷ []) d.body)) → HasCall c (calls_in f d.body)
  brace_invoked p d i true h = elim h [ ]
  brace_invoked p d i false h = block_invoked (result_slot p f) (i ∷ []) d.body h

  or_brace_invoked : (p : Program) (d : FunDef) (path : List ℕ) → Has c (spot_calls (spot_or_brace p f d path)) → HasCall c (calls_in f d.body)
  or_brace_invoked p d [] h = elim h [ ]
  or_brace_invoked p d (i ∷ []) h = brace_invoked p d i (i == brace_of d.body) h
  or_brace_invoked p d (i ∷ k ∷ path) h = block_invoked (result_slot p f) (i ∷ k ∷ path) d.body h

  fun_invoked : (p : Program) (path : List ℕ) (d : Option FunDef) → Has c (spot_calls (spot_in_fun p f d path)) → HasCall c (unwrap_or (option_map (λ d. calls_in f d.body) d) [])
  fun_invoked p path None h = elim h [ ]
  fun_invoked p path (Some d) h = or_brace_invoked p d path h

  -- the calls that stand at a path of function f are calls of f
  pub invoked : (p : Program) (path : List ℕ) → Has c (spot_calls (spot_at p f path)) → HasCall c (calls_of (calls_by_function p) f)
  invoked p path h =
      subst (λ (o : Option (List UserCall)). HasCall c (unwrap_or o [])) (sym (row_of p f))
      (fun_invoked p path (slice_get p.funs f) h)
