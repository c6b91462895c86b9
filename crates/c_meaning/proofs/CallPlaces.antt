-- In a well-formed program a call of a user's function stands at one place of its function.
use Rattle.std.proofs.Common.{◌≡◌, ◌≢◌, ℕ, zero, suc, ◌+◌, ◌<◌, ◌≤◌, ◌==◌, Bool, true, false, true≢false, List, [], ◌∷◌, ◌++◌, map, flat_map, length, slice_get, Option, Some, None, option_map, option_and_then, refl, ap, sym, subst, ◌∙◌, arith}
use Rattle.std.specs.Prelude.{nat_eq, if◌then◌else◌}
use Rattle.std.specs.List.{range_with_len}
use Rattle.std.specs.Cmp.Lexicographic.{pointwise}
use Rattle.std.proofs.lemmas.Bool.{eqb-true, eqb-false, eq-eqb}
use Rattle.std.proofs.lemmas.Bool.Decides.{Decides-eqb}
use Rattle.c_tree.specs.UserCalls.{Here, from_option, call_calls, right_calls, declr_calls, simple_calls, start_calls, head_calls, item_calls, arm_calls, block_calls, piece_calls, calls_in, calls_from, user_calls, item_calls_in, arm_calls_in, piece_calls_in}
use Rattle.c_tree.specs.WellFormed.{IsWellFormed}
use Rattle.c_tree.specs.declared.control.UserCall.{UserCall}
use Rattle.c_tree.specs.declared.expr.Expr.{Expr}
use Rattle.c_tree.specs.declared.expr.Expr.TheVariants as expr
use Rattle.c_tree.specs.declared.expr.Op.{Op}
use Rattle.c_tree.specs.declared.expr.Op.TheVariants as op
use Rattle.c_tree.specs.declared.program.Arm.{Arm, fold_out-Arm}
use Rattle.c_tree.specs.declared.program.Block.{Block, out-Block, fold_out-Block}
use Rattle.c_tree.specs.declared.program.Call.{Call}
use Rattle.c_tree.specs.declared.program.Call.TheVariants as call
use Rattle.c_tree.specs.declared.program.Declr.{Declr}
use Rattle.c_tree.specs.declared.program.FunDef.{FunDef}
use Rattle.c_tree.specs.declared.program.Item.{Item, Item-F, out-Item, map-Item, fold_out-Item}
use Rattle.c_tree.specs.declared.program.Item.TheOpen.{Declare, Assign, Do, Nest, If, While, For, Break, Continue, Return}
use Rattle.c_tree.specs.declared.program.Piece.{Piece, out-Piece, fold_out-Piece}
use Rattle.c_tree.specs.declared.program.Program.{Program}
use Rattle.c_tree.specs.declared.program.Right.{Right}
use Rattle.c_tree.specs.declared.program.Right.TheVariants as right
use Rattle.c_tree.specs.declared.program.Simple.{Simple}
use Rattle.c_tree.specs.declared.program.Start.{Start}
use Rattle.c_tree.specs.declared.program.Start.TheVariants as start
use Rattle.c_tree.proofs.Deciders.{list_decides}
use Rattle.c_meaning.specs.Parts.{Instruction, Invoke, target_of, called, put_call, assigned, declared, started, returned, Part, One, Row, Condition, Within, last_row, arm_parts, else_parts, parts}
use Rattle.c_meaning.specs.Place.{Spot, AtGap, AtAction, Nowhere, test_at, arm_test, arm_body, item_at, part_of, part_at, gap_at, instruction_spot, row_spot, test_spot, spot_in, spot_of, result_slot, brace_of, closing, spot_or_brace, spot_in_fun}
use Rattle.c_meaning.proofs.GapBound.{spot_within}

-- sums over lists

abbrev total : {X : Type 0} → (X → ℕ) → List X → ℕ
total f [] = 0
total f (x ∷ xs) = f x + total f xs

-- of an element, if it is there
abbrev of_any : {X : Type 0} → (X → ℕ) → Option X → ℕ
of_any f None = 0
of_any f (Some x) = f x

one_of : {X : Type 0} (f : X → ℕ) (xs : List X) (i : ℕ) → of_any f (slice_get xs i) ≤ total f xs
one_of f [] i = omega arith
one_of f (x ∷ xs) zero = omega arith
one_of f (x ∷ xs) (suc i) = let rest : of_any f (slice_get xs i) ≤ total f xs = one_of f xs i in omega arith

two_of : {X : Type 0} (f : X → ℕ) (xs : List X) (i j : ℕ) → i ≢ j → of_any f (slice_get xs i) + of_any f (slice_get xs j) ≤ total f xs
two_of f [] i j other = omega arith
two_of f (x ∷ xs) zero zero other = absurd (other refl)
two_of f (x ∷ xs) zero (suc j) other = let rest : of_any f (slice_get xs j) ≤ total f xs = one_of f xs j in omega arith
two_of f (x ∷ xs) (suc i) zero other = let rest : of_any f (slice_get xs i) ≤ total f xs = one_of f xs i in omega arith
two_of f (x ∷ xs) (suc i) (suc j) other = let rest : of_any f (slice_get xs i) + of_any f (slice_get xs j) ≤ total f xs = two_of f xs i j (λ e. other (ap suc e)) in omega arith

total_le : {X : Type 0} (f g : X → ℕ) → ((x : X) → f x ≤ g x) → (xs : List X) → total f xs ≤ total g xs
total_le f g one [] = omega arith
total_le f g one (x ∷ xs) =
    let first : f x ≤ g x = one x in
    let rest : total f xs ≤ total g xs = total_le f g one xs in
    omega arith

total_map : {X Y : Type 0} (f : Y → ℕ) (g : X → Y) (xs : List X) → total f (map g xs) ≡ total (λ x. f (g x)) xs
total_map f g [] = refl
total_map f g (x ∷ xs) = ap (λ (n : ℕ). f (g x) + n) (total_map f g xs)

total_same : {X : Type 0} (f g : X → ℕ) → ((x : X) → f x ≡ g x) → (xs : List X) → total f xs ≡ total g xs
total_same f g same [] = refl
total_same f g same (x ∷ xs) = ap (λ (n : ℕ). n + total f xs) (same x) ∙ ap (λ (n : ℕ). g x + n) (total_same f g same xs)

-- how often a number occurs

abbrev one_if : Bool → ℕ
one_if true = 1
one_if false = 0

abbrev times : ℕ → List UserCall → ℕ
times n calls = total (λ c. one_if (c.number == n)) calls

times_append : (n : ℕ) (cs ds : List UserCall) → times n (cs ++ ds) ≡ times n cs + times n ds
times_append n [] ds = omega arith
times_append n (c ∷ cs) ds = let rest : times n (cs ++ ds) ≡ times n cs + times n ds = times_append n cs ds in omega arith

times_flat : {X : Type 0} (n : ℕ) (f : X → List UserCall) (xs : List X) → times n (flat_map f xs) ≡ total (λ x. times n (f x)) xs
times_flat n f [] = refl
times_flat n f (x ∷ xs) = times_append n (f x) (flat_map f xs) ∙ ap (λ (k : ℕ). times n (f x) + k) (times_flat n f xs)

module _ (f n : ℕ) where
  -- how many calls in a part have the number n

  abbrev in_block : Block → ℕ
  in_block b = times n (calls_in f b)

  abbrev calls_layer : Item-F Item Arm Block Piece → Item-F Here Here Here Here
  calls_layer = map-Item Item Arm Block Piece Here Here Here Here (item_calls_in f) (arm_calls_in f) (calls_in f) (piece_calls_in f)

  abbrev in_item : Item-F Item Arm Block Piece → ℕ
  in_item x = times n (item_calls f (calls_layer x))

  abbrev in_piece : Piece → ℕ
  in_piece p = in_item (out-Item (out-Piece p).item)

  abbrev in_instruction : Option Instruction → ℕ
  in_instruction (Some (Invoke number callee es target)) = one_if (number == n)
  in_instruction _ = 0

  abbrev in_part : Part Block → ℕ
  in_part (One a) = in_instruction a
  in_part (Row row) = total in_instruction row
  in_part (Condition e) = 0
  in_part (Within b) = in_block b

  piece_opened : (p : Piece) → times n (piece_calls_in f p) ≡ in_piece p
  piece_opened p = ap (times n) (fold_out-Piece Here Here Here Here (item_calls f) arm_calls block_calls piece_calls p ∙ fold_out-Item Here Here Here Here (item_calls f) arm_calls block_calls piece_calls (out-Piece p).item)

  block_opened : (b : Block) → in_block b ≡ total in_piece (out-Block b).items
  block_opened b =
      ap (times n) (fold_out-Block Here Here Here Here (item_calls f) arm_calls block_calls piece_calls b)
      ∙ times_flat n (λ c. c) (map (piece_calls_in f) (out-Block b).items)
      ∙ total_map (times n) (piece_calls_in f) (out-Block b).items
      ∙ total_same (λ p. times n (piece_calls_in f p)) in_piece piece_opened (out-Block b).items

  arm_opened : (a : Arm) → times n (arm_calls_in f a) ≡ in_block (arm_body a)
  arm_opened a = ap (times n) (fold_out-Arm Here Here Here Here (item_calls f) arm_calls block_calls piece_calls a)

  -- no part has more than its calls in the tree

  called_le : (place : Option Expr) (c : Call) → in_instruction (called place c) ≤ times n (call_calls f c)
  called_le place (call.User number callee es offset) = by_target (target_of place)
    where
      by_target : (t : Option (Option ℕ)) → in_instruction (option_map (λ t. Invoke number callee es t) t) ≤ one_if (number == n) + 0
      by_target None = omega arith
      by_target (Some t) = omega arith
  called_le place (call.Malloc size offset) = omega arith
  called_le place (call.Getchar offset) = omega arith
  called_le None (call.Putchar e offset) = omega arith
  called_le None (call.Printf text es offset) = omega arith
  called_le (Some place) (call.Putchar e offset) = omega arith
  called_le (Some place) (call.Printf text es offset) = omega arith

  put_le : (o : Op) (place : Expr) (c : Call) → in_instruction (put_call o place c) ≤ times n (call_calls f c)
  put_le op.Put place c = called_le (Some place) c
  put_le op.Add place c = omega arith
  put_le op.Sub place c = omega arith
  put_le op.Mul place c = omega arith

  assigned_le : (s : Simple) (r : Right) → in_instruction (assigned s r) ≤ times n (right_calls f r)
  assigned_le s (right.Plain e) = omega arith
  assigned_le s (right.Call c) = put_le s.op s.place c

  declared_le : (d : Declr) (r : Option Right) → in_instruction (declared d r) ≤ times n (from_option (right_calls f) r)
  declared_le d None = omega arith
  declared_le d (Some (right.Plain e)) = omega arith
  declared_le d (Some (right.Call c)) = called_le (Some (expr.Var d.var d.at)) c

  started_le : (s : Start) → in_instruction (started s) ≤ times n (start_calls f s)
  started_le (start.Declare d) = declared_le d d.right
  started_le (start.Assign s) = assigned_le s s.right

  last_le : (s : Option Simple) → total in_instruction (last_row s) ≤ times n (from_option (simple_calls f) s)
  last_le None = omega arith
  last_le (Some s) = let one : in_instruction (assigned s s.right) ≤ times n (right_calls f s.right) = assigned_le s s.right in omega arith

  returned_le : (slot : Option ℕ) (r : Option Right) (offset : ℕ) → total in_part (map (λ a. One a) (returned slot r offset)) ≤ times n (from_option (right_calls f) r)
  returned_le slot None offset = omega arith
  returned_le slot (Some (right.Plain e)) offset = omega arith
  returned_le slot (Some (right.Call c)) offset = let one = called_le (option_map (λ x. expr.Var x offset) slot) c in omega arith

  abbrev in_last : Option Block → ℕ
  in_last last = of_any in_block last

  arms_le : (arms : List Arm) (last : Option Block) → total in_part (arm_parts arm_test arm_body arms ++ else_parts last) ≤ times n (flat_map (λ c. c) (map (arm_calls_in f) arms)) + in_last last
  arms_le [] None = omega arith
  arms_le [] (Some b) = omega arith
  arms_le (a ∷ arms) last =
      let rest : total in_part (arm_parts arm_test arm_body arms ++ else_parts last) ≤ times n (flat_map (λ c. c) (map (arm_calls_in f) arms)) + in_last last = arms_le arms last in
      let one : times n (arm_calls_in f a) ≡ in_block (arm_body a) = arm_opened a in
      let sum : times n (arm_calls_in f a ++ flat_map (λ c. c) (map (arm_calls_in f) arms)) ≡ times n (arm_calls_in f a) + times n (flat_map (λ c. c) (map (arm_calls_in f) arms)) = times_append n (arm_calls_in f a) _ in
      omega arith

  parts_le : (slot : Option ℕ) (x : Item-F Item Arm Block Piece) → total in_part (parts arm_test arm_body slot x) ≤ in_item x
  parts_le slot (Declare ds) =
      let flat : times n (flat_map (declr_calls f) ds) ≡ total (λ d. times n (declr_calls f d)) ds = times_flat n (declr_calls f) ds in
      let ones : total in_part (map (λ d. One (declared d d.right)) ds) ≡ total (λ d. in_instruction (declared d d.right)) ds = total_map in_part (λ d. One (declared d d.right)) ds in
      let less : total (λ d. in_instruction (declared d d.right)) ds ≤ total (λ d. times n (declr_calls f d)) ds = total_le (λ d. in_instruction (declared d d.right)) (λ d. times n (declr_calls f d)) (λ d. declared_le d d.right) ds in
      omega arith
  parts_le slot (Assign s) = let one : in_instruction (assigned s s.right) ≤ times n (right_calls f s.right) = assigned_le s s.right in omega arith
  parts_le slot (Do c) = let one : in_instruction (called None c) ≤ times n (call_calls f c) = called_le None c in omega arith
  parts_le slot (Nest b) = omega arith
  parts_le slot (If arms None) =
      let rest : total in_part (arm_parts arm_test arm_body arms ++ else_parts None) ≤ times n (flat_map (λ c. c) (map (arm_calls_in f) arms)) + in_last None = arms_le arms None in
      let sum : times n (flat_map (λ c. c) (map (arm_calls_in f) arms) ++ []) ≡ times n (flat_map (λ c. c) (map (arm_calls_in f) arms)) + 0 = times_append n (flat_map (λ c. c) (map (arm_calls_in f) arms)) [] in
      omega arith
  parts_le slot (If arms (Some b)) =
      let rest : total in_part (arm_parts arm_test arm_body arms ++ else_parts (Some b)) ≤ times n (flat_map (λ c. c) (map (arm_calls_in f) arms)) + in_last (Some b) = arms_le arms (Some b) in
      let sum : times n (flat_map (λ c. c) (map (arm_calls_in f) arms) ++ calls_in f b) ≡ times n (flat_map (λ c. c) (map (arm_calls_in f) arms)) + in_block b = times_append n (flat_map (λ c. c) (map (arm_calls_in f) arms)) (calls_in f b) in
      omega arith
  parts_le slot (While test b) = omega arith
  parts_le slot (For head b) =
      let sum : times n ((flat_map (start_calls f) head.start ++ from_option (simple_calls f) head.step) ++ calls_in f b) ≡ times n (head_calls f head) + in_block b = times_append n (head_calls f head) (calls_in f b) in
      let first : times n (head_calls f head) ≡ times n (flat_map (start_calls f) head.start) + times n (from_option (simple_calls f) head.step) = times_append n (flat_map (start_calls f) head.start) (from_option (simple_calls f) head.step) in
      let flat : times n (flat_map (start_calls f) head.start) ≡ total (λ s. times n (start_calls f s)) head.start = times_flat n (start_calls f) head.start in
      let ones : total in_instruction (map started head.start) ≡ total (λ s. in_instruction (started s)) head.start = total_map in_instruction started head.start in
      let less : total (λ s. in_instruction (started s)) head.start ≤ total (λ s. times n (start_calls f s)) head.start = total_le (λ s. in_instruction (started s)) (λ s. times n (start_calls f s)) started_le head.start in
      let step : total in_instruction (last_row head.step) ≤ times n (from_option (simple_calls f) head.step) = last_le head.step in
      omega arith
  parts_le slot Break = omega arith
  parts_le slot Continue = omega arith
  parts_le slot (Return value offset) = returned_le slot value offset

  -- what stands at places

  -- whether a call with the number n stands there
  abbrev at_spot : Spot → ℕ
  at_spot (AtGap g) = 0
  at_spot (AtAction a) = in_instruction (Some a)
  at_spot Nowhere = 0

  gap_none : (b : Block) (i : ℕ) (o : Option Piece) → at_spot (gap_at b i o) ≡ 0
  gap_none b i (Some p) = refl
  gap_none b i None = by_place (i == length (out-Block b).items)
    where
      by_place : (t : Bool) → at_spot (if t then AtGap (out-Block b).last_gap else Nowhere) ≡ 0
      by_place true = refl
      by_place false = refl

  instruction_le : (a : Option Instruction) → at_spot (instruction_spot a) ≤ in_instruction a
  instruction_le None = omega arith
  instruction_le (Some a) = omega arith

  row_le : (o : Option (Option Instruction)) → at_spot (row_spot o) ≤ of_any in_instruction o
  row_le None = omega arith
  row_le (Some a) = instruction_le a

  test_none : (o : Option Expr) → at_spot (test_spot o) ≡ 0
  test_none None = refl
  test_none (Some e) = refl

  -- in a part, where what stands in its block is known
  part_le : (inner : Block → Spot) (path : List ℕ) (part : Option (Part Block)) → ((b : Block) → at_spot (inner b) ≤ in_block b) → at_spot (spot_in inner path part) ≤ of_any in_part part
  part_le inner [] (Some (One a)) h = instruction_le a
  part_le inner (k ∷ []) (Some (One a)) h = omega arith
  part_le inner (k ∷ l ∷ path) (Some (One a)) h = omega arith
  part_le inner [] (Some (Row row)) h = omega arith
  part_le inner (k ∷ []) (Some (Row row)) h =
      let here : at_spot (row_spot (slice_get row k)) ≤ of_any in_instruction (slice_get row k) = row_le (slice_get row k) in
      let low : of_any in_instruction (slice_get row k) ≤ total in_instruction row = one_of in_instruction row k in
      omega arith
  part_le inner (k ∷ l ∷ path) (Some (Row row)) h = omega arith
  part_le inner [] (Some (Condition e)) h = let none : at_spot (test_spot (test_at [] e)) ≡ 0 = test_none (test_at [] e) in omega arith
  part_le inner (k ∷ []) (Some (Condition e)) h = let none : at_spot (test_spot (test_at (k ∷ []) e)) ≡ 0 = test_none (test_at (k ∷ []) e) in omega arith
  part_le inner (k ∷ l ∷ path) (Some (Condition e)) h = let none : at_spot (test_spot (test_at (k ∷ l ∷ path) e)) ≡ 0 = test_none (test_at (k ∷ l ∷ path) e) in omega arith
  part_le inner [] (Some (Within b)) h = h b
  part_le inner (k ∷ []) (Some (Within b)) h = h b
  part_le inner (k ∷ l ∷ path) (Some (Within b)) h = h b
  part_le inner [] None h = omega arith
  part_le inner (k ∷ []) None h = omega arith
  part_le inner (k ∷ l ∷ path) None h = omega arith

  item_le : (slot : Option ℕ) (k : ℕ) (o : Option (Item-F Item Arm Block Piece)) → of_any in_part (option_and_then (part_of slot k) o) ≤ of_any in_item o
  item_le slot k None = omega arith
  item_le slot k (Some x) =
      let one : of_any in_part (slice_get (parts arm_test arm_body slot x) k) ≤ total in_part (parts arm_test arm_body slot x) = one_of in_part (parts arm_test arm_body slot x) k in
      let all : total in_part (parts arm_test arm_body slot x) ≤ in_item x = parts_le slot x in
      omega arith

  items_le : (slot : Option ℕ) (k l : ℕ) (o : Option (Item-F Item Arm Block Piece)) → k ≢ l → of_any in_part (option_and_then (part_of slot k) o) + of_any in_part (option_and_then (part_of slot l) o) ≤ of_any in_item o
  items_le slot k l None other = omega arith
  items_le slot k l (Some x) other =
      let two : of_any in_part (slice_get (parts arm_test arm_body slot x) k) + of_any in_part (slice_get (parts arm_test arm_body slot x) l) ≤ total in_part (parts arm_test arm_body slot x) = two_of in_part (parts arm_test arm_body slot x) k l other in
      let all : total in_part (parts arm_test arm_body slot x) ≤ in_item x = parts_le slot x in
      omega arith

  at_piece : (o : Option Piece) → of_any in_item (option_map (λ p. out-Item (out-Piece p).item) o) ≡ of_any in_piece o
  at_piece None = refl
  at_piece (Some p) = refl

  block_le : (b : Block) (i : ℕ) → of_any in_item (item_at b i) ≤ in_block b
  block_le b i =
      let same : of_any in_item (item_at b i) ≡ of_any in_piece (slice_get (out-Block b).items i) = at_piece (slice_get (out-Block b).items i) in
      let one : of_any in_piece (slice_get (out-Block b).items i) ≤ total in_piece (out-Block b).items = one_of in_piece (out-Block b).items i in
      let all : in_block b ≡ total in_piece (out-Block b).items = block_opened b in
      omega arith

  blocks_le : (b : Block) (i j : ℕ) → i ≢ j → of_any in_item (item_at b i) + of_any in_item (item_at b j) ≤ in_block b
  blocks_le b i j other =
      let left : of_any in_item (item_at b i) ≡ of_any in_piece (slice_get (out-Block b).items i) = at_piece (slice_get (out-Block b).items i) in
      let right : of_any in_item (item_at b j) ≡ of_any in_piece (slice_get (out-Block b).items j) = at_piece (slice_get (out-Block b).items j) in
      let two : of_any in_piece (slice_get (out-Block b).items i) + of_any in_piece (slice_get (out-Block b).items j) ≤ total in_piece (out-Block b).items = two_of in_piece (out-Block b).items i j other in
      let all : in_block b ≡ total in_piece (out-Block b).items = block_opened b in
      omega arith

  -- at a path stands at most one of the calls of a block
  path_le : (slot : Option ℕ) (path : List ℕ) (b : Block) → at_spot (spot_of slot path b) ≤ in_block b
  path_le slot [] b = omega arith
  path_le slot (i ∷ []) b = let none : at_spot (gap_at b i (slice_get (out-Block b).items i)) ≡ 0 = gap_none b i (slice_get (out-Block b).items i) in omega arith
  path_le slot (i ∷ k ∷ path) b =
      let here : at_spot (spot_in (spot_of slot path) path (part_at slot b i k)) ≤ of_any in_part (part_at slot b i k) = part_le (spot_of slot path) path (part_at slot b i k) (path_le slot path) in
      let part : of_any in_part (part_at slot b i k) ≤ of_any in_item (item_at b i) = item_le slot k (item_at b i) in
      let item : of_any in_item (item_at b i) ≤ in_block b = block_le b i in
      omega arith

  -- two paths

  row_pair : (row : List (Option Instruction)) (k l : ℕ) → k ≢ l → at_spot (row_spot (slice_get row k)) + at_spot (row_spot (slice_get row l)) ≤ total in_instruction row
  row_pair row k l other =
      let left : at_spot (row_spot (slice_get row k)) ≤ of_any in_instruction (slice_get row k) = row_le (slice_get row k) in
      let right : at_spot (row_spot (slice_get row l)) ≤ of_any in_instruction (slice_get row l) = row_le (slice_get row l) in
      let two : of_any in_instruction (slice_get row k) + of_any in_instruction (slice_get row l) ≤ total in_instruction row = two_of in_instruction row k l other in
      omega arith

  test_spot_none : (inner : Block → Spot) (path : List ℕ) (e : Expr) → at_spot (spot_in inner path (Some (Condition e))) ≡ 0
  test_spot_none inner [] e = test_none (test_at [] e)
  test_spot_none inner (k ∷ []) e = test_none (test_at (k ∷ []) e)
  test_spot_none inner (k ∷ l ∷ path) e = test_none (test_at (k ∷ l ∷ path) e)

  no_part : (inner : Block → Spot) (path : List ℕ) → at_spot (spot_in inner path None) ≡ 0
  no_part inner [] = refl
  no_part inner (k ∷ []) = refl
  no_part inner (k ∷ l ∷ path) = refl

  behind_one : (inner : Block → Spot) (k : ℕ) (path : List ℕ) (a : Option Instruction) → at_spot (spot_in inner (k ∷ path) (Some (One a))) ≡ 0
  behind_one inner k [] a = refl
  behind_one inner k (l ∷ path) a = refl

  -- at two paths in one part
  abbrev PartPair : Option ℕ → List ℕ → List ℕ → Option (Part Block) → Type 0
  PartPair slot path way part = at_spot (spot_in (spot_of slot path) path part) + at_spot (spot_in (spot_of slot way) way part) ≤ of_any in_part part

  one_pair : (slot : Option ℕ) (path way : List ℕ) (a : Option Instruction) → path ≢ way → PartPair slot path way (Some (One a))
  one_pair slot [] [] a other = absurd (other refl)
  one_pair slot [] (l ∷ way) a other =
      let none : at_spot (spot_in (spot_of slot (l ∷ way)) (l ∷ way) (Some (One a))) ≡ 0 = behind_one (spot_of slot (l ∷ way)) l way a in
      let one : at_spot (instruction_spot a) ≤ in_instruction a = instruction_le a in
      omega arith
  one_pair slot (k ∷ path) way a other =
      let none : at_spot (spot_in (spot_of slot (k ∷ path)) (k ∷ path) (Some (One a))) ≡ 0 = behind_one (spot_of slot (k ∷ path)) k path a in
      let one : at_spot (spot_in (spot_of slot way) way (Some (One a))) ≤ in_instruction a = part_le (spot_of slot way) way (Some (One a)) (path_le slot way) in
      omega arith

  rows_pair : (slot : Option ℕ) (path way : List ℕ) (row : List (Option Instruction)) → path ≢ way → PartPair slot path way (Some (Row row))
  rows_pair slot [] way row other = let one : at_spot (spot_in (spot_of slot way) way (Some (Row row))) ≤ total in_instruction row = part_le (spot_of slot way) way (Some (Row row)) (path_le slot way) in omega arith
  rows_pair slot (k ∷ m ∷ path) way row other = let one : at_spot (spot_in (spot_of slot way) way (Some (Row row))) ≤ total in_instruction row = part_le (spot_of slot way) way (Some (Row row)) (path_le slot way) in omega arith
  rows_pair slot (k ∷ []) [] row other = let one : at_spot (row_spot (slice_get row k)) ≤ total in_instruction row = part_le (spot_of slot (k ∷ [])) (k ∷ []) (Some (Row row)) (path_le slot (k ∷ [])) in omega arith
  rows_pair slot (k ∷ []) (l ∷ []) row other = row_pair row k l (λ e. other (ap (λ (m : ℕ). m ∷ []) e))
  rows_pair slot (k ∷ []) (l ∷ m ∷ way) row other = let one : at_spot (row_spot (slice_get row k)) ≤ total in_instruction row = part_le (spot_of slot (k ∷ [])) (k ∷ []) (Some (Row row)) (path_le slot (k ∷ [])) in omega arith

  part_pair : (slot : Option ℕ) (path way : List ℕ) (part : Option (Part Block)) → path ≢ way → ((b : Block) → at_spot (spot_of slot path b) + at_spot (spot_of slot way b) ≤ in_block b) → PartPair slot path way part
  part_pair slot path way None other inner =
      let left : at_spot (spot_in (spot_of slot path) path None) ≡ 0 = no_part (spot_of slot path) path in
      let right : at_spot (spot_in (spot_of slot way) way None) ≡ 0 = no_part (spot_of slot way) way in
      omega arith
  part_pair slot path way (Some (One a)) other inner = one_pair slot path way a other
  part_pair slot path way (Some (Row row)) other inner = rows_pair slot path way row other
  part_pair slot path way (Some (Condition e)) other inner =
      let left : at_spot (spot_in (spot_of slot path) path (Some (Condition e))) ≡ 0 = test_spot_none (spot_of slot path) path e in
      let right : at_spot (spot_in (spot_of slot way) way (Some (Condition e))) ≡ 0 = test_spot_none (spot_of slot way) way e in
      omega arith
  part_pair slot path way (Some (Within b)) other inner =
      let left : at_spot (spot_in (spot_of slot path) path (Some (Within b))) ≡ at_spot (spot_of slot path b) = ap at_spot (spot_within (spot_of slot path) path b) in
      let right : at_spot (spot_in (spot_of slot way) way (Some (Within b))) ≡ at_spot (spot_of slot way b) = ap at_spot (spot_within (spot_of slot way) way b) in
      let both : at_spot (spot_of slot path b) + at_spot (spot_of slot way b) ≤ in_block b = inner b in
      omega arith

  -- at two paths in a block
  abbrev Pair : Option ℕ → List ℕ → List ℕ → Block → Type 0
  Pair slot path way b = at_spot (spot_of slot path b) + at_spot (spot_of slot way b) ≤ in_block b

  in_two_items : (slot : Option ℕ) (i k j l : ℕ) (path way : List ℕ) (b : Block) → i ≢ j → Pair slot (i ∷ k ∷ path) (j ∷ l ∷ way) b
  in_two_items slot i k j l path way b other =
      let left : at_spot (spot_in (spot_of slot path) path (part_at slot b i k)) ≤ of_any in_part (part_at slot b i k) = part_le (spot_of slot path) path (part_at slot b i k) (path_le slot path) in
      let right : at_spot (spot_in (spot_of slot way) way (part_at slot b j l)) ≤ of_any in_part (part_at slot b j l) = part_le (spot_of slot way) way (part_at slot b j l) (path_le slot way) in
      let one : of_any in_part (part_at slot b i k) ≤ of_any in_item (item_at b i) = item_le slot k (item_at b i) in
      let two : of_any in_part (part_at slot b j l) ≤ of_any in_item (item_at b j) = item_le slot l (item_at b j) in
      let both : of_any in_item (item_at b i) + of_any in_item (item_at b j) ≤ in_block b = blocks_le b i j other in
      omega arith

  in_two_parts : (slot : Option ℕ) (i k l : ℕ) (path way : List ℕ) (b : Block) → k ≢ l → Pair slot (i ∷ k ∷ path) (i ∷ l ∷ way) b
  in_two_parts slot i k l path way b other =
      let left : at_spot (spot_in (spot_of slot path) path (part_at slot b i k)) ≤ of_any in_part (part_at slot b i k) = part_le (spot_of slot path) path (part_at slot b i k) (path_le slot path) in
      let right : at_spot (spot_in (spot_of slot way) way (part_at slot b i l)) ≤ of_any in_part (part_at slot b i l) = part_le (spot_of slot way) way (part_at slot b i l) (path_le slot way) in
      let both : of_any in_part (part_at slot b i k) + of_any in_part (part_at slot b i l) ≤ of_any in_item (item_at b i) = items_le slot k l (item_at b i) other in
      let all : of_any in_item (item_at b i) ≤ in_block b = block_le b i in
      omega arith

  in_one_part : (slot : Option ℕ) (i k : ℕ) (path way : List ℕ) (b : Block) → PartPair slot path way (part_at slot b i k) → Pair slot (i ∷ k ∷ path) (i ∷ k ∷ way) b
  in_one_part slot i k path way b both =
      let part : of_any in_part (part_at slot b i k) ≤ of_any in_item (item_at b i) = item_le slot k (item_at b i) in
      let all : of_any in_item (item_at b i) ≤ in_block b = block_le b i in
      omega arith

  in_one_item : (slot : Option ℕ) (i k l : ℕ) (path way : List ℕ) (b : Block) → (i ∷ k ∷ path) ≢ (i ∷ l ∷ way) → (path ≢ way → (c : Block) → Pair slot path way c) → (t : Bool) → (k == l) ≡ t → Pair slot (i ∷ k ∷ path) (i ∷ l ∷ way) b
  in_one_item slot i k l path way b other inner true e =
      let same : k ≡ l = eqb-true k l e in
      let rest : path ≢ way = λ h. other (ap (λ (m : ℕ). i ∷ m ∷ path) same ∙ ap (λ (p : List ℕ). i ∷ l ∷ p) h) in
      subst (λ (m : ℕ). Pair slot (i ∷ k ∷ path) (i ∷ m ∷ way) b) same (in_one_part slot i k path way b (part_pair slot path way (part_at slot b i k) rest (inner rest)))
  in_one_item slot i k l path way b other inner false e = in_two_parts slot i k l path way b (eqb-false k l e)

  in_items : (slot : Option ℕ) (i k j l : ℕ) (path way : List ℕ) (b : Block) → (i ∷ k ∷ path) ≢ (j ∷ l ∷ way) → (path ≢ way → (c : Block) → Pair slot path way c) → (t : Bool) → (i == j) ≡ t → Pair slot (i ∷ k ∷ path) (j ∷ l ∷ way) b
  in_items slot i k j l path way b other inner true e =
      let same : i ≡ j = eqb-true i j e in
      subst (λ (m : ℕ). Pair slot (i ∷ k ∷ path) (m ∷ l ∷ way) b) same
      (in_one_item slot i k l path way b (λ h. other (h ∙ ap (λ (m : ℕ). m ∷ l ∷ way) same)) inner (k == l) refl)
  in_items slot i k j l path way b other inner false e = in_two_items slot i k j l path way b (eqb-false i j e)

  pair_le : (slot : Option ℕ) (path way : List ℕ) → path ≢ way → (b : Block) → Pair slot path way b
  pair_le slot [] way other b = let one : at_spot (spot_of slot way b) ≤ in_block b = path_le slot way b in omega arith
  pair_le slot (i ∷ []) way other b =
      let none : at_spot (gap_at b i (slice_get (out-Block b).items i)) ≡ 0 = gap_none b i (slice_get (out-Block b).items i) in
      let one : at_spot (spot_of slot way b) ≤ in_block b = path_le slot way b in
      omega arith
  pair_le slot (i ∷ k ∷ path) [] other b = let one : at_spot (spot_of slot (i ∷ k ∷ path) b) ≤ in_block b = path_le slot (i ∷ k ∷ path) b in omega arith
  pair_le slot (i ∷ k ∷ path) (j ∷ []) other b =
      let none : at_spot (gap_at b j (slice_get (out-Block b).items j)) ≡ 0 = gap_none b j (slice_get (out-Block b).items j) in
      let one : at_spot (spot_of slot (i ∷ k ∷ path) b) ≤ in_block b = path_le slot (i ∷ k ∷ path) b in
      omega arith
  pair_le slot (i ∷ k ∷ path) (j ∷ l ∷ way) other b = in_items slot i k j l path way b other (λ rest c. pair_le slot path way rest c) (i == j) refl

  -- at the closing brace stands no call
  brace_le : (p : Program) (d : FunDef) (path : List ℕ) → at_spot (spot_or_brace p f d path) ≤ at_spot (spot_of (result_slot p f) path d.body)
  brace_le p d [] = omega arith
  brace_le p d (i ∷ k ∷ path) = omega arith
  brace_le p d (i ∷ []) = by_place (i == brace_of d.body)
    where
      by_place : (t : Bool) → at_spot (if t then AtAction (closing p f d) else spot_of (result_slot p f) (i ∷ []) d.body) ≤ at_spot (spot_of (result_slot p f) (i ∷ []) d.body)
      by_place true = omega arith
      by_place false = omega arith

-- a number stands in a range once

abbrev occurs : ℕ → List ℕ → ℕ
occurs n xs = total (λ m. one_if (m == n)) xs

range_none : (n a k : ℕ) → n < a → occurs n (range_with_len a k) ≡ 0
range_none n a zero less = refl
range_none n a (suc k) less = by_first (a == n) refl (range_none n (a + 1) k (omega arith))
  where
    by_first : (t : Bool) → (a == n) ≡ t → occurs n (range_with_len (a + 1) k) ≡ 0 → one_if t + occurs n (range_with_len (a + 1) k) ≡ 0
    by_first true e rest = let same : a ≡ n = eqb-true a n e in absurd (omega arith)
    by_first false e rest = omega arith

range_once : (n a k : ℕ) → occurs n (range_with_len a k) ≤ 1
range_once n a zero = omega arith
range_once n a (suc k) = by_first (a == n) refl (range_once n (a + 1) k)
  where
    by_first : (t : Bool) → (a == n) ≡ t → occurs n (range_with_len (a + 1) k) ≤ 1 → one_if t + occurs n (range_with_len (a + 1) k) ≤ 1
    by_first true e rest =
        let same : a ≡ n = eqb-true a n e in
        let none : occurs n (range_with_len (a + 1) k) ≡ 0 = range_none n (a + 1) k (omega arith) in
        omega arith
    by_first false e rest = omega arith

body_le : (n g k : ℕ) (gs : List FunDef) (d : FunDef) → slice_get gs k ≡ Some d → times n (calls_in (g + k) d.body) ≤ times n (calls_from g gs)
body_le n g k [] d e = absurd cc
body_le n g zero (c ∷ gs) d e =
    let same : c ≡ d = cc in
    let first : g + 0 ≡ g = omega arith in
    let sum : times n (calls_in g c.body ++ calls_from (g + 1) gs) ≡ times n (calls_in g c.body) + times n (calls_from (g + 1) gs) = times_append n (calls_in g c.body) (calls_from (g + 1) gs) in
    let here : times n (calls_in (g + 0) d.body) ≡ times n (calls_in g c.body) = ap (λ (m : ℕ). times n (calls_in m d.body)) first ∙ ap (λ (b : FunDef). times n (calls_in g b.body)) (sym same) in
    omega arith
body_le n g (suc k) (c ∷ gs) d e =
    let place : g + suc k ≡ (g + 1) + k = omega arith in
    let rest : times n (calls_in ((g + 1) + k) d.body) ≤ times n (calls_from (g + 1) gs) = body_le n (g + 1) k gs d e in
    let here : times n (calls_in (g + suc k) d.body) ≡ times n (calls_in ((g + 1) + k) d.body) = ap (λ (m : ℕ). times n (calls_in m d.body)) place in
    let sum : times n (calls_in g c.body ++ calls_from (g + 1) gs) ≡ times n (calls_in g c.body) + times n (calls_from (g + 1) gs) = times_append n (calls_in g c.body) (calls_from (g + 1) gs) in
    omega arith

number_once : (p : Program) → IsWellFormed p → (n : ℕ) → times n (user_calls p) ≤ 1
number_once p w n =
    let same : times n (user_calls p) ≡ occurs n (range_with_len 0 p.calls) = sym (total_map (λ m. one_if (m == n)) (λ (c : UserCall). c.number) (user_calls p)) ∙ ap (occurs n) w.calls in
    let one : occurs n (range_with_len 0 p.calls) ≤ 1 = range_once n 0 p.calls in
    omega arith

module _ (p : Program) (w : IsWellFormed p) (f n : ℕ) where
  apart_paths : (d : FunDef) (path way : List ℕ) → slice_get p.funs f ≡ Some d → path ≢ way → at_spot f n (spot_or_brace p f d path) + at_spot f n (spot_or_brace p f d way) ≤ 1
  apart_paths d path way e other =
      let left : at_spot f n (spot_or_brace p f d path) ≤ at_spot f n (spot_of (result_slot p f) path d.body) = brace_le f n p d path in
      let right : at_spot f n (spot_or_brace p f d way) ≤ at_spot f n (spot_of (result_slot p f) way d.body) = brace_le f n p d way in
      let both : at_spot f n (spot_of (result_slot p f) path d.body) + at_spot f n (spot_of (result_slot p f) way d.body) ≤ times n (calls_in f d.body) = pair_le f n (result_slot p f) path way other d.body in
      let place : 0 + f ≡ f = omega arith in
      let body : times n (calls_in (0 + f) d.body) ≤ times n (user_calls p) = body_le n 0 f p.funs d e in
      let same : times n (calls_in (0 + f) d.body) ≡ times n (calls_in f d.body) = ap (λ (m : ℕ). times n (calls_in m d.body)) place in
      let once : times n (user_calls p) ≤ 1 = number_once p w n in
      omega arith

  call_there : (o : Option FunDef) (path : List ℕ) (g : ℕ) (es : List Expr) (t : Option ℕ) → spot_in_fun p f o path ≡ AtAction (Invoke n g es t) → at_spot f n (spot_in_fun p f o path) ≡ 1
  call_there o path g es t e = ap (at_spot f n) e ∙ ap one_if (eq-eqb n n refl)

  same_path : (o : Option FunDef) → slice_get p.funs f ≡ o → (path way : List ℕ) → at_spot f n (spot_in_fun p f o path) ≡ 1 → at_spot f n (spot_in_fun p f o way) ≡ 1 → (t : Bool) → pointwise nat_eq path way ≡ t → path ≡ way
  same_path o e path way here there true h = (list_decides nat_eq Decides-eqb path way).0 h
  same_path None e path way here there false h = absurd cc
  same_path (Some d) e path way here there false h =
      let other : path ≢ way = λ same. true≢false (sym ((list_decides nat_eq Decides-eqb path way).1 same) ∙ h) in
      let few : at_spot f n (spot_or_brace p f d path) + at_spot f n (spot_or_brace p f d way) ≤ 1 = apart_paths d path way e other in
      absurd (omega arith)

  -- two places of a function at which calls with the same number stand are one
  pub invoked_once : (path way : List ℕ) (g h : ℕ) (es others : List Expr) (t u : Option ℕ) → spot_in_fun p f (slice_get p.funs f) path ≡ AtAction (Invoke n g es t) → spot_in_fun p f (slice_get p.funs f) way ≡ AtAction (Invoke n h others u) → path ≡ way
  invoked_once path way g h es others t u here there =
      same_path (slice_get p.funs f) refl path way (call_there (slice_get p.funs f) path g es t here) (call_there (slice_get p.funs f) way h others u there) (pointwise nat_eq path way) refl
