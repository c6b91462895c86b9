-- A gap that stands at a path of a function is one of the gaps of the function's body.
use Rattle.std.proofs.Common.{◌≡◌, ℕ, zero, suc, ◌==◌, Bool, true, false, List, [], ◌∷◌, ◌++◌, map, length, slice_get, Option, Some, None, option_map, option_and_then, refl, ap, sym, subst, ◌∙◌, append_assoc}
use Rattle.std.specs.Prelude.{if◌then◌else◌}
use Rattle.c_tree.specs.Numbers.{Gaps, from_all, item_gaps, arm_gaps, block_gaps, piece_gaps, gaps_in}
use Rattle.c_tree.specs.declared.expr.Expr.{Expr}
use Rattle.c_tree.specs.declared.program.Arm.{Arm, fold-Arm, fold_out-Arm}
use Rattle.c_tree.specs.declared.program.Block.{Block, out-Block, fold_out-Block}
use Rattle.c_tree.specs.declared.program.FunDef.{FunDef}
use Rattle.c_tree.specs.declared.program.Gap.{Gap}
use Rattle.c_tree.specs.declared.program.Item.{Item, Item-F, out-Item, fold-Item, fold_out-Item, map-Item}
use Rattle.c_tree.specs.declared.program.Item.TheOpen.{Declare, Assign, Do, Nest, If, While, For, Break, Continue, Return}
use Rattle.c_tree.specs.declared.program.Piece.{Piece, out-Piece, fold-Piece, fold_out-Piece}
use Rattle.c_tree.specs.declared.program.Program.{Program}
use Rattle.c_meaning.specs.Parts.{Instruction, Part, One, Row, Condition, Within, declared, returned, arm_parts, else_parts}
use Rattle.c_meaning.specs.Place.{Spot, AtGap, AtAction, Nowhere, test_at, arm_test, arm_body, part_of, part_at, gap_at, instruction_spot, row_spot, test_spot, spot_in, spot_of, result_slot, brace_of, closing, spot_or_brace, spot_in_fun}
use Rattle.call_contexts.proofs.Has.{Has, first, later, has_left, has_right, has_get, has_flat, has_map}
use Rattle.c_graph.specs.Nodes.{spot_at}

-- the gaps of a part of a block
abbrev gaps_of_item : Item → Gaps
gaps_of_item = fold-Item Gaps Gaps Gaps Gaps item_gaps arm_gaps block_gaps piece_gaps

-- those of an arm
abbrev gaps_of_arm : Arm → Gaps
gaps_of_arm = fold-Arm Gaps Gaps Gaps Gaps item_gaps arm_gaps block_gaps piece_gaps

-- those of an item with its gap
abbrev gaps_of_piece : Piece → Gaps
gaps_of_piece = fold-Piece Gaps Gaps Gaps Gaps item_gaps arm_gaps block_gaps piece_gaps

-- an item with the gaps of its blocks
abbrev gapped : Item-F Item Arm Block Piece → Item-F Gaps Gaps Gaps Gaps
gapped = map-Item Item Arm Block Piece Gaps Gaps Gaps Gaps gaps_of_item gaps_of_arm gaps_in gaps_of_piece

-- an arm has the gaps of its block
arm_opened : (a : Arm) → gaps_of_arm a ≡ gaps_in (arm_body a)
arm_opened a = fold_out-Arm Gaps Gaps Gaps Gaps item_gaps arm_gaps block_gaps piece_gaps a

-- a piece has its gap and those of its item
piece_opened : (q : Piece) → gaps_of_piece q ≡ (out-Piece q).gap ∷ item_gaps (gapped (out-Item (out-Piece q).item))
piece_opened q =
    fold_out-Piece Gaps Gaps Gaps Gaps item_gaps arm_gaps block_gaps piece_gaps q
    ∙ ap (λ (gs : Gaps). (out-Piece q).gap ∷ gs) (fold_out-Item Gaps Gaps Gaps Gaps item_gaps arm_gaps block_gaps piece_gaps (out-Piece q).item)

-- a block has the gaps of its pieces and its last gap
block_opened : (b : Block) → gaps_in b ≡ from_all (map gaps_of_piece (out-Block b).items) ++ (out-Block b).last_gap ∷ []
block_opened b = fold_out-Block Gaps Gaps Gaps Gaps item_gaps arm_gaps block_gaps piece_gaps b

module _ (g : Gap) where
  -- a gap is one of a part that is a block
  abbrev PartHas : Option (Part Block) → Type 0
  PartHas (Some (Within b)) = Has g (gaps_in b)
  PartHas _ = ⊥

  -- of the parts of an item

  -- parts that are single instructions have no gaps
  no_ones : {A : Type 0} (f : A → Option Instruction) (xs : List A) (k : ℕ) → PartHas (slice_get (map (λ x. One (f x)) xs) k) → ⊥
  no_ones f [] k h = h
  no_ones f (x ∷ xs) zero h = h
  no_ones f (x ∷ xs) (suc k) h = no_ones f xs k h

  -- the gaps of the arms of an `if`, and of what is behind them
  arms_have : (arms : List Arm) (rest : List (Part Block)) (last : Gaps) → ((k : ℕ) → PartHas (slice_get rest k) → Has g last) → (k : ℕ) →
      PartHas (slice_get (arm_parts arm_test arm_body arms ++ rest) k) → Has g (from_all (map gaps_of_arm arms) ++ last)
  arms_have [] rest last behind k h = behind k h
  arms_have (a ∷ arms) rest last behind zero h = absurd h
  arms_have (a ∷ arms) rest last behind (suc zero) h = has_left last (has_left (from_all (map gaps_of_arm arms)) (subst (λ (gs : Gaps). Has g gs) (sym (arm_opened a)) h))
  arms_have (a ∷ arms) rest last behind (suc (suc k)) h =
      subst (λ (gs : Gaps). Has g gs) (sym (append_assoc (gaps_of_arm a) (from_all (map gaps_of_arm arms)) last)) (has_right (gaps_of_arm a) (arms_have arms rest last behind k h))

  -- without an `else` there is no part behind the arms
  no_else : (k : ℕ) → PartHas (slice_get (else_parts None) k) → Has g []
  no_else k h = absurd h

  -- with one there is its block
  one_else : (b : Block) (k : ℕ) → PartHas (slice_get (else_parts (Some b)) k) → Has g (gaps_in b)
  one_else b zero h = h
  one_else b (suc k) h = absurd h

  -- the gaps of an item, from those of its part k
  item_has : (slot : Option ℕ) (k : ℕ) (x : Item-F Item Arm Block Piece) → PartHas (part_of slot k x) → Has g (item_gaps (gapped x))
  item_has slot k (Declare ds) h = absurd (no_ones (λ d. declared d d.right) ds k h)
  item_has slot zero (Assign s) h = absurd h
  item_has slot (suc k) (Assign s) h = absurd h
  item_has slot zero (Do c) h = absurd h
  item_has slot (suc k) (Do c) h = absurd h
  item_has slot zero (Nest b) h = h
  item_has slot (suc k) (Nest b) h = absurd h
  item_has slot k (If arms None) h = arms_have arms [] [] no_else k h
  item_has slot k (If arms (Some b)) h = arms_have arms (Within b ∷ []) (gaps_in b) (one_else b) k h
  item_has slot zero (While e b) h = absurd h
  item_has slot (suc zero) (While e b) h = h
  item_has slot (suc (suc k)) (While e b) h = absurd h
  item_has slot zero (For head b) h = absurd h
  item_has slot (suc zero) (For head b) h = absurd h
  item_has slot (suc (suc zero)) (For head b) h = absurd h
  item_has slot (suc (suc (suc zero))) (For head b) h = h
  item_has slot (suc (suc (suc (suc k)))) (For head b) h = absurd h
  item_has slot k Break h = absurd h
  item_has slot k Continue h = absurd h
  item_has slot k (Return value at) h = absurd (no_ones (λ a. a) (returned slot value at) k h)

  -- of the items of a block

  -- the gaps of pieces, from those of part k of item i
  pieces_have : (slot : Option ℕ) (i k : ℕ) (items : List Piece) →
      PartHas (option_and_then (part_of slot k) (option_map (λ q. out-Item (out-Piece q).item) (slice_get items i))) → Has g (from_all (map gaps_of_piece items))
  pieces_have slot i k [] h = absurd h
  pieces_have slot zero k (q ∷ qs) h =
      has_left (from_all (map gaps_of_piece qs)) (subst (λ (gs : Gaps). Has g gs) (sym (piece_opened q)) (later (item_has slot k (out-Item (out-Piece q).item) h)))
  pieces_have slot (suc i) k (q ∷ qs) h = has_right (gaps_of_piece q) (pieces_have slot i k qs h)

  -- what stands in a part

  -- an instruction is no gap
  no_instruction : (a : Option Instruction) → instruction_spot a ≡ AtGap g → ⊥
  no_instruction None h = absurd cc
  no_instruction (Some a) h = absurd cc

  -- nor is one of a row
  no_row : (a : Option (Option Instruction)) → row_spot a ≡ AtGap g → ⊥
  no_row None h = absurd cc
  no_row (Some a) h = no_instruction a h

  -- nor is a test
  no_test : (e : Option Expr) → test_spot e ≡ AtGap g → ⊥
  no_test None h = absurd cc
  no_test (Some e) h = absurd cc

  -- nor is a place where nothing stands
  nowhere : Nowhere ≡ AtGap g → ⊥
  nowhere h = absurd cc

  -- a gap that stands in a part is one of the part
  part_has : (inner : Block → Spot) (path : List ℕ) → ((b : Block) → inner b ≡ AtGap g → Has g (gaps_in b)) → (part : Option (Part Block)) → spot_in inner path part ≡ AtGap g → PartHas part
  part_has inner [] below None h = nowhere h
  part_has inner [] below (Some (One a)) h = no_instruction a h
  part_has inner [] below (Some (Row row)) h = nowhere h
  part_has inner [] below (Some (Condition e)) h = no_test (test_at [] e) h
  part_has inner [] below (Some (Within b)) h = below b h
  part_has inner (k ∷ []) below None h = nowhere h
  part_has inner (k ∷ []) below (Some (One a)) h = nowhere h
  part_has inner (k ∷ []) below (Some (Row row)) h = no_row (slice_get row k) h
  part_has inner (k ∷ []) below (Some (Condition e)) h = no_test (test_at (k ∷ []) e) h
  part_has inner (k ∷ []) below (Some (Within b)) h = below b h
  part_has inner (k ∷ j ∷ path) below None h = nowhere h
  part_has inner (k ∷ j ∷ path) below (Some (One a)) h = nowhere h
  part_has inner (k ∷ j ∷ path) below (Some (Row row)) h = nowhere h
  part_has inner (k ∷ j ∷ path) below (Some (Condition e)) h = no_test (test_at (k ∷ j ∷ path) e) h
  part_has inner (k ∷ j ∷ path) below (Some (Within b)) h = below b h

  -- what stands in a block

  -- a gap of a block itself
  own_gap : (b : Block) (i : ℕ) (o : Option Piece) → slice_get (out-Block b).items i ≡ o → gap_at b i o ≡ AtGap g → Has g (gaps_in b)
  own_gap b i (Some q) is h =
      let same : (out-Piece q).gap ≡ g = cc in
      let front : Has g (gaps_of_piece q) = subst (λ (gs : Gaps). Has g gs) (sym (piece_opened q)) (subst (λ (z : Gap). Has z ((out-Piece q).gap ∷ item_gaps (gapped (out-Item (out-Piece q).item)))) same first) in
      subst (λ (gs : Gaps). Has g gs) (sym (block_opened b))
      (has_left ((out-Block b).last_gap ∷ []) (has_flat (λ (gs : Gaps). gs) (map gaps_of_piece (out-Block b).items) (has_map gaps_of_piece (has_get (out-Block b).items i is)) front))
  own_gap b i None is h = by_place (i == length (out-Block b).items) h
    where
      by_place : (t : Bool) → (if t then AtGap (out-Block b).last_gap else Nowhere) ≡ AtGap g → Has g (gaps_in b)
      by_place true h =
          let same : (out-Block b).last_gap ≡ g = cc in
          subst (λ (gs : Gaps). Has g gs) (sym (block_opened b)) (has_right (from_all (map gaps_of_piece (out-Block b).items)) (subst (λ (z : Gap). Has z ((out-Block b).last_gap ∷ [])) same first))
      by_place false h = absurd (nowhere h)

  -- a gap that stands at a path in a block is one of the block
  block_has : (slot : Option ℕ) (path : List ℕ) (b : Block) → spot_of slot path b ≡ AtGap g → Has g (gaps_in b)
  block_has slot [] b h = absurd (nowhere h)
  block_has slot (i ∷ []) b h = own_gap b i (slice_get (out-Block b).items i) refl h
  block_has slot (i ∷ k ∷ path) b h =
      subst (λ (gs : Gaps). Has g gs) (sym (block_opened b))
      (has_left ((out-Block b).last_gap ∷ []) (pieces_have slot i k (out-Block b).items (part_has (spot_of slot path) path (block_has slot path) (part_at slot b i k) h)))

  -- what stands in a function

  -- a place that may be the closing brace of the body
  by_brace : (p : Program) (f : ℕ) (d : FunDef) (i : ℕ) (t : Bool) → (if t then AtAction (closing p f d) else spot_of (result_slot p f) (i ∷ []) d.body) ≡ AtGap g → Has g (gaps_in d.body)
  by_brace p f d i true h = absurd cc
  by_brace p f d i false h = block_has (result_slot p f) (i ∷ []) d.body h

  -- a gap that stands at a path of a function is one of its body
  function_has : (p : Program) (f : ℕ) (d : FunDef) (path : List ℕ) → spot_or_brace p f d path ≡ AtGap g → Has g (gaps_in d.body)
  function_has p f d [] h = absurd (nowhere h)
  function_has p f d (i ∷ []) h = by_brace p f d i (i == brace_of d.body) h
  function_has p f d (i ∷ k ∷ path) h = block_has (result_slot p f) (i ∷ k ∷ path) d.body h

  -- a gap at a path of function f is one of its gaps
  pub gap_stands : (p : Program) (f : ℕ) (path : List ℕ) → spot_at p f path ≡ AtGap g → (d : FunDef) × (slice_get p.funs f ≡ Some d) × Has g (gaps_in d.body)
  gap_stands p f path stands = by_function (slice_get p.funs f) refl stands
    where
      by_function : (o : Option FunDef) → slice_get p.funs f ≡ o → spot_in_fun p f o path ≡ AtGap g → (d : FunDef) × (slice_get p.funs f ≡ Some d) × Has g (gaps_in d.body)
      by_function None at h = absurd (nowhere h)
      by_function (Some d) at h = (d, at, function_has p f d path h)
