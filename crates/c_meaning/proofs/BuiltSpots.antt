-- What stands at the paths of a block that was rebuilt layer by layer, where its parts are kept but for what
-- is done to gaps, instructions and expressions.
use Rattle.std.proofs.Common.{◌≡◌, ℕ, ◌+◌, ◌==◌, Bool, true, false, List, [], ◌∷◌, map, length, slice_get, Option, Some, None, option_map, option_and_then, refl, ap, sym, ◌∙◌}
use Rattle.std.specs.Prelude.{if◌then◌else◌}
use Rattle.std.proofs.lemmas.List.{length-map}
use Rattle.std.proofs.lemmas.Option.{slice_get-map}
use Rattle.c_tree.proofs.Rebuilds.{Maps, Layers, in_item, in_block, in_piece, rebuilt}
use Rattle.c_tree.specs.declared.expr.Expr.{Expr}
use Rattle.c_tree.specs.declared.program.Block.{Block, Block-F, out-Block}
use Rattle.c_tree.specs.declared.program.Piece.{Piece, Piece-F, out-Piece}
use Rattle.c_tree.specs.declared.program.Item.{Item, Item-F, out-Item}
use Rattle.c_tree.specs.declared.program.Arm.{Arm}
use Rattle.c_tree.specs.declared.program.Gap.{Gap}
use Rattle.c_tree.specs.declared.program.FunDef.{FunDef}
use Rattle.c_tree.specs.declared.program.Program.{Program}
use Rattle.c_meaning.specs.Parts.{Instruction, Test, Part, One, Row, Condition, Within, parts as parts_of}
use Rattle.c_meaning.specs.Place.{Spot, AtGap, AtAction, Nowhere, test_at, arm_test, arm_body, item_at, part_of, part_at, gap_at, instruction_spot, row_spot, test_spot, spot_in, spot_of, result_slot, brace_of, closing, spot_or_brace}
use Rattle.c_meaning.proofs.Opened.{rebuilt_block, rebuilt_piece, rebuilt_item}
use Rattle.c_meaning.proofs.BareParts.{mapped_part}

-- the layers l keep what stands at paths, but for h of gaps and the functions on instructions and expressions
pub record Keeps (l : Layers) (h : Gap → Gap) (instruction : Instruction → Instruction) (expr : Expr → Expr) : Type 0 where
  pub items : (x : Block-F Item Arm Block Piece) → (l.block x).items ≡ x.items
  pub last : (x : Block-F Item Arm Block Piece) → (l.block x).last_gap ≡ h x.last_gap
  pub gap : (x : Piece-F Item Arm Block Piece) → (l.piece x).gap ≡ h x.gap
  pub item : (x : Piece-F Item Arm Block Piece) → (l.piece x).item ≡ x.item
  pub tests : (path : List ℕ) (e : Expr) → test_at path (expr e) ≡ option_map expr (test_at path e)
  pub tested : (e : Expr) → instruction (Test e) ≡ Test (expr e)
  pub parts : (slot : Option ℕ) (x : Item-F Item Arm Block Piece) → parts_of arm_test arm_body slot (l.item (in_item (rebuilt l) x)) ≡ map (mapped_part instruction expr (rebuilt l).block) (parts_of arm_test arm_body slot x)

abbrev pub mapped_spot : (Gap → Gap) → (Instruction → Instruction) → Spot → Spot
mapped_spot h instruction (AtGap g) = AtGap (h g)
mapped_spot h instruction (AtAction a) = AtAction (instruction a)
mapped_spot h instruction Nowhere = Nowhere

module _ (l : Layers) (h : Gap → Gap) (instruction : Instruction → Instruction) (expr : Expr → Expr) (keeps : Keeps l h instruction expr) where
  abbrev built : Maps
  built = rebuilt l

  abbrev item_of : Item-F Item Arm Block Piece → Item-F Item Arm Block Piece
  item_of x = l.item (in_item built x)

  abbrev part_of_built : Part Block → Part Block
  part_of_built = mapped_part instruction expr built.block

  abbrev spot_of_built : Spot → Spot
  spot_of_built = mapped_spot h instruction

  items_out : (b : Block) → (out-Block (built.block b)).items ≡ map built.piece (out-Block b).items
  items_out b = ap (λ (c : Block-F Item Arm Block Piece). c.items) (rebuilt_block l b) ∙ keeps.items (in_block built (out-Block b))

  piece_same : (b : Block) (i : ℕ) → slice_get (out-Block (built.block b)).items i ≡ option_map built.piece (slice_get (out-Block b).items i)
  piece_same b i = ap (λ (ps : List Piece). slice_get ps i) (items_out b) ∙ slice_get-map built.piece (out-Block b).items i

  pub count_same : (b : Block) → length (out-Block (built.block b)).items ≡ length (out-Block b).items
  count_same b = ap (λ (ps : List Piece). length ps) (items_out b) ∙ length-map (out-Block b).items built.piece

  item_of_piece : (p : Piece) → out-Item (out-Piece (built.piece p)).item ≡ item_of (out-Item (out-Piece p).item)
  item_of_piece p = ap (λ (q : Piece-F Item Arm Block Piece). out-Item q.item) (rebuilt_piece l p) ∙ ap (λ (i : Item). out-Item i) (keeps.item (in_piece built (out-Piece p))) ∙ rebuilt_item l (out-Piece p).item

  item_of_option : (o : Option Piece) → option_map (λ p. out-Item (out-Piece p).item) (option_map built.piece o) ≡ option_map item_of (option_map (λ p. out-Item (out-Piece p).item) o)
  item_of_option None = refl
  item_of_option (Some p) = ap (λ (x : Item-F Item Arm Block Piece). Some x) (item_of_piece p)

  pub item_same : (b : Block) (i : ℕ) → item_at (built.block b) i ≡ option_map item_of (item_at b i)
  item_same b i = ap (λ (o : Option Piece). option_map (λ p. out-Item (out-Piece p).item) o) (piece_same b i) ∙ item_of_option (slice_get (out-Block b).items i)

  pub part_same : (slot : Option ℕ) (k : ℕ) (x : Item-F Item Arm Block Piece) → part_of slot k (item_of x) ≡ option_map (part_of_built) (part_of slot k x)
  part_same slot k x = ap (λ (ps : List (Part Block)). slice_get ps k) (keeps.parts slot x) ∙ slice_get-map (part_of_built) (parts_of arm_test arm_body slot x) k

  part_of_option : (slot : Option ℕ) (k : ℕ) (o : Option (Item-F Item Arm Block Piece)) → option_and_then (part_of slot k) (option_map item_of o) ≡ option_map (part_of_built) (option_and_then (part_of slot k) o)
  part_of_option slot k None = refl
  part_of_option slot k (Some x) = part_same slot k x

  pub part_at_same : (slot : Option ℕ) (b : Block) (i k : ℕ) → part_at slot (built.block b) i k ≡ option_map (part_of_built) (part_at slot b i k)
  part_at_same slot b i k = ap (option_and_then (part_of slot k)) (item_same b i) ∙ part_of_option slot k (item_at b i)

  -- what stands at a path

  action_spot : (a : Option Instruction) → instruction_spot (option_map instruction a) ≡ spot_of_built (instruction_spot a)
  action_spot None = refl
  action_spot (Some a) = refl

  row_same : (a : Option (Option Instruction)) → row_spot (option_map (option_map instruction) a) ≡ spot_of_built (row_spot a)
  row_same None = refl
  row_same (Some a) = action_spot a

  test_same : (e : Option Expr) → test_spot (option_map expr e) ≡ spot_of_built (test_spot e)
  test_same None = refl
  test_same (Some e) = ap (λ (a : Instruction). AtAction a) (sym (keeps.tested e))

  condition_spot : (path : List ℕ) (e : Expr) → test_spot (test_at path (expr e)) ≡ spot_of_built (test_spot (test_at path e))
  condition_spot path e = ap test_spot (keeps.tests path e) ∙ test_same (test_at path e)

  row_at_same : (row : List (Option Instruction)) (k : ℕ) → row_spot (slice_get (map (option_map instruction) row) k) ≡ spot_of_built (row_spot (slice_get row k))
  row_at_same row k = ap row_spot (slice_get-map (option_map instruction) row k) ∙ row_same (slice_get row k)

  spot_in_same : (inner : Block → Spot) → ((b : Block) → inner (built.block b) ≡ spot_of_built (inner b)) → (path : List ℕ) (part : Option (Part Block)) →
      spot_in inner path (option_map (part_of_built) part) ≡ spot_of_built (spot_in inner path part)
  spot_in_same inner same [] None = refl
  spot_in_same inner same [] (Some (One a)) = action_spot a
  spot_in_same inner same [] (Some (Row row)) = refl
  spot_in_same inner same [] (Some (Condition e)) = condition_spot [] e
  spot_in_same inner same [] (Some (Within b)) = same b
  spot_in_same inner same (k ∷ []) None = refl
  spot_in_same inner same (k ∷ []) (Some (One a)) = refl
  spot_in_same inner same (k ∷ []) (Some (Row row)) = row_at_same row k
  spot_in_same inner same (k ∷ []) (Some (Condition e)) = condition_spot (k ∷ []) e
  spot_in_same inner same (k ∷ []) (Some (Within b)) = same b
  spot_in_same inner same (k ∷ j ∷ path) None = refl
  spot_in_same inner same (k ∷ j ∷ path) (Some (One a)) = refl
  spot_in_same inner same (k ∷ j ∷ path) (Some (Row row)) = refl
  spot_in_same inner same (k ∷ j ∷ path) (Some (Condition e)) = condition_spot (k ∷ j ∷ path) e
  spot_in_same inner same (k ∷ j ∷ path) (Some (Within b)) = same b

  past_items : (b : Block) (t : Bool) → (if t then AtGap (out-Block (built.block b)).last_gap else Nowhere) ≡ spot_of_built (if t then AtGap (out-Block b).last_gap else Nowhere)
  past_items b true = ap (λ (c : Block-F Item Arm Block Piece). AtGap c.last_gap) (rebuilt_block l b) ∙ ap (λ (g : Gap). AtGap g) (keeps.last (in_block built (out-Block b)))
  past_items b false = refl

  gap_same : (b : Block) (i : ℕ) (o : Option Piece) → gap_at (built.block b) i (option_map built.piece o) ≡ spot_of_built (gap_at b i o)
  gap_same b i (Some p) = ap (λ (q : Piece-F Item Arm Block Piece). AtGap q.gap) (rebuilt_piece l p) ∙ ap (λ (g : Gap). AtGap g) (keeps.gap (in_piece built (out-Piece p)))
  gap_same b i None =
      ap (λ (n : ℕ). if i == n then AtGap (out-Block (built.block b)).last_gap else Nowhere) (count_same b)
      ∙ past_items b (i == length (out-Block b).items)

  pub spot_same : (slot : Option ℕ) (path : List ℕ) (b : Block) → spot_of slot path (built.block b) ≡ spot_of_built (spot_of slot path b)
  spot_same slot [] b = refl
  spot_same slot (i ∷ []) b = ap (gap_at (built.block b) i) (piece_same b i) ∙ gap_same b i (slice_get (out-Block b).items i)
  spot_same slot (i ∷ k ∷ path) b = ap (spot_in (spot_of slot path) path) (part_at_same slot b i k) ∙ spot_in_same (spot_of slot path) (spot_same slot path) path (part_at slot b i k)

  -- a function whose body was rebuilt

  brace_built : (p q : Program) (f : ℕ) (d e : FunDef) (i : ℕ) (t : Bool) → closing q f e ≡ instruction (closing p f d) →
      (if t then AtAction (closing q f e) else spot_of (result_slot p f) (i ∷ []) (built.block d.body)) ≡ spot_of_built (if t then AtAction (closing p f d) else spot_of (result_slot p f) (i ∷ []) d.body)
  brace_built p q f d e i true close = ap (λ (a : Instruction). AtAction a) close
  brace_built p q f d e i false close = spot_same (result_slot p f) (i ∷ []) d.body

  pub spot_or_built : (p q : Program) (f : ℕ) (d e : FunDef) → result_slot q f ≡ result_slot p f → e.body ≡ built.block d.body → closing q f e ≡ instruction (closing p f d) → (path : List ℕ) →
      spot_or_brace q f e path ≡ spot_of_built (spot_or_brace p f d path)
  spot_or_built p q f d e slot body close [] = refl
  spot_or_built p q f d e slot body close (i ∷ []) =
      ap (λ (b : Block). if i == brace_of b then AtAction (closing q f e) else spot_of (result_slot q f) (i ∷ []) b) body
      ∙ ap (λ (n : ℕ). if i == n + 1 then AtAction (closing q f e) else spot_of (result_slot q f) (i ∷ []) (built.block d.body)) (count_same d.body)
      ∙ ap (λ (s : Option ℕ). if i == brace_of d.body then AtAction (closing q f e) else spot_of s (i ∷ []) (built.block d.body)) slot
      ∙ brace_built p q f d e i (i == brace_of d.body) close
  spot_or_built p q f d e slot body close (i ∷ k ∷ path) =
      ap (λ (b : Block). spot_of (result_slot q f) (i ∷ k ∷ path) b) body ∙ ap (λ (s : Option ℕ). spot_of s (i ∷ k ∷ path) (built.block d.body)) slot ∙ spot_same (result_slot p f) (i ∷ k ∷ path) d.body
