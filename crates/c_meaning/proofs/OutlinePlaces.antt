-- The outline of a function has the same places as the function.
use Rattle.std.proofs.Common.{◌≡◌, ℕ, List, [], ◌∷◌, ◌++◌, map, slice_get, Option, Some, None, option_map, refl, ap, sym, subst, ◌∙◌}
use Rattle.std.proofs.lemmas.Option.{slice_get-map}
use Rattle.c_tree.specs.Alike.{bare_expr, bare_head, bare_item, IsAlike}
use Rattle.c_tree.specs.Fill.{emptied, skeleton}
use Rattle.c_tree.proofs.Rebuilds.{in_item, in_arm, in_block, in_piece, rebuilt_rebuilds}
use Rattle.c_tree.specs.declared.expr.Expr.{Expr}
use Rattle.c_tree.specs.declared.program.Block.{Block, Block-F, roll-Block, fold-roll-Block, map-Block, ind-Block}
use Rattle.c_tree.specs.declared.program.Piece.{Piece, Piece-F, roll-Piece, fold-Piece, fold-roll-Piece, map-Piece}
use Rattle.c_tree.specs.declared.program.Item.{Item, Item-F, roll-Item, fold-Item, fold-roll-Item, map-Item}
use Rattle.c_tree.specs.declared.program.Item.TheOpen.{Declare, Assign, Do, Nest, If, While, For, Break, Continue, Return}
use Rattle.c_tree.specs.declared.program.Arm.{Arm, Arm-F, roll-Arm, fold-Arm, fold-roll-Arm, map-Arm}
use Rattle.c_tree.specs.declared.program.Gap.{Gap}
use Rattle.c_tree.specs.declared.program.FunDef.{FunDef}
use Rattle.c_tree.specs.declared.program.Program.{Program}
use Rattle.c_meaning.specs.Parts.{Instruction, Part, One, Row, Condition, Within, parts}
use Rattle.c_meaning.specs.Place.{numbered, instruction_places, places_in, item_places, arm_places, block_places, piece_places, places_of, result_slot, brace_of, places_in_fun}
use Rattle.c_meaning.proofs.BareTests.{tests_bare}
use Rattle.c_meaning.proofs.BareParts.{bare_action, bare_part, bare_item_of, parts_bare}
use Rattle.c_meaning.proofs.Outlines.{outline_layers, outlines, outline_fun, outline, brace_same, slot_of_outline, empty_outline}

-- what stands for a block and an arm where places are listed
abbrev Paths : Type 0
Paths = List (List ℕ)

abbrev Tested : Type 0
Tested = Expr × Paths

abbrev bare_tested : Tested → Tested
bare_tested a = (bare_expr a.0, a.1)

-- a part without offsets has the places of the part

action_places : (a : Option Instruction) → instruction_places (bare_action a) ≡ instruction_places a
action_places None = refl
action_places (Some a) = refl

row_places : (row : List (Option Instruction)) → map instruction_places (map bare_action row) ≡ map instruction_places row
row_places [] = refl
row_places (a ∷ row) = ap (λ (ps : Paths). ps ∷ map instruction_places (map bare_action row)) (action_places a) ∙ ap (λ (pss : List Paths). instruction_places a ∷ pss) (row_places row)

part_places : (part : Part Paths) → places_in (bare_part (λ b. b) part) ≡ places_in part
part_places (One a) = action_places a
part_places (Row row) = ap (numbered 0) (row_places row)
part_places (Condition e) = tests_bare e
part_places (Within ps) = refl

all_places : (ps : List (Part Paths)) → map places_in (map (bare_part (λ b. b)) ps) ≡ map places_in ps
all_places [] = refl
all_places (p ∷ ps) = ap (λ (q : Paths). q ∷ map places_in (map (bare_part (λ b. b)) ps)) (part_places p) ∙ ap (λ (qs : List Paths). places_in p ∷ qs) (all_places ps)

item_places_bare : (slot : Option ℕ) (x : Item-F Paths Tested Paths Paths) → item_places slot (bare_item_of bare_tested (λ b. b) x) ≡ item_places slot x
item_places_bare slot x =
    ap (λ (ps : List (Part Paths)). numbered 0 (map places_in ps)) (parts_bare bare_tested (λ b. b) (λ a. a.0) (λ a. a.1) (λ a. a.0) (λ a. a.1) (λ a. refl) (λ a. refl) slot x)
    ∙ ap (numbered 0) (all_places (parts (λ a. a.0) (λ a. a.1) slot x))

module _ (h : Gap → Gap) (slot : Option ℕ) where
  abbrev of_item : Item → Paths
  of_item = fold-Item Paths Tested Paths Paths (item_places slot) arm_places block_places piece_places

  abbrev of_arm : Arm → Tested
  of_arm = fold-Arm Paths Tested Paths Paths (item_places slot) arm_places block_places piece_places

  abbrev of_piece : Piece → Paths
  of_piece = fold-Piece Paths Tested Paths Paths (item_places slot) arm_places block_places piece_places

  abbrev ItemSame : Item → Type 0
  ItemSame i = of_item ((outlines h).item i) ≡ of_item i

  abbrev ArmSame : Arm → Type 0
  ArmSame a = of_arm ((outlines h).arm a) ≡ bare_tested (of_arm a)

  abbrev BlockSame : Block → Type 0
  BlockSame b = places_of slot ((outlines h).block b) ≡ places_of slot b

  abbrev PieceSame : Piece → Type 0
  PieceSame p = of_piece ((outlines h).piece p) ≡ of_piece p

  -- a layer with the places of its parts

  abbrev placed_item : Item-F Item Arm Block Piece → Item-F Paths Tested Paths Paths
  placed_item = map-Item Item Arm Block Piece Paths Tested Paths Paths of_item of_arm (places_of slot) of_piece

  abbrev plain_item : Item-F ((i : Item) × ItemSame i) ((a : Arm) × ArmSame a) ((b : Block) × BlockSame b) ((p : Piece) × PieceSame p) → Item-F Item Arm Block Piece
  plain_item = map-Item ((i : Item) × ItemSame i) ((a : Arm) × ArmSame a) ((b : Block) × BlockSame b) ((p : Piece) × PieceSame p) Item Arm Block Piece (λ e. e.0) (λ e. e.0) (λ e. e.0) (λ e. e.0)

  arms_same : (xs : List ((a : Arm) × ArmSame a)) → map of_arm (map (outlines h).arm (map (λ e. e.0) xs)) ≡ map bare_tested (map of_arm (map (λ e. e.0) xs))
  arms_same [] = refl
  arms_same (x ∷ xs) = ap (λ (y : Tested). y ∷ map of_arm (map (outlines h).arm (map (λ e. e.0) xs))) x.1 ∙ ap (λ (ys : List Tested). bare_tested (of_arm x.0) ∷ ys) (arms_same xs)

  pieces_same : (xs : List ((p : Piece) × PieceSame p)) → map of_piece (map (outlines h).piece (map (λ e. e.0) xs)) ≡ map of_piece (map (λ e. e.0) xs)
  pieces_same [] = refl
  pieces_same (x ∷ xs) = ap (λ (y : Paths). y ∷ map of_piece (map (outlines h).piece (map (λ e. e.0) xs))) x.1 ∙ ap (λ (ys : List Paths). of_piece x.0 ∷ ys) (pieces_same xs)

  abbrev made_if : List Tested → Option Paths → Item-F Paths Tested Paths Paths
  made_if arms otherwise = If arms otherwise

  held_item : (y : Item-F ((i : Item) × ItemSame i) ((a : Arm) × ArmSame a) ((b : Block) × BlockSame b) ((p : Piece) × PieceSame p)) →
      placed_item (bare_item (in_item (outlines h) (plain_item y))) ≡ bare_item_of bare_tested (λ b. b) (placed_item (plain_item y))
  held_item (Declare ds) = refl
  held_item (Assign s) = refl
  held_item (Do c) = refl
  held_item (Nest b) = ap (λ (ps : Paths). Nest ps) b.1
  held_item (If arms None) = ap (λ (xs : List Tested). made_if xs None) (arms_same arms)
  held_item (If arms (Some b)) =
      ap (λ (xs : List Tested). made_if xs (Some (places_of slot ((outlines h).block b.0)))) (arms_same arms)
      ∙ ap (λ (ps : Paths). made_if (map bare_tested (map of_arm (map (λ e. e.0) arms))) (Some ps)) b.1
  held_item (While test b) = ap (λ (ps : Paths). While (bare_expr test) ps) b.1
  held_item (For head b) = ap (λ (ps : Paths). For (bare_head head) ps) b.1
  held_item Break = refl
  held_item Continue = refl
  held_item (Return value offset) = refl

  step_item : (x : Item-F Item Arm Block Piece) (y : Item-F ((i : Item) × ItemSame i) ((a : Arm) × ArmSame a) ((b : Block) × BlockSame b) ((p : Piece) × PieceSame p)) → plain_item y ≡ x → ItemSame (roll-Item x)
  step_item x y is =
      let held = subst (λ (z : Item-F Item Arm Block Piece). placed_item (bare_item (in_item (outlines h) z)) ≡ bare_item_of bare_tested (λ b. b) (placed_item z)) is (held_item y) in
      ap of_item ((rebuilt_rebuilds (outline_layers h)).item x)
      ∙ fold-roll-Item Paths Tested Paths Paths (item_places slot) arm_places block_places piece_places (bare_item (in_item (outlines h) x))
      ∙ ap (item_places slot) held
      ∙ item_places_bare slot (placed_item x)
      ∙ sym (fold-roll-Item Paths Tested Paths Paths (item_places slot) arm_places block_places piece_places x)

  abbrev plain_arm : Arm-F ((i : Item) × ItemSame i) ((a : Arm) × ArmSame a) ((b : Block) × BlockSame b) ((p : Piece) × PieceSame p) → Arm-F Item Arm Block Piece
  plain_arm = map-Arm ((i : Item) × ItemSame i) ((a : Arm) × ArmSame a) ((b : Block) × BlockSame b) ((p : Piece) × PieceSame p) Item Arm Block Piece (λ e. e.0) (λ e. e.0) (λ e. e.0) (λ e. e.0)

  abbrev tested : Expr → Paths → Tested
  tested e ps = (e, ps)

  step_arm : (x : Arm-F Item Arm Block Piece) (y : Arm-F ((i : Item) × ItemSame i) ((a : Arm) × ArmSame a) ((b : Block) × BlockSame b) ((p : Piece) × PieceSame p)) → plain_arm y ≡ x → ArmSame (roll-Arm x)
  step_arm x y is =
      let held : BlockSame x.body = subst (λ (z : Arm-F Item Arm Block Piece). BlockSame z.body) is y.body.1 in
      ap of_arm ((rebuilt_rebuilds (outline_layers h)).arm x)
      ∙ fold-roll-Arm Paths Tested Paths Paths (item_places slot) arm_places block_places piece_places ((outline_layers h).arm (in_arm (outlines h) x))
      ∙ ap (tested (bare_expr x.test)) held
      ∙ ap bare_tested (sym (fold-roll-Arm Paths Tested Paths Paths (item_places slot) arm_places block_places piece_places x))

  abbrev plain_block : Block-F ((i : Item) × ItemSame i) ((a : Arm) × ArmSame a) ((b : Block) × BlockSame b) ((p : Piece) × PieceSame p) → Block-F Item Arm Block Piece
  plain_block = map-Block ((i : Item) × ItemSame i) ((a : Arm) × ArmSame a) ((b : Block) × BlockSame b) ((p : Piece) × PieceSame p) Item Arm Block Piece (λ e. e.0) (λ e. e.0) (λ e. e.0) (λ e. e.0)

  step_block : (x : Block-F Item Arm Block Piece) (y : Block-F ((i : Item) × ItemSame i) ((a : Arm) × ArmSame a) ((b : Block) × BlockSame b) ((p : Piece) × PieceSame p)) → plain_block y ≡ x → BlockSame (roll-Block x)
  step_block x y is =
      let held = subst (λ (z : Block-F Item Arm Block Piece). map of_piece (map (outlines h).piece z.items) ≡ map of_piece z.items) is (pieces_same y.items) in
      ap (places_of slot) ((rebuilt_rebuilds (outline_layers h)).block x)
      ∙ fold-roll-Block Paths Tested Paths Paths (item_places slot) arm_places block_places piece_places ((outline_layers h).block (in_block (outlines h) x))
      ∙ ap (λ (pss : List Paths). numbered 0 (pss ++ (([] ∷ []) ∷ []))) held
      ∙ sym (fold-roll-Block Paths Tested Paths Paths (item_places slot) arm_places block_places piece_places x)

  abbrev plain_piece : Piece-F ((i : Item) × ItemSame i) ((a : Arm) × ArmSame a) ((b : Block) × BlockSame b) ((p : Piece) × PieceSame p) → Piece-F Item Arm Block Piece
  plain_piece = map-Piece ((i : Item) × ItemSame i) ((a : Arm) × ArmSame a) ((b : Block) × BlockSame b) ((p : Piece) × PieceSame p) Item Arm Block Piece (λ e. e.0) (λ e. e.0) (λ e. e.0) (λ e. e.0)

  step_piece : (x : Piece-F Item Arm Block Piece) (y : Piece-F ((i : Item) × ItemSame i) ((a : Arm) × ArmSame a) ((b : Block) × BlockSame b) ((p : Piece) × PieceSame p)) → plain_piece y ≡ x → PieceSame (roll-Piece x)
  step_piece x y is =
      let held : ItemSame x.item = subst (λ (z : Piece-F Item Arm Block Piece). ItemSame z.item) is y.item.1 in
      ap of_piece ((rebuilt_rebuilds (outline_layers h)).piece x)
      ∙ fold-roll-Piece Paths Tested Paths Paths (item_places slot) arm_places block_places piece_places ((outline_layers h).piece (in_piece (outlines h) x))
      ∙ ap (λ (ps : Paths). [] ∷ ps) held
      ∙ sym (fold-roll-Piece Paths Tested Paths Paths (item_places slot) arm_places block_places piece_places x)

  -- a block and its outline have the same places
  pub places_same : (b : Block) → places_of slot ((outlines h).block b) ≡ places_of slot b
  places_same = ind-Block ItemSame ArmSame BlockSame PieceSame step_item step_arm step_block step_piece

-- and so have a function and its outline
pub places_fun_same : (h : Gap → Gap) (p : Program) (f : ℕ) (d : FunDef) → places_in_fun (outline h p) f (outline_fun h d) ≡ places_in_fun p f d
places_fun_same h p f d =
    ap (λ (s : Option ℕ). places_of s ((outlines h).block d.body) ++ ((brace_of ((outlines h).block d.body) ∷ []) ∷ [])) (slot_of_outline h p f)
    ∙ ap (λ (ps : Paths). ps ++ ((brace_of ((outlines h).block d.body) ∷ []) ∷ [])) (places_same h (result_slot p f) d.body)
    ∙ ap (λ (k : ℕ). places_of (result_slot p f) d.body ++ ((k ∷ []) ∷ [])) (brace_same h d.body)

places_of_fun : (h : Gap → Gap) (p : Program) (f : ℕ) (d : Option FunDef) → option_map (places_in_fun (outline h p) f) (option_map (outline_fun h) d) ≡ option_map (places_in_fun p f) d
places_of_fun h p f None = refl
places_of_fun h p f (Some d) = ap (λ (ps : Paths). Some ps) (places_fun_same h p f d)

places_outlined : (h : Gap → Gap) (p : Program) (f : ℕ) → option_map (places_in_fun (outline h p) f) (slice_get (outline h p).funs f) ≡ option_map (places_in_fun p f) (slice_get p.funs f)
places_outlined h p f = ap (option_map (places_in_fun (outline h p) f)) (slice_get-map (outline_fun h) p.funs f) ∙ places_of_fun h p f (slice_get p.funs f)

-- two programs of one outline have the same places, function by function
pub places_meet : (h : Gap → Gap) (p q : Program) → outline h p ≡ outline h q → (f : ℕ) → option_map (places_in_fun p f) (slice_get p.funs f) ≡ option_map (places_in_fun q f) (slice_get q.funs f)
places_meet h p q e f = sym (places_outlined h p f) ∙ ap (λ (x : Program). option_map (places_in_fun x f) (slice_get x.funs f)) e ∙ places_outlined h q f

-- and so have two programs whose skeletons are alike, as a program and its fills
pub places_of_skeletons : (p q : Program) → IsAlike (skeleton p) (skeleton q) → (f : ℕ) → option_map (places_in_fun p f) (slice_get p.funs f) ≡ option_map (places_in_fun q f) (slice_get q.funs f)
places_of_skeletons p q e = places_meet emptied p q (sym (empty_outline p) ∙ e ∙ empty_outline q)
