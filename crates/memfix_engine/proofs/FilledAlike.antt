-- A program that is filled with what stands in its gaps is alike.
use Rattle.std.proofs.Common.{◌≡◌, false, List, [], ◌∷◌, ◌++◌, map, flat_map, Some, None, refl, ap, sym, subst, ◌∙◌}
use Rattle.c_tree.specs.Alike.{IsAlike, bare_block, bare_expr, bare_fun, bare_gap, bare_item, bare_struct, bare_var}
use Rattle.c_tree.specs.Fill.{fill, filled, regapped_block, regapped_fun}
use Rattle.c_tree.specs.Numbers.{Gaps, arm_gaps, block_gaps, from_all, gaps_in, gaps_of, item_gaps, piece_gaps}
use Rattle.c_tree.specs.declared.choice.Choice.{Choice}
use Rattle.c_tree.specs.declared.choice.Put.{Put}
use Rattle.c_tree.specs.declared.program.Arm.{Arm, Arm-F, roll-Arm, fold-roll-Arm, map-Arm}
use Rattle.c_tree.specs.declared.program.Block.{Block, Block-F, roll-Block, fold-roll-Block, map-Block, ind-Block}
use Rattle.c_tree.specs.declared.program.FunDef.{FunDef}
use Rattle.c_tree.specs.declared.program.Gap.{Gap}
use Rattle.c_tree.specs.declared.program.Item.{Item, Item-F, roll-Item, fold-roll-Item, map-Item}
use Rattle.c_tree.specs.declared.program.Item.TheOpen.{Declare, Assign, Do, Nest, If, While, For, Break, Continue, Return}
use Rattle.c_tree.specs.declared.program.Piece.{Piece, Piece-F, roll-Piece, fold-roll-Piece, map-Piece}
use Rattle.c_tree.specs.declared.program.Program.{Program}
use Rattle.c_tree.proofs.AlikeBlock.{bare_layers}
use Rattle.c_tree.proofs.Fills.{gap_layers, gaps_commute}
use Rattle.c_tree.proofs.Rebuilds.{Layers, Maps, Rebuilds, after, after_rebuilds, in_item, rebuilt, rebuilt_rebuilds}
use Rattle.memfix_engine.specs.OwnPuts.{arm_gaps_in, gap_puts, item_gaps_in, piece_gaps_in}
use Rattle.memfix_engine.proofs.BareGaps.{AreHeld, held_by, bare_rebuilds, bared, gap_alike, item_gapped, same_head, split_same}

module _ (puts : List Put) where
  -- what becomes of a layer that is filled and then bare
  abbrev both_layers : Layers
  both_layers = record {
    item = bare_item;
    arm = λ a. record a { test = bare_expr a.test };
    block = λ b. record b { last_gap = bare_gap (filled puts b.last_gap); braced = false; start = 0; end = 0 };
    piece = λ p. record p { gap = bare_gap (filled puts p.gap); start = 0; end = 0 };
  }

  -- parts that are filled and then bare
  abbrev both : Maps
  both = after (rebuilt bare_layers) (rebuilt (gap_layers (filled puts)))

  -- what becomes of each part, by its layer
  both_rebuilds : Rebuilds both both_layers
  both_rebuilds = after_rebuilds (rebuilt bare_layers) (rebuilt (gap_layers (filled puts))) bare_layers (gap_layers (filled puts)) both_layers
      (rebuilt_rebuilds bare_layers) (rebuilt_rebuilds (gap_layers (filled puts)))
      (gaps_commute (rebuilt bare_layers) (filled puts)) (record { item = λ x. refl; arm = λ x. refl; block = λ x. refl; piece = λ x. refl })

  -- an item whose gaps hold their puts is alike when it is filled
  abbrev ItemAlike : Item → Type 0
  ItemAlike i = AreHeld puts (item_gaps_in i) → both.item i ≡ bared.item i

  -- the same of an arm
  abbrev ArmAlike : Arm → Type 0
  ArmAlike a = AreHeld puts (arm_gaps_in a) → both.arm a ≡ bared.arm a

  -- the same of a block
  abbrev BlockAlike : Block → Type 0
  BlockAlike b = AreHeld puts (gaps_in b) → both.block b ≡ bared.block b

  -- the same of a piece
  abbrev PieceAlike : Piece → Type 0
  PieceAlike p = AreHeld puts (piece_gaps_in p) → both.piece p ≡ bared.piece p

  -- parts in turn
  parts_alike : {A : Type 0} (f h : A → A) (gaps : A → Gaps) (xs : List ((x : A) × (AreHeld puts (gaps x) → f x ≡ h x)))
      → AreHeld puts (from_all (map gaps (map (λ e. e.0) xs))) → map f (map (λ e. e.0) xs) ≡ map h (map (λ e. e.0) xs)
  parts_alike f h gaps [] e = refl
  parts_alike {A} f h gaps (x ∷ xs) e =
      let two = split_same gap_puts (held_by puts) (gaps x.0) (from_all (map gaps (map (λ e. e.0) xs))) e in
      ap (λ (y : A). y ∷ map f (map (λ e. e.0) xs)) (x.1 two.0) ∙ ap (λ (ys : List A). h x.0 ∷ ys) (parts_alike f h gaps xs two.1)

  -- an item's layer with the claim for each part
  abbrev AlikeLayer : Type 0
  AlikeLayer = Item-F ((i : Item) × ItemAlike i) ((a : Arm) × ArmAlike a) ((b : Block) × BlockAlike b) ((p : Piece) × PieceAlike p)

  -- the layer without the claims
  abbrev plain : AlikeLayer → Item-F Item Arm Block Piece
  plain = map-Item ((i : Item) × ItemAlike i) ((a : Arm) × ArmAlike a) ((b : Block) × BlockAlike b) ((p : Piece) × PieceAlike p) Item Arm Block Piece (λ e. e.0) (λ e. e.0) (λ e. e.0) (λ e. e.0)

  -- the claim for the layer of an item
  item_alike : (y : AlikeLayer) → AreHeld puts (item_gaps (item_gapped (plain y))) → in_item both (plain y) ≡ in_item bared (plain y)
  item_alike (Declare ds) e = refl
  item_alike (Assign s) e = refl
  item_alike (Do c) e = refl
  item_alike (Nest b) e = ap (λ (c : Block). Nest c) (b.1 e)
  item_alike (If arms None) e =
      let two = split_same gap_puts (held_by puts) (from_all (map arm_gaps_in (map (λ e. e.0) arms))) [] e in
      ap (λ (xs : List Arm). If xs None) (parts_alike both.arm bared.arm arm_gaps_in arms two.0)
  item_alike (If arms (Some b)) e =
      let two = split_same gap_puts (held_by puts) (from_all (map arm_gaps_in (map (λ e. e.0) arms))) (gaps_in b.0) e in
      ap (λ (xs : List Arm). If xs (Some (both.block b.0))) (parts_alike both.arm bared.arm arm_gaps_in arms two.0)
      ∙ ap (λ (c : Block). If (map bared.arm (map (λ e. e.0) arms)) (Some c)) (b.1 two.1)
  item_alike (While test b) e = ap (λ (c : Block). While test c) (b.1 e)
  item_alike (For head b) e = ap (λ (c : Block). For head c) (b.1 e)
  item_alike Break e = refl
  item_alike Continue e = refl
  item_alike (Return r at) e = refl

  -- the claim for an item
  step_item : (x : Item-F Item Arm Block Piece) (y : AlikeLayer) → plain y ≡ x → ItemAlike (roll-Item x)
  step_item x y is e =
      let held : AreHeld puts (item_gaps (item_gapped x)) = subst (AreHeld puts) (fold-roll-Item Gaps Gaps Gaps Gaps item_gaps arm_gaps block_gaps piece_gaps x) e in
      let same = subst (λ (z : Item-F Item Arm Block Piece). AreHeld puts (item_gaps (item_gapped z)) → in_item both z ≡ in_item bared z) is (item_alike y) held in
      both_rebuilds.item x ∙ ap (λ (z : Item-F Item Arm Block Piece). roll-Item (bare_item z)) same ∙ sym (bare_rebuilds.item x)

  -- the claim for an arm
  step_arm : (x : Arm-F Item Arm Block Piece) (y : Arm-F ((i : Item) × ItemAlike i) ((a : Arm) × ArmAlike a) ((b : Block) × BlockAlike b) ((p : Piece) × PieceAlike p))
      → map-Arm ((i : Item) × ItemAlike i) ((a : Arm) × ArmAlike a) ((b : Block) × BlockAlike b) ((p : Piece) × PieceAlike p) Item Arm Block Piece (λ e. e.0) (λ e. e.0) (λ e. e.0) (λ e. e.0) y ≡ x → ArmAlike (roll-Arm x)
  step_arm x y is e =
      let held : AreHeld puts (gaps_in x.body) = subst (AreHeld puts) (fold-roll-Arm Gaps Gaps Gaps Gaps item_gaps arm_gaps block_gaps piece_gaps x) e in
      let body : y.body.0 ≡ x.body = ap (λ (a : Arm-F Item Arm Block Piece). a.body) is in
      both_rebuilds.arm x ∙ ap (λ (b : Block). roll-Arm (record { test = bare_expr x.test; body = b })) (subst BlockAlike body y.body.1 held) ∙ sym (bare_rebuilds.arm x)

  -- the claim for a block
  step_block : (x : Block-F Item Arm Block Piece) (y : Block-F ((i : Item) × ItemAlike i) ((a : Arm) × ArmAlike a) ((b : Block) × BlockAlike b) ((p : Piece) × PieceAlike p))
      → map-Block ((i : Item) × ItemAlike i) ((a : Arm) × ArmAlike a) ((b : Block) × BlockAlike b) ((p : Piece) × PieceAlike p) Item Arm Block Piece (λ e. e.0) (λ e. e.0) (λ e. e.0) (λ e. e.0) y ≡ x → BlockAlike (roll-Block x)
  step_block x y is e =
      let held : AreHeld puts (from_all (map piece_gaps_in x.items) ++ x.last_gap ∷ []) = subst (AreHeld puts) (fold-roll-Block Gaps Gaps Gaps Gaps item_gaps arm_gaps block_gaps piece_gaps x) e in
      let two = split_same gap_puts (held_by puts) (from_all (map piece_gaps_in x.items)) (x.last_gap ∷ []) held in
      let items : map (λ e. e.0) y.items ≡ x.items = ap (λ (b : Block-F Item Arm Block Piece). b.items) is in
      let same : map both.piece x.items ≡ map bared.piece x.items =
      subst (λ (ps : List Piece). AreHeld puts (from_all (map piece_gaps_in ps)) → map both.piece ps ≡ map bared.piece ps) items (parts_alike both.piece bared.piece piece_gaps_in y.items) two.0 in
      let gap : bare_gap (filled puts x.last_gap) ≡ bare_gap x.last_gap = gap_alike puts x.last_gap (same_head (gap_puts x.last_gap) (held_by puts x.last_gap) [] [] two.1) in
      both_rebuilds.block x
      ∙ ap (λ (ps : List Piece). roll-Block (record { items = ps; last_gap = bare_gap (filled puts x.last_gap); braced = false; start = 0; end = 0 })) same
      ∙ ap (λ (g : Gap). roll-Block (record { items = map bared.piece x.items; last_gap = g; braced = false; start = 0; end = 0 })) gap
      ∙ sym (bare_rebuilds.block x)

  -- the claim for a piece
  step_piece : (x : Piece-F Item Arm Block Piece) (y : Piece-F ((i : Item) × ItemAlike i) ((a : Arm) × ArmAlike a) ((b : Block) × BlockAlike b) ((p : Piece) × PieceAlike p))
      → map-Piece ((i : Item) × ItemAlike i) ((a : Arm) × ArmAlike a) ((b : Block) × BlockAlike b) ((p : Piece) × PieceAlike p) Item Arm Block Piece (λ e. e.0) (λ e. e.0) (λ e. e.0) (λ e. e.0) y ≡ x → PieceAlike (roll-Piece x)
  step_piece x y is e =
      let held : AreHeld puts (x.gap ∷ item_gaps_in x.item) = subst (AreHeld puts) (fold-roll-Piece Gaps Gaps Gaps Gaps item_gaps arm_gaps block_gaps piece_gaps x) e in
      let two = split_same gap_puts (held_by puts) (x.gap ∷ []) (item_gaps_in x.item) held in
      let item : y.item.0 ≡ x.item = ap (λ (p : Piece-F Item Arm Block Piece). p.item) is in
      let same : both.item x.item ≡ bared.item x.item = subst ItemAlike item y.item.1 two.1 in
      let gap : bare_gap (filled puts x.gap) ≡ bare_gap x.gap = gap_alike puts x.gap (same_head (gap_puts x.gap) (held_by puts x.gap) [] [] two.0) in
      both_rebuilds.piece x
      ∙ ap (λ (i : Item). roll-Piece (record { gap = bare_gap (filled puts x.gap); item = i; start = 0; end = 0 })) same
      ∙ ap (λ (g : Gap). roll-Piece (record { gap = g; item = bared.item x.item; start = 0; end = 0 })) gap
      ∙ sym (bare_rebuilds.piece x)

  -- a block whose gaps hold their puts is alike when it is filled
  block_alike : (b : Block) → AreHeld puts (gaps_in b) → bare_block (regapped_block (filled puts) b) ≡ bare_block b
  block_alike = ind-Block ItemAlike ArmAlike BlockAlike PieceAlike step_item step_arm step_block step_piece

  -- functions whose gaps do
  funs_alike : (ds : List FunDef) → AreHeld puts (flat_map (λ (d : FunDef). gaps_in d.body) ds) → map bare_fun (map (regapped_fun (filled puts)) ds) ≡ map bare_fun ds
  funs_alike [] e = refl
  funs_alike (d ∷ ds) e =
      let two = split_same gap_puts (held_by puts) (gaps_in d.body) (flat_map (λ (d : FunDef). gaps_in d.body) ds) e in
      ap (λ (b : Block). record { name = d.name; result = d.result; params = d.params; body = b; at = 0 } ∷ map bare_fun (map (regapped_fun (filled puts)) ds)) (block_alike d.body two.0)
      ∙ ap (λ (xs : List FunDef). bare_fun d ∷ xs) (funs_alike ds two.1)

-- where the frees of each gap are those of its puts, the program that is filled with them is alike
pub held_alike : (p : Program) (s : Choice) → AreHeld s.puts (gaps_of p) → IsAlike (fill p s) p
held_alike p s e = ap (λ (ds : List FunDef). record { structs = map bare_struct p.structs; vars = map bare_var p.vars; funs = ds; main = p.main; gaps = p.gaps; calls = p.calls }) (funs_alike s.puts p.funs e)
