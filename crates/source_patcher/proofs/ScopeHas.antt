-- What the variables have that are visible before a part and those that it declares, all in scope at its gaps have.
use Rattle.std.proofs.Common.{◌≡◌, ℕ, List, [], ◌∷◌, ◌++◌, map, flat_map, Some, None, sym, ap, subst, append-nil}
use Rattle.c_tree.specs.Numbers.{Numbers, arm_locals, block_locals, from_all, item_locals, locals_in, piece_locals, start_locals}
use Rattle.c_tree.specs.declared.program.Arm.{Arm, Arm-F, roll-Arm, fold-Arm, fold-roll-Arm, map-Arm}
use Rattle.c_tree.specs.declared.program.Block.{Block, Block-F, roll-Block, fold-roll-Block, map-Block, ind-Block}
use Rattle.c_tree.specs.declared.program.Declr.{Declr}
use Rattle.c_tree.specs.declared.program.FunDef.{FunDef}
use Rattle.c_tree.specs.declared.program.Gap.{Gap}
use Rattle.c_tree.specs.declared.program.Item.{Item, Item-F, roll-Item, fold-Item, fold-roll-Item, map-Item}
use Rattle.c_tree.specs.declared.program.Item.TheOpen.{Declare, Assign, Do, Nest, If, While, For, Break, Continue, Return}
use Rattle.c_tree.specs.declared.program.Piece.{Piece, Piece-F, roll-Piece, fold-Piece, fold-roll-Piece, map-Piece}
use Rattle.c_parser.specs.Offsets.{AllHave}
use Rattle.c_scopes.specs.ScopeAt.{GapScope, Part, Place, arm_layer, arm_place, behind_gap, block_layer, block_place, block_place_of, each_place, function_place, item_layer, item_part, piece_layer, piece_part}
use Rattle.source_patcher.proofs.SpelledBlocks.{all_both}

all_parts : {A : Type 0} (P : A → Type 0) (xs ys : List A) → AllHave P (xs ++ ys) → AllHave P xs × AllHave P ys
all_parts P [] ys h = (tt, h)
all_parts P (x ∷ xs) ys h = let rest = all_parts P xs ys h.1 in ((h.0, rest.0), rest.1)

module _ (Q : ℕ → Type 0) where
  abbrev pub RowHas : GapScope → Type 0
  RowHas r = AllHave Q r.vars

  abbrev PlaceHas : Place → Numbers → Type 0
  PlaceHas b locals = (seen : List ℕ) → AllHave Q seen → AllHave Q locals → AllHave RowHas (b seen)

  abbrev PartHas : Part → Numbers → Type 0
  PartHas p locals = (seen : List ℕ) → AllHave Q seen → AllHave Q locals → AllHave RowHas (p.gaps seen) × AllHave Q (seen ++ p.declares)

  abbrev item_locals_in : Item → Numbers
  item_locals_in = fold-Item Numbers Numbers Numbers Numbers item_locals arm_locals block_locals piece_locals

  abbrev arm_locals_in : Arm → Numbers
  arm_locals_in = fold-Arm Numbers Numbers Numbers Numbers item_locals arm_locals block_locals piece_locals

  abbrev piece_locals_in : Piece → Numbers
  piece_locals_in = fold-Piece Numbers Numbers Numbers Numbers item_locals arm_locals block_locals piece_locals

  abbrev ItemHas : Item → Type 0
  ItemHas i = PartHas (item_part i) (item_locals_in i)

  abbrev ArmHas : Arm → Type 0
  ArmHas a = PlaceHas (arm_place a) (arm_locals_in a)

  abbrev BlockHas : Block → Type 0
  BlockHas b = PlaceHas (block_place b) (locals_in b)

  abbrev PieceHas : Piece → Type 0
  PieceHas p = PartHas (piece_part p) (piece_locals_in p)

  closed_has : (b : Place) (locals : Numbers) → PlaceHas b locals → (seen : List ℕ) → AllHave Q seen → AllHave Q locals → AllHave RowHas (b seen) × AllHave Q (seen ++ [])
  closed_has b locals has seen h k = (has seen h k, subst (AllHave Q) (sym (append-nil seen)) h)

  arms_have : (arms : List ((a : Arm) × ArmHas a)) → PlaceHas (each_place (map arm_place (map (λ e. e.0) arms))) (from_all (map arm_locals_in (map (λ e. e.0) arms)))
  arms_have [] seen h k = tt
  arms_have (a ∷ arms) seen h k =
      let parts = all_parts Q (arm_locals_in a.0) (from_all (map arm_locals_in (map (λ e. e.0) arms))) k in
      all_both RowHas (arm_place a.0 seen) (each_place (map arm_place (map (λ e. e.0) arms)) seen) (a.1 seen h parts.0) (arms_have arms seen h parts.1)

  -- two places that see the same
  both_have : (b c : Place) (xs ys : Numbers) → PlaceHas b xs → PlaceHas c ys → PlaceHas (λ seen. b seen ++ c seen) (xs ++ ys)
  both_have b c xs ys first second seen h k =
      let parts = all_parts Q xs ys k in
      all_both RowHas (b seen) (c seen) (first seen h parts.0) (second seen h parts.1)

  nowhere_has : PlaceHas (λ seen. []) []
  nowhere_has seen h k = tt

  pieces_have : (ps : List ((p : Piece) × PieceHas p)) (last : Gap) → PlaceHas (block_place_of (map piece_part (map (λ e. e.0) ps)) last) (from_all (map piece_locals_in (map (λ e. e.0) ps)))
  pieces_have [] last seen h k = (h, tt)
  pieces_have (p ∷ ps) last seen h k =
      let parts = all_parts Q (piece_locals_in p.0) (from_all (map piece_locals_in (map (λ e. e.0) ps))) k in
      let here = p.1 seen h parts.0 in
      all_both RowHas ((piece_part p.0).gaps seen) (block_place_of (map piece_part (map (λ e. e.0) ps)) last (seen ++ (piece_part p.0).declares))
      here.0 (pieces_have ps last (seen ++ (piece_part p.0).declares) here.1 parts.1)

  abbrev ItemLayer : Type 0
  ItemLayer = Item-F ((i : Item) × ItemHas i) ((a : Arm) × ArmHas a) ((b : Block) × BlockHas b) ((p : Piece) × PieceHas p)

  abbrev bare : ItemLayer → Item-F Item Arm Block Piece
  bare = map-Item ((i : Item) × ItemHas i) ((a : Arm) × ArmHas a) ((b : Block) × BlockHas b) ((p : Piece) × PieceHas p) Item Arm Block Piece (λ e. e.0) (λ e. e.0) (λ e. e.0) (λ e. e.0)

  abbrev parted : Item-F Item Arm Block Piece → Item-F Part Place Place Part
  parted = map-Item Item Arm Block Piece Part Place Place Part item_part arm_place block_place piece_part

  abbrev located : Item-F Item Arm Block Piece → Item-F Numbers Numbers Numbers Numbers
  located = map-Item Item Arm Block Piece Numbers Numbers Numbers Numbers item_locals_in arm_locals_in locals_in piece_locals_in

  for_has : (xs : List ℕ) (b : Block) → BlockHas b → PlaceHas (λ seen. block_place b (seen ++ xs)) (xs ++ locals_in b)
  for_has xs b has seen h k =
      let parts = all_parts Q xs (locals_in b) k in
      has (seen ++ xs) (all_both Q seen xs h parts.0) parts.1

  layer_has : (y : ItemLayer) → PartHas (item_layer (parted (bare y))) (item_locals (located (bare y)))
  layer_has (Declare ds) = λ seen h k. (tt, all_both Q seen (map (λ (d : Declr). d.var) ds) h k)
  layer_has (Assign s) = closed_has (λ seen. []) [] nowhere_has
  layer_has (Do c) = closed_has (λ seen. []) [] nowhere_has
  layer_has (Nest b) = closed_has (block_place b.0) (locals_in b.0) b.1
  layer_has (If arms None) =
      let these = map (λ e. e.0) arms in
      closed_has (λ seen. each_place (map arm_place these) seen ++ []) (from_all (map arm_locals_in these) ++ [])
      (both_have (each_place (map arm_place these)) (λ seen. []) (from_all (map arm_locals_in these)) [] (arms_have arms) nowhere_has)
  layer_has (If arms (Some b)) =
      let these = map (λ e. e.0) arms in
      closed_has (λ seen. each_place (map arm_place these) seen ++ block_place b.0 seen) (from_all (map arm_locals_in these) ++ locals_in b.0)
      (both_have (each_place (map arm_place these)) (block_place b.0) (from_all (map arm_locals_in these)) (locals_in b.0) (arms_have arms) b.1)
  layer_has (While e b) = closed_has (block_place b.0) (locals_in b.0) b.1
  layer_has (For head b) =
      let starts = flat_map start_locals head.start in
      closed_has (λ seen. block_place b.0 (seen ++ starts)) (starts ++ locals_in b.0) (for_has starts b.0 b.1)
  layer_has Break = closed_has (λ seen. []) [] nowhere_has
  layer_has Continue = closed_has (λ seen. []) [] nowhere_has
  layer_has (Return r at) = closed_has (λ seen. []) [] nowhere_has

  moved_part : (p q : Part) (xs ys : Numbers) → p ≡ q → xs ≡ ys → PartHas p xs → PartHas q ys
  moved_part p q xs ys e f h = subst (λ r. PartHas r ys) e (subst (PartHas p) f h)

  moved_place : (b c : Place) (xs ys : Numbers) → b ≡ c → xs ≡ ys → PlaceHas b xs → PlaceHas c ys
  moved_place b c xs ys e f h = subst (λ r. PlaceHas r ys) e (subst (PlaceHas b) f h)

  step_item : (x : Item-F Item Arm Block Piece) (y : ItemLayer) → bare y ≡ x → ItemHas (roll-Item x)
  step_item x y is =
      moved_part (item_layer (parted x)) (item_part (roll-Item x)) (item_locals (located x)) (item_locals_in (roll-Item x))
      (sym (fold-roll-Item Part Place Place Part item_layer arm_layer block_layer piece_layer x))
      (sym (fold-roll-Item Numbers Numbers Numbers Numbers item_locals arm_locals block_locals piece_locals x))
      (subst (λ z. PartHas (item_layer (parted z)) (item_locals (located z))) is (layer_has y))

  step_arm : (x : Arm-F Item Arm Block Piece) (y : Arm-F ((i : Item) × ItemHas i) ((a : Arm) × ArmHas a) ((b : Block) × BlockHas b) ((p : Piece) × PieceHas p))
      → map-Arm ((i : Item) × ItemHas i) ((a : Arm) × ArmHas a) ((b : Block) × BlockHas b) ((p : Piece) × PieceHas p) Item Arm Block Piece (λ e. e.0) (λ e. e.0) (λ e. e.0) (λ e. e.0) y ≡ x → ArmHas (roll-Arm x)
  step_arm x y is =
      moved_place (block_place x.body) (arm_place (roll-Arm x)) (locals_in x.body) (arm_locals_in (roll-Arm x))
      (sym (fold-roll-Arm Part Place Place Part item_layer arm_layer block_layer piece_layer x))
      (sym (fold-roll-Arm Numbers Numbers Numbers Numbers item_locals arm_locals block_locals piece_locals x))
      (subst BlockHas (ap (λ (a : Arm-F Item Arm Block Piece). a.body) is) y.body.1)

  step_block : (x : Block-F Item Arm Block Piece) (y : Block-F ((i : Item) × ItemHas i) ((a : Arm) × ArmHas a) ((b : Block) × BlockHas b) ((p : Piece) × PieceHas p))
      → map-Block ((i : Item) × ItemHas i) ((a : Arm) × ArmHas a) ((b : Block) × BlockHas b) ((p : Piece) × PieceHas p) Item Arm Block Piece (λ e. e.0) (λ e. e.0) (λ e. e.0) (λ e. e.0) y ≡ x → BlockHas (roll-Block x)
  step_block x y is =
      moved_place (block_place_of (map piece_part x.items) x.last_gap) (block_place (roll-Block x)) (from_all (map piece_locals_in x.items)) (locals_in (roll-Block x))
      (sym (fold-roll-Block Part Place Place Part item_layer arm_layer block_layer piece_layer x))
      (sym (fold-roll-Block Numbers Numbers Numbers Numbers item_locals arm_locals block_locals piece_locals x))
      (subst (λ ps. PlaceHas (block_place_of (map piece_part ps) x.last_gap) (from_all (map piece_locals_in ps))) (ap (λ (b : Block-F Item Arm Block Piece). b.items) is) (pieces_have y.items x.last_gap))

  gap_has : (g : Gap) (i : Item) → ItemHas i → PartHas (behind_gap g (item_part i)) (item_locals_in i)
  gap_has g i has seen h k = let r = has seen h k in ((h, r.0), r.1)

  step_piece : (x : Piece-F Item Arm Block Piece) (y : Piece-F ((i : Item) × ItemHas i) ((a : Arm) × ArmHas a) ((b : Block) × BlockHas b) ((p : Piece) × PieceHas p))
      → map-Piece ((i : Item) × ItemHas i) ((a : Arm) × ArmHas a) ((b : Block) × BlockHas b) ((p : Piece) × PieceHas p) Item Arm Block Piece (λ e. e.0) (λ e. e.0) (λ e. e.0) (λ e. e.0) y ≡ x → PieceHas (roll-Piece x)
  step_piece x y is =
      moved_part (behind_gap x.gap (item_part x.item)) (piece_part (roll-Piece x)) (item_locals_in x.item) (piece_locals_in (roll-Piece x))
      (sym (fold-roll-Piece Part Place Place Part item_layer arm_layer block_layer piece_layer x))
      (sym (fold-roll-Piece Numbers Numbers Numbers Numbers item_locals arm_locals block_locals piece_locals x))
      (gap_has x.gap x.item (subst ItemHas (ap (λ (p : Piece-F Item Arm Block Piece). p.item) is) y.item.1))

  block_has : (b : Block) → BlockHas b
  block_has = ind-Block ItemHas ArmHas BlockHas PieceHas step_item step_arm step_block step_piece

  -- in a function, by the globals before it, its parameters and what its body declares
  pub function_has : (d : FunDef) (globals : List ℕ) → AllHave Q globals → AllHave Q (d.params ++ locals_in d.body) → AllHave RowHas (function_place d globals)
  function_has d globals h own =
      let parts = all_parts Q d.params (locals_in d.body) own in
      block_has d.body (globals ++ d.params) (all_both Q globals d.params h parts.0) parts.1
