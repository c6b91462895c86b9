-- The test of a block decides whether the bare forms of two blocks without frees are equal.
use Rattle.std.proofs.Common.{◌≡◌, ℕ, Bool, false, ◌==◌, ◌&&◌, List, [], map, Option, Some, None, option_map, refl, ap, sym, subst, ◌∙◌}
use Rattle.std.specs.Bool.{Decides}
use Rattle.std.specs.Cmp.Lexicographic.{pointwise}
use Rattle.std.proofs.lemmas.Bool.Decides.{Decides-and, Decides-like, Decides-at, Decides-eqb}
use Rattle.c_tree.specs.Fill.{emptied, regapped_block}
use Rattle.c_tree.specs.Alike.{bare_expr, bare_right, bare_declr, bare_gap, bare_item, bare_block}
use Rattle.c_tree.specs.AlikeTest.{option_alike, alike_expr, alike_call, alike_right, alike_declr, alike_simple, alike_head, item_layer, arm_layer, block_layer, piece_layer, on_item, on_arm, on_block, on_piece, alike_item, alike_arm, alike_block, alike_piece}
use Rattle.c_tree.proofs.Deciders.{pointwise_decides, option_decides, held_decides, held_option_decides}
use Rattle.c_tree.proofs.AlikeExpr.{expr_decides}
use Rattle.c_tree.proofs.AlikeParts.{call_decides, right_decides, declr_decides, simple_decides, head_decides}
use Rattle.c_tree.proofs.Rebuilds.{Maps, Layers, in_item, in_arm, in_block, in_piece, rebuilt, rebuilt_rebuilds, after, after_rebuilds, same_block}
use Rattle.c_tree.proofs.Fills.{gap_layers, gaps_commute}
use Rattle.c_tree.specs.declared.program.Block.{Block, Block-F, roll-Block, out-Block, out-roll-Block, roll-out-Block, map-Block, fold-roll-Block, ind-Block}
use Rattle.c_tree.specs.declared.program.Piece.{Piece, Piece-F, roll-Piece, out-Piece, out-roll-Piece, roll-out-Piece, map-Piece, fold-roll-Piece}
use Rattle.c_tree.specs.declared.program.Item.{Item, Item-F, roll-Item, out-Item, out-roll-Item, roll-out-Item, map-Item, fold-roll-Item}
use Rattle.c_tree.specs.declared.program.Item.TheOpen.{Declare, Assign, Do, Nest, If, While, For, Break, Continue, Return}
use Rattle.c_tree.specs.declared.program.Arm.{Arm, Arm-F, roll-Arm, out-Arm, out-roll-Arm, roll-out-Arm, map-Arm, fold-roll-Arm}

-- no offsets, no frees, and no braces

abbrev pub bare_layers : Layers
bare_layers = record {
  item = bare_item;
  arm = λ a. record a { test = bare_expr a.test };
  block = λ b. record b { last_gap = bare_gap b.last_gap; braced = false; start = 0; end = 0 };
  piece = λ p. record p { gap = bare_gap p.gap; start = 0; end = 0 };
}

abbrev pub outline_layers : Layers
outline_layers = record {
  item = bare_item;
  arm = λ a. record a { test = bare_expr a.test };
  block = λ b. record b { last_gap = record { number = b.last_gap.number; frees = [] }; braced = false; start = 0; end = 0 };
  piece = λ p. record p { gap = record { number = p.gap.number; frees = [] }; start = 0; end = 0 };
}

abbrev pub outline : Maps
outline = rebuilt outline_layers

pub outline_is : (b : Block) → bare_block (regapped_block emptied b) ≡ outline.block b
outline_is = same_block (after (rebuilt bare_layers) (rebuilt (gap_layers emptied))) outline outline_layers
    (after_rebuilds (rebuilt bare_layers) (rebuilt (gap_layers emptied)) bare_layers (gap_layers emptied) outline_layers (rebuilt_rebuilds bare_layers) (rebuilt_rebuilds (gap_layers emptied))
    (gaps_commute (rebuilt bare_layers) emptied) (record { item = λ x. refl; arm = λ x. refl; block = λ x. refl; piece = λ x. refl }))
    (rebuilt_rebuilds outline_layers)

abbrev DecidedItem : Item → Type 0
DecidedItem a = (b : Item) → Decides (alike_item a b) (outline.item a ≡ outline.item b)

abbrev DecidedArm : Arm → Type 0
DecidedArm a = (b : Arm) → Decides (alike_arm a b) (outline.arm a ≡ outline.arm b)

abbrev DecidedBlock : Block → Type 0
DecidedBlock a = (b : Block) → Decides (alike_block a b) (outline.block a ≡ outline.block b)

abbrev DecidedPiece : Piece → Type 0
DecidedPiece a = (b : Piece) → Decides (alike_piece a b) (outline.piece a ≡ outline.piece b)

-- the tests of the parts of a layer

abbrev tested_item : Item-F Item Arm Block Piece → Item-F (Item → Bool) (Arm → Bool) (Block → Bool) (Piece → Bool)
tested_item = map-Item Item Arm Block Piece (Item → Bool) (Arm → Bool) (Block → Bool) (Piece → Bool) alike_item alike_arm alike_block alike_piece

abbrev tested_arm : Arm-F Item Arm Block Piece → Arm-F (Item → Bool) (Arm → Bool) (Block → Bool) (Piece → Bool)
tested_arm = map-Arm Item Arm Block Piece (Item → Bool) (Arm → Bool) (Block → Bool) (Piece → Bool) alike_item alike_arm alike_block alike_piece

abbrev tested_block : Block-F Item Arm Block Piece → Block-F (Item → Bool) (Arm → Bool) (Block → Bool) (Piece → Bool)
tested_block = map-Block Item Arm Block Piece (Item → Bool) (Arm → Bool) (Block → Bool) (Piece → Bool) alike_item alike_arm alike_block alike_piece

abbrev tested_piece : Piece-F Item Arm Block Piece → Piece-F (Item → Bool) (Arm → Bool) (Block → Bool) (Piece → Bool)
tested_piece = map-Piece Item Arm Block Piece (Item → Bool) (Arm → Bool) (Block → Bool) (Piece → Bool) alike_item alike_arm alike_block alike_piece

-- a layer without what is held beside its parts

abbrev plain_item : Item-F ((i : Item) × DecidedItem i) ((a : Arm) × DecidedArm a) ((b : Block) × DecidedBlock b) ((p : Piece) × DecidedPiece p) → Item-F Item Arm Block Piece
plain_item = map-Item ((i : Item) × DecidedItem i) ((a : Arm) × DecidedArm a) ((b : Block) × DecidedBlock b) ((p : Piece) × DecidedPiece p) Item Arm Block Piece (λ e. e.0) (λ e. e.0) (λ e. e.0) (λ e. e.0)

abbrev plain_arm : Arm-F ((i : Item) × DecidedItem i) ((a : Arm) × DecidedArm a) ((b : Block) × DecidedBlock b) ((p : Piece) × DecidedPiece p) → Arm-F Item Arm Block Piece
plain_arm = map-Arm ((i : Item) × DecidedItem i) ((a : Arm) × DecidedArm a) ((b : Block) × DecidedBlock b) ((p : Piece) × DecidedPiece p) Item Arm Block Piece (λ e. e.0) (λ e. e.0) (λ e. e.0) (λ e. e.0)

abbrev plain_block : Block-F ((i : Item) × DecidedItem i) ((a : Arm) × DecidedArm a) ((b : Block) × DecidedBlock b) ((p : Piece) × DecidedPiece p) → Block-F Item Arm Block Piece
plain_block = map-Block ((i : Item) × DecidedItem i) ((a : Arm) × DecidedArm a) ((b : Block) × DecidedBlock b) ((p : Piece) × DecidedPiece p) Item Arm Block Piece (λ e. e.0) (λ e. e.0) (λ e. e.0) (λ e. e.0)

abbrev plain_piece : Piece-F ((i : Item) × DecidedItem i) ((a : Arm) × DecidedArm a) ((b : Block) × DecidedBlock b) ((p : Piece) × DecidedPiece p) → Piece-F Item Arm Block Piece
plain_piece = map-Piece ((i : Item) × DecidedItem i) ((a : Arm) × DecidedArm a) ((b : Block) × DecidedBlock b) ((p : Piece) × DecidedPiece p) Item Arm Block Piece (λ e. e.0) (λ e. e.0) (λ e. e.0) (λ e. e.0)

-- what the test of a layer decides, once those of its parts do

abbrev made_if : List Arm → Option Block → Item-F Item Arm Block Piece
made_if arms last = If arms last

two_ifs : (arms others : List Arm) (last final : Option Block) → (arms ≡ others) × (last ≡ final) → made_if arms last ≡ made_if others final
two_ifs arms others last final (p, q) = ap (λ (xs : List Arm). made_if xs last) p ∙ ap (λ (o : Option Block). made_if others o) q

same_ifs : (arms others : List Arm) (last final : Option Block) → made_if arms last ≡ made_if others final → (arms ≡ others) × (last ≡ final)
same_ifs arms others last final e = (cc, cc)

abbrev outlined : List Piece → ℕ → Block-F Item Arm Block Piece
outlined ps n = record { items = ps; last_gap = record { number = n; frees = [] }; braced = false; start = 0; end = 0 }

two_blocks : (ps qs : List Piece) (m n : ℕ) → (ps ≡ qs) × (m ≡ n) → outlined ps m ≡ outlined qs n
two_blocks ps qs m n (p, q) = ap (λ (xs : List Piece). outlined xs m) p ∙ ap (λ (k : ℕ). outlined qs k) q

abbrev ItemTest : Item-F Item Arm Block Piece → Item-F Item Arm Block Piece → Type 0
ItemTest x m = Decides (item_layer (tested_item x) m) (bare_item (in_item outline x) ≡ bare_item (in_item outline m))

item_decides : (y : Item-F ((i : Item) × DecidedItem i) ((a : Arm) × DecidedArm a) ((b : Block) × DecidedBlock b) ((p : Piece) × DecidedPiece p)) (m : Item-F Item Arm Block Piece) → ItemTest (plain_item y) m
item_decides (Declare ds) (Declare es) = Decides-like (pointwise alike_declr ds es) (λ e. cc) (λ e. cc) (pointwise_decides alike_declr bare_declr declr_decides ds es)
item_decides (Assign a) (Assign b) = Decides-like (alike_simple a b) (λ e. cc) (λ e. cc) (simple_decides a b)
item_decides (Do a) (Do b) = Decides-like (alike_call a b) (λ e. cc) (λ e. cc) (call_decides a b)
item_decides (Nest a) (Nest b) = Decides-like (alike_block a.0 b) (λ e. cc) (λ e. cc) (a.1 b)
item_decides (If arms None) (If others final) = Decides-like _ (two_ifs (map outline.arm (map (λ e. e.0) arms)) (map outline.arm others) None (option_map outline.block final)) (same_ifs (map outline.arm (map (λ e. e.0) arms)) (map outline.arm others) None (option_map outline.block final))
    (Decides-and _ _ (held_decides alike_arm outline.arm arms others) (held_option_decides alike_block outline.block None final))
item_decides (If arms (Some b)) (If others final) = Decides-like _ (two_ifs (map outline.arm (map (λ e. e.0) arms)) (map outline.arm others) (Some (outline.block b.0)) (option_map outline.block final)) (same_ifs (map outline.arm (map (λ e. e.0) arms)) (map outline.arm others) (Some (outline.block b.0)) (option_map outline.block final))
    (Decides-and _ _ (held_decides alike_arm outline.arm arms others) (held_option_decides alike_block outline.block (Some b) final))
item_decides (While t a) (While s b) = Decides-like (alike_expr t s && alike_block a.0 b) (λ (p, q). cc) (λ e. (cc, cc)) (Decides-and (alike_expr t s) (alike_block a.0 b) (expr_decides t s) (a.1 b))
item_decides (For h a) (For k b) = Decides-like (alike_head h k && alike_block a.0 b) (λ (p, q). cc) (λ e. (cc, cc)) (Decides-and (alike_head h k) (alike_block a.0 b) (head_decides h k) (a.1 b))
item_decides Break Break = (λ _. refl, λ _. refl)
item_decides Continue Continue = (λ _. refl, λ _. refl)
item_decides (Return a at) (Return b at') = Decides-like (option_alike alike_right a b) (λ e. cc) (λ e. cc) (option_decides alike_right bare_right right_decides a b)
item_decides _ _ = (λ e. cc, λ e. cc)

abbrev ArmTest : Arm-F Item Arm Block Piece → Arm-F Item Arm Block Piece → Type 0
ArmTest x m = Decides (arm_layer (tested_arm x) m) (outline_layers.arm (in_arm outline x) ≡ outline_layers.arm (in_arm outline m))

arm_decides : (y : Arm-F ((i : Item) × DecidedItem i) ((a : Arm) × DecidedArm a) ((b : Block) × DecidedBlock b) ((p : Piece) × DecidedPiece p)) (m : Arm-F Item Arm Block Piece) → ArmTest (plain_arm y) m
arm_decides y m = Decides-like (alike_expr y.test m.test && alike_block y.body.0 m.body) (λ (p, q). cc)
    (λ e. (ap (λ (z : Arm-F Item Arm Block Piece). z.test) e, ap (λ (z : Arm-F Item Arm Block Piece). z.body) e))
    (Decides-and (alike_expr y.test m.test) (alike_block y.body.0 m.body) (expr_decides y.test m.test) (y.body.1 m.body))

abbrev BlockTest : Block-F Item Arm Block Piece → Block-F Item Arm Block Piece → Type 0
BlockTest x m = Decides (block_layer (tested_block x) m) (outline_layers.block (in_block outline x) ≡ outline_layers.block (in_block outline m))

block_decides_layer : (y : Block-F ((i : Item) × DecidedItem i) ((a : Arm) × DecidedArm a) ((b : Block) × DecidedBlock b) ((p : Piece) × DecidedPiece p)) (m : Block-F Item Arm Block Piece) → BlockTest (plain_block y) m
block_decides_layer y m = Decides-like (block_layer (tested_block (plain_block y)) m) (two_blocks (map outline.piece (map (λ e. e.0) y.items)) (map outline.piece m.items) y.last_gap.number m.last_gap.number)
    (λ e. (ap (λ (z : Block-F Item Arm Block Piece). z.items) e, ap (λ (z : Block-F Item Arm Block Piece). z.last_gap.number) e))
    (Decides-and _ (y.last_gap.number == m.last_gap.number) (held_decides alike_piece outline.piece y.items m.items) (Decides-eqb y.last_gap.number m.last_gap.number))

abbrev PieceTest : Piece-F Item Arm Block Piece → Piece-F Item Arm Block Piece → Type 0
PieceTest x m = Decides (piece_layer (tested_piece x) m) (outline_layers.piece (in_piece outline x) ≡ outline_layers.piece (in_piece outline m))

piece_decides : (y : Piece-F ((i : Item) × DecidedItem i) ((a : Arm) × DecidedArm a) ((b : Block) × DecidedBlock b) ((p : Piece) × DecidedPiece p)) (m : Piece-F Item Arm Block Piece) → PieceTest (plain_piece y) m
piece_decides y m = Decides-like ((y.gap.number == m.gap.number) && alike_item y.item.0 m.item) (λ (p, q). cc)
    (λ e. (ap (λ (z : Piece-F Item Arm Block Piece). z.gap.number) e, ap (λ (z : Piece-F Item Arm Block Piece). z.item) e))
    (Decides-and (y.gap.number == m.gap.number) (alike_item y.item.0 m.item) (Decides-eqb y.gap.number m.gap.number) (y.item.1 m.item))

-- from a layer to the value

step_item : (x : Item-F Item Arm Block Piece) (y : Item-F ((i : Item) × DecidedItem i) ((a : Arm) × DecidedArm a) ((b : Block) × DecidedBlock b) ((p : Piece) × DecidedPiece p)) → plain_item y ≡ x → DecidedItem (roll-Item x)
step_item x y is b =
    let m : Item-F Item Arm Block Piece = out-Item b in
    let layer : ItemTest x m = subst (λ (z : Item-F Item Arm Block Piece). ItemTest z m) is (item_decides y m) in
    let test : alike_item (roll-Item x) b ≡ item_layer (tested_item x) m = ap (λ (f : Item → Bool). f b) (fold-roll-Item (Item → Bool) (Arm → Bool) (Block → Bool) (Piece → Bool) on_item on_arm on_block on_piece x) in
    let left : outline.item (roll-Item x) ≡ roll-Item (bare_item (in_item outline x)) = (rebuilt_rebuilds outline_layers).item x in
    let right : outline.item b ≡ roll-Item (bare_item (in_item outline m)) = ap outline.item (sym (roll-out-Item b)) ∙ (rebuilt_rebuilds outline_layers).item m in
    Decides-at (alike_item (roll-Item x) b) (item_layer (tested_item x) m) test
    (Decides-like (item_layer (tested_item x) m)
    (λ e. left ∙ ap (λ (z : Item-F Item Arm Block Piece). roll-Item z) e ∙ sym right)
    (λ e. sym (out-roll-Item (bare_item (in_item outline x))) ∙ ap out-Item (sym left ∙ e ∙ right) ∙ out-roll-Item (bare_item (in_item outline m)))
    layer)

step_arm : (x : Arm-F Item Arm Block Piece) (y : Arm-F ((i : Item) × DecidedItem i) ((a : Arm) × DecidedArm a) ((b : Block) × DecidedBlock b) ((p : Piece) × DecidedPiece p)) → plain_arm y ≡ x → DecidedArm (roll-Arm x)
step_arm x y is b =
    let m : Arm-F Item Arm Block Piece = out-Arm b in
    let layer : ArmTest x m = subst (λ (z : Arm-F Item Arm Block Piece). ArmTest z m) is (arm_decides y m) in
    let test : alike_arm (roll-Arm x) b ≡ arm_layer (tested_arm x) m = ap (λ (f : Arm → Bool). f b) (fold-roll-Arm (Item → Bool) (Arm → Bool) (Block → Bool) (Piece → Bool) on_item on_arm on_block on_piece x) in
    let left : outline.arm (roll-Arm x) ≡ roll-Arm (outline_layers.arm (in_arm outline x)) = (rebuilt_rebuilds outline_layers).arm x in
    let right : outline.arm b ≡ roll-Arm (outline_layers.arm (in_arm outline m)) = ap outline.arm (sym (roll-out-Arm b)) ∙ (rebuilt_rebuilds outline_layers).arm m in
    Decides-at (alike_arm (roll-Arm x) b) (arm_layer (tested_arm x) m) test
    (Decides-like (arm_layer (tested_arm x) m)
    (λ e. left ∙ ap (λ (z : Arm-F Item Arm Block Piece). roll-Arm z) e ∙ sym right)
    (λ e. sym (out-roll-Arm (outline_layers.arm (in_arm outline x))) ∙ ap out-Arm (sym left ∙ e ∙ right) ∙ out-roll-Arm (outline_layers.arm (in_arm outline m)))
    layer)

step_block : (x : Block-F Item Arm Block Piece) (y : Block-F ((i : Item) × DecidedItem i) ((a : Arm) × DecidedArm a) ((b : Block) × DecidedBlock b) ((p : Piece) × DecidedPiece p)) → plain_block y ≡ x → DecidedBlock (roll-Block x)
step_block x y is b =
    let m : Block-F Item Arm Block Piece = out-Block b in
    let layer : BlockTest x m = subst (λ (z : Block-F Item Arm Block Piece). BlockTest z m) is (block_decides_layer y m) in
    let test : alike_block (roll-Block x) b ≡ block_layer (tested_block x) m = ap (λ (f : Block → Bool). f b) (fold-roll-Block (Item → Bool) (Arm → Bool) (Block → Bool) (Piece → Bool) on_item on_arm on_block on_piece x) in
    let left : outline.block (roll-Block x) ≡ roll-Block (outline_layers.block (in_block outline x)) = (rebuilt_rebuilds outline_layers).block x in
    let right : outline.block b ≡ roll-Block (outline_layers.block (in_block outline m)) = ap outline.block (sym (roll-out-Block b)) ∙ (rebuilt_rebuilds outline_layers).block m in
    Decides-at (alike_block (roll-Block x) b) (block_layer (tested_block x) m) test
    (Decides-like (block_layer (tested_block x) m)
    (λ e. left ∙ ap (λ (z : Block-F Item Arm Block Piece). roll-Block z) e ∙ sym right)
    (λ e. sym (out-roll-Block (outline_layers.block (in_block outline x))) ∙ ap out-Block (sym left ∙ e ∙ right) ∙ out-roll-Block (outline_layers.block (in_block outline m)))
    layer)

step_piece : (x : Piece-F Item Arm Block Piece) (y : Piece-F ((i : Item) × DecidedItem i) ((a : Arm) × DecidedArm a) ((b : Block) × DecidedBlock b) ((p : Piece) × DecidedPiece p)) → plain_piece y ≡ x → DecidedPiece (roll-Piece x)
step_piece x y is b =
    let m : Piece-F Item Arm Block Piece = out-Piece b in
    let layer : PieceTest x m = subst (λ (z : Piece-F Item Arm Block Piece). PieceTest z m) is (piece_decides y m) in
    let test : alike_piece (roll-Piece x) b ≡ piece_layer (tested_piece x) m = ap (λ (f : Piece → Bool). f b) (fold-roll-Piece (Item → Bool) (Arm → Bool) (Block → Bool) (Piece → Bool) on_item on_arm on_block on_piece x) in
    let left : outline.piece (roll-Piece x) ≡ roll-Piece (outline_layers.piece (in_piece outline x)) = (rebuilt_rebuilds outline_layers).piece x in
    let right : outline.piece b ≡ roll-Piece (outline_layers.piece (in_piece outline m)) = ap outline.piece (sym (roll-out-Piece b)) ∙ (rebuilt_rebuilds outline_layers).piece m in
    Decides-at (alike_piece (roll-Piece x) b) (piece_layer (tested_piece x) m) test
    (Decides-like (piece_layer (tested_piece x) m)
    (λ e. left ∙ ap (λ (z : Piece-F Item Arm Block Piece). roll-Piece z) e ∙ sym right)
    (λ e. sym (out-roll-Piece (outline_layers.piece (in_piece outline x))) ∙ ap out-Piece (sym left ∙ e ∙ right) ∙ out-roll-Piece (outline_layers.piece (in_piece outline m)))
    layer)

outlines_decide : (a b : Block) → Decides (alike_block a b) (outline.block a ≡ outline.block b)
outlines_decide = ind-Block DecidedItem DecidedArm DecidedBlock DecidedPiece step_item step_arm step_block step_piece

pub block_decides : (a b : Block) → Decides (alike_block a b) (bare_block (regapped_block emptied a) ≡ bare_block (regapped_block emptied b))
block_decides a b = Decides-like (alike_block a b) (λ e. outline_is a ∙ e ∙ sym (outline_is b)) (λ e. sym (outline_is a) ∙ e ∙ outline_is b) (outlines_decide a b)
