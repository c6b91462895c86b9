-- The tests of a block and of an `if`, one level opened.
use Rattle.std.proofs.Common.{◌≡◌, Bool, ◌==◌, ◌&&◌, List, Option, Some, None, ap, sym, ◌∙◌}
use Rattle.std.specs.Cmp.Lexicographic.{pointwise}
use Rattle.c_tree.specs.AlikeTest.{item_layer, on_item, on_arm, on_block, on_piece, alike_item, alike_arm, alike_block, alike_piece, option_alike}
use Rattle.c_tree.proofs.Deciders.{applied}
use Rattle.c_tree.specs.declared.program.Block.{Block, out-Block, fold_out-Block}
use Rattle.c_tree.specs.declared.program.Piece.{Piece}
use Rattle.c_tree.specs.declared.program.Item.{Item, Item-F, map-Item, fold-roll-Item}
use Rattle.c_tree.specs.declared.program.Item.TheVariants as item
use Rattle.c_tree.specs.declared.program.Item.TheOpen.{If}
use Rattle.c_tree.specs.declared.program.Arm.{Arm}

pub block_opens : (a b : Block) → alike_block a b ≡ (pointwise alike_piece (out-Block a).items (out-Block b).items && ((out-Block a).last_gap.number == (out-Block b).last_gap.number))
block_opens a b =
    ap (λ (f : Block → Bool). f b) (fold_out-Block (Item → Bool) (Arm → Bool) (Block → Bool) (Piece → Bool) on_item on_arm on_block on_piece a)
    ∙ ap (λ (t : Bool). t && ((out-Block a).last_gap.number == (out-Block b).last_gap.number)) (applied alike_piece (out-Block a).items (out-Block b).items)

abbrev pub tested_item : Item-F Item Arm Block Piece → Item-F (Item → Bool) (Arm → Bool) (Block → Bool) (Piece → Bool)
tested_item = map-Item Item Arm Block Piece (Item → Bool) (Arm → Bool) (Block → Bool) (Piece → Bool) alike_item alike_arm alike_block alike_piece

if_layer : (arms others : List Arm) (last final : Option Block) → item_layer (tested_item (If arms last)) (If others final) ≡ (pointwise alike_arm arms others && option_alike alike_block last final)
if_layer arms others None None = ap (λ (t : Bool). t && option_alike alike_block None None) (applied alike_arm arms others)
if_layer arms others None (Some c) = ap (λ (t : Bool). t && option_alike alike_block None (Some c)) (applied alike_arm arms others)
if_layer arms others (Some b) None = ap (λ (t : Bool). t && option_alike alike_block (Some b) None) (applied alike_arm arms others)
if_layer arms others (Some b) (Some c) = ap (λ (t : Bool). t && option_alike alike_block (Some b) (Some c)) (applied alike_arm arms others)

pub if_opens : (arms others : List Arm) (last final : Option Block) → alike_item (item.If arms last) (item.If others final) ≡ (pointwise alike_arm arms others && option_alike alike_block last final)
if_opens arms others last final =
    ap (λ (z : Item). alike_item z (item.If others final)) (sym (item.rolls-If arms last))
    ∙ ap (λ (f : Item → Bool). f (item.If others final)) (fold-roll-Item (Item → Bool) (Arm → Bool) (Block → Bool) (Piece → Bool) on_item on_arm on_block on_piece (If arms last))
    ∙ ap (item_layer (tested_item (If arms last))) (item.outs-If others final)
    ∙ if_layer arms others last final
