-- What a copy of a tree does with the gaps: it keeps them, or fills them.
use Rattle.std.specs.Prelude.{Option, Some, None, IsTrue, List}
use Rattle.c_tree.specs.Fill.{filled, ascends}
use Rattle.c_tree.specs.declared.choice.Put.{Put}
use Rattle.c_tree.specs.declared.program.Block.{Block, roll-Block}
use Rattle.c_tree.specs.declared.program.Piece.{Piece, roll-Piece, fold-Piece}
use Rattle.c_tree.specs.declared.program.Item.{Item, roll-Item, fold-Item}
use Rattle.c_tree.specs.declared.program.Arm.{Arm, roll-Arm, fold-Arm}
use Rattle.c_tree.specs.declared.program.Gap.{Gap}

-- a piece, an item and an arm in which each gap g is f g

abbrev pub regapped_piece : (Gap → Gap) → Piece → Piece
regapped_piece f = fold-Piece Item Arm Block Piece roll-Item roll-Arm
    (λ b. roll-Block (record b { last_gap = f b.last_gap }))
    (λ p. roll-Piece (record p { gap = f p.gap }))

abbrev pub regapped_item : (Gap → Gap) → Item → Item
regapped_item f = fold-Item Item Arm Block Piece roll-Item roll-Arm
    (λ b. roll-Block (record b { last_gap = f b.last_gap }))
    (λ p. roll-Piece (record p { gap = f p.gap }))

abbrev pub regapped_arm : (Gap → Gap) → Arm → Arm
regapped_arm f = fold-Arm Item Arm Block Piece roll-Item roll-Arm
    (λ b. roll-Block (record b { last_gap = f b.last_gap }))
    (λ p. roll-Piece (record p { gap = f p.gap }))

-- a gap as it stands, or filled by puts
abbrev pub regap : Option (List Put) → Gap → Gap
regap None g = g
regap (Some puts) g = filled puts g

abbrev pub AnyAscends : Option (List Put) → Type 0
AnyAscends None = Unit {0}
AnyAscends (Some puts) = IsTrue (ascends puts)
