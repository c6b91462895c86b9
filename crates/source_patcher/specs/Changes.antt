-- What an edit changes of a program's text, in the order of the text: at one place what ends a body comes before what stands
-- before the next item, ends go from the inner body to the outer one, and a brace that opens comes before frees.
use Rattle.std.specs.Prelude.{ℕ, ◌-◌, Bool, true, false, not, ◌&&◌, ◌||◌, if◌then◌else◌, List, [], ◌∷◌, ◌++◌}
use Rattle.std.specs.List.{flat_map, list_any}
use Rattle.c_lexer.specs.declared.token.Token.{Token}
use Rattle.c_tree.specs.Numbers.{from_all, from_last}
use Rattle.c_tree.specs.declared.choice.Put.{Put}
use Rattle.c_tree.specs.declared.program.Arm.{Arm, Arm-F, fold-Arm}
use Rattle.c_tree.specs.declared.program.Block.{Block, Block-F, fold-Block}
use Rattle.c_tree.specs.declared.program.Gap.{Gap}
use Rattle.c_tree.specs.declared.program.Item.{Item, Item-F, fold-Item}
use Rattle.c_tree.specs.declared.program.Item.TheOpen.{Declare, Assign, Do, Nest, If, While, For, Break, Continue, Return}
use Rattle.c_tree.specs.declared.program.Piece.{Piece, Piece-F, fold-Piece}
use Rattle.c_tree.specs.declared.program.Program.{Program}
use Rattle.source_patcher.specs.Gaps.{gap_changes, writes}
use Rattle.source_patcher.specs.declared.change.Change.{Change}
use Rattle.source_patcher.specs.declared.change.Writing.{Writing}
use Rattle.source_patcher.specs.declared.change.Writing.TheVariants as writing

abbrev pub Changes : Type 0
Changes = List Change

-- an item behind its gap: its changes, and whether a free is written into the gap
pub record Part : Type 0 where
  pub writes : Bool
  pub changes : Changes

-- a brace at an offset, or none
abbrev pub brace : Bool → ℕ → Writing → Changes
brace true at w = record { start = at; end = at; writing = w } ∷ []
brace false at w = []

-- a body gets braces where it has none and a free is written into one of its gaps
abbrev pub gets_braces : List Put → Bool → Bool → Gap → Bool
gets_braces puts braced before_items last = not braced && (before_items || writes puts last)

-- the frees of a last gap stand before the block's `}`, or at the end of a body without braces
abbrev pub last_place : Bool → ℕ → ℕ
last_place braced end = if braced then end - 1 else end

-- ` { `, the pieces, the last gap, ` } `
abbrev pub block_layer : List Token → List Put → Block-F Changes Changes Changes Part → Changes
block_layer ts puts b =
    let braces = gets_braces puts b.braced (list_any (λ (q : Part). q.writes) b.items) b.last_gap in
    brace braces b.start writing.Open
    ++ flat_map (λ (q : Part). q.changes) b.items
    ++ gap_changes ts puts (last_place b.braced b.end) b.last_gap
    ++ brace braces b.end writing.Close

-- the frees of a gap stand before the item behind it
abbrev pub piece_layer : List Token → List Put → Piece-F Changes Changes Changes Part → Part
piece_layer ts puts p = record { writes = writes puts p.gap; changes = gap_changes ts puts p.start p.gap ++ p.item }

-- an item changes in its blocks alone
abbrev pub item_layer : Item-F Changes Changes Changes Part → Changes
item_layer (Nest b) = b
item_layer (If arms last) = from_all arms ++ from_last last
item_layer (While e b) = b
item_layer (For h b) = b
item_layer (Declare ds) = []
item_layer (Assign s) = []
item_layer (Do c) = []
item_layer Break = []
item_layer Continue = []
item_layer (Return r at) = []

abbrev pub arm_layer : Arm-F Changes Changes Changes Part → Changes
arm_layer a = a.body

abbrev pub block_changes : List Token → List Put → Block → Changes
block_changes ts puts = fold-Block Changes Changes Changes Part item_layer arm_layer (block_layer ts puts) (piece_layer ts puts)

abbrev pub piece_part : List Token → List Put → Piece → Part
piece_part ts puts = fold-Piece Changes Changes Changes Part item_layer arm_layer (block_layer ts puts) (piece_layer ts puts)

abbrev pub item_changes : List Token → List Put → Item → Changes
item_changes ts puts = fold-Item Changes Changes Changes Part item_layer arm_layer (block_layer ts puts) (piece_layer ts puts)

abbrev pub arm_changes : List Token → List Put → Arm → Changes
arm_changes ts puts = fold-Arm Changes Changes Changes Part item_layer arm_layer (block_layer ts puts) (piece_layer ts puts)

-- all changes of a program's text, which has these tokens
abbrev pub changes : List Token → List Put → Program → Changes
changes ts puts p = flat_map (λ f. block_changes ts puts f.body) p.funs
