-- The puts of the frees in a part of a program, from those in the smaller ones.
use Rattle.std.proofs.Common.{◌≡◌, List, [], ◌∷◌, ◌++◌, flat_map, Option, Some, None, option_map, sym, ap, ◌∙◌, append_assoc}
use Rattle.std.proofs.lemmas.Grind.{flat_map-append}
use Rattle.std.proofs.lemmas.List.{append-nil}
use Rattle.std.proofs.lemmas.List.Folds.{flat_map-map}
use Rattle.c_tree.specs.Numbers.{Gaps, arm_gaps, block_gaps, from_last, gaps_in, item_gaps, piece_gaps}
use Rattle.c_tree.specs.declared.choice.Put.{Put}
use Rattle.c_tree.specs.declared.program.Arm.{Arm}
use Rattle.c_tree.specs.declared.program.Block.{Block, out-Block, fold_out-Block}
use Rattle.c_tree.specs.declared.program.Gap.{Gap}
use Rattle.c_tree.specs.declared.program.Item.{fold-roll-Item}
use Rattle.c_tree.specs.declared.program.Item.TheOpen.{If}
use Rattle.c_tree.specs.declared.program.Item.TheVariants as item
use Rattle.c_tree.specs.declared.program.Piece.{Piece, out-Piece, fold_out-Piece}
use Rattle.memfix_engine.specs.OwnPuts.{arm_gaps_in, gap_puts, item_gaps_in, piece_gaps_in}

-- a block, one level opened
pub block_opens : (b : Block) → gaps_in b ≡ flat_map piece_gaps_in (out-Block b).items ++ (out-Block b).last_gap ∷ []
block_opens b =
    fold_out-Block Gaps Gaps Gaps Gaps item_gaps arm_gaps block_gaps piece_gaps b
    ∙ ap (λ (gs : List Gap). gs ++ (out-Block b).last_gap ∷ []) (flat_map-map (λ gs. gs) piece_gaps_in (out-Block b).items)

-- a piece
pub piece_opens : (p : Piece) → piece_gaps_in p ≡ (out-Piece p).gap ∷ item_gaps_in (out-Piece p).item
piece_opens p = fold_out-Piece Gaps Gaps Gaps Gaps item_gaps arm_gaps block_gaps piece_gaps p

-- an `if`
pub if_opens : (arms : List Arm) (last : Option Block) → item_gaps_in (item.If arms last) ≡ flat_map arm_gaps_in arms ++ from_last (option_map gaps_in last)
if_opens arms None =
    ap item_gaps_in (sym (item.rolls-If arms None)) ∙ fold-roll-Item Gaps Gaps Gaps Gaps item_gaps arm_gaps block_gaps piece_gaps (If arms None)
    ∙ ap (λ (gs : List Gap). gs ++ []) (flat_map-map (λ gs. gs) arm_gaps_in arms)
if_opens arms (Some b) =
    ap item_gaps_in (sym (item.rolls-If arms (Some b))) ∙ fold-roll-Item Gaps Gaps Gaps Gaps item_gaps arm_gaps block_gaps piece_gaps (If arms (Some b))
    ∙ ap (λ (gs : List Gap). gs ++ gaps_in b) (flat_map-map (λ gs. gs) arm_gaps_in arms)

-- the puts of two lists of gaps, one behind the other
pub two_behind : (old one new : List (Option Put)) (xs ys zs : List Gap) → zs ≡ xs ++ ys → one ≡ old ++ flat_map gap_puts xs → new ≡ one ++ flat_map gap_puts ys → new ≡ old ++ flat_map gap_puts zs
two_behind old one new xs ys zs whole first second =
    second ∙ ap (λ (qs : List (Option Put)). qs ++ flat_map gap_puts ys) first ∙ append_assoc old (flat_map gap_puts xs) (flat_map gap_puts ys)
    ∙ ap (λ (qs : List (Option Put)). old ++ qs) (sym (flat_map-append gap_puts xs ys) ∙ ap (flat_map gap_puts) (sym whole))

-- the puts of a gap are those of the list that has it alone
pub one_gap : (old new : List (Option Put)) (g : Gap) → new ≡ old ++ gap_puts g → new ≡ old ++ flat_map gap_puts (g ∷ [])
one_gap old new g e = e ∙ ap (λ (qs : List (Option Put)). old ++ qs) (sym (append-nil (gap_puts g)))
