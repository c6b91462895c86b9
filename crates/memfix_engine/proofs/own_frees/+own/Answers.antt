-- A block, a piece and an `if`, by the puts of their parts.
use Rattle.std.proofs.Common.{[], ◌∷◌, flat_map, option_map, ap, ◌∙◌}
use Rattle.std.proofs.lemmas.Result.{on_ok_weaker}
use Rattle.c_tree.specs.Numbers.{from_last, gaps_in}
use Rattle.c_tree.specs.declared.program.Block.{out-Block}
use Rattle.c_tree.specs.declared.program.Piece.{out-Piece}
use Rattle.memfix_engine.specs.OwnPuts.{arm_gaps_in, item_gaps_in, piece_gaps_in}
use Rattle.memfix_engine.proofs.OwnWalk.{block_opens, if_opens, one_gap, piece_opens, two_behind}
use Rattle.memfix_engine.proofs.own_frees.+own.Goals as goal

pub push_block-returns : goal.push_block-returns
push_block-returns t c =
    let b = out-Block c.args.block.now in
    on_ok_weaker c.push_gap.result
    (λ e. two_behind c.args.out.now c.push_pieces.new.out c.push_gap.new.out (flat_map piece_gaps_in b.items) (b.last_gap ∷ []) (gaps_in c.args.block.now)
    (block_opens c.args.block.now) c.in_ok-push_pieces.ensures (one_gap c.push_pieces.new.out c.push_gap.new.out b.last_gap e))
    c.push_gap.ensures

pub push_piece-returns : goal.push_piece-returns
push_piece-returns t c =
    let p = out-Piece c.args.piece.now in
    on_ok_weaker c.push_item.result
    (λ e. two_behind c.args.out.now c.push_gap.new.out c.push_item.new.out (p.gap ∷ []) (item_gaps_in p.item) (piece_gaps_in c.args.piece.now)
    (piece_opens c.args.piece.now) (one_gap c.args.out.now c.push_gap.new.out p.gap c.in_ok-push_gap.ensures) e)
    c.push_item.ensures

pub push_item-returns-in_ok-push_arms-in-If : goal.push_item-returns-in_ok-push_arms-in-If
push_item-returns-in_ok-push_arms-in-If t c =
    let here = c.in-If in
    on_ok_weaker c.push_last.result
    (λ e. two_behind c.args.out.now c.push_arms.new.out c.push_last.new.out (flat_map arm_gaps_in here.arms) (from_last (option_map gaps_in here.last)) (item_gaps_in c.args.item.now)
    (ap item_gaps_in here.is ∙ if_opens here.arms here.last) c.in_ok-push_arms-in-If.ensures e)
    c.push_last.ensures
