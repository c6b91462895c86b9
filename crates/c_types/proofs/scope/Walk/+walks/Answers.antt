use Rattle.std.proofs.Common.{◌≡◌, ◌∙◌, sym, ap, take_all}
use Rattle.c_types.specs.Blocks.{walked_arm, walked_block, walked_for, walked_item, walked_piece}
use Rattle.c_types.specs.InTurn.{each}
use Rattle.c_types.proofs.BlockLaws.{block_done, for_done, if_done, scoped_done}
use Rattle.c_types.proofs.InTurnLaws.{each_more}
use Rattle.c_types.proofs.scope.Walk.+walks.Goals as goal

pub block-loop-piece-preserved : goal.block-loop-piece-preserved
block-loop-piece-preserved t c =
    each_more (λ q. walked_piece q c.args.nesting) c.as_slice-pieces.result.now c.args.self.now c.loop-piece.piece-index c.piece-item.result
    c.loop-piece.self c.piece.new.self c.loop-piece.items c.in_ok-piece.field-0
    c.loop-piece-test.true c.piece-item.is c.loop-piece.invariant c.in_ok-piece.ensures
    ∙ ap (λ m. (c.piece.new.self, m)) (sym c.in_ok-push.ensures.ok)

pub block-returns : goal.block-returns
block-returns t c =
    block_done c.args.block.now c.args.nesting c.args.self.now c.loop-piece.self c.gap.new.self c.loop-piece.items c.in_ok-last_gap.last_gap
    (ap (λ ps. each (λ q. walked_piece q c.args.nesting) ps c.args.self.now)
    (sym (take_all c.loop-piece.piece-index c.as_slice-pieces.result.now c.loop-piece-test.false ∙ c.as_slice-pieces.ensures))
    ∙ c.loop-piece.invariant)
    c.in_ok-last_gap.ensures

pub arms-loop-arm-preserved : goal.arms-loop-arm-preserved
arms-loop-arm-preserved t c =
    each_more (λ a. walked_arm a c.args.nesting) c.as_slice-slice.result.now c.args.self.now c.loop-arm.arm-index c.arm-item.result
    c.loop-arm.self c.arm.new.self c.loop-arm.made c.in_ok-arm.field-0
    c.loop-arm-test.true c.arm-item.is c.loop-arm.invariant c.in_ok-arm.ensures
    ∙ ap (λ m. (c.arm.new.self, m)) (sym c.in_ok-push.ensures.ok)

pub item-returns-in_ok-last-in-If : goal.item-returns-in_ok-last-in-If
item-returns-in_ok-last-in-If t c =
    let here = c.in-If in
    if_done here.arms here.last c.args.at c.args.nesting c.args.self.now c.arms.new.self c.last.new.self c.in_ok-arms-in-If.arms c.in_ok-last-in-If.field-0
    c.in_ok-arms-in-If.ensures c.in_ok-last-in-If.ensures
    ∙ ap (λ i. walked_item i c.args.at c.args.nesting c.args.self.now) (sym here.is)

pub for_parts-returns : goal.for_parts-returns
for_parts-returns t c =
    for_done c.args.nesting c.in_ok-nesting.nesting c.args.head.now (walked_block c.args.body.now) c.args.self.now c.head.new.self c.looped.new.self c.in_ok-head.head c.in_ok-body.body
    c.in_ok-nesting.ensures c.in_ok-head.ensures c.in_ok-body.ensures

pub for_loop-returns : goal.for_loop-returns
for_loop-returns t c =
    scoped_done (walked_for c.args.nesting c.args.head.now (walked_block c.args.body.now)) c.args.self.now c.for_parts.new.self c.close.new.self c.in_ok-item.item c.len-names.result
    c.len-names.ensures c.in_ok-item.ensures c.close.ensures
