use Rattle.std.proofs.Common.{◌≡◌, ◌++◌, flat_map, ap, sym, ◌∙◌, append_assoc, take_all}
use Rattle.std.proofs.lemmas.Result.{on_ok_weaker}
use Rattle.c_tree.specs.UserCalls.{arm_calls_in, calls_in, from_option, head_calls, item_calls_in, piece_calls_in}
use Rattle.call_contexts.proofs.CallLaws.{block_opens, if_opens, for_opens}
use Rattle.call_contexts.proofs.calls.+calls.Goals as goal

pub add_block-returns : goal.add_block-returns
add_block-returns t c =
    c.loop-piece.invariant
    ∙ ap (λ xs. c.args.list.now ++ xs)
    (ap (flat_map (piece_calls_in c.args.caller)) (take_all c.loop-piece.piece-index c.as_slice-pieces.result.now c.loop-piece-test.false ∙ c.as_slice-pieces.ensures)
    ∙ sym (block_opens c.args.caller c.args.block.now))

pub add_item-returns-in_ok-add_arms-in-If : goal.add_item-returns-in_ok-add_arms-in-If
add_item-returns-in_ok-add_arms-in-If t c =
    let here = c.in-If in
    let f = c.args.caller in
    let opens : item_calls_in f c.args.item.now ≡ flat_map (arm_calls_in f) here.arms ++ from_option (calls_in f) here.last =
    ap (item_calls_in f) here.is ∙ if_opens f here.arms here.last in
    on_ok_weaker c.add_last.result
    (λ e. e ∙ ap (λ xs. xs ++ from_option (calls_in f) here.last) c.in_ok-add_arms-in-If.ensures
    ∙ append_assoc c.args.list.now (flat_map (arm_calls_in f) here.arms) (from_option (calls_in f) here.last)
    ∙ ap (λ xs. c.args.list.now ++ xs) (sym opens))
    c.add_last.ensures

pub add_item-returns-in_ok-add_head-in-For : goal.add_item-returns-in_ok-add_head-in-For
add_item-returns-in_ok-add_head-in-For t c =
    let here = c.in-For in
    let f = c.args.caller in
    let opens : item_calls_in f c.args.item.now ≡ head_calls f here.head ++ calls_in f here.body =
    ap (item_calls_in f) here.is ∙ for_opens f here.head here.body in
    on_ok_weaker c.add_block-in-For.result
    (λ e. e ∙ ap (λ xs. xs ++ calls_in f here.body) c.in_ok-add_head-in-For.ensures
    ∙ append_assoc c.args.list.now (head_calls f here.head) (calls_in f here.body)
    ∙ ap (λ xs. c.args.list.now ++ xs) (sym opens))
    c.add_block-in-For.ensures
