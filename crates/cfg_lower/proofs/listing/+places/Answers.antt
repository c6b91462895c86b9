use Rattle.std.proofs.Common.{rules, ◌≡◌, ◌≤◌, ◌*◌, Option, [], ◌∷◌, ◌++◌, map, length, drop, ap, sym, ◌∙◌}
use Rattle.std.proofs.lemmas.Result.{on_ok_weaker}
use Rattle.c_tree.specs.declared.program.Block.{Block, out-Block}
use Rattle.c_tree.specs.declared.program.Item.{out-Item}
use Rattle.c_tree.specs.declared.program.Item.TheVariants as item
use Rattle.c_meaning.specs.Parts.{One, Row, Condition, Within, arm_parts, condition_of, declared, else_parts, last_row, parts, started}
use Rattle.c_meaning.specs.Place.{arm_body, arm_test, tests_of}
use Rattle.cfg_lower.specs.Listing.{below_all, head_below, parts_below, pieces_below}
use Rattle.cfg_lower.proofs.Listings.{actions_done, while_done, for_done, if_done, block_done}
use Rattle.cfg_lower.proofs.listing.+places.Goals as goal

pub add_block-returns : goal.add_block-returns
add_block-returns t c =
    let items = (out-Block c.args.block.now).items in
    let kept : c.args.list.now ++ pieces_below c.args.slot c.args.prefix.now 0 items ≡ c.loop-i.list ++ pieces_below c.args.slot c.args.prefix.now c.loop-i.i (drop c.loop-i.i items) = search rules in
    let past : length items ≤ c.loop-i.i = search rules in
    let path : c.in_ok-below.field-0 ≡ c.args.prefix.now ++ length items ∷ [] = search rules in
    on_ok_weaker c.push.result (λ e. block_done c.args.slot c.args.list.now c.loop-i.list c.push.new.self c.args.prefix.now c.in_ok-below.field-0 c.loop-i.i c.args.block.now kept past e path) c.push.ensures.ok

pub add_item-returns-in-Declare : goal.add_item-returns-in-Declare
add_item-returns-in-Declare t c =
    let whole : parts arm_test arm_body c.args.slot (out-Item c.args.item.now) ≡ map (λ d. One (declared d d.right)) c.as_slice.result.now =
    ap (parts arm_test arm_body c.args.slot) (ap out-Item c.in-Declare.is ∙ item.outs-Declare c.in-Declare.declrs) ∙ ap (map (λ d. One (declared d d.right))) (sym c.as_slice.ensures) in
    on_ok_weaker c.add_declrs.result (λ e. actions_done (λ d. declared d d.right) c.args.slot c.args.list.now c.add_declrs.new.list c.args.prefix.now c.as_slice.result.now (parts arm_test arm_body c.args.slot (out-Item c.args.item.now)) e whole) c.add_declrs.ensures

pub add_item-returns-in_ok-path-in-Some : goal.add_item-returns-in_ok-path-in-Some
add_item-returns-in_ok-path-in-Some t c =
    let before : c.add_arms.new.list ≡ c.args.list.now ++ parts_below c.args.slot c.args.prefix.now 0 (arm_parts arm_test arm_body c.in-If.arms) = search rules in
    let way : c.as_slice-in-Some.result.now ≡ c.args.prefix.now ++ (2 * length c.in-If.arms) ∷ [] = search rules in
    let whole : parts arm_test arm_body c.args.slot (out-Item c.args.item.now) ≡ arm_parts arm_test arm_body c.in-If.arms ++ Within c.in-Some.block ∷ [] =
    ap (parts arm_test arm_body c.args.slot) (ap out-Item c.in-If.is ∙ item.outs-If c.in-If.arms c.in-If.otherwise) ∙ ap (λ (o : Option Block). arm_parts arm_test arm_body c.in-If.arms ++ else_parts o) c.in-Some.is in
    on_ok_weaker c.add_block-in-Some.result (λ e. if_done c.args.slot c.args.list.now c.add_arms.new.list c.add_block-in-Some.new.list c.args.prefix.now c.as_slice-in-Some.result.now c.in-If.arms c.in-Some.block (parts arm_test arm_body c.args.slot (out-Item c.args.item.now)) before e way whole) c.add_block-in-Some.ensures

pub add_item-returns-in_ok-path-in-While : goal.add_item-returns-in_ok-path-in-While
add_item-returns-in_ok-path-in-While t c =
    let before : c.add_test.new.list ≡ c.args.list.now ++ below_all (c.args.prefix.now ++ 0 ∷ []) (tests_of c.in-While.test) = search rules in
    let way : c.as_slice-in-While.result.now ≡ c.args.prefix.now ++ 1 ∷ [] = search rules in
    let whole : parts arm_test arm_body c.args.slot (out-Item c.args.item.now) ≡ Condition c.in-While.test ∷ Within c.in-While.body ∷ [] = ap (parts arm_test arm_body c.args.slot) (ap out-Item c.in-While.is ∙ item.outs-While c.in-While.test c.in-While.body) in
    on_ok_weaker c.add_block-in-While.result (λ e. while_done c.args.slot c.args.list.now c.add_test.new.list c.add_block-in-While.new.list c.args.prefix.now c.as_slice-in-While.result.now c.in-While.test c.in-While.body (parts arm_test arm_body c.args.slot (out-Item c.args.item.now)) before e way whole) c.add_block-in-While.ensures

pub add_item-returns-in_ok-path-in-For : goal.add_item-returns-in_ok-path-in-For
add_item-returns-in_ok-path-in-For t c =
    let before : c.add_head.new.list ≡ c.args.list.now ++ head_below c.args.prefix.now c.in-For.head = search rules in
    let way : c.as_slice-in-For.result.now ≡ c.args.prefix.now ++ 3 ∷ [] = search rules in
    let whole : parts arm_test arm_body c.args.slot (out-Item c.args.item.now) ≡ Row (map started c.in-For.head.start) ∷ Condition (condition_of c.in-For.head.test) ∷ Row (last_row c.in-For.head.step) ∷ Within c.in-For.body ∷ [] = ap (parts arm_test arm_body c.args.slot) (ap out-Item c.in-For.is ∙ item.outs-For c.in-For.head c.in-For.body) in
    on_ok_weaker c.add_block-in-For.result (λ e. for_done c.args.slot c.args.list.now c.add_head.new.list c.add_block-in-For.new.list c.args.prefix.now c.as_slice-in-For.result.now c.in-For.head c.in-For.body (parts arm_test arm_body c.args.slot (out-Item c.args.item.now)) before e way whole) c.add_block-in-For.ensures
