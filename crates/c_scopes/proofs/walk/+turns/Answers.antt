use Rattle.std.proofs.Common.{rules, ◌≡◌, ◌∷◌, [], ◌++◌, List, ap, sym, flat_map, ◌∙◌}
use Rattle.std.specs.Prelude.{OnOk}
use Rattle.std.proofs.lemmas.Result.{on_ok_weaker}
use Rattle.c_tree.specs.declared.program.Block.{out-Block}
use Rattle.c_scopes.specs.Turns.{block_turns, item_turns, piece_turns, start_turns}
use Rattle.c_scopes.specs.declared.walk.Turn.{Turn}
use Rattle.c_scopes.specs.declared.walk.Turn.TheVariants.{Open, Gap, Close}
use Rattle.c_scopes.proofs.TurnLaws.{block_opens, if_opens, joined, scoped_done}
use Rattle.c_scopes.proofs.walk.+turns.Goals as goal

pub block-returns : goal.block-returns
block-returns t c =
    let b = out-Block c.args.block.now in
    let hidden = c.args.hidden.now in
    let opened : c.push.new.self ≡ c.args.turns.now ++ Open ∷ [] = search rules in
    let items : c.pieces.new.turns ≡ c.push.new.self ++ flat_map (piece_turns hidden) b.items = search rules in
    let gap : c.push-2.new.self ≡ c.pieces.new.turns ++ Gap b.last_gap.number ∷ [] = search rules in
    let last : OnOk c.push-3.result (c.push-3.new.self ≡ c.push-2.new.self ++ Close ∷ []) = search rules in
    on_ok_weaker c.push-3.result
    (λ e. scoped_done c.args.turns.now c.push.new.self c.push-2.new.self c.push-3.new.self (flat_map (piece_turns hidden) b.items ++ Gap b.last_gap.number ∷ []) opened
    (joined c.push.new.self c.pieces.new.turns c.push-2.new.self (flat_map (piece_turns hidden) b.items) (Gap b.last_gap.number ∷ []) items gap) e
    ∙ ap (λ (ts : List Turn). c.args.turns.now ++ ts) (block_opens hidden c.args.block.now))
    last

pub in_for-returns : goal.in_for-returns
in_for-returns t c =
    let hidden = c.args.hidden.now in
    let opened : c.push.new.self ≡ c.args.turns.now ++ Open ∷ [] = search rules in
    let first : c.starts.new.turns ≡ c.push.new.self ++ flat_map (start_turns hidden) c.args.head.now.start = search rules in
    let body : c.block.new.turns ≡ c.starts.new.turns ++ block_turns hidden c.args.body.now = search rules in
    let last : OnOk c.push-2.result (c.push-2.new.self ≡ c.block.new.turns ++ Close ∷ []) = search rules in
    on_ok_weaker c.push-2.result
    (scoped_done c.args.turns.now c.push.new.self c.block.new.turns c.push-2.new.self (flat_map (start_turns hidden) c.args.head.now.start ++ block_turns hidden c.args.body.now) opened
    (joined c.push.new.self c.starts.new.turns c.block.new.turns (flat_map (start_turns hidden) c.args.head.now.start) (block_turns hidden c.args.body.now) first body))
    last

pub item-returns-in_ok-arms-in-If : goal.item-returns-in_ok-arms-in-If
item-returns-in_ok-arms-in-If t c =
    let here = c.in-If in
    let hidden = c.args.hidden.now in
    on_ok_weaker c.last.result
    (λ e. joined c.args.turns.now c.arms.new.turns c.last.new.turns _ _ c.in_ok-arms-in-If.ensures e
    ∙ ap (λ (ts : List Turn). c.args.turns.now ++ ts) (if_opens hidden here.parts here.otherwise)
    ∙ ap (λ i. c.args.turns.now ++ item_turns hidden i) (sym here.is))
    c.last.ensures
