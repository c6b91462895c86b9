-- Each turn of a loop is a turn of the reader.
use Rattle.std.proofs.Common.{rules, ◌≡◌, ◌-◌, length, [], Some, ap, sym, ◌∙◌, arith}
use Rattle.c_parser.specs.declared.turn.Turn.TheVariants.{More, Done}
use Rattle.c_parser.specs.Loops.{looped, piece_turn, else_turn}
use Rattle.c_parser.specs.ReadBlocks.{read_pieces, read_else, read_item}
use Rattle.c_parser.proofs.Loops.{turn_done, turn_more, turn_fails, turns_end, pieces_is, else_is, item_below}
use Rattle.c_parser.proofs.blocks.+items.Goals as goal

pub read_pieces-loop-turn-init : goal.read_pieces-loop-turn-init
read_pieces-loop-turn-init t c =
    let ts = c.args.tokens.now in
    let step = piece_turn c.args.depth (read_item c.args.within) c.args.begun in
    let whole : length ts - 0 ≡ length ts = omega arith in
    let empty : c.new-pieces.result ≡ [] = search rules in
    ap (λ s. looped step (length ts - 0) s ts) empty ∙ ap (λ n. looped step n [] ts) whole
    ∙ sym (pieces_is c.args.depth (read_item c.args.within) c.args.begun (length ts) [] ts)

pub read_pieces-returns-in_err-turn : goal.read_pieces-returns-in_err-turn
read_pieces-returns-in_err-turn t c =
    let ts = c.args.tokens.now in
    let all = read_pieces c.args.depth (read_item c.args.within) c.args.begun (length ts) [] ts in
    turn_fails (piece_turn c.args.depth (read_item c.args.within) c.args.begun) (length ts) c.loop-turn._turn c.loop-turn.pieces c.loop-turn.left.now all (λ r. (r.0, r.1.now)) (λ r. (r.0, r.1.now))
    c.read_piece_turn.result c.from_residual.result c.in_err-turn.field-0.0 c.loop-turn-test.true c.loop-turn.invariant c.in_err-turn.was (search rules) c.read_piece_turn.ensures

pub read_pieces-returns-in-Done : goal.read_pieces-returns-in-Done
read_pieces-returns-in-Done t c =
    let ts = c.args.tokens.now in
    let step = piece_turn c.args.depth (read_item c.args.within) c.args.begun in
    let all = read_pieces c.args.depth (read_item c.args.within) c.args.begun (length ts) [] ts in
    let turned : step c.loop-turn.pieces c.loop-turn.left.now ≡ Some (Done c.in-Done.block, c.in_ok-turn.rest.now) = search rules in
    turn_done step (length ts) c.loop-turn._turn c.loop-turn.pieces c.loop-turn.left.now all c.in-Done.block c.in_ok-turn.rest.now c.loop-turn-test.true c.loop-turn.invariant turned

pub read_pieces-loop-turn-preserved : goal.read_pieces-loop-turn-preserved
read_pieces-loop-turn-preserved t c =
    let ts = c.args.tokens.now in
    let step = piece_turn c.args.depth (read_item c.args.within) c.args.begun in
    let all = read_pieces c.args.depth (read_item c.args.within) c.args.begun (length ts) [] ts in
    let turned : step c.loop-turn.pieces c.loop-turn.left.now ≡ Some (More c.in-More.more, c.in_ok-turn.rest.now) = search rules in
    turn_more step (length ts) c.loop-turn._turn c.loop-turn.pieces c.loop-turn.left.now all c.in-More.more c.in_ok-turn.rest.now c.loop-turn-test.true c.loop-turn.invariant turned

pub read_pieces-returns : goal.read_pieces-returns
read_pieces-returns t c =
    let ts = c.args.tokens.now in
    let all = read_pieces c.args.depth (read_item c.args.within) c.args.begun (length ts) [] ts in
    turns_end (piece_turn c.args.depth (read_item c.args.within) c.args.begun) (length ts) c.loop-turn._turn c.loop-turn.pieces c.loop-turn.left.now all c.loop-turn-test.false c.loop-turn.invariant

pub read_else-loop-turn-init : goal.read_else-loop-turn-init
read_else-loop-turn-init t c =
    let ts = c.args.tokens.now in
    let step = else_turn c.args.depth (read_item c.args.within) in
    let whole : c.args.turns - 0 ≡ c.args.turns = omega arith in
    ap (λ n. looped step n (c.args.front.0, c.args.front.1) ts) whole ∙ sym (else_is c.args.depth (read_item c.args.within) c.args.turns c.args.front.0 c.args.front.1 ts)

pub read_else-returns-in_err-turn : goal.read_else-returns-in_err-turn
read_else-returns-in_err-turn t c =
    let all = read_else c.args.depth (read_item c.args.within) c.args.turns c.args.front.0 c.args.front.1 c.args.tokens.now in
    turn_fails (else_turn c.args.depth (read_item c.args.within)) c.args.turns c.loop-turn._turn (c.loop-turn.arms, c.loop-turn.end) c.loop-turn.left.now all (λ r. (r.0, r.1.now)) (λ r. (r.0, r.1.now))
    c.read_else_turn.result c.from_residual.result c.in_err-turn.field-0.0 c.loop-turn-test.true c.loop-turn.invariant c.in_err-turn.was (search rules) c.read_else_turn.ensures

pub read_else-returns-in-Done : goal.read_else-returns-in-Done
read_else-returns-in-Done t c =
    let step = else_turn c.args.depth (read_item c.args.within) in
    let all = read_else c.args.depth (read_item c.args.within) c.args.turns c.args.front.0 c.args.front.1 c.args.tokens.now in
    let turned : step (c.loop-turn.arms, c.loop-turn.end) c.loop-turn.left.now ≡ Some (Done c.in-Done.item, c.in_ok-turn.rest.now) = search rules in
    turn_done step c.args.turns c.loop-turn._turn (c.loop-turn.arms, c.loop-turn.end) c.loop-turn.left.now all c.in-Done.item c.in_ok-turn.rest.now c.loop-turn-test.true c.loop-turn.invariant turned

pub read_else-loop-turn-preserved : goal.read_else-loop-turn-preserved
read_else-loop-turn-preserved t c =
    let step = else_turn c.args.depth (read_item c.args.within) in
    let all = read_else c.args.depth (read_item c.args.within) c.args.turns c.args.front.0 c.args.front.1 c.args.tokens.now in
    let turned : step (c.loop-turn.arms, c.loop-turn.end) c.loop-turn.left.now ≡ Some (More (c.in-More.more, c.in-More.last), c.in_ok-turn.rest.now) = search rules in
    turn_more step c.args.turns c.loop-turn._turn (c.loop-turn.arms, c.loop-turn.end) c.loop-turn.left.now all (c.in-More.more, c.in-More.last) c.in_ok-turn.rest.now c.loop-turn-test.true c.loop-turn.invariant turned

pub read_else-returns : goal.read_else-returns
read_else-returns t c =
    let all = read_else c.args.depth (read_item c.args.within) c.args.turns c.args.front.0 c.args.front.1 c.args.tokens.now in
    turns_end (else_turn c.args.depth (read_item c.args.within)) c.args.turns c.loop-turn._turn (c.loop-turn.arms, c.loop-turn.end) c.loop-turn.left.now all c.loop-turn-test.false c.loop-turn.invariant

pub read_item-returns : goal.read_item-returns
read_item-returns t c = rw (item_below c.args.depth c.args.tokens.now c.if-depth-eq0.false) c.read_item_by.ensures
