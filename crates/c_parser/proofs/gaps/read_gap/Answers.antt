-- A turn reads a `free` statement or a semicolon.
use Rattle.std.proofs.Common.{rules, ◌≡◌, length, [], Some, ap, sym, ◌∙◌, ◌-◌, arith}
use Rattle.c_parser.specs.declared.turn.Turn.TheVariants.{More, Done}
use Rattle.c_parser.specs.ReadBlocks.{read_gap}
use Rattle.c_parser.specs.Loops.{looped, gap_turn}
use Rattle.c_parser.proofs.Loops.{turn_done, turn_more, turn_fails, turns_end, gap_is}
use Rattle.c_parser.proofs.gaps.read_gap.Goals as goal

pub loop-turn-init : goal.loop-turn-init
loop-turn-init c =
    let whole : length c.args.tokens.now - 0 ≡ length c.args.tokens.now = omega arith in
    let empty : c.new-frees.result ≡ [] = search rules in
    ap (λ s. looped (gap_turn c.args.depth) (length c.args.tokens.now - 0) s c.args.tokens.now) empty ∙ ap (λ n. looped (gap_turn c.args.depth) n [] c.args.tokens.now) whole
    ∙ sym (gap_is c.args.depth (length c.args.tokens.now) [] c.args.tokens.now)

pub returns-in_err-turn : goal.returns-in_err-turn
returns-in_err-turn c =
    turn_fails (gap_turn c.args.depth) (length c.args.tokens.now) c.loop-turn._turn c.loop-turn.frees c.loop-turn.left.now (read_gap c.args.depth (length c.args.tokens.now) [] c.args.tokens.now) (λ r. (r.0, r.1.now)) (λ r. (r.0, r.1.now))
    c.read_gap_turn.result c.from_residual.result c.in_err-turn.field-0.0 c.loop-turn-test.true c.loop-turn.invariant c.in_err-turn.was (search rules) c.read_gap_turn.ensures

pub returns-in-Done : goal.returns-in-Done
returns-in-Done c =
    let turned : gap_turn c.args.depth c.loop-turn.frees c.loop-turn.left.now ≡ Some (Done c.in-Done.all, c.in_ok-turn.rest.now) = search rules in
    turn_done (gap_turn c.args.depth) (length c.args.tokens.now) c.loop-turn._turn c.loop-turn.frees c.loop-turn.left.now (read_gap c.args.depth (length c.args.tokens.now) [] c.args.tokens.now) c.in-Done.all c.in_ok-turn.rest.now c.loop-turn-test.true c.loop-turn.invariant turned

pub loop-turn-preserved : goal.loop-turn-preserved
loop-turn-preserved c =
    let turned : gap_turn c.args.depth c.loop-turn.frees c.loop-turn.left.now ≡ Some (More c.in-More.more, c.in_ok-turn.rest.now) = search rules in
    turn_more (gap_turn c.args.depth) (length c.args.tokens.now) c.loop-turn._turn c.loop-turn.frees c.loop-turn.left.now (read_gap c.args.depth (length c.args.tokens.now) [] c.args.tokens.now) c.in-More.more c.in_ok-turn.rest.now c.loop-turn-test.true c.loop-turn.invariant turned

pub returns : goal.returns
returns c = turns_end (gap_turn c.args.depth) (length c.args.tokens.now) c.loop-turn._turn c.loop-turn.frees c.loop-turn.left.now (read_gap c.args.depth (length c.args.tokens.now) [] c.args.tokens.now) c.loop-turn-test.false c.loop-turn.invariant
