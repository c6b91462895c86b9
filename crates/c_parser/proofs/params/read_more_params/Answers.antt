-- A turn reads a comma and a parameter, or the parenthesis behind the last one.
use Rattle.std.proofs.Common.{rules, ◌≡◌, Some, ap, sym, ◌∙◌, ◌-◌, arith}
use Rattle.c_parser.specs.declared.turn.Turn.TheVariants.{More, Done}
use Rattle.c_parser.specs.ReadFile.{read_more_params}
use Rattle.c_parser.specs.Loops.{looped}
use Rattle.c_parser.specs.FileLoops.{param_turn}
use Rattle.c_parser.proofs.Loops.{turn_done, turn_more, turn_fails, turns_end}
use Rattle.c_parser.proofs.FileLoops.{params_is}
use Rattle.c_parser.proofs.params.read_more_params.Goals as goal

pub loop-turn-init : goal.loop-turn-init
loop-turn-init c =
    let whole : c.args.turns - 0 ≡ c.args.turns = omega arith in
    ap (λ n. looped param_turn n c.args.front c.args.tokens.now) whole ∙ sym (params_is c.args.turns c.args.front c.args.tokens.now)

pub returns-in_err-turn : goal.returns-in_err-turn
returns-in_err-turn c =
    turn_fails param_turn c.args.turns c.loop-turn._turn c.loop-turn.params c.loop-turn.left.now (read_more_params c.args.turns c.args.front c.args.tokens.now) (λ r. (r.0, r.1.now)) (λ r. (r.0, r.1.now))
    c.read_param_turn.result c.from_residual.result c.in_err-turn.field-0.0 c.loop-turn-test.true c.loop-turn.invariant c.in_err-turn.was (search rules) c.read_param_turn.ensures

pub returns-in-Done : goal.returns-in-Done
returns-in-Done c =
    let turned : param_turn c.loop-turn.params c.loop-turn.left.now ≡ Some (Done c.in-Done.all, c.in_ok-turn.rest.now) = search rules in
    turn_done param_turn c.args.turns c.loop-turn._turn c.loop-turn.params c.loop-turn.left.now (read_more_params c.args.turns c.args.front c.args.tokens.now) c.in-Done.all c.in_ok-turn.rest.now c.loop-turn-test.true c.loop-turn.invariant turned

pub loop-turn-preserved : goal.loop-turn-preserved
loop-turn-preserved c =
    let turned : param_turn c.loop-turn.params c.loop-turn.left.now ≡ Some (More c.in-More.more, c.in_ok-turn.rest.now) = search rules in
    turn_more param_turn c.args.turns c.loop-turn._turn c.loop-turn.params c.loop-turn.left.now (read_more_params c.args.turns c.args.front c.args.tokens.now) c.in-More.more c.in_ok-turn.rest.now c.loop-turn-test.true c.loop-turn.invariant turned

pub returns : goal.returns
returns c = turns_end param_turn c.args.turns c.loop-turn._turn c.loop-turn.params c.loop-turn.left.now (read_more_params c.args.turns c.args.front c.args.tokens.now) c.loop-turn-test.false c.loop-turn.invariant
