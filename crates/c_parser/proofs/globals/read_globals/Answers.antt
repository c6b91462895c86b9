-- A turn reads a global, and the comma or semicolon behind it.
use Rattle.std.proofs.Common.{rules, ◌≡◌, length, [], Some, ap, sym, ◌∙◌, ◌-◌, arith}
use Rattle.c_parser.specs.declared.turn.Turn.TheVariants.{More, Done}
use Rattle.c_parser.specs.ReadFile.{read_globals}
use Rattle.c_parser.specs.Loops.{looped}
use Rattle.c_parser.specs.FileLoops.{global_turn}
use Rattle.c_parser.proofs.Loops.{turn_done, turn_more, turn_fails, turns_end}
use Rattle.c_parser.proofs.FileLoops.{globals_is}
use Rattle.c_parser.proofs.globals.read_globals.Goals as goal

pub loop-turn-init : goal.loop-turn-init
loop-turn-init c =
    let whole : length c.args.tokens.now - 0 ≡ length c.args.tokens.now = omega arith in
    let empty : c.new-globals.result ≡ [] = search rules in
    ap (λ s. looped (global_turn c.args.base.now) (length c.args.tokens.now - 0) s c.args.tokens.now) empty ∙ ap (λ n. looped (global_turn c.args.base.now) n [] c.args.tokens.now) whole ∙ sym (globals_is c.args.base.now (length c.args.tokens.now) [] c.args.tokens.now)

pub returns-in_err-turn : goal.returns-in_err-turn
returns-in_err-turn c =
    turn_fails (global_turn c.args.base.now) (length c.args.tokens.now) c.loop-turn._turn c.loop-turn.globals c.loop-turn.left.now (read_globals c.args.base.now (length c.args.tokens.now) [] c.args.tokens.now) (λ r. (r.0, r.1.now)) (λ r. (r.0, r.1.now))
    c.read_global_turn.result c.from_residual.result c.in_err-turn.field-0.0 c.loop-turn-test.true c.loop-turn.invariant c.in_err-turn.was (search rules) c.read_global_turn.ensures

pub returns-in-Done : goal.returns-in-Done
returns-in-Done c =
    let turned : global_turn c.args.base.now c.loop-turn.globals c.loop-turn.left.now ≡ Some (Done c.in-Done.all, c.in_ok-turn.rest.now) = search rules in
    turn_done (global_turn c.args.base.now) (length c.args.tokens.now) c.loop-turn._turn c.loop-turn.globals c.loop-turn.left.now (read_globals c.args.base.now (length c.args.tokens.now) [] c.args.tokens.now) c.in-Done.all c.in_ok-turn.rest.now c.loop-turn-test.true c.loop-turn.invariant turned

pub loop-turn-preserved : goal.loop-turn-preserved
loop-turn-preserved c =
    let turned : global_turn c.args.base.now c.loop-turn.globals c.loop-turn.left.now ≡ Some (More c.in-More.more, c.in_ok-turn.rest.now) = search rules in
    turn_more (global_turn c.args.base.now) (length c.args.tokens.now) c.loop-turn._turn c.loop-turn.globals c.loop-turn.left.now (read_globals c.args.base.now (length c.args.tokens.now) [] c.args.tokens.now) c.in-More.more c.in_ok-turn.rest.now c.loop-turn-test.true c.loop-turn.invariant turned

pub returns : goal.returns
returns c = turns_end (global_turn c.args.base.now) (length c.args.tokens.now) c.loop-turn._turn c.loop-turn.globals c.loop-turn.left.now (read_globals c.args.base.now (length c.args.tokens.now) [] c.args.tokens.now) c.loop-turn-test.false c.loop-turn.invariant
