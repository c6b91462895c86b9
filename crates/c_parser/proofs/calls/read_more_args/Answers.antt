-- Each turn of the loop reads the `)`, or a comma and an argument.
use Rattle.std.proofs.Common.{rules, ◌≡◌, ◌+◌, ◌-◌, [], ◌∷◌, ◌++◌, Some, sym, ◌∙◌}
use Rattle.c_parser.specs.declared.term.Term.TheVariants as term
use Rattle.c_parser.specs.ReadExpressions.{read_want}
use Rattle.c_parser.specs.ReadStatements.{read_more_args}
use Rattle.c_parser.specs.Turns.{comma_arg}
use Rattle.c_parser.proofs.Turns.{chained_some, fails_as}
use Rattle.c_parser.proofs.Lists.{args_close, args_go, args_end}
use Rattle.c_parser.proofs.calls.read_more_args.Goals as goal

pub returns-in_err-close : goal.returns-in_err-close
returns-in_err-close c =
    let all = read_more_args c.args.depth c.args.turns c.args.front c.args.tokens.now in
    let closes = args_close c.args.depth c.args.turns c.loop-turn._turn c.loop-turn.arguments c.loop-turn.left.now all c.loop-turn-test.true (search rules) c.loop-turn.invariant in
    fails_as c.read_want.result c.from_residual.result (λ r. (r.0.now, r.1.now)) (λ r. (r.0, r.1.now)) (read_want term.Close c.loop-turn.left.now) all c.in_err-close.field-0.0
    (λ close us. Some ((c.loop-turn.arguments, close.start), us)) (search rules) c.in_err-close.was closes c.read_want.ensures

pub returns-then-sees : goal.returns-then-sees
returns-then-sees c =
    let all = read_more_args c.args.depth c.args.turns c.args.front c.args.tokens.now in
    let closes = args_close c.args.depth c.args.turns c.loop-turn._turn c.loop-turn.arguments c.loop-turn.left.now all c.loop-turn-test.true (search rules) c.loop-turn.invariant in
    let wanted : read_want term.Close c.loop-turn.left.now ≡ Some (c.in_ok-close.close.now, c.in_ok-close.rest.now) = search rules in
    closes ∙ chained_some (read_want term.Close c.loop-turn.left.now) (λ close us. Some ((c.loop-turn.arguments, close.start), us)) c.in_ok-close.close.now c.in_ok-close.rest.now wanted

pub returns-in_err-argument : goal.returns-in_err-argument
returns-in_err-argument c =
    let all = read_more_args c.args.depth c.args.turns c.args.front c.args.tokens.now in
    let goes = args_go c.args.depth c.args.turns c.loop-turn._turn c.loop-turn.arguments c.loop-turn.left.now all c.loop-turn-test.true (search rules) c.loop-turn.invariant in
    fails_as c.read_comma_arg.result c.from_residual-in_err-argument.result (λ r. (r.0, r.1.now)) (λ r. (r.0, r.1.now)) (comma_arg c.args.depth c.loop-turn.left.now) all c.in_err-argument.field-0.0
    (λ a us. read_more_args c.args.depth (c.args.turns - (c.loop-turn._turn + 1)) (c.loop-turn.arguments ++ a ∷ []) us) (search rules) c.in_err-argument.was goes c.read_comma_arg.ensures

pub loop-turn-preserved : goal.loop-turn-preserved
loop-turn-preserved c =
    let all = read_more_args c.args.depth c.args.turns c.args.front c.args.tokens.now in
    let pushed : c.push.new.self ≡ c.loop-turn.arguments ++ c.in_ok-argument.argument ∷ [] = search rules in
    let goes = args_go c.args.depth c.args.turns c.loop-turn._turn c.loop-turn.arguments c.loop-turn.left.now all c.loop-turn-test.true (search rules) c.loop-turn.invariant in
    let one : comma_arg c.args.depth c.loop-turn.left.now ≡ Some (c.in_ok-argument.argument, c.in_ok-argument.rest.now) = search rules in
    rw pushed (sym (goes ∙ chained_some (comma_arg c.args.depth c.loop-turn.left.now) (λ a us. read_more_args c.args.depth (c.args.turns - (c.loop-turn._turn + 1)) (c.loop-turn.arguments ++ a ∷ []) us)
    c.in_ok-argument.argument c.in_ok-argument.rest.now one))

pub returns : goal.returns
returns c =
    args_end c.args.depth c.args.turns c.loop-turn._turn c.loop-turn.arguments c.loop-turn.left.now (read_more_args c.args.depth c.args.turns c.args.front c.args.tokens.now)
    c.loop-turn-test.false c.loop-turn.invariant
