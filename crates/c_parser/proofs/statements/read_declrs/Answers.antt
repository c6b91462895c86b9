-- Each turn of the loop reads a declarator and what stands behind it.
use Rattle.std.proofs.Common.{rules, ◌≡◌, ◌+◌, ◌-◌, [], ◌∷◌, ◌++◌}
use Rattle.c_parser.specs.ReadStatements.{read_declr, read_declrs_behind, read_declrs}
use Rattle.c_parser.proofs.Turns.{fails_as}
use Rattle.c_parser.proofs.Lists.{declrs_open, declrs_stop, declrs_go, declrs_end}
use Rattle.c_parser.proofs.statements.read_declrs.Goals as goal

pub returns-in_err-declr : goal.returns-in_err-declr
returns-in_err-declr c =
    let all = read_declrs c.args.depth c.args.base.now c.args.turns [] c.args.tokens.now in
    let opened = declrs_open c.args.depth c.args.base.now c.args.turns c.loop-turn._turn c.loop-turn.declrs c.loop-turn.left.now all c.loop-turn-test.true c.loop-turn.invariant in
    fails_as c.read_declr.result c.from_residual.result (λ r. (r.0, r.1.now)) (λ r. (r.0, r.1.now)) (read_declr c.args.depth c.args.base.now c.loop-turn.left.now) all c.in_err-declr.field-0.0
    (λ d us. read_declrs_behind (read_declrs c.args.depth c.args.base.now (c.args.turns - (c.loop-turn._turn + 1))) (c.loop-turn.declrs ++ d ∷ []) us)
    (search rules) c.in_err-declr.was opened c.read_declr.ensures

pub returns-then-not-sees : goal.returns-then-not-sees
returns-then-not-sees c =
    let pushed : c.push.new.self ≡ c.loop-turn.declrs ++ c.in_ok-declr.declr ∷ [] = search rules in
    rw pushed (declrs_stop c.args.depth c.args.base.now c.args.turns c.loop-turn._turn c.loop-turn.declrs c.loop-turn.left.now (read_declrs c.args.depth c.args.base.now c.args.turns [] c.args.tokens.now)
    c.in_ok-declr.declr c.in_ok-declr.rest.now c.loop-turn-test.true c.loop-turn.invariant (search rules) (search rules))

pub loop-turn-preserved : goal.loop-turn-preserved
loop-turn-preserved c =
    let pushed : c.push.new.self ≡ c.loop-turn.declrs ++ c.in_ok-declr.declr ∷ [] = search rules in
    rw (pushed, c.skip-left.ensures) (declrs_go c.args.depth c.args.base.now c.args.turns c.loop-turn._turn c.loop-turn.declrs c.loop-turn.left.now (read_declrs c.args.depth c.args.base.now c.args.turns [] c.args.tokens.now)
    c.in_ok-declr.declr c.in_ok-declr.rest.now c.loop-turn-test.true c.loop-turn.invariant (search rules) (search rules))

pub returns : goal.returns
returns c =
    declrs_end c.args.depth c.args.base.now c.args.turns c.loop-turn._turn c.loop-turn.declrs c.loop-turn.left.now (read_declrs c.args.depth c.args.base.now c.args.turns [] c.args.tokens.now)
    c.loop-turn-test.false c.loop-turn.invariant
