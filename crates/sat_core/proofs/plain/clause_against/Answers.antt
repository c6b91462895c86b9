use Rattle.std.proofs.Common.{false}
use Rattle.sat_core.proofs.PlainLaws.{against-take}
use Rattle.sat_core.proofs.plain.clause_against.Goals as goal

pub loop-var-preserved : goal.loop-var-preserved
loop-var-preserved c =
    let more = against-take c.args.bits.now c.loop-var.var false c.loop-var-test.true in
    let pushed = c.in_ok-push.ensures.ok in
    let before = c.loop-var.invariant in
    (cc)
