use Rattle.std.proofs.Common.{◌∙◌, sym, ap}
use Rattle.c_types.specs.Statements.{walked_declr}
use Rattle.c_types.proofs.InTurnLaws.{each_more}
use Rattle.c_types.proofs.scope.Walk.declrs.Goals as goal

pub loop-declr-preserved : goal.loop-declr-preserved
loop-declr-preserved c =
    each_more (walked_declr c.args.nesting) c.args.declrs.now c.args.self.now c.loop-declr.declr-index c.declr-item.result c.loop-declr.self c.declr.new.self c.loop-declr.made c.in_ok-declr.field-0
    c.loop-declr-test.true c.declr-item.is c.loop-declr.invariant c.in_ok-declr.ensures
    ∙ ap (λ m. (c.declr.new.self, m)) (sym c.in_ok-push.ensures.ok)
