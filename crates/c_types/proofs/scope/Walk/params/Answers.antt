use Rattle.std.proofs.Common.{◌∙◌, sym, ap}
use Rattle.c_types.specs.Functions.{walked_param}
use Rattle.c_types.proofs.InTurnLaws.{each_more}
use Rattle.c_types.proofs.scope.Walk.params.Goals as goal

pub loop-spec-preserved : goal.loop-spec-preserved
loop-spec-preserved c =
    each_more (walked_param c.args.function) c.args.specs.now c.args.self.now c.loop-spec.spec-index c.spec-item.result c.loop-spec.self c.param.new.self c.loop-spec.made c.in_ok-param.field-0
    c.loop-spec-test.true c.spec-item.is c.loop-spec.invariant c.in_ok-param.ensures
    ∙ ap (λ m. (c.param.new.self, m)) (sym c.in_ok-push.ensures.ok)
