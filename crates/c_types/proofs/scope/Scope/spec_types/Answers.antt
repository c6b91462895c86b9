use Rattle.std.proofs.Common.{◌∙◌, sym, ap}
use Rattle.c_types.specs.Scopes.{spec_type}
use Rattle.c_types.proofs.InTurnLaws.{each_more}
use Rattle.c_types.proofs.scope.Scope.spec_types.Goals as goal

pub loop-spec-preserved : goal.loop-spec-preserved
loop-spec-preserved c =
    each_more spec_type c.args.specs.now c.args.self.now c.loop-spec.spec-index c.spec-item.result c.loop-spec.self c.spec_type.new.self c.loop-spec.made c.in_ok-spec_type.field-0
    c.loop-spec-test.true c.spec-item.is c.loop-spec.invariant c.in_ok-spec_type.ensures
    ∙ ap (λ m. (c.spec_type.new.self, m)) (sym c.in_ok-push.ensures.ok)
