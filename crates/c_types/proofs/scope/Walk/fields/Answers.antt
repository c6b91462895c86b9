use Rattle.std.proofs.Common.{[], ◌∙◌, sym, ap, take}
use Rattle.std.specs.List.{fold}
use Rattle.std.proofs.lemmas.List.Sums.{fold_more}
use Rattle.c_types.specs.Structs.{field_turn}
use Rattle.c_types.proofs.scope.Walk.fields.Goals as goal

pub loop-spec-preserved : goal.loop-spec-preserved
loop-spec-preserved c =
    c.in_ok-field.ensures
    ∙ ap (λ r. field_turn r c.spec-item.result) c.loop-spec.invariant
    ∙ ap (field_turn (fold field_turn (c.args.self.now, []) (take c.loop-spec.spec-index c.args.specs.now))) c.spec-item.is
    ∙ sym (fold_more field_turn (c.args.self.now, []) c.args.specs.now c.loop-spec.spec-index c.spec-item.result c.loop-spec-test.true)
