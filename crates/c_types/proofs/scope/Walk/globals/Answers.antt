use Rattle.std.proofs.Common.{◌∙◌, sym, ap, take}
use Rattle.std.proofs.lemmas.List.Sums.{fold_more}
use Rattle.c_types.specs.Structs.{walked_global, walked_globals}
use Rattle.c_types.proofs.scope.Walk.globals.Goals as goal

pub loop-global-preserved : goal.loop-global-preserved
loop-global-preserved c =
    c.in_ok-global.ensures
    ∙ ap (walked_global c.global-item.result) c.loop-global.invariant
    ∙ ap (λ d. walked_global d (walked_globals c.args.self.now (take c.loop-global.global-index c.args.globals.now))) c.global-item.is
    ∙ sym (fold_more (λ v d. walked_global d v) c.args.self.now c.args.globals.now c.loop-global.global-index c.global-item.result c.loop-global-test.true)
