use Rattle.std.proofs.Common.{◌∙◌, sym, ap, take}
use Rattle.std.proofs.lemmas.List.Sums.{fold_more}
use Rattle.c_types.specs.Program.{walked_from, walked_top}
use Rattle.c_types.proofs.scope.Walk.tops.Goals as goal

pub loop-top-preserved : goal.loop-top-preserved
loop-top-preserved c =
    c.in_ok-top.ensures
    ∙ ap (λ w. walked_top w c.top-item.result) c.loop-top.invariant
    ∙ ap (walked_top (walked_from c.args.self.now (take c.loop-top.top-index c.args.tops.now))) c.top-item.is
    ∙ sym (fold_more walked_top c.args.self.now c.args.tops.now c.loop-top.top-index c.top-item.result c.loop-top-test.true)
