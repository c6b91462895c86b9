use Rattle.std.proofs.Common.{[], ◌∙◌, sym, ap, take}
use Rattle.std.proofs.lemmas.List.Sums.{fold_more}
use Rattle.c_types.specs.Program.{definitions, with_top}
use Rattle.c_types.proofs.answer.definitions.Goals as goal

pub loop-top-preserved : goal.loop-top-preserved
loop-top-preserved c =
    c.in_ok-add_top.ensures
    ∙ ap (λ rows. with_top rows c.top-item.result) c.loop-top.invariant
    ∙ ap (with_top (definitions (take c.loop-top.top-index c.args.tops.now))) c.top-item.is
    ∙ sym (fold_more with_top [] c.args.tops.now c.loop-top.top-index c.top-item.result c.loop-top-test.true)
