use Rattle.std.proofs.Common.{◌+◌, List, ℕ, ap, sym, ◌∙◌}
use Rattle.c_meaning.specs.declared.machine.Ending.TheVariants.{Running}
use Rattle.c_replay.specs.Changes.{taken_back}
use Rattle.c_replay.proofs.Walks.{taken_back_whole}
use Rattle.c_replay.proofs.stepping.step.Goals as goal

pub returns-in-Err-clause-err : goal.returns-in-Err-clause-err
returns-in-Err-clause-err c =
    let m = c.args.machine.now in
    taken_back_whole m c.walk.new.machine c.walk.new.noted c.revive.new.objects (sym c.if-is_over.ensures) c.revive.ensures
    (c.in-Err.ensures.err Running ∙ ap (λ (fs : List ℕ). taken_back fs Running (record m { steps = m.steps + 1 })) c.new-noted.ensures)
