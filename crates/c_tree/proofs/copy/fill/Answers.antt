-- The slice has the choice's puts.
use Rattle.std.proofs.Common.{◌≡◌, IfOk, List, sym, subst}
use Rattle.std.proofs.lemmas.Result.{IfOk-weaker}
use Rattle.c_tree.specs.Fill.{filled, fill, regapped}
use Rattle.c_tree.specs.WellFormed.{IsWellFormed}
use Rattle.c_tree.specs.declared.choice.Put.{Put}
use Rattle.c_tree.proofs.WellFormedKept.{fill_well_formed}
use Rattle.c_tree.proofs.copy.fill.Goals as goal

pub returns-clause-filled : goal.returns-clause-filled
returns-clause-filled c = subst (λ (puts : List Put). IfOk c.copied_program.result (λ copy. copy ≡ regapped (filled puts) c.args.program.now)) c.as_slice.ensures c.copied_program.ensures

pub returns-clause-well_formed : goal.returns-clause-well_formed
returns-clause-well_formed c w fit =
    IfOk-weaker c.copied_program.result (λ copy. copy ≡ fill c.args.program.now c.args.choice.now) IsWellFormed
    (λ copy e. subst IsWellFormed (sym e) (fill_well_formed c.args.program.now c.args.choice.now w fit)) (returns-clause-filled c)
