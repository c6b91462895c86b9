-- The copy is the skeleton.
use Rattle.std.proofs.Common.{◌≡◌, ◌↔◌, sym, subst}
use Rattle.std.proofs.lemmas.Result.{IfOk-weaker}
use Rattle.c_tree.specs.Fill.{skeleton}
use Rattle.c_tree.specs.WellFormed.{FreesFit, IsWellFormed}
use Rattle.c_tree.specs.declared.program.Program.{Program}
use Rattle.c_tree.proofs.WellFormedKept.{skeleton_well_formed}
use Rattle.c_tree.proofs.copy.skeleton.Goals as goal

abbrev Keeps : Program → Program → Type 0
Keeps p q = IsWellFormed p ↔ (IsWellFormed q × FreesFit p)

pub returns-clause-well_formed : goal.returns-clause-well_formed
returns-clause-well_formed c =
    IfOk-weaker c.copied_program.result (λ copy. copy ≡ skeleton c.args.program.now) (Keeps c.args.program.now)
    (λ copy e. subst (Keeps c.args.program.now) (sym e) (skeleton_well_formed c.args.program.now)) c.copied_program.ensures
