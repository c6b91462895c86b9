-- A copy that keeps each gap is the same.
use Rattle.std.proofs.Common.{◌≡◌, IfOk, subst}
use Rattle.c_tree.proofs.Fills.{kept}
use Rattle.c_tree.specs.declared.program.Program.{Program}
use Rattle.c_tree.proofs.copy.ProgramDuplicate.duplicate.Goals as goal

pub returns : goal.returns
returns c = subst (λ (z : Program). IfOk c.copied_program.result (λ copy. copy ≡ z)) (kept c.args.self.now) c.copied_program.ensures
