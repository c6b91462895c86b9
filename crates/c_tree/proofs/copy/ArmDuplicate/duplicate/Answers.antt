-- A copy that keeps each gap is the same.
use Rattle.std.proofs.Common.{◌≡◌, IfOk, subst}
use Rattle.c_tree.proofs.Fills.{kept_arm}
use Rattle.c_tree.specs.declared.program.Arm.{Arm}
use Rattle.c_tree.proofs.copy.ArmDuplicate.duplicate.Goals as goal

pub returns : goal.returns
returns c = subst (λ (z : Arm). IfOk c.copied_arm.result (λ copy. copy ≡ z)) (kept_arm c.args.self.now) c.copied_arm.ensures
