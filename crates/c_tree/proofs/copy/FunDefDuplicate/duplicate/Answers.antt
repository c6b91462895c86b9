-- A copy that keeps each gap is the same.
use Rattle.std.proofs.Common.{◌≡◌, IfOk, subst}
use Rattle.c_tree.proofs.Fills.{kept_fun}
use Rattle.c_tree.specs.declared.program.FunDef.{FunDef}
use Rattle.c_tree.proofs.copy.FunDefDuplicate.duplicate.Goals as goal

pub returns : goal.returns
returns c = subst (λ (z : FunDef). IfOk c.copied_fun.result (λ copy. copy ≡ z)) (kept_fun c.args.self.now) c.copied_fun.ensures
