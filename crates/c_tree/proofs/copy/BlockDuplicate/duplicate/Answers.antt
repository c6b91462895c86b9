-- A copy that keeps each gap is the same.
use Rattle.std.proofs.Common.{◌≡◌, IfOk, subst}
use Rattle.c_tree.proofs.Fills.{kept_block}
use Rattle.c_tree.specs.declared.program.Block.{Block}
use Rattle.c_tree.proofs.copy.BlockDuplicate.duplicate.Goals as goal

pub returns : goal.returns
returns c = subst (λ (z : Block). IfOk c.copied_block.result (λ copy. copy ≡ z)) (kept_block c.args.self.now) c.copied_block.ensures
