-- A copy that keeps each gap is the same.
use Rattle.std.proofs.Common.{◌≡◌, IfOk, subst}
use Rattle.c_tree.proofs.Fills.{kept_item}
use Rattle.c_tree.specs.declared.program.Item.{Item}
use Rattle.c_tree.proofs.copy.ItemDuplicate.duplicate.Goals as goal

pub returns : goal.returns
returns c = subst (λ (z : Item). IfOk c.copied_item.result (λ copy. copy ≡ z)) (kept_item c.args.self.now) c.copied_item.ensures
