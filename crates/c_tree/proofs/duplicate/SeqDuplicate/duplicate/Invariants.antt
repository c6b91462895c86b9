-- The items so far are copied.
use Rattle.std.proofs.Common.{◌≡◌, take}
use Rattle.c_tree.proofs.duplicate.SeqDuplicate.duplicate.Given as goal

abbrev pub invariant-loop-item : goal.invariant-loop-item
invariant-loop-item g l = l.copy ≡ take l.item-index l.items
