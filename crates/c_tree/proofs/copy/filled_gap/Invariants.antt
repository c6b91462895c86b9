-- The puts so far are freed.
use Rattle.std.proofs.Common.{◌≡◌, map, take}
use Rattle.c_tree.specs.Fill.{free_of}
use Rattle.c_tree.proofs.copy.filled_gap.Given as goal

abbrev pub invariant-loop-put : goal.invariant-loop-put
invariant-loop-put l = l.frees ≡ map free_of (take l.put-index l.here)
