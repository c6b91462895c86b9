use Rattle.std.proofs.Common.{◌≡◌, take}
use Rattle.c_types.specs.Blocks.{walked_free}
use Rattle.c_types.specs.InTurn.{each}
use Rattle.c_types.proofs.scope.Walk.frees.Given as goal

abbrev pub invariant-loop-free : goal.invariant-loop-free
invariant-loop-free l = each walked_free (take l.free-index l.frees) l.fn.self ≡ (l.self, l.made)
