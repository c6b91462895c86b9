use Rattle.std.proofs.Common.{◌≡◌, take}
use Rattle.c_types.specs.Blocks.{walked_start}
use Rattle.c_types.specs.InTurn.{each}
use Rattle.c_types.proofs.scope.Walk.starts.Given as goal

abbrev pub invariant-loop-start : goal.invariant-loop-start
invariant-loop-start l = each (walked_start l.nesting) (take l.start-index l.starts) l.fn.self ≡ (l.self, l.made)
