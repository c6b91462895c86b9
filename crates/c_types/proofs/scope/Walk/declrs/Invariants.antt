use Rattle.std.proofs.Common.{◌≡◌, take}
use Rattle.c_types.specs.Statements.{walked_declr}
use Rattle.c_types.specs.InTurn.{each}
use Rattle.c_types.proofs.scope.Walk.declrs.Given as goal

abbrev pub invariant-loop-declr : goal.invariant-loop-declr
invariant-loop-declr l = each (walked_declr l.nesting) (take l.declr-index l.declrs) l.fn.self ≡ (l.self, l.made)
