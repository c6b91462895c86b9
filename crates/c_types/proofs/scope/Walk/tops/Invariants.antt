use Rattle.std.proofs.Common.{◌≡◌, take}
use Rattle.c_types.specs.Program.{walked_from}
use Rattle.c_types.proofs.scope.Walk.tops.Given as goal

abbrev pub invariant-loop-top : goal.invariant-loop-top
invariant-loop-top l = l.self ≡ walked_from l.fn.self (take l.top-index l.tops)
