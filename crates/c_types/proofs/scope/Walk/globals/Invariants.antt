use Rattle.std.proofs.Common.{◌≡◌, take}
use Rattle.c_types.specs.Structs.{walked_globals}
use Rattle.c_types.proofs.scope.Walk.globals.Given as goal

abbrev pub invariant-loop-global : goal.invariant-loop-global
invariant-loop-global l = l.self ≡ walked_globals l.fn.self (take l.global-index l.globals)
