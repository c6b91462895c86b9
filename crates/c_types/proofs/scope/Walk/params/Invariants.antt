use Rattle.std.proofs.Common.{◌≡◌, take}
use Rattle.c_types.specs.Functions.{walked_param}
use Rattle.c_types.specs.InTurn.{each}
use Rattle.c_types.proofs.scope.Walk.params.Given as goal

abbrev pub invariant-loop-spec : goal.invariant-loop-spec
invariant-loop-spec l = each (walked_param l.function) (take l.spec-index l.specs) l.fn.self ≡ (l.self, l.made)
