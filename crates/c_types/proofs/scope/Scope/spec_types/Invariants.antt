use Rattle.std.proofs.Common.{◌≡◌, take}
use Rattle.c_types.specs.InTurn.{each}
use Rattle.c_types.specs.Scopes.{spec_type}
use Rattle.c_types.proofs.scope.Scope.spec_types.Given as goal

abbrev pub invariant-loop-spec : goal.invariant-loop-spec
invariant-loop-spec l = each spec_type (take l.spec-index l.specs) l.fn.self ≡ (l.self, l.made)
