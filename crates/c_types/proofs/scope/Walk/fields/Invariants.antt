use Rattle.std.proofs.Common.{◌≡◌, [], take}
use Rattle.std.specs.List.{fold}
use Rattle.c_types.specs.Structs.{field_turn}
use Rattle.c_types.proofs.scope.Walk.fields.Given as goal

abbrev pub invariant-loop-spec : goal.invariant-loop-spec
invariant-loop-spec l = (l.self, l.fields) ≡ fold field_turn (l.fn.self, []) (take l.spec-index l.specs)
