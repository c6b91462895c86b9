use Rattle.std.proofs.Common.{◌≡◌, take, flat_map}
use Rattle.c_types.specs.Scopes.{type_faults}
use Rattle.c_types.proofs.functions.all_faults.Given as goal

abbrev pub invariant-loop-ty : goal.invariant-loop-ty
invariant-loop-ty l = l.faults ≡ flat_map type_faults (take l.ty-index l.written)
