use Rattle.std.proofs.Common.{◌≡◌, [], drop}
use Rattle.c_types.specs.Functions.{heading_params}
use Rattle.c_types.proofs.functions.heading_params.Given as goal

abbrev pub invariant-loop-ty : goal.invariant-loop-ty
invariant-loop-ty l = heading_params l.of l.params (drop l.ty-index l.written) ≡ heading_params l.of [] l.written
