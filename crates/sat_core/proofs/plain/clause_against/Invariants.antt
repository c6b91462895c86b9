use Rattle.std.proofs.Common.{◌≡◌, take}
use Rattle.sat_core.specs.Bits.{against}
use Rattle.sat_core.proofs.plain.clause_against.Given as goal

abbrev pub invariant-loop-var : goal.invariant-loop-var
invariant-loop-var l = l.clause ≡ against (take l.var l.bits)
