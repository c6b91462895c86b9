-- Of the faults so far it has the least.
use Rattle.std.proofs.Common.{◌≡◌, [], MatchOption, take}
use Rattle.c_types.specs.Faults.{IsLeast}
use Rattle.c_types.proofs.faults.least.Given as goal

abbrev pub invariant-loop-fault : goal.invariant-loop-fault
invariant-loop-fault l = MatchOption l.found (take l.fault-index l.faults ≡ []) (IsLeast (take l.fault-index l.faults))
