use Rattle.c_types.proofs.Zeros.{ZerosBelow}
use Rattle.c_types.proofs.cycles.uncalled.Given as goal

abbrev pub invariant-loop-function : goal.invariant-loop-function
invariant-loop-function l = ZerosBelow l.counts l.function l.found
