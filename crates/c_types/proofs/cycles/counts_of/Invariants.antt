use Rattle.std.proofs.Common.{take}
use Rattle.c_types.specs.Peeling.{IsCounted}
use Rattle.c_types.proofs.cycles.counts_of.Given as goal

abbrev pub invariant-loop-call : goal.invariant-loop-call
invariant-loop-call l = IsCounted l.functions l.counts (take l.call-index l.calls)
