use Rattle.std.proofs.Common.{◌≡◌, take, [], replicate}
use Rattle.c_types.specs.Peeling.{AreRows}
use Rattle.c_types.proofs.cycles.rows_of.Given as goal

abbrev pub invariant-loop : goal.invariant-loop
invariant-loop l = l.rows ≡ replicate l.counter []

abbrev pub invariant-loop-call : goal.invariant-loop-call
invariant-loop-call l = AreRows l.functions l.rows (take l.call-index l.calls)
