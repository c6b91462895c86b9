use Rattle.std.proofs.Common.{◌≡◌, take, drop}
use Rattle.std.specs.List.{fold}
use Rattle.c_types.specs.Peeling.{IsOwed, taken_call}
use Rattle.c_types.proofs.cycles.Peeling.take_calls.Given as goal

abbrev pub invariant-loop-callee : goal.invariant-loop-callee
invariant-loop-callee l = (l.self ≡ fold taken_call l.fn.self (take l.callee-index l.callees)) × IsOwed l.self.counts (drop l.callee-index l.callees)
