use Rattle.std.proofs.Common.{◌≤◌, take}
use Rattle.std.specs.List.{All}
use Rattle.c_types.proofs.cycles.bound_of.Given as goal

abbrev pub invariant-loop-call : goal.invariant-loop-call
invariant-loop-call l = All (λ c. (c.caller ≤ l.last) × (c.callee ≤ l.last)) (take l.call-index l.calls)
