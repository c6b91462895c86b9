use Rattle.std.proofs.Common.{◌≡◌, take}
use Rattle.call_contexts.specs.Calls.{rows_from}
use Rattle.call_contexts.proofs.calls.calls_by_function.Given as goal

abbrev pub invariant-loop-caller : goal.invariant-loop-caller
invariant-loop-caller l = l.rows ≡ rows_from 0 (take l.caller l.funs)
