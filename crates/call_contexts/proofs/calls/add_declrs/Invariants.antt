use Rattle.std.proofs.Common.{◌≡◌, ◌++◌, take, flat_map}
use Rattle.c_tree.specs.UserCalls.{declr_calls}
use Rattle.call_contexts.proofs.calls.add_declrs.Given as goal

abbrev pub invariant-loop-declr : goal.invariant-loop-declr
invariant-loop-declr l = l.list ≡ l.fn.list ++ flat_map (declr_calls l.caller) (take l.declr-index l.declrs)
