use Rattle.std.proofs.Common.{◌≡◌, ◌++◌, take, flat_map}
use Rattle.c_tree.specs.UserCalls.{start_calls}
use Rattle.call_contexts.proofs.calls.add_starts.Given as goal

abbrev pub invariant-loop-start : goal.invariant-loop-start
invariant-loop-start l = l.list ≡ l.fn.list ++ flat_map (start_calls l.caller) (take l.start-index l.starts)
