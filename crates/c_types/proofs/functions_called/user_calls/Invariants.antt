use Rattle.std.proofs.Common.{◌≡◌, take}
use Rattle.c_tree.specs.UserCalls.{calls_from}
use Rattle.c_types.proofs.functions_called.user_calls.Given as goal

abbrev pub invariant-loop-caller : goal.invariant-loop-caller
invariant-loop-caller l = l.list ≡ calls_from 0 (take l.caller l.funs)
