use Rattle.std.proofs.Common.{◌≡◌, ◌++◌, take, flat_map}
use Rattle.c_tree.specs.UserCalls.{arm_calls_in, piece_calls_in}
use Rattle.call_contexts.proofs.calls.+calls.Given as goal

abbrev pub invariant-add_arms-loop-arm : goal.invariant-add_arms-loop-arm
invariant-add_arms-loop-arm l = l.list ≡ l.fn.list ++ flat_map (arm_calls_in l.caller) (take l.arm-index l.slice)

abbrev pub invariant-add_block-loop-piece : goal.invariant-add_block-loop-piece
invariant-add_block-loop-piece l = l.list ≡ l.fn.list ++ flat_map (piece_calls_in l.caller) (take l.piece-index l.pieces)
