use Rattle.std.proofs.Common.{◌≡◌, take, map, reverse}
use Rattle.c_tree.specs.Flow.{arm_flow_of, arms_flow, piece_flow_of, sequence}
use Rattle.c_types.proofs.flow.+flows.Given as goal

abbrev pub invariant-arms_flow-loop-arm : goal.invariant-arms_flow-loop-arm
invariant-arms_flow-loop-arm l = l.flow ≡ arms_flow (map arm_flow_of (reverse (map (λ a. a.now) l.yielded))) l.fn.last

abbrev pub invariant-flow_of-loop-piece : goal.invariant-flow_of-loop-piece
invariant-flow_of-loop-piece l = l.flow ≡ sequence (map piece_flow_of (take l.piece-index l.pieces))
