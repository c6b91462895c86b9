use Rattle.std.proofs.Common.{◌≡◌, ◌++◌, take, flat_map}
use Rattle.source_patcher.specs.Changes.{arm_changes, piece_part}
use Rattle.source_patcher.proofs.walk.+walk.Given as goal

abbrev pub invariant-push_arms-loop-arm : goal.invariant-push_arms-loop-arm
invariant-push_arms-loop-arm l = l.out ≡ l.fn.out ++ flat_map (arm_changes l.tokens l.puts) (take l.arm-index l.arms-2)

abbrev pub invariant-push_pieces-loop-piece : goal.invariant-push_pieces-loop-piece
invariant-push_pieces-loop-piece l = l.out ≡ l.fn.out ++ flat_map (λ p. (piece_part l.tokens l.puts p).changes) (take l.piece-index l.pieces-2)
