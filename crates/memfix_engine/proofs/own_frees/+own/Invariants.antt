-- The puts of the arms and the pieces so far are added.
use Rattle.std.proofs.Common.{◌≡◌, ◌++◌, take, flat_map}
use Rattle.memfix_engine.specs.OwnPuts.{arm_gaps_in, gap_puts, piece_gaps_in}
use Rattle.memfix_engine.proofs.own_frees.+own.Given as goal

abbrev pub invariant-push_arms-loop-arm : goal.invariant-push_arms-loop-arm
invariant-push_arms-loop-arm l = l.out ≡ l.fn.out ++ flat_map gap_puts (flat_map arm_gaps_in (take l.arm-index l.arms-2))

abbrev pub invariant-push_pieces-loop-piece : goal.invariant-push_pieces-loop-piece
invariant-push_pieces-loop-piece l = l.out ≡ l.fn.out ++ flat_map gap_puts (flat_map piece_gaps_in (take l.piece-index l.pieces-2))
