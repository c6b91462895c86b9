-- The arms and the pieces so far are copied.
use Rattle.std.proofs.Common.{◌≡◌, map, take}
use Rattle.std.specs.Option.{option_copied}
use Rattle.c_tree.specs.Copies.{regap, regapped_arm, regapped_piece}
use Rattle.c_tree.proofs.copy.+copies.Given as goal

abbrev pub invariant-copied_arms-loop-arm : goal.invariant-copied_arms-loop-arm
invariant-copied_arms-loop-arm l = l.copy ≡ map (regapped_arm (regap (option_copied l.fn.puts))) (take l.arm-index l.arms)

abbrev pub invariant-copied_block-loop-piece : goal.invariant-copied_block-loop-piece
invariant-copied_block-loop-piece l = l.items ≡ map (regapped_piece (regap (option_copied l.fn.puts))) (take l.piece-index l.pieces)
