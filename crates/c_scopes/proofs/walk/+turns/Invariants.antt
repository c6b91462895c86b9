use Rattle.std.proofs.Common.{◌≡◌, ◌++◌, drop, flat_map}
use Rattle.c_scopes.specs.Turns.{arm_turns, piece_turns}
use Rattle.c_scopes.proofs.walk.+turns.Given as goal

abbrev pub invariant-pieces-loop-part : goal.invariant-pieces-loop-part
invariant-pieces-loop-part l = l.turns ++ flat_map (piece_turns l.hidden) (drop l.part-index l.pieces-2) ≡ l.fn.turns ++ flat_map (piece_turns l.hidden) l.pieces-2

abbrev pub invariant-arms-loop-arm : goal.invariant-arms-loop-arm
invariant-arms-loop-arm l = l.turns ++ flat_map (arm_turns l.hidden) (drop l.arm-index l.arms-2) ≡ l.fn.turns ++ flat_map (arm_turns l.hidden) l.arms-2
