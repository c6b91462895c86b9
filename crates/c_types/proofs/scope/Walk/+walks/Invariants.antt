use Rattle.std.proofs.Common.{◌≡◌, take}
use Rattle.c_types.specs.Blocks.{walked_arm, walked_piece}
use Rattle.c_types.specs.InTurn.{each}
use Rattle.c_types.proofs.scope.Walk.+walks.Given as goal

abbrev pub invariant-block-loop-piece : goal.invariant-block-loop-piece
invariant-block-loop-piece l = each (λ q. walked_piece q l.nesting) (take l.piece-index l.pieces) l.fn.self ≡ (l.self, l.items)

abbrev pub invariant-arms-loop-arm : goal.invariant-arms-loop-arm
invariant-arms-loop-arm l = each (λ a. walked_arm a l.nesting) (take l.arm-index l.slice) l.fn.self ≡ (l.self, l.made)
