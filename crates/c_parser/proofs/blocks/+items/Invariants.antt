-- An item of a depth is above all bodies, arms and blocks whose items are below it.
use Rattle.std.proofs.Common.{◌≡◌, ◌+◌, ◌-◌, ◌*◌, length, []}
use Rattle.c_parser.specs.Loops.{looped, piece_turn, else_turn}
use Rattle.c_parser.specs.ReadBlocks.{read_pieces, read_else, read_item}
use Rattle.c_parser.proofs.blocks.+items.Given as goal

abbrev pub decreases-read_item : goal.decreases-read_item
decreases-read_item l = 16 * l.depth

abbrev pub decreases-read_piece_behind : goal.decreases-read_piece_behind
decreases-read_piece_behind l = 16 * l.within + 1

abbrev pub decreases-read_piece_turn : goal.decreases-read_piece_turn
decreases-read_piece_turn l = 16 * l.within + 2

abbrev pub decreases-read_pieces : goal.decreases-read_pieces
decreases-read_pieces l = 16 * l.within + 3

abbrev pub decreases-read_block : goal.decreases-read_block
decreases-read_block l = 16 * l.within + 4

abbrev pub decreases-read_body : goal.decreases-read_body
decreases-read_body l = 16 * l.within + 5

abbrev pub decreases-read_arm : goal.decreases-read_arm
decreases-read_arm l = 16 * l.within + 6

abbrev pub decreases-read_else_behind : goal.decreases-read_else_behind
decreases-read_else_behind l = 16 * l.within + 7

abbrev pub decreases-read_else_turn : goal.decreases-read_else_turn
decreases-read_else_turn l = 16 * l.within + 8

abbrev pub decreases-read_else : goal.decreases-read_else
decreases-read_else l = 16 * l.within + 9

abbrev pub decreases-read_branch : goal.decreases-read_branch
decreases-read_branch l = 16 * l.within + 10

abbrev pub decreases-read_while : goal.decreases-read_while
decreases-read_while l = 16 * l.within + 10

abbrev pub decreases-read_for : goal.decreases-read_for
decreases-read_for l = 16 * l.within + 10

abbrev pub decreases-read_item_by : goal.decreases-read_item_by
decreases-read_item_by l = 16 * l.within + 11

abbrev pub invariant-read_pieces-loop-turn : goal.invariant-read_pieces-loop-turn
invariant-read_pieces-loop-turn l =
    looped (piece_turn l.depth (read_item l.within) l.begun) (length l.tokens - l._turn) l.pieces l.left ≡ read_pieces l.depth (read_item l.within) l.begun (length l.tokens) [] l.tokens

abbrev pub invariant-read_else-loop-turn : goal.invariant-read_else-loop-turn
invariant-read_else-loop-turn l =
    looped (else_turn l.depth (read_item l.within)) (l.turns - l._turn) (l.arms, l.end) l.left ≡ read_else l.depth (read_item l.within) l.turns l.fn.front.0 l.fn.front.1 l.tokens
