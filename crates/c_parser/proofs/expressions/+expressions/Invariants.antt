-- A unary of a depth is above all levels, posts and prims below it.
use Rattle.std.proofs.Common.{◌≡◌, ◌+◌, ◌-◌, ◌*◌, length}
use Rattle.c_parser.specs.ReadExpressions.{read_posts, read_post, read_tail, read_level, read_unary, read_expr}
use Rattle.c_parser.proofs.expressions.+expressions.Given as goal

abbrev pub decreases-read_level : goal.decreases-read_level
decreases-read_level l = 16 * l.depth + (2 * l.level + 1)

abbrev pub decreases-read_tail_turn : goal.decreases-read_tail_turn
decreases-read_tail_turn l = 16 * l.depth + (2 * l.level + 2)

abbrev pub decreases-read_post_turn : goal.decreases-read_post_turn
decreases-read_post_turn l = 16 * l.depth + 14

abbrev pub decreases-read_prim : goal.decreases-read_prim
decreases-read_prim l = 16 * l.depth + 14

abbrev pub decreases-read_post : goal.decreases-read_post
decreases-read_post l = 16 * l.depth + 15

abbrev pub decreases-read_unary : goal.decreases-read_unary
decreases-read_unary l = 16 * l.depth

abbrev pub invariant-read_level-loop-turn : goal.invariant-read_level-loop-turn
invariant-read_level-loop-turn l =
    read_tail (read_level (read_unary l.depth) (l.level - 1)) (l.level - 1) (length l.tokens - l._turn) l.of l.left ≡ read_level (read_unary l.depth) l.level l.tokens

abbrev pub invariant-read_post-loop-turn : goal.invariant-read_post-loop-turn
invariant-read_post-loop-turn l =
    read_posts (read_expr l.depth) (length l.tokens - l._turn) l.of l.left ≡ read_post (read_expr l.depth) l.tokens
