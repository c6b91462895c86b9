-- Each turn of a loop is a turn of the reader.
use Rattle.std.proofs.Common.{rules, ◌≡◌, ◌+◌, ◌-◌, length, sym, ◌∙◌, Some}
use Rattle.c_parser.specs.ReadExpressions.{read_post, read_posts, read_level, read_tail, read_unary, read_expr}
use Rattle.c_parser.specs.Turns.{post_turn, tail_turn}
use Rattle.c_parser.proofs.Turns.{posts_stop, posts_go, posts_end, tail_stop, tail_go, tail_end, chained_some, fails_as, unary_post}
use Rattle.c_parser.proofs.expressions.+expressions.Goals as goal

pub read_level-returns-in_default : goal.read_level-returns-in_default
read_level-returns-in_default t c =
    tail_stop (read_level (read_unary c.args.depth) (c.args.level - 1)) (c.args.level - 1) (length c.args.tokens.now) c.loop-turn._turn c.loop-turn.of c.loop-turn.left.now
    (read_level (read_unary c.args.depth) c.args.level c.args.tokens.now) c.loop-turn-test.true (search rules) c.loop-turn.invariant

pub read_level-returns-in_err-of-2 : goal.read_level-returns-in_err-of-2
read_level-returns-in_err-of-2 t c =
    let goes = tail_go (read_level (read_unary c.args.depth) (c.args.level - 1)) (c.args.level - 1) (length c.args.tokens.now) c.loop-turn._turn c.loop-turn.of c.loop-turn.left.now c.in-Some.oper
    (read_level (read_unary c.args.depth) c.args.level c.args.tokens.now) c.loop-turn-test.true (search rules) c.loop-turn.invariant in
    fails_as c.read_tail_turn.result c.from_residual-in_err-of-2.result (λ r. (r.0, r.1.now)) (λ r. (r.0, r.1.now)) (tail_turn (read_level (read_unary c.args.depth) (c.args.level - 1)) c.in-Some.oper c.loop-turn.of c.loop-turn.left.now)
    (read_level (read_unary c.args.depth) c.args.level c.args.tokens.now) c.in_err-of-2.field-0.0 (read_tail (read_level (read_unary c.args.depth) (c.args.level - 1)) (c.args.level - 1) (length c.args.tokens.now - (c.loop-turn._turn + 1))) (search rules) c.in_err-of-2.was goes c.read_tail_turn.ensures

pub read_level-loop-turn-preserved : goal.read_level-loop-turn-preserved
read_level-loop-turn-preserved t c =
    let goes = tail_go (read_level (read_unary c.args.depth) (c.args.level - 1)) (c.args.level - 1) (length c.args.tokens.now) c.loop-turn._turn c.loop-turn.of c.loop-turn.left.now c.in-Some.oper
    (read_level (read_unary c.args.depth) c.args.level c.args.tokens.now) c.loop-turn-test.true (search rules) c.loop-turn.invariant in
    let turned : tail_turn (read_level (read_unary c.args.depth) (c.args.level - 1)) c.in-Some.oper c.loop-turn.of c.loop-turn.left.now ≡ Some (c.in_ok-of-2.field-0-0, c.in_ok-of-2.field-0-1.now) = search rules in
    sym (goes ∙ chained_some (tail_turn (read_level (read_unary c.args.depth) (c.args.level - 1)) c.in-Some.oper c.loop-turn.of c.loop-turn.left.now)
    (read_tail (read_level (read_unary c.args.depth) (c.args.level - 1)) (c.args.level - 1) (length c.args.tokens.now - (c.loop-turn._turn + 1))) c.in_ok-of-2.field-0-0 c.in_ok-of-2.field-0-1.now turned)

pub read_level-returns : goal.read_level-returns
read_level-returns t c =
    tail_end (read_level (read_unary c.args.depth) (c.args.level - 1)) (c.args.level - 1) (length c.args.tokens.now) c.loop-turn._turn c.loop-turn.of c.loop-turn.left.now
    (read_level (read_unary c.args.depth) c.args.level c.args.tokens.now) c.loop-turn-test.false c.loop-turn.invariant

pub read_post-returns-then-not-goes_on : goal.read_post-returns-then-not-goes_on
read_post-returns-then-not-goes_on t c =
    posts_stop (read_expr c.args.depth) (length c.args.tokens.now) c.loop-turn._turn c.loop-turn.of c.loop-turn.left.now
    (read_post (read_expr c.args.depth) c.args.tokens.now) c.loop-turn-test.true (search rules) c.loop-turn.invariant

pub read_post-returns-in_err-of-2 : goal.read_post-returns-in_err-of-2
read_post-returns-in_err-of-2 t c =
    let goes = posts_go (read_expr c.args.depth) (length c.args.tokens.now) c.loop-turn._turn c.loop-turn.of c.loop-turn.left.now
    (read_post (read_expr c.args.depth) c.args.tokens.now) c.loop-turn-test.true (search rules) c.loop-turn.invariant in
    fails_as c.read_post_turn.result c.from_residual-in_err-of-2.result (λ r. (r.0, r.1.now)) (λ r. (r.0, r.1.now)) (post_turn (read_expr c.args.depth) c.loop-turn.of c.loop-turn.left.now)
    (read_post (read_expr c.args.depth) c.args.tokens.now) c.in_err-of-2.field-0.0 (read_posts (read_expr c.args.depth) (length c.args.tokens.now - (c.loop-turn._turn + 1))) (search rules) c.in_err-of-2.was goes c.read_post_turn.ensures

pub read_post-loop-turn-preserved : goal.read_post-loop-turn-preserved
read_post-loop-turn-preserved t c =
    let goes = posts_go (read_expr c.args.depth) (length c.args.tokens.now) c.loop-turn._turn c.loop-turn.of c.loop-turn.left.now
    (read_post (read_expr c.args.depth) c.args.tokens.now) c.loop-turn-test.true (search rules) c.loop-turn.invariant in
    let turned : post_turn (read_expr c.args.depth) c.loop-turn.of c.loop-turn.left.now ≡ Some (c.in_ok-of-2.field-0-0, c.in_ok-of-2.field-0-1.now) = search rules in
    sym (goes ∙ chained_some (post_turn (read_expr c.args.depth) c.loop-turn.of c.loop-turn.left.now) (read_posts (read_expr c.args.depth) (length c.args.tokens.now - (c.loop-turn._turn + 1))) c.in_ok-of-2.field-0-0 c.in_ok-of-2.field-0-1.now turned)

pub read_post-returns : goal.read_post-returns
read_post-returns t c =
    posts_end (read_expr c.args.depth) (length c.args.tokens.now) c.loop-turn._turn c.loop-turn.of c.loop-turn.left.now
    (read_post (read_expr c.args.depth) c.args.tokens.now) c.loop-turn-test.false c.loop-turn.invariant

pub read_unary-returns-in_default-term_of : goal.read_unary-returns-in_default-term_of
read_unary-returns-in_default-term_of t c =
    let post = unary_post c.args.depth c.args.tokens.now c.token-item.result c.term_of.result c.if-depth-eq0.false c.in-len1-up.len_at_least c.token-item.is c.term_of.ensures
    c.in_default-term_of.not-Minus c.in_default-term_of.not-Not c.in_default-term_of.not-Star in
    rw post c.read_post.ensures
