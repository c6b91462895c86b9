-- A turn writes one of the stars that are left.
use Rattle.std.proofs.Common.{List, [], ◌∷◌, ◌++◌, ◌+◌, ◌-◌, codes, ap, sym, ◌∙◌, append_assoc}
use Rattle.c_lexer.specs.declared.token.Kind.{Kind}
use Rattle.c_parser.specs.Printed.{mark, printed_stars}
use Rattle.c_parser.proofs.PrintWork.{one_star}
use Rattle.c_parser.proofs.print_statements.print_stars.Goals as goal

pub loop-star-preserved : goal.loop-star-preserved
loop-star-preserved c =
    let left = printed_stars (c.args.stars - (c.loop-star._star + 1)) in
    ap (λ (ks : List Kind). ks ++ left) c.in_ok-mark.ensures ∙ append_assoc c.loop-star.out (mark (codes "*") ∷ []) left
    ∙ ap (λ (ks : List Kind). c.loop-star.out ++ ks) (sym (one_star c.args.stars c.loop-star._star c.loop-star-test.true)) ∙ c.loop-star.invariant
