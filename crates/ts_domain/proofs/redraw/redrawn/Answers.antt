use Rattle.std.proofs.Common.{rules, ◌≡◌, ap, ◌∙◌}
use Rattle.ts_domain.specs.Marks.{knowledge, with_verdict}
use Rattle.ts_domain.specs.MarkWrites.{changed}
use Rattle.ts_domain.proofs.MarkLaws.{draw_more}
use Rattle.ts_domain.proofs.redraw.redrawn.Goals as goal

pub loop-expression-preserved : goal.loop-expression-preserved
loop-expression-preserved c =
    let k = knowledge c.args.known in
    let m = c.args.mark.now in
    let l = c.loop-expression in
    let decided : c.decide.new.mark ≡ with_verdict l.drawn l.expression c.changed.result = search rules in
    decided
    ∙ ap (λ u. with_verdict l.drawn l.expression u) c.changed.ensures
    ∙ ap (λ d. with_verdict d l.expression (changed k m c.args.change l.expression)) l.invariant
    ∙ draw_more l.expression c.expression_count-count.result m.site (changed k m c.args.change)
