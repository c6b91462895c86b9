use Rattle.std.proofs.Common.{rules, ◌≡◌, ◌≢◌, List, sym, subst}
use Rattle.std.specs.List.{AllPairs}
use Rattle.std.specs.Result.{IfOk}
use Rattle.std.proofs.lemmas.Result.{IfOk-weaker}
use Rattle.ts_domain.specs.declared.marks.Step.{Step}
use Rattle.ts_domain.specs.Describing.{DescribeAfter, TouchWhereMet}
use Rattle.ts_domain.specs.Post.{post}
use Rattle.ts_domain.proofs.RunsDescribe.{posts_describe, posts_once, posts_touch}
use Rattle.ts_domain.proofs.posts.post.Goals as goal

pub returns-then-leaves_gap-clause-after : goal.returns-then-leaves_gap-clause-after
returns-then-leaves_gap-clause-after c =
    let is : c.in_ok-steps.steps.items ≡ post c.args.names.now c.args.graph.now c.args.facts.now c.args.edge.now c.args.mark.now = search rules in
    subst (DescribeAfter c.args.names.now c.args.graph.now c.args.facts.now c.args.edge.now c.args.mark.now) (sym is)
    (posts_describe c.args.names.now c.args.graph.now c.args.facts.now c.args.edge.now c.args.mark.now)

pub returns-then-leaves_gap-clause-met : goal.returns-then-leaves_gap-clause-met
returns-then-leaves_gap-clause-met c =
    let is : c.in_ok-steps.steps.items ≡ post c.args.names.now c.args.graph.now c.args.facts.now c.args.edge.now c.args.mark.now = search rules in
    subst (TouchWhereMet c.args.names.now c.args.graph.now c.args.facts.now c.args.edge.now c.args.mark.now) (sym is)
    (posts_touch c.args.names.now c.args.graph.now c.args.facts.now c.args.edge.now c.args.mark.now)

pub returns-clause-after : goal.returns-clause-after
returns-clause-after c =
    let ok : IfOk c.deeds_post.result (λ steps. steps.items ≡ post c.args.names.now c.args.graph.now c.args.facts.now c.args.edge.now c.args.mark.now) = search rules in
    IfOk-weaker c.deeds_post.result (λ steps. steps.items ≡ post c.args.names.now c.args.graph.now c.args.facts.now c.args.edge.now c.args.mark.now)
    (λ steps. DescribeAfter c.args.names.now c.args.graph.now c.args.facts.now c.args.edge.now c.args.mark.now steps.items)
    (λ steps is. subst (DescribeAfter c.args.names.now c.args.graph.now c.args.facts.now c.args.edge.now c.args.mark.now) (sym is)
    (posts_describe c.args.names.now c.args.graph.now c.args.facts.now c.args.edge.now c.args.mark.now)) ok

pub returns-clause-met : goal.returns-clause-met
returns-clause-met c =
    let ok : IfOk c.deeds_post.result (λ steps. steps.items ≡ post c.args.names.now c.args.graph.now c.args.facts.now c.args.edge.now c.args.mark.now) = search rules in
    IfOk-weaker c.deeds_post.result (λ steps. steps.items ≡ post c.args.names.now c.args.graph.now c.args.facts.now c.args.edge.now c.args.mark.now)
    (λ steps. TouchWhereMet c.args.names.now c.args.graph.now c.args.facts.now c.args.edge.now c.args.mark.now steps.items)
    (λ steps is. subst (TouchWhereMet c.args.names.now c.args.graph.now c.args.facts.now c.args.edge.now c.args.mark.now) (sym is)
    (posts_touch c.args.names.now c.args.graph.now c.args.facts.now c.args.edge.now c.args.mark.now)) ok

pub returns-clause-once : goal.returns-clause-once
returns-clause-once c =
    let ok : IfOk c.deeds_post.result (λ steps. steps.items ≡ post c.args.names.now c.args.graph.now c.args.facts.now c.args.edge.now c.args.mark.now) = search rules in
    IfOk-weaker c.deeds_post.result (λ steps. steps.items ≡ post c.args.names.now c.args.graph.now c.args.facts.now c.args.edge.now c.args.mark.now)
    (λ steps. AllPairs (λ (x y : Step). x ≢ y) steps.items)
    (λ steps is. subst (AllPairs (λ (x y : Step). x ≢ y)) (sym is) (posts_once c.args.names.now c.args.graph.now c.args.facts.now c.args.edge.now c.args.mark.now)) ok
