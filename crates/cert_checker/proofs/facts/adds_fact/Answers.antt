use Rattle.std.proofs.Common.{not, ap, ◌∙◌, subst}
use Rattle.ts_domain.specs.Facts.{before_deeds}
use Rattle.path_facts.specs.Corrections.{Carries}
use Rattle.cert_checker.proofs.FactLaws.{adds_exact, below_at, noted_from}
use Rattle.cert_checker.proofs.facts.adds_fact.Goals as goal

pub returns : goal.returns
returns c =
    let n = c.args.names.now in
    let p = c.args.path.now in
    let before = c.in_ok-before.before in
    let carried = c.in_ok-carried.carried in
    ap not c.are_within.ensures.within
    ∙ adds_exact n c.args.graph.now p c.args.edge before carried
    (noted_from n p c.args.edge.from before c.in_ok-before.ensures.items c.in_ok-before.ensures.room)
    (subst (λ ds. Carries n (before_deeds n ds) before carried) c.requires.deeds c.in_ok-carried.ensures)
    (below_at n p c.args.edge.to c.requires.rooms c.are_within.ensures.set)
