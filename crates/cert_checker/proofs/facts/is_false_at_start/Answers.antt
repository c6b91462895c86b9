use Rattle.std.proofs.Common.{not, ap, ◌∙◌}
use Rattle.cert_checker.proofs.FactLaws.{below_at, start_exact}
use Rattle.cert_checker.proofs.facts.is_false_at_start.Goals as goal

pub returns : goal.returns
returns c =
    ap not c.are_within.ensures.within
    ∙ start_exact c.args.names.now c.args.path.now c.in_ok-start.start c.in_ok-start.ensures (below_at c.args.names.now c.args.path.now 0 c.requires.rooms c.are_within.ensures.set)
