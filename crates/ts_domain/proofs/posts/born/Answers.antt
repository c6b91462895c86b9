use Rattle.std.proofs.Common.{rules, ◌≡◌, None, Some, sym, subst}
use Rattle.ts_domain.specs.Describing.{BornDescribes}
use Rattle.ts_domain.specs.Post.{born}
use Rattle.ts_domain.proofs.RunsDescribe.{births_describe}
use Rattle.ts_domain.proofs.posts.born.Goals as goal

pub returns-in_default-clause-object : goal.returns-in_default-clause-object
returns-in_default-clause-object c =
    let is : None ≡ born c.args.names.now c.args.graph.now c.args.facts.now c.args.edge.now = search rules in
    subst (BornDescribes c.args.names.now c.args.graph.now c.args.facts.now c.args.edge.now) (sym is) (births_describe c.args.names.now c.args.graph.now c.args.facts.now c.args.edge.now)

pub returns-clause-object : goal.returns-clause-object
returns-clause-object c =
    let is : Some c.in_ok-mark.mark ≡ born c.args.names.now c.args.graph.now c.args.facts.now c.args.edge.now = search rules in
    subst (BornDescribes c.args.names.now c.args.graph.now c.args.facts.now c.args.edge.now) (sym is) (births_describe c.args.names.now c.args.graph.now c.args.facts.now c.args.edge.now)
