-- The problem of what is derived.
use Rattle.memfix_engine.proofs.AnalysisLaws.{problem_of}
use Rattle.memfix_engine.proofs.analysis.problem_of.Goals as goal

pub returns-clause-problem : goal.returns-clause-problem
returns-clause-problem c =
    let d = c.in_ok-derived in
    problem_of c.args.names.now c.args.graph.now c.args.facts.now d.derived c.in_ok-problem.problem d.ensures.derived d.ensures.few d.ensures.narrow c.in_ok-problem.ensures
