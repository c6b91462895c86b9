-- The parts are an analysis, or what refuses one of them refuses it.
use Rattle.std.proofs.Common.{rules, ◌≡◌, Err}
use Rattle.c_tree.specs.declared.limits.Limit.TheVariants as limit
use Rattle.c_tree.specs.declared.limits.Refusal.TheVariants as refusal
use Rattle.ts_domain.specs.Derived.{PassesStates}
use Rattle.cover_clauses.specs.Clauses.{HasMore}
use Rattle.memfix_engine.specs.declared.analysis.Analysis.{Analysis}
use Rattle.memfix_engine.proofs.AnalysisLaws.{analysed, named, passes_clauses, passes_names, passes_states, passing, refuses_result}
use Rattle.memfix_engine.proofs.analysis.analyse.Goals as goal

pub returns-in_err-names-clause-refused : goal.returns-in_err-names-clause-refused
returns-in_err-names-clause-refused c =
    let p = c.args.program.now in
    let g = c.in_ok-graph in
    refuses_result p c.from_residual-in_err-names.result
    (λ l e.
    let refused : c.number.result ≡ Err (refusal.Limit l) = search (rules, e) in
    passes_names p g.graph l g.ensures.contexts g.ensures.nodes g.ensures.graph (c.number.ensures.limit l refused))

pub returns-in_err-problem-clause-refused : goal.returns-in_err-problem-clause-refused
returns-in_err-problem-clause-refused c =
    let p = c.args.program.now in
    let g = c.in_ok-graph in
    let n = c.in_ok-names in
    let f = c.in_ok-facts in
    refuses_result p c.from_residual-in_err-problem.result
    (λ l e.
    let refused : c.problem_of.result ≡ Err (refusal.Limit l) = search (rules, e) in
    passes_states p g.graph n.names f.facts l (named p g.graph n.names g.ensures.graph n.ensures.ok g.ensures.contexts g.ensures.nodes n.ensures.within) f.ensures
    (c.problem_of.ensures.only l refused)
    (passing c.problem_of.result limit.States (PassesStates n.names g.graph f.facts) c.problem_of.ensures.only c.problem_of.ensures.limit l refused))

pub returns-in_err-clauses-clause-refused : goal.returns-in_err-clauses-clause-refused
returns-in_err-clauses-clause-refused c =
    let p = c.args.program.now in
    let g = c.in_ok-graph in
    let n = c.in_ok-names in
    let f = c.in_ok-facts in
    let q = c.in_ok-problem in
    refuses_result p c.from_residual-in_err-clauses.result
    (λ l e.
    let refused : c.clauses.result ≡ Err (refusal.Limit l) = search (rules, e) in
    passes_clauses p g.graph n.names f.facts q.problem l (named p g.graph n.names g.ensures.graph n.ensures.ok g.ensures.contexts g.ensures.nodes n.ensures.within) f.ensures q.ensures.problem
    (c.clauses.ensures.only l refused)
    (passing c.clauses.result limit.Clauses (HasMore q.problem 2000000) c.clauses.ensures.only c.clauses.ensures.limit l refused))

pub returns-clause-analysis : goal.returns-clause-analysis
returns-clause-analysis c = λ formed.
    let p = c.args.program.now in
    let g = c.in_ok-graph in
    let n = c.in_ok-names in
    let f = c.in_ok-facts in
    let q = c.in_ok-problem in
    let k = c.in_ok-clauses in
    let a : Analysis = record { graph = g.graph; names = n.names; facts = f.facts; problem = q.problem; clauses = k.clauses } in
    analysed p a (named p g.graph n.names g.ensures.graph n.ensures.ok g.ensures.contexts g.ensures.nodes n.ensures.within) (n.ensures.ascending formed) f.ensures q.ensures.problem k.ensures.ok k.ensures.below k.ensures.few
