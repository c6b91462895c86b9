-- The graph is that of the program's contexts, or one of both counts passes its limit.
use Rattle.std.proofs.Common.{rules, ◌≡◌, ◌<◌, ◌≤◌, length, Err, subst, ap, ◌∙◌}
use Rattle.c_tree.specs.declared.limits.Limit.TheVariants as limit
use Rattle.c_tree.specs.declared.limits.Refusal.TheVariants as refusal
use Rattle.call_contexts.specs.Contexts.{contexts}
use Rattle.c_graph.specs.Nodes.{graph}
use Rattle.memfix_engine.proofs.AnalysisLaws.{passes_contexts, passes_nodes, passing, refuses_result}
use Rattle.memfix_engine.proofs.analysis.graph_of.Goals as goal

pub returns-in_err-contexts-clause-refused : goal.returns-in_err-contexts-clause-refused
returns-in_err-contexts-clause-refused c =
    let p = c.args.program.now in
    refuses_result p c.from_residual.result
    (λ l e.
    let refused : c.contexts.result ≡ Err (refusal.Limit l) = search (rules, e) in
    passes_contexts p l (c.contexts.ensures.only l refused) (passing c.contexts.result limit.Contexts (1024 < length (contexts p)) c.contexts.ensures.only c.contexts.ensures.limit l refused))

pub returns-in_err-graph-clause-refused : goal.returns-in_err-graph-clause-refused
returns-in_err-graph-clause-refused c =
    let p = c.args.program.now in
    let list = c.in_ok-contexts.contexts.list in
    let few : length (contexts p) ≤ 1024 = subst (λ cs. length cs ≤ 1024) c.in_ok-contexts.ensures.ok c.in_ok-contexts.ensures.within in
    refuses_result p c.from_residual-in_err-graph.result
    (λ l e.
    let refused : c.lower.result ≡ Err (refusal.Limit l) = search (rules, e) in
    let many : 10000 < length (graph p list).nodes = passing c.lower.result limit.Nodes (10000 < length (graph p list).nodes) c.lower.ensures.only c.lower.ensures.limit l refused in
    passes_nodes p l (c.lower.ensures.only l refused) few (subst (λ cs. 10000 < length (graph p cs).nodes) c.in_ok-contexts.ensures.ok many))

pub returns-clause-graph : goal.returns-clause-graph
returns-clause-graph c = c.in_ok-graph.ensures.ok ∙ ap (graph c.args.program.now) c.in_ok-contexts.ensures.ok

pub returns-clause-contexts : goal.returns-clause-contexts
returns-clause-contexts c = subst (λ cs. length cs ≤ 1024) c.in_ok-contexts.ensures.ok c.in_ok-contexts.ensures.within

pub returns-clause-nodes : goal.returns-clause-nodes
returns-clause-nodes c =
    subst (λ g. length g.nodes ≤ 10000) (c.in_ok-graph.ensures.ok ∙ ap (graph c.args.program.now) c.in_ok-contexts.ensures.ok) c.in_ok-graph.ensures.within
