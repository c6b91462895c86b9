-- The filled program is as small as the program, its certificate is closed, and it is safe.
use Rattle.std.proofs.Common.{◌≡◌, ◌≤◌, length, Err, ap, sym, subst, ◌∙◌}
use Rattle.c_tree.specs.Fill.{fill}
use Rattle.c_tree.specs.declared.program.Program.{Program}
use Rattle.call_contexts.specs.Contexts.{contexts}
use Rattle.c_graph.specs.declared.graph.Graph.{Graph}
use Rattle.cover_certificate.specs.Closed.{IsClosed}
use Rattle.cert_checker.specs.Checked.{MakesSafe}
use Rattle.memfix_engine.specs.Analysis.{graph_in}
use Rattle.memfix_engine.proofs.Certified.{closed_filled, contexts_small, nodes_small, none_broken, safe_filled}
use Rattle.memfix_engine.proofs.certifying.certify.Goals as goal

pub graph_of-requires-clause-contexts : goal.graph_of-requires-clause-contexts
graph_of-requires-clause-contexts c =
    subst (λ (q : Program). length (contexts q) ≤ 1024) (sym c.in_ok-filled.ensures.filled) (contexts_small c.args.program.now c.args.choice.now c.requires.analysis.small)

pub graph_of-requires-clause-nodes : goal.graph_of-requires-clause-nodes
graph_of-requires-clause-nodes c =
    subst (λ (q : Program). length (graph_in q).nodes ≤ 10000) (sym c.in_ok-filled.ensures.filled) (nodes_small c.args.program.now c.args.choice.now c.requires.analysis.small)

pub returns-in-Ok : goal.returns-in-Ok
returns-in-Ok c =
    let is : c.in_ok-graph.graph ≡ graph_in (fill c.args.program.now c.args.choice.now) = c.in_ok-graph.ensures ∙ ap graph_in c.in_ok-filled.ensures.filled in
    record {
      safe =
          safe_filled c.args.program.now c.args.analysis.now c.args.choice.now c.requires.well_formed c.requires.analysis c.requires.cover
          (subst (λ (g : Graph). MakesSafe c.args.analysis.now.names g) is c.in-Ok.ensures.safe);
    }

pub unreachable-requires : goal.unreachable-requires
unreachable-requires c =
    let is : c.in_ok-graph.graph ≡ graph_in (fill c.args.program.now c.args.choice.now) = c.in_ok-graph.ensures ∙ ap graph_in c.in_ok-filled.ensures.filled in
    let closed : IsClosed c.args.analysis.now.names (graph_in (fill c.args.program.now c.args.choice.now)) c.in_ok-cert.cert =
    closed_filled c.args.program.now c.args.analysis.now c.args.choice.now c.in_ok-cert.cert c.requires.well_formed c.requires.analysis c.requires.cover c.in_ok-cert.ensures.closes in
    none_broken c.args.analysis.now.names c.in_ok-graph.graph c.in_ok-cert.cert c.in-Err-NotClosed.field-0-0 c.in-Err-NotClosed.field-0-1
    (subst (λ (g : Graph). IsClosed c.args.analysis.now.names g c.in_ok-cert.cert) (sym is) closed)
    (c.in-Err-NotClosed.ensures.refused c.in-Err-NotClosed.field-0-0 c.in-Err-NotClosed.field-0-1 (ap Err c.in-Err-NotClosed.field-0-is))
