use Rattle.std.proofs.Common.{ap, ◌∙◌, take}
use Rattle.ts_domain.proofs.HoldingLaws.{facts_of_runs}
use Rattle.path_facts.proofs.PathLaws.{path_is}
use Rattle.path_facts.proofs.paths.path.Goals as goal

pub returns-clause-exact : goal.returns-clause-exact
returns-clause-exact c =
    path_is c.args.names.now c.args.graph.now c.in_ok-count.count c.in_ok-sets.sets (record { at = c.shortened.result }) c.in_ok-count.ensures c.in_ok-sets.ensures
    (c.shortened.ensures ∙ ap (λ k. take k c.in_ok-sets.sets) c.len-nodes.ensures)

pub returns-clause-runs : goal.returns-clause-runs
returns-clause-runs c = facts_of_runs c.args.names.now c.args.graph.now (record { at = c.shortened.result }) (returns-clause-exact c)
