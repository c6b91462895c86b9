use Rattle.std.proofs.Common.{rules, ◌≡◌, List, length, sym, subst}
use Rattle.std.specs.List.{All}
use Rattle.ts_domain.specs.declared.deed.Deed.{Deed}
use Rattle.ts_domain.specs.May.{IsDone, IsMay}
use Rattle.ts_domain.proofs.HoldingLaws.{least_of_runs}
use Rattle.alias_facts.specs.Answer.{answer}
use Rattle.alias_facts.specs.Writes.{all_writes}
use Rattle.alias_facts.specs.Writing.{Ended}
use Rattle.alias_facts.proofs.AnswerLaws.{ended_exact}
use Rattle.alias_facts.proofs.WriteLaws.{writes_done}
use Rattle.alias_facts.proofs.flows.may.Goals as goal

pub table_of-requires : goal.table_of-requires
table_of-requires c =
    let n = c.args.names.now in
    let g = c.args.graph.now in
    let is : c.as_slice.result.now ≡ all_writes n g = search rules in
    subst (λ (ds : List Deed). All (IsDone n g) ds) (sym is) (writes_done n g)

pub returns-clause-exact : goal.returns-clause-exact
returns-clause-exact c =
    let n = c.args.names.now in
    let g = c.args.graph.now in
    let is : c.as_slice.result.now ≡ all_writes n g = search rules in
    let ends : Ended n g c.as_slice.result.now c.in_ok-table.table = search rules in
    let found : c.in_ok-found.found ≡ answer (length n.vars) c.in_ok-table.table = search rules in
    subst (IsMay n g) (sym found) (ended_exact n g c.in_ok-table.table (subst (λ (ds : List Deed). Ended n g ds c.in_ok-table.table) is ends))

pub returns-clause-runs : goal.returns-clause-runs
returns-clause-runs c = least_of_runs c.args.names.now c.args.graph.now c.in_ok-found.found (returns-clause-exact c)
