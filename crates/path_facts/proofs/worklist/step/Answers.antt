use Rattle.std.proofs.Common.{rules, ◌≡◌, ℕ, [], sym, subst, List}
use Rattle.std.specs.List.{All}
use Rattle.ts_domain.specs.Rows.{row}
use Rattle.path_facts.specs.Paths.{BeginsAt}
use Rattle.path_facts.specs.Worklist.{Passing}
use Rattle.path_facts.proofs.StepLaws.{rows_begin, step_done, step_ended, step_good, step_reached}
use Rattle.path_facts.proofs.worklist.step.Goals as goal

pub over_node-requires-clause-places : goal.over_node-requires-clause-places
over_node-requires-clause-places c =
    let is : c.row-places.result.now ≡ row c.args.rows.now c.in-Some.node = search rules in
    subst (λ (xs : List ℕ). All (BeginsAt c.args.graph.now c.in-Some.node) xs) (sym is) (rows_begin c.args.graph.now c.args.rows.now c.in-Some.node c.requires.rows)

pub over_node-requires-clause-good : goal.over_node-requires-clause-good
over_node-requires-clause-good c =
    let is : c.row-places.result.now ≡ row c.args.rows.now c.in-Some.node = search rules in
    step_good c.args.names.now c.args.graph.now c.args.rows.now c.row-places.result.now c.in-Some.node c.args.state.now c.remove.new.self c.requires.rows is c.remove.ensures.numbers c.requires.good

pub over_node-requires-clause-reached : goal.over_node-requires-clause-reached
over_node-requires-clause-reached c = step_reached c.args.names.now c.args.graph.now c.in-Some.node c.args.state.now c.requires.good (sym c.in-Some.ensures.value)

pub returns-in-None : goal.returns-in-None
returns-in-None c = step_ended c.args.names.now c.args.graph.now c.args.state.now c.requires.good (sym c.in-None.ensures.value)

pub returns-in_ok-over_node-in-Some : goal.returns-in_ok-over_node-in-Some
returns-in_ok-over_node-in-Some c =
    let passed : Passing c.args.names.now c.args.graph.now c.in-Some.node [] (record c.args.state.now { pending = c.remove.new.self }) c.over_node.new.state = search rules in
    step_done c.args.names.now c.args.graph.now c.in-Some.node c.args.state.now c.remove.new.self c.over_node.new.state (sym c.in-Some.ensures.value) c.remove.ensures.numbers passed
