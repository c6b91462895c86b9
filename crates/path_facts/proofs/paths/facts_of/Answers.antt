use Rattle.std.proofs.Common.{rules}
use Rattle.path_facts.specs.Start.{Begins}
use Rattle.path_facts.specs.Worklist.{Solved}
use Rattle.path_facts.proofs.PathLaws.{facts_are, good_begin}
use Rattle.path_facts.proofs.paths.facts_of.Goals as goal

pub solve-requires-clause-good : goal.solve-requires-clause-good
solve-requires-clause-good c =
    let begins : Begins c.args.names.now c.args.count c.in_ok-state.state = c.in_ok-state.ensures in
    good_begin c.args.names.now c.args.graph.now c.args.count c.in_ok-state.state begins

pub returns : goal.returns
returns c =
    let begins : Begins c.args.names.now c.args.count c.in_ok-state.state = c.in_ok-state.ensures in
    let solved : Solved c.args.names.now c.args.graph.now c.in_ok-state.state c.solve.new.state = search rules in
    facts_are c.args.names.now c.args.graph.now c.args.count c.in_ok-state.state c.solve.new.state c.requires begins.sets.long solved
