-- What is derived has the shape of which a problem's rooms follow.
use Rattle.cover_problem.proofs.CoverLaws.{problem_rooms}
use Rattle.cover_problem.proofs.ShapeLaws.{has_shape}
use Rattle.cover_tests.proofs.problems.problem_in.Goals as goal

pub returns : goal.returns
returns c =
    let g = c.args.graph.now in
    let n = c.args.names.now in
    let f = c.args.facts.now in
    let d = c.in_ok-derived.derived in
    record { rooms = problem_rooms g n f.path d c.in_ok-problem.problem c.in_ok-problem.ensures (has_shape n g f d c.in_ok-derived.ensures.derived) }
