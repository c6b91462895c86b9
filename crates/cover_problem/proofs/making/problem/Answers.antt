use Rattle.std.proofs.Common.{rules, ◌≡◌, ap, ◌∙◌}
use Rattle.cover_problem.specs.Parts.{exits_of, AreAllowed}
use Rattle.cover_problem.proofs.ProblemLaws.{problem_made}
use Rattle.cover_problem.proofs.making.problem.Goals as goal

pub returns : goal.returns
returns c =
    let g = c.args.graph.now in
    let n = c.args.names.now in
    let d = c.args.derived.now in
    let names : c.in_ok-names.names ≡ n = search rules in
    let derived : c.in_ok-derived.derived ≡ d = search rules in
    let allowed : AreAllowed g n c.args.facts.now.path c.in_ok-allowed.allowed = search rules in
    let slice : c.as_slice.result.now ≡ d.triples = search rules in
    let exits : c.in_ok-exits.exits ≡ exits_of g c.as_slice.result.now = search rules in
    problem_made g n c.args.facts.now.path d (record { names = c.in_ok-names.names; derived = c.in_ok-derived.derived; allowed = c.in_ok-allowed.allowed; exits = c.in_ok-exits.exits })
    names derived allowed (exits ∙ ap (exits_of g) slice)
