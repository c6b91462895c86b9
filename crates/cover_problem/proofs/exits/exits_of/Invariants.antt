use Rattle.std.proofs.Common.{◌≡◌, take}
use Rattle.cover_problem.specs.Parts.{exits_of}
use Rattle.cover_problem.proofs.exits.exits_of.Given as goal

abbrev pub invariant-loop-triple : goal.invariant-loop-triple
invariant-loop-triple l = l.list ≡ exits_of l.graph (take l.triple-index l.triples)
