use Rattle.std.proofs.Common.{take, length}
use Rattle.cover_problem.specs.Covering.{is_held}
use Rattle.cover_clauses.specs.Parts.{IsFound}
use Rattle.cover_clauses.proofs.usable.held.Given as goal

abbrev pub invariant-loop-triple : goal.invariant-loop-triple
invariant-loop-triple l = IsFound (length l.problem.names.puts) (is_held (take l.triple-index l.triples)) l.set
