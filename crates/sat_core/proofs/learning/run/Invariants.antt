use Rattle.sat_core.specs.Learning.{IsPart}
use Rattle.sat_core.proofs.learning.run.Given as goal

abbrev pub invariant-loop : goal.invariant-loop
invariant-loop l = IsPart l.clauses l.log
