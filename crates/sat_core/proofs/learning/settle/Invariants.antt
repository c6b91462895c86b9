use Rattle.sat_core.specs.Learning.{IsPart}
use Rattle.sat_core.proofs.learning.settle.Given as goal

abbrev pub invariant-loop-place : goal.invariant-loop-place
invariant-loop-place l = IsPart l.clauses l.log
