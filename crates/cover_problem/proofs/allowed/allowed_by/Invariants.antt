use Rattle.cover_problem.specs.Parts.{AreAllowedBy}
use Rattle.cover_problem.proofs.allowed.allowed_by.Given as goal

abbrev pub invariant-loop-place : goal.invariant-loop-place
invariant-loop-place l = AreAllowedBy l.names l.path l.nodes l.place l.set
