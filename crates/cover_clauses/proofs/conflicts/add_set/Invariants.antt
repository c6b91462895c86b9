use Rattle.std.proofs.Common.{◌-◌}
use Rattle.cover_clauses.proofs.ConflictLaws.{Behind}
use Rattle.cover_clauses.proofs.conflicts.add_set.Given as goal

abbrev pub invariant-loop-place : goal.invariant-loop-place
invariant-loop-place l = Behind l.set l.from l.rest l.fn.rows l.rows

abbrev pub decreases-loop-place : goal.decreases-loop-place
decreases-loop-place l = l.set.room - l.from
