use Rattle.std.proofs.Common.{◌≡◌, ◌-◌}
use Rattle.std.specs.List.{list_all}
use Rattle.mf_set.specs.Numbers.{numbers_from}
use Rattle.cover_problem.specs.Alone.{are_barred, is_barred}
use Rattle.cover_problem.proofs.barred.are_barred.Given as goal

abbrev pub invariant-loop-place : goal.invariant-loop-place
invariant-loop-place l = list_all (is_barred l.problem) (numbers_from l.candidates.items l.from) ≡ are_barred l.problem l.candidates

abbrev pub decreases-loop-place : goal.decreases-loop-place
decreases-loop-place l = l.candidates.room - l.from
