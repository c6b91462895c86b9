use Rattle.std.proofs.Common.{◌≡◌, ℕ, ◌+◌, ◌-◌, ◌≤◌, length}
use Rattle.std.specs.List.{filter}
use Rattle.mf_set.specs.Numbers.{numbers_from}
use Rattle.ts_domain.specs.Chosen.{is_chosen}
use Rattle.cover_problem.proofs.CountLaws.{Counts}
use Rattle.cover_problem.proofs.covers.count_chosen.Given as goal

abbrev pub invariant-loop-place : goal.invariant-loop-place
invariant-loop-place l = Counts (is_chosen l.names l.choice) l.set.items l.from l.count

abbrev pub decreases-loop-place : goal.decreases-loop-place
decreases-loop-place l = l.set.room - l.from
