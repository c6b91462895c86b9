use Rattle.std.proofs.Common.{◌≡◌, ◌-◌, ◌+◌, length}
use Rattle.std.specs.List.{list_all, range_with_len}
use Rattle.cover_problem.specs.Covering.{are_sound, is_sound}
use Rattle.cover_problem.proofs.covers.are_sound.Given as goal

abbrev pub invariant-loop-place : goal.invariant-loop-place
invariant-loop-place l = list_all (is_sound l.problem l.choice) (range_with_len l.place (length l.problem.names.puts - l.place)) ≡ are_sound l.problem l.choice
