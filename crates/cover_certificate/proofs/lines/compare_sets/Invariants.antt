-- What is left of both compares as both do.
use Rattle.std.proofs.Common.{◌≡◌, ◌-◌}
use Rattle.std.specs.Cmp.Lexicographic.{slice_cmp}
use Rattle.std.specs.Ordering.{nat_cmp}
use Rattle.mf_set.specs.Numbers.{numbers_from}
use Rattle.cover_certificate.proofs.lines.compare_sets.Given as goal

abbrev pub invariant-loop-number : goal.invariant-loop-number
invariant-loop-number l = slice_cmp nat_cmp (numbers_from l.x.items l.from) (numbers_from l.y.items l.from) ≡ slice_cmp nat_cmp l.x.items l.y.items

abbrev pub decreases-loop-number : goal.decreases-loop-number
decreases-loop-number l = l.x.room - l.from
