use Rattle.std.proofs.Common.{◌≡◌}
use Rattle.std.specs.List.{list_all, range_with_len}
use Rattle.cover_certificate.specs.Regular.{mark_before, next_after}
use Rattle.cert_checker.proofs.regular.marks_ascend.Given as goal

abbrev pub invariant-loop-place : goal.invariant-loop-place
invariant-loop-place l = l.ascend ≡ list_all (next_after (mark_before l.count) l.marks) (range_with_len 0 l.place)
