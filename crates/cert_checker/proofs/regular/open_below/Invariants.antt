use Rattle.std.proofs.Common.{◌≡◌}
use Rattle.std.specs.List.{filter, range_with_len}
use Rattle.cover_certificate.specs.Regular.{is_open}
use Rattle.cert_checker.proofs.regular.open_below.Given as goal

abbrev pub invariant-loop-expression : goal.invariant-loop-expression
invariant-loop-expression l = l.list ≡ filter (is_open l.mark) (range_with_len 0 l.expression)
