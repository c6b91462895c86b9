use Rattle.std.proofs.Common.{◌≡◌}
use Rattle.ts_domain.specs.Marks.{passing}
use Rattle.cover_certificate.specs.Regular.{is_open}
use Rattle.cover_certificate.proofs.making.open_below.Given as goal

abbrev pub invariant-loop-expression : goal.invariant-loop-expression
invariant-loop-expression l = l.set ≡ passing l.expression l.count (is_open l.mark)
