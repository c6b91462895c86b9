use Rattle.std.proofs.Common.{◌≡◌, drop}
use Rattle.cover_certificate.specs.Closed.{frees_again}
use Rattle.cert_checker.proofs.frees.frees_again.Given as goal

abbrev pub invariant-loop-name : goal.invariant-loop-name
invariant-loop-name l = frees_again l.mark (drop l.name-index l.names) l.now ≡ frees_again l.mark l.names l.freed
