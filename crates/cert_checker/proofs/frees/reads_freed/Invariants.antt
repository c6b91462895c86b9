use Rattle.std.proofs.Common.{◌≡◌, drop}
use Rattle.cover_certificate.specs.Closed.{reads_freed}
use Rattle.cert_checker.proofs.frees.reads_freed.Given as goal

abbrev pub invariant-loop-name : goal.invariant-loop-name
invariant-loop-name l = reads_freed l.names l.mark (drop l.name-index l.freed_names) l.now ≡ reads_freed l.names l.mark l.freed_names l.freed
