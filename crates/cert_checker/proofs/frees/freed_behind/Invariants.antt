use Rattle.std.proofs.Common.{◌≡◌, drop}
use Rattle.cover_certificate.specs.Closed.{freed_behind}
use Rattle.cert_checker.proofs.frees.freed_behind.Given as goal

abbrev pub invariant-loop-name : goal.invariant-loop-name
invariant-loop-name l = freed_behind l.mark (drop l.name-index l.names) l.now ≡ freed_behind l.mark l.names l.freed
