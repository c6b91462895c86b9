use Rattle.std.proofs.Common.{◌≡◌, take}
use Rattle.cert_checker.specs.Checking.{any_at, mark_fails}
use Rattle.cert_checker.proofs.edges.marks_fail.Given as goal

abbrev pub invariant-loop-place : goal.invariant-loop-place
invariant-loop-place l = l.fails ≡ any_at (mark_fails l.checking l.question l.names l.edge) l.checking.cert.now.marks (take l.place-index l.places)
