use Rattle.std.proofs.Common.{◌≡◌, map, take}
use Rattle.c_tree.specs.declared.program.Free.{Free}
use Rattle.cover_certificate.specs.Closed.{named}
use Rattle.cert_checker.proofs.frees.names_of.Given as goal

abbrev pub invariant-loop-free : goal.invariant-loop-free
invariant-loop-free l = l.list ≡ map (λ (f : Free). named l.names f.expr) (take l.free-index l.frees)
