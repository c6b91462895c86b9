use Rattle.std.proofs.Common.{◌≡◌, take}
use Rattle.typestate_fixpoint.proofs.derivation.copies.Given as goal

abbrev pub invariant-loop-triple : goal.invariant-loop-triple
invariant-loop-triple l = l.list ≡ take l.triple-index l.triples
