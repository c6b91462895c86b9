use Rattle.std.proofs.Common.{◌≡◌, take}
use Rattle.cover_certificate.proofs.copies.sets_copy.Given as goal

abbrev pub invariant-loop-set : goal.invariant-loop-set
invariant-loop-set l = l.copy ≡ take l.set-index l.sets
