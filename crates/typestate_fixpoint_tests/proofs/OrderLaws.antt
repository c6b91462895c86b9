-- Puts ascend where each one comes before the next.
use Rattle.std.proofs.Common.{◌≡◌, true, Bool, ◌&&◌, List, [], ◌∷◌, refl}
use Rattle.c_tree.specs.declared.choice.Put.{Put}
use Rattle.c_tree.specs.Fill.{ascends}
use Rattle.typestate_fixpoint_tests.specs.Order.{precedes_next}

pub ascends_opens : (p : Put) (ps : List Put) → ascends (p ∷ ps) ≡ (precedes_next p ps && ascends ps)
ascends_opens p [] = refl
ascends_opens p (q ∷ qs) = refl
