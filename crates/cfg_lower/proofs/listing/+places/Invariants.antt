use Rattle.std.proofs.Common.{◌≡◌, ◌++◌, ◌*◌, drop}
use Rattle.c_meaning.specs.Parts.{arm_parts}
use Rattle.c_meaning.specs.Place.{arm_body, arm_test}
use Rattle.cfg_lower.specs.Listing.{parts_below, pieces_below}
use Rattle.cfg_lower.proofs.listing.+places.Given as goal

abbrev pub invariant-add_arms-loop-j : goal.invariant-add_arms-loop-j
invariant-add_arms-loop-j l =
    l.fn.list ++ parts_below l.slot l.prefix 0 (arm_parts arm_test arm_body l.arms) ≡ l.list ++ parts_below l.slot l.prefix (2 * l.j) (arm_parts arm_test arm_body (drop l.j l.arms))

abbrev pub invariant-add_block-loop-i : goal.invariant-add_block-loop-i
invariant-add_block-loop-i l = l.fn.list ++ pieces_below l.slot l.prefix 0 l.pieces ≡ l.list ++ pieces_below l.slot l.prefix l.i (drop l.i l.pieces)
