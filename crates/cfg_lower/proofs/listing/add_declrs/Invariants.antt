use Rattle.std.proofs.Common.{◌≡◌, ◌++◌, map, drop, None}
use Rattle.c_meaning.specs.Parts.{One, declared}
use Rattle.cfg_lower.specs.Listing.{parts_below}
use Rattle.cfg_lower.proofs.listing.add_declrs.Given as goal

abbrev pub invariant-loop-k : goal.invariant-loop-k
invariant-loop-k l =
    l.fn.list ++ parts_below None l.prefix 0 (map (λ d. One (declared d d.right)) l.declrs) ≡ l.list ++ parts_below None l.prefix l.k (map (λ d. One (declared d d.right)) (drop l.k l.declrs))
