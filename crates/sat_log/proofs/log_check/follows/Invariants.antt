use Rattle.std.proofs.Common.{◌≡◌, ◌++◌, length, take}
use Rattle.sat_log.specs.Refutation.{Follows}
use Rattle.sat_log.specs.Propagation.{Settled}
use Rattle.sat_log.proofs.log_check.follows.Given as goal

-- the clauses so far follow, and what is known follows from them and the given ones
abbrev pub invariant-loop-at : goal.invariant-loop-at
invariant-loop-at l =
    record {
      known : Follows l.given (take l.at l.list);
      settled : Settled (l.given ++ take l.at l.list) l.facts;
      places : length l.facts.bits.items ≡ length l.fn.facts.bits.items;
    }
