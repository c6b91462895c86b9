use Rattle.std.proofs.Common.{◌≡◌, drop}
use Rattle.ts_domain.specs.Derived.{gathered}
use Rattle.typestate_fixpoint.specs.Gaps.{verdict_in}
use Rattle.typestate_fixpoint.proofs.gaps.behind.Given as goal

abbrev pub invariant-loop-put : goal.invariant-loop-put
invariant-loop-put l =
    (l.behind.room ≡ l.held.room)
    × (gathered (verdict_in l.puts l.mark) (drop l.put-index l.row) l.behind.items ≡ gathered (verdict_in l.puts l.mark) l.row l.held.items)
