use Rattle.std.proofs.Common.{◌≡◌, drop}
use Rattle.ts_domain.specs.Derived.{forbidden_at}
use Rattle.typestate_fixpoint.specs.Gaps.{verdict_in, HasSame}
use Rattle.typestate_fixpoint.proofs.gaps.forbid_at.Given as goal

abbrev pub invariant-loop-put : goal.invariant-loop-put
invariant-loop-put l =
    (l.behind.room ≡ l.held.room)
    × HasSame (forbidden_at (verdict_in l.puts l.mark) l.row l.held.items) (forbidden_at (verdict_in l.puts l.mark) (drop l.put-index l.row) l.behind.items) l.fn.forbidden l.forbidden
