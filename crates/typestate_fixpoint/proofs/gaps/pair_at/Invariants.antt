use Rattle.std.proofs.Common.{◌≡◌, drop}
use Rattle.indexmap.specs.IndexSet.{insert_all}
use Rattle.ts_domain.specs.Derived.{pairs_at}
use Rattle.typestate_fixpoint.specs.Gaps.{follows_in, same_pair, verdict_in}
use Rattle.typestate_fixpoint.proofs.gaps.pair_at.Given as goal

abbrev pub invariant-loop-put : goal.invariant-loop-put
invariant-loop-put l =
    (l.behind.room ≡ l.held.room)
    × (insert_all same_pair l.pairs.keys (pairs_at (verdict_in l.puts l.mark) (follows_in l.puts l.mark) (drop l.put-index l.row) l.behind.items)
    ≡ insert_all same_pair l.fn.pairs.keys (pairs_at (verdict_in l.puts l.mark) (follows_in l.puts l.mark) l.row l.held.items))
