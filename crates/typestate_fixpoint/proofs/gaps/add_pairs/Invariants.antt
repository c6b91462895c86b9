use Rattle.std.proofs.Common.{◌≡◌, drop, map}
use Rattle.indexmap.specs.IndexSet.{insert_all}
use Rattle.ts_domain.specs.Derived.{ordered}
use Rattle.typestate_fixpoint.specs.Gaps.{same_pair}
use Rattle.typestate_fixpoint.proofs.gaps.add_pairs.Given as goal

abbrev pub invariant-loop-other : goal.invariant-loop-other
invariant-loop-other l = insert_all same_pair l.pairs.keys (map (λ j. ordered j l.put) (drop l.other-index l.held)) ≡ insert_all same_pair l.fn.pairs.keys (map (λ j. ordered j l.put) l.held)
