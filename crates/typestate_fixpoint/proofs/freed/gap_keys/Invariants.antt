use Rattle.std.proofs.Common.{◌≡◌, ◌++◌, drop, map}
use Rattle.ts_domain.specs.Derived.{put_gap}
use Rattle.typestate_fixpoint.proofs.freed.gap_keys.Given as goal

abbrev pub invariant-loop-put : goal.invariant-loop-put
invariant-loop-put l = l.keys ++ map put_gap (drop l.put-index l.puts) ≡ map put_gap l.puts
