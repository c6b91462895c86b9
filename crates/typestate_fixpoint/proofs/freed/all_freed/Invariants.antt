use Rattle.std.proofs.Common.{◌≡◌, map, take}
use Rattle.typestate_fixpoint.specs.Gaps.{freed_of}
use Rattle.typestate_fixpoint.proofs.freed.all_freed.Given as goal

abbrev pub invariant-loop-put : goal.invariant-loop-put
invariant-loop-put l = l.list ≡ map (freed_of l.names) (take l.put-index l.puts)
