use Rattle.std.proofs.Common.{◌≡◌, ◌++◌, take, map}
use Rattle.source_patcher.specs.Gaps.{freed_at}
use Rattle.source_patcher.proofs.gaps.push_new.Given as goal

abbrev pub invariant-loop-put : goal.invariant-loop-put
invariant-loop-put l = l.out ≡ l.fn.out ++ map (freed_at l.at) (take l.put-index l.puts)
