use Rattle.std.proofs.Common.{◌≡◌, ◌++◌, take, flat_map}
use Rattle.source_patcher.specs.Gaps.{blanks}
use Rattle.source_patcher.proofs.gaps.push_old.Given as goal

abbrev pub invariant-loop-free : goal.invariant-loop-free
invariant-loop-free l = l.out ≡ l.fn.out ++ flat_map (blanks l.tokens) (take l.free-index l.frees)
