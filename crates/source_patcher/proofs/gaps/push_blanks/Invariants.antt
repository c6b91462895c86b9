use Rattle.std.proofs.Common.{◌≡◌, ◌++◌, take, map}
use Rattle.source_patcher.specs.Gaps.{blanked}
use Rattle.source_patcher.proofs.gaps.push_blanks.Given as goal

abbrev pub invariant-loop-token : goal.invariant-loop-token
invariant-loop-token l = l.out ≡ l.fn.out ++ map blanked (take l.token-index l.within)
