use Rattle.std.proofs.Common.{◌≡◌, drop}
use Rattle.source_patcher.specs.Gaps.{are_put}
use Rattle.source_patcher.proofs.gaps.are_put.Given as goal

abbrev pub invariant-loop-i : goal.invariant-loop-i
invariant-loop-i l = are_put (drop l.i l.frees) (drop l.i l.puts) ≡ are_put l.frees l.puts
