use Rattle.std.proofs.Common.{◌≡◌, drop, map}
use Rattle.std.specs.List.{range_with_len}
use Rattle.source_patcher.specs.PutsByGap.{start_of}
use Rattle.source_patcher.proofs.puts.starts.Given as goal

abbrev pub invariant-loop-gap : goal.invariant-loop-gap
invariant-loop-gap l = (l.starts ≡ map (start_of l.puts) (range_with_len 0 l.gap)) × (l.behind ≡ drop (start_of l.puts l.gap) l.puts)
