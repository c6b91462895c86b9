use Rattle.std.proofs.Common.{◌≡◌, take, flat_map}
use Rattle.source_patcher.specs.Changes.{block_changes}
use Rattle.source_patcher.proofs.walk.changes.Given as goal

abbrev pub invariant-loop-fun : goal.invariant-loop-fun
invariant-loop-fun l = l.list ≡ flat_map (λ f. block_changes l.tokens l.puts f.body) (take l.fun-index l.fun-items)
