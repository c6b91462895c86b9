use Rattle.std.proofs.Common.{◌≡◌, length}
use Rattle.std.specs.List.{fold, flat_map}
use Rattle.std.specs.Hash as fed
use Rattle.mf_set.specs.Numbers.{pairs_of}
use Rattle.mf_set.proofs.words.hash.Given as goal

-- what is left to feed gives what all gives
abbrev pub invariant-loop-rest : goal.invariant-loop-rest
invariant-loop-rest g l =
    fold g.H.Hasher.write l.state (flat_map fed.u128 (pairs_of l.rest)) ≡ fold g.H.Hasher.write l.fn.state (flat_map fed.u128 (pairs_of l.words))

abbrev pub decreases-loop-rest : goal.decreases-loop-rest
decreases-loop-rest g l = length l.rest
