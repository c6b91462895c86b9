use Rattle.std.proofs.Common.{◌≡◌, ◌++◌, drop}
use Rattle.std.specs.List.{flat_map}
use Rattle.ts_domain.specs.Deeds.{unset}
use Rattle.ts_domain.proofs.deeds.all_unset.Given as goal

abbrev pub invariant-loop-place : goal.invariant-loop-place
invariant-loop-place l = l.list ++ flat_map unset (drop l.place-index l.places) ≡ l.fn.list ++ flat_map unset l.places
