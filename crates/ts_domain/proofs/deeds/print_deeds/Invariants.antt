use Rattle.std.proofs.Common.{◌≡◌, ◌++◌, drop, false}
use Rattle.std.specs.List.{flat_map}
use Rattle.ts_domain.specs.Looks.{value_deeds}
use Rattle.ts_domain.proofs.deeds.print_deeds.Given as goal

abbrev pub invariant-loop-value : goal.invariant-loop-value
invariant-loop-value l = l.list ++ flat_map (value_deeds l.names false) (drop l.value-index l.values) ≡ flat_map (value_deeds l.names false) l.values
