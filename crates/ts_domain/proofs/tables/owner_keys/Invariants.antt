use Rattle.std.proofs.Common.{◌≡◌, map, take}
use Rattle.ts_domain.specs.Tables.{owner_of}
use Rattle.ts_domain.proofs.tables.owner_keys.Given as goal

abbrev pub invariant-loop-variable : goal.invariant-loop-variable
invariant-loop-variable l = l.keys ≡ map (owner_of l.names) (take l.variable-index l.vars)
