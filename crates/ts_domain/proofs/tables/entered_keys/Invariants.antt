use Rattle.std.proofs.Common.{◌≡◌, map, take}
use Rattle.ts_domain.specs.Tables.{entered}
use Rattle.ts_domain.proofs.tables.entered_keys.Given as goal

abbrev pub invariant-loop-edge : goal.invariant-loop-edge
invariant-loop-edge l = l.keys ≡ map (entered l.graph) (take l.edge-index l.edges)
