use Rattle.std.proofs.Common.{◌≡◌, ◌++◌, drop, map}
use Rattle.ts_domain.specs.Reaching.{from_of}
use Rattle.typestate_fixpoint.proofs.tables.from_keys.Given as goal

abbrev pub invariant-loop-edge : goal.invariant-loop-edge
invariant-loop-edge l = l.keys ++ map from_of (drop l.edge-index l.edges) ≡ map from_of l.edges
