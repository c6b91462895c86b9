use Rattle.std.proofs.Common.{◌≡◌, nat_eq, drop}
use Rattle.std.specs.List.{flat_map}
use Rattle.indexmap.specs.IndexSet.{insert_all}
use Rattle.ts_domain.specs.Reaching.{target}
use Rattle.ts_domain.proofs.reaching.add_targets.Given as goal

abbrev pub invariant-loop-place : goal.invariant-loop-place
invariant-loop-place l = insert_all nat_eq l.nodes.keys (flat_map (target l.graph) (drop l.place-index l.places)) ≡ insert_all nat_eq l.fn.nodes.keys (flat_map (target l.graph) l.places)
