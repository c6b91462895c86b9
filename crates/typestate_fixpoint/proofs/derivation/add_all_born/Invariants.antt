use Rattle.std.proofs.Common.{◌≡◌, take}
use Rattle.std.specs.List.{flat_map}
use Rattle.indexmap.specs.IndexSet.{insert_all}
use Rattle.typestate_fixpoint.specs.Steps.{born_from, same_triple}
use Rattle.typestate_fixpoint.proofs.derivation.add_all_born.Given as goal

abbrev pub invariant-loop-place : goal.invariant-loop-place
invariant-loop-place l = l.triples.keys ≡ insert_all same_triple l.fn.triples.keys (flat_map (born_from l.names l.graph l.facts l.nodes.keys) (take l.place l.graph.edges))
