use Rattle.std.proofs.Common.{◌≡◌, ◌++◌, drop, map}
use Rattle.path_facts.specs.Paths.{from_of}
use Rattle.path_facts.proofs.paths.from_keys.Given as goal

abbrev pub invariant-loop-edge : goal.invariant-loop-edge
invariant-loop-edge l = l.keys ++ map from_of (drop l.edge-index l.edges) ≡ map from_of l.edges
