use Rattle.std.proofs.Common.{take}
use Rattle.typestate_fixpoint.specs.Steps.{PassesAll}
use Rattle.typestate_fixpoint.proofs.edges.over_edges.Given as goal

abbrev pub invariant-loop-place : goal.invariant-loop-place
invariant-loop-place l = PassesAll l.names l.graph l.facts l.triple l.held (take l.place-index l.places) l.fn.triples.keys l.triples.keys l.fn.forbidden l.forbidden
