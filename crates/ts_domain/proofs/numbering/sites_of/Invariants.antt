use Rattle.std.proofs.Common.{◌≡◌, slice_get}
use Rattle.std.specs.List.{filter, range_with_len}
use Rattle.c_tree.specs.Typing.{has}
use Rattle.c_graph.specs.declared.graph.Node.{Node}
use Rattle.ts_domain.specs.Numbering.{makes}
use Rattle.ts_domain.proofs.numbering.sites_of.Given as goal

abbrev pub invariant-loop-place : goal.invariant-loop-place
invariant-loop-place l = l.list ≡ filter (λ i. has (λ (v : Node). makes v.kind) (slice_get l.nodes i)) (range_with_len 0 l.place)
