use Rattle.std.proofs.Common.{◌≡◌, drop}
use Rattle.ts_domain.specs.Deeds.{bound_arguments}
use Rattle.ts_domain.proofs.edges.Binding.arguments.Given as goal

abbrev pub invariant-loop-place : goal.invariant-loop-place
invariant-loop-place l = bound_arguments l.names l.self (drop l.place l.parameters) (drop l.place l.arguments) ≡ bound_arguments l.names l.fn.self l.parameters l.arguments
