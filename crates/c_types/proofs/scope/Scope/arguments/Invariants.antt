-- The rest decides.
use Rattle.std.proofs.Common.{◌≡◌, drop}
use Rattle.c_types.specs.Calls.{arguments, arguments_from, before}
use Rattle.c_types.proofs.scope.Scope.arguments.Given as goal

abbrev pub invariant-loop-place : goal.invariant-loop-place
invariant-loop-place l = before l.made l.faults (arguments_from l.fn.self l.params l.place (drop l.place l.args)) ≡ arguments l.fn.self l.params l.args
