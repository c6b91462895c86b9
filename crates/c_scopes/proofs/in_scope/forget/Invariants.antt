use Rattle.std.proofs.Common.{◌≡◌, length, take}
use Rattle.c_scopes.proofs.in_scope.forget.Given as goal

abbrev pub invariant-loop-vars : goal.invariant-loop-vars
invariant-loop-vars l = take l.n l.vars ≡ take l.n l.initial.vars

abbrev pub decreases-loop-vars : goal.decreases-loop-vars
decreases-loop-vars l = length l.vars
