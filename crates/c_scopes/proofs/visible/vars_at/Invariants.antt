use Rattle.std.proofs.Common.{◌≡◌, [], drop}
use Rattle.c_scopes.specs.ScopeAt.{vars_at}
use Rattle.c_scopes.specs.Turns.{rows_from, scope_of}
use Rattle.c_scopes.proofs.visible.vars_at.Given as goal

abbrev pub invariant-loop-turn : goal.invariant-loop-turn
invariant-loop-turn l = vars_at l.gap (rows_from l.scope (drop l.turn-index l.turns)) ≡ vars_at l.gap (rows_from (scope_of [] []) l.turns)
