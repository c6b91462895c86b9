use Rattle.std.proofs.Common.{◌≡◌, ◌++◌, drop, flat_map}
use Rattle.c_scopes.specs.Turns.{var_turns}
use Rattle.c_scopes.proofs.walk.see_all.Given as goal

abbrev pub invariant-loop-var : goal.invariant-loop-var
invariant-loop-var l = l.turns ++ flat_map (var_turns l.hidden) (drop l.var-index l.vars) ≡ l.fn.turns ++ flat_map (var_turns l.hidden) l.vars
