use Rattle.std.proofs.Common.{◌≡◌, ◌++◌, drop, flat_map}
use Rattle.c_scopes.specs.Turns.{var_turns}
use Rattle.c_scopes.proofs.walk.see_from.Given as goal

abbrev pub invariant-loop-at : goal.invariant-loop-at
invariant-loop-at l = l.turns ++ flat_map (var_turns l.hidden) (drop l.at l.globals) ≡ l.fn.turns ++ flat_map (var_turns l.hidden) (drop l.from l.globals)
