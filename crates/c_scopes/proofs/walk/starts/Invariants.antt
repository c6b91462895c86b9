use Rattle.std.proofs.Common.{◌≡◌, ◌++◌, drop, flat_map}
use Rattle.c_scopes.specs.Turns.{start_turns}
use Rattle.c_scopes.proofs.walk.starts.Given as goal

abbrev pub invariant-loop-part : goal.invariant-loop-part
invariant-loop-part l = l.turns ++ flat_map (start_turns l.hidden) (drop l.part-index l.starts) ≡ l.fn.turns ++ flat_map (start_turns l.hidden) l.starts
