use Rattle.std.proofs.Common.{◌≡◌, ◌++◌, drop, flat_map}
use Rattle.c_scopes.specs.Turns.{declr_turns}
use Rattle.c_scopes.proofs.walk.declrs.Given as goal

abbrev pub invariant-loop-declr : goal.invariant-loop-declr
invariant-loop-declr l = l.turns ++ flat_map (declr_turns l.hidden) (drop l.declr-index l.declrs) ≡ l.fn.turns ++ flat_map (declr_turns l.hidden) l.declrs
