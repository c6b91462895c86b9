use Rattle.std.proofs.Common.{◌≡◌, ◌++◌, drop}
use Rattle.c_scopes.specs.ScopeAt.{so_far}
use Rattle.c_scopes.specs.Turns.{turns, turns_from}
use Rattle.c_scopes.proofs.walk.all_turns.Given as goal

abbrev pub invariant-loop-number : goal.invariant-loop-number
invariant-loop-number l = l.turns ++ turns_from l.hidden l.vars l.number (so_far l.count l.globals) (drop l.number l.funs) ≡ turns l.hidden l.program
