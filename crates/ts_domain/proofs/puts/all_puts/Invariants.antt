use Rattle.std.proofs.Common.{◌≡◌, ◌≤◌, ◌++◌, [], drop, length}
use Rattle.c_scopes.specs.Turns.{rows_from, scope_of}
use Rattle.ts_domain.specs.Puts.{fields_by, puts_in, reached_by}
use Rattle.ts_domain.proofs.puts.all_puts.Given as goal

abbrev pub invariant-loop-turn : goal.invariant-loop-turn
invariant-loop-turn l =
    (l.puts ++ puts_in (reached_by l.lookups) (fields_by l.graph l.program l.lookups) (rows_from l.scope (drop l.turn-index l.turns))
    ≡ puts_in (reached_by l.lookups) (fields_by l.graph l.program l.lookups) (rows_from (scope_of [] []) l.turns))
    × (length l.puts ≤ 8192)
