use Rattle.std.proofs.Common.{◌≡◌, ◌++◌, ◌+◌, ◌≤◌, drop}
use Rattle.cfg_lower.specs.Rows.{firsts_from, inside}
use Rattle.cfg_lower.proofs.numbers.numbers.Given as goal

abbrev pub invariant-loop-context : goal.invariant-loop-context
invariant-loop-context l =
    (firsts_from l.program 0 l.list ≡ l.firsts ++ firsts_from l.program l.inside (drop l.context-index l.list))
    × (inside l.program l.list ≡ l.inside + inside l.program (drop l.context-index l.list))
    × (l.inside ≤ 10000)
