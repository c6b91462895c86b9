use Rattle.std.proofs.Common.{◌≡◌}
use Rattle.alias_facts.specs.Answer.{empty_row}
use Rattle.alias_facts.proofs.start.empty_row.Given as goal

abbrev pub invariant-loop : goal.invariant-loop
invariant-loop l = l.row ≡ empty_row l.counter l.room
