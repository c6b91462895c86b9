use Rattle.std.proofs.Common.{◌≡◌, replicate}
use Rattle.alias_facts.specs.Answer.{empty_row}
use Rattle.alias_facts.proofs.start.empty_rows.Given as goal

abbrev pub invariant-loop : goal.invariant-loop
invariant-loop l = l.rows ≡ replicate l.counter (empty_row l.bounds.fields l.bounds.sites)
