use Rattle.std.proofs.Common.{◌≡◌, ◌++◌, drop}
use Rattle.alias_facts.specs.Answer.{noted_row}
use Rattle.alias_facts.proofs.answers.add_fields.Given as goal

abbrev pub invariant-loop-field : goal.invariant-loop-field
invariant-loop-field l = l.list ++ noted_row l.site l.field (drop l.field l.row) ≡ l.fn.list ++ noted_row l.site 0 l.row
