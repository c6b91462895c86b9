use Rattle.std.proofs.Common.{◌≡◌, ◌++◌, drop}
use Rattle.alias_facts.specs.Answer.{noted_rows}
use Rattle.alias_facts.proofs.answers.fields_of.Given as goal

abbrev pub invariant-loop-site : goal.invariant-loop-site
invariant-loop-site l = l.list ++ noted_rows l.site (drop l.site l.rows) ≡ noted_rows 0 l.rows
