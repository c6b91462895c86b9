use Rattle.alias_facts.specs.Growth.{missing_in}
use Rattle.alias_facts.specs.Writing.{Settling}
use Rattle.alias_facts.proofs.writing.settle.Given as goal

abbrev pub invariant-loop : goal.invariant-loop
invariant-loop l = Settling l.names l.graph l.fn.table l.table

abbrev pub decreases-loop : goal.decreases-loop
decreases-loop l = missing_in l.table
