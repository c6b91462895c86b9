use Rattle.alias_facts.specs.Writing.{Settling}
use Rattle.alias_facts.proofs.following.follow.Given as goal

abbrev pub invariant-loop : goal.invariant-loop
invariant-loop l = Settling l.names l.graph l.fn.table l.table
