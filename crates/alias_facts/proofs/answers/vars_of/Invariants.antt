use Rattle.std.proofs.Common.{◌≡◌, take}
use Rattle.alias_facts.proofs.answers.vars_of.Given as goal

abbrev pub invariant-loop-variable : goal.invariant-loop-variable
invariant-loop-variable l = l.list ≡ take l.variable l.sets
