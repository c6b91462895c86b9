use Rattle.std.proofs.Common.{◌≡◌}
use Rattle.ts_domain.specs.Facts.{pairs_below}
use Rattle.path_facts.specs.Numbering.{ArePairs}
use Rattle.path_facts.proofs.numbering.pairs_of.Given as goal

abbrev pub invariant-loop-variable : goal.invariant-loop-variable
invariant-loop-variable l = ArePairs l.vars l.variable l.pairs × (l.next ≡ pairs_below l.vars l.variable)
