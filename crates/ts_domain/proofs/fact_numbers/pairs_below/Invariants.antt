use Rattle.std.proofs.Common.{◌≡◌, ◌-◌, ◌^◌, min}
use Rattle.ts_domain.specs.Facts.{pairs_below}
use Rattle.ts_domain.proofs.fact_numbers.pairs_below.Given as goal

abbrev pub invariant-loop-first : goal.invariant-loop-first
invariant-loop-first l = l.sum ≡ min (pairs_below l.vars l.first) (2 ^ 64 - 1)
