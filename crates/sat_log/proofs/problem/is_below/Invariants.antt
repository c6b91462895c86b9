use Rattle.std.proofs.Common.{◌<◌}
use Rattle.std.specs.List.{AllWithin}
use Rattle.sat_log.proofs.problem.is_below.Given as goal

abbrev pub invariant-loop-lit : goal.invariant-loop-lit
invariant-loop-lit l = AllWithin (λ o. o.var < l.vars) l.clause 0 l.lit-index
