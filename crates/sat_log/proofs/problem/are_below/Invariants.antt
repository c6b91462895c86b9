use Rattle.std.proofs.Common.{◌<◌, List}
use Rattle.std.specs.List.{AllWithin, Contains}
use Rattle.sat_log.specs.declared.problem.Lit.{Lit}
use Rattle.sat_log.proofs.problem.are_below.Given as goal

abbrev pub invariant-loop-clause : goal.invariant-loop-clause
invariant-loop-clause l = AllWithin (λ (c : List Lit). (o : Lit) → Contains c o → o.var < l.vars) l.list 0 l.clause-index
