use Rattle.std.proofs.Common.{List, take}
use Rattle.std.specs.List.{Contains}
use Rattle.sat_log.specs.declared.problem.Lit.{Lit}
use Rattle.sat_core.specs.Bits.{IsFalse}
use Rattle.sat_core.proofs.plain.has_false.Given as goal

abbrev pub invariant-loop-clause : goal.invariant-loop-clause
invariant-loop-clause l = (c : List Lit) → Contains (take l.clause-index l.clauses.list) c → IsFalse l.bits c → ⊥
