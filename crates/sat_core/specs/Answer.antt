-- What a right answer is.
use Rattle.sat_log.specs.declared.problem.Clauses.{Clauses}
use Rattle.sat_log.specs.declared.problem.Log.{Log}
use Rattle.sat_log.specs.Refutation.{IsLog}
use Rattle.sat_core.specs.Bits.{IsModel}
use Rattle.sat_core.specs.declared.answer.Answer.{Answer}
use Rattle.sat_core.specs.declared.answer.Answer.TheVariants.{Sat, Unsat}
use Rattle.sat_core.specs.declared.answer.Found.{Found}
use Rattle.sat_core.specs.declared.answer.Found.TheVariants.{Model, Refuted, Nothing}

-- bits satisfy all clauses, and a log refutes them
abbrev pub IsRight : Clauses → Answer → Type 0
IsRight clauses (Sat bits) = IsModel clauses bits.items
IsRight clauses (Unsat log) = IsLog clauses log

-- the answer is that no bits satisfy the clauses
abbrev pub IsUnsat : Answer → Type 0
IsUnsat (Sat bits) = ⊥
IsUnsat (Unsat log) = Unit {0}

-- the same of what the learning search found
abbrev pub IsFoundRight : Clauses → Log → Found → Type 0
IsFoundRight clauses log (Model bits) = IsModel clauses bits.items
IsFoundRight clauses log Refuted = IsLog clauses log
IsFoundRight clauses log Nothing = Unit {0}
