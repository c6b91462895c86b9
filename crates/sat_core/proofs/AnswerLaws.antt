-- A right answer is that no bits satisfy the clauses exactly where none do.
use Rattle.std.proofs.Common.{List, Bool, ◌↔◌}
use Rattle.sat_log.specs.declared.problem.Clauses.{Clauses}
use Rattle.sat_log.specs.Clauses.{Satisfies}
use Rattle.sat_log.proofs.LogLaws.{log_refutes}
use Rattle.sat_core.specs.Answer.{IsRight, IsUnsat}
use Rattle.sat_core.specs.declared.answer.Answer.{Answer}
use Rattle.sat_core.specs.declared.answer.Answer.TheVariants.{Sat, Unsat}

pub unsat_exactly : (clauses : Clauses) (answer : Answer) → IsRight clauses answer → (IsUnsat answer ↔ ((bits : List Bool) → Satisfies bits clauses.list → ⊥))
unsat_exactly clauses (Sat bits) h = (λ e. absurd e, λ none. none bits.items h.satisfies)
unsat_exactly clauses (Unsat log) h = (λ _. log_refutes h, λ _. tt)
