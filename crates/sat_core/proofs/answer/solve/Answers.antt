use Rattle.sat_core.proofs.AnswerLaws.{unsat_exactly}
use Rattle.sat_core.proofs.answer.solve.Goals as goal

pub returns-clause-unsat : goal.returns-clause-unsat
returns-clause-unsat c = unsat_exactly c.args.clauses.now c.in_ok-answer.answer c.in_ok-answer.ensures
