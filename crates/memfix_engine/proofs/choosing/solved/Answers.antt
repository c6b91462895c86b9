-- The bits that are found stand for a cover; a log that is right leaves none.
use Rattle.std.proofs.Common.{rules, sym, subst}
use Rattle.sat_core.specs.Bits.{IsModel}
use Rattle.sat_log.specs.Clauses.{Satisfies}
use Rattle.memfix_engine.proofs.ChoosingLaws.{none_covers}
use Rattle.memfix_engine.proofs.choosing.solved.Goals as goal

pub returns-in_ok-choice-in-Sat : goal.returns-in_ok-choice-in-Sat
returns-in_ok-choice-in-Sat c =
    let clauses = c.args.clauses.now in
    let model : IsModel clauses c.in-Sat.bits.items = search rules in
    let satisfied : Satisfies c.as_slice.result.now clauses.list = subst (λ bits. Satisfies bits clauses.list) (sym c.as_slice.ensures.value) model.satisfies in
    let found = c.in_ok-choice-in-Sat.ensures in
    record { ascending = found.ascending c.requires.ascending; cover = found.cover c.requires.ascending clauses c.requires.clauses satisfied }

pub returns-in_ok-check_log-in-Unsat : goal.returns-in_ok-check_log-in-Unsat
returns-in_ok-check_log-in-Unsat c = none_covers c.args.problem.now c.args.clauses.now c.requires.rooms c.requires.clauses c.in_ok-check_log-in-Unsat.ensures
