-- There is a bit for each variable, and no other choice has the program's own frees.
use Rattle.std.proofs.Common.{rules, length, ap, sym, ◌∙◌}
use Rattle.cover_clauses.specs.Clauses.{bits_of}
use Rattle.memfix_engine.specs.OwnFrees.{AreOwn}
use Rattle.memfix_engine.proofs.OwnText.{own_unique}
use Rattle.memfix_engine.proofs.HintLaws.{bits_counted}
use Rattle.memfix_engine.proofs.choosing.hint.Goals as goal

pub returns-clause-counted : goal.returns-clause-counted
returns-clause-counted c = ap (λ bs. length bs) c.in_ok-bits.ensures ∙ bits_counted c.args.problem.now c.in-Some.own ∙ sym c.requires.counted

pub returns-clause-own : goal.returns-clause-own
returns-clause-own c = λ t are.
    let own : AreOwn c.args.program.now c.in-Some.own = search rules in
    c.in_ok-bits.ensures ∙ ap (bits_of c.args.problem.now) (own_unique c.args.program.now c.in-Some.own t c.requires.well_formed own are)
