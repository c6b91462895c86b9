-- A word of one to eight digits is never refused by `parse`.
use Rattle.std.proofs.Common.{◌≡◌, rules, true, Result, Ok, Err, sym, ◌∙◌}
use Rattle.memfix_engine.specs.Request.{is_number}
use Rattle.memfix_engine.proofs.RequestLemmas.{number_parsed}
use Rattle.memfix_engine.proofs.request.steps_of.Goals as goal

pub returns-in_default-2 : goal.returns-in_default-2
returns-in_default-2 c =
    let number : is_number c.args.word.now ≡ true = search rules in
    let read = number_parsed c.args.word.now c.parse.result c.parse.ensures.value.0 number in
    absurd (cc (sym c.in_default.is ∙ read))
