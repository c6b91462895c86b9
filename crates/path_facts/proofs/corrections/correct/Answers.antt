use Rattle.std.proofs.Common.{◌≡◌, ap, ◌∙◌}
use Rattle.ts_domain.specs.Facts.{before_given, given}
use Rattle.path_facts.specs.Corrections.{right_set}
use Rattle.path_facts.specs.Numbering.{holds_before, is_known}
use Rattle.path_facts.proofs.CorrectionLaws.{corrects_one}
use Rattle.path_facts.proofs.DeedLaws.{given_exists, given_known}
use Rattle.path_facts.proofs.NumberingLaws.{number_same, number_within}
use Rattle.path_facts.proofs.corrections.correct.Goals as goal

pub held-holds-requires-clause-known : goal.held-holds-requires-clause-known
held-holds-requires-clause-known c =
    let n = c.args.names.now in
    let is : c.before_given-before.result ≡ before_given n c.args.variable (given n c.args.value) c.args.fact = c.before_given-before.ensures ∙ ap (λ v. before_given n c.args.variable v c.args.fact) c.given.ensures in
    ap (is_known n) is ∙ given_known n c.args.variable (given n c.args.value) c.args.fact (given_exists n c.args.value) c.requires.fact

pub put-requires : goal.put-requires
put-requires c = number_within c.args.names.now c.args.numbering.now c.args.fact c.number.result c.args.set.now.room c.requires.numbering c.requires.fact c.number.ensures c.requires.room

pub returns : goal.returns
returns c =
    let n = c.args.names.now in
    let is : c.before_given-before.result ≡ before_given n c.args.variable (given n c.args.value) c.args.fact = c.before_given-before.ensures ∙ ap (λ v. before_given n c.args.variable v c.args.fact) c.given.ensures in
    corrects_one n (right_set n c.args.variable c.args.value c.args.source.now) c.args.fact c.number.result c.held-holds.result c.args.set.now c.put.new.set c.requires.fact
    (number_same n c.args.numbering.now c.args.fact c.number.result c.requires.numbering c.number.ensures)
    (c.held-holds.ensures ∙ ap (holds_before n c.args.source.now) is)
    c.put.ensures
