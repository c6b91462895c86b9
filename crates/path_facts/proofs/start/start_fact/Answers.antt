use Rattle.ts_domain.specs.Path.{true_at_start}
use Rattle.path_facts.proofs.CorrectionLaws.{corrects_one}
use Rattle.path_facts.proofs.NumberingLaws.{number_same, number_within}
use Rattle.path_facts.proofs.start.start_fact.Goals as goal

pub put-requires : goal.put-requires
put-requires c = number_within c.args.names.now c.args.numbering.now c.args.fact c.number.result c.args.set.now.room c.requires.numbering c.requires.fact c.number.ensures c.requires.room

pub returns : goal.returns
returns c =
    let n = c.args.names.now in
    corrects_one n (true_at_start n) c.args.fact c.number.result c.true_at_start-value.result c.args.set.now c.put.new.set c.requires.fact
    (number_same n c.args.numbering.now c.args.fact c.number.result c.requires.numbering c.number.ensures)
    c.true_at_start-value.ensures c.put.ensures
