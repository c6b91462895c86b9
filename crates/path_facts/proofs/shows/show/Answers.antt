use Rattle.std.proofs.Common.{ap, ◌∙◌}
use Rattle.mf_set.specs.Numbers.{Numbers, with_number}
use Rattle.path_facts.proofs.NumberingLaws.{number_same, number_within}
use Rattle.path_facts.proofs.shows.show.Goals as goal

pub insert-requires : goal.insert-requires
insert-requires c = number_within c.args.names.now c.args.numbering.now c.args.fact c.number.result c.args.set.now.room c.requires.numbering c.requires.fact c.number.ensures c.requires.room

pub returns : goal.returns
returns c =
    c.insert.ensures.numbers
    ∙ ap (λ k. record c.args.set.now { items = with_number c.args.set.now.items k }) (number_same c.args.names.now c.args.numbering.now c.args.fact c.number.result c.requires.numbering c.number.ensures)
