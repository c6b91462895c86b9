use Rattle.std.proofs.Common.{◌≡◌, Some, ap, sym, ◌∙◌}
use Rattle.std.specs.Option.{option_copied}
use Rattle.alias_facts.specs.Flow.{cell_at}
use Rattle.alias_facts.proofs.FoundLaws.{adds_cell}
use Rattle.alias_facts.proofs.found.add_cell.Goals as goal

pub returns-in-Some : goal.returns-in-Some
returns-in-Some c =
    let at : cell_at c.args.table.now c.args.site c.args.field ≡ Some c.in-Some.cell.now = sym c.cell_at.ensures ∙ ap option_copied c.in-Some.is in
    adds_cell c.args.table.now c.args.site c.args.field c.in-Some.cell.now c.args.set.now c.union_with.new.self at c.union_with.ensures.numbers
