use Rattle.std.proofs.Common.{◌≡◌, true, slice_get, ap, sym, ◌∙◌}
use Rattle.path_facts.specs.Shows.{chosen}
use Rattle.path_facts.proofs.ShowLaws.{field_shown}
use Rattle.path_facts.proofs.shows.show_field.Goals as goal

pub returns-then-chosen : goal.returns-then-chosen
returns-then-chosen c =
    let is : chosen c.args.variable c.args.number (slice_get c.args.names.now.fields c.args.field) ≡ true = ap (chosen c.args.variable c.args.number) (sym c.field_at.ensures) ∙ sym c.chosen.ensures ∙ c.if-chosen.true in
    field_shown c.args.names.now c.args.variable c.args.number c.args.field c.args.set.now c.show.new.set c.requires.within is c.show.ensures
