use Rattle.std.proofs.Common.{List, length, slice_get, ap, sym, ◌∙◌}
use Rattle.cfg_lower.specs.declared.tables.Row.{Row}
use Rattle.cfg_lower.proofs.RowLaws.{none_standing, row_is}
use Rattle.cfg_lower.proofs.numbers.size.Goals as goal

pub returns-in-None : goal.returns-in-None
returns-in-None c =
    ap (λ ps. length ps) (sym (none_standing c.args.program.now c.args.fun (ap (λ (rs : List Row). slice_get rs c.args.fun) (sym c.requires) ∙ sym c.in-None.ensures.value)))

pub returns-in-Some : goal.returns-in-Some
returns-in-Some c =
    c.len.ensures
    ∙ ap (λ (r : Row). length r.places)
    (row_is c.args.program.now c.args.fun c.in-Some.row.now (ap (λ (rs : List Row). slice_get rs c.args.fun) (sym c.requires) ∙ sym c.in-Some.ensures.value))
