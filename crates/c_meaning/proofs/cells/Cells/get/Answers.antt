use Rattle.std.proofs.Common.{◌∙◌, Option, Some, List, slice_get, sym, ap, arith}
use Rattle.std.specs.Prelude.{unwrap_or}
use Rattle.std.specs.Ordering.{nat_cmp}
use Rattle.std.specs.BTreeMap as tree
use Rattle.c_meaning.specs.declared.value.Value.{Value}
use Rattle.c_meaning.specs.declared.value.Value.TheVariants.{Undef}
use Rattle.c_meaning.proofs.CellLists.{cell_at, cell_past}
use Rattle.c_meaning.proofs.cells.Cells.get.Goals as goal

pub returns-then-at-self : goal.returns-then-at-self
returns-then-at-self c =
    sym (cell_past (tree.get nat_cmp c.self.inside.written) 0 c.self.inside.count c.args.at c.if-at-self.true)
    ∙ ap (λ (vs : List Value). slice_get vs c.args.at) c.self.view_is

pub returns-in-Some : goal.returns-in-Some
returns-in-Some c =
    ap (λ (o : Option Value). Some (unwrap_or o Undef)) c.in-Some.ensures.value
    ∙ sym (cell_at (tree.get nat_cmp c.self.inside.written) 0 c.self.inside.count c.args.at c.args.at c.if-at-self.false (omega arith))
    ∙ ap (λ (vs : List Value). slice_get vs c.args.at) c.self.view_is

pub returns-in-None : goal.returns-in-None
returns-in-None c =
    ap (λ (o : Option Value). Some (unwrap_or o Undef)) c.in-None.ensures.value
    ∙ sym (cell_at (tree.get nat_cmp c.self.inside.written) 0 c.self.inside.count c.args.at c.args.at c.if-at-self.false (omega arith))
    ∙ ap (λ (vs : List Value). slice_get vs c.args.at) c.self.view_is
