use Rattle.std.proofs.Common.{◌∙◌, List, slice_set, sym, ap, arith}
use Rattle.std.specs.Ordering.{nat_cmp}
use Rattle.std.specs.Cmp.{unsigned_tied}
use Rattle.std.proofs.lemmas.Bool.{ne_eqb}
use Rattle.std.specs.BTreeMap as tree
use Rattle.c_meaning.specs.declared.value.Value.{Value}
use Rattle.c_meaning.proofs.CellLists.{cell_written}
use Rattle.c_meaning.proofs.cells.Cells.set.Goals as goal

pub returns-clause-ok : goal.returns-clause-ok
returns-clause-ok c =
    let updates = c.in_ok-insert.ensures.updates in
    cell_written (tree.get nat_cmp c.self.inside.written) (tree.get nat_cmp c.insert.new.self) 0 c.self.inside.count c.args.at c.args.at c.args.value (omega arith) updates.1
    (λ q apart. updates.2 q (unsigned_tied c.args.at q ∙ ne_eqb c.args.at q (λ e. apart (sym e))))
    ∙ ap (λ (vs : List Value). slice_set vs c.args.at c.args.value) c.self.view_is
