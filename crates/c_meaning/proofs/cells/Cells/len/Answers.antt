use Rattle.std.proofs.Common.{◌∙◌, List, length, sym, ap}
use Rattle.std.specs.Ordering.{nat_cmp}
use Rattle.std.specs.BTreeMap as tree
use Rattle.c_meaning.specs.declared.value.Value.{Value}
use Rattle.c_meaning.proofs.CellLists.{cells_count}
use Rattle.c_meaning.proofs.cells.Cells.len.Goals as goal

pub returns : goal.returns
returns c = sym (cells_count (tree.get nat_cmp c.self.inside.written) 0 c.self.inside.count) ∙ ap (λ (vs : List Value). length vs) c.self.view_is
