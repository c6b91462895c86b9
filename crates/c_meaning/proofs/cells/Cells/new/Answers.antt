use Rattle.std.proofs.Common.{ℕ, List, ap}
use Rattle.std.specs.Ordering.{nat_cmp}
use Rattle.std.specs.BTreeMap as tree
use Rattle.std.specs.Map.{lookup}
use Rattle.c_meaning.specs.declared.value.Value.{Value}
use Rattle.c_meaning.proofs.CellLists.{none_written}
use Rattle.c_meaning.proofs.cells.Cells.new.Goals as goal

pub returns : goal.returns
returns c = none_written (tree.get nat_cmp c.new.result) 0 c.args.count (λ q. ap (λ (es : List (ℕ × Value)). lookup (tree.is_at (nat_cmp q)) es) c.new.ensures.empty)
