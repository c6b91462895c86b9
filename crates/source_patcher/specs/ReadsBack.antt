-- What an edited text reads as.
use Rattle.std.specs.Prelude.{ℕ, List}
use Rattle.c_tree.specs.Alike.{IsAlike}
use Rattle.c_tree.specs.Fill.{fill}
use Rattle.c_tree.specs.declared.choice.Choice.{Choice}
use Rattle.c_tree.specs.declared.program.Program.{Program}
use Rattle.source_patcher.specs.Reads.{Reads}

-- the text has a program, which is equal to the filled one but for offsets and braces
pub record ReadsBack (text : List ℕ) (p : Program) (choice : Choice) : Type 0 where
  pub program : Program
  pub reads : Reads text program
  pub alike : IsAlike program (fill p choice)
