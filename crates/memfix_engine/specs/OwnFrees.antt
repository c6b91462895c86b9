-- A program's own frees as a choice of puts.
use Rattle.c_tree.specs.Alike.{IsAlike}
use Rattle.c_tree.specs.Fill.{IsAscending, fill}
use Rattle.c_tree.specs.declared.choice.Choice.{Choice}
use Rattle.c_tree.specs.declared.program.Program.{Program}
use Rattle.source_patcher.specs.InScope.{HaveGaps}

-- the frees that stand in the program's gaps are those of the choice, gap by gap and in its order
pub record AreOwn (p : Program) (s : Choice) : Type 0 where
  pub ascending : IsAscending s
  pub gaps : HaveGaps p s.puts
  pub alike : IsAlike (fill p s) p
