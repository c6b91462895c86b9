-- Which choice of puts a repair takes, and why it finds none.
use Rattle.std.specs.Prelude.{◌≡◌, ℕ}
use Rattle.c_tree.specs.Fill.{IsAscending}
use Rattle.c_tree.specs.declared.choice.Choice.{Choice}
use Rattle.c_tree.specs.declared.program.Program.{Program}
use Rattle.cover_problem.specs.declared.types.Problem.{Problem}
use Rattle.cover_problem.specs.Problem.{IsCoverOf}
use Rattle.memfix_engine.specs.Analysis.{IsAlone, IsUncovered}
use Rattle.memfix_engine.specs.OwnFrees.{AreOwn}
use Rattle.memfix_engine.specs.declared.refusal.RepairRefusal.{RepairRefusal}
use Rattle.memfix_engine.specs.declared.refusal.RepairRefusal.TheVariants as refusal

-- it is a cover, and the program's own frees where these are one
pub record IsChosenFor (p : Program) (q : Problem) (s : Choice) : Type 0 where
  pub ascending : IsAscending s
  pub cover : IsCoverOf q s
  pub own : (t : Choice) → AreOwn p t → IsCoverOf q t → s ≡ t

-- an object can't be freed, or no choice frees all; nothing is said of want of memory
abbrev pub RefusesChoice : Program → RepairRefusal → Type 0
RefusesChoice p refusal.TooLong = ⊥
RefusesChoice p (refusal.Source r) = ⊥
RefusesChoice p (refusal.Limit l) = ⊥
RefusesChoice p (refusal.Alone site exit) = IsAlone p site exit
RefusesChoice p refusal.Together = IsUncovered p
RefusesChoice p refusal.Memory = Unit {0}
