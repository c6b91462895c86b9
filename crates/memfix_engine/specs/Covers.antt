-- What a search for a cover comes to.
use Rattle.std.specs.Prelude.{◌≡◌, ℕ, Option, Some, MatchOption}
use Rattle.c_tree.specs.Fill.{IsAscending}
use Rattle.c_tree.specs.declared.choice.Choice.{Choice}
use Rattle.c_tree.specs.declared.program.Program.{Program}
use Rattle.c_graph.specs.declared.graph.Graph.{Graph}
use Rattle.ts_domain.specs.declared.names.Names.{Names}
use Rattle.cover_problem.specs.declared.types.Problem.{Problem}
use Rattle.cover_problem.specs.Problem.{IsCoverOf}
use Rattle.memfix_engine.specs.Analysis.{exit_offset, site_offset}
use Rattle.memfix_engine.specs.OwnFrees.{AreOwn}

-- a choice that ascends and is a cover
pub record IsFoundCover (q : Problem) (s : Choice) : Type 0 where
  pub ascending : IsAscending s
  pub cover : IsCoverOf q s

-- a cover, or that no choice is one
abbrev pub IsSearched : Problem → Option Choice → Type 0
IsSearched q found = MatchOption found ((s : Choice) → IsCoverOf q s → ⊥) (IsFoundCover q)

-- the program's own frees are a cover
pub record IsOwnCover (p : Program) (q : Problem) (s : Choice) : Type 0 where
  pub own : AreOwn p s
  pub cover : IsCoverOf q s

-- the program's own frees where they are a cover, or that no cover has them
abbrev pub IsOwnSearched : Program → Problem → Option Choice → Type 0
IsOwnSearched p q found = MatchOption found ((t : Choice) → AreOwn p t → IsCoverOf q t → ⊥) (IsOwnCover p q)

-- there is an offset
abbrev pub HasOffset : Option ℕ → Type 0
HasOffset o = (at : ℕ) × (o ≡ Some at)

-- the offset of the word `malloc` of a site, and that of an exit
pub record AreOffsets (g : Graph) (n : Names) (place at : ℕ × ℕ) : Type 0 where
  pub site : site_offset g n place.0 ≡ Some at.0
  pub exit : exit_offset g place.1 ≡ Some at.1
