-- What a repair of a text gives, and why a text is not repaired.
use Rattle.std.specs.Prelude.{◌≡◌, ◌<◌, ◌≤◌, ℕ, List, length}
use Rattle.c_lexer.specs.declared.token.Token.{Token}
use Rattle.c_lexer.specs.Scan.{HasTokens}
use Rattle.c_tree.specs.declared.choice.Choice.{Choice}
use Rattle.c_tree.specs.declared.program.Program.{Program}
use Rattle.c_tree.specs.Alike.{IsAlike}
use Rattle.c_tree.specs.Fill.{IsAscending, fill}
use Rattle.c_meaning.specs.Safe.{Safe, Same}
use Rattle.cover_problem.specs.declared.types.Problem.{Problem}
use Rattle.cover_problem.specs.Problem.{IsCoverOf}
use Rattle.source_patcher.specs.Edit.{edited}
use Rattle.source_patcher.specs.Reads.{Reads, ReadsWithin}
use Rattle.memfix_engine.specs.Analysis.{IsAlone, IsAnalysed, IsUncovered, PassesLimit}
use Rattle.memfix_engine.specs.Refusal.{RefusesSource, source_limit}
use Rattle.memfix_engine.specs.declared.refusal.RepairRefusal.{RepairRefusal}
use Rattle.memfix_engine.specs.declared.refusal.RepairRefusal.TheVariants as refusal
use Rattle.memfix_engine.specs.declared.refusal.SourceRefusal.{SourceRefusal}
use Rattle.memfix_engine.specs.declared.refusal.SourceRefusal.TheVariants as source

-- w is the repaired text of b: b reads as p, and a choice of puts is a cover of it; w is b edited by that choice, and reads as q,
-- which is p filled by the choice, is safe, and does the same as p; where some cover is p's own frees, the choice is that one, and
-- w is b
pub record Repairs (b w : List ℕ) : Type 0 where
  pub program : Program
  pub filled : Program
  pub problem : Problem
  pub choice : Choice
  pub read : ReadsWithin b program
  pub analysed : IsAnalysed program problem
  pub ascending : IsAscending choice
  pub cover : IsCoverOf problem choice
  pub edits : (tokens : List Token) → HasTokens b tokens → w ≡ edited b tokens program choice
  pub reads : Reads w filled
  pub alike : IsAlike filled (fill program choice)
  pub safe : Safe filled
  pub same : Same program filled
  pub own : (s : Choice) → IsAscending s → IsCoverOf problem s → IsAlike (fill program s) program → (choice ≡ s) × (w ≡ b)

-- the text is not too long and reads as a program of which this holds
pub record OfProgram (b : List ℕ) (Cause : Program → Type 0) : Type 0 where
  pub fits : length b ≤ source_limit
  pub program : Program
  pub read : ReadsWithin b program
  pub cause : Cause program

-- why a text is not repaired: it is too long, it is refused as a source, a count passes its limit, an object can't be freed, or no
-- choice frees all; nothing is said of want of memory
abbrev pub RefusesRepair : List ℕ → RepairRefusal → Type 0
RefusesRepair b refusal.TooLong = source_limit < length b
RefusesRepair b (refusal.Source r) = (length b ≤ source_limit) × RefusesSource b r × (r ≡ source.Memory → ⊥)
RefusesRepair b (refusal.Limit l) = OfProgram b (λ p. PassesLimit p l)
RefusesRepair b (refusal.Alone site exit) = OfProgram b (λ p. IsAlone p site exit)
RefusesRepair b refusal.Together = OfProgram b IsUncovered
RefusesRepair b refusal.Memory = Unit {0}

-- want of memory is one answer alone
abbrev pub refusal_of : SourceRefusal → RepairRefusal
refusal_of source.Memory = refusal.Memory
refusal_of r = refusal.Source r
