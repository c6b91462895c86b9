-- What a replay of a text gives, and the refusals of texts that are not replayed.
use Rattle.std.specs.Prelude.{◌≡◌, ◌<◌, ◌≤◌, ℕ, Bool, List, length}
use Rattle.c_meaning.specs.Safe.{run}
use Rattle.c_meaning.specs.declared.machine.Machine.{Machine}
use Rattle.c_tree.specs.declared.program.Program.{Program}
use Rattle.source_patcher.specs.Reads.{ReadsWithin}
use Rattle.memfix_engine.specs.Refusal.{RefusesSource, source_limit}
use Rattle.memfix_engine.specs.declared.refusal.ReplayRefusal.{ReplayRefusal}
use Rattle.memfix_engine.specs.declared.refusal.ReplayRefusal.TheVariants.{TooLong, Source, Memory}
use Rattle.memfix_engine.specs.declared.refusal.SourceRefusal.{SourceRefusal}
use Rattle.memfix_engine.specs.declared.refusal.SourceRefusal.TheVariants as source

-- the machine of the text's program after n steps, with that input and those failures of malloc
pub record Replays (b input : List ℕ) (fails : List Bool) (n : ℕ) (m : Machine) : Type 0 where
  pub program : Program
  pub reads : ReadsWithin b program
  pub is : m ≡ run program input fails n

-- too long, or refused as a source for another cause than want of memory
abbrev pub RefusesReplay : List ℕ → ReplayRefusal → Type 0
RefusesReplay b TooLong = source_limit < length b
RefusesReplay b (Source r) = (length b ≤ source_limit) × RefusesSource b r × (r ≡ source.Memory → ⊥)
RefusesReplay b Memory = Unit {0}

-- want of memory is one answer alone
abbrev pub refusal_of : SourceRefusal → ReplayRefusal
refusal_of source.Memory = Memory
refusal_of r = Source r
