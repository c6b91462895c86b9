-- A source or a sink before and after a call.
use Rattle.std.specs.Prelude.{ℕ, Option, List}
use Rattle.mf_io.specs.Bytes.{Takes}
use Rattle.mf_io.specs.Faults.{Rose}
use Rattle.mf_io.specs.Whole.{TakesPart}

-- what a source has left, or a sink has taken, where it tells that, and how often it failed
pub record Stream : Type 0 where
  pub before : Option (List ℕ)
  pub after : Option (List ℕ)
  pub faults : ℕ
  pub faults_after : ℕ

abbrev pub stream : (before after : Option (List ℕ)) (faults faults_after : ℕ) → Stream
stream before after faults faults_after = record { before = before; after = after; faults = faults; faults_after = faults_after }

-- it failed in the call
abbrev pub Failed : Stream → Type 0
Failed s = Rose s.faults s.faults_after

-- the piece was appended to the sink
abbrev pub Took : Stream → List ℕ → Type 0
Took s piece = Takes s.before s.after piece

-- the sink failed, and took the front of the piece and not the whole
pub record Broke (s : Stream) (piece : List ℕ) : Type 0 where
  pub part : TakesPart s.before s.after piece
  pub failed : Failed s
