-- What a whole read or write leaves where it is refused.
use Rattle.std.specs.Prelude.{ℕ, ◌+◌, ◌<◌, ◌≤◌, Option, List, length, take}
use Rattle.mf_io.specs.Bytes.{Gives, Takes}
use Rattle.mf_io.specs.declared.whole.ReadRefusal.{ReadRefusal}
use Rattle.mf_io.specs.declared.whole.ReadRefusal.TheVariants.{Failed, TooLong, Memory}

-- how many bytes came before this refusal
abbrev pub CameBefore : ReadRefusal → (limit count : ℕ) → Type 0
CameBefore Failed limit count = count ≤ limit
CameBefore TooLong limit count = (limit < count) × (count ≤ limit + 4096)
CameBefore Memory limit count = count ≤ limit

-- the bytes that came before this refusal
pub record Refuses (limit : ℕ) (before after : Option (List ℕ)) (refusal : ReadRefusal) : Type 0 where
  pub piece : List ℕ
  pub gives : Gives before after piece
  pub came : CameBefore refusal limit (length piece)

-- the front of the piece, and not the whole, was taken
pub record TakesPart (before after : Option (List ℕ)) (piece : List ℕ) : Type 0 where
  pub count : ℕ
  pub short : count < length piece
  pub takes : Takes before after (take count piece)
