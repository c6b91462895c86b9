-- What a call of the command comes to, before anything is written.
use Rattle.std.specs.Prelude.{◌≡◌, ◌+◌, ◌<◌, ◌≤◌, ℕ, Bool, true, false, Option, None, Some, List, [], length, Err}
use Rattle.c_lexer.specs.declared.refusal.LexRefusal.{LexRefusal}
use Rattle.c_lexer.specs.declared.refusal.LexRefusal.TheVariants as lex
use Rattle.c_lexer.specs.Outcome.{Answers}
use Rattle.c_meaning.specs.declared.machine.Machine.{Machine}
use Rattle.c_tree.specs.declared.limits.Limit.{Limit}
use Rattle.mf_io.specs.declared.whole.ReadRefusal.{ReadRefusal}
use Rattle.mf_io.specs.declared.whole.ReadRefusal.TheVariants as refusal
use Rattle.mf_io.specs.Bytes.{Gives, Ended, WasLeft, MoreLeft}
use Rattle.memfix_engine.specs.declared.outcome.Outcome.{Outcome}
use Rattle.memfix_engine.specs.declared.outcome.Outcome.TheVariants as outcome
use Rattle.memfix_engine.specs.declared.refusal.SourceRefusal.{SourceRefusal}
use Rattle.memfix_engine.specs.declared.refusal.SourceRefusal.TheVariants as source
use Rattle.memfix_engine.specs.declared.request.Replay.{Replay}
use Rattle.memfix_engine.specs.declared.request.Request.{Request}
use Rattle.memfix_engine.specs.declared.request.Request.TheVariants as request
use Rattle.memfix_engine.specs.Analysis.{IsAlone, IsUncovered, PassesLimit}
use Rattle.memfix_engine.specs.Notes.{line_at, depth_text, source_line, limit_line, alone_line, together_line, replay_line, usage_line, too_long_line, read_fault_line, memory_line}
use Rattle.memfix_engine.specs.Refusal.{RefusesSource, source_limit}
use Rattle.memfix_engine.specs.Repair.{OfProgram, Repairs}
use Rattle.memfix_engine.specs.Replay.{Replays}
use Rattle.memfix_engine.specs.Stream.{Stream, Failed}

-- What a text comes to.

-- the printed text and the line are those of a replay of the text
pub record IsReplay (r : Replay) (bytes printed line : List ℕ) : Type 0 where
  pub machine : Machine
  pub replays : Replays bytes r.input r.fails r.steps machine
  pub output : printed ≡ machine.output
  pub text : line ≡ replay_line bytes machine

abbrev pub status_of_lex : LexRefusal → ℕ
status_of_lex (lex.Depth at) = 4
status_of_lex lex.Memory = 7
status_of_lex refusal = 1

-- a nest that is too deep is a limit; other refusals but want of memory are of the source
abbrev pub status_of_source : SourceRefusal → ℕ
status_of_source (source.Lex refusal) = status_of_lex refusal
status_of_source (source.Parse refusal) = 1
status_of_source (source.Resolve refusal) = 1
status_of_source source.Memory = 7

-- the text is refused as a source, and this is its line
pub record IsRefused (bytes line : List ℕ) : Type 0 where
  pub refusal : SourceRefusal
  pub refuses : RefusesSource bytes refusal
  pub status : status_of_source refusal ≡ 1
  pub text : line ≡ source_line bytes refusal

-- the nest is too deep at a token of the text, and this is its line
pub record IsDeep (bytes line : List ℕ) : Type 0 where
  pub at : ℕ
  pub deep : Answers bytes (Err (lex.Depth at))
  pub text : line ≡ line_at bytes at depth_text

-- a repair is asked for, a count of the text's program passes its limit, and this is its line
pub record IsPast (asked : Request) (bytes line : List ℕ) : Type 0 where
  pub asks : asked ≡ request.Repair
  pub limit : Limit
  pub passes : OfProgram bytes (λ p. PassesLimit p limit)
  pub text : line ≡ limit_line limit

-- a repair is asked for, no put may free an object of the text's program on the way to some exit, and this is its line
pub record IsStuck (asked : Request) (bytes line : List ℕ) : Type 0 where
  pub asks : asked ≡ request.Repair
  pub site : ℕ
  pub exit : ℕ
  pub alone : OfProgram bytes (λ p. IsAlone p site exit)
  pub text : line ≡ alone_line bytes site exit

-- a repair is asked for, no choice of puts covers the text's program, and this is its line
pub record IsTangled (asked : Request) (bytes line : List ℕ) : Type 0 where
  pub asks : asked ≡ request.Repair
  pub uncovered : OfProgram bytes IsUncovered
  pub text : line ≡ together_line

-- what is asked for does this with a text that was read to its end
abbrev pub ComesOf : Request → List ℕ → Outcome → Type 0
ComesOf asked bytes (outcome.Repaired text) = (asked ≡ request.Repair) × Repairs bytes text.items
ComesOf asked bytes (outcome.Replayed printed line) = (r : Replay) × (asked ≡ request.Replay r) × IsReplay r bytes printed line.items
ComesOf asked bytes (outcome.SourceRefused line) = IsRefused bytes line.items
ComesOf asked bytes outcome.Usage = ⊥
ComesOf asked bytes outcome.TooLong = source_limit < length bytes
ComesOf asked bytes (outcome.Deep line) = IsDeep bytes line.items
ComesOf asked bytes (outcome.Limit l) = IsPast asked bytes (limit_line l)
ComesOf asked bytes (outcome.Alone line) = IsStuck asked bytes line.items
ComesOf asked bytes outcome.Together = IsTangled asked bytes together_line
ComesOf asked bytes outcome.ReadFault = ⊥
ComesOf asked bytes outcome.Memory = Unit {0}

-- the outcome of a source that was not read to its end
abbrev pub outcome_of_refusal : ReadRefusal → Outcome
outcome_of_refusal refusal.Failed = outcome.ReadFault
outcome_of_refusal refusal.TooLong = outcome.TooLong
outcome_of_refusal refusal.Memory = outcome.Memory

-- What a call comes to, from the words and the source.

-- the source was read to its end, and gave these bytes
pub record IsRead (s : Stream) (bytes : List ℕ) : Type 0 where
  pub gives : Gives s.before s.after bytes
  pub ended : Ended s.after
  pub whole : WasLeft s.before bytes
  pub fits : length bytes ≤ source_limit

-- what came from the source was at most 4,096 bytes more than the limit, where it tells its bytes
pub record IsWithin (left left' : Option (List ℕ)) : Type 0 where
  pub piece : List ℕ
  pub gives : Gives left left' piece
  pub few : length piece ≤ source_limit + 4096

-- the words ask for something, the source was read to its end, and this holds of what is asked and of its bytes
pub record OfText (words : Option Request) (s : Stream) (Cause : Request → List ℕ → Type 0) : Type 0 where
  pub asked : Request
  pub words_ask : words ≡ Some asked
  pub input : List ℕ
  pub read : IsRead s input
  pub cause : Cause asked input

-- the words ask for nothing that is offered
pub record IsUsage (words : Option Request) (line : List ℕ) : Type 0 where
  pub unasked : words ≡ None
  pub text : line ≡ usage_line

-- more bytes than the limit came from the source
pub record IsTooLong (words : Option Request) (s : Stream) (line : List ℕ) : Type 0 where
  pub asked : Request
  pub words_ask : words ≡ Some asked
  pub input : List ℕ
  pub gives : Gives s.before s.after input
  pub long : source_limit < length input
  pub more : MoreLeft source_limit s.before
  pub text : line ≡ too_long_line

-- the source failed, and its bytes up to the fault were not too many
pub record IsReadFault (words : Option Request) (s : Stream) (line : List ℕ) : Type 0 where
  pub asked : Request
  pub words_ask : words ≡ Some asked
  pub input : List ℕ
  pub gives : Gives s.before s.after input
  pub fits : length input ≤ source_limit
  pub failed : Failed s
  pub text : line ≡ read_fault_line

-- for want of memory; it has no cause
abbrev pub IsMemory : List ℕ → Type 0
IsMemory line = line ≡ memory_line

-- the outcome of these words, with what was done to the source
abbrev pub ComesTo : (words : Option Request) (s : Stream) → Outcome → Type 0
ComesTo words s (outcome.Repaired text) = OfText words s (λ asked bytes. ComesOf asked bytes (outcome.Repaired text))
ComesTo words s (outcome.Replayed printed line) = OfText words s (λ asked bytes. ComesOf asked bytes (outcome.Replayed printed line))
ComesTo words s (outcome.SourceRefused line) = OfText words s (λ asked bytes. ComesOf asked bytes (outcome.SourceRefused line))
ComesTo words s outcome.Usage = IsUsage words usage_line
ComesTo words s outcome.TooLong = IsTooLong words s too_long_line
ComesTo words s (outcome.Deep line) = OfText words s (λ asked bytes. ComesOf asked bytes (outcome.Deep line))
ComesTo words s (outcome.Limit l) = OfText words s (λ asked bytes. ComesOf asked bytes (outcome.Limit l))
ComesTo words s (outcome.Alone line) = OfText words s (λ asked bytes. ComesOf asked bytes (outcome.Alone line))
ComesTo words s outcome.Together = OfText words s (λ asked bytes. ComesOf asked bytes outcome.Together)
ComesTo words s outcome.ReadFault = IsReadFault words s read_fault_line
ComesTo words s outcome.Memory = IsMemory memory_line

-- What is written.

abbrev pub status_of : Outcome → ℕ
status_of (outcome.Repaired text) = 0
status_of (outcome.Replayed printed line) = 0
status_of (outcome.SourceRefused line) = 1
status_of outcome.Usage = 2
status_of outcome.TooLong = 4
status_of (outcome.Deep line) = 4
status_of (outcome.Limit l) = 4
status_of (outcome.Alone line) = 3
status_of outcome.Together = 3
status_of outcome.ReadFault = 5
status_of outcome.Memory = 7

-- what is due on the output
abbrev pub output_of : Outcome → List ℕ
output_of (outcome.Repaired text) = text.items
output_of (outcome.Replayed printed line) = printed
output_of _ = []

-- what is due on notes
abbrev pub notes_of : Outcome → List ℕ
notes_of (outcome.Repaired text) = []
notes_of (outcome.Replayed printed line) = line.items
notes_of (outcome.SourceRefused line) = line.items
notes_of outcome.Usage = usage_line
notes_of outcome.TooLong = too_long_line
notes_of (outcome.Deep line) = line.items
notes_of (outcome.Limit l) = limit_line l
notes_of (outcome.Alone line) = line.items
notes_of outcome.Together = together_line
notes_of outcome.ReadFault = read_fault_line
notes_of outcome.Memory = memory_line

-- nothing is due on notes
abbrev pub is_quiet : Outcome → Bool
is_quiet (outcome.Repaired text) = true
is_quiet _ = false

-- something may be due on the output
abbrev pub prints : Outcome → Bool
prints (outcome.Repaired text) = true
prints (outcome.Replayed printed line) = true
prints _ = false
