-- What the command does: its statuses, each with its cause and what was written.
use Rattle.std.specs.Prelude.{◌≡◌, ◌<◌, ◌≤◌, ◌⊎◌, ℕ, Option, None, Some, List, length, Err}
use Rattle.c_lexer.specs.declared.refusal.LexRefusal.{LexRefusal}
use Rattle.c_lexer.specs.declared.refusal.LexRefusal.TheVariants.{Depth}
use Rattle.c_lexer.specs.declared.token.Tokens.{Tokens}
use Rattle.c_lexer.specs.Outcome.{AreTokens, Answers}
use Rattle.c_meaning.specs.declared.machine.Machine.{Machine}
use Rattle.c_tree.specs.declared.choice.Choice.{Choice}
use Rattle.c_tree.specs.declared.limits.Limit.{Limit}
use Rattle.c_tree.specs.declared.program.Program.{Program}
use Rattle.cover_problem.specs.Problem.{IsCoverOf}
use Rattle.cover_problem.specs.declared.types.Problem.{Problem}
use Rattle.memfix_engine.specs.Analysis.{IsAnalysed, PassesLimit}
use Rattle.memfix_engine.specs.declared.request.Replay.{Replay}
use Rattle.memfix_engine.specs.declared.request.Request.{Request}
use Rattle.memfix_engine.specs.declared.request.Request.TheVariants as request
use Rattle.memfix_engine.specs.Notes.{replay_line}
use Rattle.memfix_engine.specs.Outcome.{IsRead, OfText, IsRefused, IsDeep, IsPast, IsStuck, IsTangled, IsUsage, IsTooLong, IsReadFault, IsMemory, status_of_lex}
use Rattle.source_patcher.specs.Reads.{HasProgram, ReadsWithin}
use Rattle.memfix_engine.specs.Refusal.{source_limit}
use Rattle.memfix_engine.specs.Repair.{Repairs}
use Rattle.memfix_engine.specs.Replay.{Replays}
use Rattle.memfix_engine.specs.Stream.{Stream, Took, Broke}

-- Status 0.

-- the repair of the source's bytes was appended to the output
pub record Repaired (source output : Stream) : Type 0 where
  pub input : List ℕ
  pub text : List ℕ
  pub read : IsRead source input
  pub repairs : Repairs input text
  pub took : Took output text

-- what the run printed was appended to the output, and its line to notes
pub record Replayed (r : Replay) (source output notes : Stream) : Type 0 where
  pub input : List ℕ
  pub machine : Machine
  pub read : IsRead source input
  pub replays : Replays input r.input r.fails r.steps machine
  pub printed : Took output machine.output
  pub noted : Took notes (replay_line input machine)

-- what the words ask for was done
abbrev pub Done : Option Request → (source output notes : Stream) → Type 0
Done None source output notes = ⊥
Done (Some request.Repair) source output notes = Repaired source output
Done (Some (request.Replay r)) source output notes = Replayed r source output notes

-- The other statuses but 6.

-- the cause of a status, and its line
pub data Due (words : Option Request) (source : Stream) : ℕ → List ℕ → Type 0 where
  refused : {line : List ℕ} → OfText words source (λ asked bytes. IsRefused bytes line) → Due words source 1 line
  usage : {line : List ℕ} → IsUsage words line → Due words source 2 line
  alone : {line : List ℕ} → OfText words source (λ asked bytes. IsStuck asked bytes line) → Due words source 3 line
  together : {line : List ℕ} → OfText words source (λ asked bytes. IsTangled asked bytes line) → Due words source 3 line
  too_long : {line : List ℕ} → IsTooLong words source line → Due words source 4 line
  too_deep : {line : List ℕ} → OfText words source (λ asked bytes. IsDeep bytes line) → Due words source 4 line
  past_limit : {line : List ℕ} → OfText words source (λ asked bytes. IsPast asked bytes line) → Due words source 4 line
  read_fault : {line : List ℕ} → IsReadFault words source line → Due words source 5 line
  memory : {line : List ℕ} → IsMemory line → Due words source 7 line

-- a line was appended to notes, and this is its cause
pub record Noted (notes : Stream) (Cause : List ℕ → Type 0) : Type 0 where
  pub line : List ℕ
  pub cause : Cause line
  pub took : Took notes line

-- the statuses: done, source refused, usage, uncovered, limit, read fault, write fault, want of memory
abbrev pub IsStatus : ℕ → Type 0
IsStatus n = (n ≡ 0) ⊎ ((n ≡ 1) ⊎ ((n ≡ 2) ⊎ ((n ≡ 3) ⊎ ((n ≡ 4) ⊎ ((n ≡ 5) ⊎ ((n ≡ 6) ⊎ (n ≡ 7)))))))

-- Status 6.

-- the sink failed at a piece of which this holds
pub record Cut (s : Stream) (IsDue : List ℕ → Type 0) : Type 0 where
  pub piece : List ℕ
  pub due : IsDue piece
  pub broke : Broke s piece

-- the text may be written for such a request on a text of these bytes
abbrev pub Prints : Request → (bytes text : List ℕ) → Type 0
Prints request.Repair bytes text = Repairs bytes text
Prints (request.Replay r) bytes text = (m : Machine) × Replays bytes r.input r.fails r.steps m × (text ≡ m.output)

-- a line is due, for some status
abbrev pub IsDue : (words : Option Request) (source : Stream) → List ℕ → Type 0
IsDue words source line = (status : ℕ) × Due words source status line

-- all that the run printed was appended to the output, and notes failed at its line
pub record CutLine (words : Option Request) (source output notes : Stream) : Type 0 where
  pub replay : Replay
  pub words_ask : words ≡ Some (request.Replay replay)
  pub input : List ℕ
  pub machine : Machine
  pub read : IsRead source input
  pub replays : Replays input replay.input replay.fails replay.steps machine
  pub printed : Took output machine.output
  pub broke : Broke notes (replay_line input machine)

-- a write failed, and what had not been written then is as it was
abbrev pub WriteFault : (words : Option Request) (source output notes : Stream) (Untouched Quiet : Type 0) → Type 0
WriteFault words source output notes Untouched Quiet =
    (Cut output (λ text. OfText words source (λ asked bytes. Prints asked bytes text)) × Quiet)
    ⊎ ((Cut notes (IsDue words source) × Untouched) ⊎ CutLine words source output notes)

-- Exactness.

-- the status is this, or that of want of memory
abbrev pub IsOrMemory : (due status : ℕ) → Type 0
IsOrMemory due status = (status ≡ due) ⊎ (status ≡ 7)

-- the status of a repair of this program: 4 where a count passes its limit; where no count does, 0 where some choice is a cover,
-- and 3 where none is
pub record IsRepairStatus (p : Program) (status : ℕ) : Type 0 where
  pub past_limit : (l : Limit) → PassesLimit p l → IsOrMemory 4 status
  pub covered : (q : Problem) → IsAnalysed p q → (s : Choice) → IsCoverOf q s → IsOrMemory 0 status
  pub uncovered : (q : Problem) → IsAnalysed p q → ((s : Choice) → IsCoverOf q s → ⊥) → IsOrMemory 3 status

-- the status of what is asked of this program; a replay is done
abbrev pub IsProgramStatus : Request → Program → ℕ → Type 0
IsProgramStatus request.Repair p status = IsRepairStatus p status
IsProgramStatus (request.Replay r) p status = IsOrMemory 0 status

-- the status for these bytes where nothing fails; want of memory may come in its place
pub record IsStatusOf (asked : Request) (bytes : List ℕ) (status : ℕ) : Type 0 where
  pub too_long : source_limit < length bytes → IsOrMemory 4 status
  pub lexical : length bytes ≤ source_limit → (refusal : LexRefusal) → Answers bytes (Err refusal) → status_of_lex refusal ≡ 1 → IsOrMemory 1 status
  pub deep : length bytes ≤ source_limit → (at : ℕ) → Answers bytes (Err (Depth at)) → IsOrMemory 4 status
  pub no_program : length bytes ≤ source_limit → (tokens : Tokens) → AreTokens bytes tokens → ((p : Program) → HasProgram tokens p → ⊥) → IsOrMemory 1 status
  pub program : length bytes ≤ source_limit → (p : Program) → ReadsWithin bytes p → IsProgramStatus asked p status

-- What writing leaves.

-- the piece was appended and the status is this, or the sink failed and the status is 6
abbrev pub Written : (s : Stream) (piece : List ℕ) (status result : ℕ) → Type 0
Written s piece status result = ((result ≡ status) × Took s piece) ⊎ ((result ≡ 6) × Broke s piece)

-- the text was appended to the output and then the line to notes, and the status is this; or one of them failed, and the
-- status is 6
pub data Wrote (output notes : Stream) (Quiet : Type 0) (text line : List ℕ) (status result : ℕ) : Type 0 where
  whole : result ≡ status → Took output text → Took notes line → Wrote output notes Quiet text line status result
  output_cut : result ≡ 6 → Broke output text → Quiet → Wrote output notes Quiet text line status result
  notes_cut : result ≡ 6 → Took output text → Broke notes line → Wrote output notes Quiet text line status result
