-- What the statuses say, from the outcome and what was written.
use Rattle.std.proofs.Common.{◌≡◌, ◌⊎◌, inl, inr, ℕ, ◌≤◌, true, false, Option, None, Some, List, [], length, arith, refl, sym, ap, ◌∙◌, subst}
use Rattle.std.proofs.lemmas.List.{append-nil}
use Rattle.std.proofs.lemmas.Option.{same_Some}
use Rattle.mf_io.specs.Bytes.{Takes, WasLeft, MoreLeft}
use Rattle.memfix_engine.specs.declared.outcome.Outcome.{Outcome}
use Rattle.memfix_engine.specs.declared.outcome.Outcome.TheVariants as outcome
use Rattle.memfix_engine.specs.declared.request.Request.{Request}
use Rattle.memfix_engine.specs.declared.request.Request.TheVariants as request
use Rattle.memfix_engine.specs.Command.{Done, Due, refused, usage, alone, together, too_long, too_deep, past_limit, read_fault, memory, Noted, Cut, IsDue, Prints, CutLine, WriteFault, IsStatusOf, IsStatus, Written, Wrote, whole, output_cut, notes_cut}
use Rattle.memfix_engine.specs.Outcome.{ComesTo, OfText, status_of, output_of, notes_of, is_quiet, prints}
use Rattle.memfix_engine.specs.Notes.{limit_line, together_line}
use Rattle.memfix_engine.specs.Refusal.{source_limit}
use Rattle.memfix_engine.specs.Stream.{Stream, Took, Broke, Failed}
use Rattle.memfix_engine.proofs.StatusLemmas.{status_repaired, status_replayed, status_refused, status_too_long, status_deep, status_past, status_stuck, status_tangled, status_memory}

-- nothing is a proper part of no text
none_broke : (s : Stream) → Broke s [] → ⊥
none_broke s h = let short = h.part.short in omega arith

-- Status 0.

pub done_of : (words : Option Request) (s output notes : Stream) (Quiet : Type 0) (status : ℕ) (o : Outcome)
    → ComesTo words s o → Wrote output notes Quiet (output_of o) (notes_of o) (status_of o) status → status ≡ 0 → Done words s output notes
done_of words s output notes Quiet status o comes (output_cut six broke quiet) is = absurd (let no : ⊥ = omega (arith, six, is) in no)
done_of words s output notes Quiet status o comes (notes_cut six took broke) is = absurd (let no : ⊥ = omega (arith, six, is) in no)
done_of words s output notes Quiet status (outcome.Repaired text) comes (whole same took noted) is =
    subst (λ w. Done w s output notes) (sym (comes.words_ask ∙ ap Some comes.cause.0))
    (record { input = comes.input; text = text.items; read = comes.read; repairs = comes.cause.1; took = took })
done_of words s output notes Quiet status (outcome.Replayed text line) comes (whole same took noted) is =
    let r = comes.cause.0 in
    let replay = comes.cause.2 in
    subst (λ w. Done w s output notes) (sym (comes.words_ask ∙ ap Some comes.cause.1))
    (record {
      input = comes.input;
      machine = replay.machine;
      read = comes.read;
      replays = replay.replays;
      printed = subst (Took output) replay.output took;
      noted = subst (Took notes) replay.text noted;
    })
done_of words s output notes Quiet status (outcome.SourceRefused line) comes (whole same took noted) is = absurd (let no : ⊥ = omega (arith, same, is) in no)
done_of words s output notes Quiet status outcome.Usage comes (whole same took noted) is = absurd (let no : ⊥ = omega (arith, same, is) in no)
done_of words s output notes Quiet status outcome.TooLong comes (whole same took noted) is = absurd (let no : ⊥ = omega (arith, same, is) in no)
done_of words s output notes Quiet status (outcome.Deep line) comes (whole same took noted) is = absurd (let no : ⊥ = omega (arith, same, is) in no)
done_of words s output notes Quiet status (outcome.Limit l) comes (whole same took noted) is = absurd (let no : ⊥ = omega (arith, same, is) in no)
done_of words s output notes Quiet status (outcome.Alone line) comes (whole same took noted) is = absurd (let no : ⊥ = omega (arith, same, is) in no)
done_of words s output notes Quiet status outcome.Together comes (whole same took noted) is = absurd (let no : ⊥ = omega (arith, same, is) in no)
done_of words s output notes Quiet status outcome.ReadFault comes (whole same took noted) is = absurd (let no : ⊥ = omega (arith, same, is) in no)
done_of words s output notes Quiet status outcome.Memory comes (whole same took noted) is = absurd (let no : ⊥ = omega (arith, same, is) in no)

-- The other statuses: done, or a line.

-- an outcome that isn't done has its line, and that its cause
due_of : (words : Option Request) (s : Stream) (o : Outcome) → ComesTo words s o → (status_of o ≡ 0 → ⊥) → Due words s (status_of o) (notes_of o)
due_of words s (outcome.Repaired text) comes other = absurd (other refl)
due_of words s (outcome.Replayed text line) comes other = absurd (other refl)
due_of words s (outcome.SourceRefused line) comes other = refused comes
due_of words s outcome.Usage comes other = usage comes
due_of words s outcome.TooLong comes other = too_long comes
due_of words s (outcome.Deep line) comes other = too_deep comes
due_of words s (outcome.Limit l) comes other = past_limit comes
due_of words s (outcome.Alone line) comes other = alone comes
due_of words s outcome.Together comes other = together comes
due_of words s outcome.ReadFault comes other = read_fault comes
due_of words s outcome.Memory comes other = memory comes

pub noted_of : (words : Option Request) (s output notes : Stream) (Quiet : Type 0) (status : ℕ) (o : Outcome)
    → ComesTo words s o → Wrote output notes Quiet (output_of o) (notes_of o) (status_of o) status
    → (status ≡ 0 → ⊥) → (status ≡ 6 → ⊥) → Noted notes (Due words s status)
noted_of words s output notes Quiet status o comes (whole same took noted) other six = record {
  line = notes_of o;
  cause = subst (λ n. Due words s n (notes_of o)) (sym same) (due_of words s o comes (λ e. other (same ∙ e)));
  took = noted;
}
noted_of words s output notes Quiet status o comes (output_cut is broke quiet) other six = absurd (six is)
noted_of words s output notes Quiet status o comes (notes_cut is took broke) other six = absurd (six is)

-- Status 6.

-- what is due on the output is of a text
printed_of : (words : Option Request) (s output : Stream) (o : Outcome) → ComesTo words s o → Broke output (output_of o)
    → Cut output (λ text. OfText words s (λ asked bytes. Prints asked bytes text))
printed_of words s output (outcome.Repaired text) comes broke = record {
  piece = text.items;
  due = record {
    asked = request.Repair;
    words_ask = comes.words_ask ∙ ap Some comes.cause.0;
    input = comes.input;
    read = comes.read;
    cause = comes.cause.1;
  };
  broke = broke;
}
printed_of words s output (outcome.Replayed text line) comes broke = record {
  piece = text;
  due = record {
    asked = request.Replay comes.cause.0;
    words_ask = comes.words_ask ∙ ap Some comes.cause.1;
    input = comes.input;
    read = comes.read;
    cause = (comes.cause.2.machine, comes.cause.2.replays, comes.cause.2.output);
  };
  broke = broke;
}
printed_of words s output (outcome.SourceRefused line) comes broke = absurd (none_broke output broke)
printed_of words s output outcome.Usage comes broke = absurd (none_broke output broke)
printed_of words s output outcome.TooLong comes broke = absurd (none_broke output broke)
printed_of words s output (outcome.Deep line) comes broke = absurd (none_broke output broke)
printed_of words s output (outcome.Limit l) comes broke = absurd (none_broke output broke)
printed_of words s output (outcome.Alone line) comes broke = absurd (none_broke output broke)
printed_of words s output outcome.Together comes broke = absurd (none_broke output broke)
printed_of words s output outcome.ReadFault comes broke = absurd (none_broke output broke)
printed_of words s output outcome.Memory comes broke = absurd (none_broke output broke)

-- a line that was cut is due, or is that of a replay
line_of : (words : Option Request) (s output notes : Stream) (Untouched : Type 0) (o : Outcome) → ComesTo words s o
    → (prints o ≡ false → Untouched) → Took output (output_of o) → Broke notes (notes_of o)
    → (Cut notes (IsDue words s) × Untouched) ⊎ CutLine words s output notes
line_of words s output notes Untouched (outcome.Repaired text) comes untouched took broke = absurd (none_broke notes broke)
line_of words s output notes Untouched (outcome.Replayed text line) comes untouched took broke =
    let replay = comes.cause.2 in
    inr (record {
      replay = comes.cause.0;
      words_ask = comes.words_ask ∙ ap Some comes.cause.1;
      input = comes.input;
      machine = replay.machine;
      read = comes.read;
      replays = replay.replays;
      printed = subst (Took output) replay.output took;
      broke = subst (Broke notes) replay.text broke;
    })
line_of words s output notes Untouched (outcome.SourceRefused line) comes untouched took broke = inl (record { piece = _; due = (1, refused comes); broke = broke }, untouched refl)
line_of words s output notes Untouched outcome.Usage comes untouched took broke = inl (record { piece = _; due = (2, usage comes); broke = broke }, untouched refl)
line_of words s output notes Untouched outcome.TooLong comes untouched took broke = inl (record { piece = _; due = (4, too_long comes); broke = broke }, untouched refl)
line_of words s output notes Untouched (outcome.Deep line) comes untouched took broke = inl (record { piece = _; due = (4, too_deep comes); broke = broke }, untouched refl)
line_of words s output notes Untouched (outcome.Limit l) comes untouched took broke = inl (record { piece = _; due = (4, past_limit comes); broke = broke }, untouched refl)
line_of words s output notes Untouched (outcome.Alone line) comes untouched took broke = inl (record { piece = _; due = (3, alone comes); broke = broke }, untouched refl)
line_of words s output notes Untouched outcome.Together comes untouched took broke = inl (record { piece = _; due = (3, together comes); broke = broke }, untouched refl)
line_of words s output notes Untouched outcome.ReadFault comes untouched took broke = inl (record { piece = _; due = (5, read_fault comes); broke = broke }, untouched refl)
line_of words s output notes Untouched outcome.Memory comes untouched took broke = inl (record { piece = _; due = (7, memory comes); broke = broke }, untouched refl)

status_not_six : (o : Outcome) → status_of o ≡ 6 → ⊥
status_not_six (outcome.Repaired text) is = omega (arith, is)
status_not_six (outcome.Replayed text line) is = omega (arith, is)
status_not_six (outcome.SourceRefused line) is = omega (arith, is)
status_not_six outcome.Usage is = omega (arith, is)
status_not_six outcome.TooLong is = omega (arith, is)
status_not_six (outcome.Deep line) is = omega (arith, is)
status_not_six (outcome.Limit l) is = omega (arith, is)
status_not_six (outcome.Alone line) is = omega (arith, is)
status_not_six outcome.Together is = omega (arith, is)
status_not_six outcome.ReadFault is = omega (arith, is)
status_not_six outcome.Memory is = omega (arith, is)

pub fault_of : (words : Option Request) (s output notes : Stream) (Untouched Quiet : Type 0) (status : ℕ) (o : Outcome)
    → ComesTo words s o → Wrote output notes Quiet (output_of o) (notes_of o) (status_of o) status → (prints o ≡ false → Untouched)
    → status ≡ 6 → WriteFault words s output notes Untouched Quiet
fault_of words s output notes Untouched Quiet status o comes (whole same took noted) untouched is = absurd (status_not_six o (sym same ∙ is))
fault_of words s output notes Untouched Quiet status o comes (output_cut six broke quiet) untouched is = inl (printed_of words s output o comes broke, quiet)
fault_of words s output notes Untouched Quiet status o comes (notes_cut six took broke) untouched is = inr (line_of words s output notes Untouched o comes untouched took broke)

-- Exactness.

-- what holds of the text that was read holds of the bytes that were left
of_text : (words : Option Request) (s : Stream) (Cause : Request → List ℕ → Type 0) (asked : Request) (bytes : List ℕ) (status : ℕ)
    → OfText words s Cause → words ≡ Some asked → s.before ≡ Some bytes
    → ((q : Request) (b : List ℕ) → length b ≤ source_limit → Cause q b → IsStatusOf q b status) → IsStatusOf asked bytes status
of_text words s Cause asked bytes status h ask told by =
    let input : bytes ≡ h.input = subst (λ l. WasLeft l h.input) told h.read.whole in
    let same : h.asked ≡ asked = same_Some h.asked asked (sym h.words_ask ∙ ask) in
    subst (λ q. IsStatusOf q bytes status) same (subst (λ b. IsStatusOf h.asked b status) (sym input) (by h.asked h.input h.read.fits h.cause))

status_is : (words : Option Request) (s : Stream) (asked : Request) (bytes : List ℕ) (status : ℕ) (o : Outcome)
    → ComesTo words s o → status ≡ status_of o → words ≡ Some asked → s.before ≡ Some bytes → (Failed s → ⊥) → IsStatusOf asked bytes status
status_is words s asked bytes status (outcome.Repaired text) comes is ask told none =
    of_text words s _ asked bytes status comes ask told (λ q b fits h. status_repaired q b text.items status fits h is)
status_is words s asked bytes status (outcome.Replayed text line) comes is ask told none =
    of_text words s _ asked bytes status comes ask told (λ q b fits h. status_replayed q b text line.items status fits h is)
status_is words s asked bytes status (outcome.SourceRefused line) comes is ask told none =
    of_text words s _ asked bytes status comes ask told (λ q b fits h. status_refused q b h.refusal status fits h.refuses h.status is)
status_is words s asked bytes status outcome.Usage comes is ask told none = let no : Some asked ≡ None = sym ask ∙ comes.unasked in absurd (cc)
status_is words s asked bytes status outcome.TooLong comes is ask told none = status_too_long asked bytes status (subst (MoreLeft source_limit) told comes.more) is
status_is words s asked bytes status (outcome.Deep line) comes is ask told none =
    of_text words s _ asked bytes status comes ask told (λ q b fits h. status_deep q b h.at status fits h.deep is)
status_is words s asked bytes status (outcome.Limit l) comes is ask told none =
    of_text words s _ asked bytes status comes ask told (λ q b fits h. status_past q b (limit_line l) status h is)
status_is words s asked bytes status (outcome.Alone line) comes is ask told none =
    of_text words s _ asked bytes status comes ask told (λ q b fits h. status_stuck q b line.items status h is)
status_is words s asked bytes status outcome.Together comes is ask told none =
    of_text words s _ asked bytes status comes ask told (λ q b fits h. status_tangled q b together_line status h is)
status_is words s asked bytes status outcome.ReadFault comes is ask told none = absurd (none comes.failed)
status_is words s asked bytes status outcome.Memory comes is ask told none = status_memory asked bytes status is

-- without a fault, the status is that of the outcome
pub exact : (words : Option Request) (s output notes : Stream) (Quiet : Type 0) (status : ℕ) (o : Outcome)
    → ComesTo words s o → Wrote output notes Quiet (output_of o) (notes_of o) (status_of o) status
    → (asked : Request) → words ≡ Some asked → (Failed s → ⊥) → (Failed output → ⊥) → (Failed notes → ⊥)
    → (bytes : List ℕ) → s.before ≡ Some bytes → IsStatusOf asked bytes status
exact words s output notes Quiet status o comes (whole same took noted) asked ask none heard spoken bytes told = status_is words s asked bytes status o comes same ask told none
exact words s output notes Quiet status o comes (output_cut six broke quiet) asked ask none heard spoken bytes told = absurd (heard broke.failed)
exact words s output notes Quiet status o comes (notes_cut six took broke) asked ask none heard spoken bytes told = absurd (spoken broke.failed)

-- What writing leaves.

-- where nothing is written, nothing is what was appended
pub nothing_taken : (taken : Option (List ℕ)) → Takes taken taken []
nothing_taken None = tt
nothing_taken (Some bytes) = sym (append-nil bytes)

-- a text written to the output alone
pub output_alone : (output notes : Stream) (Quiet : Type 0) (text : List ℕ) (status result : ℕ)
    → Written output text status result → Took notes [] → Quiet → Wrote output notes Quiet text [] status result
output_alone output notes Quiet text status result (inl w) none quiet = whole w.0 w.1 none
output_alone output notes Quiet text status result (inr w) none quiet = output_cut w.0 w.1 quiet

-- a line written to notes, behind a text on the output
pub notes_behind : (output notes : Stream) (Quiet : Type 0) (text line : List ℕ) (status result : ℕ)
    → Took output text → Written notes line status result → Wrote output notes Quiet text line status result
notes_behind output notes Quiet text line status result took (inl w) = whole w.0 took w.1
notes_behind output notes Quiet text line status result took (inr w) = notes_cut w.0 took w.1

-- The statuses that there are, and what is left as it was.

status_among : (o : Outcome) → IsStatus (status_of o)
status_among (outcome.Repaired text) = inl refl
status_among (outcome.Replayed text line) = inl refl
status_among (outcome.SourceRefused line) = inr (inl refl)
status_among outcome.Usage = inr (inr (inl refl))
status_among outcome.TooLong = inr (inr (inr (inr (inl refl))))
status_among (outcome.Deep line) = inr (inr (inr (inr (inl refl))))
status_among (outcome.Limit l) = inr (inr (inr (inr (inl refl))))
status_among (outcome.Alone line) = inr (inr (inr (inl refl)))
status_among outcome.Together = inr (inr (inr (inl refl)))
status_among outcome.ReadFault = inr (inr (inr (inr (inr (inl refl)))))
status_among outcome.Memory = inr (inr (inr (inr (inr (inr (inr refl))))))

pub statuses_of : (output notes : Stream) (Quiet : Type 0) (status : ℕ) (o : Outcome)
    → Wrote output notes Quiet (output_of o) (notes_of o) (status_of o) status → IsStatus status
statuses_of output notes Quiet status o (whole same took noted) = subst IsStatus (sym same) (status_among o)
statuses_of output notes Quiet status o (output_cut six broke quiet) = inr (inr (inr (inr (inr (inr (inl six))))))
statuses_of output notes Quiet status o (notes_cut six took broke) = inr (inr (inr (inr (inr (inr (inl six))))))

-- words that ask for nothing come to the usage line, or to want of memory
pub other_words_of : (output notes : Stream) (Quiet : Type 0) (status : ℕ) (o : Outcome)
    → Wrote output notes Quiet (output_of o) (notes_of o) (status_of o) status → (o ≡ outcome.Usage) ⊎ (o ≡ outcome.Memory)
    → (status ≡ 2) ⊎ ((status ≡ 6) ⊎ (status ≡ 7))
other_words_of output notes Quiet status o (whole same took noted) (inl is) = inl (same ∙ ap status_of is)
other_words_of output notes Quiet status o (whole same took noted) (inr is) = inr (inr (same ∙ ap status_of is))
other_words_of output notes Quiet status o (output_cut six broke quiet) h = inr (inl six)
other_words_of output notes Quiet status o (notes_cut six took broke) h = inr (inl six)

-- a repair that is done says nothing
quiet_outcome : (words : Option Request) (s : Stream) (o : Outcome) → ComesTo words s o → words ≡ Some request.Repair → status_of o ≡ 0 → is_quiet o ≡ true
quiet_outcome words s (outcome.Repaired text) comes ask is = refl
quiet_outcome words s (outcome.Replayed text line) comes ask is =
    let same : Some (request.Replay comes.cause.0) ≡ Some request.Repair = ap Some (sym comes.cause.1) ∙ sym comes.words_ask ∙ ask in
    absurd (cc)
quiet_outcome words s (outcome.SourceRefused line) comes ask is = absurd (let no : ⊥ = omega (arith, is) in no)
quiet_outcome words s outcome.Usage comes ask is = absurd (let no : ⊥ = omega (arith, is) in no)
quiet_outcome words s outcome.TooLong comes ask is = absurd (let no : ⊥ = omega (arith, is) in no)
quiet_outcome words s (outcome.Deep line) comes ask is = absurd (let no : ⊥ = omega (arith, is) in no)
quiet_outcome words s (outcome.Limit l) comes ask is = absurd (let no : ⊥ = omega (arith, is) in no)
quiet_outcome words s (outcome.Alone line) comes ask is = absurd (let no : ⊥ = omega (arith, is) in no)
quiet_outcome words s outcome.Together comes ask is = absurd (let no : ⊥ = omega (arith, is) in no)
quiet_outcome words s outcome.ReadFault comes ask is = absurd (let no : ⊥ = omega (arith, is) in no)
quiet_outcome words s outcome.Memory comes ask is = absurd (let no : ⊥ = omega (arith, is) in no)

pub quiet_of : (words : Option Request) (s output notes : Stream) (Quiet : Type 0) (status : ℕ) (o : Outcome)
    → ComesTo words s o → Wrote output notes Quiet (output_of o) (notes_of o) (status_of o) status
    → status ≡ 0 → words ≡ Some request.Repair → is_quiet o ≡ true
quiet_of words s output notes Quiet status o comes (whole same took noted) is ask = quiet_outcome words s o comes ask (sym same ∙ is)
quiet_of words s output notes Quiet status o comes (output_cut six broke quiet) is ask = absurd (let no : ⊥ = omega (arith, six, is) in no)
quiet_of words s output notes Quiet status o comes (notes_cut six took broke) is ask = absurd (let no : ⊥ = omega (arith, six, is) in no)

-- what isn't done prints nothing
silent_outcome : (o : Outcome) → (status_of o ≡ 0 → ⊥) → prints o ≡ false
silent_outcome (outcome.Repaired text) other = absurd (other refl)
silent_outcome (outcome.Replayed text line) other = absurd (other refl)
silent_outcome (outcome.SourceRefused line) other = refl
silent_outcome outcome.Usage other = refl
silent_outcome outcome.TooLong other = refl
silent_outcome (outcome.Deep line) other = refl
silent_outcome (outcome.Limit l) other = refl
silent_outcome (outcome.Alone line) other = refl
silent_outcome outcome.Together other = refl
silent_outcome outcome.ReadFault other = refl
silent_outcome outcome.Memory other = refl

pub silent_of : (output notes : Stream) (Quiet : Type 0) (status : ℕ) (o : Outcome)
    → Wrote output notes Quiet (output_of o) (notes_of o) (status_of o) status → (status ≡ 0 → ⊥) → (status ≡ 6 → ⊥) → prints o ≡ false
silent_of output notes Quiet status o (whole same took noted) other six = silent_outcome o (λ e. other (same ∙ e))
silent_of output notes Quiet status o (output_cut is broke quiet) other six = absurd (six is)
silent_of output notes Quiet status o (notes_cut is took broke) other six = absurd (six is)
