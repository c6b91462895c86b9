-- What makes a repair, and that what refuses one excludes it.
use Rattle.std.proofs.Common.{◌≡◌, ℕ, ◌≤◌, List, length, Result, Ok, Err, IfErr, IsErrAnd, arith, refl, ap, sym, subst, ◌∙◌}
use Rattle.c_lexer.specs.declared.token.Token.{Token}
use Rattle.c_lexer.specs.Scan.{HasTokens}
use Rattle.c_tree.specs.Alike.{IsAlike}
use Rattle.c_tree.specs.Fill.{IsAscending, fill}
use Rattle.c_tree.specs.WellFormed.{IsWellFormed}
use Rattle.c_tree.specs.declared.choice.Choice.{Choice}
use Rattle.c_tree.specs.declared.program.Program.{Program}
use Rattle.c_meaning.specs.Safe.{Safe}
use Rattle.c_meaning.proofs.AlikeRuns.{safe_alike}
use Rattle.c_meaning.proofs.FreesApart.{same_repair}
use Rattle.cover_problem.specs.declared.types.Problem.{Problem}
use Rattle.cover_problem.specs.Problem.{IsCoverOf}
use Rattle.source_patcher.specs.Edit.{edited}
use Rattle.source_patcher.specs.InScope.{AreInScope, HaveGaps}
use Rattle.source_patcher.specs.Reads.{ReadsWithin}
use Rattle.source_patcher.specs.ReadsBack.{ReadsBack}
use Rattle.memfix_engine.specs.declared.analysis.Analysis.{Analysis}
use Rattle.memfix_engine.specs.declared.refusal.RepairRefusal.{RepairRefusal}
use Rattle.memfix_engine.specs.declared.refusal.RepairRefusal.TheVariants as refusal
use Rattle.memfix_engine.specs.declared.refusal.SourceRefusal.{SourceRefusal}
use Rattle.memfix_engine.specs.declared.refusal.SourceRefusal.TheVariants as source
use Rattle.memfix_engine.specs.Analysing.{IsAnalysis}
use Rattle.memfix_engine.specs.Analysis.{IsAlone, IsAnalysed, IsUncovered, PassesLimit}
use Rattle.memfix_engine.specs.Choosing.{IsChosenFor, RefusesChoice}
use Rattle.memfix_engine.specs.OwnFrees.{AreOwn}
use Rattle.memfix_engine.specs.Refusal.{RefusesSource, source_limit}
use Rattle.memfix_engine.specs.Repair.{OfProgram, RefusesRepair, Repairs, refusal_of}
use Rattle.memfix_engine.specs.Repairing.{RefusesProgram}
use Rattle.memfix_engine.proofs.AloneOffsets.{alone_uncovered}
use Rattle.memfix_engine.proofs.CoverScope.{named_in_scope}
use Rattle.memfix_engine.proofs.CoversAgree.{covers_agree}
use Rattle.memfix_engine.proofs.LimitsAgree.{analysed_keeps}
use Rattle.memfix_engine.proofs.NamedPuts.{named_gaps}
use Rattle.memfix_engine.proofs.OwnText.{own_text}
use Rattle.memfix_engine.proofs.Certified.{named_puts}
use Rattle.memfix_engine.proofs.OneProgram.{one_program}
use Rattle.memfix_engine.proofs.ReadsLemmas.{refused_source}

-- a repair

-- an analysis gives the cover problem, with all limits kept
analysed_of : (p : Program) (a : Analysis) → IsAnalysis p a → IsAnalysed p a.problem
analysed_of p a is = record {
  few_states = record { small = is.small; facts = a.facts; are = is.facts; few = is.few_states };
  problem = record { facts = a.facts; are = is.facts; derived = is.derived; problem = is.problem };
  few_clauses = is.few_clauses;
}

-- the tokens of a text that reads
tokens_within : (b : List ℕ) (p : Program) → (read : ReadsWithin b p) → HasTokens b read.tokens.list
tokens_within b p read = record { last_comment = read.tokens.last_comment; reads = read.are.reads }

-- the puts of a cover are in scope
pub cover_in_scope : (p : Program) (a : Analysis) (s : Choice) → IsWellFormed p → IsAnalysis p a → IsCoverOf a.problem s → AreInScope p s.puts
cover_in_scope p a s well is cover = named_in_scope p s.puts well (named_puts p a s is cover)

-- and their gaps are some of the program's
pub cover_has_gaps : (p : Program) (a : Analysis) (s : Choice) → IsWellFormed p → IsAnalysis p a → IsCoverOf a.problem s → HaveGaps p s.puts
cover_has_gaps p a s well is cover = named_gaps p s.puts well (named_puts p a s is cover)

-- a cover that is the program's own frees is chosen, and leaves the text as it is
kept : (b w : List ℕ) (p : Program) (a : Analysis) (s t : Choice) → ReadsWithin b p → IsWellFormed p → IsAnalysis p a → IsChosenFor p a.problem s
    → ((tokens : List Token) → HasTokens b tokens → w ≡ edited b tokens p s) → IsAscending t → IsCoverOf a.problem t → IsAlike (fill p t) p → (s ≡ t) × (w ≡ b)
kept b w p a s t read well is chosen edits up cover alike =
    let own : AreOwn p t = record { ascending = up; gaps = cover_has_gaps p a t well is cover; alike = alike } in
    let same : s ≡ t = chosen.own t own cover in
    let tokens = read.tokens.list in
    let text : w ≡ edited b tokens p s = edits tokens (tokens_within b p read) in
    (same, text ∙ ap (λ (c : Choice). edited b tokens p c) same ∙ own_text p t b tokens alike)

-- the text that a chosen cover makes repairs the text that was read
pub repaired : (b w : List ℕ) (p : Program) (a : Analysis) (s : Choice) → ReadsWithin b p → IsWellFormed p → IsAnalysis p a → IsChosenFor p a.problem s → Safe (fill p s)
    → ((tokens : List Token) → HasTokens b tokens → w ≡ edited b tokens p s) → ReadsBack w p s → Repairs b w
repaired b w p a s read well is chosen safe edits back =
    let safe_back : Safe back.program = safe_alike (fill p s) back.program (sym back.alike) safe in
    record {
      program = p;
      filled = back.program;
      problem = a.problem;
      choice = s;
      read = read;
      analysed = analysed_of p a is;
      ascending = chosen.ascending;
      cover = chosen.cover;
      edits = edits;
      reads = back.reads;
      alike = back.alike;
      safe = safe_back;
      same = same_repair p back.program s back.alike safe_back;
      own = λ t up cover alike. kept b w p a s t read well is chosen edits up cover alike;
    }

-- refusals

-- what refuses the program of a text refuses its repair
program_refused : (b : List ℕ) (p : Program) (r : RepairRefusal) → length b ≤ source_limit → ReadsWithin b p → RefusesProgram p r → RefusesRepair b r
program_refused b p refusal.TooLong fits read h = absurd h
program_refused b p (refusal.Source r) fits read h = absurd h
program_refused b p (refusal.Limit l) fits read h = record { fits = fits; program = p; read = read; cause = h }
program_refused b p (refusal.Alone site exit) fits read h = record { fits = fits; program = p; read = read; cause = h }
program_refused b p refusal.Together fits read h = record { fits = fits; program = p; read = read; cause = h }
program_refused b p refusal.Memory fits read h = tt

-- what refuses the choice refuses the program
choice_program : (p : Program) (r : RepairRefusal) → RefusesChoice p r → RefusesProgram p r
choice_program p refusal.TooLong h = absurd h
choice_program p (refusal.Source r) h = absurd h
choice_program p (refusal.Limit l) h = absurd h
choice_program p (refusal.Alone site exit) h = h
choice_program p refusal.Together h = h
choice_program p refusal.Memory h = tt

-- and so does an answer that hands it on
pub choice_refused : {A : Type 0} (p : Program) (x : Result A RepairRefusal) (r : RepairRefusal) → IsErrAnd x (λ y. y ≡ r) → RefusesChoice p r → IfErr x (RefusesProgram p)
choice_refused p (Ok a) r is h = tt
choice_refused p (Err y) r is h = subst (RefusesProgram p) (sym is) (choice_program p r h)

-- want of memory refuses any program
pub memory_refused : {A : Type 0} (p : Program) (x : Result A RepairRefusal) → IsErrAnd x (λ y. y ≡ refusal.Memory) → IfErr x (RefusesProgram p)
memory_refused p (Ok a) is = tt
memory_refused p (Err y) is = subst (RefusesProgram p) (sym is) tt

-- an answer that hands on what refuses the program of a text
pub text_refused : {A : Type 0} (b : List ℕ) (p : Program) (x : Result A RepairRefusal) (r : RepairRefusal) → length b ≤ source_limit → ReadsWithin b p → IsErrAnd x (λ y. y ≡ r) → RefusesProgram p r
    → IfErr x (RefusesRepair b)
text_refused b p (Ok a) r fits read is h = tt
text_refused b p (Err y) r fits read is h = subst (RefusesRepair b) (sym is) (program_refused b p r fits read h)

-- what refuses a source refuses its repair
pub source_refused : (b : List ℕ) (r : SourceRefusal) → length b ≤ source_limit → RefusesSource b r → RefusesRepair b (refusal_of r)
source_refused b (source.Lex r) fits h = (fits, h, λ e. cc e)
source_refused b (source.Parse r) fits h = (fits, h, λ e. cc e)
source_refused b (source.Resolve r) fits h = (fits, h, λ e. cc e)
source_refused b source.Memory fits h = tt

-- a cause of its program is one of any program that it reads as
cause_here : (Cause : Program → Type 0) (b : List ℕ) (p : Program) → OfProgram b Cause → ReadsWithin b p → Cause p
cause_here Cause b p h read = subst Cause (one_program b h.program p h.read read) h.cause

-- an object that can't be freed leaves no cover
none_beside : (p : Program) (site exit : ℕ) (q : Problem) (s : Choice) → IsAlone p site exit → IsAnalysed p q → IsCoverOf q s → ⊥
none_beside p site exit q s h analysed cover = alone_uncovered h.problem h.place s h.alone (covers_agree p q h.problem s analysed.problem h.analysed.problem cover)

-- nor does a problem that has none
none_at_all : (p : Program) (q : Problem) (s : Choice) → IsUncovered p → IsAnalysed p q → IsCoverOf q s → ⊥
none_at_all p q s h analysed cover = h.none_covers s (covers_agree p q h.problem s analysed.problem h.analysed.problem cover)

-- what is refused, and not for want of memory, is too long, or reads as no program with a cover within the limits
pub refused_only : (b : List ℕ) (r : RepairRefusal) → RefusesRepair b r → (r ≡ refusal.Memory → ⊥) → length b ≤ source_limit → (p : Program) → ReadsWithin b p
    → (q : Problem) → IsAnalysed p q → (s : Choice) → IsCoverOf q s → ⊥
refused_only b refusal.TooLong h other fits p read q analysed s cover = omega (arith, h, fits)
refused_only b (refusal.Source r) h other fits p read q analysed s cover = refused_source b r h.1 h.2 p read
refused_only b (refusal.Limit l) h other fits p read q analysed s cover = analysed_keeps p q l analysed (cause_here (λ x. PassesLimit x l) b p h read)
refused_only b (refusal.Alone site exit) h other fits p read q analysed s cover = none_beside p site exit q s (cause_here (λ x. IsAlone x site exit) b p h read) analysed cover
refused_only b refusal.Together h other fits p read q analysed s cover = none_at_all p q s (cause_here IsUncovered b p h read) analysed cover
refused_only b refusal.Memory h other fits p read q analysed s cover = other refl

-- the same, for an answer
pub repair_only : {A : Type 0} (b : List ℕ) (x : Result A RepairRefusal) → IfErr x (RefusesRepair b)
    → IfErr x (λ r. (r ≡ refusal.Memory → ⊥) → length b ≤ source_limit → (p : Program) → ReadsWithin b p → (q : Problem) → IsAnalysed p q → (s : Choice) → IsCoverOf q s → ⊥)
repair_only b (Ok a) h = tt
repair_only b (Err r) h = refused_only b r h
