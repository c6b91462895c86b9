-- The status of a text by what it comes to: each cause excludes the others.
use Rattle.std.proofs.Common.{◌≡◌, inl, inr, ℕ, ◌<◌, ◌≤◌, Err, List, length, arith, sym, ap, subst}
use Rattle.c_lexer.specs.declared.refusal.LexRefusal.TheVariants.{Depth}
use Rattle.c_lexer.specs.Outcome.{Answers}
use Rattle.c_tree.specs.declared.choice.Choice.{Choice}
use Rattle.c_tree.specs.declared.limits.Limit.{Limit}
use Rattle.c_tree.specs.declared.program.Program.{Program}
use Rattle.cover_problem.specs.Problem.{IsCoverOf}
use Rattle.cover_problem.specs.declared.types.Problem.{Problem}
use Rattle.source_patcher.specs.Reads.{ReadsWithin}
use Rattle.memfix_engine.specs.Analysis.{IsAlone, IsAnalysed, IsUncovered, PassesLimit}
use Rattle.memfix_engine.specs.Command.{IsProgramStatus, IsRepairStatus, IsStatusOf}
use Rattle.memfix_engine.specs.Outcome.{IsPast, IsReplay, IsStuck, IsTangled, status_of_source}
use Rattle.memfix_engine.specs.Refusal.{RefusesSource, source_limit}
use Rattle.memfix_engine.specs.Repair.{OfProgram, Repairs}
use Rattle.memfix_engine.specs.declared.refusal.SourceRefusal.{SourceRefusal}
use Rattle.memfix_engine.specs.declared.refusal.SourceRefusal.TheVariants as source
use Rattle.memfix_engine.specs.declared.request.Replay.{Replay}
use Rattle.memfix_engine.specs.declared.request.Request.{Request}
use Rattle.memfix_engine.specs.declared.request.Request.TheVariants as request
use Rattle.memfix_engine.proofs.AloneOffsets.{alone_uncovered}
use Rattle.memfix_engine.proofs.CoversAgree.{covers_agree}
use Rattle.memfix_engine.proofs.LimitsAgree.{analysed_keeps}
use Rattle.memfix_engine.proofs.OneProgram.{one_program}
use Rattle.memfix_engine.proofs.ReadsLemmas.{deep_not_lexical, lex_not_deep, program_here, refused_source, tokens_not_lexical}

-- The status of a repair of a program.

-- it has a cover
covered_status : (p : Program) (q : Problem) (s : Choice) (status : ℕ) → IsAnalysed p q → IsCoverOf q s → status ≡ 0 → IsRepairStatus p status
covered_status p q s status analysed cover is = record {
  past_limit = λ l h. absurd (analysed_keeps p q l analysed h);
  covered = λ r h t k. inl is;
  uncovered = λ r h none. absurd (none s (covers_agree p q r s analysed.problem h.problem cover));
}

-- a count passes its limit
past_status : (p : Program) (l : Limit) (status : ℕ) → PassesLimit p l → status ≡ 4 → IsRepairStatus p status
past_status p l status passes is = record {
  past_limit = λ m h. inl is;
  covered = λ q h s k. absurd (analysed_keeps p q l h passes);
  uncovered = λ q h none. absurd (analysed_keeps p q l h passes);
}

-- it has no cover
uncovered_status : (p : Program) (q : Problem) (status : ℕ) → IsAnalysed p q → ((s : Choice) → IsCoverOf q s → ⊥) → status ≡ 3 → IsRepairStatus p status
uncovered_status p q status analysed none is = record {
  past_limit = λ l h. absurd (analysed_keeps p q l analysed h);
  covered = λ r h s k. absurd (none s (covers_agree p r q s h.problem analysed.problem k));
  uncovered = λ r h other. inl is;
}

-- an object of it can't be freed
alone_status : (p : Program) (site exit status : ℕ) → IsAlone p site exit → status ≡ 3 → IsRepairStatus p status
alone_status p site exit status h is = uncovered_status p h.problem status h.analysed (λ s cover. alone_uncovered h.problem h.place s h.alone cover) is

-- memory is wanting, whatever is asked
memory_status : (asked : Request) (p : Program) (status : ℕ) → status ≡ 7 → IsProgramStatus asked p status
memory_status request.Repair p status is = record { past_limit = λ l h. inr is; covered = λ q h s k. inr is; uncovered = λ q h none. inr is }
memory_status (request.Replay r) p status is = inr is

-- The status of a text.

-- it reads as a program, and that has its status
status_of_program : (asked : Request) (b : List ℕ) (p : Program) (status : ℕ) → length b ≤ source_limit → ReadsWithin b p → IsProgramStatus asked p status → IsStatusOf asked b status
status_of_program asked b p status fits reads is = record {
  too_long = λ long. let no : ⊥ = omega (arith, fits, long) in absurd no;
  lexical = λ short r h one. absurd (tokens_not_lexical b reads.tokens r reads.are h);
  deep = λ short at h. absurd (tokens_not_lexical b reads.tokens (Depth at) reads.are h);
  no_program = λ short us h none. absurd (none p (program_here b us p h reads));
  program = λ short q h. subst (λ x. IsProgramStatus asked x status) (one_program b p q reads h) is;
}

-- the same of a repair, from what was found of the program
status_of_repair : (b : List ℕ) (status : ℕ) (Cause : Program → Type 0) → ((p : Program) → Cause p → IsRepairStatus p status) → OfProgram b Cause → IsStatusOf request.Repair b status
status_of_repair b status Cause by h = status_of_program request.Repair b h.program status h.fits h.read (by h.program h.cause)

pub status_repaired : (asked : Request) (b w : List ℕ) (status : ℕ) → length b ≤ source_limit → (asked ≡ request.Repair) × Repairs b w → status ≡ 0 → IsStatusOf asked b status
status_repaired asked b w status fits h is =
    let k = h.1 in
    subst (λ q. IsStatusOf q b status) (sym h.0)
    (status_of_program request.Repair b k.program status fits k.read (covered_status k.program k.problem k.choice status k.analysed k.cover is))

pub status_replayed : (asked : Request) (b text line : List ℕ) (status : ℕ) → length b ≤ source_limit → ((r : Replay) × (asked ≡ request.Replay r) × IsReplay r b text line) → status ≡ 0 → IsStatusOf asked b status
status_replayed asked b text line status fits h is =
    let k = h.2.replays in
    subst (λ q. IsStatusOf q b status) (sym h.1) (status_of_program (request.Replay h.0) b k.program status fits k.reads (inl is))

pub status_past : (asked : Request) (b line : List ℕ) (status : ℕ) → IsPast asked b line → status ≡ 4 → IsStatusOf asked b status
status_past asked b line status h is =
    subst (λ q. IsStatusOf q b status) (sym h.asks)
    (status_of_repair b status (λ p. PassesLimit p h.limit) (λ p passes. past_status p h.limit status passes is) h.passes)

pub status_stuck : (asked : Request) (b line : List ℕ) (status : ℕ) → IsStuck asked b line → status ≡ 3 → IsStatusOf asked b status
status_stuck asked b line status h is =
    subst (λ q. IsStatusOf q b status) (sym h.asks)
    (status_of_repair b status (λ p. IsAlone p h.site h.exit) (λ p alone. alone_status p h.site h.exit status alone is) h.alone)

pub status_tangled : (asked : Request) (b line : List ℕ) (status : ℕ) → IsTangled asked b line → status ≡ 3 → IsStatusOf asked b status
status_tangled asked b line status h is =
    subst (λ q. IsStatusOf q b status) (sym h.asks)
    (status_of_repair b status IsUncovered (λ p k. uncovered_status p k.problem status k.analysed k.none_covers is) h.uncovered)

-- what has status 1 is no want of memory
caused_by : (r : SourceRefusal) → status_of_source r ≡ 1 → r ≡ source.Memory → ⊥
caused_by r one is = let seven : status_of_source r ≡ 7 = ap status_of_source is in let no : ⊥ = omega (arith, one, seven) in no

-- what is refused with status 1 is not too deep
refused_not_deep : (b : List ℕ) (r : SourceRefusal) (at : ℕ) → RefusesSource b r → status_of_source r ≡ 1 → Answers b (Err (Depth at)) → ⊥
refused_not_deep b (source.Lex r) at h one k = lex_not_deep b r at h one k
refused_not_deep b (source.Parse r) at h one k = tokens_not_lexical b h.tokens (Depth at) h.are k
refused_not_deep b (source.Resolve r) at h one k = tokens_not_lexical b h.tokens (Depth at) h.are k
refused_not_deep b source.Memory at h one k = let no : ⊥ = omega (arith, one) in no

pub status_refused : (asked : Request) (b : List ℕ) (r : SourceRefusal) (status : ℕ) → length b ≤ source_limit → RefusesSource b r → status_of_source r ≡ 1 → status ≡ 1 → IsStatusOf asked b status
status_refused asked b r status fits refuses one is = record {
  too_long = λ long. let no : ⊥ = omega (arith, fits, long) in absurd no;
  lexical = λ short q h k. inl is;
  deep = λ short at h. absurd (refused_not_deep b r at refuses one h);
  no_program = λ short us h none. inl is;
  program = λ short p h. absurd (refused_source b r refuses (caused_by r one) p h);
}

pub status_deep : (asked : Request) (b : List ℕ) (at status : ℕ) → length b ≤ source_limit → Answers b (Err (Depth at)) → status ≡ 4 → IsStatusOf asked b status
status_deep asked b at status fits deep is = record {
  too_long = λ long. let no : ⊥ = omega (arith, fits, long) in absurd no;
  lexical = λ short r h one. absurd (deep_not_lexical b at r deep h one);
  deep = λ short n h. inl is;
  no_program = λ short us h none. absurd (tokens_not_lexical b us (Depth at) h deep);
  program = λ short p h. absurd (tokens_not_lexical b h.tokens (Depth at) h.are deep);
}

pub status_too_long : (asked : Request) (b : List ℕ) (status : ℕ) → source_limit < length b → status ≡ 4 → IsStatusOf asked b status
status_too_long asked b status long is = record {
  too_long = λ same. inl is;
  lexical = λ short r h one. let no : ⊥ = omega (arith, long, short) in absurd no;
  deep = λ short at h. let no : ⊥ = omega (arith, long, short) in absurd no;
  no_program = λ short us h none. let no : ⊥ = omega (arith, long, short) in absurd no;
  program = λ short p h. let no : ⊥ = omega (arith, long, short) in absurd no;
}

pub status_memory : (asked : Request) (b : List ℕ) (status : ℕ) → status ≡ 7 → IsStatusOf asked b status
status_memory asked b status is = record {
  too_long = λ long. inr is;
  lexical = λ short r h one. inr is;
  deep = λ short at h. inr is;
  no_program = λ short us h none. inr is;
  program = λ short p h. memory_status asked p status is;
}
