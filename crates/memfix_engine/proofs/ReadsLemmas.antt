-- A text has one answer of the lexer, its tokens one tree, and a tree one program: so each refusal excludes a program.
use Rattle.std.proofs.Common.{◌≡◌, ℕ, ◌+◌, ◌≤◌, List, [], Some, None, Result, Ok, Err, IfErr, length, take, sym, ◌∙◌, ap, subst, refl, arith}
use Rattle.std.specs.List.{Contains}
use Rattle.std.proofs.lemmas.List.{take-append-drop}
use Rattle.std.proofs.lemmas.List.Elements.{Contains-append_left}
use Rattle.std.proofs.lemmas.Option.{same_Some}
use Rattle.c_lexer.specs.declared.reading.Reading.{Reading}
use Rattle.c_lexer.specs.declared.token.Tokens.{Tokens}
use Rattle.c_lexer.specs.declared.refusal.LexRefusal.{LexRefusal}
use Rattle.c_lexer.specs.declared.refusal.LexRefusal.TheVariants.{Depth}
use Rattle.c_lexer.specs.Outcome.{AreTokens, Answers, answer_for, unless_refused, unless_deep}
use Rattle.c_lexer.proofs.Unique.{reading_unique}
use Rattle.c_parser.specs.declared.refusal.ParseRefusal.{ParseRefusal}
use Rattle.c_parser.specs.declared.refusal.ParseRefusal.TheVariants as parse
use Rattle.c_tree.specs.Cycles.{IsCyclic}
use Rattle.c_tree.specs.UserCalls.{user_calls}
use Rattle.c_tree.specs.declared.control.UserCall.{UserCall}
use Rattle.c_tree.specs.declared.program.Program.{Program}
use Rattle.c_tree.specs.declared.tree.Tree.{Tree}
use Rattle.c_tree.proofs.Cyclic.{cyclic_among}
use Rattle.c_types.specs.Program.{IsProgram, IsAnswer, IsRefused, ClosesCycleAt, made_program, walked}
use Rattle.c_types.specs.declared.faults.Fault.{Fault}
use Rattle.c_types.specs.declared.refusal.TypeRefusal.{TypeRefusal}
use Rattle.c_types.specs.declared.refusal.TypeRefusal.TheVariants as typing
use Rattle.memfix_engine.specs.declared.refusal.SourceRefusal.{SourceRefusal}
use Rattle.memfix_engine.specs.declared.refusal.SourceRefusal.TheVariants as source
use Rattle.memfix_engine.specs.declared.refusal.ReplayRefusal.{ReplayRefusal}
use Rattle.memfix_engine.specs.declared.refusal.ReplayRefusal.TheVariants as replay
use Rattle.memfix_engine.specs.Outcome.{status_of_lex}
use Rattle.source_patcher.specs.Reads.{HasProgram, Reads, ReadsWithin}
use Rattle.memfix_engine.specs.Refusal.{IsUnparsed, IsIllTyped, RefusesTokens, RefusesSource, source_limit}
use Rattle.memfix_engine.specs.Replay.{RefusesReplay, refusal_of}

-- a text has one answer
pub answer_unique : (b : List ℕ) (x y : Result Tokens LexRefusal) → Answers b x → Answers b y → x ≡ y
answer_unique b x y h k = sym h.is ∙ ap (answer_for (length b)) (reading_unique b h.reading k.reading h.reads k.reads) ∙ k.is

-- tokens in which nothing is refused are an answer
pub tokens_answer : (b : List ℕ) (ts : Tokens) → AreTokens b ts → Answers b (Ok ts)
tokens_answer b ts h =
    let r : Reading = record { tokens = ts.list; last_comment = ts.last_comment; fault = None } in
    record {
      reading = r;
      reads = h.reads;
      is =
          ap (unless_refused (length b) r) h.none_refused ∙ ap (unless_deep (length b) r) h.none_deep
          ∙ ap (λ n. let x : Result Tokens LexRefusal = Ok (record { list = ts.list; last_comment = ts.last_comment; size = n }) in x) (sym h.size);
    }

-- a text has one list of tokens
pub same_tokens : (b : List ℕ) (ts us : Tokens) → AreTokens b ts → AreTokens b us → ts ≡ us
same_tokens b ts us h k =
    let e : (let x : Result Tokens LexRefusal = Ok ts in x) ≡ Ok us = answer_unique b (Ok ts) (Ok us) (tokens_answer b ts h) (tokens_answer b us k) in
    cc

pub tokens_not_lexical : (b : List ℕ) (ts : Tokens) (r : LexRefusal) → AreTokens b ts → Answers b (Err r) → ⊥
tokens_not_lexical b ts r h k = let e : Ok ts ≡ Err r = answer_unique b (Ok ts) (Err r) (tokens_answer b ts h) k in cc

-- a text has one refusal of the lexer
pub refusal_unique : (b : List ℕ) (r s : LexRefusal) → Answers b (Err r) → Answers b (Err s) → r ≡ s
refusal_unique b r s h k = let e : (let x : Result Tokens LexRefusal = Err r in x) ≡ Err s = answer_unique b (Err r) (Err s) h k in cc

-- a text that is refused otherwise is not too deep
pub lex_not_deep : (b : List ℕ) (r : LexRefusal) (at : ℕ) → Answers b (Err r) → status_of_lex r ≡ 1 → Answers b (Err (Depth at)) → ⊥
lex_not_deep b r at h one k =
    let same : status_of_lex r ≡ 4 = ap status_of_lex (refusal_unique b r (Depth at) h k) in
    let no : ⊥ = omega (arith, one, same) in no

-- a source that is too deep is not refused otherwise
pub deep_not_lexical : (b : List ℕ) (at : ℕ) (r : LexRefusal) → Answers b (Err (Depth at)) → Answers b (Err r) → status_of_lex r ≡ 1 → ⊥
deep_not_lexical b at r h k one = lex_not_deep b r at k one h

-- a text reads, also where its nest has no bound
pub reads_within : (b : List ℕ) (p : Program) → ReadsWithin b p → Reads b p
reads_within b p h = record {
  tokens = h.tokens;
  scanned = record { last_comment = h.tokens.last_comment; reads = h.are.reads };
  size = h.are.size;
  program = h.program;
}

-- What the rules of names and types refuse has no program.

least_of_none : (faults : List Fault) (f : Fault) → faults ≡ [] → Contains faults f → ⊥
least_of_none faults f none among = let here : Contains [] f = subst (λ fs. Contains fs f) none among in let below = here.1 in omega arith

refused_not_made : (t : Tree) (r : TypeRefusal) (p : Program) → IsRefused t r → IsProgram t p → ⊥
refused_not_made t r p h made = least_of_none _ h.first made.clean h.least.among

-- calls that form a cycle at some place are cyclic
closed_cyclic : (calls : List UserCall) (n : ℕ) → IsCyclic (take n calls) → IsCyclic calls
closed_cyclic calls n = cyclic_among (take n calls) calls (λ c h. subst (λ cs. Contains cs c) (take-append-drop n calls) (Contains-append_left (take n calls) _ c h))

-- a tree has one program
pub same_program : (t : Tree) (p q : Program) → IsProgram t p → IsProgram t q → p ≡ q
same_program t p q h k =
    let main : p.main ≡ q.main = same_Some p.main q.main (sym h.main ∙ k.main) in
    h.made ∙ ap (made_program (walked t)) main ∙ sym k.made

cyclic_not_acyclic : (t : Tree) (p : Program) (at : ℕ) → ((q : Program) × IsProgram t q × ClosesCycleAt q at) → IsProgram t p → (IsCyclic (user_calls p) → ⊥) → ⊥
cyclic_not_acyclic t p at h made none =
    let cycle : IsCyclic (user_calls h.0) = closed_cyclic (user_calls h.0) (h.2.place + 1) h.2.closes.closed in
    none (subst (λ q. IsCyclic (user_calls q)) (same_program t h.0 p h.1 made) cycle)

ill_typed_not_made : (t : Tree) (r : TypeRefusal) (p : Program) → IsAnswer t (Err r) → (r ≡ typing.Memory → ⊥) → IsProgram t p → (IsCyclic (user_calls p) → ⊥) → ⊥
ill_typed_not_made t (typing.Unknown at) p h other made none = refused_not_made t _ p h made
ill_typed_not_made t (typing.Twice at) p h other made none = refused_not_made t _ p h made
ill_typed_not_made t (typing.Hidden at) p h other made none = refused_not_made t _ p h made
ill_typed_not_made t (typing.Wrong rule at) p h other made none = refused_not_made t _ p h made
ill_typed_not_made t (typing.NoValue at) p h other made none = refused_not_made t _ p h made
ill_typed_not_made t (typing.Jump at) p h other made none = refused_not_made t _ p h made
ill_typed_not_made t typing.NoMain p h other made none = let e : Some p.main ≡ None = sym made.main ∙ h.1 in absurd (cc)
ill_typed_not_made t (typing.Recursion at) p h other made none = cyclic_not_acyclic t p at h made none
ill_typed_not_made t typing.Memory p h other made none = other refl

-- What is refused has no program.

unparsed_not_read : (ts : Tokens) (r : ParseRefusal) (p : Program) → IsUnparsed ts r → HasProgram ts p → ⊥
unparsed_not_read ts (parse.Syntax at) p h k = h.answer.0 k.tree k.generates
unparsed_not_read ts parse.Memory p h k = h.caused refl

pub refused_tokens : (ts : Tokens) (r : SourceRefusal) (p : Program) → RefusesTokens ts r → (r ≡ source.Memory → ⊥) → HasProgram ts p → ⊥
refused_tokens ts (source.Lex r) p h other k = h
refused_tokens ts (source.Parse r) p h other k = unparsed_not_read ts r p h k
refused_tokens ts (source.Resolve r) p h other k =
    ill_typed_not_made k.tree r p (subst (λ t. IsAnswer t (Err r)) (sym (h.parsed.1 k.tree k.generates)) h.refuses.answer) h.refuses.caused k.program k.acyclic
refused_tokens ts source.Memory p h other k = other refl

-- the program of the text's tokens is that of any tokens of the text
pub program_here : (b : List ℕ) (ts : Tokens) (p : Program) → AreTokens b ts → ReadsWithin b p → HasProgram ts p
program_here b ts p h k = subst (λ us. HasProgram us p) (same_tokens b k.tokens ts k.are h) k.program

pub refused_source : (b : List ℕ) (r : SourceRefusal) → RefusesSource b r → (r ≡ source.Memory → ⊥) → (p : Program) → ReadsWithin b p → ⊥
refused_source b (source.Lex r) h other p k = tokens_not_lexical b k.tokens r k.are h
refused_source b (source.Parse r) h other p k = refused_tokens h.tokens (source.Parse r) p h.refuses other (program_here b h.tokens p h.are k)
refused_source b (source.Resolve r) h other p k = refused_tokens h.tokens (source.Resolve r) p h.refuses other (program_here b h.tokens p h.are k)
refused_source b source.Memory h other p k = other refl

-- the tokens of a text are refused so

pub refused_behind : (b : List ℕ) (ts : Tokens) (r : SourceRefusal) → AreTokens b ts → RefusesTokens ts r → RefusesSource b r
refused_behind b ts (source.Lex r) h k = absurd k
refused_behind b ts (source.Parse r) h k = record { tokens = ts; are = h; refuses = k }
refused_behind b ts (source.Resolve r) h k = record { tokens = ts; are = h; refuses = k }
refused_behind b ts source.Memory h k = tt

-- the same, for an answer
pub only_refused : {A : Type 0} (b : List ℕ) (x : Result A SourceRefusal) → IfErr x (RefusesSource b)
    → IfErr x (λ r. (r ≡ source.Memory → ⊥) → (p : Program) → ReadsWithin b p → ⊥)
only_refused b (Ok a) h = tt
only_refused b (Err r) h = refused_source b r h

-- what is refused is not replayed, but for want of memory
pub refused_replay : (b : List ℕ) (r : ReplayRefusal) → RefusesReplay b r → (r ≡ replay.Memory → ⊥) → length b ≤ source_limit → (p : Program) → ReadsWithin b p → ⊥
refused_replay b replay.TooLong h other fits p k = omega (arith, h, fits)
refused_replay b (replay.Source r) h other fits p k = refused_source b r h.1 h.2 p k
refused_replay b replay.Memory h other fits p k = other refl

pub replay_refused : (b : List ℕ) (r : SourceRefusal) → length b ≤ source_limit → RefusesSource b r → RefusesReplay b (refusal_of r)
replay_refused b (source.Lex r) fits h = (fits, h, λ e. cc e)
replay_refused b (source.Parse r) fits h = (fits, h, λ e. cc e)
replay_refused b (source.Resolve r) fits h = (fits, h, λ e. cc e)
replay_refused b source.Memory fits h = tt
