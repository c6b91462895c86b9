-- What the lexer answers for the reading of a text.
use Rattle.std.specs.Prelude.{◌≡◌, ℕ, List, [], ◌∷◌, Option, Some, None, Result, Ok, Err, false, length}
use Rattle.c_lexer.specs.declared.token.Token.{Token}
use Rattle.c_lexer.specs.declared.token.Tokens.{Tokens}
use Rattle.c_lexer.specs.declared.token.Kind.{Kind}
use Rattle.c_lexer.specs.declared.token.Kind.TheVariants as kind
use Rattle.c_lexer.specs.declared.element.Fault.{Fault}
use Rattle.c_lexer.specs.declared.element.Fault.TheVariants as fault
use Rattle.c_lexer.specs.declared.reading.Reading.{Reading}
use Rattle.c_lexer.specs.declared.refusal.LexRefusal.{LexRefusal}
use Rattle.c_lexer.specs.declared.refusal.LexRefusal.TheVariants as refusal
use Rattle.c_lexer.specs.Scan.{IsReading}
use Rattle.c_lexer.specs.Nest.{at_first, first_deep}

abbrev pub refusal_of : Fault → ℕ → LexRefusal
refusal_of fault.BadByte at = refusal.BadByte at
refusal_of fault.OpenComment at = refusal.OpenComment at
refusal_of fault.OpenText at = refusal.OpenText at
refusal_of fault.BadEscape at = refusal.BadEscape at
refusal_of fault.WideNumber at = refusal.WideNumber at

-- the row and the start of the first token in the table of what is refused
abbrev pub refused_or : Kind → ℕ → Option (ℕ × ℕ) → Option (ℕ × ℕ)
refused_or (kind.Refused row) start rest = Some (row, start)
refused_or kind start rest = rest

abbrev pub first_refused : List Token → Option (ℕ × ℕ)
first_refused [] = None
first_refused (token ∷ rest) = refused_or token.kind token.start (first_refused rest)

-- the tokens, unless one of them is too deep
abbrev pub unless_deep : ℕ → Reading → Option ℕ → Result Tokens LexRefusal
unless_deep size r (Some at) = Err (refusal.Depth at)
unless_deep size r None = Ok (record { list = r.tokens; last_comment = r.last_comment; size = size })

-- and unless one of them is refused
abbrev pub unless_refused : ℕ → Reading → Option (ℕ × ℕ) → Result Tokens LexRefusal
unless_refused size r (Some found) = Err (refusal.Construct found.0 found.1)
unless_refused size r None = unless_deep size r (first_deep false at_first r.tokens)

-- and unless there is a lexical fault
abbrev pub unless_fault : ℕ → Reading → Option (Fault × ℕ) → Result Tokens LexRefusal
unless_fault size r (Some found) = Err (refusal_of found.0 found.1)
unless_fault size r None = unless_refused size r (first_refused r.tokens)

-- the answer for the reading of a text of this size
abbrev pub answer_for : ℕ → Reading → Result Tokens LexRefusal
answer_for size r = unless_fault size r r.fault

-- the answer is that for a reading of the text
pub record Answers (bytes : List ℕ) (answer : Result Tokens LexRefusal) : Type 0 where
  pub reading : Reading
  pub reads : IsReading bytes reading
  pub is : answer_for (length bytes) reading ≡ answer

-- it is, unless memory ran out
abbrev pub IsAnswer : List ℕ → Result Tokens LexRefusal → Type 0
IsAnswer bytes (Ok tokens) = Answers bytes (Ok tokens)
IsAnswer bytes (Err refusal.Memory) = Unit {0}
IsAnswer bytes (Err refusal) = Answers bytes (Err refusal)

-- this is the answer, unless memory ran out
abbrev pub Gives : Result Tokens LexRefusal → Result Tokens LexRefusal → Type 0
Gives (Ok tokens) answer = answer ≡ Ok tokens
Gives (Err refusal.Memory) answer = Unit {0}
Gives (Err refusal) answer = answer ≡ Err refusal

-- the tokens of a text that is read without a fault, none of them refused and none too deep
pub record AreTokens (bytes : List ℕ) (tokens : Tokens) : Type 0 where
  pub reads : IsReading bytes (record { tokens = tokens.list; last_comment = tokens.last_comment; fault = None })
  pub size : tokens.size ≡ length bytes
  pub none_refused : first_refused tokens.list ≡ None
  pub none_deep : first_deep false at_first tokens.list ≡ None
