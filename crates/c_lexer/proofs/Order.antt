-- The tokens of a text ascend: each has a byte, and none begins before the end of the one before it. None of those that
-- `lex` answers is refused.
use Rattle.std.proofs.Common.{◌≡◌, ℕ, ◌+◌, ◌<◌, ◌≤◌, Bool, true, List, [], ◌∷◌, None, length, drop, subst, arith, length-drop}
use Rattle.c_lexer.specs.declared.token.Kind.{Kind}
use Rattle.c_lexer.specs.declared.token.Kind.TheVariants as kind
use Rattle.c_lexer.specs.declared.token.Token.{Token}
use Rattle.c_lexer.specs.declared.token.Tokens.{Tokens}
use Rattle.c_lexer.specs.declared.element.Element.{Element}
use Rattle.c_lexer.specs.declared.element.Element.TheVariants as element
use Rattle.c_lexer.specs.declared.reading.Reading.{Reading}
use Rattle.c_lexer.specs.Bytes.{class_of}
use Rattle.c_lexer.specs.Elements.{IsElement}
use Rattle.c_lexer.specs.Scan.{Scan, ends, goes_on, width, GoesOn, fresh_behind, last_reading, reading_from, HasTokens}
use Rattle.c_lexer.specs.Outcome.{first_refused, refused_or, AreTokens}
use Rattle.c_lexer.proofs.LocalElement.{IsAccepted}
use Rattle.c_lexer.proofs.LocalPasses.{NoneRefused, element_some}
use Rattle.c_lexer.proofs.Lexemes.{element_within}

-- the tokens stand in order from this offset on, up to the end of the text
abbrev pub Ascends : ℕ → List Token → ℕ → Type 0
Ascends from [] size = from ≤ size
Ascends from (token ∷ rest) size = (from ≤ token.start) × (token.start < token.end) × Ascends token.end rest size

pub ascends_sooner : (from later : ℕ) (tokens : List Token) (size : ℕ) → from ≤ later → Ascends later tokens size → Ascends from tokens size
ascends_sooner from later [] size sooner ascends = omega (arith, ascends)
ascends_sooner from later (token ∷ rest) size sooner ascends = (omega (arith, ascends.0), ascends.1, ascends.2)

-- the size of a text is the same from behind an element on
size_behind : (at n : ℕ) (xs : List ℕ) → n ≤ length xs → at + n + length (drop n xs) ≡ at + length xs
size_behind at n xs within = omega (arith, length-drop n xs)

-- past one element
ascends_from : (fresh : Bool) (at : ℕ) (xs : List ℕ) (p : Element) (r : Reading) (size : ℕ) → GoesOn p → IsElement (class_of fresh xs) xs p → Ascends (at + width p) r.tokens size → Ascends at (reading_from at p r).tokens size
ascends_from fresh at xs element.End r size goes is ascends = absurd goes
ascends_from fresh at xs (element.Bad fault n) r size goes is ascends = absurd goes
ascends_from fresh at xs element.Blank r size goes is ascends = ascends_sooner at (at + 1) r.tokens size (omega arith) ascends
ascends_from fresh at xs (element.Comment n) r size goes is ascends = ascends_sooner at (at + n) r.tokens size (omega arith) ascends
ascends_from fresh at xs (element.Include n) r size goes is ascends = ascends_sooner at (at + n) r.tokens size (omega arith) ascends
ascends_from fresh at xs (element.Lexeme kind n) r size goes is ascends = (omega arith, omega (arith, element_some fresh xs (element.Lexeme kind n) goes is), ascends)

last_ascends : (at size : ℕ) (p : Element) → at ≤ size → Ascends at (last_reading at p).tokens size
last_ascends at size element.End within = within
last_ascends at size element.Blank within = within
last_ascends at size (element.Comment n) within = within
last_ascends at size (element.Include n) within = within
last_ascends at size (element.Lexeme kind n) within = within
last_ascends at size (element.Bad fault n) within = within

pub scan_ascends : (fresh : Bool) (at : ℕ) (xs : List ℕ) (r : Reading) → Scan fresh at xs r → Ascends at r.tokens (at + length xs)
scan_ascends fresh at xs _ (ends p is last) = last_ascends at (at + length xs) p (omega arith)
scan_ascends fresh at xs _ (goes_on {r = r} p is goes rest) =
    let size = size_behind at (width p) xs (element_within fresh xs p goes is) in
    ascends_from fresh at xs p r (at + length xs) goes is (subst (Ascends (at + width p) r.tokens) size (scan_ascends (fresh_behind fresh xs p) (at + width p) (drop (width p) xs) r rest))

pub tokens_ascend : (bytes : List ℕ) (tokens : List Token) → HasTokens bytes tokens → Ascends 0 tokens (length bytes)
tokens_ascend bytes tokens has =
    let r : Reading = record { tokens = tokens; last_comment = has.last_comment; fault = None } in
    let all : 0 + length bytes ≡ length bytes = omega arith in
    subst (Ascends 0 tokens) all (scan_ascends true 0 bytes r has.reads)

-- no token is refused where none is the first
accepted_by : (k : Kind) (start : ℕ) (rest : List Token) → refused_or k start (first_refused rest) ≡ None → IsAccepted k × (first_refused rest ≡ None)
accepted_by (kind.Refused row) start rest none = cc
accepted_by (kind.Name word) start rest none = (tt, none)
accepted_by (kind.Key number) start rest none = (tt, none)
accepted_by (kind.Number value) start rest none = (tt, none)
accepted_by (kind.Text bytes) start rest none = (tt, none)
accepted_by (kind.Punct number) start rest none = (tt, none)

pub none_refused : (tokens : List Token) → first_refused tokens ≡ None → NoneRefused tokens
none_refused [] none = tt
none_refused (token ∷ rest) none = let parts = accepted_by token.kind token.start rest none in (parts.0, none_refused rest parts.1)

-- what is so of the tokens that `lex` answers
pub answered_ascend : (bytes : List ℕ) (tokens : Tokens) → AreTokens bytes tokens → Ascends 0 tokens.list (length bytes)
answered_ascend bytes tokens are = tokens_ascend bytes tokens.list (record { last_comment = tokens.last_comment; reads = are.reads })

pub answered_accepted : (bytes : List ℕ) (tokens : Tokens) → AreTokens bytes tokens → NoneRefused tokens.list
answered_accepted bytes tokens are = none_refused tokens.list are.none_refused
