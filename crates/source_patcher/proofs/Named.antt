-- The names among the tokens of a text are spelled as names.
use Rattle.std.proofs.Common.{◌≡◌, ℕ, ◌+◌, Bool, true, List, [], ◌∷◌, None, drop, subst}
use Rattle.c_lexer.specs.declared.token.Kind.{Kind}
use Rattle.c_lexer.specs.declared.token.Kind.TheVariants as kind
use Rattle.c_lexer.specs.declared.token.Token.{Token}
use Rattle.c_lexer.specs.declared.element.Element.{Element}
use Rattle.c_lexer.specs.declared.element.Element.TheVariants as element
use Rattle.c_lexer.specs.declared.reading.Reading.{Reading}
use Rattle.c_lexer.specs.Bytes.{class_of}
use Rattle.c_lexer.specs.Elements.{IsElement}
use Rattle.c_lexer.specs.Scan.{GoesOn, HasTokens, Scan, ends, fresh_behind, goes_on, last_reading, reading_from, width}
use Rattle.c_lexer.proofs.Lexemes.{Spelling, name_spelling}
use Rattle.c_parser.proofs.Rests.{Rest}

abbrev pub AreNamed : List Token → Type 0
AreNamed [] = Unit {0}
AreNamed (t ∷ ts) = ((w : List ℕ) → t.kind ≡ kind.Name w → Spelling w) × AreNamed ts

named_from : (fresh : Bool) (at : ℕ) (xs : List ℕ) (p : Element) (r : Reading) → GoesOn p → IsElement (class_of fresh xs) xs p → AreNamed r.tokens → AreNamed (reading_from at p r).tokens
named_from fresh at xs element.End r goes is named = absurd goes
named_from fresh at xs (element.Bad fault n) r goes is named = absurd goes
named_from fresh at xs element.Blank r goes is named = named
named_from fresh at xs (element.Comment n) r goes is named = named
named_from fresh at xs (element.Include n) r goes is named = named
named_from fresh at xs (element.Lexeme k n) r goes is named =
    ((λ w name. name_spelling fresh xs w n (subst (λ (j : Kind). IsElement (class_of fresh xs) xs (element.Lexeme j n)) name is)), named)

last_named : (at : ℕ) (p : Element) → AreNamed (last_reading at p).tokens
last_named at element.End = tt
last_named at element.Blank = tt
last_named at (element.Comment n) = tt
last_named at (element.Include n) = tt
last_named at (element.Lexeme k n) = tt
last_named at (element.Bad fault n) = tt

scan_named : (fresh : Bool) (at : ℕ) (xs : List ℕ) (r : Reading) → Scan fresh at xs r → AreNamed r.tokens
scan_named fresh at xs _ (ends p is last) = last_named at p
scan_named fresh at xs _ (goes_on {r = r} p is goes rest) =
    named_from fresh at xs p r goes is (scan_named (fresh_behind fresh xs p) (at + width p) (drop (width p) xs) r rest)

pub tokens_named : (bytes : List ℕ) (ts : List Token) → HasTokens bytes ts → AreNamed ts
tokens_named bytes ts has = scan_named true 0 bytes (record { tokens = ts; last_comment = has.last_comment; fault = None }) has.reads

pub named_at : {ts us : List Token} → Rest ts us → (t : Token) (vs : List Token) → us ≡ t ∷ vs → AreNamed ts → (w : List ℕ) → t.kind ≡ kind.Name w → Spelling w
named_at (Rest.here {ts = ts}) t vs is named = (subst AreNamed is named).0
named_at (Rest.behind p) t vs is named = named_at p t vs is named.1
