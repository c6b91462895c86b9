-- The tokens of a text, or its first lexical fault (C99 6.4): only blanks, comments and include lines between tokens.
use Rattle.std.specs.Prelude.{ℕ, ◌+◌, Bool, true, false, ◌||◌, List, [], ◌∷◌, Option, Some, None, drop}
use Rattle.c_lexer.specs.declared.token.Token.{Token}
use Rattle.c_lexer.specs.declared.element.Element.{Element}
use Rattle.c_lexer.specs.declared.element.Element.TheVariants as element
use Rattle.c_lexer.specs.declared.reading.Reading.{Reading}
use Rattle.c_lexer.specs.Bytes.{class_of, begins}
use Rattle.c_lexer.specs.Elements.{IsElement}

-- the number of bytes of an element that others follow
abbrev pub width : Element → ℕ
width element.End = 0
width element.Blank = 1
width (element.Comment n) = n
width (element.Include n) = n
width (element.Lexeme kind n) = n
width (element.Bad fault at) = 0

-- other elements follow
abbrev pub GoesOn : Element → Type 0
GoesOn element.End = ⊥
GoesOn element.Blank = Unit {0}
GoesOn (element.Comment n) = Unit {0}
GoesOn (element.Include n) = Unit {0}
GoesOn (element.Lexeme kind n) = Unit {0}
GoesOn (element.Bad fault at) = ⊥

-- whether only blanks stand on the line before what follows the element
abbrev pub fresh_behind : Bool → List ℕ → Element → Bool
fresh_behind fresh xs element.Blank = fresh || begins xs (10 ∷ [])
fresh_behind fresh xs element.End = false
fresh_behind fresh xs (element.Comment n) = false
fresh_behind fresh xs (element.Include n) = false
fresh_behind fresh xs (element.Lexeme kind n) = false
fresh_behind fresh xs (element.Bad fault at) = false

-- the reading from a last element: the end, or the fault
abbrev pub last_reading : ℕ → Element → Reading
last_reading at (element.Bad fault n) = record { tokens = []; last_comment = None; fault = Some (fault, at + n) }
last_reading at p = record { tokens = []; last_comment = None; fault = None }

abbrev pub later : Option (ℕ × ℕ) → Option (ℕ × ℕ) → Option (ℕ × ℕ)
later first (Some last) = Some last
later first None = first

-- the reading from an element on, where this is the reading behind it
abbrev pub reading_from : ℕ → Element → Reading → Reading
reading_from at (element.Lexeme kind n) r = record r { tokens = record { kind = kind; start = at; end = at + n } ∷ r.tokens }
reading_from at (element.Comment n) r = record r { last_comment = later (Some (at, at + n)) r.last_comment }
reading_from at p r = r

-- The text from the offset on is read so.
pub data Scan : Bool → ℕ → List ℕ → Reading → Type 0 where
  ends : {fresh : Bool} {at : ℕ} {xs : List ℕ} (p : Element) → IsElement (class_of fresh xs) xs p → (GoesOn p → ⊥) → Scan fresh at xs (last_reading at p)
  goes_on : {fresh : Bool} {at : ℕ} {xs : List ℕ} {r : Reading} (p : Element) → IsElement (class_of fresh xs) xs p → GoesOn p → Scan (fresh_behind fresh xs p) (at + width p) (drop (width p) xs) r → Scan fresh at xs (reading_from at p r)

-- the reading of a whole text
abbrev pub IsReading : List ℕ → Reading → Type 0
IsReading bytes r = Scan true 0 bytes r

-- the text is read to its end without a fault, and these are its tokens
pub record HasTokens (bytes : List ℕ) (tokens : List Token) : Type 0 where
  pub last_comment : Option (ℕ × ℕ)
  pub reads : IsReading bytes (record { tokens = tokens; last_comment = last_comment; fault = None })
