-- How far a text is read, and what an element changes of it.
use Rattle.std.specs.Prelude.{ℕ, ◌+◌, false, List, [], ◌∷◌, ◌++◌, Option, Some}
use Rattle.c_lexer.specs.declared.front.Front.{Front}
use Rattle.c_lexer.specs.declared.element.Fault.{Fault}
use Rattle.c_lexer.specs.declared.element.Element.{Element}
use Rattle.c_lexer.specs.declared.element.Element.TheVariants as element
use Rattle.c_lexer.specs.declared.reading.Reading.{Reading}
use Rattle.c_lexer.specs.Scan.{fresh_behind}

-- the reading that ends here
abbrev pub reading_at : Front → Option (Fault × ℕ) → Reading
reading_at front fault = record { tokens = front.tokens; last_comment = front.last_comment; fault = fault }

-- past the element at the front of the rest
abbrev pub advanced : Front → List ℕ → Element → Front
advanced front rest element.Blank = record front { fresh = fresh_behind front.fresh rest element.Blank; at = front.at + 1 }
advanced front rest (element.Comment n) = record front { fresh = false; at = front.at + n; last_comment = Some (front.at, front.at + n) }
advanced front rest (element.Include n) = record front { fresh = false; at = front.at + n }
advanced front rest (element.Lexeme kind n) =
    record front { fresh = false; at = front.at + n; tokens = front.tokens ++ record { kind = kind; start = front.at; end = front.at + n } ∷ [] }
advanced front rest element.End = front
advanced front rest (element.Bad fault at) = front
