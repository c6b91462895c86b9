-- A text that is read element by element from left to right.
use Rattle.std.proofs.Common.{◌≡◌, ℕ, ◌+◌, ◌<◌, ◌≤◌, List, [], ◌∷◌, ◌++◌, Some, None, length, drop, sym, refl, ap, ◌∙◌, subst, arith, append_assoc, append-nil, length-drop}
use Rattle.std.proofs.lemmas.List.{drop-drop}
use Rattle.c_lexer.specs.declared.element.Fault.{Fault}
use Rattle.c_lexer.specs.declared.element.Element.{Element}
use Rattle.c_lexer.specs.declared.element.Element.TheVariants as element
use Rattle.c_lexer.specs.declared.token.Token.{Token}
use Rattle.c_lexer.specs.declared.reading.Reading.{Reading}
use Rattle.c_lexer.specs.declared.front.Front.{Front}
use Rattle.c_lexer.specs.Bytes.{class_of}
use Rattle.c_lexer.specs.Elements.{IsElement}
use Rattle.c_lexer.specs.Opening.{Fits}
use Rattle.c_lexer.specs.Scan.{Scan, ends, goes_on, width, GoesOn, fresh_behind, last_reading, later, reading_from, IsReading}
use Rattle.c_lexer.specs.Front.{advanced, reading_at}
use Rattle.c_lexer.proofs.Passes.{reading_same, later-later}

-- a reading with what was read before it
abbrev pub before : Front → Reading → Reading
before front r = record { tokens = front.tokens ++ r.tokens; last_comment = later front.last_comment r.last_comment; fault = r.fault }

-- what is read from here on is read from the start with what came before
abbrev pub ReadsOn : List ℕ → Front → Type 0
ReadsOn bytes front = (r : Reading) → Scan front.fresh front.at (drop front.at bytes) r → IsReading bytes (before front r)

-- what was read before, with one element more
before_more : (front : Front) (rest : List ℕ) (p : Element) (r : Reading) → GoesOn p → before front (reading_from front.at p r) ≡ before (advanced front rest p) r
before_more front rest element.End r goes = absurd goes
before_more front rest element.Blank r goes = refl
before_more front rest (element.Comment n) r goes =
    reading_same _ _ _ _ r.fault refl (sym (later-later front.last_comment (Some (front.at, front.at + n)) r.last_comment) ∙ ap (λ c. later c r.last_comment) refl)
before_more front rest (element.Include n) r goes = refl
before_more front rest (element.Lexeme kind n) r goes =
    let token : Token = record { kind = kind; start = front.at; end = front.at + n } in
    reading_same (front.tokens ++ token ∷ r.tokens) ((front.tokens ++ token ∷ []) ++ r.tokens) _ _ r.fault (sym (append_assoc front.tokens (token ∷ []) r.tokens)) refl
before_more front rest (element.Bad fault at) r goes = absurd goes

-- where the scan stands behind an element
moved : (bytes : List ℕ) (front : Front) (p : Element) (r : Reading) → GoesOn p → (let next = advanced front (drop front.at bytes) p in Scan next.fresh next.at (drop next.at bytes) r)
    → Scan (fresh_behind front.fresh (drop front.at bytes) p) (front.at + width p) (drop (width p) (drop front.at bytes)) r
moved bytes front element.End r goes scanned = absurd goes
moved bytes front element.Blank r goes scanned = rw (drop-drop 1 front.at bytes) scanned
moved bytes front (element.Comment n) r goes scanned = rw (drop-drop n front.at bytes) scanned
moved bytes front (element.Include n) r goes scanned = rw (drop-drop n front.at bytes) scanned
moved bytes front (element.Lexeme kind n) r goes scanned = rw (drop-drop n front.at bytes) scanned
moved bytes front (element.Bad fault at) r goes scanned = absurd goes

pub on_more : (bytes rest : List ℕ) (front : Front) (p : Element) → ReadsOn bytes front → rest ≡ drop front.at bytes → IsElement (class_of front.fresh rest) rest p → GoesOn p → ReadsOn bytes (advanced front rest p)
on_more bytes rest front p reads same is_element goes =
    subst (λ xs. IsElement (class_of front.fresh xs) xs p → ReadsOn bytes (advanced front xs p)) (sym same) (λ is r scanned. subst (IsReading bytes) (before_more front (drop front.at bytes) p r goes) (reads (reading_from front.at p r) (goes_on p is goes (moved bytes front p r goes scanned)))) is_element

pub on_end : (bytes rest : List ℕ) (front : Front) (p : Element) → ReadsOn bytes front → rest ≡ drop front.at bytes → IsElement (class_of front.fresh rest) rest p → (GoesOn p → ⊥) → IsReading bytes (before front (last_reading front.at p))
on_end bytes rest front p reads same is_element last =
    subst (λ xs. IsElement (class_of front.fresh xs) xs p → IsReading bytes (before front (last_reading front.at p))) (sym same) (λ is. reads (last_reading front.at p) (ends p is last)) is_element

pub at_text_end : (bytes rest : List ℕ) (front : Front) (p : Element) → ReadsOn bytes front → rest ≡ drop front.at bytes → IsElement (class_of front.fresh rest) rest p → p ≡ element.End → IsReading bytes (reading_at front None)
at_text_end bytes rest front p reads same is_element is_end =
    subst (IsReading bytes) (reading_same (front.tokens ++ []) front.tokens front.last_comment front.last_comment None (append-nil front.tokens) refl) (on_end bytes rest front element.End reads same (subst (λ q. IsElement (class_of front.fresh rest) rest q) is_end is_element) (λ goes. goes))

pub at_fault : (bytes rest : List ℕ) (front : Front) (p : Element) (fault : Fault) (n : ℕ) → ReadsOn bytes front → rest ≡ drop front.at bytes → IsElement (class_of front.fresh rest) rest p → p ≡ element.Bad fault n → IsReading bytes (reading_at front (Some (fault, front.at + n)))
at_fault bytes rest front p fault n reads same is_element is_bad =
    subst (IsReading bytes) (reading_same (front.tokens ++ []) front.tokens front.last_comment front.last_comment (Some (fault, front.at + n)) (append-nil front.tokens) refl) (on_end bytes rest front (element.Bad fault n) reads same (subst (λ q. IsElement (class_of front.fresh rest) rest q) is_bad is_element) (λ goes. goes))

-- an element that others follow, from any other
pub goes_from : (p : Element) → (p ≡ element.End → ⊥) → ((fault : Fault) (n : ℕ) → p ≡ element.Bad fault n → ⊥) → GoesOn p
goes_from element.End not_end not_bad = not_end refl
goes_from element.Blank not_end not_bad = tt
goes_from (element.Comment n) not_end not_bad = tt
goes_from (element.Include n) not_end not_bad = tt
goes_from (element.Lexeme kind n) not_end not_bad = tt
goes_from (element.Bad fault n) not_end not_bad = not_bad fault n refl

pub record Steps (at' : ℕ) (bytes : List ℕ) (at : ℕ) : Type 0 where
  pub forward : at < at'
  pub within : at' ≤ length bytes

pub steps : (bytes rest : List ℕ) (front : Front) (p : Element) → front.at ≤ length bytes → rest ≡ drop front.at bytes → Fits p rest → GoesOn p → Steps (advanced front rest p).at bytes front.at
steps bytes rest front element.End within same fits goes = absurd goes
steps bytes rest front element.Blank within same fits goes = record { forward = omega arith; within = omega (arith, ap length same, length-drop front.at bytes) }
steps bytes rest front (element.Comment n) within same fits goes = record { forward = omega arith; within = omega (arith, ap length same, length-drop front.at bytes) }
steps bytes rest front (element.Include n) within same fits goes = record { forward = omega arith; within = omega (arith, ap length same, length-drop front.at bytes) }
steps bytes rest front (element.Lexeme kind n) within same fits goes = record { forward = omega arith; within = omega (arith, ap length same, length-drop front.at bytes) }
steps bytes rest front (element.Bad fault n) within same fits goes = absurd goes
