-- Whether only blanks stand before on the line matters for a `#` alone: a text that begins with a token, and a text with
-- no refused token, are read the same either way.
use Rattle.std.proofs.Common.{◌≡◌, ℕ, ◌+◌, Bool, true, false, ◌&&◌, List, [], ◌∷◌, drop, nat_eq, sym, ap, ◌∙◌, subst, ⊎_elim, arith}
use Rattle.std.specs.Prelude.{codes}
use Rattle.std.proofs.lemmas.Bool.{and_left, cond-true, cases_Bool, eqb-true}
use Rattle.c_lexer.specs.declared.token.Kind.{Kind}
use Rattle.c_lexer.specs.declared.element.Class.{Class}
use Rattle.c_lexer.specs.declared.element.Class.TheVariants as class
use Rattle.c_lexer.specs.declared.element.Stop.TheVariants as stop
use Rattle.c_lexer.specs.declared.element.Element.{Element}
use Rattle.c_lexer.specs.declared.element.Element.TheVariants as element
use Rattle.c_lexer.specs.declared.reading.Reading.{Reading}
use Rattle.c_lexer.specs.Bytes.{begins, begins_include, stops, class_of}
use Rattle.c_lexer.specs.Elements.{IsElement, IsPunctuator, include_line, first_place}
use Rattle.c_lexer.specs.Scan.{Scan, ends, goes_on, width, GoesOn, fresh_behind, reading_from}
use Rattle.c_lexer.proofs.LocalSpans.{line_end_parts}
use Rattle.c_lexer.proofs.LocalElement.{NotRefused, class_by, hash_refused}
use Rattle.c_lexer.proofs.LocalPasses.{NoneRefused}
use Rattle.c_lexer.proofs.Unique.{element_unique}

-- ---- the class

no_include : (x : ℕ) (r : List ℕ) → nat_eq 35 x ≡ false → begins_include (x ∷ r) ≡ false
no_include x r other = and_left (nat_eq 35 x && true) _ (and_left (nat_eq 35 x) true other)

-- where no include line begins
class_alike : (x : ℕ) (r : List ℕ) → begins_include (x ∷ r) ≡ false → class_of true (x ∷ r) ≡ class_of false (x ∷ r)
class_alike x r none = ap (λ include. class_by (begins (x ∷ r) (codes "//")) (begins (x ∷ r) (codes "/*")) include x) none

-- ---- a token at the front

include_no_token : (xs : List ℕ) (kind : Kind) (n : ℕ) → element.Lexeme kind n ≡ include_line xs → ⊥
include_no_token xs kind n is =
    ⊎_elim
    (λ unended. let line = is ∙ unended in cc)
    (λ ended. let line = is ∙ ended.2 in cc)
    (line_end_parts element.Include 1 (drop 1 xs) (first_place (stops stop.IncludeLine) (drop 1 xs)) (subst GoesOn is tt))

hash_token : (r : List ℕ) (kind : Kind) (n : ℕ) → IsElement (class_of true (35 ∷ r)) (35 ∷ r) (element.Lexeme kind n) → IsElement (class_of false (35 ∷ r)) (35 ∷ r) (element.Lexeme kind n)
hash_token r kind n is =
    let P : Class → Type 0 = λ c. IsElement c (35 ∷ r) (element.Lexeme kind n) in
    ⊎_elim
    (λ include.
    let line : class_of true (35 ∷ r) ≡ class.IncludeLine = cond-true (begins_include (35 ∷ r)) class.IncludeLine class.Other include in
    absurd (include_no_token (35 ∷ r) kind n (subst P line is)))
    (λ other. subst P (class_alike 35 r other) is)
    (cases_Bool (begins_include (35 ∷ r)))

pub token_stale : (fresh : Bool) (xs : List ℕ) (kind : Kind) (n : ℕ) → IsElement (class_of fresh xs) xs (element.Lexeme kind n) → IsElement (class_of false xs) xs (element.Lexeme kind n)
token_stale false xs kind n is = is
token_stale true [] kind n is = is
token_stale true (x ∷ r) kind n is =
    ⊎_elim
    (λ hash.
    let same : x ≡ 35 = sym (eqb-true 35 x hash) in
    let P : ℕ → Type 0 = λ y. IsElement (class_of true (y ∷ r)) (y ∷ r) (element.Lexeme kind n) → IsElement (class_of false (y ∷ r)) (y ∷ r) (element.Lexeme kind n) in
    subst P (sym same) (λ is'. hash_token r kind n is') is)
    (λ other.
    let Q : Class → Type 0 = λ c. IsElement c (x ∷ r) (element.Lexeme kind n) in
    subst Q (class_alike x r (no_include x r other)) is)
    (cases_Bool (nat_eq 35 x))

-- the reading behind a token at the front
pub record Behind (at : ℕ) (xs : List ℕ) (r : Reading) (kind : Kind) (n : ℕ) : Type 0 where
  pub rest : Reading
  pub scanned : Scan false (at + n) (drop n xs) rest
  pub is : r ≡ reading_from at (element.Lexeme kind n) rest

pub behind_token : (fresh : Bool) (at : ℕ) (xs : List ℕ) (r : Reading) (kind : Kind) (n : ℕ) → Scan fresh at xs r → IsElement (class_of fresh xs) xs (element.Lexeme kind n) → Behind at xs r kind n
behind_token fresh at xs _ kind n (ends p is last) token = absurd (last (subst GoesOn (element_unique (class_of fresh xs) xs (element.Lexeme kind n) p token is) tt))
behind_token fresh at xs _ kind n (goes_on {r = r} p is goes rest) token =
    let same : p ≡ element.Lexeme kind n = element_unique (class_of fresh xs) xs p (element.Lexeme kind n) is token in
    let P : Element → Type 0 = λ q. Scan (fresh_behind fresh xs q) (at + width q) (drop (width q) xs) r in
    record { rest = r; scanned = subst P same rest; is = ap (λ q. reading_from at q r) same }

-- ---- no refused token

hash_other : (r : List ℕ) (p : Element) → IsPunctuator (35 ∷ r) p → NotRefused p → ⊥
hash_other r (element.Lexeme kind n) is accepted = hash_refused r (element.Lexeme kind n) is tt accepted
hash_other r (element.Bad fault at) is accepted = let none = is.2 1 (omega arith) in cc
hash_other r element.End is accepted = is
hash_other r element.Blank is accepted = is
hash_other r (element.Comment n) is accepted = is
hash_other r (element.Include n) is accepted = is

pub element_fresh : (xs : List ℕ) (p : Element) → NotRefused p → IsElement (class_of false xs) xs p → IsElement (class_of true xs) xs p
element_fresh [] p accepted is = is
element_fresh (x ∷ r) p accepted is =
    ⊎_elim
    (λ hash.
    let same : x ≡ 35 = sym (eqb-true 35 x hash) in
    let P : ℕ → Type 0 = λ y. IsElement (class_of false (y ∷ r)) (y ∷ r) p → ⊥ in
    absurd (subst P (sym same) (λ is'. hash_other r p is' accepted) is))
    (λ other.
    let Q : Class → Type 0 = λ c. IsElement c (x ∷ r) p in
    subst Q (sym (class_alike x r (no_include x r other))) is)
    (cases_Bool (nat_eq 35 x))

as_fresh : (fresh : Bool) (xs : List ℕ) (p : Element) → NotRefused p → IsElement (class_of fresh xs) xs p → IsElement (class_of true xs) xs p
as_fresh true xs p accepted is = is
as_fresh false xs p accepted is = element_fresh xs p accepted is

last_accepted : (p : Element) → (GoesOn p → ⊥) → NotRefused p
last_accepted element.End last = tt
last_accepted (element.Bad fault at) last = tt
last_accepted element.Blank last = tt
last_accepted (element.Comment n) last = tt
last_accepted (element.Include n) last = tt
last_accepted (element.Lexeme kind n) last = absurd (last tt)

scan_fresh : (fresh : Bool) (at : ℕ) (xs : List ℕ) (r : Reading) → Scan fresh at xs r → NoneRefused r.tokens → Scan true at xs r
scan_fresh fresh at xs _ (ends p is last) accepted = ends p (as_fresh fresh xs p (last_accepted p last) is) last
scan_fresh fresh at xs _ (goes_on element.End is goes rest) accepted = absurd goes
scan_fresh fresh at xs _ (goes_on (element.Bad fault n) is goes rest) accepted = absurd goes
scan_fresh fresh at xs _ (goes_on {r = r} element.Blank is goes rest) accepted =
    goes_on element.Blank (as_fresh fresh xs element.Blank tt is) tt (scan_fresh (fresh_behind fresh xs element.Blank) (at + 1) (drop 1 xs) r rest accepted)
scan_fresh fresh at xs _ (goes_on (element.Comment n) is goes rest) accepted = goes_on (element.Comment n) (as_fresh fresh xs (element.Comment n) tt is) tt rest
scan_fresh fresh at xs _ (goes_on (element.Include n) is goes rest) accepted = goes_on (element.Include n) (as_fresh fresh xs (element.Include n) tt is) tt rest
scan_fresh fresh at xs _ (goes_on (element.Lexeme kind n) is goes rest) accepted = goes_on (element.Lexeme kind n) (as_fresh fresh xs (element.Lexeme kind n) accepted.0 is) tt rest

-- a text with no refused token is read the same where only blanks stand before it on the line
pub scan_as : (fresh : Bool) (at : ℕ) (xs : List ℕ) (r : Reading) → Scan false at xs r → NoneRefused r.tokens → Scan fresh at xs r
scan_as true at xs r scanned accepted = scan_fresh false at xs r scanned accepted
scan_as false at xs r scanned accepted = scanned
