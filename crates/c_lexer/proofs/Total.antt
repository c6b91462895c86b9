-- Every text has a reading: a list of tokens or a first fault.
use Rattle.std.proofs.Common.{◌≡◌, ℕ, zero, suc, ◌+◌, ◌<◌, ◌≤◌, Bool, true, List, [], ◌∷◌, Option, Some, None, length, take, drop, refl, ⊎_elim, arith, length-drop}
use Rattle.std.proofs.lemmas.Bool.{cases_lt}
use Rattle.c_lexer.specs.declared.token.Kind.{Kind}
use Rattle.c_lexer.specs.declared.element.Class.{Class}
use Rattle.c_lexer.specs.declared.element.Class.TheVariants as class
use Rattle.c_lexer.specs.declared.element.Fault.TheVariants.{BadByte}
use Rattle.c_lexer.specs.declared.element.Element.{Element}
use Rattle.c_lexer.specs.declared.element.Element.TheVariants as element
use Rattle.c_lexer.specs.declared.element.Quote.{Quote}
use Rattle.c_lexer.specs.declared.element.Quote.TheVariants.{Double, Single}
use Rattle.c_lexer.specs.declared.element.Next.{Next}
use Rattle.c_lexer.specs.declared.element.Next.TheVariants.{Plain, Escape, Close, LineEnd, NoByte, NoEscape}
use Rattle.c_lexer.specs.declared.reading.Reading.{Reading}
use Rattle.c_lexer.specs.Bytes.{class_of}
use Rattle.c_lexer.specs.Words.{punctuator_kind}
use Rattle.c_lexer.specs.Elements.{next_of, CharSequence, none, plain, escape, IsQuoted, IsPunctuator, IsElement, text_element, character_element, line_comment, include_line, block_comment, word_element, number_element}
use Rattle.c_lexer.specs.Scan.{Scan, ends, goes_on, width, fresh_behind, last_reading, reading_from, IsReading}
use Rattle.c_lexer.proofs.LocalPasses.{element_some}

record Spelled (quote : Quote) (xs : List ℕ) : Type 0 where
  values : List ℕ
  bytes : ℕ
  end : Next
  spelled : CharSequence quote xs values bytes end

spelled_by : (quote : Quote) (xs : List ℕ) → ((n : ℕ) → 0 < n → Spelled quote (drop n xs)) → (next : Next) → next_of quote xs ≡ next → Spelled quote xs
spelled_by quote xs behind (Plain b) is =
    let rest = behind 1 (omega arith) in
    record { values = b ∷ rest.values; bytes = 1 + rest.bytes; end = rest.end; spelled = plain is rest.spelled }
spelled_by quote xs behind (Escape b) is =
    let rest = behind 2 (omega arith) in
    record { values = b ∷ rest.values; bytes = 2 + rest.bytes; end = rest.end; spelled = escape is rest.spelled }
spelled_by quote xs behind Close is = record { values = []; bytes = 0; end = Close; spelled = none is tt }
spelled_by quote xs behind LineEnd is = record { values = []; bytes = 0; end = LineEnd; spelled = none is tt }
spelled_by quote xs behind NoByte is = record { values = []; bytes = 0; end = NoByte; spelled = none is tt }
spelled_by quote xs behind NoEscape is = record { values = []; bytes = 0; end = NoEscape; spelled = none is tt }

spelled_all : (quote : Quote) (most : ℕ) (xs : List ℕ) → length xs ≤ most → Spelled quote xs
spelled_all quote most [] within = record { values = []; bytes = 0; end = LineEnd; spelled = none refl tt }
spelled_all quote zero (x ∷ xs) within = absurd (omega arith)
spelled_all quote (suc most) (x ∷ xs) within =
    spelled_by quote (x ∷ xs) (λ n some. spelled_all quote most (drop n (x ∷ xs)) (omega (arith, length-drop n (x ∷ xs)))) (next_of quote (x ∷ xs)) refl

-- a front of m bytes or fewer, where no longer one is a punctuator
longest_of : (xs : List ℕ) (m : ℕ) → m ≤ length xs → ((k : ℕ) → m < k → k ≤ length xs → punctuator_kind (take k xs) ≡ None) → (p : Element) × IsPunctuator xs p
longest_of xs m within longer = by_kind m within longer (punctuator_kind (take m xs)) refl
  where
    by_kind : (n : ℕ) → n ≤ length xs → ((k : ℕ) → n < k → k ≤ length xs → punctuator_kind (take k xs) ≡ None) → (o : Option Kind) → punctuator_kind (take n xs) ≡ o → (p : Element) × IsPunctuator xs p
    by_kind n inside none_longer (Some kind) is = (element.Lexeme kind n, (inside, is, none_longer))
    by_kind zero inside none_longer None is = (
      element.Bad BadByte 0,
      (
        refl,
        refl,
        λ k at_most.
            ⊎_elim
            (λ above. none_longer k above at_most)
            (λ below. let here : k ≡ 0 = omega arith in rw here is)
            (cases_lt 0 k),
      ),
    )
    by_kind (suc n) inside none_longer None is =
        by_kind n (omega arith) (λ k above at_most.
        ⊎_elim
        (λ more. none_longer k more at_most)
        (λ below. let here : k ≡ suc n = omega arith in rw here is)
        (cases_lt (suc n) k)) (punctuator_kind (take n xs)) refl

quoted_all : (quote : Quote) (make : List ℕ → ℕ → Next → Element) (xs : List ℕ) → (p : Element) × IsQuoted quote make xs p
quoted_all quote make xs =
    let s = spelled_all quote (length (drop 1 xs)) (drop 1 xs) (omega arith) in
    (make s.values s.bytes s.end, record { values = s.values; bytes = s.bytes; end = s.end; spelled = s.spelled; is = refl })

element_of : (c : Class) (xs : List ℕ) → (p : Element) × IsElement c xs p
element_of class.End xs = (element.End, refl)
element_of class.Blank xs = (element.Blank, refl)
element_of class.LineComment xs = (line_comment xs, refl)
element_of class.BlockComment xs = (block_comment xs, refl)
element_of class.IncludeLine xs = (include_line xs, refl)
element_of class.Word xs = (word_element xs, refl)
element_of class.Digits xs = (number_element xs, refl)
element_of class.Text xs = quoted_all Double text_element xs
element_of class.Character xs = quoted_all Single character_element xs
element_of class.Other xs = longest_of xs (length xs) (omega arith) (λ k above at_most. absurd (omega arith))

scan_by : (fresh : Bool) (at : ℕ) (xs : List ℕ) → ((p : Element) → 0 < width p → (r : Reading) × Scan (fresh_behind fresh xs p) (at + width p) (drop (width p) xs) r) → (p : Element) → IsElement (class_of fresh xs) xs p → (r : Reading) × Scan fresh at xs r
scan_by fresh at xs behind element.End is = (last_reading at element.End, ends element.End is (λ goes. goes))
scan_by fresh at xs behind (element.Bad fault n) is = (last_reading at (element.Bad fault n), ends (element.Bad fault n) is (λ goes. goes))
scan_by fresh at xs behind element.Blank is = let rest = behind element.Blank (omega arith) in (reading_from at element.Blank rest.0, goes_on element.Blank is tt rest.1)
scan_by fresh at xs behind (element.Comment n) is =
    let rest = behind (element.Comment n) (element_some fresh xs (element.Comment n) tt is) in (reading_from at (element.Comment n) rest.0, goes_on (element.Comment n) is tt rest.1)
scan_by fresh at xs behind (element.Include n) is =
    let rest = behind (element.Include n) (element_some fresh xs (element.Include n) tt is) in (reading_from at (element.Include n) rest.0, goes_on (element.Include n) is tt rest.1)
scan_by fresh at xs behind (element.Lexeme kind n) is =
    let rest = behind (element.Lexeme kind n) (element_some fresh xs (element.Lexeme kind n) tt is) in (reading_from at (element.Lexeme kind n) rest.0, goes_on (element.Lexeme kind n) is tt rest.1)

scan_all : (most : ℕ) (fresh : Bool) (at : ℕ) (xs : List ℕ) → length xs ≤ most → (r : Reading) × Scan fresh at xs r
scan_all most fresh at [] within = (last_reading at element.End, ends element.End refl (λ goes. goes))
scan_all zero fresh at (x ∷ xs) within = absurd (omega arith)
scan_all (suc most) fresh at (x ∷ xs) within =
    let front = element_of (class_of fresh (x ∷ xs)) (x ∷ xs) in
    scan_by fresh at (x ∷ xs) (λ p some. scan_all most (fresh_behind fresh (x ∷ xs) p) (at + width p) (drop (width p) (x ∷ xs)) (omega (arith, length-drop (width p) (x ∷ xs)))) front.0 front.1

pub reading_of : (bytes : List ℕ) → (r : Reading) × IsReading bytes r
reading_of bytes = scan_all (length bytes) true 0 bytes (omega arith)
