-- The numbers among the tokens of a text are values of an int.
use Rattle.std.proofs.Common.{◌≡◌, ℕ, ◌+◌, ◌≤◌, Bool, true, false, nat_lt, nat_le, ◌&&◌, ◌==◌, if◌then◌else◌, ℤ, pos, negsuc, List, [], ◌∷◌, codes, length, take, drop, Option, Some, None, refl, sym, subst, arith}
use Rattle.std.specs.List.{prefix_len}
use Rattle.std.proofs.lemmas.Bool.{ltb-false, leb-true}
use Rattle.c_lexer.specs.declared.token.Kind.{Kind}
use Rattle.c_lexer.specs.declared.token.Kind.TheVariants as kind
use Rattle.c_lexer.specs.declared.token.Tokens.{Tokens}
use Rattle.c_lexer.specs.declared.element.Class.{Class}
use Rattle.c_lexer.specs.declared.element.Class.TheVariants as class
use Rattle.c_lexer.specs.declared.element.Element.{Element}
use Rattle.c_lexer.specs.declared.element.Element.TheVariants as element
use Rattle.c_lexer.specs.declared.element.Fault.TheVariants.{BadByte}
use Rattle.c_lexer.specs.declared.element.Next.{Next}
use Rattle.c_lexer.specs.declared.element.Next.TheVariants.{Plain, Escape, Close, LineEnd, NoByte, NoEscape}
use Rattle.c_lexer.specs.declared.element.Quote.TheVariants.{Single}
use Rattle.c_lexer.specs.declared.element.Stop.TheVariants as stop
use Rattle.c_lexer.specs.declared.reading.Reading.{Reading}
use Rattle.c_lexer.specs.Bytes.{class_of, is_word_byte, is_number_byte, begins, continues, continues_in_comment, stops}
use Rattle.c_lexer.specs.Elements.{IsElement, CharSequence, first_place, line_end, block_end, is_decimal, decimal_value, decimal_element, greatest, number_by, text_element, character_element, escaped, escape_next, is_zero_escape, or_zero, next_of}
use Rattle.c_lexer.specs.Words.{or_name, or_else, as_kind, key_word, refused_word, number_form, punctuator, refused_punctuator}
use Rattle.c_lexer.specs.Scan.{Scan, ends, goes_on, width, fresh_behind, last_reading, reading_from}
use Rattle.c_lexer.specs.Outcome.{AreTokens}
use Rattle.c_parser.specs.Offsets.{NumberHas, NumbersHave}

-- a value of an int
abbrev pub FitsInt : ℤ → Type 0
FitsInt (pos n) = n ≤ greatest
FitsInt (negsuc n) = n ≤ greatest

abbrev KindFits : Kind → Type 0
KindFits k = NumberHas FitsInt k

abbrev ElementFits : Element → Type 0
ElementFits (element.Lexeme k n) = KindFits k
ElementFits _ = Unit {0}

either : (b : Bool) (p q : Element) → ElementFits p → ElementFits q → ElementFits (if b then p else q)
either true p q h k = h
either false p q h k = k

-- comments and include lines

line_fits : (make : ℕ → Element) → ((n : ℕ) → ElementFits (make n)) → (opening : ℕ) (body : List ℕ) (o : Option ℕ) → ElementFits (line_end make opening body o)
line_fits make fit opening body None = fit (opening + length body)
line_fits make fit opening body (Some n) = either (continues (drop n body)) (element.Bad BadByte (opening + n)) (make (opening + n)) tt (fit (opening + n))

block_fits : (body : List ℕ) (o : Option ℕ) → ElementFits (block_end body o)
block_fits body None = tt
block_fits body (Some n) = either (begins (drop n body) (codes "*/")) (element.Comment (n + 4)) (element.Bad BadByte (n + 3)) tt tt

-- words and numbers

word_fits : (k r : Option ℕ) (w : List ℕ) → KindFits (or_name (or_else (as_kind kind.Key k) (as_kind kind.Refused r)) w)
word_fits (Some n) r w = tt
word_fits None (Some n) w = tt
word_fits None None w = tt

int_fits : (b : Bool) (v n : ℕ) → nat_lt greatest v ≡ b → ElementFits (decimal_element (if b then None else Some (pos v)) n)
int_fits true v n is = tt
int_fits false v n is = ltb-false greatest v is

number_fits : (run : List ℕ) (n : ℕ) → ElementFits (number_by run n)
number_fits run n =
    let v = decimal_value run in
    either (is_decimal run) (decimal_element (if nat_lt greatest v then None else Some (pos v)) n) (element.Lexeme (kind.Refused number_form) n) (int_fits (nat_lt greatest v) v n refl) tt

-- strings and character constants

text_fits : (values : List ℕ) (n : ℕ) (end : Next) → ElementFits (text_element values n end)
text_fits values n (Plain b) = tt
text_fits values n (Escape b) = tt
text_fits values n Close = tt
text_fits values n LineEnd = tt
text_fits values n NoByte = tt
text_fits values n NoEscape = tt

abbrev NextFits : Next → Type 0
NextFits (Plain b) = b ≤ greatest
NextFits (Escape b) = b ≤ greatest
NextFits _ = Unit {0}

next_either : (b : Bool) (p q : Next) → NextFits p → NextFits q → NextFits (if b then p else q)
next_either true p q h k = h
next_either false p q h k = k

plain_by : (low high : Bool) (b : ℕ) → nat_le b 126 ≡ high → NextFits (if low && high then Plain b else NoByte)
plain_by true true b is = let most = leb-true b 126 is in omega (arith, most)
plain_by false true b is = tt
plain_by true false b is = tt
plain_by false false b is = tt

abbrev OptionFits : Option ℕ → Type 0
OptionFits None = Unit {0}
OptionFits (Some b) = b ≤ greatest

option_either : (b : Bool) (p q : Option ℕ) → OptionFits p → OptionFits q → OptionFits (if b then p else q)
option_either true p q h k = h
option_either false p q h k = k

some_or : (b : Bool) (value : ℕ) (other : Option ℕ) → value ≤ greatest → OptionFits other → OptionFits (if b then Some value else other)
some_or true value other h k = h
some_or false value other h k = k

escaped_fits : (c : ℕ) → OptionFits (escaped c)
escaped_fits c =
    some_or (c == 97) 7 _ (omega arith) (some_or (c == 98) 8 _ (omega arith) (some_or (c == 116) 9 _ (omega arith) (some_or (c == 110) 10 _ (omega arith)
    (some_or (c == 118) 11 _ (omega arith) (some_or (c == 102) 12 _ (omega arith) (some_or (c == 114) 13 _ (omega arith) (some_or (c == 34) 34 _ (omega arith)
    (some_or (c == 39) 39 _ (omega arith) (some_or (c == 92) 92 None (omega arith) tt)))))))))

or_zero_fits : (o : Option ℕ) (zero : Bool) → OptionFits o → NextFits (or_zero o zero)
or_zero_fits (Some b) z h = h
or_zero_fits None true h = omega arith
or_zero_fits None false h = tt

single_fits : (xs : List ℕ) → NextFits (next_of Single xs)
single_fits [] = tt
single_fits (b ∷ rest) =
    next_either (b == 10) LineEnd _ tt (next_either (b == 39) Close _ tt (next_either (b == 92) _ _ (escape_fits rest) (plain_by (nat_le 32 b) (nat_le b 126) b refl)))
  where
    escape_fits : (ys : List ℕ) → NextFits (escape_next Single ys)
    escape_fits [] = tt
    escape_fits (c ∷ ys) = or_zero_fits (escaped c) (is_zero_escape Single (c ∷ ys)) (escaped_fits c)

abbrev AllFit : List ℕ → Type 0
AllFit [] = Unit {0}
AllFit (b ∷ bs) = (b ≤ greatest) × AllFit bs

characters_fit : {xs values : List ℕ} {n : ℕ} {end : Next} → CharSequence Single xs values n end → AllFit values
characters_fit (CharSequence.none is end) = tt
characters_fit (CharSequence.plain {xs = xs} is d) = (subst NextFits is (single_fits xs), characters_fit d)
characters_fit (CharSequence.escape {xs = xs} is d) = (subst NextFits is (single_fits xs), characters_fit d)

character_fits : (values : List ℕ) (n : ℕ) (end : Next) → AllFit values → ElementFits (character_element values n end)
character_fits [] n Close h = tt
character_fits (b ∷ []) n Close h = h.0
character_fits (b ∷ c ∷ values) n Close h = tt
character_fits values n (Plain b) h = tt
character_fits values n (Escape b) h = tt
character_fits values n LineEnd h = tt
character_fits values n NoByte h = tt
character_fits values n NoEscape h = tt

-- punctuators

abbrev SomeFits : Option Kind → Type 0
SomeFits None = Unit {0}
SomeFits (Some k) = KindFits k

punctuator_fits : (k r : Option ℕ) → SomeFits (or_else (as_kind kind.Punct k) (as_kind kind.Refused r))
punctuator_fits (Some n) r = tt
punctuator_fits None (Some n) = tt
punctuator_fits None None = tt

-- any element, and all tokens

element_fits : (c : Class) (xs : List ℕ) (p : Element) → IsElement c xs p → ElementFits p
element_fits class.End xs p is = subst ElementFits (sym is) tt
element_fits class.Blank xs p is = subst ElementFits (sym is) tt
element_fits class.LineComment xs p is = subst ElementFits (sym is) (line_fits element.Comment (λ n. tt) 2 (drop 2 xs) (first_place (stops stop.LineComment) (drop 2 xs)))
element_fits class.BlockComment xs p is =
    let body = drop 2 xs in
    let o = first_place (stops stop.BlockComment) body in
    subst ElementFits (sym is) (either (continues_in_comment body) (element.Bad BadByte 2) (block_end body o) tt (block_fits body o))
element_fits class.IncludeLine xs p is = subst ElementFits (sym is) (line_fits element.Include (λ n. tt) 1 (drop 1 xs) (first_place (stops stop.IncludeLine) (drop 1 xs)))
element_fits class.Word xs p is = let w = take (prefix_len is_word_byte xs) xs in subst ElementFits (sym is) (word_fits (key_word w) (refused_word w) w)
element_fits class.Digits xs p is = let n = prefix_len is_number_byte xs in subst ElementFits (sym is) (number_fits (take n xs) n)
element_fits class.Text xs p is = subst ElementFits (sym is.is) (text_fits is.values is.bytes is.end)
element_fits class.Character xs p is = subst ElementFits (sym is.is) (character_fits is.values is.bytes is.end (characters_fit is.spelled))
element_fits class.Other xs (element.Lexeme k n) is = let w = take n xs in subst SomeFits is.1 (punctuator_fits (punctuator w) (refused_punctuator w))
element_fits class.Other xs (element.Bad fault n) is = tt
element_fits class.Other xs element.End is = tt
element_fits class.Other xs element.Blank is = tt
element_fits class.Other xs (element.Comment n) is = tt
element_fits class.Other xs (element.Include n) is = tt

last_fits : (at : ℕ) (p : Element) → NumbersHave FitsInt (last_reading at p).tokens
last_fits at element.End = tt
last_fits at element.Blank = tt
last_fits at (element.Comment n) = tt
last_fits at (element.Include n) = tt
last_fits at (element.Lexeme k n) = tt
last_fits at (element.Bad fault n) = tt

from_fits : (at : ℕ) (p : Element) (r : Reading) → ElementFits p → NumbersHave FitsInt r.tokens → NumbersHave FitsInt (reading_from at p r).tokens
from_fits at element.End r h k = k
from_fits at element.Blank r h k = k
from_fits at (element.Comment n) r h k = k
from_fits at (element.Include n) r h k = k
from_fits at (element.Lexeme kind n) r h k = (h, k)
from_fits at (element.Bad fault n) r h k = k

scan_fits : (fresh : Bool) (at : ℕ) (xs : List ℕ) (r : Reading) → Scan fresh at xs r → NumbersHave FitsInt r.tokens
scan_fits fresh at xs _ (ends p is last) = last_fits at p
scan_fits fresh at xs _ (goes_on {r = r} p is goes rest) = from_fits at p r (element_fits (class_of fresh xs) xs p is) (scan_fits (fresh_behind fresh xs p) (at + width p) (drop (width p) xs) r rest)

-- what is so of the tokens that `lex` answers
pub answered_fit : (bytes : List ℕ) (tokens : Tokens) → AreTokens bytes tokens → NumbersHave FitsInt tokens.list
answered_fit bytes tokens are = scan_fits true 0 bytes (record { tokens = tokens.list; last_comment = tokens.last_comment; fault = None }) are.reads
