-- The elements that a text is cut into (C99 6.4 and 6.4.9), each with the condition on it.
use Rattle.std.specs.Prelude.{◌≡◌, ℕ, ◌+◌, ◌-◌, ◌*◌, ◌<◌, ◌≤◌, Bool, false, ◌&&◌, ◌||◌, not, ◌==◌, nat_lt, List, [], ◌∷◌, Option, Some, None, if◌then◌else◌, codes, length, take, drop, fold, ℤ, pos}
use Rattle.std.specs.List.{prefix_len, list_all}
use Rattle.c_lexer.specs.declared.token.Kind.TheVariants as kind
use Rattle.c_lexer.specs.declared.element.Fault.TheVariants.{BadByte, OpenComment, OpenText, BadEscape, WideNumber}
use Rattle.c_lexer.specs.declared.element.Class.{Class}
use Rattle.c_lexer.specs.declared.element.Class.TheVariants as class
use Rattle.c_lexer.specs.declared.element.Stop.TheVariants as stop
use Rattle.c_lexer.specs.declared.element.Element.{Element}
use Rattle.c_lexer.specs.declared.element.Element.TheVariants as element
use Rattle.c_lexer.specs.declared.element.Quote.{Quote}
use Rattle.c_lexer.specs.declared.element.Quote.TheVariants.{Double, Single}
use Rattle.c_lexer.specs.declared.element.Next.{Next}
use Rattle.c_lexer.specs.declared.element.Next.TheVariants.{Plain, Escape, Close, LineEnd, NoByte, NoEscape}
use Rattle.c_lexer.specs.Bytes.{within, is_digit, is_word_byte, is_number_byte, begins, continues, continues_in_comment, stops}
use Rattle.c_lexer.specs.Words.{kind_of_word, punctuator_kind, number_form}

-- ---- comments and include lines

-- one place further
abbrev pub one_further : Option ℕ → Option ℕ
one_further None = None
one_further (Some n) = Some (n + 1)

-- the first place from which the text passes the test, before its end
abbrev pub first_place : (List ℕ → Bool) → List ℕ → Option ℕ
first_place test [] = None
first_place test (b ∷ rest) = if test (b ∷ rest) then Some 0 else one_further (first_place test rest)

-- A `//` comment and an include line reach from their opening to the end of the text, or to where they stop. A line
-- continuation is a fault.
abbrev pub line_end : (ℕ → Element) → ℕ → List ℕ → Option ℕ → Element
line_end make opening body None = make (opening + length body)
line_end make opening body (Some n) = if continues (drop n body) then element.Bad BadByte (opening + n) else make (opening + n)

abbrev pub line_comment : List ℕ → Element
line_comment xs = line_end element.Comment 2 (drop 2 xs) (first_place (stops stop.LineComment) (drop 2 xs))

abbrev pub include_line : List ℕ → Element
include_line xs = line_end element.Include 1 (drop 1 xs) (first_place (stops stop.IncludeLine) (drop 1 xs))

-- A `/* */` comment reaches to the first `*/` behind its opening. A line continuation directly behind a `*` is a
-- fault where it comes first; the `*` of the opening counts for it.
abbrev pub block_end : List ℕ → Option ℕ → Element
block_end body None = element.Bad OpenComment 0
block_end body (Some n) = if begins (drop n body) (codes "*/") then element.Comment (n + 4) else element.Bad BadByte (n + 3)

abbrev pub block_comment : List ℕ → Element
block_comment xs =
    if continues_in_comment (drop 2 xs) then element.Bad BadByte 2
    else block_end (drop 2 xs) (first_place (stops stop.BlockComment) (drop 2 xs))

-- ---- words and numbers

-- the longest front of letters, digits and `_`
abbrev pub word_element : List ℕ → Element
word_element xs = let n = prefix_len is_word_byte xs in element.Lexeme (kind_of_word (take n xs)) n

-- digits, the first of which is `0` only where it stands alone; the run begins with a digit
abbrev pub is_decimal : List ℕ → Bool
is_decimal run = list_all is_digit run && (length run == 1 || not (begins run (48 ∷ [])))

abbrev pub with_digit : ℕ → ℕ → ℕ
with_digit value digit = value * 10 + (digit - 48)

abbrev pub decimal_value : List ℕ → ℕ
decimal_value digits = fold with_digit 0 digits

-- the greatest value of an int
abbrev pub greatest : ℕ
greatest = 2147483647

-- the value as an int, and None where it is above the greatest
abbrev pub int_of : ℕ → Option ℤ
int_of n = if nat_lt greatest n then None else Some (pos n)

abbrev pub decimal_element : Option ℤ → ℕ → Element
decimal_element None n = element.Bad WideNumber 0
decimal_element (Some value) n = element.Lexeme (kind.Number value) n

abbrev pub number_by : List ℕ → ℕ → Element
number_by run n = if is_decimal run then decimal_element (int_of (decimal_value run)) n else element.Lexeme (kind.Refused number_form) n

-- the longest front of letters, digits, `_` and `.`
abbrev pub number_element : List ℕ → Element
number_element xs = let n = prefix_len is_number_byte xs in number_by (take n xs) n

-- ---- strings and character constants

-- the byte of a simple escape (C99 6.4.4.4): `\a \b \t \n \v \f \r \" \' \\`
abbrev pub escaped : ℕ → Option ℕ
escaped c =
    if c == 97 then Some 7
    else (if c == 98 then Some 8
    else (if c == 116 then Some 9
    else (if c == 110 then Some 10
    else (if c == 118 then Some 11
    else (if c == 102 then Some 12
    else (if c == 114 then Some 13
    else (if c == 34 then Some 34
    else (if c == 39 then Some 39
    else (if c == 92 then Some 92
    else None)))))))))

abbrev pub quote_byte : Quote → ℕ
quote_byte Double = 34
quote_byte Single = 39

-- the bytes that stand for themselves, where neither the quote nor a backslash comes first
abbrev pub allowed : Quote → ℕ → Bool
allowed Double b = b == 9 || within 32 126 b || within 128 255 b
allowed Single b = within 32 126 b

-- `\0` stands in a character constant alone, where `'` must follow
abbrev pub is_zero_escape : Quote → List ℕ → Bool
is_zero_escape Double xs = false
is_zero_escape Single xs = begins xs (codes "0'")

abbrev pub or_zero : Option ℕ → Bool → Next
or_zero (Some b) zero = Escape b
or_zero None zero = if zero then Escape 0 else NoEscape

abbrev pub escape_next : Quote → List ℕ → Next
escape_next quote [] = NoEscape
escape_next quote (c ∷ rest) = or_zero (escaped c) (is_zero_escape quote (c ∷ rest))

-- what stands next behind an opening quote; the end of the text ends the line
abbrev pub next_of : Quote → List ℕ → Next
next_of quote [] = LineEnd
next_of quote (b ∷ rest) =
    if b == 10 then LineEnd
    else (if b == quote_byte quote then Close
    else (if b == 92 then escape_next quote rest
    else (if allowed quote b then Plain b
    else NoByte)))

-- what isn't a byte of the text between the quotes
abbrev pub Ends : Next → Type 0
Ends (Plain b) = ⊥
Ends (Escape b) = ⊥
Ends Close = Unit {0}
Ends LineEnd = Unit {0}
Ends NoByte = Unit {0}
Ends NoEscape = Unit {0}

-- The text behind an opening quote begins with n bytes that stand for these values (C99 6.4.4.4 and 6.4.5, a character
-- sequence), and then comes an end.
pub data CharSequence (quote : Quote) : List ℕ → List ℕ → ℕ → Next → Type 0 where
  none : {xs : List ℕ} {end : Next} → next_of quote xs ≡ end → Ends end → CharSequence quote xs [] 0 end
  plain : {xs values : List ℕ} {b n : ℕ} {end : Next} → next_of quote xs ≡ Plain b → CharSequence quote (drop 1 xs) values n end → CharSequence quote xs (b ∷ values) (1 + n) end
  escape : {xs values : List ℕ} {b n : ℕ} {end : Next} → next_of quote xs ≡ Escape b → CharSequence quote (drop 2 xs) values n end → CharSequence quote xs (b ∷ values) (2 + n) end

-- the fault of a string or character constant that isn't closed behind n bytes
abbrev pub unclosed : ℕ → Next → Element
unclosed n NoByte = element.Bad BadByte (n + 1)
unclosed n NoEscape = element.Bad BadEscape (n + 1)
unclosed n end = element.Bad OpenText 0

abbrev pub text_element : List ℕ → ℕ → Next → Element
text_element values n Close = element.Lexeme (kind.Text values) (n + 2)
text_element values n end = unclosed n end

-- a character constant has one character
abbrev pub one_character : List ℕ → ℕ → Element
one_character [] n = element.Bad OpenText 0
one_character (b ∷ []) n = element.Lexeme (kind.Number (pos b)) (n + 2)
one_character (b ∷ c ∷ values) n = element.Bad OpenText 0

abbrev pub character_element : List ℕ → ℕ → Next → Element
character_element values n Close = one_character values n
character_element values n end = unclosed n end

-- the element that begins with an opening quote
pub record IsQuoted (quote : Quote) (make : List ℕ → ℕ → Next → Element) (xs : List ℕ) (p : Element) : Type 0 where
  pub values : List ℕ
  pub bytes : ℕ
  pub end : Next
  pub spelled : CharSequence quote (drop 1 xs) values bytes end
  pub is : p ≡ make values bytes end

-- ---- punctuators

-- the longest front that is a punctuator of either table, and a bad byte where none is
abbrev pub IsPunctuator : List ℕ → Element → Type 0
IsPunctuator xs (element.Lexeme kind n) =
    (n ≤ length xs) × (punctuator_kind (take n xs) ≡ Some kind) × ((m : ℕ) → n < m → m ≤ length xs → punctuator_kind (take m xs) ≡ None)
IsPunctuator xs (element.Bad fault at) = (fault ≡ BadByte) × (at ≡ 0) × ((m : ℕ) → m ≤ length xs → punctuator_kind (take m xs) ≡ None)
IsPunctuator xs element.End = ⊥
IsPunctuator xs element.Blank = ⊥
IsPunctuator xs (element.Comment n) = ⊥
IsPunctuator xs (element.Include n) = ⊥

-- ---- the front element

-- p is the element at the front of xs, which begins as the class says
abbrev pub IsElement : Class → List ℕ → Element → Type 0
IsElement class.End xs p = p ≡ element.End
IsElement class.Blank xs p = p ≡ element.Blank
IsElement class.LineComment xs p = p ≡ line_comment xs
IsElement class.BlockComment xs p = p ≡ block_comment xs
IsElement class.IncludeLine xs p = p ≡ include_line xs
IsElement class.Word xs p = p ≡ word_element xs
IsElement class.Digits xs p = p ≡ number_element xs
IsElement class.Text xs p = IsQuoted Double text_element xs p
IsElement class.Character xs p = IsQuoted Single character_element xs p
IsElement class.Other xs p = IsPunctuator xs p
