-- Classes of bytes (C99 5.2.1), and what begins at the front of a text.
use Rattle.std.specs.Prelude.{ℕ, Bool, true, false, ◌&&◌, ◌||◌, ◌==◌, nat_le, List, [], ◌∷◌, if◌then◌else◌, nat_eq, codes, drop}
use Rattle.std.specs.List.{starts_with, prefix_len}
use Rattle.c_lexer.specs.declared.element.Class.{Class}
use Rattle.c_lexer.specs.declared.element.Class.TheVariants as class
use Rattle.c_lexer.specs.declared.element.Stop.{Stop}
use Rattle.c_lexer.specs.declared.element.Stop.TheVariants as stop

abbrev pub within : ℕ → ℕ → ℕ → Bool
within low high b = nat_le low b && nat_le b high

-- the bytes 9 to 13, and 32
abbrev pub is_blank : ℕ → Bool
is_blank b = within 9 13 b || b == 32

abbrev pub is_digit : ℕ → Bool
is_digit b = within 48 57 b

-- letters, digits and `_`
abbrev pub is_word_byte : ℕ → Bool
is_word_byte b = is_digit b || within 65 90 b || b == 95 || within 97 122 b

-- those and `.`
abbrev pub is_number_byte : ℕ → Bool
is_number_byte b = is_word_byte b || b == 46

abbrev pub begins : List ℕ → List ℕ → Bool
begins xs word = starts_with nat_eq xs word

-- a newline, or byte 13 and a newline
abbrev pub line_end_next : List ℕ → Bool
line_end_next xs = begins xs (10 ∷ []) || begins xs (13 ∷ 10 ∷ [])

-- the end of the text, or byte 13 and the end
abbrev pub text_end_next : List ℕ → Bool
text_end_next [] = true
text_end_next (b ∷ []) = b == 13
text_end_next (b ∷ c ∷ rest) = false

-- the end of the text counts as a newline too
abbrev pub line_or_text_end_next : List ℕ → Bool
line_or_text_end_next xs = line_end_next xs || text_end_next xs

-- a line continuation (C99 5.1.1.2): outside a `/* */` comment, and in one
abbrev pub continues : List ℕ → Bool
continues xs = begins xs (92 ∷ []) && line_or_text_end_next (drop 1 xs)

abbrev pub continues_in_comment : List ℕ → Bool
continues_in_comment xs = begins xs (92 ∷ []) && line_end_next (drop 1 xs)

-- a `*` with a line continuation directly behind it
abbrev pub star_continues : List ℕ → Bool
star_continues xs = begins xs (42 ∷ []) && continues_in_comment (drop 1 xs)

-- where a comment or an include line stops
abbrev pub stops : Stop → List ℕ → Bool
stops stop.LineComment xs = begins xs (10 ∷ []) || continues xs
stops stop.IncludeLine xs = begins xs (10 ∷ []) || begins xs (codes "//") || begins xs (codes "/*") || continues xs
stops stop.BlockComment xs = begins xs (codes "*/") || star_continues xs

-- a space or a tab
abbrev pub is_space : ℕ → Bool
is_space b = b == 32 || b == 9

-- `#`, spaces or tabs, `include`
abbrev pub begins_include : List ℕ → Bool
begins_include xs = begins xs (35 ∷ []) && begins (drop (prefix_len is_space (drop 1 xs)) (drop 1 xs)) (codes "include")

-- What begins at the front of a text. Before it only blanks stand on its line, or not: an include line wants that.
abbrev pub class_of : Bool → List ℕ → Class
class_of fresh [] = class.End
class_of fresh (b ∷ rest) =
    if is_blank b then class.Blank
    else (if begins (b ∷ rest) (codes "//") then class.LineComment
    else (if begins (b ∷ rest) (codes "/*") then class.BlockComment
    else (if fresh && begins_include (b ∷ rest) then class.IncludeLine
    else (if is_digit b then class.Digits
    else (if is_word_byte b then class.Word
    else (if b == 34 then class.Text
    else (if b == 39 then class.Character
    else class.Other)))))))
