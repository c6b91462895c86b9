-- How many bytes a class has at least.
use Rattle.std.specs.Prelude.{ℕ, ◌+◌, ◌<◌, ◌≤◌, List, length}
use Rattle.std.specs.List.{prefix_len}
use Rattle.c_lexer.specs.declared.element.Class.{Class}
use Rattle.c_lexer.specs.declared.element.Class.TheVariants as class
use Rattle.c_lexer.specs.declared.element.Element.{Element}
use Rattle.c_lexer.specs.declared.element.Element.TheVariants as element
use Rattle.c_lexer.specs.declared.element.Next.{Next}
use Rattle.c_lexer.specs.declared.element.Next.TheVariants.{Plain, Escape, Close, LineEnd, NoByte, NoEscape}
use Rattle.c_lexer.specs.Bytes.{is_word_byte, is_number_byte}

-- the text begins with as many bytes as the class wants
abbrev pub Opens : Class → List ℕ → Type 0
Opens class.End xs = Unit {0}
Opens class.Blank xs = 1 ≤ length xs
Opens class.LineComment xs = 2 ≤ length xs
Opens class.BlockComment xs = 2 ≤ length xs
Opens class.IncludeLine xs = 1 ≤ length xs
Opens class.Word xs = 0 < prefix_len is_word_byte xs
Opens class.Digits xs = 0 < prefix_len is_number_byte xs
Opens class.Text xs = 1 ≤ length xs
Opens class.Character xs = 1 ≤ length xs
Opens class.Other xs = 1 ≤ length xs

-- an element has as many bytes as the text has at most, and at least one where others follow
abbrev pub Fits : Element → List ℕ → Type 0
Fits element.End xs = Unit {0}
Fits element.Blank xs = 1 ≤ length xs
Fits (element.Comment n) xs = (0 < n) × (n ≤ length xs)
Fits (element.Include n) xs = (0 < n) × (n ≤ length xs)
Fits (element.Lexeme kind n) xs = (0 < n) × (n ≤ length xs)
Fits (element.Bad fault at) xs = at ≤ length xs

-- what stands next between quotes has as many bytes as the text has at most
abbrev pub Holds : Next → List ℕ → Type 0
Holds (Plain b) xs = 1 ≤ length xs
Holds (Escape b) xs = 2 ≤ length xs
Holds Close xs = 1 ≤ length xs
Holds LineEnd xs = Unit {0}
Holds NoByte xs = 1 ≤ length xs
Holds NoEscape xs = 1 ≤ length xs

-- n bytes, and a byte behind them unless the line ends, stand at the front of the text
abbrev pub Leaves : ℕ → Next → List ℕ → Type 0
Leaves n LineEnd xs = n ≤ length xs
Leaves n end xs = n + 1 ≤ length xs
