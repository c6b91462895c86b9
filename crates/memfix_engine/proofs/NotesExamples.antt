-- Lines and columns of places in texts, the texts of the refused rows, and lines.
use Rattle.std.proofs.Common.{◌≡◌, ℕ, List, [], ◌∷◌, ◌++◌, length, refl, lit<}
use Rattle.std.specs.Prelude.{codes}
use Rattle.std.proofs.lemmas.Fmt.{decimal_digit}
use Rattle.c_lexer.specs.declared.refusal.LexRefusal.TheVariants.{Construct}
use Rattle.c_tree.specs.declared.limits.Limit.TheVariants.{Contexts}
use Rattle.memfix_engine.specs.Notes.{line_number, column_number, row_texts, row_text, lex_line, limit_line, alone_line}

-- a text of four lines: a, bc, an empty one, and d
abbrev text : List ℕ
text = 97 ∷ 10 ∷ 98 ∷ 99 ∷ 10 ∷ 10 ∷ 100 ∷ []

line_of_the_first_byte : line_number text 0 ≡ 1
line_of_the_first_byte = refl

column_of_the_first_byte : column_number text 0 ≡ 1
column_of_the_first_byte = refl

line_of_a_newline : line_number text 1 ≡ 1
line_of_a_newline = refl

column_of_a_newline : column_number text 1 ≡ 2
column_of_a_newline = refl

line_of_c : line_number text 3 ≡ 2
line_of_c = refl

column_of_c : column_number text 3 ≡ 2
column_of_c = refl

line_of_the_end : line_number text 7 ≡ 4
line_of_the_end = refl

column_of_the_end : column_number text 7 ≡ 2
column_of_the_end = refl

-- behind the text counts as its end
line_behind_the_end : line_number text 9 ≡ 4
line_behind_the_end = refl

column_behind_the_end : column_number text 9 ≡ 2
column_behind_the_end = refl

-- each row has its text
all_rows : length row_texts ≡ 59
all_rows = refl

last_word : row_text 32 ≡ codes "volatile"
last_word = refl

first_punctuator : row_text 33 ≡ codes "directive"
first_punctuator = refl

last_punctuator : row_text 57 ≡ codes "bit-not"
last_punctuator = refl

last_row : row_text 58 ≡ codes "number form"
last_row = refl

a_line : lex_line text (Construct 51 3) ≡ codes "memfix: line 2, column 2: not in the profile: right shift" ++ 10 ∷ []
a_line = rw (decimal_digit 2 (lit< tt)) refl

the_line_of_a_limit : limit_line Contexts ≡ codes "memfix: limit: more than 1024 contexts" ++ 10 ∷ []
the_line_of_a_limit = refl

a_line_of_two_places : alone_line text 3 6 ≡ codes "memfix: line 2, column 2: no free fits this object on the way to the exit at line 4" ++ 10 ∷ []
a_line_of_two_places = rw (decimal_digit 2 (lit< tt), decimal_digit 4 (lit< tt)) refl
