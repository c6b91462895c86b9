-- The tables of words and punctuators, each ascending by bytes, and the numbers of their places.
use Rattle.std.specs.Prelude.{ℕ, ◌+◌, ◌||◌, ◌==◌, List, [], ◌∷◌, Option, Some, None, if◌then◌else◌, nat_eq, codes}
use Rattle.std.specs.Cmp.Lexicographic.{pointwise}
use Rattle.c_lexer.specs.declared.token.Kind.{Kind}
use Rattle.c_lexer.specs.declared.token.Kind.TheVariants as kind

-- the key words
abbrev pub key_words : List (List ℕ)
key_words =
    codes "EOF" ∷ codes "NULL" ∷ codes "break" ∷ codes "continue" ∷ codes "else" ∷ codes "for" ∷
    codes "free" ∷ codes "getchar" ∷ codes "if" ∷ codes "int" ∷ codes "malloc" ∷ codes "printf" ∷
    codes "putchar" ∷ codes "return" ∷ codes "sizeof" ∷ codes "struct" ∷ codes "typedef" ∷
    codes "void" ∷ codes "while" ∷ []

-- the punctuators
abbrev pub punctuators : List (List ℕ)
punctuators =
    codes "!" ∷ codes "!=" ∷ codes "%" ∷ codes "&&" ∷ codes "(" ∷ codes ")" ∷ codes "*" ∷
    codes "*=" ∷ codes "+" ∷ codes "++" ∷ codes "+=" ∷ codes "," ∷ codes "-" ∷ codes "--" ∷
    codes "-=" ∷ codes "->" ∷ codes "/" ∷ codes ";" ∷ codes "<" ∷ codes "<=" ∷ codes "=" ∷
    codes "==" ∷ codes ">" ∷ codes ">=" ∷ codes "[" ∷ codes "]" ∷ codes "{" ∷ codes "||" ∷
    codes "}" ∷ []

-- words that are refused: key words and names of C99 that are left out, rows 0 to 32
abbrev pub refused_words : List (List ℕ)
refused_words =
    codes "_Bool" ∷ codes "_Complex" ∷ codes "_Imaginary" ∷ codes "abort" ∷ codes "assert" ∷
    codes "atexit" ∷ codes "auto" ∷ codes "calloc" ∷ codes "case" ∷ codes "char" ∷ codes "const" ∷
    codes "default" ∷ codes "do" ∷ codes "double" ∷ codes "enum" ∷ codes "exit" ∷ codes "extern" ∷
    codes "float" ∷ codes "goto" ∷ codes "inline" ∷ codes "long" ∷ codes "longjmp" ∷
    codes "realloc" ∷ codes "register" ∷ codes "restrict" ∷ codes "setjmp" ∷ codes "short" ∷
    codes "signed" ∷ codes "static" ∷ codes "switch" ∷ codes "union" ∷ codes "unsigned" ∷
    codes "volatile" ∷ []

-- punctuators of C99 that are left out, rows 33 to 57
abbrev pub refused_punctuators : List (List ℕ)
refused_punctuators =
    codes "#" ∷ codes "##" ∷ codes "%:" ∷ codes "%:%:" ∷ codes "%=" ∷ codes "%>" ∷ codes "&" ∷
    codes "&=" ∷ codes "." ∷ codes "..." ∷ codes "/=" ∷ codes ":" ∷ codes ":>" ∷ codes "<%" ∷
    codes "<:" ∷ codes "<<" ∷ codes "<<=" ∷ codes ">>" ∷ codes ">>=" ∷ codes "?" ∷ codes "^" ∷
    codes "^=" ∷ codes "|" ∷ codes "|=" ∷ codes "~" ∷ []

-- the row of a number of another form than a decimal one
abbrev pub number_form : ℕ
number_form = 58

-- the place of a word in a table whose first place has this number, and None where it isn't there
abbrev pub row_of : List ℕ → ℕ → List (List ℕ) → Option ℕ
row_of word number [] = None
row_of word number (first ∷ rest) = if pointwise nat_eq first word then Some number else row_of word (number + 1) rest

abbrev pub key_word : List ℕ → Option ℕ
key_word word = row_of word 0 key_words

abbrev pub refused_word : List ℕ → Option ℕ
refused_word word = row_of word 0 refused_words

abbrev pub punctuator : List ℕ → Option ℕ
punctuator word = row_of word 0 punctuators

abbrev pub refused_punctuator : List ℕ → Option ℕ
refused_punctuator word = row_of word 33 refused_punctuators

-- what the first answer is, or else the second
abbrev pub or_else : Option Kind → Option Kind → Option Kind
or_else (Some kind) other = Some kind
or_else None other = other

abbrev pub as_kind : (ℕ → Kind) → Option ℕ → Option Kind
as_kind make None = None
as_kind make (Some number) = Some (make number)

-- the kind of a punctuator of either table, and None for any other word
abbrev pub punctuator_kind : List ℕ → Option Kind
punctuator_kind word = or_else (as_kind kind.Punct (punctuator word)) (as_kind kind.Refused (refused_punctuator word))

-- a bound on the bytes of the punctuators that begin with this byte
abbrev pub most_from : ℕ → ℕ
most_from b =
    if b == 40 || b == 41 || b == 44 || b == 59 || b == 63 || b == 91 || b == 93 || b == 123 || b == 125 || b == 126 then 1
    else (if b == 46 || b == 60 || b == 62 then 3
    else (if b == 37 then 4
    else 2))

-- and of those that begin as the text does
abbrev pub most_bytes : List ℕ → ℕ
most_bytes [] = 0
most_bytes (b ∷ rest) = most_from b

-- the kind of a word (C99 6.4.1, 6.4.2): a key word, refused, or a name
abbrev pub or_name : Option Kind → List ℕ → Kind
or_name (Some kind) word = kind
or_name None word = kind.Name word

abbrev pub kind_of_word : List ℕ → Kind
kind_of_word word = or_name (or_else (as_kind kind.Key (key_word word)) (as_kind kind.Refused (refused_word word))) word
