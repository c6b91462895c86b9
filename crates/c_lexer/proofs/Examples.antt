-- The definitions, computed.
use Rattle.std.proofs.Common.{◌≡◌, ℕ, [], ◌∷◌, ◌++◌, Some, None, true, false, pos, take, subst, refl, arith}
use Rattle.std.specs.Prelude.{codes}
use Rattle.c_lexer.specs.declared.token.Kind.TheVariants as kind
use Rattle.c_lexer.specs.declared.token.Token.{Token}
use Rattle.c_lexer.specs.declared.element.Class.TheVariants as class
use Rattle.c_lexer.specs.declared.element.Fault.TheVariants.{BadByte, OpenComment, WideNumber}
use Rattle.c_lexer.specs.declared.element.Element.TheVariants as element
use Rattle.c_lexer.specs.declared.element.Quote.TheVariants.{Double, Single}
use Rattle.c_lexer.specs.declared.element.Next.TheVariants.{Close, NoEscape}
use Rattle.c_lexer.specs.Words.{key_word, punctuator, refused_word, refused_punctuator, kind_of_word, punctuator_kind}
use Rattle.c_lexer.specs.Bytes.{class_of}
use Rattle.c_lexer.specs.Elements.{word_element, number_element, line_comment, include_line, block_comment, CharSequence, none, plain, escape, IsPunctuator}
use Rattle.c_lexer.specs.Scan.{IsReading, ends, goes_on}
use Rattle.c_lexer.specs.Nest.{at_first, nest, behind}

-- the tables
last_key_word : key_word (codes "while") ≡ Some 18
last_key_word = refl

arrow : punctuator (codes "->") ≡ Some 15
arrow = refl

last_refused_word : refused_word (codes "volatile") ≡ Some 32
last_refused_word = refl

last_refused_punctuator : refused_punctuator (codes "~") ≡ Some 57
last_refused_punctuator = refl

a_name : kind_of_word (codes "ints") ≡ kind.Name (codes "ints")
a_name = refl

a_refused_word : kind_of_word (codes "auto") ≡ kind.Refused 6
a_refused_word = refl

-- what begins at the front
an_include_line : class_of true (codes "# include <a>") ≡ class.IncludeLine
an_include_line = refl

no_include_line : class_of false (codes "# include <a>") ≡ class.Other
no_include_line = refl

-- the elements
a_key_word : word_element (codes "int x") ≡ element.Lexeme (kind.Key 9) 3
a_key_word = refl

greatest_number : number_element (codes "2147483647;") ≡ element.Lexeme (kind.Number (pos 2147483647)) 10
greatest_number = refl

wide_number : number_element (codes "2147483648;") ≡ element.Bad WideNumber 0
wide_number = refl

octal_number : number_element (codes "010") ≡ element.Lexeme (kind.Refused 58) 3
octal_number = refl

real_number : number_element (codes "1.5+") ≡ element.Lexeme (kind.Refused 58) 3
real_number = refl

to_the_newline : line_comment (codes "// a" ++ 10 ∷ 98 ∷ []) ≡ element.Comment 4
to_the_newline = refl

continued_line : line_comment (codes "// a" ++ 92 ∷ 10 ∷ []) ≡ element.Bad BadByte 4
continued_line = refl

to_the_first_end : block_comment (codes "/* /* */ */") ≡ element.Comment 8
to_the_first_end = refl

no_end : block_comment (codes "/*/") ≡ element.Bad OpenComment 0
no_end = refl

continued_star : block_comment (codes "/*" ++ 92 ∷ 10 ∷ codes "*/") ≡ element.Bad BadByte 2
continued_star = refl

to_the_comment : include_line (codes "#include <a> // b") ≡ element.Include 13
to_the_comment = refl

no_longer : punctuator_kind (codes "==x") ≡ None
no_longer = refl

two_equals : IsPunctuator (codes "==x") (element.Lexeme (kind.Punct 21) 2)
two_equals = (
  omega arith,
  refl,
  λ m above inside. let last : 3 ≡ m = omega arith in let P : ℕ → Type 0 = λ k. punctuator_kind (take k (codes "==x")) ≡ None in subst P last no_longer,
)

a_string : CharSequence Double (codes "a\"") (97 ∷ []) 1 Close
a_string = plain refl (none refl tt)

zero_in_a_string : CharSequence Double (92 ∷ codes "0'") [] 0 NoEscape
zero_in_a_string = none refl tt

zero_in_a_character : CharSequence Single (92 ∷ codes "0'") (0 ∷ []) 2 Close
zero_in_a_character = escape refl (none refl tt)

-- a whole text
a_text : IsReading (codes "x //") (record { tokens = record { kind = kind.Name (codes "x"); start = 0; end = 1 } ∷ []; last_comment = Some (2, 4); fault = None })
a_text =
    goes_on (element.Lexeme (kind.Name (codes "x")) 1) refl tt (goes_on element.Blank refl tt (goes_on (element.Comment 2) refl tt (ends element.End refl (λ goes. goes))))

-- `if (x) while (y) ;` and an `else`: the counts of both are kept up to the `else`
a_branch : let word = λ (number : ℕ). let t : Token = record { kind = kind.Key number; start = 0; end = 0 } in t in
    nest (behind false (word 8) (word 18 ∷ []) (behind false (word 18) (word 4 ∷ []) at_first)) ≡ 2
a_branch = refl
