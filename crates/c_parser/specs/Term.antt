-- What the grammar tells apart among tokens: names, numbers, texts, each key word and each punctuator.
use Rattle.std.specs.Prelude.{ℕ, Bool, true, false, List, [], ◌∷◌, if◌then◌else◌, codes}
use denote.Enum.Bare.{sameb}
use Rattle.c_lexer.specs.declared.token.Token.{Token}
use Rattle.c_lexer.specs.declared.token.Kind.{Kind}
use Rattle.c_lexer.specs.declared.token.Kind.TheVariants as kind
use Rattle.c_lexer.specs.Nest.{is_key, punctuates}
use Rattle.c_tree.specs.declared.tree.Word.{Word}
use Rattle.c_parser.specs.declared.term.Term.{Term}
use Rattle.c_parser.specs.contracts.term.Term.{the_type}
use Rattle.c_parser.specs.declared.term.Term.TheVariants as variant

-- the term of the key word of this number, and that of the punctuator
abbrev pub key_term : ℕ → Term
key_term n =
    if is_key n (codes "EOF") then variant.Eof
    else (if is_key n (codes "NULL") then variant.Null
    else (if is_key n (codes "break") then variant.Break
    else (if is_key n (codes "continue") then variant.Continue
    else (if is_key n (codes "else") then variant.Else
    else (if is_key n (codes "for") then variant.For
    else (if is_key n (codes "free") then variant.Free
    else (if is_key n (codes "getchar") then variant.Getchar
    else (if is_key n (codes "if") then variant.If
    else (if is_key n (codes "int") then variant.Int
    else (if is_key n (codes "malloc") then variant.Malloc
    else (if is_key n (codes "printf") then variant.Printf
    else (if is_key n (codes "putchar") then variant.Putchar
    else (if is_key n (codes "return") then variant.Return
    else (if is_key n (codes "sizeof") then variant.Sizeof
    else (if is_key n (codes "struct") then variant.Struct
    else (if is_key n (codes "typedef") then variant.Typedef
    else (if is_key n (codes "void") then variant.Void
    else (if is_key n (codes "while") then variant.While
    else variant.Other))))))))))))))))))

abbrev pub punctuator_term : ℕ → Term
punctuator_term n =
    if punctuates n (codes "!") then variant.Not
    else (if punctuates n (codes "!=") then variant.Differs
    else (if punctuates n (codes "%") then variant.Percent
    else (if punctuates n (codes "&&") then variant.AndAnd
    else (if punctuates n (codes "(") then variant.Open
    else (if punctuates n (codes ")") then variant.Close
    else (if punctuates n (codes "*") then variant.Star
    else (if punctuates n (codes "*=") then variant.StarPut
    else (if punctuates n (codes "+") then variant.Plus
    else (if punctuates n (codes "++") then variant.PlusPlus
    else (if punctuates n (codes "+=") then variant.PlusPut
    else (if punctuates n (codes ",") then variant.Comma
    else (if punctuates n (codes "-") then variant.Minus
    else (if punctuates n (codes "--") then variant.MinusMinus
    else (if punctuates n (codes "-=") then variant.MinusPut
    else (if punctuates n (codes "->") then variant.Arrow
    else (if punctuates n (codes "/") then variant.Slash
    else (if punctuates n (codes ";") then variant.Semicolon
    else (if punctuates n (codes "<") then variant.Less
    else (if punctuates n (codes "<=") then variant.AtMost
    else (if punctuates n (codes "=") then variant.Put
    else (if punctuates n (codes "==") then variant.Equals
    else (if punctuates n (codes ">") then variant.Greater
    else (if punctuates n (codes ">=") then variant.AtLeast
    else (if punctuates n (codes "[") then variant.OpenIndex
    else (if punctuates n (codes "]") then variant.CloseIndex
    else (if punctuates n (codes "{") then variant.OpenBrace
    else (if punctuates n (codes "||") then variant.OrOr
    else (if punctuates n (codes "}") then variant.CloseBrace
    else variant.Other))))))))))))))))))))))))))))

abbrev pub kind_term : Kind → Term
kind_term (kind.Name text) = variant.Name
kind_term (kind.Key n) = key_term n
kind_term (kind.Number value) = variant.Number
kind_term (kind.Text text) = variant.Text
kind_term (kind.Punct n) = punctuator_term n
kind_term (kind.Refused row) = variant.Other

unfoldable pub term_of : Token → Term
term_of t = kind_term t.kind

-- the term of the first token; the end counts as another term
abbrev pub next : List Token → Term
next [] = variant.Other
next (t ∷ ts) = term_of t

-- the two terms are one
unfoldable pub same : Term → Term → Bool
same = sameb the_type

-- the first token is of this term
abbrev pub sees : Term → List Token → Bool
sees x ts = same x (next ts)

-- a name where it stands
abbrev pub word : List ℕ → Token → Word
word text t = record { text = text; at = t.start }
