-- Terms of tokens: which kinds they come from, and when two are one.
use Rattle.std.proofs.Common.{◌≡◌, ℕ, ℤ, Bool, true, false, List, Option, Some, None, refl, ap, sym, ◌∙◌, arith, rules}
use denote.Enum.Bare.{same_true, same_false, true_same, false_same}
use Rattle.c_lexer.specs.declared.token.Token.{Token}
use Rattle.c_lexer.specs.declared.token.Kind.{Kind}
use Rattle.c_lexer.specs.declared.token.Kind.TheVariants as kind
use Rattle.c_parser.specs.contracts.term.Term.{the_type}
use Rattle.c_parser.specs.declared.term.Term.{Term}
use Rattle.c_parser.specs.declared.term.Term.TheVariants as term
use Rattle.c_parser.specs.Term.{term_of, kind_term, same}
use Rattle.c_parser.specs.ReadExpressions.{name_in, number_in, text_in}

pub name_term : (t : Token) (text : List ℕ) → t.kind ≡ kind.Name text → term_of t ≡ term.Name
unfolding term_of
name_term t text is = ap kind_term is

pub number_term : (t : Token) (value : ℤ) → t.kind ≡ kind.Number value → term_of t ≡ term.Number
unfolding term_of
number_term t value is = ap kind_term is

pub text_term : (t : Token) (text : List ℕ) → t.kind ≡ kind.Text text → term_of t ≡ term.Text
unfolding term_of
text_term t text is = ap kind_term is

pub same_self : (x : Term) → same x x ≡ true
unfolding same
same_self x = true_same the_type x x refl

pub same_is : (x y : Term) → same x y ≡ true → x ≡ y
unfolding same
same_is x y is = same_true the_type (search rules) x y is

pub same_not : (x y : Term) → same x y ≡ false → x ≡ y → ⊥
unfolding same
same_not x y is e = same_false the_type x y is e

pub same_other : (x y : Term) → (x ≡ y → ⊥) → same x y ≡ false
unfolding same
same_other x y other = false_same the_type (search rules) x y other

-- what a name carries, and that it is one

pub name_in_is : (k : Kind) (text : List ℕ) → name_in k ≡ Some text → k ≡ kind.Name text
name_in_is (kind.Name s) text is = cc
name_in_is _ text is = absurd (cc)

pub number_in_is : (k : Kind) (value : ℤ) → number_in k ≡ Some value → k ≡ kind.Number value
number_in_is (kind.Number n) value is = cc
number_in_is _ value is = absurd (cc)

pub text_in_is : (k : Kind) (text : List ℕ) → text_in k ≡ Some text → k ≡ kind.Text text
text_in_is (kind.Text s) text is = cc
text_in_is _ text is = absurd (cc)
