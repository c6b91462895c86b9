-- Each `}` among the tokens of a text is of one byte.
use Rattle.std.proofs.Common.{◌≡◌, ℕ, suc, ◌+◌, ◌-◌, Bool, true, false, ◌&&◌, List, [], ◌∷◌, Option, Some, None, length, take, drop, nat_eq, refl, sym, ap, ◌∙◌, subst, ⊎_elim, arith}
use Rattle.std.specs.Prelude.{codes, slice_get, if◌then◌else◌, ℤ}
use Rattle.std.specs.Cmp.Lexicographic.{pointwise}
use Rattle.std.specs.List.{prefix_len}
use Rattle.std.proofs.lemmas.Bool.{and_parts, cond-true, cond-false, cases_Bool}
use Rattle.std.proofs.lemmas.Bool.Decides.{nat_tests}
use Rattle.std.proofs.lemmas.List.{length-take-le}
use Rattle.c_lexer.specs.declared.token.Kind.{Kind}
use Rattle.c_lexer.specs.declared.token.Kind.TheVariants as kind
use Rattle.c_lexer.specs.declared.token.Token.{Token}
use Rattle.c_lexer.specs.declared.element.Class.{Class}
use Rattle.c_lexer.specs.declared.element.Class.TheVariants as class
use Rattle.c_lexer.specs.declared.element.Element.{Element}
use Rattle.c_lexer.specs.declared.element.Element.TheVariants as element
use Rattle.c_lexer.specs.declared.element.Next.{Next}
use Rattle.c_lexer.specs.declared.element.Stop.TheVariants as stop
use Rattle.c_lexer.specs.declared.reading.Reading.{Reading}
use Rattle.c_lexer.specs.Bytes.{class_of, is_number_byte, is_word_byte, stops}
use Rattle.c_lexer.specs.Elements.{IsElement, character_element, decimal_element, decimal_value, first_place, int_of, is_decimal, number_by, one_character, text_element}
use Rattle.c_lexer.specs.Nest.{is_key, punctuates}
use Rattle.c_lexer.specs.Scan.{GoesOn, HasTokens, Scan, ends, fresh_behind, goes_on, last_reading, reading_from, width}
use Rattle.c_lexer.specs.Words.{as_kind, key_word, number_form, or_else, or_name, punctuator, punctuators, refused_punctuator, refused_word, row_of}
use Rattle.c_lexer.proofs.Local.{character_closed, text_closed}
use Rattle.c_lexer.proofs.LocalSpans.{block_parts, line_end_parts}
use Rattle.c_parser.specs.declared.term.Term.{Term}
use Rattle.c_parser.specs.declared.term.Term.TheVariants as term
use Rattle.c_parser.specs.Term.{key_term, kind_term, punctuator_term, term_of}
use Rattle.c_parser.proofs.Rests.{Rest}

-- ---- the place of a word in a table

record IsRow (w : List ℕ) (n k : ℕ) (words : List (List ℕ)) : Type 0 where
  place : ℕ
  at : n ≡ k + place
  word : List ℕ
  is : slice_get words place ≡ Some word
  same : pointwise nat_eq word w ≡ true

row_case : (b : Bool) (w first : List ℕ) (n k : ℕ) (rest : List (List ℕ)) → pointwise nat_eq first w ≡ b → (if b then Some k else row_of w (k + 1) rest) ≡ Some n
    → (row_of w (k + 1) rest ≡ Some n → IsRow w n (k + 1) rest) → IsRow w n k (first ∷ rest)
row_case true w first n k rest same is later =
    let e : k ≡ n = cc in
    record { place = 0; at = omega (arith, e); word = first; is = refl; same = same }
row_case false w first n k rest same is later =
    let r = later is in
    record { place = suc r.place; at = omega (arith, r.at); word = r.word; is = r.is; same = r.same }

is_row : (w : List ℕ) (n k : ℕ) (words : List (List ℕ)) → row_of w k words ≡ Some n → IsRow w n k words
is_row w n k [] is = absurd cc
is_row w n k (first ∷ rest) is = row_case (pointwise nat_eq first w) w first n k rest refl is (is_row w n (k + 1) rest)

one_long : (w : List ℕ) → pointwise nat_eq (codes "}") w ≡ true → length w ≡ 1
one_long [] same = absurd cc
one_long (x ∷ []) same = refl
one_long (x ∷ y ∷ r) same = let no = (and_parts (nat_eq 125 x) false same).1 in absurd cc

close_long : (w : List ℕ) → punctuator w ≡ Some 28 → length w ≡ 1
close_long w is =
    let r = is_row w 28 0 punctuators is in
    let place : r.place ≡ 28 = omega (arith, r.at) in
    let listed : slice_get punctuators 28 ≡ Some r.word = ap (slice_get punctuators) (sym place) ∙ r.is in
    let word : r.word ≡ codes "}" = cc in
    one_long w (subst (λ (u : List ℕ). pointwise nat_eq u w ≡ true) word r.same)

-- ---- the element

word_differs : (a b : Option ℕ) (w : List ℕ) (m : ℕ) → or_name (or_else (as_kind kind.Key a) (as_kind kind.Refused b)) w ≡ kind.Punct m → ⊥
word_differs (Some k) b w m e = cc
word_differs None (Some k) w m e = cc
word_differs None None w m e = cc

decimal_differs : (o : Option ℤ) (n k m : ℕ) → element.Lexeme (kind.Punct m) k ≡ decimal_element o n → ⊥
decimal_differs None n k m e = cc
decimal_differs (Some value) n k m e = cc

number_differs : (run : List ℕ) (n k m : ℕ) → element.Lexeme (kind.Punct m) k ≡ number_by run n → ⊥
number_differs run n k m e =
    let decimal = decimal_element (int_of (decimal_value run)) n in
    let other : Element = element.Lexeme (kind.Refused number_form) n in
    ⊎_elim
    (λ yes'. decimal_differs (int_of (decimal_value run)) n k m (e ∙ cond-true (is_decimal run) decimal other yes'))
    (λ no'. let refused = e ∙ cond-false (is_decimal run) decimal other no' in cc)
    (cases_Bool (is_decimal run))

text_differs : (values : List ℕ) (n k m : ℕ) (end : Next) → element.Lexeme (kind.Punct m) k ≡ text_element values n end → ⊥
text_differs values n k m end e =
    let closed = (text_closed values n end (subst GoesOn e tt)).0 in
    let text = e ∙ ap (text_element values n) closed in
    cc

character_differs : (values : List ℕ) (n k m : ℕ) → element.Lexeme (kind.Punct m) k ≡ one_character values n → ⊥
character_differs [] n k m e = cc
character_differs (b ∷ []) n k m e = cc
character_differs (b ∷ c ∷ values) n k m e = cc

listed_by : (o r : Option ℕ) (m : ℕ) → or_else (as_kind kind.Punct o) (as_kind kind.Refused r) ≡ Some (kind.Punct m) → o ≡ Some m
listed_by (Some k) r m e = cc
listed_by None (Some k) m e = absurd cc
listed_by None None m e = absurd cc

close_by : (c : Class) (x : ℕ) (r : List ℕ) (n : ℕ) → IsElement c (x ∷ r) (element.Lexeme (kind.Punct 28) n) → n ≡ 1
close_by class.End x r n is = absurd cc
close_by class.Blank x r n is = absurd cc
close_by class.LineComment x r n is =
    ⊎_elim
    (λ unended. let comment = is ∙ unended in absurd cc)
    (λ ended. let comment = is ∙ ended.2 in absurd cc)
    (line_end_parts element.Comment 2 (drop 2 (x ∷ r)) (first_place (stops stop.LineComment) (drop 2 (x ∷ r))) (subst GoesOn is tt))
close_by class.IncludeLine x r n is =
    ⊎_elim
    (λ unended. let line = is ∙ unended in absurd cc)
    (λ ended. let line = is ∙ ended.2 in absurd cc)
    (line_end_parts element.Include 1 r (first_place (stops stop.IncludeLine) r) (subst GoesOn is tt))
close_by class.BlockComment x r n is = let comment = (block_parts (drop 2 (x ∷ r)) (element.Lexeme (kind.Punct 28) n) tt is).1.is in absurd cc
close_by class.Word x r n is =
    let u = take (prefix_len is_word_byte (x ∷ r)) (x ∷ r) in
    let named : or_name (or_else (as_kind kind.Key (key_word u)) (as_kind kind.Refused (refused_word u))) u ≡ kind.Punct 28 = cc in
    absurd (word_differs (key_word u) (refused_word u) u 28 named)
close_by class.Digits x r n is = let k = prefix_len is_number_byte (x ∷ r) in absurd (number_differs (take k (x ∷ r)) k n 28 is)
close_by class.Text x r n is = absurd (text_differs is.values is.bytes n 28 is.end is.is)
close_by class.Character x r n is =
    let closed = (character_closed is.values is.bytes is.end (subst GoesOn is.is tt)).0 in
    absurd (character_differs is.values is.bytes n 28 (is.is ∙ ap (character_element is.values is.bytes) closed))
close_by class.Other x r n is =
    let u = take n (x ∷ r) in
    sym (length-take-le n (x ∷ r) is.0) ∙ close_long u (listed_by (punctuator u) (refused_punctuator u) 28 is.1)

close_width : (fresh : Bool) (xs : List ℕ) (n : ℕ) → IsElement (class_of fresh xs) xs (element.Lexeme (kind.Punct 28) n) → n ≡ 1
close_width fresh [] n is = absurd cc
close_width fresh (x ∷ r) n is = close_by (class_of fresh (x ∷ r)) x r n is

-- ---- the tokens

-- each of these is of one byte
abbrev AreNarrow : List Token → Type 0
AreNarrow [] = Unit {0}
AreNarrow (t ∷ ts) = (t.kind ≡ kind.Punct 28 → t.end ≡ t.start + 1) × AreNarrow ts

narrow_from : (fresh : Bool) (at : ℕ) (xs : List ℕ) (p : Element) (r : Reading) → GoesOn p → IsElement (class_of fresh xs) xs p → AreNarrow r.tokens → AreNarrow (reading_from at p r).tokens
narrow_from fresh at xs element.End r goes is narrow = absurd goes
narrow_from fresh at xs (element.Bad fault n) r goes is narrow = absurd goes
narrow_from fresh at xs element.Blank r goes is narrow = narrow
narrow_from fresh at xs (element.Comment n) r goes is narrow = narrow
narrow_from fresh at xs (element.Include n) r goes is narrow = narrow
narrow_from fresh at xs (element.Lexeme k n) r goes is narrow =
    ((λ closes. ap (λ m. at + m) (close_width fresh xs n (subst (λ (j : Kind). IsElement (class_of fresh xs) xs (element.Lexeme j n)) closes is))), narrow)

last_narrow : (at : ℕ) (p : Element) → AreNarrow (last_reading at p).tokens
last_narrow at element.End = tt
last_narrow at element.Blank = tt
last_narrow at (element.Comment n) = tt
last_narrow at (element.Include n) = tt
last_narrow at (element.Lexeme k n) = tt
last_narrow at (element.Bad fault n) = tt

scan_narrow : (fresh : Bool) (at : ℕ) (xs : List ℕ) (r : Reading) → Scan fresh at xs r → AreNarrow r.tokens
scan_narrow fresh at xs _ (ends p is last) = last_narrow at p
scan_narrow fresh at xs _ (goes_on {r = r} p is goes rest) =
    narrow_from fresh at xs p r goes is (scan_narrow (fresh_behind fresh xs p) (at + width p) (drop (width p) xs) r rest)

narrow_at : {ts us : List Token} → Rest ts us → (t : Token) (vs : List Token) → us ≡ t ∷ vs → AreNarrow ts → t.kind ≡ kind.Punct 28 → t.end ≡ t.start + 1
narrow_at (Rest.here {ts = ts}) t vs is narrow = (subst AreNarrow is narrow).0
narrow_at (Rest.behind p) t vs is narrow = narrow_at p t vs is narrow.1

-- ---- the term

-- the first of these terms whose test holds
abbrev chain : List (Bool × Term) → Term → Term
chain [] last = last
chain (x ∷ xs) last = if x.0 then x.1 else chain xs last

-- the term is not that of `}`
abbrev differs : Term → Bool
differs term.CloseBrace = false
differs _ = true

abbrev all_differ : List (Bool × Term) → Bool
all_differ [] = true
all_differ (x ∷ xs) = differs x.1 && all_differ xs

past_one : (b : Bool) (x y : Term) → differs x ≡ true → (if b then x else y) ≡ term.CloseBrace → y ≡ term.CloseBrace
past_one true x y other is = let no : false ≡ true = ap differs (sym is) ∙ other in absurd cc
past_one false x y other is = is

past_all : (xs : List (Bool × Term)) (last : Term) → all_differ xs ≡ true → chain xs last ≡ term.CloseBrace → last ≡ term.CloseBrace
past_all [] last other is = is
past_all (x ∷ xs) last other is =
    let parts = and_parts (differs x.1) (all_differ xs) other in
    past_all xs last parts.1 (past_one x.0 x.1 (chain xs last) parts.0 is)

abbrev key_tests : ℕ → List (Bool × Term)
key_tests n =
    (is_key n (codes "EOF"), term.Eof) ∷ (is_key n (codes "NULL"), term.Null) ∷ (is_key n (codes "break"), term.Break) ∷
    (is_key n (codes "continue"), term.Continue) ∷ (is_key n (codes "else"), term.Else) ∷ (is_key n (codes "for"), term.For) ∷
    (is_key n (codes "free"), term.Free) ∷ (is_key n (codes "getchar"), term.Getchar) ∷ (is_key n (codes "if"), term.If) ∷
    (is_key n (codes "int"), term.Int) ∷ (is_key n (codes "malloc"), term.Malloc) ∷ (is_key n (codes "printf"), term.Printf) ∷
    (is_key n (codes "putchar"), term.Putchar) ∷ (is_key n (codes "return"), term.Return) ∷ (is_key n (codes "sizeof"), term.Sizeof) ∷
    (is_key n (codes "struct"), term.Struct) ∷ (is_key n (codes "typedef"), term.Typedef) ∷ (is_key n (codes "void"), term.Void) ∷
    (is_key n (codes "while"), term.While) ∷ []

abbrev punctuator_tests : ℕ → List (Bool × Term)
punctuator_tests n =
    (punctuates n (codes "!"), term.Not) ∷ (punctuates n (codes "!="), term.Differs) ∷ (punctuates n (codes "%"), term.Percent) ∷
    (punctuates n (codes "&&"), term.AndAnd) ∷ (punctuates n (codes "("), term.Open) ∷ (punctuates n (codes ")"), term.Close) ∷
    (punctuates n (codes "*"), term.Star) ∷ (punctuates n (codes "*="), term.StarPut) ∷ (punctuates n (codes "+"), term.Plus) ∷
    (punctuates n (codes "++"), term.PlusPlus) ∷ (punctuates n (codes "+="), term.PlusPut) ∷ (punctuates n (codes ","), term.Comma) ∷
    (punctuates n (codes "-"), term.Minus) ∷ (punctuates n (codes "--"), term.MinusMinus) ∷ (punctuates n (codes "-="), term.MinusPut) ∷
    (punctuates n (codes "->"), term.Arrow) ∷ (punctuates n (codes "/"), term.Slash) ∷ (punctuates n (codes ";"), term.Semicolon) ∷
    (punctuates n (codes "<"), term.Less) ∷ (punctuates n (codes "<="), term.AtMost) ∷ (punctuates n (codes "="), term.Put) ∷
    (punctuates n (codes "=="), term.Equals) ∷ (punctuates n (codes ">"), term.Greater) ∷ (punctuates n (codes ">="), term.AtLeast) ∷
    (punctuates n (codes "["), term.OpenIndex) ∷ (punctuates n (codes "]"), term.CloseIndex) ∷ (punctuates n (codes "{"), term.OpenBrace) ∷
    (punctuates n (codes "||"), term.OrOr) ∷ []

key_differs : (n : ℕ) → key_term n ≡ term.CloseBrace → ⊥
key_differs n is = let no : term.Other ≡ term.CloseBrace = past_all (key_tests n) term.Other refl is in cc

last_test : (b : Bool) → (if b then term.CloseBrace else term.Other) ≡ term.CloseBrace → b ≡ true
last_test true is = refl
last_test false is = absurd cc

is_number : (n : ℕ) → punctuates n (codes "}") ≡ true → n ≡ 28
is_number n is = grind (arith, nat_tests)

punctuator_is : (n : ℕ) → punctuator_term n ≡ term.CloseBrace → n ≡ 28
punctuator_is n is =
    is_number n (last_test (punctuates n (codes "}")) (past_all (punctuator_tests n) (if punctuates n (codes "}") then term.CloseBrace else term.Other) refl is))

kind_is : (k : Kind) → kind_term k ≡ term.CloseBrace → k ≡ kind.Punct 28
kind_is (kind.Name text) is = absurd cc
kind_is (kind.Key n) is = absurd (key_differs n is)
kind_is (kind.Number value) is = absurd cc
kind_is (kind.Text text) is = absurd cc
kind_is (kind.Punct n) is = ap (λ (m : ℕ). kind.Punct m) (punctuator_is n is)
kind_is (kind.Refused row) is = absurd cc

brace_kind : (t : Token) → term_of t ≡ term.CloseBrace → t.kind ≡ kind.Punct 28
unfolding term_of
brace_kind t is = kind_is t.kind is

-- a brace that closes begins one byte before its end
pub closes : (bytes : List ℕ) (ts : List Token) → HasTokens bytes ts → (t : Token) (us : List Token) → Rest ts (t ∷ us) → term_of t ≡ term.CloseBrace → t.end - 1 ≡ t.start
closes bytes ts has t us rest is =
    let narrow = scan_narrow true 0 bytes (record { tokens = ts; last_comment = has.last_comment; fault = None }) has.reads in
    omega (arith, narrow_at rest t us refl narrow (brace_kind t is))
