-- What an element says of its bytes: it is within the text, and a name is a letter or `_`, then letters, digits and `_`.
use Rattle.std.proofs.Common.{◌≡◌, ℕ, suc, ◌+◌, ◌<◌, ◌≤◌, Bool, true, false, ◌&&◌, List, [], ◌∷◌, ◌++◌, Option, Some, None, length, take, drop, nat_eq, sym, refl, ap, ◌∙◌, subst, ⊎_elim, arith, length-drop}
use Rattle.std.specs.Prelude.{codes, ◌==◌, ℤ}
use Rattle.std.specs.List.{prefix_len, list_all}
use Rattle.std.proofs.lemmas.Bool.{and_left, and_parts, cond-true, cond-false, cases_Bool, false≢true}
use Rattle.std.proofs.lemmas.Bool.Decides.{nat_tests}
use Rattle.std.proofs.lemmas.List.{take_at}
use Rattle.std.proofs.lemmas.List.Sums.{prefix_len-le-length}
use Rattle.c_lexer.specs.declared.token.Kind.TheVariants as kind
use Rattle.c_lexer.specs.declared.element.Class.{Class}
use Rattle.c_lexer.specs.declared.element.Class.TheVariants as class
use Rattle.c_lexer.specs.declared.element.Stop.TheVariants as stop
use Rattle.c_lexer.specs.declared.element.Element.{Element}
use Rattle.c_lexer.specs.declared.element.Element.TheVariants as element
use Rattle.c_lexer.specs.declared.element.Quote.{Quote}
use Rattle.c_lexer.specs.declared.element.Quote.TheVariants.{Double, Single}
use Rattle.c_lexer.specs.declared.element.Next.{Next}
use Rattle.c_lexer.specs.declared.element.Next.TheVariants.{Close}
use Rattle.c_lexer.specs.Bytes.{is_blank, is_digit, is_word_byte, is_number_byte, begins, begins_include, stops, class_of}
use Rattle.c_lexer.specs.Words.{number_form, refused_word, key_word, punctuator, refused_punctuator, or_else, as_kind, or_name, kind_of_word}
use Rattle.c_lexer.specs.Elements.{next_of, CharSequence, none, plain, escape, IsQuoted, IsPunctuator, IsElement, first_place, line_end, text_element, one_character, character_element, int_of, decimal_value, is_decimal, decimal_element, number_by, word_element}
use Rattle.c_lexer.specs.Scan.{width, GoesOn}
use Rattle.c_lexer.proofs.Local.{Closed, text_closed, character_closed}
use Rattle.c_lexer.proofs.LocalSpans.{line_end_parts, block_parts, place_within}
use Rattle.c_lexer.proofs.LocalElement.{number_width}
use Rattle.c_lexer.proofs.LocalPasses.{class_tests}

-- ---- what a class says of the front

abbrev Shown : Class → Bool → Bool → Bool → Type 0
Shown class.LineComment slashes digit word = slashes ≡ true
Shown class.BlockComment slashes digit word = Unit {0}
Shown class.Word slashes digit word = (digit ≡ false) × (word ≡ true)
Shown class.Digits slashes digit word = Unit {0}
Shown class.End slashes digit word = Unit {0}
Shown class.Blank slashes digit word = Unit {0}
Shown class.IncludeLine slashes digit word = Unit {0}
Shown class.Text slashes digit word = Unit {0}
Shown class.Character slashes digit word = Unit {0}
Shown class.Other slashes digit word = Unit {0}

shown_by : (t1 t2 t3 t4 t5 t6 t7 t8 : Bool) → Shown (class_tests t1 t2 t3 t4 t5 t6 t7 t8) t2 t5 t6
shown_by true t2 t3 t4 t5 t6 t7 t8 = tt
shown_by false true t3 t4 t5 t6 t7 t8 = refl
shown_by false false true t4 t5 t6 t7 t8 = tt
shown_by false false false true t5 t6 t7 t8 = tt
shown_by false false false false true t6 t7 t8 = tt
shown_by false false false false false true t7 t8 = (refl, refl)
shown_by false false false false false false true t8 = tt
shown_by false false false false false false false true = tt
shown_by false false false false false false false false = tt

shown : (fresh : Bool) (x : ℕ) (r : List ℕ) → Shown (class_of fresh (x ∷ r)) (begins (x ∷ r) (codes "//")) (is_digit x) (is_word_byte x)
shown fresh x r =
    shown_by (is_blank x) (begins (x ∷ r) (codes "//")) (begins (x ∷ r) (codes "/*")) (fresh && begins_include (x ∷ r)) (is_digit x) (is_word_byte x) (x == 34) (x == 39)

-- ---- an element is within the text

begins_long : (u xs : List ℕ) → begins xs u ≡ true → length u ≤ length xs
begins_long [] xs e = omega arith
begins_long (a ∷ u) [] e = absurd (false≢true e)
begins_long (a ∷ u) (x ∷ xs) e = omega (arith, begins_long u xs (and_parts (nat_eq a x) (begins xs u) e).1)

closed_some : (quote : Quote) (xs : List ℕ) → next_of quote xs ≡ Close → 0 < length xs
closed_some quote [] next = cc
closed_some quote (x ∷ xs) next = omega arith

sequence_within : (quote : Quote) (xs values : List ℕ) (n : ℕ) → CharSequence quote xs values n Close → n + 1 ≤ length xs
sequence_within quote xs _ _ (none next last) = omega (arith, closed_some quote xs next)
sequence_within quote xs _ _ (plain {values = values} {n = n} next rest) = omega (arith, sequence_within quote (drop 1 xs) values n rest, length-drop 1 xs)
sequence_within quote xs _ _ (escape {values = values} {n = n} next rest) = omega (arith, sequence_within quote (drop 2 xs) values n rest, length-drop 2 xs)

quoted_within : (quote : Quote) (make : List ℕ → ℕ → Next → Element) → Closed make → (x : ℕ) (r : List ℕ) (p : Element) → GoesOn p → IsQuoted quote make (x ∷ r) p → width p ≤ length (x ∷ r)
quoted_within quote make closed x r p goes quoted =
    let parts = closed quoted.values quoted.bytes quoted.end (subst GoesOn quoted.is goes) in
    let spelled : CharSequence quote r quoted.values quoted.bytes Close = subst (λ end. CharSequence quote r quoted.values quoted.bytes end) parts.0 quoted.spelled in
    omega (arith, ap width quoted.is, parts.1, sequence_within quote r quoted.values quoted.bytes spelled)

punctuator_within : (xs : List ℕ) (p : Element) → GoesOn p → IsPunctuator xs p → width p ≤ length xs
punctuator_within xs (element.Lexeme kind n) goes is = is.0
punctuator_within xs (element.Bad fault at) goes is = absurd goes
punctuator_within xs element.End goes is = absurd is
punctuator_within xs element.Blank goes is = absurd is
punctuator_within xs (element.Comment n) goes is = absurd is
punctuator_within xs (element.Include n) goes is = absurd is

line_within : (make : ℕ → Element) (opening : ℕ) (xs : List ℕ) (p : Element) → ((n : ℕ) → width (make n) ≡ n) → opening ≤ length xs → GoesOn p
    → (test : List ℕ → Bool) → p ≡ line_end make opening (drop opening xs) (first_place test (drop opening xs)) → width p ≤ length xs
line_within make opening xs p wide opened goes test is =
    ⊎_elim
    (λ unended. omega (arith, ap width (is ∙ unended), wide (opening + length (drop opening xs)), length-drop opening xs))
    (λ ended. omega (arith, ap width (is ∙ ended.2), wide (opening + ended.0), length-drop opening xs, place_within test (drop opening xs) ended.0 ended.1.place))
    (line_end_parts make opening (drop opening xs) (first_place test (drop opening xs)) (subst GoesOn is goes))

within_by : (c : Class) (x : ℕ) (r : List ℕ) (p : Element) → Shown c (begins (x ∷ r) (codes "//")) (is_digit x) (is_word_byte x) → GoesOn p → IsElement c (x ∷ r) p → width p ≤ length (x ∷ r)
within_by class.End x r p front goes is = absurd (subst GoesOn is goes)
within_by class.Blank x r p front goes is = omega (arith, ap width is)
within_by class.LineComment x r p front goes is =
    line_within element.Comment 2 (x ∷ r) p (λ n. refl) (begins_long (codes "//") (x ∷ r) front) goes (stops stop.LineComment) is
within_by class.IncludeLine x r p front goes is = line_within element.Include 1 (x ∷ r) p (λ n. refl) (omega arith) goes (stops stop.IncludeLine) is
within_by class.BlockComment x r p front goes is =
    let body = drop 2 (x ∷ r) in
    let parts = block_parts body p goes is in
    let m = parts.0 in
    omega (arith, ap width parts.1.is, begins_long (codes "*/") (drop m body) parts.1.at.word, length-drop m body, length-drop 2 (x ∷ r))
within_by class.Word x r p front goes is = omega (arith, ap width is, prefix_len-le-length is_word_byte (x ∷ r))
within_by class.Digits x r p front goes is =
    let n = prefix_len is_number_byte (x ∷ r) in
    omega (arith, ap width is, number_width (take n (x ∷ r)) n (subst GoesOn is goes), prefix_len-le-length is_number_byte (x ∷ r))
within_by class.Text x r p front goes is = quoted_within Double text_element text_closed x r p goes is
within_by class.Character x r p front goes is = quoted_within Single character_element character_closed x r p goes is
within_by class.Other x r p front goes is = punctuator_within (x ∷ r) p goes is

pub element_within : (fresh : Bool) (xs : List ℕ) (p : Element) → GoesOn p → IsElement (class_of fresh xs) xs p → width p ≤ length xs
element_within fresh [] p goes is = absurd (subst GoesOn is goes)
element_within fresh (x ∷ r) p goes is = within_by (class_of fresh (x ∷ r)) x r p (shown fresh x r) goes is

-- ---- names

-- how a name is spelled
pub record Spelling (w : List ℕ) : Type 0 where
  pub first : ℕ
  pub others : List ℕ
  pub is : w ≡ first ∷ others
  pub no_digit : is_digit first ≡ false
  pub word_byte : is_word_byte first ≡ true
  pub word : list_all is_word_byte w ≡ true
  pub named : kind_of_word w ≡ kind.Name w

run_passes : (test : ℕ → Bool) (xs : List ℕ) → list_all test (take (prefix_len test xs) xs) ≡ true
run_passes test [] = refl
run_passes test (x ∷ xs) =
    ⊎_elim
    (λ passes.
    let len : prefix_len test (x ∷ xs) ≡ suc (prefix_len test xs) = cond-true (test x) (1 + prefix_len test xs) 0 passes ∙ omega arith in
    ap (λ n. list_all test (take n (x ∷ xs))) len ∙ ap (λ b. b && list_all test (take (prefix_len test xs) xs)) passes ∙ run_passes test xs)
    (λ fails. ap (λ n. list_all test (take n (x ∷ xs))) (cond-false (test x) (1 + prefix_len test xs) 0 fails))
    (cases_Bool (test x))

name_is : (key refused : Option ℕ) (u w : List ℕ) → or_name (or_else (as_kind kind.Key key) (as_kind kind.Refused refused)) u ≡ kind.Name w → u ≡ w
name_is (Some number) refused u w e = cc
name_is None (Some row) u w e = cc
name_is None None u w e = cc

word_spelling : (x : ℕ) (r w : List ℕ) (n : ℕ) → is_digit x ≡ false → is_word_byte x ≡ true → element.Lexeme (kind.Name w) n ≡ word_element (x ∷ r) → Spelling w
word_spelling x r w n no_digit word_byte is =
    let k = prefix_len is_word_byte (x ∷ r) in
    let u = take k (x ∷ r) in
    let named : kind_of_word u ≡ kind.Name w = cc in
    let same : u ≡ w = name_is (key_word u) (refused_word u) u w named in
    let len : k ≡ suc (prefix_len is_word_byte r) = cond-true (is_word_byte x) (1 + prefix_len is_word_byte r) 0 word_byte ∙ omega arith in
    record {
      first = x;
      others = take (prefix_len is_word_byte r) r;
      is = sym same ∙ ap (λ m. take m (x ∷ r)) len;
      no_digit = no_digit;
      word_byte = word_byte;
      word = subst (λ v. list_all is_word_byte v ≡ true) same (run_passes is_word_byte (x ∷ r));
      named = subst (λ v. kind_of_word v ≡ kind.Name w) same named;
    }

decimal_no_name : (o : Option ℤ) (n m : ℕ) (w : List ℕ) → element.Lexeme (kind.Name w) m ≡ decimal_element o n → ⊥
decimal_no_name None n m w e = cc
decimal_no_name (Some value) n m w e = cc

number_no_name : (run : List ℕ) (n m : ℕ) (w : List ℕ) → element.Lexeme (kind.Name w) m ≡ number_by run n → ⊥
number_no_name run n m w e =
    let decimal = decimal_element (int_of (decimal_value run)) n in
    let other : Element = element.Lexeme (kind.Refused number_form) n in
    ⊎_elim
    (λ yes'. decimal_no_name (int_of (decimal_value run)) n m w (e ∙ cond-true (is_decimal run) decimal other yes'))
    (λ no'. let refused = e ∙ cond-false (is_decimal run) decimal other no' in cc)
    (cases_Bool (is_decimal run))

text_no_name : (values : List ℕ) (n m : ℕ) (end : Next) (w : List ℕ) → element.Lexeme (kind.Name w) m ≡ text_element values n end → ⊥
text_no_name values n m end w e =
    let closed = (text_closed values n end (subst GoesOn e tt)).0 in
    let text = e ∙ ap (text_element values n) closed in
    cc

character_no_name : (values : List ℕ) (n m : ℕ) (w : List ℕ) → element.Lexeme (kind.Name w) m ≡ one_character values n → ⊥
character_no_name [] n m w e = cc
character_no_name (b ∷ []) n m w e = cc
character_no_name (b ∷ c ∷ values) n m w e = cc

punctuator_no_name : (number row : Option ℕ) (w : List ℕ) → or_else (as_kind kind.Punct number) (as_kind kind.Refused row) ≡ Some (kind.Name w) → ⊥
punctuator_no_name (Some number) row w e = cc
punctuator_no_name None (Some row) w e = cc
punctuator_no_name None None w e = cc

spelled_by : (c : Class) (x : ℕ) (r w : List ℕ) (n : ℕ) → Shown c (begins (x ∷ r) (codes "//")) (is_digit x) (is_word_byte x) → IsElement c (x ∷ r) (element.Lexeme (kind.Name w) n) → Spelling w
spelled_by class.End x r w n front is = cc
spelled_by class.Blank x r w n front is = cc
spelled_by class.LineComment x r w n front is =
    ⊎_elim
    (λ unended. let comment = is ∙ unended in cc)
    (λ ended. let comment = is ∙ ended.2 in cc)
    (line_end_parts element.Comment 2 (drop 2 (x ∷ r)) (first_place (stops stop.LineComment) (drop 2 (x ∷ r))) (subst GoesOn is tt))
spelled_by class.IncludeLine x r w n front is =
    ⊎_elim
    (λ unended. let line = is ∙ unended in cc)
    (λ ended. let line = is ∙ ended.2 in cc)
    (line_end_parts element.Include 1 r (first_place (stops stop.IncludeLine) r) (subst GoesOn is tt))
spelled_by class.BlockComment x r w n front is = let comment = (block_parts (drop 2 (x ∷ r)) (element.Lexeme (kind.Name w) n) tt is).1.is in cc
spelled_by class.Word x r w n front is = word_spelling x r w n front.0 front.1 is
spelled_by class.Digits x r w n front is = let k = prefix_len is_number_byte (x ∷ r) in absurd (number_no_name (take k (x ∷ r)) k n w is)
spelled_by class.Text x r w n front is = absurd (text_no_name is.values is.bytes n is.end w is.is)
spelled_by class.Character x r w n front is =
    let closed = (character_closed is.values is.bytes is.end (subst GoesOn is.is tt)).0 in
    absurd (character_no_name is.values is.bytes n w (is.is ∙ ap (character_element is.values is.bytes) closed))
spelled_by class.Other x r w n front is = let u = take n (x ∷ r) in absurd (punctuator_no_name (punctuator u) (refused_punctuator u) w is.1)

-- the names among the tokens of a text are spelled so
pub name_spelling : (fresh : Bool) (xs w : List ℕ) (n : ℕ) → IsElement (class_of fresh xs) xs (element.Lexeme (kind.Name w) n) → Spelling w
name_spelling fresh [] w n is = cc
name_spelling fresh (x ∷ r) w n is = spelled_by (class_of fresh (x ∷ r)) x r w n (shown fresh x r) is

-- ---- a name at the front of a text

word_no_blank : (c : ℕ) → is_word_byte c ≡ true → is_blank c ≡ false
word_no_blank c word = grind (arith, nat_tests)

word_no_slash : (c : ℕ) → is_word_byte c ≡ true → nat_eq 47 c ≡ false
word_no_slash c word = grind (arith, nat_tests)

word_class : (c : ℕ) (r : List ℕ) → is_digit c ≡ false → is_word_byte c ≡ true → class_of false (c ∷ r) ≡ class.Word
word_class c r no_digit word =
    let blank = word_no_blank c word in
    let slashes : begins (c ∷ r) (codes "//") ≡ false = and_left (nat_eq 47 c) _ (word_no_slash c word) in
    let star : begins (c ∷ r) (codes "/*") ≡ false = and_left (nat_eq 47 c) _ (word_no_slash c word) in
    λ i. class_tests (blank i) (slashes i) (star i) false (no_digit i) (word i) (c == 34) (c == 39)

run_all : (test : ℕ → Bool) (w s : List ℕ) (b : ℕ) → list_all test w ≡ true → test b ≡ false → prefix_len test (w ++ b ∷ s) ≡ length w
run_all test [] s b passes fails = cond-false (test b) (1 + prefix_len test s) 0 fails
run_all test (x ∷ w) s b passes fails =
    let parts = and_parts (test x) (list_all test w) passes in
    cond-true (test x) (1 + prefix_len test (w ++ b ∷ s)) 0 parts.0 ∙ ap (λ n. 1 + n) (run_all test w s b parts.1 fails) ∙ omega arith

-- before a byte of no word
pub name_element : (w s : List ℕ) (b : ℕ) → Spelling w → is_word_byte b ≡ false → IsElement (class_of false (w ++ b ∷ s)) (w ++ b ∷ s) (element.Lexeme (kind.Name w) (length w))
name_element w s b spelling ends =
    let len : prefix_len is_word_byte (w ++ b ∷ s) ≡ length w = run_all is_word_byte w s b spelling.word ends in
    let front : take (length w) (w ++ b ∷ s) ≡ w = take_at w (b ∷ s) (length w) refl in
    let word : word_element (w ++ b ∷ s) ≡ element.Lexeme (kind.Name w) (length w) =
    ap (λ n. element.Lexeme (kind_of_word (take n (w ++ b ∷ s))) n) len ∙ ap (λ u. element.Lexeme (kind_of_word u) (length w)) front ∙ ap (λ k. element.Lexeme k (length w)) spelling.named in
    let of_class : class_of false (w ++ b ∷ s) ≡ class.Word = ap (λ u. class_of false (u ++ b ∷ s)) spelling.is ∙ word_class spelling.first (spelling.others ++ b ∷ s) spelling.no_digit spelling.word_byte in
    let P : Class → Type 0 = λ c. IsElement c (w ++ b ∷ s) (element.Lexeme (kind.Name w) (length w)) in
    subst P (sym of_class) (sym word)
