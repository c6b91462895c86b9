-- A text has one reading: one list of tokens or one first fault, and never both.
use Rattle.std.proofs.Common.{◌≡◌, ℕ, ◌+◌, Bool, List, ◌∷◌, Some, Result, Ok, Err, length, take, drop, sym, refl, ap, ◌∙◌, subst, ⊎_elim}
use Rattle.std.proofs.lemmas.Bool.{cases_order}
use Rattle.c_lexer.specs.declared.token.Tokens.{Tokens}
use Rattle.c_lexer.specs.declared.refusal.LexRefusal.{LexRefusal}
use Rattle.c_lexer.specs.declared.refusal.LexRefusal.TheVariants as refusal
use Rattle.c_lexer.specs.declared.element.Class.{Class}
use Rattle.c_lexer.specs.declared.element.Class.TheVariants as class
use Rattle.c_lexer.specs.declared.element.Element.{Element}
use Rattle.c_lexer.specs.declared.element.Element.TheVariants as element
use Rattle.c_lexer.specs.declared.element.Quote.{Quote}
use Rattle.c_lexer.specs.declared.element.Next.{Next}
use Rattle.c_lexer.specs.declared.reading.Reading.{Reading}
use Rattle.c_lexer.specs.Bytes.{class_of}
use Rattle.c_lexer.specs.Words.{punctuator_kind}
use Rattle.c_lexer.specs.Elements.{Ends, CharSequence, none, plain, escape, IsQuoted, IsPunctuator, IsElement}
use Rattle.c_lexer.specs.Scan.{Scan, ends, goes_on, width, GoesOn, fresh_behind, last_reading, reading_from, IsReading}
use Rattle.c_lexer.specs.Outcome.{answer_for, Gives, IsAnswer}

record Same (values values' : List ℕ) (n n' : ℕ) (end end' : Next) : Type 0 where
  values_same : values ≡ values'
  bytes_same : n ≡ n'
  end_same : end ≡ end'

same_more : (b b' k n n' : ℕ) (values values' : List ℕ) (end end' : Next) → b ≡ b' → Same values values' n n' end end' → Same (b ∷ values) (b' ∷ values') (k + n) (k + n') end end'
same_more b b' k n n' values values' end end' e same =
    let p = same.values_same in
    let q = same.bytes_same in
    record { values_same = cc; bytes_same = ap (λ m. k + m) q; end_same = same.end_same }

sequence_unique : (quote : Quote) (xs values values' : List ℕ) (n n' : ℕ) (end end' : Next) → CharSequence quote xs values n end → CharSequence quote xs values' n' end' → Same values values' n n' end end'
sequence_unique quote xs _ _ _ _ _ _ (none next last) (none next' last') = record { values_same = refl; bytes_same = refl; end_same = sym next ∙ next' }
sequence_unique quote xs _ _ _ _ _ _ (none next last) (plain next' rest') = absurd (subst Ends (sym next ∙ next') last)
sequence_unique quote xs _ _ _ _ _ _ (none next last) (escape next' rest') = absurd (subst Ends (sym next ∙ next') last)
sequence_unique quote xs _ _ _ _ _ _ (plain next rest) (none next' last') = absurd (subst Ends (sym next' ∙ next) last')
sequence_unique quote xs _ _ _ _ _ _ (plain next rest) (plain next' rest') = same_more _ _ 1 _ _ _ _ _ _ (cc) (sequence_unique quote (drop 1 xs) _ _ _ _ _ _ rest rest')
sequence_unique quote xs _ _ _ _ _ _ (plain next rest) (escape next' rest') = cc
sequence_unique quote xs _ _ _ _ _ _ (escape next rest) (none next' last') = absurd (subst Ends (sym next' ∙ next) last')
sequence_unique quote xs _ _ _ _ _ _ (escape next rest) (plain next' rest') = cc
sequence_unique quote xs _ _ _ _ _ _ (escape next rest) (escape next' rest') = same_more _ _ 2 _ _ _ _ _ _ (cc) (sequence_unique quote (drop 2 xs) _ _ _ _ _ _ rest rest')

quoted_unique : (quote : Quote) (make : List ℕ → ℕ → Next → Element) (xs : List ℕ) (p q : Element) → IsQuoted quote make xs p → IsQuoted quote make xs q → p ≡ q
quoted_unique quote make xs p q a b =
    let same = sequence_unique quote (drop 1 xs) a.values b.values a.bytes b.bytes a.end b.end a.spelled b.spelled in
    let v = same.values_same in
    let n = same.bytes_same in
    let e = same.end_same in
    let p_is = a.is in
    let q_is = b.is in
    cc

punctuator_unique : (xs : List ℕ) (p q : Element) → IsPunctuator xs p → IsPunctuator xs q → p ≡ q
punctuator_unique xs (element.Lexeme kind n) (element.Lexeme kind' n') a b =
    ⊎_elim
    (λ same. let k : Some kind ≡ Some kind' = sym a.1 ∙ ap (λ m. punctuator_kind (take m xs)) same ∙ b.1 in cc)
    (λ apart. ⊎_elim (λ lt. let x = sym b.1 ∙ a.2 n' lt b.0 in cc) (λ gt. let x = sym a.1 ∙ b.2 n gt a.0 in cc) apart)
    (cases_order n n')
punctuator_unique xs (element.Lexeme kind n) (element.Bad fault at) a b = let x = sym a.1 ∙ b.2 n a.0 in cc
punctuator_unique xs (element.Bad fault at) (element.Lexeme kind n) a b = let x = sym b.1 ∙ a.2 n b.0 in cc
punctuator_unique xs (element.Bad fault at) (element.Bad fault' at') a b = let f = a.0 in let f' = b.0 in let m = a.1 in let m' = b.1 in cc
punctuator_unique xs (element.Lexeme kind n) element.End a b = absurd b
punctuator_unique xs (element.Lexeme kind n) element.Blank a b = absurd b
punctuator_unique xs (element.Lexeme kind n) (element.Comment m) a b = absurd b
punctuator_unique xs (element.Lexeme kind n) (element.Include m) a b = absurd b
punctuator_unique xs (element.Bad fault at) element.End a b = absurd b
punctuator_unique xs (element.Bad fault at) element.Blank a b = absurd b
punctuator_unique xs (element.Bad fault at) (element.Comment m) a b = absurd b
punctuator_unique xs (element.Bad fault at) (element.Include m) a b = absurd b
punctuator_unique xs element.End q a b = absurd a
punctuator_unique xs element.Blank q a b = absurd a
punctuator_unique xs (element.Comment n) q a b = absurd a
punctuator_unique xs (element.Include n) q a b = absurd a

-- one element stands at the front
pub element_unique : (c : Class) (xs : List ℕ) (p q : Element) → IsElement c xs p → IsElement c xs q → p ≡ q
element_unique class.End xs p q a b = a ∙ sym b
element_unique class.Blank xs p q a b = a ∙ sym b
element_unique class.LineComment xs p q a b = a ∙ sym b
element_unique class.BlockComment xs p q a b = a ∙ sym b
element_unique class.IncludeLine xs p q a b = a ∙ sym b
element_unique class.Word xs p q a b = a ∙ sym b
element_unique class.Digits xs p q a b = a ∙ sym b
element_unique class.Text xs p q a b = quoted_unique _ _ xs p q a b
element_unique class.Character xs p q a b = quoted_unique _ _ xs p q a b
element_unique class.Other xs p q a b = punctuator_unique xs p q a b

-- one reading follows
pub scan_unique : (fresh : Bool) (at : ℕ) (xs : List ℕ) (r r' : Reading) → Scan fresh at xs r → Scan fresh at xs r' → r ≡ r'
scan_unique fresh at xs _ _ (ends p is last) (ends q is' last') = ap (last_reading at) (element_unique (class_of fresh xs) xs p q is is')
scan_unique fresh at xs _ _ (ends p is last) (goes_on q is' goes' rest') = absurd (last (subst GoesOn (sym (element_unique (class_of fresh xs) xs p q is is')) goes'))
scan_unique fresh at xs _ _ (goes_on p is goes rest) (ends q is' last') = absurd (last' (subst GoesOn (element_unique (class_of fresh xs) xs p q is is') goes))
scan_unique fresh at xs _ _ (goes_on {r = r} p is goes rest) (goes_on {r = r'} q is' goes' rest') =
    let same = element_unique (class_of fresh xs) xs p q is is' in
    let rest'' = subst (λ z. Scan (fresh_behind fresh xs z) (at + width z) (drop (width z) xs) r') (sym same) rest' in
    let readings = scan_unique (fresh_behind fresh xs p) (at + width p) (drop (width p) xs) r r' rest rest'' in
    ap (λ z. reading_from at z r) same ∙ ap (reading_from at q) readings

pub reading_unique : (bytes : List ℕ) (r r' : Reading) → IsReading bytes r → IsReading bytes r' → r ≡ r'
reading_unique bytes r r' a b = scan_unique _ _ bytes r r' a b

-- the answer for any reading is the answer for this one
pub gives_for : (bytes : List ℕ) (r r' : Reading) (answer : Result Tokens LexRefusal) → IsReading bytes r → Gives answer (answer_for (length bytes) r) → IsReading bytes r' → Gives answer (answer_for (length bytes) r')
gives_for bytes r r' answer reads gives reads' = subst (λ x. Gives answer (answer_for (length bytes) x)) (reading_unique bytes r r' reads reads') gives

-- the answer for a reading is an answer of the text
pub is_answer_for : (bytes : List ℕ) (r : Reading) (answer : Result Tokens LexRefusal) → IsReading bytes r → Gives answer (answer_for (length bytes) r) → IsAnswer bytes answer
is_answer_for bytes r (Ok tokens) reads gives = record { reading = r; reads = reads; is = gives }
is_answer_for bytes r (Err refusal.Memory) reads gives = tt
is_answer_for bytes r (Err (refusal.BadByte at)) reads gives = record { reading = r; reads = reads; is = gives }
is_answer_for bytes r (Err (refusal.OpenComment at)) reads gives = record { reading = r; reads = reads; is = gives }
is_answer_for bytes r (Err (refusal.OpenText at)) reads gives = record { reading = r; reads = reads; is = gives }
is_answer_for bytes r (Err (refusal.BadEscape at)) reads gives = record { reading = r; reads = reads; is = gives }
is_answer_for bytes r (Err (refusal.WideNumber at)) reads gives = record { reading = r; reads = reads; is = gives }
is_answer_for bytes r (Err (refusal.Construct row at)) reads gives = record { reading = r; reads = reads; is = gives }
is_answer_for bytes r (Err (refusal.Depth at)) reads gives = record { reading = r; reads = reads; is = gives }
