-- An element at the front of a text doesn't depend on what follows it, where a blank does.
use Rattle.std.proofs.Common.{◌≡◌, ℕ, zero, suc, ◌+◌, ◌<◌, ◌≤◌, Bool, true, false, ◌||◌, cond, List, [], ◌∷◌, ◌++◌, Option, Some, None, length, take, nat_eq, not, sym, refl, ap, ◌∙◌, subst, ⊎_elim, arith, length-append}
use Rattle.std.specs.Prelude.{◌==◌, nat_le}
use Rattle.std.specs.List.{prefix_len, list_all}
use Rattle.std.specs.Cmp.Lexicographic.{pointwise}
use Rattle.std.proofs.lemmas.Bool.{and_parts, or_cases, or_left, or_right, cond-true, cond-false, cases_Bool, cases_lt, eqb-true, leb-true, false≢true, true≢false}
use Rattle.std.proofs.lemmas.Bool.Decides.{nat_tests}
use Rattle.std.proofs.lemmas.List.{take-append-le}
use Rattle.c_lexer.specs.declared.element.Element.{Element}
use Rattle.c_lexer.specs.declared.element.Element.TheVariants as element
use Rattle.c_lexer.specs.declared.element.Quote.{Quote}
use Rattle.c_lexer.specs.declared.element.Quote.TheVariants.{Double, Single}
use Rattle.c_lexer.specs.declared.element.Next.{Next}
use Rattle.c_lexer.specs.declared.element.Next.TheVariants.{Plain, Escape, Close, LineEnd, NoByte, NoEscape}
use Rattle.c_lexer.specs.declared.token.Kind.TheVariants as kind
use Rattle.c_lexer.specs.Bytes.{within, is_blank, is_word_byte, is_number_byte}
use Rattle.c_lexer.specs.Words.{punctuator_kind, row_of, punctuator, refused_punctuator, punctuators, refused_punctuators, or_else, as_kind, kind_of_word}
use Rattle.c_lexer.specs.Elements.{CharSequence, none, plain, escape, next_of, escape_next, quote_byte, allowed, escaped, or_zero, is_zero_escape, word_element, number_element, number_by, IsQuoted, text_element, character_element, IsPunctuator}
use Rattle.c_lexer.specs.Scan.{width, GoesOn}

-- ---- blanks

pub blank_low : (b : ℕ) → is_blank b ≡ true → b ≤ 32
blank_low b blank =
    ⊎_elim
    (λ (line : within 9 13 b ≡ true). let parts = and_parts (nat_le 9 b) (nat_le b 13) line in omega (arith, leb-true b 13 parts.1))
    (λ (space : (b == 32) ≡ true). omega (arith, eqb-true b 32 space))
    (or_cases (within 9 13 b) (b == 32) blank)

low_no_word : (b : ℕ) → b ≤ 32 → is_word_byte b ≡ false
low_no_word b low = grind (arith, nat_tests)

low_no_number : (b : ℕ) → b ≤ 32 → is_number_byte b ≡ false
low_no_number b low = grind (arith, nat_tests)

-- ---- runs

-- a front of both texts
pub front_same : (w s t : List ℕ) (n : ℕ) → n ≤ length w → take n (w ++ s) ≡ take n (w ++ t)
front_same w s t n within = take-append-le n w s within ∙ sym (take-append-le n w t within)

-- a run that stops within the front, or at its end before a byte that isn't of the run
run_same : (test : ℕ → Bool) (w s t : List ℕ) (b : ℕ) → test b ≡ false → prefix_len test (w ++ s) ≤ length w → prefix_len test (w ++ b ∷ t) ≡ prefix_len test (w ++ s)
run_same test [] s t b fails within = let stops : 0 ≡ prefix_len test s = omega arith in cond-false (test b) (1 + prefix_len test t) 0 fails ∙ stops
run_same test (x ∷ w) s t b fails within =
    ⊎_elim
    (λ passes.
    let shorter : prefix_len test (w ++ s) ≤ length w = omega (arith, cond-true (test x) (1 + prefix_len test (w ++ s)) 0 passes) in
    cond-true (test x) (1 + prefix_len test (w ++ b ∷ t)) 0 passes ∙ ap (λ n. 1 + n) (run_same test w s t b fails shorter) ∙ sym (cond-true (test x) (1 + prefix_len test (w ++ s)) 0 passes))
    (λ stops. cond-false (test x) (1 + prefix_len test (w ++ b ∷ t)) 0 stops ∙ sym (cond-false (test x) (1 + prefix_len test (w ++ s)) 0 stops))
    (cases_Bool (test x))

pub word_same : (w s t : List ℕ) (b : ℕ) → is_blank b ≡ true → prefix_len is_word_byte (w ++ s) ≤ length w → word_element (w ++ b ∷ t) ≡ word_element (w ++ s)
word_same w s t b blank within =
    let n = prefix_len is_word_byte (w ++ s) in
    ap (λ m. element.Lexeme (kind_of_word (take m (w ++ b ∷ t))) m) (run_same is_word_byte w s t b (low_no_word b (blank_low b blank)) within)
    ∙ ap (λ u. element.Lexeme (kind_of_word u) n) (front_same w (b ∷ t) s n within)

pub number_same : (w s t : List ℕ) (b : ℕ) → is_blank b ≡ true → prefix_len is_number_byte (w ++ s) ≤ length w → number_element (w ++ b ∷ t) ≡ number_element (w ++ s)
number_same w s t b blank within =
    let n = prefix_len is_number_byte (w ++ s) in
    ap (λ m. number_by (take m (w ++ b ∷ t)) m) (run_same is_number_byte w s t b (low_no_number b (blank_low b blank)) within)
    ∙ ap (λ u. number_by u n) (front_same w (b ∷ t) s n within)

-- ---- strings and character constants

abbrev pick : Bool → Bool → Bool → Bool → ℕ → Next → Next
pick t1 t2 t3 t4 x e = cond t1 LineEnd (cond t2 Close (cond t3 e (cond t4 (Plain x) NoByte)))

pick_alike : (t1 t2 t3 t4 : Bool) (x : ℕ) (e e' v : Next) → pick t1 t2 t3 t4 x e ≡ v → (e ≡ v → e' ≡ v) → pick t1 t2 t3 t4 x e' ≡ v
pick_alike true t2 t3 t4 x e e' v is alike = is
pick_alike false true t3 t4 x e e' v is alike = is
pick_alike false false true t4 x e e' v is alike = alike is
pick_alike false false false t4 x e e' v is alike = is

next_alike : (quote : Quote) (x : ℕ) (r r' : List ℕ) (v : Next) → next_of quote (x ∷ r) ≡ v → (escape_next quote r ≡ v → escape_next quote r' ≡ v) → next_of quote (x ∷ r') ≡ v
next_alike quote x r r' v is alike = pick_alike (x == 10) (x == quote_byte quote) (x == 92) (allowed quote x) x (escape_next quote r) (escape_next quote r') v is alike

or_zero_plain : (o : Option ℕ) (z : Bool) (b : ℕ) → or_zero o z ≡ Plain b → ⊥
or_zero_plain (Some v) z b e = cc
or_zero_plain None true b e = cc
or_zero_plain None false b e = cc

or_zero_close : (o : Option ℕ) (z : Bool) → or_zero o z ≡ Close → ⊥
or_zero_close (Some v) z e = cc
or_zero_close None true e = cc
or_zero_close None false e = cc

escape_plain : (quote : Quote) (r : List ℕ) (b : ℕ) → escape_next quote r ≡ Plain b → ⊥
escape_plain quote [] b e = cc
escape_plain quote (c ∷ r) b e = or_zero_plain (escaped c) (is_zero_escape quote (c ∷ r)) b e

escape_close : (quote : Quote) (r : List ℕ) → escape_next quote r ≡ Close → ⊥
escape_close quote [] e = cc
escape_close quote (c ∷ r) e = or_zero_close (escaped c) (is_zero_escape quote (c ∷ r)) e

escape_same : (quote : Quote) (y z : ℕ) (r r' : List ℕ) → escape_next quote (y ∷ z ∷ r) ≡ escape_next quote (y ∷ z ∷ r')
escape_same Double y z r r' = refl
escape_same Single y z r r' = refl

sequence_local : (quote : Quote) (w s t values : List ℕ) (n : ℕ) → CharSequence quote (w ++ s) values n Close → n + 1 ≤ length w → CharSequence quote (w ++ t) values n Close
sequence_local quote [] s t values n spelled within = absurd (omega arith)
sequence_local quote (x ∷ w) s t _ _ (none next last) within = none (next_alike quote x (w ++ s) (w ++ t) Close next (λ e. absurd (escape_close quote (w ++ s) e))) tt
sequence_local quote (x ∷ w) s t _ _ (plain {b = b} {n = n} next rest) within =
    plain (next_alike quote x (w ++ s) (w ++ t) (Plain b) next (λ e. absurd (escape_plain quote (w ++ s) b e))) (sequence_local quote w s t _ n rest (omega arith))
sequence_local quote (x ∷ []) s t _ _ (escape {n = n} next rest) within = absurd (omega arith)
sequence_local quote (x ∷ y ∷ []) s t _ _ (escape {n = n} next rest) within = absurd (omega arith)
sequence_local quote (x ∷ y ∷ z ∷ w) s t _ _ (escape {b = b} {n = n} next rest) within =
    escape (next_alike quote x (y ∷ z ∷ (w ++ s)) (y ∷ z ∷ (w ++ t)) (Escape b) next (λ e. escape_same quote y z (w ++ t) (w ++ s) ∙ e)) (sequence_local quote (z ∷ w) s t _ n rest (omega arith))

-- an element between quotes that others follow is closed
abbrev pub Closed : (List ℕ → ℕ → Next → Element) → Type 0
Closed make = (values : List ℕ) (n : ℕ) (end : Next) → GoesOn (make values n end) → (end ≡ Close) × (width (make values n end) ≡ n + 2)

pub text_closed : Closed text_element
text_closed values n Close goes = (refl, refl)
text_closed values n (Plain b) goes = absurd goes
text_closed values n (Escape b) goes = absurd goes
text_closed values n LineEnd goes = absurd goes
text_closed values n NoByte goes = absurd goes
text_closed values n NoEscape goes = absurd goes

pub character_closed : Closed character_element
character_closed [] n Close goes = absurd goes
character_closed (b ∷ []) n Close goes = (refl, refl)
character_closed (b ∷ c ∷ values) n Close goes = absurd goes
character_closed values n (Plain b) goes = absurd goes
character_closed values n (Escape b) goes = absurd goes
character_closed values n LineEnd goes = absurd goes
character_closed values n NoByte goes = absurd goes
character_closed values n NoEscape goes = absurd goes

pub quoted_local : (quote : Quote) (make : List ℕ → ℕ → Next → Element) → Closed make → (x : ℕ) (w s t : List ℕ) (p : Element) → GoesOn p → width p ≤ length (x ∷ w) → IsQuoted quote make (x ∷ w ++ s) p → IsQuoted quote make (x ∷ w ++ t) p
quoted_local quote make closed x w s t p goes within quoted =
    let parts = closed quoted.values quoted.bytes quoted.end (subst GoesOn quoted.is goes) in
    let spelled = subst (λ end. CharSequence quote (w ++ s) quoted.values quoted.bytes end) parts.0 quoted.spelled in
    record {
      values = quoted.values;
      bytes = quoted.bytes;
      end = Close;
      spelled = sequence_local quote w s t quoted.values quoted.bytes spelled (omega (arith, ap width quoted.is, parts.1));
      is = quoted.is ∙ ap (make quoted.values quoted.bytes) parts.0;
    }

-- ---- punctuators

abbrev has_blank : List ℕ → Bool
has_blank [] = false
has_blank (b ∷ rest) = is_blank b || has_blank rest

pointwise_blank : (u v : List ℕ) → pointwise nat_eq u v ≡ true → has_blank u ≡ has_blank v
pointwise_blank [] [] e = refl
pointwise_blank [] (y ∷ v) e = absurd (false≢true e)
pointwise_blank (x ∷ u) [] e = absurd (false≢true e)
pointwise_blank (x ∷ u) (y ∷ v) e =
    let parts = and_parts (nat_eq x y) (pointwise nat_eq u v) e in
    let heads = eqb-true x y parts.0 in
    let tails = pointwise_blank u v parts.1 in
    ap (λ b. is_blank b || has_blank u) heads ∙ ap (λ r. is_blank y || r) tails

blank_no_place : (word : List ℕ) (number : ℕ) (words : List (List ℕ)) → has_blank word ≡ true → list_all (λ u. not (has_blank u)) words ≡ true → row_of word number words ≡ None
blank_no_place word number [] blank clean = refl
blank_no_place word number (first ∷ rest) blank clean =
    let parts = and_parts (not (has_blank first)) (list_all (λ u. not (has_blank u)) rest) clean in
    ⊎_elim
    (λ same. absurd (true≢false (sym parts.0 ∙ ap not (pointwise_blank first word same ∙ blank))))
    (λ other. cond-false (pointwise nat_eq first word) (Some number) (row_of word (number + 1) rest) other ∙ blank_no_place word (number + 1) rest blank parts.1)
    (cases_Bool (pointwise nat_eq first word))

blank_is_none : (word : List ℕ) → has_blank word ≡ true → punctuator_kind word ≡ None
blank_is_none word blank =
    let first : punctuator word ≡ None = blank_no_place word 0 punctuators blank refl in
    let second : refused_punctuator word ≡ None = blank_no_place word 33 refused_punctuators blank refl in
    ap (λ o. or_else (as_kind kind.Punct o) (as_kind kind.Refused (refused_punctuator word))) first ∙ ap (as_kind kind.Refused) second

reaches_blank : (w t : List ℕ) (b m : ℕ) → is_blank b ≡ true → length w < m → has_blank (take m (w ++ b ∷ t)) ≡ true
reaches_blank w t b zero blank past = absurd (omega arith)
reaches_blank [] t b (suc m) blank past = or_left (is_blank b) (has_blank (take m t)) blank
reaches_blank (x ∷ w) t b (suc m) blank past = or_right (is_blank x) (has_blank (take m (w ++ b ∷ t))) (reaches_blank w t b m blank (omega arith))

pub punctuator_local : (w s t : List ℕ) (b : ℕ) (p : Element) → is_blank b ≡ true → GoesOn p → width p ≤ length w → IsPunctuator (w ++ s) p → IsPunctuator (w ++ b ∷ t) p
punctuator_local w s t b (element.Lexeme kind n) blank goes within is = (
  omega (arith, length-append w (b ∷ t)),
  ap punctuator_kind (front_same w (b ∷ t) s n within) ∙ is.1,
  λ m above inside.
      ⊎_elim
      (λ past. blank_is_none (take m (w ++ b ∷ t)) (reaches_blank w t b m blank past))
      (λ upto. ap punctuator_kind (front_same w (b ∷ t) s m upto) ∙ is.2 m above (omega (arith, length-append w s)))
      (cases_lt (length w) m),
)
punctuator_local w s t b (element.Bad fault at) blank goes within is = absurd goes
punctuator_local w s t b element.End blank goes within is = absurd is
punctuator_local w s t b element.Blank blank goes within is = absurd is
punctuator_local w s t b (element.Comment n) blank goes within is = absurd is
punctuator_local w s t b (element.Include n) blank goes within is = absurd is
