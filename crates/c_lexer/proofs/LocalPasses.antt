-- What is read up to a place doesn't depend on what follows there, where a blank does and no line ends there.
use Rattle.std.proofs.Common.{◌≡◌, ℕ, zero, suc, ◌+◌, ◌<◌, ◌≤◌, Bool, true, false, ◌&&◌, cond, Option, List, [], ◌∷◌, ◌++◌, length, take, drop, sym, refl, ap, ◌∙◌, subst, inl, inr, ⊎_elim, arith, length-append, length-drop}
use Rattle.std.specs.Prelude.{codes, ◌⊎◌, ◌==◌}
use Rattle.std.specs.List.{prefix_len}
use Rattle.std.proofs.lemmas.Bool.{or_left, cond-true, cases_lt, false≢true}
use Rattle.c_lexer.specs.declared.token.Token.{Token}
use Rattle.c_lexer.specs.declared.element.Class.{Class}
use Rattle.c_lexer.specs.declared.element.Class.TheVariants as class
use Rattle.c_lexer.specs.declared.element.Stop.TheVariants as stop
use Rattle.c_lexer.specs.declared.element.Element.{Element}
use Rattle.c_lexer.specs.declared.element.Element.TheVariants as element
use Rattle.c_lexer.specs.declared.element.Quote.{Quote}
use Rattle.c_lexer.specs.declared.element.Quote.TheVariants.{Double, Single}
use Rattle.c_lexer.specs.declared.element.Next.{Next}
use Rattle.c_lexer.specs.declared.reading.Reading.{Reading}
use Rattle.c_lexer.specs.Bytes.{is_blank, is_digit, is_word_byte, is_number_byte, begins, begins_include, stops, class_of}
use Rattle.c_lexer.specs.Elements.{IsElement, IsPunctuator, IsQuoted, first_place, line_end, text_element, character_element}
use Rattle.c_lexer.specs.Scan.{width, GoesOn, fresh_behind, reading_from}
use Rattle.c_lexer.proofs.Local.{Closed, text_closed, character_closed}
use Rattle.c_lexer.proofs.LocalSpans.{line_end_parts, block_parts, place_passes, line_stopped, include_stopped}
use Rattle.c_lexer.proofs.LocalElement.{IsAccepted, NotRefused, Room, element_local, drop_front, slashes_wide, star_wide, line_wide, number_width}
use Rattle.c_lexer.proofs.Passes.{Passes, here, past}

-- ---- an element that others follow has a byte

abbrev pub class_tests : Bool → Bool → Bool → Bool → Bool → Bool → Bool → Bool → Class
class_tests t1 t2 t3 t4 t5 t6 t7 t8 =
    cond t1 class.Blank
    (cond t2 class.LineComment
    (cond t3 class.BlockComment
    (cond t4 class.IncludeLine
    (cond t5 class.Digits
    (cond t6 class.Word
    (cond t7 class.Text
    (cond t8 class.Character
    class.Other)))))))

-- a class that has a byte of its own at the front
abbrev HasFirst : Class → Bool → Bool → Type 0
HasFirst class.Digits t5 t6 = t5 ≡ true
HasFirst class.Word t5 t6 = t6 ≡ true
HasFirst class.End t5 t6 = Unit {0}
HasFirst class.Blank t5 t6 = Unit {0}
HasFirst class.LineComment t5 t6 = Unit {0}
HasFirst class.BlockComment t5 t6 = Unit {0}
HasFirst class.IncludeLine t5 t6 = Unit {0}
HasFirst class.Text t5 t6 = Unit {0}
HasFirst class.Character t5 t6 = Unit {0}
HasFirst class.Other t5 t6 = Unit {0}

first_by : (t1 t2 t3 t4 t5 t6 t7 t8 : Bool) → HasFirst (class_tests t1 t2 t3 t4 t5 t6 t7 t8) t5 t6
first_by true t2 t3 t4 t5 t6 t7 t8 = tt
first_by false true t3 t4 t5 t6 t7 t8 = tt
first_by false false true t4 t5 t6 t7 t8 = tt
first_by false false false true t5 t6 t7 t8 = tt
first_by false false false false true t6 t7 t8 = refl
first_by false false false false false true t7 t8 = refl
first_by false false false false false false true t8 = tt
first_by false false false false false false false true = tt
first_by false false false false false false false false = tt

first_of : (fresh : Bool) (x : ℕ) (r : List ℕ) → HasFirst (class_of fresh (x ∷ r)) (is_digit x) (is_word_byte x)
first_of fresh x r =
    first_by (is_blank x) (begins (x ∷ r) (codes "//")) (begins (x ∷ r) (codes "/*")) (fresh && begins_include (x ∷ r)) (is_digit x) (is_word_byte x) (x == 34) (x == 39)

quoted_some : (quote : Quote) (make : List ℕ → ℕ → Next → Element) → Closed make → (xs : List ℕ) (p : Element) → GoesOn p → IsQuoted quote make xs p → 0 < width p
quoted_some quote make closed xs p goes quoted =
    let parts = closed quoted.values quoted.bytes quoted.end (subst GoesOn quoted.is goes) in
    omega (arith, ap width quoted.is, parts.1)

punctuator_some : (xs : List ℕ) (p : Element) → GoesOn p → IsPunctuator xs p → 0 < width p
punctuator_some xs (element.Lexeme kind zero) goes is = let e = is.1 in cc
punctuator_some xs (element.Lexeme kind (suc n)) goes is = omega arith
punctuator_some xs (element.Bad fault at) goes is = absurd goes
punctuator_some xs element.End goes is = absurd is
punctuator_some xs element.Blank goes is = absurd is
punctuator_some xs (element.Comment n) goes is = absurd is
punctuator_some xs (element.Include n) goes is = absurd is

digit_of_number : (x : ℕ) → is_digit x ≡ true → is_number_byte x ≡ true
digit_of_number x digit = or_left _ _ (or_left _ _ (or_left _ _ (or_left _ _ digit)))

some_by : (c : Class) (x : ℕ) (r : List ℕ) (p : Element) → HasFirst c (is_digit x) (is_word_byte x) → GoesOn p → IsElement c (x ∷ r) p → 0 < width p
some_by class.End x r p begun goes is = absurd (subst GoesOn is goes)
some_by class.Blank x r p begun goes is = omega (arith, ap width is)
some_by class.LineComment x r p begun goes is = omega (arith, line_wide (drop 2 (x ∷ r)) p goes is)
some_by class.BlockComment x r p begun goes is = omega (arith, ap width (block_parts (drop 2 (x ∷ r)) p goes is).1.is)
some_by class.IncludeLine x r p begun goes is =
    ⊎_elim
    (λ unended. omega (arith, ap width (is ∙ unended)))
    (λ ended. omega (arith, ap width (is ∙ ended.2)))
    (line_end_parts element.Include 1 r (first_place (stops stop.IncludeLine) r) (subst GoesOn is goes))
some_by class.Word x r p begun goes is = omega (arith, ap width is, cond-true (is_word_byte x) (1 + prefix_len is_word_byte r) 0 begun)
some_by class.Digits x r p begun goes is =
    let n = prefix_len is_number_byte (x ∷ r) in
    omega (arith, ap width is, number_width (take n (x ∷ r)) n (subst GoesOn is goes), cond-true (is_number_byte x) (1 + prefix_len is_number_byte r) 0 (digit_of_number x begun))
some_by class.Text x r p begun goes is = quoted_some Double text_element text_closed (x ∷ r) p goes is
some_by class.Character x r p begun goes is = quoted_some Single character_element character_closed (x ∷ r) p goes is
some_by class.Other x r p begun goes is = punctuator_some (x ∷ r) p goes is

pub element_some : (fresh : Bool) (xs : List ℕ) (p : Element) → GoesOn p → IsElement (class_of fresh xs) xs p → 0 < width p
element_some fresh [] p goes is = absurd (subst GoesOn is goes)
element_some fresh (x ∷ r) p goes is = some_by (class_of fresh (x ∷ r)) x r p (first_of fresh x r) goes is

-- ---- the elements up to a place

abbrev pub NoneRefused : List Token → Type 0
NoneRefused [] = Unit {0}
NoneRefused (token ∷ rest) = IsAccepted token.kind × NoneRefused rest

pub accepted_first : (at : ℕ) (p : Element) (r : Reading) → NoneRefused (reading_from at p r).tokens → NotRefused p
accepted_first at (element.Lexeme kind n) r accepted = accepted.0
accepted_first at element.End r accepted = tt
accepted_first at element.Blank r accepted = tt
accepted_first at (element.Comment n) r accepted = tt
accepted_first at (element.Include n) r accepted = tt
accepted_first at (element.Bad fault n) r accepted = tt

pub accepted_rest : (at : ℕ) (p : Element) (r : Reading) → NoneRefused (reading_from at p r).tokens → NoneRefused r.tokens
accepted_rest at (element.Lexeme kind n) r accepted = accepted.1
accepted_rest at element.End r accepted = accepted
accepted_rest at element.Blank r accepted = accepted
accepted_rest at (element.Comment n) r accepted = accepted
accepted_rest at (element.Include n) r accepted = accepted
accepted_rest at (element.Bad fault n) r accepted = accepted

-- what follows the front is something, and neither a newline nor a comment: so no comment to the end of its line and no
-- include line ends there
pub record Follows (s : List ℕ) : Type 0 where
  pub some : 0 < length s
  pub no_newline : begins s (10 ∷ []) ≡ false
  pub no_slashes : begins s (codes "//") ≡ false
  pub no_star : begins s (codes "/*") ≡ false

-- a last element of one byte is no comment
one_left : (fresh fresh' : Bool) (at k : ℕ) (xs : List ℕ) (r : Reading) → Passes fresh at xs k fresh' r → k ≡ 1 → (begins xs (codes "//") ≡ true) ⊎ (begins xs (codes "/*") ≡ true) → ⊥
one_left fresh _ at _ xs _ here one comment = absurd (omega arith)
one_left fresh fresh' at _ xs _ (past {k = k} p is goes rest) one comment =
    ⊎_elim
    (λ slashes. absurd (omega (arith, slashes_wide fresh xs p slashes goes is)))
    (λ star. absurd (omega (arith, star_wide fresh xs p star goes is)))
    comment

drop_whole : (w s : List ℕ) (m : ℕ) → m ≡ length w → drop m (w ++ s) ≡ s
drop_whole w s m same = ap (λ n. drop n (w ++ s)) same ∙ all w
  where
    all : (u : List ℕ) → drop (length u) (u ++ s) ≡ s
    all [] = refl
    all (x ∷ u) = all u

-- the element is a token
abbrev IsToken : Element → Type 0
IsToken (element.Lexeme kind n) = Unit {0}
IsToken element.End = ⊥
IsToken element.Blank = ⊥
IsToken (element.Comment n) = ⊥
IsToken (element.Include n) = ⊥
IsToken (element.Bad fault n) = ⊥

-- The room behind a line in the front: where other elements follow in the front,
room_before : (c : Class) (fresh fresh' : Bool) (at k : ℕ) (x : ℕ) (w s : List ℕ) (p : Element) (r : Reading) → 0 < k → GoesOn p → width p + k ≡ length (x ∷ w) → IsElement c (x ∷ w ++ s) p
    → Passes fresh at (drop (width p) (x ∷ w ++ s)) k fresh' r → Room c (x ∷ w) s p
room_before class.End fresh fresh' at k x w s p r more goes len is rest = tt
room_before class.Blank fresh fresh' at k x w s p r more goes len is rest = tt
room_before class.BlockComment fresh fresh' at k x w s p r more goes len is rest = tt
room_before class.Word fresh fresh' at k x w s p r more goes len is rest = tt
room_before class.Digits fresh fresh' at k x w s p r more goes len is rest = tt
room_before class.Text fresh fresh' at k x w s p r more goes len is rest = tt
room_before class.Character fresh fresh' at k x w s p r more goes len is rest = tt
room_before class.Other fresh fresh' at k x w s p r more goes len is rest = tt
room_before class.LineComment fresh fresh' at k x w s p r more goes len is rest = omega arith
room_before class.IncludeLine fresh fresh' at k x w s p r more goes len is rest =
    ⊎_elim
    (λ unended. absurd (omega (arith, ap width (is ∙ unended), length-append w s)))
    (λ ended.
    let m = ended.0 in
    let n_is : width p ≡ suc m = ap width (is ∙ ended.2) ∙ omega arith in
    let next : drop (width p) (x ∷ w ++ s) ≡ drop m (w ++ s) = ap (λ n. drop n (x ∷ w ++ s)) n_is in (
      omega arith,
      ⊎_elim
          (λ newline. inl (subst (λ ys. begins ys (10 ∷ []) ≡ true) (sym next) newline))
          (λ comment. inr (
          ⊎_elim
          (λ one.
          let narrow : k ≡ 1 = omega (arith, n_is) in
          let P : List ℕ → Type 0 = λ ys. (begins ys (codes "//") ≡ true) ⊎ (begins ys (codes "/*") ≡ true) in
          absurd (one_left fresh fresh' at k (drop (width p) (x ∷ w ++ s)) r rest narrow (subst P (sym next) comment)))
          (λ two. omega (arith, n_is))
          (cases_lt (length w) (m + 2))))
          (include_stopped (drop m (w ++ s)) (place_passes (stops stop.IncludeLine) (w ++ s) m ended.1.place) ended.1.clear),
    ))
    (line_end_parts element.Include 1 (w ++ s) (first_place (stops stop.IncludeLine) (w ++ s)) (subst GoesOn is goes))

-- where the element is the last one of the front, so that it is no line,
room_last : (c : Class) (x : ℕ) (w s : List ℕ) (p : Element) → Follows s → GoesOn p → width p ≡ length (x ∷ w) → IsElement c (x ∷ w ++ s) p → Room c (x ∷ w) s p
room_last class.End x w s p follows goes len is = tt
room_last class.Blank x w s p follows goes len is = tt
room_last class.BlockComment x w s p follows goes len is = tt
room_last class.Word x w s p follows goes len is = tt
room_last class.Digits x w s p follows goes len is = tt
room_last class.Text x w s p follows goes len is = tt
room_last class.Character x w s p follows goes len is = tt
room_last class.Other x w s p follows goes len is = tt
room_last class.LineComment x [] s p follows goes len is = absurd (omega (arith, line_wide (drop 2 (x ∷ s)) p goes is))
room_last class.LineComment x (y ∷ w) s p follows goes len is =
    ⊎_elim
    (λ unended. absurd (omega (arith, ap width (is ∙ unended), length-append w s, follows.some)))
    (λ ended.
    let m = ended.0 in
    let newline = line_stopped (drop m (w ++ s)) (place_passes (stops stop.LineComment) (w ++ s) m ended.1.place) ended.1.clear in
    let whole : m ≡ length w = omega (arith, ap width (is ∙ ended.2)) in
    absurd (false≢true (sym follows.no_newline ∙ subst (λ ys. begins ys (10 ∷ []) ≡ true) (drop_whole w s m whole) newline)))
    (line_end_parts element.Comment 2 (w ++ s) (first_place (stops stop.LineComment) (w ++ s)) (subst GoesOn is goes))
room_last class.IncludeLine x w s p follows goes len is =
    ⊎_elim
    (λ unended. absurd (omega (arith, ap width (is ∙ unended), length-append w s, follows.some)))
    (λ ended.
    let m = ended.0 in
    let whole : m ≡ length w = omega (arith, ap width (is ∙ ended.2)) in
    let at_s = drop_whole w s m whole in
    ⊎_elim
    (λ newline. absurd (false≢true (sym follows.no_newline ∙ subst (λ ys. begins ys (10 ∷ []) ≡ true) at_s newline)))
    (λ comment.
    ⊎_elim
    (λ slashes. absurd (false≢true (sym follows.no_slashes ∙ subst (λ ys. begins ys (codes "//") ≡ true) at_s slashes)))
    (λ star. absurd (false≢true (sym follows.no_star ∙ subst (λ ys. begins ys (codes "/*") ≡ true) at_s star)))
    comment)
    (include_stopped (drop m (w ++ s)) (place_passes (stops stop.IncludeLine) (w ++ s) m ended.1.place) ended.1.clear))
    (line_end_parts element.Include 1 (w ++ s) (first_place (stops stop.IncludeLine) (w ++ s)) (subst GoesOn is goes))

-- and where it is a token
no_line : (make : ℕ → Element) (n : ℕ) (body : List ℕ) (o : Option ℕ) (p : Element) → ((m : ℕ) → IsToken (make m) → ⊥) → GoesOn p → p ≡ line_end make n body o → IsToken p → ⊥
no_line make n body o p apart goes is token =
    ⊎_elim
    (λ unended. apart _ (subst IsToken (is ∙ unended) token))
    (λ ended. apart _ (subst IsToken (is ∙ ended.2) token))
    (line_end_parts make n body o (subst GoesOn is goes))

room_token : (c : Class) (x : ℕ) (w s : List ℕ) (p : Element) → IsToken p → GoesOn p → IsElement c (x ∷ w ++ s) p → Room c (x ∷ w) s p
room_token class.End x w s p token goes is = tt
room_token class.Blank x w s p token goes is = tt
room_token class.BlockComment x w s p token goes is = tt
room_token class.Word x w s p token goes is = tt
room_token class.Digits x w s p token goes is = tt
room_token class.Text x w s p token goes is = tt
room_token class.Character x w s p token goes is = tt
room_token class.Other x w s p token goes is = tt
room_token class.LineComment x w s p token goes is =
    let body = drop 2 (x ∷ w ++ s) in
    absurd (no_line element.Comment 2 body (first_place (stops stop.LineComment) body) p (λ m none. none) goes is token)
room_token class.IncludeLine x w s p token goes is =
    let body = w ++ s in
    absurd (no_line element.Include 1 body (first_place (stops stop.IncludeLine) body) p (λ m none. none) goes is token)

-- the last of these tokens ends at the place
abbrev pub TokenEndsAt : List Token → ℕ → Type 0
TokenEndsAt [] place = ⊥
TokenEndsAt (token ∷ []) place = token.end ≡ place
TokenEndsAt (token ∷ next ∷ rest) place = TokenEndsAt (next ∷ rest) place

-- No comment to the end of its line and no include line ends at the place, k bytes further: what follows there says so, or
-- nothing was read, or a token ends there.
pub data Apart (s : List ℕ) (k : ℕ) (tokens : List Token) (place : ℕ) : Type 0 where
  something_follows : Follows s → Apart s k tokens place
  nothing_before : k ≡ 0 → Apart s k tokens place
  token_before : TokenEndsAt tokens place → Apart s k tokens place

-- what an element owes: room behind it, and that the elements behind it end so too
record Onward (s : List ℕ) (k : ℕ) (p : Element) (tokens : List Token) (place : ℕ) : Type 0 where
  clear : (Follows s) ⊎ ((0 < k) ⊎ IsToken p)
  apart : Apart s k tokens place

first_or_rest : (token : Token) (rest : List Token) (place : ℕ) → TokenEndsAt (token ∷ rest) place → (token.end ≡ place) ⊎ TokenEndsAt rest place
first_or_rest token [] place e = inl e
first_or_rest token (next ∷ rest) place e = inr e

-- a token that ends at the place behind an element has a byte
some_left : (fresh fresh' : Bool) (at k : ℕ) (xs : List ℕ) (r : Reading) (place : ℕ) → Passes fresh at xs k fresh' r → TokenEndsAt r.tokens place → 0 < k
some_left fresh _ at _ xs _ place here e = absurd e
some_left fresh fresh' at _ xs _ place (past {k = k} p is goes rest) e = omega (arith, element_some fresh xs p goes is)

onward_ended : (fresh fresh' : Bool) (at k : ℕ) (xs s : List ℕ) (p : Element) (r : Reading) → GoesOn p → Passes fresh (at + width p) xs k fresh' r → TokenEndsAt (reading_from at p r).tokens (at + (width p + k))
    → Onward s k p r.tokens (at + width p + k)
onward_ended fresh fresh' at k xs s p r goes rest e = by_element p goes rest (subst (TokenEndsAt (reading_from at p r).tokens) sum e)
  where
    sum : at + (width p + k) ≡ at + width p + k
    sum = omega arith

    later : (q : Element) → Passes fresh (at + width q) xs k fresh' r → TokenEndsAt r.tokens (at + width q + k) → Onward s k q r.tokens (at + width q + k)
    later q rest' e' = record { clear = inr (inl (some_left fresh fresh' (at + width q) k xs r (at + width q + k) rest' e')); apart = token_before e' }

    by_element : (q : Element) → GoesOn q → Passes fresh (at + width q) xs k fresh' r → TokenEndsAt (reading_from at q r).tokens (at + width q + k) → Onward s k q r.tokens (at + width q + k)
    by_element element.End goes' rest' e' = absurd goes'
    by_element (element.Bad fault n) goes' rest' e' = absurd goes'
    by_element element.Blank goes' rest' e' = later element.Blank rest' e'
    by_element (element.Comment n) goes' rest' e' = later (element.Comment n) rest' e'
    by_element (element.Include n) goes' rest' e' = later (element.Include n) rest' e'
    by_element (element.Lexeme kind n) goes' rest' e' =
        ⊎_elim
        (λ last. record { clear = inr (inr tt); apart = nothing_before (omega arith) })
        (λ more. later (element.Lexeme kind n) rest' more)
        (first_or_rest (record { kind = kind; start = at; end = at + n }) r.tokens (at + n + k) e')

onward : (fresh fresh' : Bool) (at k : ℕ) (xs s : List ℕ) (p : Element) (r : Reading) → GoesOn p → 0 < width p → Passes fresh (at + width p) xs k fresh' r → Apart s (width p + k) (reading_from at p r).tokens (at + (width p + k))
    → Onward s k p r.tokens (at + width p + k)
onward fresh fresh' at k xs s p r goes some rest (something_follows f) = record { clear = inl f; apart = something_follows f }
onward fresh fresh' at k xs s p r goes some rest (nothing_before none) = absurd (omega arith)
onward fresh fresh' at k xs s p r goes some rest (token_before e) = onward_ended fresh fresh' at k xs s p r goes rest e

room_of : (c : Class) (fresh fresh' : Bool) (at k : ℕ) (x : ℕ) (w s : List ℕ) (p : Element) (r : Reading) → (Follows s) ⊎ ((0 < k) ⊎ IsToken p) → GoesOn p → width p + k ≡ length (x ∷ w) → IsElement c (x ∷ w ++ s) p
    → Passes fresh at (drop (width p) (x ∷ w ++ s)) k fresh' r → Room c (x ∷ w) s p
room_of c fresh fresh' at k x w s p r (inr (inl more)) goes len is rest = room_before c fresh fresh' at k x w s p r more goes len is rest
room_of c fresh fresh' at k x w s p r (inr (inr token)) goes len is rest = room_token c x w s p token goes is
room_of c fresh fresh' at k x w s p r (inl f) goes len is rest =
    ⊎_elim
    (λ more. room_before c fresh fresh' at k x w s p r more goes len is rest)
    (λ none. room_last c x w s p f goes (omega arith) is)
    (cases_lt 0 k)

fresh_same : (fresh : Bool) (x : ℕ) (r r' : List ℕ) (p : Element) → fresh_behind fresh (x ∷ r) p ≡ fresh_behind fresh (x ∷ r') p
fresh_same fresh x r r' element.End = refl
fresh_same fresh x r r' element.Blank = refl
fresh_same fresh x r r' (element.Comment n) = refl
fresh_same fresh x r r' (element.Include n) = refl
fresh_same fresh x r r' (element.Lexeme kind n) = refl
fresh_same fresh x r r' (element.Bad fault n) = refl

-- What is read up to the end of the front, none of it refused, is read so too where a blank stands behind the front,
-- whatever follows the blank.
pub passes_local : (fresh fresh' : Bool) (at k : ℕ) (xs : List ℕ) (r : Reading) → Passes fresh at xs k fresh' r → (w s t : List ℕ) (b : ℕ) → xs ≡ w ++ s → k ≡ length w → is_blank b ≡ true → Apart s k r.tokens (at + k)
    → NoneRefused r.tokens → Passes fresh at (w ++ b ∷ t) k fresh' r
passes_local fresh _ at _ xs _ here w s t b same len blank apart accepted = here
passes_local fresh fresh' at _ xs _ (past {k = k} p is goes rest) [] s t b same len blank apart accepted = absurd (omega (arith, element_some fresh xs p goes is))
passes_local fresh fresh' at _ xs _ (past {k = k} {r = r} p is goes rest) (x ∷ w) s t b same len blank apart accepted =
    let n = width p in
    let P : List ℕ → Type 0 = λ ys. IsElement (class_of fresh ys) ys p in
    let is' : IsElement (class_of fresh (x ∷ w ++ s)) (x ∷ w ++ s) p = subst P same is in
    let Q : List ℕ → Type 0 = λ ys. Passes (fresh_behind fresh ys p) (at + n) (drop n ys) k fresh' r in
    let rest' = subst Q same rest in
    let within' : n ≤ length (x ∷ w) = omega arith in
    let on = onward (fresh_behind fresh xs p) fresh' at k (drop n xs) s p r goes (element_some fresh xs p goes is) rest apart in
    let room = room_of (class_of fresh (x ∷ w ++ s)) (fresh_behind fresh (x ∷ w ++ s) p) fresh' (at + n) k x w s p r on.clear goes len is' rest' in
    let there = element_local fresh x w s t b p blank goes (accepted_first at p r accepted) within' room is' in
    let left : k ≡ length (drop n (x ∷ w)) = omega (arith, length-drop n (x ∷ w)) in
    let behind = passes_local (fresh_behind fresh xs p) fresh' (at + n) k (drop n xs) r rest (drop n (x ∷ w)) s t b (ap (drop n) same ∙ drop_front (x ∷ w) s n within') left blank on.apart (accepted_rest at p r accepted) in
    let R : Bool → Type 0 = λ f. Passes f (at + n) (drop n (x ∷ w ++ b ∷ t)) k fresh' r in
    let S : List ℕ → Type 0 = λ ys. Passes (fresh_behind fresh xs p) (at + n) ys k fresh' r in
    past p there goes (subst R (ap (λ ys. fresh_behind fresh ys p) same ∙ fresh_same fresh x (w ++ s) (w ++ b ∷ t) p) (subst S (sym (drop_front (x ∷ w) (b ∷ t) n within')) behind))
