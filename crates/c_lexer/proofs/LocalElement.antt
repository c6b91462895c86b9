-- The element at the front of a text is the same whatever follows the front, where a blank does.
use Rattle.std.proofs.Common.{◌≡◌, ℕ, zero, suc, ◌+◌, ◌<◌, ◌≤◌, Bool, true, false, ◌&&◌, cond, List, [], ◌∷◌, ◌++◌, Option, Some, None, length, take, drop, nat_eq, sym, refl, ap, ◌∙◌, subst, ⊎_elim, arith, add-one, length-append, length-drop}
use Rattle.std.specs.Prelude.{codes, ◌⊎◌, ◌==◌, ℤ}
use Rattle.std.specs.List.{prefix_len}
use Rattle.std.specs.Cmp.Lexicographic.{pointwise}
use Rattle.std.proofs.lemmas.Bool.{and_parts, and_left, and_right, or_cases, or_from, cond-true, cond-false, cases_Bool, eqb-true, ne_eqb, false_from_ne_true, false≢true}
use Rattle.c_lexer.specs.declared.element.Class.{Class}
use Rattle.c_lexer.specs.declared.element.Class.TheVariants as class
use Rattle.c_lexer.specs.declared.element.Stop.TheVariants as stop
use Rattle.c_lexer.specs.declared.element.Element.{Element}
use Rattle.c_lexer.specs.declared.element.Element.TheVariants as element
use Rattle.c_lexer.specs.declared.element.Quote.TheVariants.{Double, Single}
use Rattle.c_lexer.specs.declared.token.Kind.{Kind}
use Rattle.c_lexer.specs.declared.token.Kind.TheVariants as kind
use Rattle.c_lexer.specs.Bytes.{is_blank, is_digit, is_word_byte, is_number_byte, is_space, begins, begins_include, stops, class_of}
use Rattle.c_lexer.specs.Words.{number_form, refused_punctuator, or_else, as_kind}
use Rattle.c_lexer.specs.Elements.{int_of, decimal_element, decimal_value, is_decimal, number_by, first_place, line_end, include_line, IsElement, IsPunctuator, text_element, character_element}
use Rattle.c_lexer.specs.Scan.{width, GoesOn}
use Rattle.c_lexer.proofs.Local.{blank_low, word_same, number_same, quoted_local, text_closed, character_closed, punctuator_local}
use Rattle.c_lexer.proofs.LocalSpans.{place_parts, line_end_parts, line_local, include_local, block_local, block_parts, begins_same}

-- ---- an accepted token

abbrev pub IsAccepted : Kind → Type 0
IsAccepted (kind.Refused row) = ⊥
IsAccepted (kind.Name word) = Unit {0}
IsAccepted (kind.Key number) = Unit {0}
IsAccepted (kind.Number value) = Unit {0}
IsAccepted (kind.Text bytes) = Unit {0}
IsAccepted (kind.Punct number) = Unit {0}

-- the element is no refused token
abbrev pub NotRefused : Element → Type 0
NotRefused (element.Lexeme kind n) = IsAccepted kind
NotRefused element.End = Unit {0}
NotRefused element.Blank = Unit {0}
NotRefused (element.Comment n) = Unit {0}
NotRefused (element.Include n) = Unit {0}
NotRefused (element.Bad fault n) = Unit {0}

refused_kind : (o : Option ℕ) (k : Kind) → or_else None (as_kind kind.Refused o) ≡ Some k → IsAccepted k → ⊥
refused_kind None k e accepted = cc
refused_kind (Some row) k e accepted = let same : kind.Refused row ≡ k = cc in subst IsAccepted (sym same) accepted

-- a punctuator that begins with `#` is refused
pub hash_refused : (r : List ℕ) (p : Element) → IsPunctuator (35 ∷ r) p → GoesOn p → NotRefused p → ⊥
hash_refused r (element.Lexeme k zero) is goes accepted = let e = is.1 in cc
hash_refused r (element.Lexeme k (suc n)) is goes accepted = refused_kind (refused_punctuator (35 ∷ take n r)) k is.1 accepted
hash_refused r (element.Bad fault at) is goes accepted = goes
hash_refused r element.End is goes accepted = is
hash_refused r element.Blank is goes accepted = is
hash_refused r (element.Comment n) is goes accepted = is
hash_refused r (element.Include n) is goes accepted = is

-- ---- the class

abbrev pub class_by : Bool → Bool → Bool → ℕ → Class
class_by slashes star include x =
    cond (is_blank x) class.Blank
    (cond slashes class.LineComment
    (cond star class.BlockComment
    (cond include class.IncludeLine
    (cond (is_digit x) class.Digits
    (cond (is_word_byte x) class.Word
    (cond (x == 34) class.Text
    (cond (x == 39) class.Character
    class.Other)))))))

pub line_wide : (body : List ℕ) (p : Element) → GoesOn p → p ≡ line_end element.Comment 2 body (first_place (stops stop.LineComment) body) → 2 ≤ width p
line_wide body p goes is =
    ⊎_elim
    (λ unended. omega (arith, ap width (is ∙ unended)))
    (λ ended. omega (arith, ap width (is ∙ ended.2)))
    (line_end_parts element.Comment 2 body (first_place (stops stop.LineComment) body) (subst GoesOn is goes))

-- a comment has two bytes at least
pub slashes_wide : (fresh : Bool) (xs : List ℕ) (p : Element) → begins xs (codes "//") ≡ true → GoesOn p → IsElement (class_of fresh xs) xs p → 2 ≤ width p
slashes_wide fresh [] p e goes is = absurd (false≢true e)
slashes_wide fresh (x ∷ []) p e goes is = absurd (false≢true (sym (and_right (nat_eq 47 x) false refl) ∙ e))
slashes_wide fresh (x ∷ y ∷ r) p e goes is =
    let parts = and_parts (nat_eq 47 x) (nat_eq 47 y && true) e in
    let first : x ≡ 47 = sym (eqb-true 47 x parts.0) in
    let second : y ≡ 47 = sym (eqb-true 47 y (and_parts (nat_eq 47 y) true parts.1).0) in
    let P : ℕ → Type 0 = λ a. IsElement (class_of fresh (a ∷ y ∷ r)) (a ∷ y ∷ r) p in
    let Q : ℕ → Type 0 = λ a. IsElement (class_of fresh (47 ∷ a ∷ r)) (47 ∷ a ∷ r) p in
    let there : IsElement (class_of fresh (47 ∷ 47 ∷ r)) (47 ∷ 47 ∷ r) p = subst Q second (subst P first is) in
    line_wide r p goes there

pub star_wide : (fresh : Bool) (xs : List ℕ) (p : Element) → begins xs (codes "/*") ≡ true → GoesOn p → IsElement (class_of fresh xs) xs p → 2 ≤ width p
star_wide fresh [] p e goes is = absurd (false≢true e)
star_wide fresh (x ∷ []) p e goes is = absurd (false≢true (sym (and_right (nat_eq 47 x) false refl) ∙ e))
star_wide fresh (x ∷ y ∷ r) p e goes is =
    let parts = and_parts (nat_eq 47 x) (nat_eq 42 y && true) e in
    let first : x ≡ 47 = sym (eqb-true 47 x parts.0) in
    let second : y ≡ 42 = sym (eqb-true 42 y (and_parts (nat_eq 42 y) true parts.1).0) in
    let P : ℕ → Type 0 = λ a. IsElement (class_of fresh (a ∷ y ∷ r)) (a ∷ y ∷ r) p in
    let Q : ℕ → Type 0 = λ a. IsElement (class_of fresh (47 ∷ a ∷ r)) (47 ∷ a ∷ r) p in
    let there : IsElement (class_of fresh (47 ∷ 42 ∷ r)) (47 ∷ 42 ∷ r) p = subst Q second (subst P first is) in
    omega (arith, ap width (block_parts r p goes there).1.is)

low_not : (b c : ℕ) → b ≤ 32 → 32 < c → nat_eq c b ≡ false
low_not b c low high = ne_eqb c b (λ same. absurd (omega arith))

-- the first two bytes are the same, or the second is a blank
two_same : (x c d b : ℕ) (w s t : List ℕ) → b ≤ 32 → 32 < d → (length (x ∷ w) ≤ 1 → begins (x ∷ w ++ s) (c ∷ d ∷ []) ≡ false) → begins (x ∷ w ++ s) (c ∷ d ∷ []) ≡ begins (x ∷ w ++ b ∷ t) (c ∷ d ∷ [])
two_same x c d b (y ∷ w) s t low high short = refl
two_same x c d b [] s t low high short = short (omega arith) ∙ sym (and_right (nat_eq c x) (nat_eq d b && true) (and_left (nat_eq d b) true (low_not b d low high)))

-- ---- the opening of an include line

-- a byte at which no include line stops
record IsCalm (a : ℕ) : Type 0 where
  no_newline : nat_eq 10 a ≡ false
  no_slash : nat_eq 47 a ≡ false
  no_backslash : nat_eq 92 a ≡ false

calm_goes_on : (a : ℕ) (r : List ℕ) → IsCalm a → stops stop.IncludeLine (a ∷ r) ≡ false
calm_goes_on a r calm =
    or_from _ _
    (or_from _ _
    (or_from _ _ (and_left (nat_eq 10 a) true calm.no_newline) (and_left (nat_eq 47 a) (pointwise nat_eq (47 ∷ []) (take 1 r)) calm.no_slash))
    (and_left (nat_eq 47 a) (pointwise nat_eq (42 ∷ []) (take 1 r)) calm.no_slash))
    (and_left (nat_eq 92 a && true) _ (and_left (nat_eq 92 a) true calm.no_backslash))

-- the place is past a calm byte
calm_first : (a m : ℕ) (r : List ℕ) → IsCalm a → first_place (stops stop.IncludeLine) (a ∷ r) ≡ Some m → (k : ℕ) × (first_place (stops stop.IncludeLine) r ≡ Some k) × (m ≡ k + 1)
calm_first a m r calm place =
    ⊎_elim
    (λ here. absurd (false≢true (sym (calm_goes_on a r calm) ∙ here.0)))
    (λ after. after.1)
    (place_parts (stops stop.IncludeLine) a m r place)

data AllCalm : List ℕ → Type 0 where
  empty : AllCalm []
  more : {a : ℕ} {u : List ℕ} → IsCalm a → AllCalm u → AllCalm (a ∷ u)

calm_front : (u r : List ℕ) (m : ℕ) → AllCalm u → first_place (stops stop.IncludeLine) (u ++ r) ≡ Some m → length u ≤ m
calm_front [] r m calm place = omega arith
calm_front (a ∷ u) r m (more first rest) place =
    let after = calm_first a m (u ++ r) first place in
    omega (arith, calm_front u r after.0 rest after.1, after.2)

literal : (a : ℕ) → nat_eq 10 a ≡ false → nat_eq 47 a ≡ false → nat_eq 92 a ≡ false → IsCalm a
literal a p q r = record { no_newline = p; no_slash = q; no_backslash = r }

include_calm : AllCalm (codes "include")
include_calm =
    more (literal 105 refl refl refl) (more (literal 110 refl refl refl) (more (literal 99 refl refl refl) (more (literal 108 refl refl refl) (more (literal 117 refl refl refl) (more (literal 100 refl refl refl) (more (literal 101 refl refl refl) empty))))))

space_calm : (x : ℕ) → is_space x ≡ true → IsCalm x
space_calm x space =
    let P : ℕ → Type 0 = IsCalm in
    ⊎_elim
    (λ blank. subst P (sym (eqb-true x 32 blank)) (literal 32 refl refl refl))
    (λ tab. subst P (sym (eqb-true x 9 tab)) (literal 9 refl refl refl))
    (or_cases (x == 32) (x == 9) space)

-- what begins with a word is that word and what follows
begins_split : (u xs : List ℕ) → begins xs u ≡ true → xs ≡ u ++ drop (length u) xs
begins_split [] xs e = refl
begins_split (a ∷ u) [] e = absurd (false≢true e)
begins_split (a ∷ u) (x ∷ xs) e =
    let parts = and_parts (nat_eq a x) (begins xs u) e in
    let first = eqb-true a x parts.0 in
    let rest = begins_split u xs parts.1 in
    ap (λ y. y ∷ xs) (sym first) ∙ ap (λ ys. a ∷ ys) rest

-- an include line stops behind its `include`
include_inside : (xs : List ℕ) (m : ℕ) → begins (drop (prefix_len is_space xs) xs) (codes "include") ≡ true → first_place (stops stop.IncludeLine) xs ≡ Some m → prefix_len is_space xs + 7 ≤ m
include_inside [] m word place = cc
include_inside (x ∷ xs) m word place =
    ⊎_elim
    (λ space.
    let k = prefix_len is_space xs in
    let len : prefix_len is_space (x ∷ xs) ≡ k + 1 = cond-true (is_space x) (1 + k) 0 space ∙ omega arith in
    let after = calm_first x m xs (space_calm x space) place in
    let word' : begins (drop k xs) (codes "include") ≡ true = subst (λ ys. begins ys (codes "include") ≡ true) (ap (λ n. drop n (x ∷ xs)) (len ∙ add-one k)) word in
    omega (arith, include_inside xs after.0 word' after.1, after.2, len))
    (λ other.
    let len : prefix_len is_space (x ∷ xs) ≡ 0 = cond-false (is_space x) (1 + prefix_len is_space xs) 0 other in
    let word' : begins (x ∷ xs) (codes "include") ≡ true = subst (λ n. begins (drop n (x ∷ xs)) (codes "include") ≡ true) len word in
    let split = begins_split (codes "include") (x ∷ xs) word' in
    let inside = calm_front (codes "include") (drop (length (codes "include")) (x ∷ xs)) m include_calm (subst (λ ys. first_place (stops stop.IncludeLine) ys ≡ Some m) split place) in
    omega (arith, inside, len))
    (cases_Bool (is_space x))

-- ---- the class, where only the front is the same

run_inside : (test : ℕ → Bool) (w s t : List ℕ) → prefix_len test (w ++ s) < length w → prefix_len test (w ++ t) ≡ prefix_len test (w ++ s)
run_inside test [] s t inside = absurd (omega arith)
run_inside test (x ∷ w) s t inside =
    ⊎_elim
    (λ passes.
    let shorter : prefix_len test (w ++ s) < length w = omega (arith, cond-true (test x) (1 + prefix_len test (w ++ s)) 0 passes) in
    cond-true (test x) (1 + prefix_len test (w ++ t)) 0 passes ∙ ap (λ n. 1 + n) (run_inside test w s t shorter) ∙ sym (cond-true (test x) (1 + prefix_len test (w ++ s)) 0 passes))
    (λ other. cond-false (test x) (1 + prefix_len test (w ++ t)) 0 other ∙ sym (cond-false (test x) (1 + prefix_len test (w ++ s)) 0 other))
    (cases_Bool (test x))

pub drop_front : (w s : List ℕ) (n : ℕ) → n ≤ length w → drop n (w ++ s) ≡ drop n w ++ s
drop_front w s zero within = refl
drop_front [] s (suc n) within = absurd (omega arith)
drop_front (x ∷ w) s (suc n) within = drop_front w s n (omega arith)

include_same : (w s t : List ℕ) (m : ℕ) → begins (drop (prefix_len is_space (w ++ s)) (w ++ s)) (codes "include") ≡ true → first_place (stops stop.IncludeLine) (w ++ s) ≡ Some m → m ≤ length w
    → begins (drop (prefix_len is_space (w ++ t)) (w ++ t)) (codes "include") ≡ true
include_same w s t m word place within =
    let k = prefix_len is_space (w ++ s) in
    let inside = include_inside (w ++ s) m word place in
    let len : prefix_len is_space (w ++ t) ≡ k = run_inside is_space w s t (omega (arith, inside)) in
    let long : 7 ≤ length (drop k w) = omega (arith, inside, length-drop k w) in
    ap (λ n. begins (drop n (w ++ t)) (codes "include")) len
    ∙ ap (λ ys. begins ys (codes "include")) (drop_front w t k (omega (arith, inside)))
    ∙ begins_same (drop k w) t s (codes "include") long
    ∙ ap (λ ys. begins ys (codes "include")) (sym (drop_front w s k (omega (arith, inside))))
    ∙ word

-- what a line needs of the front behind it: a byte, and two where a comment follows an include line
abbrev pub Room : Class → List ℕ → List ℕ → Element → Type 0
Room class.LineComment w s p = width p < length w
Room class.IncludeLine w s p = (width p < length w) × ((begins (drop (width p) (w ++ s)) (10 ∷ []) ≡ true) ⊎ (width p + 2 ≤ length w))
Room class.End w s p = Unit {0}
Room class.Blank w s p = Unit {0}
Room class.BlockComment w s p = Unit {0}
Room class.Word w s p = Unit {0}
Room class.Digits w s p = Unit {0}
Room class.Text w s p = Unit {0}
Room class.Character w s p = Unit {0}
Room class.Other w s p = Unit {0}

hash_include : (w s t : List ℕ) (p : Element) → GoesOn p → NotRefused p → width p ≤ length (35 ∷ w) → Room (class_of true (35 ∷ w ++ s)) (35 ∷ w) s p → IsElement (class_of true (35 ∷ w ++ s)) (35 ∷ w ++ s) p
    → begins_include (35 ∷ w ++ s) ≡ begins_include (35 ∷ w ++ t)
hash_include w s t p goes accepted within room is =
    ⊎_elim
    (λ include.
    let line : class_of true (35 ∷ w ++ s) ≡ class.IncludeLine = cond-true (begins_include (35 ∷ w ++ s)) class.IncludeLine class.Other include in
    let P : Class → Type 0 = λ c. IsElement c (35 ∷ w ++ s) p in
    let is_line : p ≡ include_line (35 ∷ w ++ s) = subst P line is in
    let Q : Class → Type 0 = λ c. Room c (35 ∷ w) s p in
    let behind = subst Q line room in
    ⊎_elim
    (λ unended. absurd (omega (arith, behind.0, ap width (is_line ∙ unended), length-append w s)))
    (λ ended. include ∙ sym (include_same w s t ended.0 include ended.1.place (omega (arith, ap width (is_line ∙ ended.2)))))
    (line_end_parts element.Include 1 (w ++ s) (first_place (stops stop.IncludeLine) (w ++ s)) (subst GoesOn is_line goes)))
    (λ other.
    let apart : class_of true (35 ∷ w ++ s) ≡ class.Other = cond-false (begins_include (35 ∷ w ++ s)) class.IncludeLine class.Other other in
    let P : Class → Type 0 = λ c. IsElement c (35 ∷ w ++ s) p in
    absurd (hash_refused (w ++ s) p (subst P apart is) goes accepted))
    (cases_Bool (begins_include (35 ∷ w ++ s)))

fresh_include : (fresh : Bool) (x : ℕ) (w s t : List ℕ) (p : Element) → GoesOn p → NotRefused p → width p ≤ length (x ∷ w) → Room (class_of fresh (x ∷ w ++ s)) (x ∷ w) s p → IsElement (class_of fresh (x ∷ w ++ s)) (x ∷ w ++ s) p
    → (fresh && begins_include (x ∷ w ++ s)) ≡ (fresh && begins_include (x ∷ w ++ t))
fresh_include false x w s t p goes accepted within room is = refl
fresh_include true x w s t p goes accepted within room is =
    ⊎_elim
    (λ hash.
    let same : x ≡ 35 = sym (eqb-true 35 x hash) in
    let P : ℕ → Type 0 = λ y. Room (class_of true (y ∷ w ++ s)) (y ∷ w) s p → IsElement (class_of true (y ∷ w ++ s)) (y ∷ w ++ s) p → begins_include (y ∷ w ++ s) ≡ begins_include (y ∷ w ++ t) in
    subst P (sym same) (λ room' is'. hash_include w s t p goes accepted within room' is') room is)
    (λ other.
    let no_hash : (r : List ℕ) → begins_include (x ∷ r) ≡ false = λ r. and_left (nat_eq 35 x && true) _ (and_left (nat_eq 35 x) true other) in
    no_hash (w ++ s) ∙ sym (no_hash (w ++ t)))
    (cases_Bool (nat_eq 35 x))

class_same : (fresh : Bool) (x : ℕ) (w s t : List ℕ) (b : ℕ) (p : Element) → is_blank b ≡ true → GoesOn p → NotRefused p → width p ≤ length (x ∷ w) → Room (class_of fresh (x ∷ w ++ s)) (x ∷ w) s p → IsElement (class_of fresh (x ∷ w ++ s)) (x ∷ w ++ s) p
    → class_of fresh (x ∷ w ++ s) ≡ class_of fresh (x ∷ w ++ b ∷ t)
class_same fresh x w s t b p blank goes accepted within room is =
    let low = blank_low b blank in
    let slashes = two_same x 47 47 b w s t low (omega arith) (λ short. false_from_ne_true (begins (x ∷ w ++ s) (codes "//")) (λ e. absurd (omega (arith, slashes_wide fresh (x ∷ w ++ s) p e goes is)))) in
    let star = two_same x 47 42 b w s t low (omega arith) (λ short. false_from_ne_true (begins (x ∷ w ++ s) (codes "/*")) (λ e. absurd (omega (arith, star_wide fresh (x ∷ w ++ s) p e goes is)))) in
    let include = fresh_include fresh x w s (b ∷ t) p goes accepted within room is in
    λ i. class_by (slashes i) (star i) (include i) x

-- ---- the element

decimal_width : (o : Option ℤ) (n : ℕ) → GoesOn (decimal_element o n) → width (decimal_element o n) ≡ n
decimal_width None n goes = absurd goes
decimal_width (Some value) n goes = refl

pub number_width : (run : List ℕ) (n : ℕ) → GoesOn (number_by run n) → width (number_by run n) ≡ n
number_width run n goes =
    let yes' = decimal_element (int_of (decimal_value run)) n in
    let other : Element = element.Lexeme (kind.Refused number_form) n in
    ⊎_elim
    (λ decimal. ap width (cond-true (is_decimal run) yes' other decimal) ∙ decimal_width (int_of (decimal_value run)) n (subst GoesOn (cond-true (is_decimal run) yes' other decimal) goes))
    (λ else. ap width (cond-false (is_decimal run) yes' other else))
    (cases_Bool (is_decimal run))

of_class : (c : Class) (x : ℕ) (w s t : List ℕ) (b : ℕ) (p : Element) → is_blank b ≡ true → GoesOn p → width p ≤ length (x ∷ w) → Room c (x ∷ w) s p → IsElement c (x ∷ w ++ s) p → IsElement c (x ∷ w ++ b ∷ t) p
of_class class.End x w s t b p blank goes within room is = is
of_class class.Blank x w s t b p blank goes within room is = is
of_class class.LineComment x [] s t b p blank goes within room is = absurd (omega (arith, line_wide (drop 2 (x ∷ s)) p goes is))
of_class class.LineComment x (y ∷ w) s t b p blank goes within room is = line_local x y w s (b ∷ t) p goes room is
of_class class.BlockComment x [] s t b p blank goes within room is = absurd (omega (arith, ap width (block_parts (drop 2 (x ∷ s)) p goes is).1.is))
of_class class.BlockComment x (y ∷ w) s t b p blank goes within room is = block_local x y w s (b ∷ t) p goes within is
of_class class.IncludeLine x w s t b p blank goes within room is = include_local x w s (b ∷ t) p goes room.0 room.1 is
of_class class.Word x w s t b p blank goes within room is = is ∙ sym (word_same (x ∷ w) s t b blank (omega (arith, ap width is)))
of_class class.Digits x w s t b p blank goes within room is =
    let n = prefix_len is_number_byte (x ∷ w ++ s) in
    is ∙ sym (number_same (x ∷ w) s t b blank (omega (arith, ap width is, number_width (take n (x ∷ w ++ s)) n (subst GoesOn is goes))))
of_class class.Text x w s t b p blank goes within room is = quoted_local Double text_element text_closed x w s (b ∷ t) p goes within is
of_class class.Character x w s t b p blank goes within room is = quoted_local Single character_element character_closed x w s (b ∷ t) p goes within is
of_class class.Other x w s t b p blank goes within room is = punctuator_local (x ∷ w) s t b p blank goes within is

-- an accepted element within the front is the same with a blank behind the front
pub element_local : (fresh : Bool) (x : ℕ) (w s t : List ℕ) (b : ℕ) (p : Element) → is_blank b ≡ true → GoesOn p → NotRefused p → width p ≤ length (x ∷ w) → Room (class_of fresh (x ∷ w ++ s)) (x ∷ w) s p
    → IsElement (class_of fresh (x ∷ w ++ s)) (x ∷ w ++ s) p → IsElement (class_of fresh (x ∷ w ++ b ∷ t)) (x ∷ w ++ b ∷ t) p
element_local fresh x w s t b p blank goes accepted within room is =
    let P : Class → Type 0 = λ c. IsElement c (x ∷ w ++ b ∷ t) p in
    subst P (class_same fresh x w s t b p blank goes accepted within room is) (of_class (class_of fresh (x ∷ w ++ s)) x w s t b p blank goes within room is)
