-- Comments and include lines don't depend on what follows the place where they stop.
use Rattle.std.proofs.Common.{◌≡◌, ℕ, ◌+◌, ◌<◌, ◌≤◌, Bool, true, false, ◌&&◌, ◌||◌, cond, List, [], ◌∷◌, ◌++◌, Option, Some, None, length, take, drop, nat_eq, sym, refl, ap, ◌∙◌, subst, inl, inr, ⊎_elim, arith, add-one, length-append}
use Rattle.std.specs.Prelude.{codes, ◌⊎◌}
use Rattle.std.specs.Cmp.Lexicographic.{pointwise}
use Rattle.std.proofs.lemmas.Bool.{and_parts, or_cases, or_left, or_right, cond-true, cond-false, cases_Bool, eqb-true, false≢true}
use Rattle.c_lexer.specs.declared.element.Fault.TheVariants.{BadByte}
use Rattle.c_lexer.specs.declared.element.Stop.TheVariants as stop
use Rattle.c_lexer.specs.declared.element.Element.{Element}
use Rattle.c_lexer.specs.declared.element.Element.TheVariants as element
use Rattle.c_lexer.specs.Bytes.{begins, continues, continues_in_comment, star_continues, stops}
use Rattle.c_lexer.specs.Elements.{first_place, one_further, line_end, line_comment, include_line, block_end, block_comment}
use Rattle.c_lexer.specs.Scan.{width, GoesOn}
use Rattle.c_lexer.proofs.Local.{front_same}

-- ---- the first place, and its parts

further_some : (o : Option ℕ) (n : ℕ) → one_further o ≡ Some n → (m : ℕ) × (o ≡ Some m) × (n ≡ m + 1)
further_some None n e = cc
further_some (Some m) n e = (m, refl, cc)

some_zero : (n : ℕ) → Some 0 ≡ Some n → n ≡ 0
some_zero n e = cc

pub place_parts : (test : List ℕ → Bool) (b n : ℕ) (rest : List ℕ) → first_place test (b ∷ rest) ≡ Some n
    → ((test (b ∷ rest) ≡ true) × (n ≡ 0)) ⊎ ((test (b ∷ rest) ≡ false) × ((m : ℕ) × (first_place test rest ≡ Some m) × (n ≡ m + 1)))
place_parts test b n rest place =
    ⊎_elim
    (λ passes. inl (passes, some_zero n (sym (cond-true (test (b ∷ rest)) (Some 0) (one_further (first_place test rest)) passes) ∙ place)))
    (λ fails. inr (fails, further_some (first_place test rest) n (sym (cond-false (test (b ∷ rest)) (Some 0) (one_further (first_place test rest)) fails) ∙ place)))
    (cases_Bool (test (b ∷ rest)))

place_first : (test : List ℕ → Bool) (b : ℕ) (rest : List ℕ) → test (b ∷ rest) ≡ true → first_place test (b ∷ rest) ≡ Some 0
place_first test b rest passes = cond-true (test (b ∷ rest)) (Some 0) (one_further (first_place test rest)) passes

place_later : (test : List ℕ → Bool) (b n : ℕ) (rest : List ℕ) → test (b ∷ rest) ≡ false → first_place test rest ≡ Some n → first_place test (b ∷ rest) ≡ Some (n + 1)
place_later test b n rest fails place = cond-false (test (b ∷ rest)) (Some 0) (one_further (first_place test rest)) fails ∙ ap one_further place

drop_next : (k a : ℕ) (rest : List ℕ) → drop (k + 1) (a ∷ rest) ≡ drop k rest
drop_next k a rest = ap (λ n. drop n (a ∷ rest)) (add-one k)

-- the place passes the test
pub place_passes : (test : List ℕ → Bool) (xs : List ℕ) (n : ℕ) → first_place test xs ≡ Some n → test (drop n xs) ≡ true
place_passes test [] n place = cc
place_passes test (b ∷ rest) n place =
    ⊎_elim
    (λ here. rw here.1 here.0)
    (λ after. rw (after.1.2, drop_next after.1.0 b rest) (place_passes test rest after.1.0 after.1.1))
    (place_parts test b n rest place)

-- the place is within the text
pub place_within : (test : List ℕ → Bool) (xs : List ℕ) (n : ℕ) → first_place test xs ≡ Some n → n < length xs
place_within test [] n place = cc
place_within test (b ∷ rest) n place =
    ⊎_elim
    (λ here. omega arith)
    (λ after. omega (arith, place_within test rest after.1.0 after.1.1, after.1.2))
    (place_parts test b n rest place)

-- ---- a place at which a word stops the text

pub begins_same : (w s t u : List ℕ) → length u ≤ length w → begins (w ++ s) u ≡ begins (w ++ t) u
begins_same w s t u within = ap (pointwise nat_eq u) (front_same w s t (length u) within)

-- the text stops here, by this word
pub record StopsAt (test : List ℕ → Bool) (u xs : List ℕ) (m : ℕ) : Type 0 where
  pub place : first_place test xs ≡ Some m
  pub word : begins (drop m xs) u ≡ true

-- no place before the one where the word stands looks behind the word
abbrev pub LooksNoFurther : (List ℕ → Bool) → List ℕ → Type 0
LooksNoFurther test u = (a m : ℕ) (w s t : List ℕ) → begins (drop m (w ++ s)) u ≡ true → m + length u ≤ length w → test (a ∷ w ++ s) ≡ test (a ∷ w ++ t)

pub stops_same : (test : List ℕ → Bool) (u : List ℕ) → ((xs : List ℕ) → begins xs u ≡ true → test xs ≡ true) → LooksNoFurther test u → 0 < length u
    → (w s t : List ℕ) (m : ℕ) → StopsAt test u (w ++ s) m → m + length u ≤ length w → StopsAt test u (w ++ t) m
stops_same test u stopped looks some [] s t m at within = absurd (omega arith)
stops_same test u stopped looks some (a ∷ w) s t m at within =
    ⊎_elim
    (λ here.
    let word : begins (a ∷ w ++ t) u ≡ true = sym (begins_same (a ∷ w) s t u (omega arith)) ∙ subst (λ k. begins (drop k (a ∷ w ++ s)) u ≡ true) here.1 at.word in
    let Q : ℕ → Type 0 = λ k. StopsAt test u (a ∷ w ++ t) k in
    subst Q (sym here.1) (record { place = place_first test a (w ++ t) (stopped (a ∷ w ++ t) word); word = word }))
    (λ after.
    let k = after.1.0 in
    let word : begins (drop k (w ++ s)) u ≡ true = subst (λ xs. begins xs u ≡ true) (ap (λ n. drop n (a ∷ w ++ s)) after.1.2 ∙ drop_next k a (w ++ s)) at.word in
    let inside : k + length u ≤ length w = omega (arith, after.1.2) in
    let rest = stops_same test u stopped looks some w s t k (record { place = after.1.1; word = word }) inside in
    let fails : test (a ∷ w ++ t) ≡ false = sym (looks a k w s t word inside) ∙ after.0 in
    let Q : ℕ → Type 0 = λ n. StopsAt test u (a ∷ w ++ t) n in
    subst Q (sym after.1.2) (record {
      place = place_later test a k (w ++ t) fails rest.place;
      word = subst (λ xs. begins xs u ≡ true) (sym (drop_next k a (w ++ t))) rest.word;
    }))
    (place_parts test a m (w ++ s) at.place)

-- ---- the three kinds of stops

newline_first : (c : ℕ) (r : List ℕ) → begins (c ∷ r) (10 ∷ []) ≡ true → c ≡ 10
newline_first c r e = sym (eqb-true 10 c (and_parts (nat_eq 10 c) true e).0)

pub line_looks : LooksNoFurther (stops stop.LineComment) (10 ∷ [])
line_looks a m [] s t word within = absurd (omega arith)
line_looks a m (c ∷ d ∷ w) s t word within = refl
line_looks a m (c ∷ []) s t word within =
    let here : m ≡ 0 = omega arith in
    let newline = newline_first c s (subst (λ k. begins (drop k (c ∷ s)) (10 ∷ []) ≡ true) here word) in
    let P : ℕ → Type 0 = λ x. stops stop.LineComment (a ∷ x ∷ s) ≡ stops stop.LineComment (a ∷ x ∷ t) in
    subst P (sym newline) refl

pub include_line_looks : LooksNoFurther (stops stop.IncludeLine) (10 ∷ [])
include_line_looks a m [] s t word within = absurd (omega arith)
include_line_looks a m (c ∷ d ∷ w) s t word within = refl
include_line_looks a m (c ∷ []) s t word within =
    let here : m ≡ 0 = omega arith in
    let newline = newline_first c s (subst (λ k. begins (drop k (c ∷ s)) (10 ∷ []) ≡ true) here word) in
    let P : ℕ → Type 0 = λ x. stops stop.IncludeLine (a ∷ x ∷ s) ≡ stops stop.IncludeLine (a ∷ x ∷ t) in
    subst P (sym newline) refl

pub include_comment_looks : (b : ℕ) → LooksNoFurther (stops stop.IncludeLine) (47 ∷ b ∷ [])
include_comment_looks b a m [] s t word within = absurd (omega arith)
include_comment_looks b a m (c ∷ []) s t word within = absurd (omega arith)
include_comment_looks b a m (c ∷ d ∷ w) s t word within = refl

pub block_looks : LooksNoFurther (stops stop.BlockComment) (codes "*/")
block_looks a m [] s t word within = absurd (omega arith)
block_looks a m (c ∷ []) s t word within = absurd (omega arith)
block_looks a m (c ∷ d ∷ e ∷ w) s t word within = refl
block_looks a m (c ∷ d ∷ []) s t word within =
    let here : m ≡ 0 = omega arith in
    let both : begins (c ∷ d ∷ s) (codes "*/") ≡ true = subst (λ k. begins (drop k (c ∷ d ∷ s)) (codes "*/") ≡ true) here word in
    let star : c ≡ 42 = sym (eqb-true 42 c (and_parts (nat_eq 42 c) (nat_eq 47 d && true) both).0) in
    let P : ℕ → Type 0 = λ x. stops stop.BlockComment (a ∷ x ∷ d ∷ s) ≡ stops stop.BlockComment (a ∷ x ∷ d ∷ t) in
    subst P (sym star) refl

-- ---- the elements

-- what a comment or an include line that others follow says of its end
pub record EndsAt (body : List ℕ) (o : Option ℕ) (m : ℕ) : Type 0 where
  pub place : o ≡ Some m
  pub clear : continues (drop m body) ≡ false

pub line_end_parts : (make : ℕ → Element) (opening : ℕ) (body : List ℕ) (o : Option ℕ) → GoesOn (line_end make opening body o)
    → (line_end make opening body o ≡ make (opening + length body)) ⊎ ((m : ℕ) × EndsAt body o m × (line_end make opening body o ≡ make (opening + m)))
line_end_parts make opening body None goes = inl refl
line_end_parts make opening body (Some m) goes =
    ⊎_elim
    (λ continued. absurd (subst GoesOn (cond-true (continues (drop m body)) (element.Bad BadByte (opening + m)) (make (opening + m)) continued) goes))
    (λ clear. inr (m, record { place = refl; clear = clear }, cond-false (continues (drop m body)) (element.Bad BadByte (opening + m)) (make (opening + m)) clear))
    (cases_Bool (continues (drop m body)))

line_end_at : (make : ℕ → Element) (opening : ℕ) (body : List ℕ) (o : Option ℕ) (m : ℕ) → EndsAt body o m → line_end make opening body o ≡ make (opening + m)
line_end_at make opening body o m at =
    ap (line_end make opening body) at.place ∙ cond-false (continues (drop m body)) (element.Bad BadByte (opening + m)) (make (opening + m)) at.clear

newline_clear : (xs : List ℕ) → begins xs (10 ∷ []) ≡ true → continues xs ≡ false
newline_clear [] e = absurd (false≢true e)
newline_clear (c ∷ r) e = let P : ℕ → Type 0 = λ x. continues (x ∷ r) ≡ false in subst P (sym (newline_first c r e)) refl

slash_clear : (b : ℕ) (xs : List ℕ) → begins xs (47 ∷ b ∷ []) ≡ true → continues xs ≡ false
slash_clear b [] e = absurd (false≢true e)
slash_clear b (c ∷ r) e =
    let slash : c ≡ 47 = sym (eqb-true 47 c (and_parts (nat_eq 47 c) (pointwise nat_eq (b ∷ []) (take 1 r)) e).0) in
    let P : ℕ → Type 0 = λ x. continues (x ∷ r) ≡ false in subst P (sym slash) refl

newline_stops_line : (xs : List ℕ) → begins xs (10 ∷ []) ≡ true → stops stop.LineComment xs ≡ true
newline_stops_line xs e = or_left (begins xs (10 ∷ [])) (continues xs) e

newline_stops_include : (xs : List ℕ) → begins xs (10 ∷ []) ≡ true → stops stop.IncludeLine xs ≡ true
newline_stops_include xs e =
    or_left (begins xs (10 ∷ []) || begins xs (codes "//") || begins xs (codes "/*")) (continues xs) (or_left (begins xs (10 ∷ []) || begins xs (codes "//")) (begins xs (codes "/*")) (or_left (begins xs (10 ∷ [])) (begins xs (codes "//")) e))

slashes_stop_include : (xs : List ℕ) → begins xs (codes "//") ≡ true → stops stop.IncludeLine xs ≡ true
slashes_stop_include xs e =
    or_left (begins xs (10 ∷ []) || begins xs (codes "//") || begins xs (codes "/*")) (continues xs) (or_left (begins xs (10 ∷ []) || begins xs (codes "//")) (begins xs (codes "/*")) (or_right (begins xs (10 ∷ [])) (begins xs (codes "//")) e))

star_stops_include : (xs : List ℕ) → begins xs (codes "/*") ≡ true → stops stop.IncludeLine xs ≡ true
star_stops_include xs e =
    or_left (begins xs (10 ∷ []) || begins xs (codes "//") || begins xs (codes "/*")) (continues xs) (or_right (begins xs (10 ∷ []) || begins xs (codes "//")) (begins xs (codes "/*")) e)

end_stops_block : (xs : List ℕ) → begins xs (codes "*/") ≡ true → stops stop.BlockComment xs ≡ true
end_stops_block xs e = or_left (begins xs (codes "*/")) (star_continues xs) e

-- what stops an include line without a fault
pub include_stopped : (xs : List ℕ) → stops stop.IncludeLine xs ≡ true → continues xs ≡ false → (begins xs (10 ∷ []) ≡ true) ⊎ ((begins xs (codes "//") ≡ true) ⊎ (begins xs (codes "/*") ≡ true))
include_stopped xs stopped clear =
    ⊎_elim
    (λ one. ⊎_elim (λ two. ⊎_elim (λ newline. inl newline) (λ slashes. inr (inl slashes)) (or_cases (begins xs (10 ∷ [])) (begins xs (codes "//")) two)) (λ star. inr (inr star)) (or_cases (begins xs (10 ∷ []) || begins xs (codes "//")) (begins xs (codes "/*")) one))
    (λ continued. absurd (false≢true (sym clear ∙ continued)))
    (or_cases (begins xs (10 ∷ []) || begins xs (codes "//") || begins xs (codes "/*")) (continues xs) stopped)

pub line_stopped : (xs : List ℕ) → stops stop.LineComment xs ≡ true → continues xs ≡ false → begins xs (10 ∷ []) ≡ true
line_stopped xs stopped clear =
    ⊎_elim (λ newline. newline) (λ continued. absurd (false≢true (sym clear ∙ continued))) (or_cases (begins xs (10 ∷ [])) (continues xs) stopped)

-- a `//` comment with a byte of the front behind it
pub line_local : (x y : ℕ) (w s t : List ℕ) (p : Element) → GoesOn p → width p < length (x ∷ y ∷ w) → p ≡ line_comment (x ∷ y ∷ w ++ s) → p ≡ line_comment (x ∷ y ∷ w ++ t)
line_local x y w s t p goes room is =
    ⊎_elim
    (λ unended. absurd (omega (arith, ap width (is ∙ unended), length-append w s)))
    (λ ended.
    let m = ended.0 in
    let inside : m + 1 ≤ length w = omega (arith, ap width (is ∙ ended.2)) in
    let word = line_stopped (drop m (w ++ s)) (place_passes (stops stop.LineComment) (w ++ s) m ended.1.place) ended.1.clear in
    let at = stops_same (stops stop.LineComment) (10 ∷ []) newline_stops_line line_looks (omega arith) w s t m (record { place = ended.1.place; word = word }) inside in
    is ∙ ended.2 ∙ sym (line_end_at element.Comment 2 (w ++ t) (first_place (stops stop.LineComment) (w ++ t)) m (record { place = at.place; clear = newline_clear (drop m (w ++ t)) at.word })))
    (line_end_parts element.Comment 2 (w ++ s) (first_place (stops stop.LineComment) (w ++ s)) (subst GoesOn is goes))

-- an include line with the newline or the two bytes of a comment behind it in the front
pub include_local : (x : ℕ) (w s t : List ℕ) (p : Element) → GoesOn p → width p < length (x ∷ w) → (begins (drop (width p) (x ∷ w ++ s)) (10 ∷ []) ≡ true) ⊎ (width p + 2 ≤ length (x ∷ w)) → p ≡ include_line (x ∷ w ++ s) → p ≡ include_line (x ∷ w ++ t)
include_local x w s t p goes room behind is =
    ⊎_elim
    (λ unended. absurd (omega (arith, ap width (is ∙ unended), length-append w s)))
    (λ ended. at_end ended.0 ended.1 (is ∙ ended.2))
    (line_end_parts element.Include 1 (w ++ s) (first_place (stops stop.IncludeLine) (w ++ s)) (subst GoesOn is goes))
  where
    same : (m : ℕ) (u : List ℕ) → ((xs : List ℕ) → begins xs u ≡ true → stops stop.IncludeLine xs ≡ true) → LooksNoFurther (stops stop.IncludeLine) u → 0 < length u → ((xs : List ℕ) → begins xs u ≡ true → continues xs ≡ false)
        → first_place (stops stop.IncludeLine) (w ++ s) ≡ Some m → begins (drop m (w ++ s)) u ≡ true → m + length u ≤ length w → p ≡ element.Include (1 + m) → p ≡ include_line (x ∷ w ++ t)
    same m u stopped looks some clear place word inside p_is =
        let at = stops_same (stops stop.IncludeLine) u stopped looks some w s t m (record { place = place; word = word }) inside in
        p_is ∙ sym (line_end_at element.Include 1 (w ++ t) (first_place (stops stop.IncludeLine) (w ++ t)) m (record { place = at.place; clear = clear (drop m (w ++ t)) at.word }))

    at_newline : (m : ℕ) → EndsAt (w ++ s) (first_place (stops stop.IncludeLine) (w ++ s)) m → p ≡ element.Include (1 + m) → begins (drop m (w ++ s)) (10 ∷ []) ≡ true → p ≡ include_line (x ∷ w ++ t)
    at_newline m ended p_is word = same m (10 ∷ []) newline_stops_include include_line_looks (omega arith) newline_clear ended.place word (omega (arith, ap width p_is)) p_is

    at_end : (m : ℕ) → EndsAt (w ++ s) (first_place (stops stop.IncludeLine) (w ++ s)) m → p ≡ element.Include (1 + m) → p ≡ include_line (x ∷ w ++ t)
    at_end m ended p_is =
        let next : drop (width p) (x ∷ w ++ s) ≡ drop m (w ++ s) = ap (λ n. drop n (x ∷ w ++ s)) (ap width p_is ∙ omega arith) ∙ drop_next m x (w ++ s) in
        ⊎_elim
        (λ newline. at_newline m ended p_is (subst (λ xs. begins xs (10 ∷ []) ≡ true) next newline))
        (λ two.
        ⊎_elim
        (λ newline. at_newline m ended p_is newline)
        (λ comment.
        ⊎_elim
        (λ slashes. same m (codes "//") slashes_stop_include (include_comment_looks 47) (omega arith) (slash_clear 47) ended.place slashes (omega (arith, ap width p_is)) p_is)
        (λ star. same m (codes "/*") star_stops_include (include_comment_looks 42) (omega arith) (slash_clear 42) ended.place star (omega (arith, ap width p_is)) p_is)
        comment)
        (include_stopped (drop m (w ++ s)) (place_passes (stops stop.IncludeLine) (w ++ s) m ended.place) ended.clear))
        behind

-- a `/* */` comment
pub record BlockEnds (body : List ℕ) (m : ℕ) (p : Element) : Type 0 where
  pub clear : continues_in_comment body ≡ false
  pub at : StopsAt (stops stop.BlockComment) (codes "*/") body m
  pub is : p ≡ element.Comment (m + 4)

-- the element, from what stands behind its opening
abbrev pub block_of : List ℕ → Element
block_of body = cond (continues_in_comment body) (element.Bad BadByte 2) (block_end body (first_place (stops stop.BlockComment) body))

pub block_parts : (body : List ℕ) (p : Element) → GoesOn p → p ≡ block_of body → (m : ℕ) × BlockEnds body m p
block_parts body p goes is =
    ⊎_elim
    (λ continued. absurd (subst GoesOn (is ∙ cond-true (continues_in_comment body) (element.Bad BadByte 2) rest continued) goes))
    (λ clear. ended clear (first_place (stops stop.BlockComment) body) refl (is ∙ cond-false (continues_in_comment body) (element.Bad BadByte 2) rest clear))
    (cases_Bool (continues_in_comment body))
  where
    rest : Element
    rest = block_end body (first_place (stops stop.BlockComment) body)

    ended : continues_in_comment body ≡ false → (o : Option ℕ) → first_place (stops stop.BlockComment) body ≡ o → p ≡ block_end body o → (m : ℕ) × BlockEnds body m p
    ended clear None place p_is = absurd (subst GoesOn p_is goes)
    ended clear (Some m) place p_is =
        ⊎_elim
        (λ word. (m, record { clear = clear; at = record { place = place; word = word }; is = p_is ∙ cond-true (begins (drop m body) (codes "*/")) (element.Comment (m + 4)) (element.Bad BadByte (m + 3)) word }))
        (λ other. absurd (subst GoesOn (p_is ∙ cond-false (begins (drop m body) (codes "*/")) (element.Comment (m + 4)) (element.Bad BadByte (m + 3)) other) goes))
        (cases_Bool (begins (drop m body) (codes "*/")))

block_clear_same : (w s t : List ℕ) (m : ℕ) → begins (drop m (w ++ s)) (codes "*/") ≡ true → m + 2 ≤ length w → continues_in_comment (w ++ s) ≡ continues_in_comment (w ++ t)
block_clear_same [] s t m word within = absurd (omega arith)
block_clear_same (c ∷ []) s t m word within = absurd (omega arith)
block_clear_same (c ∷ d ∷ e ∷ w) s t m word within = refl
block_clear_same (c ∷ d ∷ []) s t m word within =
    let here : m ≡ 0 = omega arith in
    let both : begins (c ∷ d ∷ s) (codes "*/") ≡ true = subst (λ k. begins (drop k (c ∷ d ∷ s)) (codes "*/") ≡ true) here word in
    let star : c ≡ 42 = sym (eqb-true 42 c (and_parts (nat_eq 42 c) (nat_eq 47 d && true) both).0) in
    let P : ℕ → Type 0 = λ x. continues_in_comment (x ∷ d ∷ s) ≡ continues_in_comment (x ∷ d ∷ t) in
    subst P (sym star) refl

pub block_local : (x y : ℕ) (w s t : List ℕ) (p : Element) → GoesOn p → width p ≤ length (x ∷ y ∷ w) → p ≡ block_comment (x ∷ y ∷ w ++ s) → p ≡ block_comment (x ∷ y ∷ w ++ t)
block_local x y w s t p goes within is =
    let parts = block_parts (w ++ s) p goes is in
    let m = parts.0 in
    let inside : m + 2 ≤ length w = omega (arith, ap width parts.1.is) in
    let at = stops_same (stops stop.BlockComment) (codes "*/") end_stops_block block_looks (omega arith) w s t m parts.1.at inside in
    let clear : continues_in_comment (w ++ t) ≡ false = sym (block_clear_same w s t m parts.1.at.word inside) ∙ parts.1.clear in
    parts.1.is ∙ sym (
    cond-false (continues_in_comment (w ++ t)) (element.Bad BadByte 2) (block_end (w ++ t) (first_place (stops stop.BlockComment) (w ++ t))) clear
    ∙ ap (block_end (w ++ t)) at.place
    ∙ cond-true (begins (drop m (w ++ t)) (codes "*/")) (element.Comment (m + 4)) (element.Bad BadByte (m + 3)) at.word)
