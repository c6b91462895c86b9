-- Reading up to a token, and reading on behind it.
use Rattle.std.proofs.Common.{◌≡◌, ℕ, ◌+◌, ◌<◌, Bool, true, false, ◌&&◌, List, [], ◌∷◌, ◌++◌, length, drop, nat_eq, sym, refl, ap, ◌∙◌, subst, ⊎_elim, arith}
use Rattle.std.specs.Prelude.{codes}
use Rattle.std.proofs.lemmas.Bool.{and_parts, and_right, eqb-true, false_from_ne_true, false≢true}
use Rattle.std.proofs.lemmas.List.{drop-drop}
use Rattle.c_lexer.specs.declared.token.Kind.{Kind}
use Rattle.c_lexer.specs.declared.token.Token.{Token}
use Rattle.c_lexer.specs.declared.element.Stop.TheVariants as stop
use Rattle.c_lexer.specs.declared.element.Element.{Element}
use Rattle.c_lexer.specs.declared.element.Element.TheVariants as element
use Rattle.c_lexer.specs.declared.reading.Reading.{Reading}
use Rattle.c_lexer.specs.Bytes.{begins, stops, class_of}
use Rattle.c_lexer.specs.Elements.{IsElement, first_place}
use Rattle.c_lexer.specs.Scan.{Scan, ends, goes_on, width, GoesOn, fresh_behind, reading_from}
use Rattle.c_lexer.proofs.LocalSpans.{line_end_parts, block_parts}
use Rattle.c_lexer.proofs.Passes.{Passes, here, past, nothing}
use Rattle.c_lexer.proofs.LocalPasses.{Follows}

-- ---- what a token stands for

-- a token is no blank and no comment
no_newline : (fresh : Bool) (s : List ℕ) (kind : Kind) (n : ℕ) → IsElement (class_of fresh s) s (element.Lexeme kind n) → begins s (10 ∷ []) ≡ true → ⊥
no_newline fresh [] kind n is e = absurd (false≢true e)
no_newline fresh (x ∷ r) kind n is e =
    let first : x ≡ 10 = sym (eqb-true 10 x (and_parts (nat_eq 10 x) true e).0) in
    let P : ℕ → Type 0 = λ a. IsElement (class_of fresh (a ∷ r)) (a ∷ r) (element.Lexeme kind n) in
    let blank : element.Lexeme kind n ≡ element.Blank = subst P first is in
    cc

no_slashes : (fresh : Bool) (s : List ℕ) (kind : Kind) (n : ℕ) → IsElement (class_of fresh s) s (element.Lexeme kind n) → begins s (codes "//") ≡ true → ⊥
no_slashes fresh [] kind n is e = absurd (false≢true e)
no_slashes fresh (x ∷ []) kind n is e = absurd (false≢true (sym (and_right (nat_eq 47 x) false refl) ∙ e))
no_slashes fresh (x ∷ y ∷ r) kind n is e =
    let parts = and_parts (nat_eq 47 x) (nat_eq 47 y && true) e in
    let first : x ≡ 47 = sym (eqb-true 47 x parts.0) in
    let second : y ≡ 47 = sym (eqb-true 47 y (and_parts (nat_eq 47 y) true parts.1).0) in
    let P : ℕ → Type 0 = λ a. IsElement (class_of fresh (a ∷ y ∷ r)) (a ∷ y ∷ r) (element.Lexeme kind n) in
    let Q : ℕ → Type 0 = λ a. IsElement (class_of fresh (47 ∷ a ∷ r)) (47 ∷ a ∷ r) (element.Lexeme kind n) in
    let there : IsElement (class_of fresh (47 ∷ 47 ∷ r)) (47 ∷ 47 ∷ r) (element.Lexeme kind n) = subst Q second (subst P first is) in
    ⊎_elim
    (λ unended. let comment = there ∙ unended in cc)
    (λ ended. let comment = there ∙ ended.2 in cc)
    (line_end_parts element.Comment 2 r (first_place (stops stop.LineComment) r) (subst GoesOn there tt))

no_star : (fresh : Bool) (s : List ℕ) (kind : Kind) (n : ℕ) → IsElement (class_of fresh s) s (element.Lexeme kind n) → begins s (codes "/*") ≡ true → ⊥
no_star fresh [] kind n is e = absurd (false≢true e)
no_star fresh (x ∷ []) kind n is e = absurd (false≢true (sym (and_right (nat_eq 47 x) false refl) ∙ e))
no_star fresh (x ∷ y ∷ r) kind n is e =
    let parts = and_parts (nat_eq 47 x) (nat_eq 42 y && true) e in
    let first : x ≡ 47 = sym (eqb-true 47 x parts.0) in
    let second : y ≡ 42 = sym (eqb-true 42 y (and_parts (nat_eq 42 y) true parts.1).0) in
    let P : ℕ → Type 0 = λ a. IsElement (class_of fresh (a ∷ y ∷ r)) (a ∷ y ∷ r) (element.Lexeme kind n) in
    let Q : ℕ → Type 0 = λ a. IsElement (class_of fresh (47 ∷ a ∷ r)) (47 ∷ a ∷ r) (element.Lexeme kind n) in
    let there : IsElement (class_of fresh (47 ∷ 42 ∷ r)) (47 ∷ 42 ∷ r) (element.Lexeme kind n) = subst Q second (subst P first is) in
    let comment = (block_parts r (element.Lexeme kind n) tt there).1.is in
    cc

something : (fresh : Bool) (s : List ℕ) (kind : Kind) (n : ℕ) → IsElement (class_of fresh s) s (element.Lexeme kind n) → 0 < length s
something fresh [] kind n is = cc
something fresh (x ∷ r) kind n is = omega arith

-- no comment to the end of its line and no include line ends directly before a token
pub follows_token : (fresh : Bool) (s : List ℕ) (kind : Kind) (n : ℕ) → IsElement (class_of fresh s) s (element.Lexeme kind n) → Follows s
follows_token fresh s kind n is = record {
  some = something fresh s kind n is;
  no_newline = false_from_ne_true (begins s (10 ∷ [])) (no_newline fresh s kind n is);
  no_slashes = false_from_ne_true (begins s (codes "//")) (no_slashes fresh s kind n is);
  no_star = false_from_ne_true (begins s (codes "/*")) (no_star fresh s kind n is);
}

-- ---- reading up to a token

-- A text is read up to a token, and on from it.
pub record UpTo (fresh : Bool) (at : ℕ) (xs : List ℕ) (r : Reading) (before : List Token) (token : Token) (behind : List Token) : Type 0 where
  pub bytes : ℕ
  pub fresh_there : Bool
  pub front : Reading
  pub rest : Reading
  pub start : token.start ≡ at + bytes
  pub passes : Passes fresh at xs bytes fresh_there front
  pub front_tokens : front.tokens ≡ before
  pub scanned : Scan fresh_there (at + bytes) (drop bytes xs) rest
  pub rest_tokens : rest.tokens ≡ token ∷ behind
  pub len : ℕ
  pub end : token.end ≡ at + bytes + len
  pub is : IsElement (class_of fresh_there (drop bytes xs)) (drop bytes xs) (element.Lexeme token.kind len)

-- past one more element
behind_element : (fresh : Bool) (at : ℕ) (xs : List ℕ) (p : Element) (r : Reading) (before before' : List Token) (token : Token) (behind : List Token) → IsElement (class_of fresh xs) xs p → GoesOn p
    → ((front : Reading) → front.tokens ≡ before → (reading_from at p front).tokens ≡ before')
    → UpTo (fresh_behind fresh xs p) (at + width p) (drop (width p) xs) r before token behind → UpTo fresh at xs (reading_from at p r) before' token behind
behind_element fresh at xs p r before before' token behind is goes tokens up =
    let n = width p in
    let sum : at + n + up.bytes ≡ at + (n + up.bytes) = omega arith in
    let cut : drop up.bytes (drop n xs) ≡ drop (n + up.bytes) xs = drop-drop up.bytes n xs in
    record {
      bytes = n + up.bytes;
      fresh_there = up.fresh_there;
      front = reading_from at p up.front;
      rest = up.rest;
      start = up.start ∙ sum;
      passes = past p is goes up.passes;
      front_tokens = tokens up.front up.front_tokens;
      scanned = subst (λ ys. Scan up.fresh_there (at + (n + up.bytes)) ys up.rest) cut (subst (λ m. Scan up.fresh_there m (drop up.bytes (drop n xs)) up.rest) sum up.scanned);
      rest_tokens = up.rest_tokens;
      len = up.len;
      end = up.end ∙ ap (λ m. m + up.len) sum;
      is = subst (λ ys. IsElement (class_of up.fresh_there ys) ys (element.Lexeme token.kind up.len)) cut up.is;
    }

nil_not_more : (before behind : List Token) (token : Token) → [] ≡ before ++ token ∷ behind → ⊥
nil_not_more [] behind token e = cc
nil_not_more (t ∷ before) behind token e = cc

pub scan_up_to : (fresh : Bool) (at : ℕ) (xs : List ℕ) (r : Reading) → Scan fresh at xs r → (before : List Token) (token : Token) (behind : List Token) → r.tokens ≡ before ++ token ∷ behind → UpTo fresh at xs r before token behind
scan_up_to fresh at xs _ (ends element.End is last) before token behind same = absurd (nil_not_more before behind token same)
scan_up_to fresh at xs _ (ends element.Blank is last) before token behind same = absurd (last tt)
scan_up_to fresh at xs _ (ends (element.Comment n) is last) before token behind same = absurd (last tt)
scan_up_to fresh at xs _ (ends (element.Include n) is last) before token behind same = absurd (last tt)
scan_up_to fresh at xs _ (ends (element.Lexeme kind n) is last) before token behind same = absurd (last tt)
scan_up_to fresh at xs _ (ends (element.Bad fault n) is last) before token behind same = absurd (nil_not_more before behind token same)
scan_up_to fresh at xs _ (goes_on element.End is goes rest) before token behind same = absurd goes
scan_up_to fresh at xs _ (goes_on (element.Bad fault n) is goes rest) before token behind same = absurd goes
scan_up_to fresh at xs _ (goes_on {r = r} element.Blank is goes rest) before token behind same =
    behind_element fresh at xs element.Blank r before before token behind is goes (λ front e. e) (scan_up_to (fresh_behind fresh xs element.Blank) (at + 1) (drop 1 xs) r rest before token behind same)
scan_up_to fresh at xs _ (goes_on {r = r} (element.Comment n) is goes rest) before token behind same =
    behind_element fresh at xs (element.Comment n) r before before token behind is goes (λ front e. e) (scan_up_to false (at + n) (drop n xs) r rest before token behind same)
scan_up_to fresh at xs _ (goes_on {r = r} (element.Include n) is goes rest) before token behind same =
    behind_element fresh at xs (element.Include n) r before before token behind is goes (λ front e. e) (scan_up_to false (at + n) (drop n xs) r rest before token behind same)
scan_up_to fresh at xs _ (goes_on {r = r} (element.Lexeme kind n) is goes rest) [] token behind same =
    let zero_more : at ≡ at + 0 = omega arith in
    let first : Token = record { kind = kind; start = at; end = at + n } in
    let is_first : first ≡ token = cc in
    record {
      bytes = 0;
      fresh_there = fresh;
      front = nothing;
      rest = reading_from at (element.Lexeme kind n) r;
      start = ap (λ t. t.start) (sym is_first) ∙ zero_more;
      passes = here;
      front_tokens = refl;
      scanned = subst (λ m. Scan fresh m xs (reading_from at (element.Lexeme kind n) r)) zero_more (goes_on (element.Lexeme kind n) is goes rest);
      rest_tokens = same;
      len = n;
      end = ap (λ t. t.end) (sym is_first) ∙ ap (λ m. m + n) zero_more;
      is = subst (λ k. IsElement (class_of fresh xs) xs (element.Lexeme k n)) (ap (λ t. t.kind) is_first) is;
    }
scan_up_to fresh at xs _ (goes_on {r = r} (element.Lexeme kind n) is goes rest) (t ∷ before) token behind same =
    let first : Token = record { kind = kind; start = at; end = at + n } in
    let is_first : first ≡ t = cc in
    let others : r.tokens ≡ before ++ token ∷ behind = cc in
    behind_element fresh at xs (element.Lexeme kind n) r before (t ∷ before) token behind is goes (λ front e. ap (λ u. u ∷ front.tokens) is_first ∙ ap (λ us. t ∷ us) e) (scan_up_to false (at + n) (drop n xs) r rest before token behind others)
