-- Reading a text up to a place: how readings are joined and shifted, and that what is read up to a place doesn't depend
-- on what follows there, where a blank does.
use Rattle.std.proofs.Common.{◌≡◌, ℕ, ◌+◌, Bool, List, [], ◌∷◌, ◌++◌, map, Option, Some, None, drop, sym, refl, ap, ◌∙◌, subst, arith}
use Rattle.std.proofs.lemmas.List.{drop-drop}
use Rattle.c_lexer.specs.declared.token.Token.{Token}
use Rattle.c_lexer.specs.declared.element.Fault.{Fault}
use Rattle.c_lexer.specs.declared.element.Element.{Element}
use Rattle.c_lexer.specs.declared.element.Element.TheVariants as element
use Rattle.c_lexer.specs.declared.reading.Reading.{Reading}
use Rattle.c_lexer.specs.Bytes.{class_of}
use Rattle.c_lexer.specs.Elements.{IsElement}
use Rattle.c_lexer.specs.Scan.{Scan, ends, goes_on, width, GoesOn, fresh_behind, last_reading, later, reading_from}

-- nothing read
abbrev pub nothing : Reading
nothing = record { tokens = []; last_comment = None; fault = None }

-- The text from the offset on is read k bytes further, up to the end of an element; the line is fresh there or not.
pub data Passes : Bool → ℕ → List ℕ → ℕ → Bool → Reading → Type 0 where
  here : {fresh : Bool} {at : ℕ} {xs : List ℕ} → Passes fresh at xs 0 fresh nothing
  past : {fresh fresh' : Bool} {at k : ℕ} {xs : List ℕ} {r : Reading} (p : Element) → IsElement (class_of fresh xs) xs p → GoesOn p → Passes (fresh_behind fresh xs p) (at + width p) (drop (width p) xs) k fresh' r → Passes fresh at xs (width p + k) fresh' (reading_from at p r)

-- one reading behind another
abbrev pub joined : Reading → Reading → Reading
joined r s = record { tokens = r.tokens ++ s.tokens; last_comment = later r.last_comment s.last_comment; fault = s.fault }

pub reading_same : (tokens tokens' : List Token) (c c' : Option (ℕ × ℕ)) (fault : Option (Fault × ℕ)) → tokens ≡ tokens' → c ≡ c'
    → let x : Reading = record { tokens = tokens; last_comment = c; fault = fault } in let y : Reading = record { tokens = tokens'; last_comment = c'; fault = fault } in x ≡ y
reading_same tokens tokens' c c' fault p q = cc

later-None : (o : Option (ℕ × ℕ)) → later None o ≡ o
later-None None = refl
later-None (Some c) = refl

pub later-later : (a b c : Option (ℕ × ℕ)) → later (later a b) c ≡ later a (later b c)
later-later a b None = refl
later-later a b (Some c) = refl

joined-nothing : (r : Reading) → joined nothing r ≡ r
joined-nothing r = reading_same r.tokens r.tokens (later None r.last_comment) r.last_comment r.fault refl (later-None r.last_comment)

joined_from : (at : ℕ) (p : Element) (r s : Reading) → GoesOn p → joined (reading_from at p r) s ≡ reading_from at p (joined r s)
joined_from at element.End r s goes = absurd goes
joined_from at element.Blank r s goes = refl
joined_from at (element.Comment n) r s goes = reading_same (r.tokens ++ s.tokens) (r.tokens ++ s.tokens) _ _ s.fault refl (later-later (Some (at, at + n)) r.last_comment s.last_comment)
joined_from at (element.Include n) r s goes = refl
joined_from at (element.Lexeme kind n) r s goes = refl
joined_from at (element.Bad fault n) r s goes = absurd goes

-- a text is read as its front and then the rest
pub passes_scan : (fresh fresh' : Bool) (at k : ℕ) (xs : List ℕ) (r s : Reading) → Passes fresh at xs k fresh' r → Scan fresh' (at + k) (drop k xs) s → Scan fresh at xs (joined r s)
passes_scan fresh _ at _ xs _ s here scanned =
    let same : at + 0 ≡ at = omega arith in
    subst (Scan fresh at xs) (sym (joined-nothing s)) (subst (λ n. Scan fresh n xs s) same scanned)
passes_scan fresh fresh' at _ xs _ s (past {k = k} {r = r} p is goes rest) scanned =
    let sum : at + (width p + k) ≡ at + width p + k = omega arith in
    let cut : drop (width p + k) xs ≡ drop k (drop (width p) xs) = sym (drop-drop k (width p) xs) in
    let scanned' = subst (λ ys. Scan fresh' (at + width p + k) ys s) cut (subst (λ n. Scan fresh' n (drop (width p + k) xs) s) sum scanned) in
    subst (Scan fresh at xs) (sym (joined_from at p r s goes)) (goes_on p is goes (passes_scan (fresh_behind fresh xs p) fresh' (at + width p) k (drop (width p) xs) r s rest scanned'))

pub passes_append : (fresh fresh' fresh'' : Bool) (at k m : ℕ) (xs : List ℕ) (r s : Reading) → Passes fresh at xs k fresh' r → Passes fresh' (at + k) (drop k xs) m fresh'' s → Passes fresh at xs (k + m) fresh'' (joined r s)
passes_append fresh _ fresh'' at _ m xs _ s here more =
    let same : at + 0 ≡ at = omega arith in
    let sum : 0 + m ≡ m = omega arith in
    rw sum (subst (Passes fresh at xs m fresh'') (sym (joined-nothing s)) (subst (λ n. Passes fresh n xs m fresh'' s) same more))
passes_append fresh fresh' fresh'' at _ m xs _ s (past {k = k} {r = r} p is goes rest) more =
    let sum : at + (width p + k) ≡ at + width p + k = omega arith in
    let cut : drop (width p + k) xs ≡ drop k (drop (width p) xs) = sym (drop-drop k (width p) xs) in
    let more' = subst (λ ys. Passes fresh' (at + width p + k) ys m fresh'' s) cut (subst (λ n. Passes fresh' n (drop (width p + k) xs) m fresh'' s) sum more) in
    let whole : width p + k + m ≡ width p + (k + m) = omega arith in
    rw whole (subst (Passes fresh at xs (width p + (k + m)) fresh'') (sym (joined_from at p r s goes)) (past p is goes (passes_append (fresh_behind fresh xs p) fresh' fresh'' (at + width p) k m (drop (width p) xs) r s rest more')))

-- ---- a later offset

abbrev pub shifted_token : ℕ → Token → Token
shifted_token d token = record { kind = token.kind; start = token.start + d; end = token.end + d }

abbrev pub shifted_pair : ℕ → Option (ℕ × ℕ) → Option (ℕ × ℕ)
shifted_pair d None = None
shifted_pair d (Some c) = Some (c.0 + d, c.1 + d)

abbrev pub shifted_fault : ℕ → Option (Fault × ℕ) → Option (Fault × ℕ)
shifted_fault d None = None
shifted_fault d (Some f) = Some (f.0, f.1 + d)

-- the reading of the same text d bytes further on
abbrev pub shifted : ℕ → Reading → Reading
shifted d r = record { tokens = map (shifted_token d) r.tokens; last_comment = shifted_pair d r.last_comment; fault = shifted_fault d r.fault }

shifted-later : (d : ℕ) (a b : Option (ℕ × ℕ)) → shifted_pair d (later a b) ≡ later (shifted_pair d a) (shifted_pair d b)
shifted-later d a None = refl
shifted-later d a (Some c) = refl

moved_on : (at n d : ℕ) → at + d + n ≡ at + n + d
moved_on at n d = omega arith

shifted_from : (d at : ℕ) (p : Element) (r : Reading) → GoesOn p → reading_from (at + d) p (shifted d r) ≡ shifted d (reading_from at p r)
shifted_from d at element.End r goes = absurd goes
shifted_from d at element.Blank r goes = refl
shifted_from d at (element.Comment n) r goes =
    reading_same _ _ _ _ (shifted_fault d r.fault) refl (ap (λ e. later (Some (at + d, e)) (shifted_pair d r.last_comment)) (moved_on at n d) ∙ sym (shifted-later d (Some (at, at + n)) r.last_comment))
shifted_from d at (element.Include n) r goes = refl
shifted_from d at (element.Lexeme kind n) r goes =
    reading_same _ _ _ _ (shifted_fault d r.fault) (ap (λ e. let t : Token = record { kind = kind; start = at + d; end = e } in t ∷ map (shifted_token d) r.tokens) (moved_on at n d)) refl
shifted_from d at (element.Bad fault n) r goes = absurd goes

shifted_last : (d at : ℕ) (p : Element) → last_reading (at + d) p ≡ shifted d (last_reading at p)
shifted_last d at (element.Bad fault n) = let same = moved_on at n d in cc
shifted_last d at element.End = refl
shifted_last d at element.Blank = refl
shifted_last d at (element.Comment n) = refl
shifted_last d at (element.Include n) = refl
shifted_last d at (element.Lexeme kind n) = refl

pub scan_shifted : (d : ℕ) (fresh : Bool) (at : ℕ) (xs : List ℕ) (r : Reading) → Scan fresh at xs r → Scan fresh (at + d) xs (shifted d r)
scan_shifted d fresh at xs _ (ends p is last) = subst (Scan fresh (at + d) xs) (shifted_last d at p) (ends p is last)
scan_shifted d fresh at xs _ (goes_on {r = r} p is goes rest) =
    let rest' = scan_shifted d (fresh_behind fresh xs p) (at + width p) (drop (width p) xs) r rest in
    let rest'' = subst (λ n. Scan (fresh_behind fresh xs p) n (drop (width p) xs) (shifted d r)) (sym (moved_on at (width p) d)) rest' in
    subst (Scan fresh (at + d) xs) (shifted_from d at p r goes) (goes_on p is goes rest'')
