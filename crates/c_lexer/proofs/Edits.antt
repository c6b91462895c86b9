-- What three edits do to the tokens of a text: other tokens put directly before a token or behind it, and blanks in a
-- token's place.
use Rattle.std.proofs.Common.{◌≡◌, ℕ, zero, suc, ◌+◌, ◌-◌, ◌≤◌, Bool, true, false, List, [], ◌∷◌, ◌++◌, map, replicate, None, length, take, drop, sym, refl, ap, ◌∙◌, subst, arith, append_assoc, length-append, length-drop}
use Rattle.std.proofs.lemmas.List.{take-append-drop, length-take-le, length-replicate, drop_at, drop-drop}
use Rattle.c_lexer.specs.declared.token.Token.{Token}
use Rattle.c_lexer.specs.declared.element.Element.TheVariants as element
use Rattle.c_lexer.specs.declared.reading.Reading.{Reading}
use Rattle.c_lexer.specs.Bytes.{is_blank, class_of}
use Rattle.c_lexer.specs.Elements.{IsElement}
use Rattle.c_lexer.specs.Scan.{Scan, goes_on, fresh_behind, reading_from, IsReading, HasTokens}
use Rattle.c_lexer.proofs.LocalPasses.{NoneRefused, TokenEndsAt, something_follows, token_before, passes_local, element_some}
use Rattle.c_lexer.proofs.Passes.{Passes, here, past, nothing, joined, passes_scan, passes_append, shifted, shifted_token, shifted_fault, scan_shifted}
use Rattle.c_lexer.proofs.Unique.{reading_unique}
use Rattle.c_lexer.proofs.UpTo.{scan_up_to, follows_token}
use Rattle.c_lexer.proofs.Fresh.{token_stale, behind_token, scan_as}
use Rattle.c_lexer.proofs.Lexemes.{element_within}

-- ---- tokens of a text

-- a text has these tokens and no others
pub tokens_unique : (bytes : List ℕ) (tokens tokens' : List Token) → HasTokens bytes tokens → HasTokens bytes tokens' → tokens ≡ tokens'
tokens_unique bytes tokens tokens' has has' =
    let r : Reading = record { tokens = tokens; last_comment = has.last_comment; fault = None } in
    let r' : Reading = record { tokens = tokens'; last_comment = has'.last_comment; fault = None } in
    ap (λ (x : Reading). x.tokens) (reading_unique bytes r r' has.reads has'.reads)

pub has_tokens : (bytes : List ℕ) (r : Reading) (tokens : List Token) → IsReading bytes r → r.tokens ≡ tokens → r.fault ≡ None → HasTokens bytes tokens
has_tokens bytes r tokens reads same clear =
    let read : Reading = record { tokens = tokens; last_comment = r.last_comment; fault = None } in
    let is : r ≡ read = λ i. record { tokens = same i; last_comment = r.last_comment; fault = clear i } in
    record { last_comment = r.last_comment; reads = subst (IsReading bytes) is reads }

pub accepted_before : (before behind : List Token) → NoneRefused (before ++ behind) → NoneRefused before
accepted_before [] behind accepted = tt
accepted_before (token ∷ before) behind accepted = (accepted.0, accepted_before before behind accepted.1)

pub accepted_behind : (before behind : List Token) → NoneRefused (before ++ behind) → NoneRefused behind
accepted_behind [] behind accepted = accepted
accepted_behind (token ∷ before) behind accepted = accepted_behind before behind accepted.1

-- ---- around a token

-- a text is read up to a token, and on behind it
pub record Around (bytes : List ℕ) (before : List Token) (token : Token) (behind : List Token) : Type 0 where
  pub fresh : Bool
  pub front : Reading
  pub rest : Reading
  pub len : ℕ
  pub end : token.end ≡ token.start + len
  pub within : token.start ≤ length bytes
  pub passes : Passes true 0 bytes token.start fresh front
  pub front_tokens : front.tokens ≡ before
  pub is : IsElement (class_of fresh (drop token.start bytes)) (drop token.start bytes) (element.Lexeme token.kind len)
  pub scanned : Scan false (token.start + len) (drop token.end bytes) rest
  pub rest_tokens : rest.tokens ≡ behind
  pub clear : rest.fault ≡ None

pub around : (bytes : List ℕ) (before behind : List Token) (token : Token) → HasTokens bytes (before ++ token ∷ behind) → Around bytes before token behind
around bytes before behind token has =
    let r : Reading = record { tokens = before ++ token ∷ behind; last_comment = has.last_comment; fault = None } in
    let up = scan_up_to true 0 bytes r has.reads before token behind refl in
    let b = behind_token up.fresh_there (0 + up.bytes) (drop up.bytes bytes) up.rest token.kind up.len up.scanned up.is in
    let whole = reading_unique bytes (joined up.front up.rest) r (passes_scan true up.fresh_there 0 up.bytes bytes up.front up.rest up.passes up.scanned) has.reads in
    let place : up.bytes ≡ token.start = omega (arith, up.start) in
    let end : token.end ≡ token.start + up.len = omega (arith, up.start, up.end) in
    let start : 0 + up.bytes ≡ token.start = sym up.start in
    let cut : drop up.len (drop up.bytes bytes) ≡ drop token.end bytes = drop-drop up.len up.bytes bytes ∙ ap (λ n. drop n bytes) (omega (arith, up.start, up.end)) in
    let follows = follows_token up.fresh_there (drop up.bytes bytes) token.kind up.len up.is in
    let first : up.rest.tokens ≡ _ ∷ b.rest.tokens = ap (λ (x : Reading). x.tokens) b.is in
    let behind_is : b.rest.tokens ≡ behind = cc (up.rest_tokens, first) in
    record {
      fresh = up.fresh_there;
      front = up.front;
      rest = b.rest;
      len = up.len;
      end = end;
      within = omega (arith, place, follows.some, length-drop up.bytes bytes);
      passes = subst (λ n. Passes true 0 bytes n up.fresh_there up.front) place up.passes;
      front_tokens = up.front_tokens;
      is = subst (λ n. IsElement (class_of up.fresh_there (drop n bytes)) (drop n bytes) (element.Lexeme token.kind up.len)) place up.is;
      scanned = subst (λ ys. Scan false (token.start + up.len) ys b.rest) cut (subst (λ n. Scan false (n + up.len) (drop up.len (drop up.bytes bytes)) b.rest) start b.scanned);
      rest_tokens = behind_is;
      clear = sym (ap (λ (x : Reading). x.fault) b.is) ∙ ap (λ (x : Reading). x.fault) whole;
    }

-- the token and what is behind it
pub from_token : (bytes : List ℕ) (before behind : List Token) (token : Token) → (a : Around bytes before token behind) → Scan false token.start (drop token.start bytes) (reading_from token.start (element.Lexeme token.kind a.len) a.rest)
from_token bytes before behind token a =
    let s = drop token.start bytes in
    let cut : drop token.end bytes ≡ drop a.len s = ap (λ n. drop n bytes) (a.end ∙ omega arith) ∙ sym (drop-drop a.len token.start bytes) in
    goes_on (element.Lexeme token.kind a.len) (token_stale a.fresh s token.kind a.len a.is) tt (subst (λ ys. Scan false (token.start + a.len) ys a.rest) cut a.scanned)

-- the front is read the same before a blank
pub front_local : (bytes : List ℕ) (before behind : List Token) (token : Token) → (a : Around bytes before token behind) → NoneRefused before → (b : ℕ) (rest : List ℕ) → is_blank b ≡ true
    → Passes true 0 (take token.start bytes ++ b ∷ rest) token.start a.fresh a.front
front_local bytes before behind token a accepted b rest blank =
    let w = take token.start bytes in
    let s = drop token.start bytes in
    passes_local true a.fresh 0 token.start bytes a.front a.passes w s rest b (sym (take-append-drop token.start bytes)) (sym (length-take-le token.start bytes a.within)) blank (something_follows (follows_token a.fresh s token.kind a.len a.is)) (subst NoneRefused (sym a.front_tokens) accepted)

-- a front and then the rest
pub front_and_rest : (w s : List ℕ) (k : ℕ) (fresh : Bool) (front rest : Reading) → length w ≡ k → Passes true 0 (w ++ s) k fresh front → Scan fresh k s rest → rest.fault ≡ None → HasTokens (w ++ s) (front.tokens ++ rest.tokens)
front_and_rest w s k fresh front rest len passes scanned clear =
    let start : k ≡ 0 + k = omega arith in
    let cut : s ≡ drop k (w ++ s) = sym (drop_at w s k len) in
    let scanned' = subst (λ n. Scan fresh n (drop k (w ++ s)) rest) start (subst (λ ys. Scan fresh k ys rest) cut scanned) in
    has_tokens (w ++ s) (joined front rest) (front.tokens ++ rest.tokens) (passes_scan true fresh 0 k (w ++ s) front rest passes scanned') refl clear

-- one front behind another
pub front_and_more : (w text s : List ℕ) (k : ℕ) (fresh fresh' : Bool) (front more : Reading) → length w ≡ k → Passes true 0 (w ++ (text ++ s)) k fresh front → Passes fresh k (text ++ s) (length text) fresh' more
    → Passes true 0 (w ++ text ++ s) (k + length text) fresh' (joined front more)
front_and_more w text s k fresh fresh' front more len passes next =
    let start : k ≡ 0 + k = omega arith in
    let cut : text ++ s ≡ drop k (w ++ (text ++ s)) = sym (drop_at w (text ++ s) k len) in
    let next' = subst (λ n. Passes fresh n (drop k (w ++ (text ++ s))) (length text) fresh' more) start (subst (λ ys. Passes fresh k ys (length text) fresh' more) cut next) in
    subst (λ ys. Passes true 0 ys (k + length text) fresh' (joined front more)) (sym (append_assoc w text s)) (passes_append true fresh fresh' 0 k (length text) (w ++ (text ++ s)) front more passes next')

-- ---- other tokens before a token

-- these tokens alone
abbrev pub only : List Token → Reading
only tokens = record { tokens = tokens; last_comment = None; fault = None }

-- A text that begins with a blank and ends behind a token, whatever stands around it, adds its tokens, and shifts the
-- token and those behind it.
pub tokens_put : (bytes : List ℕ) (before behind : List Token) (token : Token) (b : ℕ) (more : List ℕ) (new : List Token) → let text = b ∷ more in is_blank b ≡ true → HasTokens bytes (before ++ token ∷ behind) → NoneRefused (before ++ token ∷ behind)
    → ((fresh : Bool) (s : List ℕ) → Passes fresh token.start (text ++ s) (length text) false (only new))
    → HasTokens (take token.start bytes ++ text ++ drop token.start bytes) (before ++ new ++ map (shifted_token (length text)) (token ∷ behind))
tokens_put bytes before behind token b more new blank has accepted passes =
    let text : List ℕ = b ∷ more in
    let d = length text in
    let k = token.start in
    let w = take k bytes in
    let s = drop k bytes in
    let a = around bytes before behind token has in
    let len = length-take-le k bytes a.within in
    let front = front_local bytes before behind token a (accepted_before before (token ∷ behind) accepted) b (more ++ s) blank in
    let both = front_and_more w text s k a.fresh false a.front (only new) len front (passes a.fresh s) in
    let len' : length (w ++ text) ≡ k + d = length-append w text ∙ ap (λ n. n + d) len in
    let whole : Reading = reading_from k (element.Lexeme token.kind a.len) a.rest in
    let rest = scan_shifted d false k s whole (from_token bytes before behind token a) in
    let has' = front_and_rest (w ++ text) s (k + d) false (joined a.front (only new)) (shifted d whole) len' both rest (ap (shifted_fault d) a.clear) in
    let token_is : whole.tokens ≡ token ∷ behind =
    ap (λ e. let t : Token = record { kind = token.kind; start = k; end = e } in t ∷ a.rest.tokens) (sym a.end) ∙ ap (λ ts. token ∷ ts) a.rest_tokens in
    let tokens : a.front.tokens ++ new ++ map (shifted_token d) whole.tokens ≡ before ++ new ++ map (shifted_token d) (token ∷ behind) =
    ap (λ ts. ts ++ new ++ map (shifted_token d) whole.tokens) a.front_tokens ∙ ap (λ ts. before ++ new ++ map (shifted_token d) ts) token_is in
    subst (HasTokens (w ++ text ++ s)) tokens has'

-- ---- other tokens behind a token

last_ends : (before : List Token) (token : Token) → TokenEndsAt (before ++ token ∷ []) token.end
last_ends [] token = refl
last_ends (t ∷ []) token = refl
last_ends (t ∷ u ∷ before) token = last_ends (u ∷ before) token

accepted_both : (before : List Token) (token : Token) (behind : List Token) → NoneRefused (before ++ token ∷ behind) → NoneRefused (before ++ token ∷ [])
accepted_both [] token behind accepted = (accepted.0, tt)
accepted_both (t ∷ before) token behind accepted = (accepted.0, accepted_both before token behind accepted.1)

-- a text is read up to the end of a token
record Through (bytes : List ℕ) (before : List Token) (token : Token) : Type 0 where
  front : Reading
  passes : Passes true 0 bytes token.end false front
  front_tokens : front.tokens ≡ before ++ token ∷ []

through : (bytes : List ℕ) (before behind : List Token) (token : Token) → Around bytes before token behind → Through bytes before token
through bytes before behind token a =
    let k = token.start in
    let start : 0 + k ≡ k = omega arith in
    let here_is : a.len + 0 ≡ a.len = omega arith in
    let end : k + a.len ≡ token.end = sym a.end in
    let alone : Reading = reading_from k (element.Lexeme token.kind a.len) nothing in
    let one : Passes a.fresh k (drop k bytes) (a.len + 0) false alone = past (element.Lexeme token.kind a.len) a.is tt here in
    let one' = subst (λ n. Passes a.fresh n (drop k bytes) a.len false alone) (sym start) (subst (λ n. Passes a.fresh k (drop k bytes) n false alone) here_is one) in
    let both = passes_append true a.fresh false 0 k a.len bytes a.front alone a.passes one' in
    let last : alone.tokens ≡ token ∷ [] = ap (λ e. let t : Token = record { kind = token.kind; start = k; end = e } in t ∷ []) end in
    record {
      front = joined a.front alone;
      passes = subst (λ n. Passes true 0 bytes n false (joined a.front alone)) end both;
      front_tokens = ap (λ ts. ts ++ alone.tokens) a.front_tokens ∙ ap (λ ts. before ++ ts) last;
    }

-- A text that begins with a blank and ends behind a token, whatever stands around it, adds its tokens behind a token, and
-- shifts those behind that.
pub tokens_put_behind : (bytes : List ℕ) (before behind : List Token) (token : Token) (b : ℕ) (more : List ℕ) (new : List Token) → let text = b ∷ more in is_blank b ≡ true → HasTokens bytes (before ++ token ∷ behind) → NoneRefused (before ++ token ∷ behind)
    → ((s : List ℕ) → Passes false token.end (text ++ s) (length text) false (only new))
    → HasTokens (take token.end bytes ++ text ++ drop token.end bytes) (before ++ token ∷ new ++ map (shifted_token (length text)) behind)
tokens_put_behind bytes before behind token b more new blank has accepted passes =
    let text : List ℕ = b ∷ more in
    let d = length text in
    let k = token.end in
    let w = take k bytes in
    let s = drop k bytes in
    let a = around bytes before behind token has in
    let h = through bytes before behind token a in
    let inside = element_within a.fresh (drop token.start bytes) (element.Lexeme token.kind a.len) tt a.is in
    let within : k ≤ length bytes = omega (arith, a.end, a.within, inside, length-drop token.start bytes) in
    let len = length-take-le k bytes within in
    let start : k ≡ 0 + k = omega arith in
    let at_end = subst (TokenEndsAt h.front.tokens) start (subst (λ ts. TokenEndsAt ts k) (sym h.front_tokens) (last_ends before token)) in
    let none_refused = subst NoneRefused (sym h.front_tokens) (accepted_both before token behind accepted) in
    let front = passes_local true false 0 k bytes h.front h.passes w s (more ++ s) b (sym (take-append-drop k bytes)) (sym len) blank (token_before at_end) none_refused in
    let both = front_and_more w text s k false false h.front (only new) len front (passes s) in
    let len' : length (w ++ text) ≡ k + d = length-append w text ∙ ap (λ n. n + d) len in
    let rest = scan_shifted d false k s a.rest (subst (λ n. Scan false n s a.rest) (sym a.end) a.scanned) in
    let has' = front_and_rest (w ++ text) s (k + d) false (joined h.front (only new)) (shifted d a.rest) len' both rest (ap (shifted_fault d) a.clear) in
    let alone : List Token = token ∷ [] in
    let tokens : h.front.tokens ++ new ++ map (shifted_token d) a.rest.tokens ≡ before ++ token ∷ new ++ map (shifted_token d) behind =
    ap (λ ts. ts ++ new ++ map (shifted_token d) a.rest.tokens) h.front_tokens
    ∙ ap (λ ts. (before ++ alone) ++ new ++ map (shifted_token d) ts) a.rest_tokens
    ∙ ap (λ ts. ts ++ map (shifted_token d) behind) (append_assoc before alone new) in
    subst (HasTokens (w ++ text ++ s)) tokens has'

-- ---- blanks in a token's place

fresh_space : (fresh : Bool) (s : List ℕ) → fresh_behind fresh (32 ∷ s) element.Blank ≡ fresh
fresh_space true s = refl
fresh_space false s = refl

pub blanks_pass : (n : ℕ) (fresh : Bool) (at : ℕ) (s : List ℕ) → Passes fresh at (replicate n 32 ++ s) n fresh nothing
blanks_pass zero fresh at s = here
blanks_pass (suc n) fresh at s =
    let one : suc n ≡ 1 + n = omega arith in
    let P : Bool → Type 0 = λ f. Passes f (at + 1) (replicate n 32 ++ s) n fresh nothing in
    rw one (past element.Blank refl tt (subst P (sym (fresh_space fresh (replicate n 32 ++ s))) (blanks_pass n fresh (at + 1) s)))

pub tokens_blanked : (bytes : List ℕ) (before behind : List Token) (token : Token) → HasTokens bytes (before ++ token ∷ behind) → NoneRefused (before ++ token ∷ behind)
    → HasTokens (take token.start bytes ++ replicate (token.end - token.start) 32 ++ drop token.end bytes) (before ++ behind)
tokens_blanked bytes before behind token has accepted = of_length (token.end - token.start) (omega (arith, a.end))
  where
    a : Around bytes before token behind
    a = around bytes before behind token has

    of_length : (n : ℕ) → n ≡ a.len → HasTokens (take token.start bytes ++ replicate n 32 ++ drop token.end bytes) (before ++ behind)
    of_length zero same = absurd (omega (arith, element_some a.fresh (drop token.start bytes) (element.Lexeme token.kind a.len) tt a.is))
    of_length (suc n) same =
        let k = token.start in
        let w = take k bytes in
        let text : List ℕ = replicate (suc n) 32 in
        let s = drop token.end bytes in
        let len = length-take-le k bytes a.within in
        let size : length text ≡ suc n = length-replicate (suc n) 32 in
        let front = front_local bytes before behind token a (accepted_before before (token ∷ behind) accepted) 32 (replicate n 32 ++ s) refl in
        let blanks = subst (λ m. Passes a.fresh k (text ++ s) m a.fresh nothing) (sym size) (blanks_pass (suc n) a.fresh k s) in
        let both = front_and_more w text s k a.fresh a.fresh a.front nothing len front blanks in
        let len' : length (w ++ text) ≡ k + length text = length-append w text ∙ ap (λ m. m + length text) len in
        let start : k + a.len ≡ k + length text = omega arith in
        let rest_accepted = subst NoneRefused (sym a.rest_tokens) (accepted_behind before (token ∷ behind) accepted).1 in
        let rest = scan_as a.fresh (k + length text) s a.rest (subst (λ m. Scan false m s a.rest) start a.scanned) rest_accepted in
        let has' = front_and_rest (w ++ text) s (k + length text) a.fresh (joined a.front nothing) a.rest len' both rest a.clear in
        let tokens : a.front.tokens ++ [] ++ a.rest.tokens ≡ before ++ behind =
        append_assoc a.front.tokens [] a.rest.tokens ∙ ap (λ ts. ts ++ a.rest.tokens) a.front_tokens ∙ ap (λ ts. before ++ ts) a.rest_tokens in
        subst (HasTokens (w ++ text ++ s)) tokens has'
