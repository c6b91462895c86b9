-- What edits at the bounds of tokens do to the tokens of a text.
use Rattle.std.proofs.Common.{◌≡◌, ℕ, ◌+◌, ◌-◌, ◌<◌, ◌≤◌, Bool, true, false, List, [], ◌∷◌, ◌++◌, map, replicate, length, take, drop, sym, refl, ap, ◌∙◌, subst, arith, append_assoc, length-append}
use Rattle.std.proofs.lemmas.List.{length-take-le, drop_at, take_at, drop-drop, map-append}
use Rattle.c_lexer.specs.declared.token.Token.{Token}
use Rattle.c_lexer.specs.declared.token.Kind.{Kind}
use Rattle.c_lexer.specs.Bytes.{is_blank}
use Rattle.c_lexer.specs.Scan.{HasTokens}
use Rattle.c_lexer.proofs.LocalElement.{IsAccepted}
use Rattle.c_lexer.proofs.LocalPasses.{NoneRefused}
use Rattle.c_lexer.proofs.Passes.{Passes, shifted_token}
use Rattle.c_lexer.proofs.Edits.{only, tokens_put, tokens_put_behind, tokens_blanked}
use Rattle.c_lexer.proofs.Order.{Ascends, tokens_ascend}
use Rattle.source_patcher.proofs.TextEdits.{TextEdit, with_edits, with_one, BeginsFrom, first_last}

abbrev pub kinds : List Token → List Kind
kinds ts = map (λ (t : Token). t.kind) ts

-- A text that begins with a blank and adds tokens of these kinds, whatever stands around it.
pub record Adds (text : List ℕ) (added : List Kind) : Type 0 where
  pub first : ℕ
  pub more : List ℕ
  pub is : text ≡ first ∷ more
  pub blank : is_blank first ≡ true
  pub tokens : ℕ → List Token
  pub has_kinds : (at : ℕ) → kinds (tokens at) ≡ added
  pub accepted : (at : ℕ) → NoneRefused (tokens at)
  pub passes : (fresh : Bool) (at : ℕ) (s : List ℕ) → Passes fresh at (text ++ s) (length text) false (only (tokens at))

-- text between two bytes
abbrev pub inserted : ℕ → List ℕ → TextEdit
inserted at text = record { start = at; end = at; text = text }

-- blanks in a token's place
abbrev pub blanked : Token → TextEdit
blanked t = record { start = t.start; end = t.end; text = replicate (t.end - t.start) 32 }

-- Edits at the bounds of these tokens, in their order, behind a token that ends at the offset k; and the kinds of the new
-- tokens. A text is put before a token or behind one, a token is blanked, both of them, or two texts come to one place.
pub data Turns : ℕ → List TextEdit → List Token → List Kind → Type 0 where
  ended : {k : ℕ} → Turns k [] [] []
  keep : {k : ℕ} {es : List TextEdit} {t : Token} {ts : List Token} {us : List Kind} → Turns t.end es ts us → Turns k es (t ∷ ts) (t.kind ∷ us)
  put : {k : ℕ} {es : List TextEdit} {t : Token} {ts : List Token} {text : List ℕ} {added us : List Kind} →
      Adds text added → Turns t.end es ts us → Turns k (inserted t.start text ∷ es) (t ∷ ts) (added ++ t.kind ∷ us)
  blank : {k : ℕ} {es : List TextEdit} {t : Token} {ts : List Token} {us : List Kind} → Turns t.end es ts us → Turns k (blanked t ∷ es) (t ∷ ts) us
  put_blank : {k : ℕ} {es : List TextEdit} {t : Token} {ts : List Token} {text : List ℕ} {added us : List Kind} →
      Adds text added → Turns t.end es ts us → Turns k (inserted t.start text ∷ blanked t ∷ es) (t ∷ ts) (added ++ us)
  behind : {k : ℕ} {es : List TextEdit} {ts : List Token} {text : List ℕ} {added us : List Kind} →
      Adds text added → Turns k es ts us → Turns k (inserted k text ∷ es) ts (added ++ us)
  merge : {k at : ℕ} {es : List TextEdit} {ts : List Token} {us : List Kind} (a c : List ℕ) →
      Turns k (inserted at (a ++ c) ∷ es) ts us → Turns k (inserted at a ∷ inserted at c ∷ es) ts us

-- ---- refused tokens, by their kinds

abbrev pub AllAccepted : List Kind → Type 0
AllAccepted [] = Unit {0}
AllAccepted (k ∷ ks) = IsAccepted k × AllAccepted ks

pub accepted_kinds : (ts : List Token) → NoneRefused ts → AllAccepted (kinds ts)
accepted_kinds [] none = tt
accepted_kinds (t ∷ ts) none = (none.0, accepted_kinds ts none.1)

pub none_of_kinds : (ts : List Token) → AllAccepted (kinds ts) → NoneRefused ts
none_of_kinds [] all = tt
none_of_kinds (t ∷ ts) all = (all.0, none_of_kinds ts all.1)

pub none_refused_both : (ts us : List Token) → NoneRefused ts → NoneRefused us → NoneRefused (ts ++ us)
none_refused_both [] us front back = back
none_refused_both (t ∷ ts) us front back = (front.0, none_refused_both ts us front.1 back)

none_refused_shifted : (d : ℕ) (ts : List Token) → NoneRefused ts → NoneRefused (map (shifted_token d) ts)
none_refused_shifted d [] none = tt
none_refused_shifted d (t ∷ ts) none = (none.0, none_refused_shifted d ts none.1)

kinds_shifted : (d : ℕ) (ts : List Token) → kinds (map (shifted_token d) ts) ≡ kinds ts
kinds_shifted d [] = refl
kinds_shifted d (t ∷ ts) = ap (λ ks. t.kind ∷ ks) (kinds_shifted d ts)

kinds_both : (ts us : List Token) → kinds (ts ++ us) ≡ kinds ts ++ kinds us
kinds_both ts us = map-append (λ (t : Token). t.kind) ts us

-- ---- where edits begin

ascends_le : (a : ℕ) (ts : List Token) (l : ℕ) → Ascends a ts l → a ≤ l
ascends_le a [] l up = up
ascends_le a (t ∷ ts) l up = omega (arith, up.0, up.1, ascends_le t.end ts l up.2)

sooner : (k n size : ℕ) (es : List TextEdit) → k ≤ n → BeginsFrom n size es → BeginsFrom k size es
sooner k n size [] le begins = omega (arith, le, begins)
sooner k n size (e ∷ es) le begins = (omega (arith, le, begins.0), begins.1, begins.2)

pub turns_begin : (k size : ℕ) (es : List TextEdit) (ts : List Token) (us : List Kind) → Turns k es ts us → Ascends k ts size → BeginsFrom k size es
turns_begin k size _ _ _ ended up = up
turns_begin k size es _ _ (keep {t = t} {ts = ts} {us = us} rest) up = sooner k t.end size es (omega (arith, up.0, up.1)) (turns_begin t.end size es ts us rest up.2)
turns_begin k size _ _ _ (put {t = t} {ts = ts} adds rest) up = (up.0, omega arith, omega (arith, up.1, ascends_le t.end ts size up.2))
turns_begin k size _ _ _ (blank {t = t} {ts = ts} rest) up = (up.0, omega (arith, up.1), ascends_le t.end ts size up.2)
turns_begin k size _ _ _ (put_blank {t = t} {ts = ts} adds rest) up = (up.0, omega arith, omega (arith, up.1, ascends_le t.end ts size up.2))
turns_begin k size _ ts _ (behind adds rest) up = (omega arith, omega arith, ascends_le k ts size up)
turns_begin k size _ ts us (merge {at = at} {es = es} a c rest) up = turns_begin k size (inserted at (a ++ c) ∷ es) ts us rest up

-- ---- the edited text

-- it has the tokens up to the last one before the edits, and behind that tokens of these kinds
pub record Turned (bytes : List ℕ) (front : List Token) (last : Token) (es : List TextEdit) (us : List Kind) : Type 0 where
  pub rest : List Token
  pub has : HasTokens (with_edits 0 es bytes) (front ++ last ∷ rest)
  pub rest_kinds : kinds rest ≡ us
  pub accepted : NoneRefused (front ++ last ∷ rest)

accepted_front : (front more : List Token) → NoneRefused (front ++ more) → NoneRefused front
accepted_front [] more none = tt
accepted_front (t ∷ front) more none = (none.0, accepted_front front more none.1)

accepted_more : (front more : List Token) → NoneRefused (front ++ more) → NoneRefused more
accepted_more [] more none = none
accepted_more (t ∷ front) more none = accepted_more front more none.1

-- one token more before the edits
one_more : (front : List Token) (last t : Token) (rest : List Token) → (front ++ last ∷ []) ++ t ∷ rest ≡ front ++ last ∷ t ∷ rest
one_more front last t rest = append_assoc front (last ∷ []) (t ∷ rest)

ascends_behind : (a : ℕ) (front : List Token) (last : Token) (ts : List Token) (size : ℕ) → Ascends a (front ++ last ∷ ts) size → Ascends last.end ts size
ascends_behind a [] last ts size up = up.2
ascends_behind a (t ∷ front) last ts size up = ascends_behind t.end front last ts size up.2

last_of : (a : ℕ) (front : List Token) (last t : Token) (ts : List Token) (size : ℕ) → Ascends a (front ++ last ∷ t ∷ ts) size → (last.end ≤ t.start) × (t.start < t.end) × Ascends t.end ts size
last_of a front last t ts size up = ascends_behind a front last (t ∷ ts) size up

-- a token is kept
kept : (bytes : List ℕ) (front : List Token) (last t : Token) (es : List TextEdit) (us : List Kind) → Turned bytes (front ++ last ∷ []) t es us → Turned bytes front last es (t.kind ∷ us)
kept bytes front last t es us d =
    record {
      rest = t ∷ d.rest;
      has = subst (HasTokens (with_edits 0 es bytes)) (one_more front last t d.rest) d.has;
      rest_kinds = ap (λ ks. t.kind ∷ ks) d.rest_kinds;
      accepted = subst NoneRefused (one_more front last t d.rest) d.accepted;
    }

-- a text is put before a token
put_before : (bytes : List ℕ) (front : List Token) (last t : Token) (es : List TextEdit) (text : List ℕ) (added us : List Kind) → Adds text added → BeginsFrom t.start (length bytes) es → t.start ≤ length bytes
    → Turned bytes (front ++ last ∷ []) t es us → Turned bytes front last (inserted t.start text ∷ es) (added ++ t.kind ∷ us)
put_before bytes front last t es text added us adds begins within d =
    let T = with_edits 0 es bytes in
    let F = front ++ last ∷ [] in
    let D = length text in
    let new = adds.tokens t.start in
    let back = map (shifted_token D) (t ∷ d.rest) in
    let starts : text ≡ adds.first ∷ adds.more = adds.is in
    let P : List ℕ → Type 0 = λ x. HasTokens (take t.start T ++ x ++ drop t.start T) (F ++ new ++ map (shifted_token (length x)) (t ∷ d.rest)) in
    let passes : (fresh : Bool) (s : List ℕ) → Passes fresh t.start ((adds.first ∷ adds.more) ++ s) (length (adds.first ∷ adds.more)) false (only new) =
    λ fresh s. subst (λ x. Passes fresh t.start (x ++ s) (length x) false (only new)) starts (adds.passes fresh t.start s) in
    let has = subst P (sym starts) (tokens_put T F d.rest t adds.first adds.more new adds.blank d.has d.accepted passes) in
    let one : with_edits 0 (inserted t.start text ∷ es) bytes ≡ with_one (inserted t.start text) T = first_last (inserted t.start text) es bytes (omega arith) begins within in
    let whole : F ++ new ++ back ≡ front ++ last ∷ (new ++ back) = append_assoc F new back ∙ append_assoc front (last ∷ []) (new ++ back) in
    let none : NoneRefused (F ++ new ++ back) =
    none_refused_both (F ++ new) back (none_refused_both F new (accepted_front F (t ∷ d.rest) d.accepted) (adds.accepted t.start)) (none_refused_shifted D (t ∷ d.rest) (accepted_more F (t ∷ d.rest) d.accepted)) in
    record {
      rest = new ++ back;
      has = subst (HasTokens (with_edits 0 (inserted t.start text ∷ es) bytes)) whole (subst (λ x. HasTokens x (F ++ new ++ back)) (sym one) has);
      rest_kinds = kinds_both new back ∙ ap (λ ks. ks ++ kinds back) (adds.has_kinds t.start) ∙ ap (λ ks. added ++ ks) (kinds_shifted D (t ∷ d.rest) ∙ ap (λ ks. t.kind ∷ ks) d.rest_kinds);
      accepted = subst NoneRefused whole none;
    }

-- a text is put behind the last token
put_behind : (bytes : List ℕ) (front : List Token) (last : Token) (es : List TextEdit) (text : List ℕ) (added us : List Kind) → Adds text added → BeginsFrom last.end (length bytes) es → last.end ≤ length bytes
    → Turned bytes front last es us → Turned bytes front last (inserted last.end text ∷ es) (added ++ us)
put_behind bytes front last es text added us adds begins within d =
    let T = with_edits 0 es bytes in
    let k = last.end in
    let D = length text in
    let new = adds.tokens k in
    let back = map (shifted_token D) d.rest in
    let starts : text ≡ adds.first ∷ adds.more = adds.is in
    let P : List ℕ → Type 0 = λ x. HasTokens (take k T ++ x ++ drop k T) (front ++ last ∷ new ++ map (shifted_token (length x)) d.rest) in
    let passes : (s : List ℕ) → Passes false k ((adds.first ∷ adds.more) ++ s) (length (adds.first ∷ adds.more)) false (only new) =
    λ s. subst (λ x. Passes false k (x ++ s) (length x) false (only new)) starts (adds.passes false k s) in
    let has = subst P (sym starts) (tokens_put_behind T front d.rest last adds.first adds.more new adds.blank d.has d.accepted passes) in
    let one : with_edits 0 (inserted k text ∷ es) bytes ≡ with_one (inserted k text) T = first_last (inserted k text) es bytes (omega arith) begins within in
    let whole : front ++ last ∷ new ++ back ≡ front ++ last ∷ (new ++ back) = append_assoc front (last ∷ new) back in
    let none : NoneRefused (front ++ last ∷ (new ++ back)) =
    none_refused_both front (last ∷ (new ++ back)) (accepted_front front (last ∷ d.rest) d.accepted)
    ((accepted_more front (last ∷ d.rest) d.accepted).0, none_refused_both new back (adds.accepted k) (none_refused_shifted D d.rest (accepted_more front (last ∷ d.rest) d.accepted).1)) in
    record {
      rest = new ++ back;
      has = subst (HasTokens (with_edits 0 (inserted k text ∷ es) bytes)) whole (subst (λ x. HasTokens x (front ++ last ∷ new ++ back)) (sym one) has);
      rest_kinds = kinds_both new back ∙ ap (λ ks. ks ++ kinds back) (adds.has_kinds k) ∙ ap (λ ks. added ++ ks) (kinds_shifted D d.rest ∙ d.rest_kinds);
      accepted = none;
    }

-- a token is blanked
made_blank : (bytes : List ℕ) (front : List Token) (last t : Token) (es : List TextEdit) (us : List Kind) → t.start ≤ t.end → BeginsFrom t.end (length bytes) es → t.end ≤ length bytes
    → Turned bytes (front ++ last ∷ []) t es us → Turned bytes front last (blanked t ∷ es) us
made_blank bytes front last t es us order begins within d =
    let T = with_edits 0 es bytes in
    let F = front ++ last ∷ [] in
    let has = tokens_blanked T F d.rest t d.has d.accepted in
    let one : with_edits 0 (blanked t ∷ es) bytes ≡ with_one (blanked t) T = first_last (blanked t) es bytes order begins within in
    let whole : F ++ d.rest ≡ front ++ last ∷ d.rest = append_assoc front (last ∷ []) d.rest in
    let none = none_refused_both F d.rest (accepted_front F (t ∷ d.rest) d.accepted) (accepted_more F (t ∷ d.rest) d.accepted).1 in
    record {
      rest = d.rest;
      has = subst (HasTokens (with_edits 0 (blanked t ∷ es) bytes)) whole (subst (λ x. HasTokens x (F ++ d.rest)) (sym one) has);
      rest_kinds = d.rest_kinds;
      accepted = subst NoneRefused whole none;
    }

-- a text in front of a blanked token: the blanks can come first or last
exchanged : (s e : ℕ) (text blanks T : List ℕ) → s ≤ e → s ≤ length T → let U = with_one (inserted s text) T in let d = length text in
    with_one (inserted s text) (take s T ++ blanks ++ drop e T) ≡ take (s + d) U ++ blanks ++ drop (e + d) U
exchanged s e text blanks T order within =
    let w = take s T in
    let b = drop e T in
    let d = length text in
    let len : length w ≡ s = length-take-le s T within in
    let len' : length (w ++ text) ≡ s + d = length-append w text ∙ ap (λ n. n + d) len in
    let joined : w ++ blanks ++ b ≡ w ++ (blanks ++ b) = append_assoc w blanks b in
    let front : take s (w ++ blanks ++ b) ≡ w = ap (take s) joined ∙ take_at w (blanks ++ b) s len in
    let back : drop s (w ++ blanks ++ b) ≡ blanks ++ b = ap (drop s) joined ∙ drop_at w (blanks ++ b) s len in
    let U = w ++ text ++ drop s T in
    let front2 : take (s + d) U ≡ w ++ text = take_at (w ++ text) (drop s T) (s + d) len' in
    let far : e + d ≡ (s + d) + (e - s) = omega (arith, order) in
    let near : s + (e - s) ≡ e = omega (arith, order) in
    let back2 : drop (e + d) U ≡ b =
    ap (λ n. drop n U) far ∙ sym (drop-drop (e - s) (s + d) U) ∙ ap (drop (e - s)) (drop_at (w ++ text) (drop s T) (s + d) len') ∙ drop-drop (e - s) s T ∙ ap (λ n. drop n T) near in
    ap (λ x. x ++ text ++ drop s (w ++ blanks ++ b)) front ∙ ap (λ x. w ++ text ++ x) back
    ∙ sym (append_assoc (w ++ text) blanks b)
    ∙ ap (λ x. x ++ blanks ++ b) (sym front2) ∙ ap (λ x. take (s + d) U ++ blanks ++ x) (sym back2)

token_within : (bytes : List ℕ) (front : List Token) (t : Token) (ts : List Token) → HasTokens bytes (front ++ t ∷ ts) → t.start ≤ length bytes
token_within bytes front t ts has = within 0 front (tokens_ascend bytes (front ++ t ∷ ts) has)
  where
    within : (a : ℕ) (front : List Token) → Ascends a (front ++ t ∷ ts) (length bytes) → t.start ≤ length bytes
    within a [] up = omega (arith, up.1, ascends_le t.end ts (length bytes) up.2)
    within a (u ∷ front) up = within u.end front up.2

-- a text is put before a token, and the token is blanked
put_and_blank : (bytes : List ℕ) (front : List Token) (last t : Token) (es : List TextEdit) (text : List ℕ) (added us : List Kind) → Adds text added
    → t.start ≤ t.end → BeginsFrom t.end (length bytes) es → t.end ≤ length bytes
    → Turned bytes (front ++ last ∷ []) t es us → Turned bytes front last (inserted t.start text ∷ blanked t ∷ es) (added ++ us)
put_and_blank bytes front last t es text added us adds order begins within d =
    let T = with_edits 0 es bytes in
    let F = front ++ last ∷ [] in
    let D = length text in
    let s = t.start in
    let new = adds.tokens s in
    let t' = shifted_token D t in
    let back = map (shifted_token D) d.rest in
    let U = with_one (inserted s text) T in
    let starts : text ≡ adds.first ∷ adds.more = adds.is in
    let P : List ℕ → Type 0 = λ x. HasTokens (take s T ++ x ++ drop s T) (F ++ new ++ map (shifted_token (length x)) (t ∷ d.rest)) in
    let passes : (fresh : Bool) (s' : List ℕ) → Passes fresh s ((adds.first ∷ adds.more) ++ s') (length (adds.first ∷ adds.more)) false (only new) =
    λ fresh s'. subst (λ x. Passes fresh s (x ++ s') (length x) false (only new)) starts (adds.passes fresh s s') in
    let put : HasTokens U ((F ++ new) ++ t' ∷ back) = subst P (sym starts) (tokens_put T F d.rest t adds.first adds.more new adds.blank d.has d.accepted passes) in
    let front_none = none_refused_both F new (accepted_front F (t ∷ d.rest) d.accepted) (adds.accepted s) in
    let back_none = none_refused_shifted D (t ∷ d.rest) (accepted_more F (t ∷ d.rest) d.accepted) in
    let gone = tokens_blanked U (F ++ new) back t' put (none_refused_both (F ++ new) (t' ∷ back) front_none back_none) in
    let size : (t.end + D) - (t.start + D) ≡ t.end - t.start = omega arith in
    let blanks = replicate (t.end - t.start) 32 in
    let gone' : HasTokens (take (s + D) U ++ blanks ++ drop (t.end + D) U) ((F ++ new) ++ back) =
    subst (λ n. HasTokens (take (s + D) U ++ replicate n 32 ++ drop (t.end + D) U) ((F ++ new) ++ back)) size gone in
    let es' = blanked t ∷ es in
    let one : with_edits 0 es' bytes ≡ with_one (blanked t) T = first_last (blanked t) es bytes order begins within in
    let two : with_edits 0 (inserted s text ∷ es') bytes ≡ with_one (inserted s text) (with_edits 0 es' bytes) =
    first_last (inserted s text) es' bytes (omega arith) (omega arith, order, within) (omega (arith, order, within)) in
    let same : with_edits 0 (inserted s text ∷ es') bytes ≡ take (s + D) U ++ blanks ++ drop (t.end + D) U =
    two ∙ ap (with_one (inserted s text)) one ∙ exchanged s t.end text blanks T order (token_within T F t d.rest d.has) in
    let whole : (F ++ new) ++ back ≡ front ++ last ∷ (new ++ back) = append_assoc F new back ∙ append_assoc front (last ∷ []) (new ++ back) in
    record {
      rest = new ++ back;
      has = subst (HasTokens (with_edits 0 (inserted s text ∷ es') bytes)) whole (subst (λ x. HasTokens x ((F ++ new) ++ back)) (sym same) gone');
      rest_kinds = kinds_both new back ∙ ap (λ ks. ks ++ kinds back) (adds.has_kinds s) ∙ ap (λ ks. added ++ ks) (kinds_shifted D d.rest ∙ d.rest_kinds);
      accepted = subst NoneRefused whole (none_refused_both (F ++ new) back front_none back_none.1);
    }

-- two texts at one place are one
merged : (at : ℕ) (a c : List ℕ) (es : List TextEdit) (bytes : List ℕ) → with_edits 0 (inserted at (a ++ c) ∷ es) bytes ≡ with_edits 0 (inserted at a ∷ inserted at c ∷ es) bytes
merged at a c es bytes =
    let x = take (at - 0) bytes in
    let b = drop (at - 0) bytes in
    let z : at - at ≡ 0 = omega arith in
    let w = with_edits at es b in
    ap (λ y. y ++ w) (sym (append_assoc x a c)) ∙ append_assoc (x ++ a) c w
    ∙ ap (λ n. x ++ a ++ (take n b ++ c ++ with_edits at es (drop n b))) (sym z)

all_merged : (bytes : List ℕ) (front : List Token) (last : Token) (at : ℕ) (a c : List ℕ) (es : List TextEdit) (us : List Kind)
    → Turned bytes front last (inserted at (a ++ c) ∷ es) us → Turned bytes front last (inserted at a ∷ inserted at c ∷ es) us
all_merged bytes front last at a c es us d =
    record { rest = d.rest; has = subst (λ x. HasTokens x (front ++ last ∷ d.rest)) (merged at a c es bytes) d.has; rest_kinds = d.rest_kinds; accepted = d.accepted }

-- what is so of all tokens is so where one of them is counted to the front
with_one_more : (P : List Token → Type 0) (front : List Token) (last t : Token) (ts : List Token) → P (front ++ last ∷ t ∷ ts) → P ((front ++ last ∷ []) ++ t ∷ ts)
with_one_more P front last t ts = subst P (sym (one_more front last t ts))

-- The tokens of an edited text, of which one stays before the edits.
pub turned : (bytes : List ℕ) (front : List Token) (last : Token) (k : ℕ) (es : List TextEdit) (ts : List Token) (us : List Kind) → k ≡ last.end
    → HasTokens bytes (front ++ last ∷ ts) → NoneRefused (front ++ last ∷ ts) → Turns k es ts us → Turned bytes front last es us
turned bytes front last k _ _ _ same has none ended = record { rest = []; has = has; rest_kinds = refl; accepted = none }
turned bytes front last k es _ _ same has none (keep {t = t} {ts = ts} {us = us} r) =
    kept bytes front last t es us (turned bytes (front ++ last ∷ []) t t.end es ts us refl (with_one_more (HasTokens bytes) front last t ts has) (with_one_more NoneRefused front last t ts none) r)
turned bytes front last k _ _ _ same has none (put {es = es} {t = t} {ts = ts} {text = text} {added = added} {us = us} adds r) =
    let up = ascends_behind 0 front last (t ∷ ts) (length bytes) (tokens_ascend bytes (front ++ last ∷ t ∷ ts) has) in
    put_before bytes front last t es text added us adds
    (sooner t.start t.end (length bytes) es (omega (arith, up.1)) (turns_begin t.end (length bytes) es ts us r up.2))
    (omega (arith, up.1, ascends_le t.end ts (length bytes) up.2))
    (turned bytes (front ++ last ∷ []) t t.end es ts us refl (with_one_more (HasTokens bytes) front last t ts has) (with_one_more NoneRefused front last t ts none) r)
turned bytes front last k _ _ _ same has none (blank {es = es} {t = t} {ts = ts} {us = us} r) =
    let up = ascends_behind 0 front last (t ∷ ts) (length bytes) (tokens_ascend bytes (front ++ last ∷ t ∷ ts) has) in
    made_blank bytes front last t es us (omega (arith, up.1)) (turns_begin t.end (length bytes) es ts us r up.2) (ascends_le t.end ts (length bytes) up.2)
    (turned bytes (front ++ last ∷ []) t t.end es ts us refl (with_one_more (HasTokens bytes) front last t ts has) (with_one_more NoneRefused front last t ts none) r)
turned bytes front last k _ _ _ same has none (put_blank {es = es} {t = t} {ts = ts} {text = text} {added = added} {us = us} adds r) =
    let up = ascends_behind 0 front last (t ∷ ts) (length bytes) (tokens_ascend bytes (front ++ last ∷ t ∷ ts) has) in
    put_and_blank bytes front last t es text added us adds (omega (arith, up.1)) (turns_begin t.end (length bytes) es ts us r up.2) (ascends_le t.end ts (length bytes) up.2)
    (turned bytes (front ++ last ∷ []) t t.end es ts us refl (with_one_more (HasTokens bytes) front last t ts has) (with_one_more NoneRefused front last t ts none) r)
turned bytes front last k _ ts _ same has none (behind {es = es} {text = text} {added = added} {us = us} adds r) =
    let up : Ascends last.end ts (length bytes) = ascends_behind 0 front last ts (length bytes) (tokens_ascend bytes (front ++ last ∷ ts) has) in
    let r' : Turns last.end es ts us = subst (λ n. Turns n es ts us) same r in
    subst (λ n. Turned bytes front last (inserted n text ∷ es) (added ++ us)) (sym same)
    (put_behind bytes front last es text added us adds (turns_begin last.end (length bytes) es ts us r' up) (ascends_le last.end ts (length bytes) up) (turned bytes front last k es ts us same has none r))
turned bytes front last k _ ts us same has none (merge {at = at} {es = es} a c r) =
    all_merged bytes front last at a c es us (turned bytes front last k (inserted at (a ++ c) ∷ es) ts us same has none r)
