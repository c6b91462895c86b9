-- The texts that an edit writes, and the tokens that they add.
use Rattle.std.proofs.Common.{◌≡◌, ℕ, zero, suc, ◌+◌, ◌<◌, ◌≤◌, true, false, Bool, List, [], ◌∷◌, ◌++◌, length, take, Some, None, refl, sym, ap, subst, ◌∙◌, arith, append_assoc, length-append}
use Rattle.std.specs.Prelude.{codes}
use Rattle.std.proofs.lemmas.List.{drop_at, map-append}
use Rattle.c_lexer.specs.declared.token.Token.{Token}
use Rattle.c_lexer.specs.declared.token.Kind.{Kind}
use Rattle.c_lexer.specs.declared.token.Kind.TheVariants.{Name, Key, Punct}
use Rattle.c_lexer.specs.declared.element.Element.TheVariants as element
use Rattle.c_lexer.specs.declared.reading.Reading.{Reading}
use Rattle.c_lexer.specs.Bytes.{class_of, is_word_byte}
use Rattle.c_lexer.specs.Words.{punctuator_kind}
use Rattle.c_lexer.specs.Elements.{IsElement, IsPunctuator}
use Rattle.c_lexer.specs.Scan.{fresh_behind, reading_from}
use Rattle.c_lexer.proofs.LocalPasses.{NoneRefused}
use Rattle.c_lexer.proofs.Passes.{Passes, here, past, nothing, passes_append}
use Rattle.c_lexer.proofs.Lexemes.{Spelling, name_element}
use Rattle.c_lexer.proofs.Edits.{only}
use Rattle.source_patcher.specs.Edit.{free_text}
use Rattle.source_patcher.proofs.Turns.{Adds, kinds, none_refused_both}

-- the places of `free` and of punctuators in the lexer's tables

abbrev pub key_free : ℕ
key_free = 6

abbrev pub punct_open : ℕ
punct_open = 4

abbrev pub punct_close : ℕ
punct_close = 5

abbrev pub punct_arrow : ℕ
punct_arrow = 15

abbrev pub punct_semicolon : ℕ
punct_semicolon = 17

abbrev pub punct_open_brace : ℕ
punct_open_brace = 26

abbrev pub punct_close_brace : ℕ
punct_close_brace = 28

-- a token of n bytes at an offset
abbrev pub token_of : Kind → ℕ → ℕ → Token
token_of kind at n = record { kind = kind; start = at; end = at + n }

-- ---- punctuators at the front of a text

-- one of one byte, where none goes on with this byte
pub one_byte : (c : ℕ) (rest : List ℕ) (kind : Kind) → punctuator_kind (c ∷ []) ≡ Some kind → ((y : ℕ) (ys : List ℕ) → punctuator_kind (c ∷ y ∷ ys) ≡ None) → IsPunctuator (c ∷ rest) (element.Lexeme kind 1)
one_byte c rest kind is alone = (omega arith, is, λ m above within. longer m rest above within)
  where
    longer : (m : ℕ) (r : List ℕ) → 1 < m → m ≤ length (c ∷ r) → punctuator_kind (take m (c ∷ r)) ≡ None
    longer zero r above within = absurd (omega arith)
    longer (suc zero) r above within = absurd (omega arith)
    longer (suc (suc m)) [] above within = absurd (omega arith)
    longer (suc (suc m)) (y ∷ ys) above within = alone y (take m ys)

-- one of two bytes, where none goes on with these
pub two_bytes : (c d : ℕ) (rest : List ℕ) (kind : Kind) → punctuator_kind (c ∷ d ∷ []) ≡ Some kind → ((y : ℕ) (ys : List ℕ) → punctuator_kind (c ∷ d ∷ y ∷ ys) ≡ None) → IsPunctuator (c ∷ d ∷ rest) (element.Lexeme kind 2)
two_bytes c d rest kind is alone = (omega arith, is, λ m above within. longer m rest above within)
  where
    longer : (m : ℕ) (r : List ℕ) → 2 < m → m ≤ length (c ∷ d ∷ r) → punctuator_kind (take m (c ∷ d ∷ r)) ≡ None
    longer zero r above within = absurd (omega arith)
    longer (suc zero) r above within = absurd (omega arith)
    longer (suc (suc zero)) r above within = absurd (omega arith)
    longer (suc (suc (suc m))) [] above within = absurd (omega arith)
    longer (suc (suc (suc m))) (y ∷ ys) above within = alone y (take m ys)

passes_from : {fresh fresh' : Bool} {at at' k : ℕ} {xs : List ℕ} {r : Reading} → at ≡ at' → Passes fresh at' xs k fresh' r → Passes fresh at xs k fresh' r
passes_from {fresh} {fresh'} {at} {at'} {k} {xs} {r} same passes = subst (λ n. Passes fresh n xs k fresh' r) (sym same) passes

-- ---- braces

open_brace : (fresh : Bool) (rest : List ℕ) → IsElement (class_of fresh (123 ∷ rest)) (123 ∷ rest) (element.Lexeme (Punct punct_open_brace) 1)
open_brace true rest = one_byte 123 rest (Punct punct_open_brace) refl (λ y ys. refl)
open_brace false rest = one_byte 123 rest (Punct punct_open_brace) refl (λ y ys. refl)

close_brace : (fresh : Bool) (rest : List ℕ) → IsElement (class_of fresh (125 ∷ rest)) (125 ∷ rest) (element.Lexeme (Punct punct_close_brace) 1)
close_brace true rest = one_byte 125 rest (Punct punct_close_brace) refl (λ y ys. refl)
close_brace false rest = one_byte 125 rest (Punct punct_close_brace) refl (λ y ys. refl)

pub adds_open : Adds (codes " { ") (Punct punct_open_brace ∷ [])
adds_open = record {
  first = 32;
  more = 123 ∷ 32 ∷ [];
  is = refl;
  blank = refl;
  tokens = λ at. token_of (Punct punct_open_brace) (at + 1) 1 ∷ [];
  has_kinds = λ at. refl;
  accepted = λ at. (tt, tt);
  passes = λ fresh at s. past element.Blank refl tt (past (element.Lexeme (Punct punct_open_brace) 1) (open_brace (fresh_behind fresh (32 ∷ 123 ∷ 32 ∷ s) element.Blank) (32 ∷ s)) tt (past element.Blank refl tt here));
}

pub adds_close : Adds (codes " } ") (Punct punct_close_brace ∷ [])
adds_close = record {
  first = 32;
  more = 125 ∷ 32 ∷ [];
  is = refl;
  blank = refl;
  tokens = λ at. token_of (Punct punct_close_brace) (at + 1) 1 ∷ [];
  has_kinds = λ at. refl;
  accepted = λ at. (tt, tt);
  passes = λ fresh at s. past element.Blank refl tt (past (element.Lexeme (Punct punct_close_brace) 1) (close_brace (fresh_behind fresh (32 ∷ 125 ∷ 32 ∷ s) element.Blank) (32 ∷ s)) tt (past element.Blank refl tt here));
}

-- ---- what is freed

-- the text of an expression before a `)`
pub record IsFreed (e : List ℕ) (added : List Kind) : Type 0 where
  pub tokens : ℕ → List Token
  pub has_kinds : (at : ℕ) → kinds (tokens at) ≡ added
  pub accepted : (at : ℕ) → NoneRefused (tokens at)
  pub passes : (at : ℕ) (s : List ℕ) → Passes false at (e ++ 41 ∷ s) (length e) false (only (tokens at))

-- a name, before a byte that no word has
name_passes : (at : ℕ) (x s : List ℕ) (b k : ℕ) (r : Reading) → Spelling x → is_word_byte b ≡ false → Passes false (at + length x) (b ∷ s) k false r
    → Passes false at (x ++ b ∷ s) (length x + k) false (reading_from at (element.Lexeme (Name x) (length x)) r)
name_passes at x s b k r name ends rest =
    past (element.Lexeme (Name x) (length x)) (name_element x s b name ends) tt
    (subst (λ ys. Passes false (at + length x) ys k false r) (sym (drop_at x (b ∷ s) (length x) refl)) rest)

pub name_is_freed : (x : List ℕ) → Spelling x → IsFreed x (Name x ∷ [])
name_is_freed x name = record {
  tokens = λ at. token_of (Name x) at (length x) ∷ [];
  has_kinds = λ at. refl;
  accepted = λ at. (tt, tt);
  passes = λ at s. let z : length x + 0 ≡ length x = omega arith in
      subst (λ k. Passes false at (x ++ 41 ∷ s) k false (only (token_of (Name x) at (length x) ∷ []))) z (name_passes at x s 41 0 nothing name refl here);
}

-- `x->f`
pub field_is_freed : (x f : List ℕ) → Spelling x → Spelling f → IsFreed (x ++ codes "->" ++ f) (Name x ∷ Punct punct_arrow ∷ Name f ∷ [])
field_is_freed x f name field = record {
  tokens = tokens;
  has_kinds = λ at. refl;
  accepted = λ at. (tt, (tt, (tt, tt)));
  passes = passes;
}
  where
    n : ℕ
    n = length x

    tokens : ℕ → List Token
    tokens at = token_of (Name x) at n ∷ token_of (Punct punct_arrow) (at + n) 2 ∷ token_of (Name f) (at + n + 2) (length f) ∷ []

    joined : (s : List ℕ) → x ++ codes "->" ++ f ++ 41 ∷ s ≡ x ++ 45 ∷ 62 ∷ (f ++ 41 ∷ s)
    joined s = ap (λ ys. ys ++ 41 ∷ s) (append_assoc x (codes "->") f) ∙ append_assoc x (codes "->" ++ f) (41 ∷ s)

    size : n + (2 + (length f + 0)) ≡ length (x ++ codes "->" ++ f)
    size = sym (length-append (x ++ codes "->") f ∙ ap (λ k. k + length f) (length-append x (codes "->")) ∙ omega arith)

    passes : (at : ℕ) (s : List ℕ) → Passes false at (x ++ codes "->" ++ f ++ 41 ∷ s) (length (x ++ codes "->" ++ f)) false (only (tokens at))
    passes at s =
        let behind = past (element.Lexeme (Punct punct_arrow) 2) (two_bytes 45 62 (f ++ 41 ∷ s) (Punct punct_arrow) refl (λ y ys. refl)) tt (name_passes (at + n + 2) f s 41 0 nothing field refl here) in
        let whole = name_passes at x (62 ∷ (f ++ 41 ∷ s)) 45 (2 + (length f + 0)) _ name refl behind in
        subst (λ ys. Passes false at ys (length (x ++ codes "->" ++ f)) false (only (tokens at))) (sym (joined s))
        (subst (λ k. Passes false at (x ++ 45 ∷ 62 ∷ (f ++ 41 ∷ s)) k false (only (tokens at))) size whole)

-- ---- a free

abbrev pub free_kinds : List Kind → List Kind
free_kinds inside = Key key_free ∷ Punct punct_open ∷ (inside ++ Punct punct_close ∷ Punct punct_semicolon ∷ [])

free_word : (fresh : Bool) (rest : List ℕ) → IsElement (class_of fresh (102 ∷ 114 ∷ 101 ∷ 101 ∷ 40 ∷ rest)) (102 ∷ 114 ∷ 101 ∷ 101 ∷ 40 ∷ rest) (element.Lexeme (Key key_free) 4)
free_word true rest = refl
free_word false rest = refl

free_joined : (e s : List ℕ) → free_text e ++ s ≡ 32 ∷ 102 ∷ 114 ∷ 101 ∷ 101 ∷ 40 ∷ (e ++ 41 ∷ 59 ∷ 32 ∷ s)
free_joined e s = ap (λ ys. 32 ∷ 102 ∷ 114 ∷ 101 ∷ 101 ∷ 40 ∷ ys) (append_assoc e (codes "); ") s)

length-free_text : (e : List ℕ) → length (free_text e) ≡ length e + 9
length-free_text e = omega (arith, length-append e (codes "); "))

-- from the `)` on
abbrev pub end_tokens : ℕ → ℕ → List Token
end_tokens at n = token_of (Punct punct_close) (at + 6 + n) 1 ∷ token_of (Punct punct_semicolon) (at + 7 + n) 1 ∷ []

free_end : (at n : ℕ) (s : List ℕ) → Passes false (at + 6 + n) (41 ∷ 59 ∷ 32 ∷ s) 3 false (only (end_tokens at n))
free_end at n s =
    let next : at + 6 + n + 1 ≡ at + 7 + n = omega arith in
    let space : Passes false (at + 7 + n + 1) (32 ∷ s) 1 false nothing = past element.Blank refl tt here in
    let semicolon : Passes false (at + 7 + n) (59 ∷ 32 ∷ s) 2 false (only (token_of (Punct punct_semicolon) (at + 7 + n) 1 ∷ [])) =
    past (element.Lexeme (Punct punct_semicolon) 1) (one_byte 59 (32 ∷ s) (Punct punct_semicolon) refl (λ y ys. refl)) tt space in
    past (element.Lexeme (Punct punct_close) 1) (one_byte 41 (59 ∷ 32 ∷ s) (Punct punct_close) refl (λ y ys. refl)) tt (passes_from next semicolon)

pub adds_free : (e : List ℕ) (inside : List Kind) → IsFreed e inside → Adds (free_text e) (free_kinds inside)
adds_free e inside i = record {
  first = 32;
  more = codes "free(" ++ e ++ codes "); ";
  is = refl;
  blank = refl;
  tokens = tokens;
  has_kinds = has_kinds;
  accepted = λ at. (tt, (tt, none_refused_both (i.tokens (at + 6)) (end_tokens at n) (i.accepted (at + 6)) (tt, (tt, tt))));
  passes = passes;
}
  where
    n : ℕ
    n = length e

    tokens : ℕ → List Token
    tokens at = token_of (Key key_free) (at + 1) 4 ∷ token_of (Punct punct_open) (at + 5) 1 ∷ (i.tokens (at + 6) ++ end_tokens at n)

    has_kinds : (at : ℕ) → kinds (tokens at) ≡ free_kinds inside
    has_kinds at = ap (λ ks. Key key_free ∷ Punct punct_open ∷ ks) (map-append (λ (t : Token). t.kind) (i.tokens (at + 6)) (end_tokens at n) ∙ ap (λ ks. ks ++ Punct punct_close ∷ Punct punct_semicolon ∷ []) (i.has_kinds (at + 6)))

    passes : (fresh : Bool) (at : ℕ) (s : List ℕ) → Passes fresh at (free_text e ++ s) (length (free_text e)) false (only (tokens at))
    passes fresh at s =
        let e5 : at + 1 + 4 ≡ at + 5 = omega arith in
        let e6 : at + 5 + 1 ≡ at + 6 = omega arith in
        let behind = 41 ∷ 59 ∷ 32 ∷ s in
        let rest = e ++ behind in
        let end = subst (λ ys. Passes false (at + 6 + n) ys 3 false (only (end_tokens at n))) (sym (drop_at e behind n refl)) (free_end at n s) in
        let inner : Passes false (at + 6) rest (n + 3) false (only (i.tokens (at + 6) ++ end_tokens at n)) =
        passes_append false false false (at + 6) n 3 rest (only (i.tokens (at + 6))) (only (end_tokens at n)) (i.passes (at + 6) (59 ∷ 32 ∷ s)) end in
        let open_ = past (element.Lexeme (Punct punct_open) 1) (one_byte 40 rest (Punct punct_open) refl (λ y ys. refl)) tt (passes_from e6 inner) in
        let word = past (element.Lexeme (Key key_free) 4) (free_word (fresh_behind fresh (32 ∷ 102 ∷ 114 ∷ 101 ∷ 101 ∷ 40 ∷ rest) element.Blank) rest) tt (passes_from e5 open_) in
        let whole : Passes fresh at (32 ∷ 102 ∷ 114 ∷ 101 ∷ 101 ∷ 40 ∷ rest) (1 + (4 + (1 + (n + 3)))) false (only (tokens at)) = past element.Blank refl tt word in
        let size : 1 + (4 + (1 + (n + 3))) ≡ length (free_text e) = omega (arith, length-free_text e) in
        subst (λ ys. Passes fresh at ys (length (free_text e)) false (only (tokens at))) (sym (free_joined e s))
        (subst (λ k. Passes fresh at (32 ∷ 102 ∷ 114 ∷ 101 ∷ 101 ∷ 40 ∷ rest) k false (only (tokens at))) size whole)

-- two of them, one behind the other
pub adds_both : (a c : List ℕ) (added more : List Kind) → Adds a added → Adds c more → Adds (a ++ c) (added ++ more)
adds_both a c added more x y = record {
  first = x.first;
  more = x.more ++ c;
  is = ap (λ w. w ++ c) x.is;
  blank = x.blank;
  tokens = tokens;
  has_kinds = λ at. map-append (λ (t : Token). t.kind) (x.tokens at) (y.tokens (at + n)) ∙ ap (λ ks. ks ++ kinds (y.tokens (at + n))) (x.has_kinds at) ∙ ap (λ ks. added ++ ks) (y.has_kinds (at + n));
  accepted = λ at. none_refused_both (x.tokens at) (y.tokens (at + n)) (x.accepted at) (y.accepted (at + n));
  passes = passes;
}
  where
    n : ℕ
    n = length a

    tokens : ℕ → List Token
    tokens at = x.tokens at ++ y.tokens (at + n)

    passes : (fresh : Bool) (at : ℕ) (s : List ℕ) → Passes fresh at (a ++ c ++ s) (length (a ++ c)) false (only (tokens at))
    passes fresh at s =
        let second = subst (λ ys. Passes false (at + n) ys (length c) false (only (y.tokens (at + n)))) (sym (drop_at a (c ++ s) n refl)) (y.passes false (at + n) s) in
        let both = passes_append fresh false false at n (length c) (a ++ (c ++ s)) (only (x.tokens at)) (only (y.tokens (at + n))) (x.passes fresh at (c ++ s)) second in
        subst (λ ys. Passes fresh at ys (length (a ++ c)) false (only (tokens at))) (sym (append_assoc a c s))
        (subst (λ k. Passes fresh at (a ++ (c ++ s)) k false (only (tokens at))) (sym (length-append a c)) both)
