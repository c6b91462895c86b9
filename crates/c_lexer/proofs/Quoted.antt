-- What stands between quotes, found from left to right.
use Rattle.std.proofs.Common.{◌≡◌, ℕ, ◌+◌, ◌≤◌, List, [], ◌∷◌, ◌++◌, length, drop, refl, arith, append_assoc, append-nil, length-drop}
use Rattle.std.proofs.lemmas.List.{drop-drop}
use Rattle.c_lexer.specs.declared.element.Next.{Next}
use Rattle.c_lexer.specs.declared.element.Next.TheVariants.{Plain, Escape, Close, LineEnd, NoByte, NoEscape}
use Rattle.c_lexer.specs.declared.element.Quote.{Quote}
use Rattle.c_lexer.specs.Opening.{Holds, Leaves}
use Rattle.c_lexer.specs.Elements.{next_of, Ends, CharSequence, none, plain, escape}

-- what is spelled from here on is spelled from the start with what came before
abbrev pub Continues : Quote → List ℕ → List ℕ → ℕ → Type 0
Continues quote text front at =
    (values : List ℕ) (n : ℕ) (end : Next) → CharSequence quote (drop at text) values n end → CharSequence quote text (front ++ values) (at + n) end

pub plain_more : (quote : Quote) (text front : List ℕ) (at b : ℕ) → Continues quote text front at → next_of quote (drop at text) ≡ Plain b → Continues quote text (front ++ b ∷ []) (at + 1)
plain_more quote text front at b before next values n end spelled =
    let behind : drop 1 (drop at text) ≡ drop (at + 1) text = drop-drop 1 at text in
    let more = before (b ∷ values) (1 + n) end (plain next (rw behind spelled)) in
    let sum : at + 1 + n ≡ at + (1 + n) = omega arith in
    rw (sum, append_assoc) more

pub escape_more : (quote : Quote) (text front : List ℕ) (at b : ℕ) → Continues quote text front at → next_of quote (drop at text) ≡ Escape b → Continues quote text (front ++ b ∷ []) (at + 2)
escape_more quote text front at b before next values n end spelled =
    let behind : drop 2 (drop at text) ≡ drop (at + 2) text = drop-drop 2 at text in
    let more = before (b ∷ values) (2 + n) end (escape next (rw behind spelled)) in
    let sum : at + 2 + n ≡ at + (2 + n) = omega arith in
    rw (sum, append_assoc) more

pub at_end : (quote : Quote) (text front : List ℕ) (at : ℕ) (end : Next) → Continues quote text front at → next_of quote (drop at text) ≡ end → Ends end → CharSequence quote text front at end
at_end quote text front at end before next ends =
    let more = before [] 0 end (none next ends) in
    let sum : at + 0 ≡ at = omega arith in
    rw (sum, append-nil) at more

pub end_from : (next : Next) → ((b : ℕ) → next ≡ Plain b → ⊥) → ((b : ℕ) → next ≡ Escape b → ⊥) → Ends next
end_from (Plain b) not_plain not_escape = not_plain b refl
end_from (Escape b) not_plain not_escape = not_escape b refl
end_from Close not_plain not_escape = tt
end_from LineEnd not_plain not_escape = tt
end_from NoByte not_plain not_escape = tt
end_from NoEscape not_plain not_escape = tt

pub leaves_from : (text : List ℕ) (at : ℕ) (next : Next) → at ≤ length text → Holds next (drop at text) → Leaves at next text
leaves_from text at (Plain b) within holds = omega (arith, length-drop at text)
leaves_from text at (Escape b) within holds = omega (arith, length-drop at text)
leaves_from text at Close within holds = omega (arith, length-drop at text)
leaves_from text at LineEnd within holds = within
leaves_from text at NoByte within holds = omega (arith, length-drop at text)
leaves_from text at NoEscape within holds = omega (arith, length-drop at text)
