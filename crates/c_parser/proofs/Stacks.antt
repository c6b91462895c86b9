-- The stack of the recogniser with its top last: what a token makes of it.
use Rattle.std.proofs.Common.{◌≡◌, true, false, List, [], ◌∷◌, ◌++◌, reverse, Some, None, refl, ap, ◌∙◌}
use Rattle.std.proofs.lemmas.List.{reverse-append, reverse-reverse}
use Rattle.c_parser.specs.declared.term.Term.{Term}
use Rattle.c_parser.specs.declared.symbol.Symbol.{Symbol}
use Rattle.c_parser.specs.Recogniser.{takes, may_end, advance}

-- the stack without its top, which is last
popped : (stack rest : List Symbol) (s : Symbol) → stack ≡ rest ++ s ∷ [] → reverse stack ≡ s ∷ reverse rest
popped stack rest s is = ap reverse is ∙ reverse-append rest (s ∷ [])

pub advance_on : (stack rest : List Symbol) (s : Symbol) (x : Term) → stack ≡ rest ++ s ∷ [] → takes s x ≡ None → may_end s ≡ true →
    advance (reverse stack) x ≡ advance (reverse rest) x
unfolding advance
advance_on stack rest s x is none ends = rw (popped stack rest s is, none, ends) refl

pub advance_stops : (stack rest : List Symbol) (s : Symbol) (x : Term) → stack ≡ rest ++ s ∷ [] → takes s x ≡ None → may_end s ≡ false →
    advance (reverse stack) x ≡ None
unfolding advance
advance_stops stack rest s x is none stays = rw (popped stack rest s is, none, stays) refl

pub advance_row : (stack rest new front : List Symbol) (s : Symbol) (x : Term) → stack ≡ rest ++ s ∷ [] → takes s x ≡ Some front → new ≡ rest ++ reverse front →
    advance (reverse stack) x ≡ Some (reverse new)
unfolding advance
advance_row stack rest new front s x is row behind =
    let turned : reverse new ≡ front ++ reverse rest =
    ap reverse behind ∙ reverse-append rest (reverse front) ∙ ap (λ l. l ++ reverse rest) (reverse-reverse front) in
    rw (popped stack rest s is, row, turned) refl

pub advance_empty : (stack : List Symbol) (x : Term) → stack ≡ [] → advance (reverse stack) x ≡ None
unfolding advance
advance_empty stack x is = rw is refl
