-- No punctuator has more bytes than those that begin with its first byte have at most.
use Rattle.std.proofs.Common.{◌≡◌, ℕ, zero, suc, ◌+◌, ◌<◌, ◌≤◌, Bool, true, List, [], ◌∷◌, None, Some, length, take, nat_eq, refl, ap, ◌∙◌, arith, ⊎_elim, length-take-le}
use Rattle.std.specs.Prelude.{nat_le}
use Rattle.std.specs.List.{list_all}
use Rattle.std.specs.Cmp.Lexicographic.{pointwise}
use Rattle.std.proofs.lemmas.Bool.{cond-false, and_parts, leb-true, cases_lt, cases_Bool}
use Rattle.std.proofs.lemmas.Bool.Decides.{Decides-eqb}
use Rattle.std.proofs.lemmas.Slice.Eq.{slice_eq-Decides}
use Rattle.c_lexer.specs.Words.{row_of, punctuators, refused_punctuators, punctuator_kind, punctuator, refused_punctuator, or_else, as_kind, most_bytes}
use Rattle.c_lexer.specs.declared.token.Kind.TheVariants as kind

abbrev all_short : List (List ℕ) → Bool
all_short words = list_all (λ word. nat_le (length word) (most_bytes word)) words

no_place : (word : List ℕ) (number : ℕ) (words : List (List ℕ)) → most_bytes word < length word → all_short words ≡ true → row_of word number words ≡ None
no_place word number [] long short = refl
no_place word number (first ∷ rest) long short =
    let parts = and_parts (nat_le (length first) (most_bytes first)) (all_short rest) short in
    ⊎_elim
    (λ same.
    let is : first ≡ word = (slice_eq-Decides Decides-eqb first word (pointwise nat_eq first word) refl).0 same in
    absurd (omega (arith, leb-true (length first) (most_bytes first) parts.0, ap length is, ap most_bytes is)))
    (λ other. cond-false (pointwise nat_eq first word) (Some number) (row_of word (number + 1) rest) other ∙ no_place word (number + 1) rest long parts.1)
    (cases_Bool (pointwise nat_eq first word))

long_is_none : (word : List ℕ) → most_bytes word < length word → punctuator_kind word ≡ None
long_is_none word long =
    let first : punctuator word ≡ None = no_place word 0 punctuators long refl in
    let second : refused_punctuator word ≡ None = no_place word 33 refused_punctuators long refl in
    ap (λ o. or_else (as_kind kind.Punct o) (as_kind kind.Refused (refused_punctuator word))) first ∙ ap (as_kind kind.Refused) second

most_taken : (text : List ℕ) (m : ℕ) → 0 < m → most_bytes (take m text) ≡ most_bytes text
most_taken text zero some = absurd (omega arith)
most_taken [] (suc m) some = refl
most_taken (b ∷ rest) (suc m) some = refl

-- no front of more bytes
pub none_longer : (text : List ℕ) (m : ℕ) → most_bytes text < m → m ≤ length text → punctuator_kind (take m text) ≡ None
none_longer text m long within = long_is_none (take m text) (omega (arith, length-take-le m text within, most_taken text m (omega arith)))

-- one length less
pub none_from : (text : List ℕ) (n : ℕ) → punctuator_kind (take n text) ≡ None → ((m : ℕ) → n < m → m ≤ length text → punctuator_kind (take m text) ≡ None) → (m : ℕ) → n ≤ m → m ≤ length text → punctuator_kind (take m text) ≡ None
none_from text n here longer m from within =
    ⊎_elim (λ lt. longer m lt within) (λ ge. let same : m ≡ n = omega arith in rw same here) (cases_lt n m)

pub none_of_nothing : punctuator_kind [] ≡ None
none_of_nothing = refl
