-- What is left while an expression is printed, and what is written, one more at a time.
use Rattle.std.proofs.Common.{◌≡◌, ℕ, ◌+◌, ◌-◌, codes, Result, Ok, Err, OnOk, OnErr, List, [], ◌∷◌, ◌++◌, length, ◌<◌, refl, ap, sym, subst, ◌∙◌, arith, append_assoc, append-nil}
use Rattle.std.proofs.lemmas.List.{map-append, length-map}
use Rattle.c_lexer.specs.declared.token.Kind.{Kind}
use Rattle.c_lexer.specs.declared.token.Token.{Token}
use Rattle.c_parser.specs.declared.work.Work.{Work}
use Rattle.c_parser.specs.Printed.{mark, printed_stars, numbered}
use Rattle.c_parser.specs.PrintWork.{kinds, printed_work, work_weight, printed_works, weight, PutsOff}
use Rattle.c_parser.proofs.Turns.{turn_left}

-- the last one comes next

pub printed_last : (works : List Work) (w : Work) → printed_works (works ++ w ∷ []) ≡ printed_work w ++ printed_works works
printed_last [] w = sym (append-nil (printed_work w))
printed_last (v ∷ works) w = ap (λ (ks : List Kind). ks ++ printed_work v) (printed_last works w) ∙ append_assoc (printed_work w) (printed_works works) (printed_work v)

pub weight_last : (works : List Work) (w : Work) → weight (works ++ w ∷ []) ≡ work_weight w + weight works
weight_last [] w = refl
weight_last (v ∷ works) w = let e = weight_last works w in omega (arith, e)

-- the first token of what is printed is written, or all of it is put off

pub written_first : (ls : List Kind) (k : Kind) (before after : List Kind) (rest : List Work) → ls ≡ k ∷ [] → after ≡ before ++ k ∷ [] → PutsOff ls before after rest rest
written_first ls k before after rest is writes =
    let one : length ls ≡ 1 = ap length is in
    record {
      printed =
          ap (λ (ks : List Kind). ks ++ printed_works rest) writes ∙ append_assoc before (k ∷ []) (printed_works rest)
          ∙ ap (λ (ks : List Kind). before ++ (ks ++ printed_works rest)) (sym is);
      lighter = omega (arith, one);
    }

pub all_put_off : (ls ks before : List Kind) (rest rest_after : List Work) → ls ≡ ks → PutsOff ks [] [] rest rest_after → PutsOff ls before before rest rest_after
all_put_off ls ks before rest rest_after is p =
    let same : length ls ≡ length ks = ap length is in
    let less = p.lighter in
    record {
      printed = ap (λ (xs : List Kind). before ++ xs) (p.printed ∙ ap (λ (xs : List Kind). xs ++ printed_works rest) (sym is));
      lighter = omega (arith, same, less);
    }

pub put_off_as : (ls ks before after : List Kind) (rest rest_after : List Work) → ls ≡ ks → PutsOff ks before after rest rest_after → PutsOff ls before after rest rest_after
put_off_as ls ks before after rest rest_after is p = subst (λ (xs : List Kind). PutsOff xs before after rest rest_after) (sym is) p

-- one star of those that are left
pub one_star : (all so_far : ℕ) → so_far < all → printed_stars (all - so_far) ≡ mark (codes "*") ∷ printed_stars (all - (so_far + 1))
one_star all so_far is = ap printed_stars (turn_left all so_far is)

-- one token more

abbrev token_at : Kind → ℕ → Token
token_at k n = record { kind = k; start = n; end = n + 1 }

numbered_last : (at : ℕ) (ks : List Kind) (k : Kind) → numbered at (ks ++ k ∷ []) ≡ numbered at ks ++ token_at k (at + length ks) ∷ []
numbered_last at [] k = let none : at ≡ at + 0 = omega arith in ap (λ (n : ℕ). token_at k n ∷ []) none
numbered_last at (l ∷ ks) k =
    let more : (at + 1) + length ks ≡ at + length (l ∷ ks) = omega arith in
    ap (λ (ts : List Token). token_at l at ∷ ts) (numbered_last (at + 1) ks k ∙ ap (λ (n : ℕ). numbered (at + 1) ks ++ token_at k n ∷ []) more)

one_more : (ts : List Token) (k : Kind) → ts ≡ numbered 0 (kinds ts) → ts ++ token_at k (length ts) ∷ [] ≡ numbered 0 (kinds (ts ++ token_at k (length ts) ∷ []))
one_more ts k is =
    let count : length ts ≡ 0 + length (kinds ts) = omega (arith, length-map ts (λ (t : Token). t.kind)) in
    ap (λ (us : List Token). us ++ token_at k (length ts) ∷ []) is
    ∙ ap (λ (n : ℕ). numbered 0 (kinds ts) ++ token_at k n ∷ []) count
    ∙ sym (numbered_last 0 (kinds ts) k)
    ∙ ap (numbered 0) (sym (map-append (λ (t : Token). t.kind) ts (token_at k (length ts) ∷ [])))

-- where the list grows by a token whose number is its place, and is unchanged where it doesn't grow, each token stands at its number
pub one_pushed : {T E : Type 0} (r : Result T E) (ts us : List Token) (k : Kind) (n : ℕ) → ts ≡ numbered 0 (kinds ts) → n ≡ length ts
    → OnOk r (us ≡ ts ++ token_at k n ∷ []) → OnErr r (us ≡ ts) → us ≡ numbered 0 (kinds us)
one_pushed (Ok v) ts us k n is count grows same =
    subst (λ (vs : List Token). vs ≡ numbered 0 (kinds vs)) (sym (grows ∙ ap (λ (m : ℕ). ts ++ token_at k m ∷ []) count)) (one_more ts k is)
one_pushed (Err e) ts us k n is count grows same = subst (λ (vs : List Token). vs ≡ numbered 0 (kinds vs)) (sym same) is
