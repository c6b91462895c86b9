-- A text stands at the place of its number.
use Rattle.std.proofs.Common.{◌≡◌, ℕ, zero, suc, ◌+◌, ◌==◌, Bool, true, false, cond, List, [], ◌∷◌, map, Option, Some, None, arith, refl, sym, ap, ◌∙◌}
use Rattle.std.specs.Prelude.{slice_get}
use Rattle.std.proofs.lemmas.Bool.{eq-eqb}
use Rattle.std.proofs.lemmas.Bool.Decides.{nat_tests}
use Rattle.mf_tables.specs.Table.{word_of}
use Rattle.mf_tables.specs.declared.table.Row.{Row}
use Rattle.memfix_engine.specs.Notes.{numbered, row_texts}

abbrev row_of : Row → List ℕ × ℕ
row_of r = (r.word.now, r.number)

not_here : (n j : ℕ) → (n == n + suc j) ≡ false
not_here n j = grind (arith, nat_tests)

first_of : {a b : List ℕ × ℕ} {xs ys : List (List ℕ × ℕ)} → a ∷ xs ≡ b ∷ ys → a ≡ b
first_of is = cc is

rest_of : {a b : List ℕ × ℕ} {xs ys : List (List ℕ × ℕ)} → a ∷ xs ≡ b ∷ ys → xs ≡ ys
rest_of is = cc is

pub word_numbered : (rows : List Row) (texts : List (List ℕ)) (n k : ℕ) → map (λ r. (r.word.now, r.number)) rows ≡ numbered n texts → word_of (n + k) rows ≡ slice_get texts k
word_numbered [] [] n k is = refl
word_numbered [] (t ∷ ts) n k is = absurd (cc is)
word_numbered (r ∷ rs) [] n k is = absurd (cc is)
word_numbered (r ∷ rs) (t ∷ ts) n zero is =
    let here : row_of r ≡ (t, n) = first_of is in
    let place : r.number ≡ n + zero = ap (λ q. q.1) here ∙ (let e : n ≡ n + zero = omega arith in e) in
    ap (λ b. cond b (Some r.word.now) (word_of (n + zero) rs)) (eq-eqb r.number (n + zero) place) ∙ ap (λ q. Some q.0) here
word_numbered (r ∷ rs) (t ∷ ts) n (suc j) is =
    let here : row_of r ≡ (t, n) = first_of is in
    let other : (r.number == n + suc j) ≡ false = ap (λ q. q.1 == n + suc j) here ∙ not_here n j in
    let place : n + suc j ≡ n + 1 + j = omega arith in
    ap (λ b. cond b (Some r.word.now) (word_of (n + suc j) rs)) other ∙ ap (λ m. word_of m rs) place ∙ word_numbered rs ts (n + 1) j (rest_of is)

pub row_found : (rows : List Row) (row : ℕ) → map (λ r. (r.word.now, r.number)) rows ≡ numbered 0 row_texts → word_of row rows ≡ slice_get row_texts row
row_found rows row is = let e : row ≡ 0 + row = omega arith in ap (λ n. word_of n rows) e ∙ word_numbered rows row_texts 0 row is
