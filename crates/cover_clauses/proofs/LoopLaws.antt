-- One turn more of the loops that list clauses.
use Rattle.std.proofs.Common.{◌≡◌, ℕ, suc, ◌+◌, ◌-◌, ◌<◌, ◌≤◌, Bool, true, false, cond, List, [], ◌∷◌, ◌++◌, length, map, drop, get_or, None, refl, ap, sym, subst, ◌∙◌, arith}
use Rattle.std.proofs.Math.Seq.{drop-cons}
use Rattle.std.proofs.lemmas.List.{append_assoc, append-nil, map-append, drop_all}
use Rattle.std.specs.List.{range_with_len}
use Rattle.sat_log.specs.declared.problem.Lit.{Lit}
use Rattle.mf_set.specs.Numbers.{Numbers, next_from, numbers_from}
use Rattle.cover_problem.specs.declared.types.Problem.{Problem}
use Rattle.cover_problem.specs.Covering.{is_usable}
use Rattle.cover_problem.proofs.CountLaws.{from_zero, none_left}
use Rattle.cover_clauses.specs.declared.listing.Variables.{Variables}
use Rattle.cover_clauses.specs.Clauses.{variable}
use Rattle.cover_clauses.specs.Listing.{not_both_by, rows_by, total}
use Rattle.cover_clauses.proofs.ChoiceLaws.{range_last, variable_more}

-- variables

pub record Counted (q : Problem) (place : ℕ) (list : List ℕ) (count : ℕ) : Type 0 where
  pub before : list ≡ map (variable q) (range_with_len 0 place)
  pub counted : count ≡ variable q place
  pub small : count ≤ place

pub counted_none : (q : Problem) → Counted q 0 [] 0
counted_none q = record { before = refl; counted = refl; small = omega arith }

pub counted_more : (q : Problem) (n : ℕ) (before before' : List ℕ) (count count' : ℕ) (u : Bool) → Counted q n before count → u ≡ is_usable q n → before' ≡ before ++ count ∷ [] → count' ≡ count + cond u 1 0 → Counted q (n + 1) before' count'
counted_more q n before before' count count' u so usable listed next =
    let on : n + 1 ≡ suc n = omega arith in
    record {
      before =
          listed ∙ ap (λ xs. xs ++ count ∷ []) so.before ∙ ap (λ m. map (variable q) (range_with_len 0 n) ++ m ∷ []) so.counted
          ∙ sym (ap (λ m. map (variable q) (range_with_len 0 m)) on ∙ ap (map (variable q)) (range_last 0 n n (omega arith)) ∙ map-append (variable q) (range_with_len 0 n) (n ∷ []));
      counted = next ∙ ap (λ b. count + cond b 1 0) usable ∙ ap (λ m. m + cond (is_usable q n) 1 0) so.counted ∙ sym (variable_more q n);
      small = subst (λ m. m ≤ n + 1) (sym next) (within u);
    }
  where
    within : (b : Bool) → count + cond b 1 0 ≤ n + 1
    within true = omega (arith, so.small)
    within false = omega (arith, so.small)

-- the numbers of a set in turn

module _ {X : Type 0} (f : ℕ → X) (xs : List ℕ) where
  pub turns_start : (done : List X) → done ++ map f (numbers_from xs 0) ≡ done ++ map f xs
  turns_start done = ap (λ ys. done ++ map f ys) (from_zero xs)

  pub turns_more : (from n : ℕ) (done done' all : List X) → numbers_from xs from ≡ n ∷ numbers_from xs (n + 1) → done' ≡ done ++ f n ∷ [] → done ++ map f (numbers_from xs from) ≡ all
      → done' ++ map f (numbers_from xs (n + 1)) ≡ all
  turns_more from n done done' all next pushed so =
      ap (λ ds. ds ++ map f (numbers_from xs (n + 1))) pushed ∙ append_assoc done (f n ∷ []) (map f (numbers_from xs (n + 1)))
      ∙ ap (λ ys. done ++ map f ys) (sym next) ∙ so

  pub turns_end : (from : ℕ) (done all : List X) → next_from xs from ≡ None → done ++ map f (numbers_from xs from) ≡ all → done ≡ all
  turns_end from done all none so = sym (append-nil done) ∙ ap (λ ys. done ++ map f ys) (sym (none_left xs from none)) ∙ so

-- rows in turn

dropped : (rows : List Numbers) (i : ℕ) (r : Numbers) → i < length rows → r ≡ get_or rows i r → drop i rows ≡ r ∷ drop (i + 1) rows
dropped rows i r inside is =
    let on : suc i ≡ i + 1 = omega arith in
    drop-cons rows i r inside ∙ ap (λ x. x ∷ drop (suc i) rows) (sym is) ∙ ap (λ m. r ∷ drop m rows) on

pub rows_more : (v : Variables) (rows : List Numbers) (i : ℕ) (r : Numbers) (done done' all : List (List Lit)) → i < length rows → r ≡ get_or rows i r
    → done' ≡ done ++ map (not_both_by v i) r.items → done ++ rows_by v i (drop i rows) ≡ all → done' ++ rows_by v (i + 1) (drop (i + 1) rows) ≡ all
rows_more v rows i r done done' all inside is pushed so =
    ap (λ ds. ds ++ rows_by v (i + 1) (drop (i + 1) rows)) pushed
    ∙ append_assoc done (map (not_both_by v i) r.items) (rows_by v (i + 1) (drop (i + 1) rows))
    ∙ ap (λ rs. done ++ rows_by v i rs) (sym (dropped rows i r inside is)) ∙ so

pub rows_end : (v : Variables) (rows : List Numbers) (i : ℕ) (done all : List (List Lit)) → length rows ≤ i → done ++ rows_by v i (drop i rows) ≡ all → done ≡ all
rows_end v rows i done all out so = sym (append-nil done) ∙ ap (λ rs. done ++ rows_by v i rs) (sym (drop_all i rows out)) ∙ so

-- how many may still come

pub record Left (limit exits left : ℕ) (rows : List Numbers) (i : ℕ) : Type 0 where
  pub sum : exits + total rows + left ≡ limit + total (drop i rows)

pub left_more : (limit exits left left' count : ℕ) (rows : List Numbers) (i : ℕ) (r : Numbers) → i < length rows → r ≡ get_or rows i r → count ≡ length r.items → count ≤ left → left' ≡ left - count
    → Left limit exits left rows i → Left limit exits left' rows (i + 1)
left_more limit exits left left' count rows i r inside is counted fits next so =
    let here : total (drop i rows) ≡ length r.items + total (drop (i + 1) rows) = ap total (dropped rows i r inside is) in
    let sum : exits + total rows + left ≡ limit + total (drop i rows) = so.sum in
    record { sum = omega arith }

pub left_over : (limit exits left count : ℕ) (rows : List Numbers) (i : ℕ) (r : Numbers) → i < length rows → r ≡ get_or rows i r → count ≡ length r.items → left < count
    → Left limit exits left rows i → limit < exits + total rows
left_over limit exits left count rows i r inside is counted over so =
    let here : total (drop i rows) ≡ length r.items + total (drop (i + 1) rows) = ap total (dropped rows i r inside is) in
    let sum : exits + total rows + left ≡ limit + total (drop i rows) = so.sum in
    omega arith

pub left_end : (limit exits left : ℕ) (rows : List Numbers) (i : ℕ) → length rows ≤ i → Left limit exits left rows i → limit < exits + total rows → ⊥
left_end limit exits left rows i out so more =
    let none : total (drop i rows) ≡ 0 = ap total (drop_all i rows out) in
    let sum : exits + total rows + left ≡ limit + total (drop i rows) = so.sum in
    omega arith
