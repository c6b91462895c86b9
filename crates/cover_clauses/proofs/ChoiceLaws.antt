-- One place more of a choice that bits stand for.
use Rattle.std.proofs.Common.{◌≡◌, ℕ, zero, suc, ◌+◌, ◌≤◌, Bool, true, false, cond, List, [], ◌∷◌, ◌++◌, ◌&&◌, length, slice_get, Some, refl, ap, sym, subst, ◌∙◌, arith}
use Rattle.std.proofs.lemmas.List.{length-append}
use Rattle.std.proofs.lemmas.List.Elements.{filter-append}
use Rattle.std.proofs.lemmas.Grind.{flat_map-append}
use Rattle.std.specs.List.{filter, flat_map, range_with_len}
use Rattle.c_tree.specs.Typing.{has}
use Rattle.c_tree.specs.declared.choice.Put.{Put}
use Rattle.cover_problem.specs.declared.types.Problem.{Problem}
use Rattle.cover_problem.specs.Covering.{is_usable}
use Rattle.cover_clauses.specs.Clauses.{is_true_at, put_at, put_if, variable}
use Rattle.cover_clauses.specs.Parts.{chosen_puts}

-- the puts and the count of variables of the first places
pub record Chosen (q : Problem) (bits : List Bool) (n count : ℕ) (puts : List Put) : Type 0 where
  pub listed : puts ≡ chosen_puts q bits n
  pub counted : count ≡ variable q n
  pub small : count ≤ n

pub range_last : (a n j : ℕ) → a + n ≡ j → range_with_len a (suc n) ≡ range_with_len a n ++ j ∷ []
range_last a zero j e = let same : a ≡ j = omega arith in ap (λ k. k ∷ []) same
range_last a (suc n) j e = ap (λ l. a ∷ l) (range_last (a + 1) n j (omega arith))

-- the first numbers that pass, with one more
pub passing_more : (p : ℕ → Bool) (n : ℕ) → filter p (range_with_len 0 (n + 1)) ≡ filter p (range_with_len 0 n) ++ cond (p n) (n ∷ []) []
passing_more p n =
    let on : n + 1 ≡ suc n = omega arith in
    ap (λ m. filter p (range_with_len 0 m)) on ∙ ap (filter p) (range_last 0 n n (omega arith)) ∙ filter-append p (range_with_len 0 n) (n ∷ [])

pub variable_more : (q : Problem) (n : ℕ) → variable q (n + 1) ≡ variable q n + cond (is_usable q n) 1 0
variable_more q n =
    ap (λ (xs : List ℕ). length xs) (passing_more (is_usable q) n) ∙ length-append (filter (is_usable q) (range_with_len 0 n)) (cond (is_usable q n) (n ∷ []) [])
    ∙ ap (λ m. variable q n + m) (one (is_usable q n))
  where
    one : (b : Bool) → length (cond b (n ∷ []) []) ≡ cond b 1 0
    one true = refl
    one false = refl

small_more : (b : Bool) (m n : ℕ) → m ≤ n → m + cond b 1 0 ≤ n + 1
small_more true m n l = omega (arith, l)
small_more false m n l = omega (arith, l)

pub chosen_none : (q : Problem) (bits : List Bool) → Chosen q bits 0 0 []
chosen_none q bits = record { listed = refl; counted = refl; small = omega arith }

pub chosen_more : (q : Problem) (bits : List Bool) (n count : ℕ) (puts : List Put) (p : Put) → slice_get q.names.puts n ≡ Some p → Chosen q bits n count puts
    → Chosen q bits (n + 1) (count + cond (is_usable q n) 1 0) (puts ++ cond (is_usable q n && has (λ b. b) (slice_get bits count)) (p ∷ []) [])
chosen_more q bits n count puts p at so = record {
  listed =
      ap (λ xs. xs ++ cond (is_usable q n && has (λ b. b) (slice_get bits count)) (p ∷ []) []) so.listed
      ∙ ap (λ m. chosen_puts q bits n ++ cond (is_usable q n && has (λ b. b) (slice_get bits m)) (p ∷ []) []) so.counted
      ∙ ap (λ xs. chosen_puts q bits n ++ xs) (sym (last (is_usable q n) (is_true_at q bits n) refl))
      ∙ sym
      (ap (λ xs. flat_map (put_at q) (filter (is_true_at q bits) xs)) (passing_more (is_usable q) n)
      ∙ ap (flat_map (put_at q)) (filter-append (is_true_at q bits) (filter (is_usable q) (range_with_len 0 n)) (cond (is_usable q n) (n ∷ []) []))
      ∙ flat_map-append (put_at q) (filter (is_true_at q bits) (filter (is_usable q) (range_with_len 0 n))) (filter (is_true_at q bits) (cond (is_usable q n) (n ∷ []) [])));
  counted = ap (λ m. m + cond (is_usable q n) 1 0) so.counted ∙ sym (variable_more q n);
  small = small_more (is_usable q n) count n so.small;
}
  where
    put_here : put_if (slice_get q.names.puts n) ++ [] ≡ p ∷ []
    put_here = ap (λ o. put_if o ++ []) at

    last : (u t : Bool) → is_true_at q bits n ≡ t → flat_map (put_at q) (filter (is_true_at q bits) (cond u (n ∷ []) [])) ≡ cond (u && t) (p ∷ []) []
    last true true e = ap (λ b. flat_map (put_at q) (cond b (n ∷ []) [])) e ∙ put_here
    last true false e = ap (λ b. flat_map (put_at q) (cond b (n ∷ []) [])) e
    last false t e = refl

pub chosen_next : (q : Problem) (bits : List Bool) (n count count' : ℕ) (puts puts' : List Put) (p : Put) (u : Bool) → slice_get q.names.puts n ≡ Some p → u ≡ is_usable q n
    → puts' ≡ puts ++ cond (u && has (λ b. b) (slice_get bits count)) (p ∷ []) [] → count' ≡ count + cond u 1 0 → Chosen q bits n count puts → Chosen q bits (n + 1) count' puts'
chosen_next q bits n count count' puts puts' p u at usable listed counted so =
    let more = chosen_more q bits n count puts p at so in
    let grows : count' ≡ count + cond (is_usable q n) 1 0 = counted ∙ ap (λ b. count + cond b 1 0) usable in
    record {
      listed = listed ∙ ap (λ b. puts ++ cond (b && has (λ b. b) (slice_get bits count)) (p ∷ []) []) usable ∙ more.listed;
      counted = grows ∙ more.counted;
      small = subst (λ m. m ≤ n + 1) (sym grows) more.small;
    }
