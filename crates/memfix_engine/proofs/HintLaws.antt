-- The bits of a choice, from the puts of all variables.
use Rattle.std.proofs.Common.{◌≡◌, ℕ, zero, suc, ◌+◌, ◌<◌, ◌≤◌, Bool, true, false, cond, List, [], ◌∷◌, ◌++◌, length, map, replicate, slice_get, Some, ⊎_elim, refl, ap, sym, ◌∙◌, arith}
use Rattle.std.proofs.lemmas.Bool.{cases_Bool}
use Rattle.std.proofs.lemmas.List.{get_or-replicate, length-map, length-replicate, map-append}
use Rattle.std.proofs.lemmas.Option.{slice_get-get_or, slice_get_cases, slice_get_within}
use Rattle.std.specs.List.{filter, flat_map, range_with_len}
use Rattle.c_tree.specs.Typing.{has}
use Rattle.c_tree.specs.declared.choice.Choice.{Choice}
use Rattle.c_tree.specs.declared.choice.Put.{Put}
use Rattle.ts_domain.specs.Chosen.{has_put, is_chosen}
use Rattle.cover_problem.specs.declared.types.Problem.{Problem}
use Rattle.cover_problem.specs.Covering.{is_usable}
use Rattle.cover_clauses.specs.Clauses.{bits_of, choice_of, is_true_at, put_at, put_if, usable_puts, variable, variables}
use Rattle.cover_clauses.proofs.Ranks.{ranked}

-- what passes one test and then another that it passes too
filter_twice : (p r : ℕ → Bool) (a n : ℕ) → ((k : ℕ) → a ≤ k → k < a + n → p k ≡ true → r k ≡ true) → filter r (filter p (range_with_len a n)) ≡ filter p (range_with_len a n)
filter_twice p r a zero so = refl
filter_twice p r a (suc n) so =
    let rest : filter r (filter p (range_with_len (a + 1) n)) ≡ filter p (range_with_len (a + 1) n) = filter_twice p r (a + 1) n (λ k low high. so k (omega arith) (omega arith)) in
    ⊎_elim
    (λ yes.
    let first : filter p (range_with_len a (suc n)) ≡ a ∷ filter p (range_with_len (a + 1) n) = ap (λ b. cond b (a ∷ filter p (range_with_len (a + 1) n)) (filter p (range_with_len (a + 1) n))) yes in
    let passes : r a ≡ true = so a (omega arith) (omega arith) yes in
    ap (filter r) first
    ∙ ap (λ b. cond b (a ∷ filter r (filter p (range_with_len (a + 1) n))) (filter r (filter p (range_with_len (a + 1) n)))) passes
    ∙ ap (λ xs. a ∷ xs) rest
    ∙ sym first)
    (λ fails.
    let first : filter p (range_with_len a (suc n)) ≡ filter p (range_with_len (a + 1) n) = ap (λ b. cond b (a ∷ filter p (range_with_len (a + 1) n)) (filter p (range_with_len (a + 1) n))) fails in
    ap (filter r) first ∙ rest ∙ sym first)
    (cases_Bool (p a))

-- a put that is there, marked
mark_one : (q : Problem) (f : Put → Bool) (k : ℕ) → k < length q.names.puts → map f (put_at q k) ≡ has f (slice_get q.names.puts k) ∷ []
mark_one q f k inside =
    ⊎_elim
    (λ found. ap (λ o. map f (put_if o)) found.2 ∙ ap (λ o. has f o ∷ []) (sym found.2))
    (λ out. absurd (omega (arith, out.0, inside)))
    (slice_get_cases q.names.puts k).1

-- the puts of places, marked
marked : (q : Problem) (f : Put → Bool) (p : ℕ → Bool) (a n : ℕ) → a + n ≤ length q.names.puts → map f (flat_map (put_at q) (filter p (range_with_len a n))) ≡ map (λ k. has f (slice_get q.names.puts k)) (filter p (range_with_len a n))
marked q f p a zero inside = refl
marked q f p a (suc n) inside =
    let rest : map f (flat_map (put_at q) (filter p (range_with_len (a + 1) n))) ≡ map (λ k. has f (slice_get q.names.puts k)) (filter p (range_with_len (a + 1) n)) = marked q f p (a + 1) n (omega arith) in
    ⊎_elim
    (λ yes.
    let first : filter p (range_with_len a (suc n)) ≡ a ∷ filter p (range_with_len (a + 1) n) = ap (λ b. cond b (a ∷ filter p (range_with_len (a + 1) n)) (filter p (range_with_len (a + 1) n))) yes in
    ap (λ ks. map f (flat_map (put_at q) ks)) first
    ∙ map-append f (put_at q a) (flat_map (put_at q) (filter p (range_with_len (a + 1) n)))
    ∙ ap (λ bs. bs ++ map f (flat_map (put_at q) (filter p (range_with_len (a + 1) n)))) (mark_one q f a (omega arith))
    ∙ ap (λ bs. has f (slice_get q.names.puts a) ∷ bs) rest
    ∙ sym (ap (map (λ k. has f (slice_get q.names.puts k))) first))
    (λ fails.
    let first : filter p (range_with_len a (suc n)) ≡ filter p (range_with_len (a + 1) n) = ap (λ b. cond b (a ∷ filter p (range_with_len (a + 1) n)) (filter p (range_with_len (a + 1) n))) fails in
    ap (λ ks. map f (flat_map (put_at q) ks)) first ∙ rest ∙ sym (ap (map (λ k. has f (slice_get q.names.puts k))) first))
    (cases_Bool (p a))

-- the bits of all variables are true
true_bit : (n i : ℕ) → i < n → slice_get (replicate n true) i ≡ Some true
true_bit n i inside =
    let long : length (replicate n true) ≡ n = length-replicate n true in
    slice_get-get_or (replicate n true) i false (omega arith) ∙ ap Some (get_or-replicate n i true false inside)

-- all bits true stand for the puts of all variables
all_usable : (q : Problem) → filter (is_true_at q (replicate (variables q) true)) (usable_puts q) ≡ usable_puts q
all_usable q =
    filter_twice (is_usable q) (is_true_at q (replicate (variables q) true)) 0 (length q.names.puts)
    (λ k low high usable.
    let inside : k < length q.names.puts = omega arith in
    ap (has (λ (b : Bool). b)) (true_bit (variables q) (variable q k) (slice_get_within (usable_puts q) (variable q k) k (ranked (is_usable q) k (length q.names.puts) inside usable))))

-- marked, these are the bits of a choice
pub bits_are : (q : Problem) (s c : Choice) (all bits : List Bool) → all ≡ replicate (variables q) true → c ≡ choice_of q all → bits ≡ map (has_put s.puts) c.puts → bits ≡ bits_of q s
bits_are q s c all bits set is marks =
    let puts : c.puts ≡ flat_map (put_at q) (usable_puts q) =
    ap (λ (d : Choice). d.puts) is ∙ ap (λ bs. flat_map (put_at q) (filter (is_true_at q bs) (usable_puts q))) set ∙ ap (flat_map (put_at q)) (all_usable q) in
    marks ∙ ap (map (has_put s.puts)) puts ∙ marked q (has_put s.puts) (is_usable q) 0 (length q.names.puts) (omega arith)

-- a bit for each variable
pub bits_counted : (q : Problem) (s : Choice) → length (bits_of q s) ≡ variables q
bits_counted q s = length-map (usable_puts q) (is_chosen q.names s)
