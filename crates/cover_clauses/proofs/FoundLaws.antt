-- Sets that are found number by number or triple by triple.
use Rattle.std.proofs.Common.{◌≡◌, ◌≢◌, ℕ, ◌+◌, ◌<◌, ◌≤◌, ◌&&◌, ◌||◌, Bool, true, false, cond, eqb, ltb, List, length, take, get_or, ⊎_elim, refl, ap, sym, subst, ◌∙◌, arith}
use Rattle.std.proofs.lemmas.Bool.{cases_eq, ne_eqb, eq-eqb, lt-ltb, le-ltb, ltb-true, ltb-false, cases_Bool}
use Rattle.std.proofs.lemmas.List.Folds.{list_any_more}
use Rattle.std.specs.List.{list_any}
use Rattle.mf_set.specs.Numbers.{Numbers, has as has_number, union, with_number}
use Rattle.mf_set.proofs.NumberLaws.{has-union, has-with_number}
use Rattle.ts_domain.specs.declared.triples.Triple.{Triple}
use Rattle.cover_problem.specs.Covering.{is_held}
use Rattle.cover_clauses.specs.Parts.{IsFound}

pub any_more : {A : Type 0} (p : A → Bool) (xs : List A) (i : ℕ) (x : A) → i < length xs → x ≡ get_or xs i x → list_any p (take (i + 1) xs) ≡ (list_any p (take i xs) || p x)
any_more p xs i x inside is = list_any_more p xs i x inside ∙ ap (λ z. list_any p (take i xs) || p z) (sym is)

pub held_more : (size : ℕ) (ts : List Triple) (i : ℕ) (t : Triple) (s u : Numbers) → i < length ts → t ≡ get_or ts i t → u ≡ record s { items = union s.items t.puts.items }
    → IsFound size (is_held (take i ts)) s → IsFound size (is_held (take (i + 1) ts)) u
held_more size ts i t s u inside at is found = record {
  room = ap (λ (z : Numbers). z.room) is ∙ found.room;
  members = λ k.
      ap (λ (z : Numbers). has_number z.items k) is ∙ has-union s.items t.puts.items k ∙ ap (λ b. b || has_number t.puts.items k) (found.members k)
      ∙ sym (any_more (λ (t : Triple). has_number t.puts.items k) ts i t inside at);
}

-- the numbers below a bound that pass

and_false : (b : Bool) → (b && false) ≡ false
and_false true = refl
and_false false = refl

more_same : (i k : ℕ) → i ≢ k → ltb k (i + 1) ≡ ltb k i
more_same i k other =
    ⊎_elim
    (λ yes. let less : k < i = ltb-true k i yes in lt-ltb k (i + 1) (omega arith) ∙ sym yes)
    (λ no. let upto : i ≤ k = ltb-false k i no in le-ltb k (i + 1) (omega arith) ∙ sym no)
    (cases_Bool (ltb k i))

pub found_more : (size : ℕ) (p : ℕ → Bool) (i : ℕ) (s u : Numbers) → u ≡ record s { items = cond (p i) (with_number s.items i) s.items }
    → IsFound size (λ k. ltb k i && p k) s → IsFound size (λ k. ltb k (i + 1) && p k) u
found_more size p i s u is found = record {
  room = ap (λ (z : Numbers). z.room) is ∙ found.room;
  members = λ k. ap (λ (z : Numbers). has_number z.items k) is ∙ ⊎_elim (λ (e : i ≡ k). subst (λ j. has_number (cond (p i) (with_number s.items i) s.items) j ≡ (ltb j (i + 1) && p j)) e here) (λ (e : i ≢ k). there k e) (cases_eq i k);
}
  where
    joined : (k : ℕ) (b : Bool) → has_number (cond b (with_number s.items i) s.items) k ≡ ((b && eqb i k) || has_number s.items k)
    joined k true = has-with_number s.items i k
    joined k false = refl

    at_i : (b : Bool) → has_number s.items i ≡ false → ((b && eqb i i) || has_number s.items i) ≡ b
    at_i true none = ap (λ b. b || has_number s.items i) (eq-eqb i i refl)
    at_i false none = none

    here : has_number (cond (p i) (with_number s.items i) s.items) i ≡ (ltb i (i + 1) && p i)
    here =
        joined i (p i)
        ∙ at_i (p i) (found.members i ∙ ap (λ b. b && p i) (le-ltb i i (omega arith)))
        ∙ ap (λ b. b && p i) (sym (lt-ltb i (i + 1) (omega arith)))

    there : (k : ℕ) → i ≢ k → has_number (cond (p i) (with_number s.items i) s.items) k ≡ (ltb k (i + 1) && p k)
    there k other =
        joined k (p i)
        ∙ ap (λ b. (p i && b) || has_number s.items k) (ne_eqb i k other)
        ∙ ap (λ b. b || has_number s.items k) (and_false (p i))
        ∙ found.members k
        ∙ ap (λ b. b && p k) (sym (more_same i k other))

-- where all that pass are below the bound, these are all
pub found_all : (size bound : ℕ) (p : ℕ → Bool) (s : Numbers) → ((k : ℕ) → p k ≡ true → k < bound) → IsFound size (λ k. ltb k bound && p k) s → IsFound size p s
found_all size bound p s within found = record { room = found.room; members = λ k. found.members k ∙ by k (p k) refl }
  where
    by : (k : ℕ) (b : Bool) → p k ≡ b → (ltb k bound && p k) ≡ p k
    by k true is = ap (λ b. b && p k) (lt-ltb k bound (within k is))
    by k false is = ap (λ b. ltb k bound && b) is ∙ and_false (ltb k bound) ∙ sym is
