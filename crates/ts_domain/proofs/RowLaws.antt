-- Rows of places by their keys: one more place, and what rows of keys are.
use Rattle.std.proofs.Common.{◌≡◌, ◌≢◌, ℕ, zero, suc, ◌+◌, ◌==◌, Bool, true, false, cond, List, [], ◌∷◌, ◌++◌, length, map, drop, set, slice_get, Option, Some, None, refl, ap, sym, ◌∙◌, arith, append-nil, unwrap_or}
use Rattle.std.proofs.lemmas.Bool.{eqb-true, eqb-false}
use Rattle.std.specs.List.{filter, find, position, position_from, range_with_len}
use Rattle.std.specs.Option.{option_and_then, option_map}
use Rattle.std.proofs.lemmas.Iterator.Adapters.{position_from-zero}
use Rattle.std.proofs.lemmas.List.{length-map}
use Rattle.std.proofs.lemmas.List.Elements.{filter-append, filter_agree}
use Rattle.std.proofs.lemmas.Option.{slice_get-map}
use Rattle.c_tree.specs.Typing.{has}
use Rattle.ts_domain.specs.Rows.{row, is_key, place_if, places_before, places_of}

pub row_grown : (rows : List (List ℕ)) (k : ℕ) → row (rows ++ [] ∷ []) k ≡ row rows k
row_grown [] zero = refl
row_grown [] (suc k) = refl
row_grown (r ∷ rows) zero = refl
row_grown (r ∷ rows) (suc k) = row_grown rows k

row_at : (rows : List (List ℕ)) (key : ℕ) (r ys : List ℕ) → slice_get rows key ≡ Some r → row (set rows key ys) key ≡ ys
row_at [] key r ys h = cc
row_at (x ∷ rows) zero r ys h = refl
row_at (x ∷ rows) (suc key) r ys h = row_at rows key r ys h

row_other : (rows : List (List ℕ)) (key k : ℕ) (ys : List ℕ) → k ≢ key → row (set rows key ys) k ≡ row rows k
row_other [] key k ys h = refl
row_other (x ∷ rows) zero zero ys h = absurd (h refl)
row_other (x ∷ rows) zero (suc k) ys h = refl
row_other (x ∷ rows) (suc key) zero ys h = refl
row_other (x ∷ rows) (suc key) (suc k) ys h = row_other rows key k ys (λ e. h (ap suc e))

row_added_by : (rows : List (List ℕ)) (key place : ℕ) (r : List ℕ) → slice_get rows key ≡ Some r → (k : ℕ) (b : Bool) → (key == k) ≡ b → row (set rows key (r ++ place ∷ [])) k ≡ row rows k ++ cond b (place ∷ []) []
row_added_by rows key place r h k true e =
    let same : key ≡ k = eqb-true key k e in
    ap (λ j. row (set rows key (r ++ place ∷ [])) j) (sym same) ∙ row_at rows key r (r ++ place ∷ []) h
    ∙ ap (λ (o : Option (List ℕ)). unwrap_or o [] ++ place ∷ []) (sym h) ∙ ap (λ j. row rows j ++ place ∷ []) same
row_added_by rows key place r h k false e =
    row_other rows key k (r ++ place ∷ []) (λ same. eqb-false key k e (sym same)) ∙ sym (append-nil (row rows k))

pub row_added : (rows : List (List ℕ)) (key place : ℕ) (r : List ℕ) → slice_get rows key ≡ Some r → (k : ℕ) → row (set rows key (r ++ place ∷ [])) k ≡ row rows k ++ place_if k (Some key) place
row_added rows key place r h k = row_added_by rows key place r h k (key == k) refl

pub range_last : (a n j : ℕ) → a + n ≡ j → range_with_len a (suc n) ≡ range_with_len a n ++ j ∷ []
range_last a zero j e = let same : a ≡ j = omega arith in ap (λ k. k ∷ []) same
range_last a (suc n) j e = ap (λ l. a ∷ l) (range_last (a + 1) n j (omega arith))

-- one place more that passes a test
pub passing_more : {A : Type 0} (test : A → Bool) (xs : List A) (i : ℕ) (x : A) → slice_get xs i ≡ Some x
    → filter (λ j. has test (slice_get xs j)) (range_with_len 0 (i + 1)) ≡ filter (λ j. has test (slice_get xs j)) (range_with_len 0 i) ++ cond (test x) (i ∷ []) []
passing_more {A} test xs i x at =
    let on : i + 1 ≡ suc i = omega arith in
    ap (λ n. filter (λ j. has test (slice_get xs j)) (range_with_len 0 n)) on
    ∙ ap (filter (λ j. has test (slice_get xs j))) (range_last 0 i i (omega arith))
    ∙ filter-append (λ j. has test (slice_get xs j)) (range_with_len 0 i) (i ∷ [])
    ∙ ap (λ (o : Option A). filter (λ j. has test (slice_get xs j)) (range_with_len 0 i) ++ cond (has test o) (i ∷ []) []) at

place_at : (p : ℕ → Bool) (i : ℕ) (b : Bool) → p i ≡ b → filter p (i ∷ []) ≡ cond b (i ∷ []) []
place_at p i true e = rw e refl
place_at p i false e = rw e refl

-- one place more
pub places_more : (keys : List (Option ℕ)) (k i : ℕ) (key : Option ℕ) → slice_get keys i ≡ Some key → places_before keys k (i + 1) ≡ places_before keys k i ++ place_if k key i
places_more keys k i key at =
    let on : i + 1 ≡ suc i = omega arith in
    let p : ℕ → Bool = λ j. has (is_key k) (slice_get keys j) in
    ap (λ n. places_before keys k n) on
    ∙ ap (filter (λ j. has (is_key k) (slice_get keys j))) (range_last 0 i i (omega arith))
    ∙ filter-append (λ j. has (is_key k) (slice_get keys j)) (range_with_len 0 i) (i ∷ [])
    ∙ ap (λ (xs : List ℕ). places_before keys k i ++ xs) (place_at (λ j. has (is_key k) (slice_get keys j)) i (is_key k key) (ap (has (is_key k)) at))

first_step : (i : ℕ) (js : List ℕ) (t : Option ℕ) (b c : Bool) → c ≡ b → slice_get js 0 ≡ t → slice_get (cond c (i ∷ js) js) 0 ≡ cond b (Some i) t
first_step i js t true c e h = rw e refl
first_step i js t false c e h = rw e h

module _ {A : Type 0} where
  -- a test of keys that is a test of what has them
  keyed_at : (key : A → Option ℕ) (test : A → Bool) (k : ℕ) → ((a : A) → is_key k (key a) ≡ test a) → (o : Option A) → has (is_key k) (option_map key o) ≡ has test o
  keyed_at key test k same None = refl
  keyed_at key test k same (Some a) = same a

  pub places_keyed : (key : A → Option ℕ) (test : A → Bool) (k : ℕ) → ((a : A) → is_key k (key a) ≡ test a) → (xs : List A)
      → places_of (map key xs) k ≡ filter (λ i. has test (slice_get xs i)) (range_with_len 0 (length xs))
  places_keyed key test k same xs =
      ap (λ n. places_before (map key xs) k n) (length-map xs key)
      ∙ filter_agree (λ i. has (is_key k) (slice_get (map key xs) i)) (λ i. has test (slice_get xs i))
      (λ i. ap (has (is_key k)) (slice_get-map key xs i) ∙ keyed_at key test k same (slice_get xs i)) (range_with_len 0 (length xs))

  at_head : (ys xs : List A) (x : A) (i : ℕ) → drop i ys ≡ x ∷ xs → slice_get ys i ≡ Some x
  at_head [] xs x zero e = cc
  at_head [] xs x (suc i) e = cc
  at_head (y ∷ ys) xs x zero e = cc
  at_head (y ∷ ys) xs x (suc i) e = at_head ys xs x i e

  at_tail : (ys xs : List A) (x : A) (i : ℕ) → drop i ys ≡ x ∷ xs → drop (i + 1) ys ≡ xs
  at_tail [] xs x zero e = cc
  at_tail [] xs x (suc i) e = cc
  at_tail (y ∷ ys) xs x zero e = cc
  at_tail (y ∷ ys) xs x (suc i) e = let on : suc i + 1 ≡ suc (i + 1) = omega arith in ap (λ n. drop n (y ∷ ys)) on ∙ at_tail ys xs x i e

  first_from : (p : A → Bool) (ys xs : List A) (i : ℕ) → drop i ys ≡ xs → slice_get (filter (λ j. has p (slice_get ys j)) (range_with_len i (length xs))) 0 ≡ position_from p i xs
  first_from p ys [] i e = refl
  first_from p ys (x ∷ xs) i e =
      first_step i (filter (λ j. has p (slice_get ys j)) (range_with_len (i + 1) (length xs))) (position_from p (i + 1) xs) (p x) (has p (slice_get ys i))
      (ap (has p) (at_head ys xs x i e)) (first_from p ys xs (i + 1) (at_tail ys xs x i e))

  -- the first of all places that pass a test
  pub first_is_position : (p : A → Bool) (xs : List A) → slice_get (filter (λ j. has p (slice_get xs j)) (range_with_len 0 (length xs))) 0 ≡ position p xs
  first_is_position p xs = first_from p xs xs 0 refl ∙ sym (position_from-zero p xs)

  found_step : (ys : List A) (i : ℕ) (x : A) (f t : Option A) (o : Option ℕ) (b : Bool) → slice_get ys i ≡ Some x → f ≡ option_and_then (slice_get ys) o → cond b (Some x) f ≡ option_and_then (slice_get ys) (cond b (Some i) o)
  found_step ys i x f t o true at h = sym at
  found_step ys i x f t o false at h = h

  found_from : (p : A → Bool) (ys xs : List A) (i : ℕ) → drop i ys ≡ xs → find p xs ≡ option_and_then (slice_get ys) (position_from p i xs)
  found_from p ys [] i e = refl
  found_from p ys (x ∷ xs) i e = found_step ys i x (find p xs) None (position_from p (i + 1) xs) (p x) (at_head ys xs x i e) (found_from p ys xs (i + 1) (at_tail ys xs x i e))

  -- what is found stands at the first place
  pub found_at : (p : A → Bool) (xs : List A) → find p xs ≡ option_and_then (slice_get xs) (position p xs)
  found_at p xs = found_from p xs xs 0 refl ∙ ap (option_and_then (slice_get xs)) (sym (position_from-zero p xs))
