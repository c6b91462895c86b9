-- What the calls on words leave, as sets.
use Rattle.std.proofs.Common.{◌≡◌, ◌↔◌, ℕ, Some, None, ◌+◌, ◌*◌, ◌/◌, ◌^◌, ◌<◌, ◌≤◌, Bool, true, false, not, ◌&&◌, ◌||◌, Option, ⊎_elim, List, [], ◌∷◌, ◌++◌, length, get_or, take, drop, replicate, eqb, leb, refl, sym, ap, ◌∙◌, subst, arith}
use Rattle.std.proofs.lemmas.Bool.{false≢true, eqb-true, or_cases, and_parts}
use Rattle.std.proofs.lemmas.List.{take_at, get_or-replicate, length-replicate}
use Rattle.std.specs.List.{filter, find}
use Rattle.std.specs.Prelude.{IfSome}
use Rattle.mf_set.specs.Numbers.{Numbers, has, IsAscendingFrom, IsBelow, IsSet, with_number, without_number, union, meet, is_subset, first_common}
use Rattle.mf_set.specs.Words.{has_bit, numbers_of, AreWords, IsLeastOrNone}
use Rattle.mf_set.proofs.NumberLaws.{has-with_number, has-without_number, has-union, has-meet, IsAscendingFrom-with_number, IsAscendingFrom-filter, IsAscendingFrom-union, find_none, find_least, is_subset-members, members-is_subset, find_from-at_least, find_has, filter_from-next}
use Rattle.std.specs.Cmp.{both_ways}
use Rattle.mf_set.proofs.WordLaws.{has-numbers_of, IsAscendingFrom-numbers_of, numbers_of_is, has_no_bit, zero_from_no_bit}
use Rattle.mf_set.proofs.CountLaws.{length_within}

abbrev pub set_of : ℕ → List ℕ → Numbers
set_of room ws = record { items = numbers_of ws; room = room }

-- what a slice of a Vec writes back, where it keeps its length
pub written_back : (n : ℕ) (us ws : List ℕ) → length ws ≡ n → take n (ws ++ drop (length ws) us) ≡ ws
written_back n us ws e = take_at ws (drop (length ws) us) n e

-- ---- numbers
pub numbers_of-insert : (us ws : List ℕ) (k : ℕ) → ((n : ℕ) → has_bit ws n ≡ (eqb k n || has_bit us n)) → numbers_of ws ≡ with_number (numbers_of us) k
numbers_of-insert us ws k h =
    numbers_of_is ws (with_number (numbers_of us) k) (IsAscendingFrom-with_number 0 (numbers_of us) k (omega arith) (IsAscendingFrom-numbers_of us))
    (λ n. h n ∙ ap (λ b. eqb k n || b) (sym (has-numbers_of us n)) ∙ sym (has-with_number (numbers_of us) k n))

pub numbers_of-remove : (us ws : List ℕ) (k : ℕ) → ((n : ℕ) → has_bit ws n ≡ (has_bit us n && not (eqb n k))) → numbers_of ws ≡ without_number (numbers_of us) k
numbers_of-remove us ws k h =
    numbers_of_is ws (without_number (numbers_of us) k) (IsAscendingFrom-filter (λ n. not (eqb n k)) 0 (numbers_of us) (IsAscendingFrom-numbers_of us))
    (λ n. h n ∙ ap (λ b. b && not (eqb n k)) (sym (has-numbers_of us n)) ∙ sym (has-without_number (numbers_of us) k n))

pub numbers_of-union : (us vs ws : List ℕ) → ((n : ℕ) → has_bit ws n ≡ (has_bit us n || has_bit vs n)) → numbers_of ws ≡ union (numbers_of us) (numbers_of vs)
numbers_of-union us vs ws h =
    numbers_of_is ws (union (numbers_of us) (numbers_of vs)) (IsAscendingFrom-union (numbers_of us) (numbers_of vs) (IsAscendingFrom-numbers_of us))
    (λ n. h n ∙ ap (λ b. b || has_bit vs n) (sym (has-numbers_of us n)) ∙ ap (λ b. has (numbers_of us) n || b) (sym (has-numbers_of vs n)) ∙ sym (has-union (numbers_of us) (numbers_of vs) n))

pub numbers_of-meet : (us vs ws : List ℕ) → ((n : ℕ) → has_bit ws n ≡ (has_bit us n && has_bit vs n)) → numbers_of ws ≡ meet (numbers_of us) (numbers_of vs)
numbers_of-meet us vs ws h =
    numbers_of_is ws (meet (numbers_of us) (numbers_of vs)) (IsAscendingFrom-filter (has (numbers_of vs)) 0 (numbers_of us) (IsAscendingFrom-numbers_of us))
    (λ n. h n ∙ ap (λ b. b && has_bit vs n) (sym (has-numbers_of us n)) ∙ ap (λ b. has (numbers_of us) n && b) (sym (has-numbers_of vs n)) ∙ sym (has-meet (numbers_of us) (numbers_of vs) n))

-- ---- the invariant

-- ---- the empty set
no_bit : (count n : ℕ) → has_bit (replicate count 0) n ≡ false
no_bit count n = has_no_bit (replicate count 0) (λ k l. get_or-replicate count k 0 0 (omega (arith, length-replicate {A = ℕ} count 0))) n

pub AreWords-none : (room count : ℕ) → room < 2 ^ 64 → count ≡ (room + 63) / 64 → AreWords room (replicate count 0)
AreWords-none room count l e = record {
  fits = l;
  count = length-replicate count 0 ∙ e;
  below = λ n is. absurd (false≢true (sym (no_bit count n) ∙ is));
}

pub numbers_of-none : (count : ℕ) → numbers_of (replicate count 0) ≡ []
numbers_of-none count = numbers_of_is (replicate count 0) [] tt (no_bit count)

-- ---- answers
pub no_numbers : (ws : List ℕ) → ((k : ℕ) → k < length ws → get_or ws k 0 ≡ 0) → numbers_of ws ≡ []
no_numbers ws h = numbers_of_is ws [] tt (has_no_bit ws h)

pub zero_from_no_numbers : (ws : List ℕ) (k : ℕ) → get_or ws k 0 < 2 ^ 64 → numbers_of ws ≡ [] → get_or ws k 0 ≡ 0
zero_from_no_numbers ws k fits none = zero_from_no_bit ws k fits (λ n. sym (has-numbers_of ws n) ∙ ap (λ xs. has xs n) none)

pub numbers_of-below : (room : ℕ) (ws : List ℕ) → AreWords room ws → IsBelow room (numbers_of ws)
numbers_of-below room ws h n is = h.below n (sym (has-numbers_of ws n) ∙ is)

pub length_below : (room : ℕ) (ws : List ℕ) → AreWords room ws → length (numbers_of ws) ≤ room
length_below room ws h =
    let most : 0 + length (numbers_of ws) ≤ room = length_within 0 room (numbers_of ws) (IsAscendingFrom-numbers_of ws) (numbers_of-below room ws h) (omega arith) in omega arith

and_rest : (a b : Bool) → (a && b) ≡ false → a ≡ true → b ≡ false
and_rest true b e t = e
and_rest false b e t = absurd (false≢true t)

least_is : (test p : ℕ → Bool) (ws : List ℕ) (r : Option ℕ) → ((n : ℕ) → test n ≡ (has_bit ws n && p n)) → IsLeastOrNone test r → r ≡ find p (numbers_of ws)
least_is test p ws None e h =
    sym (find_none p (numbers_of ws) (λ n is. and_rest (has_bit ws n) (p n) (sym (e n) ∙ h n) (sym (has-numbers_of ws n) ∙ is)))
least_is test p ws (Some k) e h =
    let both = and_parts (has_bit ws k) (p k) (sym (e k) ∙ h.passes) in
    sym (find_least p 0 (numbers_of ws) k (IsAscendingFrom-numbers_of ws) (has-numbers_of ws k ∙ both.0) both.1
    (λ n l is. and_rest (has_bit ws n) (p n) (sym (e n) ∙ h.least n l) (sym (has-numbers_of ws n) ∙ is)))

pub first_common_is : (us vs : List ℕ) (r : Option ℕ) → IsLeastOrNone (λ n. has_bit us n && has_bit vs n) r → r ≡ first_common (numbers_of us) (numbers_of vs)
first_common_is us vs r h =
    least_is (λ n. has_bit us n && has_bit vs n) (has (numbers_of vs)) us r (λ n. ap (λ b. has_bit us n && b) (sym (has-numbers_of vs n))) h

pub next_from_is : (ws : List ℕ) (from : ℕ) (r : Option ℕ) → IsLeastOrNone (λ n. leb from n && has_bit ws n) r → r ≡ find (leb from) (numbers_of ws)
next_from_is ws from r h = least_is (λ n. leb from n && has_bit ws n) (leb from) ws r (λ n. and_turned (leb from n) (has_bit ws n)) h
  where
    and_turned : (a b : Bool) → (a && b) ≡ (b && a)
    and_turned true true = refl
    and_turned true false = refl
    and_turned false true = refl
    and_turned false false = refl

pub is_subset_is : (us vs : List ℕ) (r : Bool) → ((r ≡ true) ↔ ((n : ℕ) → has_bit us n ≡ true → has_bit vs n ≡ true)) → r ≡ is_subset (numbers_of us) (numbers_of vs)
is_subset_is us vs r h =
    both_ways r (is_subset (numbers_of us) (numbers_of vs))
    (λ is. members-is_subset (numbers_of us) (numbers_of vs) (λ n m. has-numbers_of vs n ∙ h.0 is n (sym (has-numbers_of us n) ∙ m)))
    (λ is. h.1 (λ n m. sym (has-numbers_of vs n) ∙ is_subset-members (numbers_of us) (numbers_of vs) is n (has-numbers_of us n ∙ m)))

-- the bits of a set's words are numbers of 64 bits
pub bits_fit : (room : ℕ) (ws : List ℕ) → AreWords room ws → 64 * length ws ≤ 2 ^ 64
bits_fit room ws h = omega (arith, h.fits, h.count)

pub next_within : (room : ℕ) (ws : List ℕ) (s : Numbers) (from : ℕ) (r : Option ℕ) → AreWords room ws → set_of room ws ≡ s → r ≡ find (leb from) s.items → IfSome r (λ n. (from ≤ n) × (n < s.room) × (n + 1 < 2 ^ 64))
next_within room ws s from None h view e = tt
next_within room ws s from (Some n) h view e =
    let inside : n < s.room = subst (λ (t : Numbers). IsBelow t.room t.items) view (numbers_of-below room ws h) n (find_has (leb from) s.items n (sym e)) in
    (find_from-at_least from s.items n (sym e), inside, omega (arith, h.fits, ap (λ (t : Numbers). t.room) view))

pub next_rest : (room : ℕ) (ws : List ℕ) (s : Numbers) (from : ℕ) (r : Option ℕ) → set_of room ws ≡ s → r ≡ find (leb from) s.items → IfSome r (λ n. filter (leb from) s.items ≡ n ∷ filter (leb (n + 1)) s.items)
next_rest room ws s from None view e = tt
next_rest room ws s from (Some n) view e =
    filter_from-next 0 s.items from n (subst (λ (t : Numbers). IsAscendingFrom 0 t.items) view (IsAscendingFrom-numbers_of ws)) (sym e)

-- ---- whether a call changed a set
pub changed_is : (changed : Bool) (room : ℕ) (us ws new : List ℕ) (s : Numbers) → set_of room us ≡ s → new ≡ ws
    → ((changed ≡ false) ↔ (numbers_of ws ≡ numbers_of us)) → (changed ≡ false) ↔ (set_of room new ≡ s)
changed_is changed room us ws new s view written h = (
  λ kept. ap (set_of room) written ∙ ap (λ xs. let t : Numbers = record { items = xs; room = room } in t) (h.0 kept) ∙ view,
  λ e. h.1 (ap (λ (t : Numbers). t.items) (ap (set_of room) (sym written) ∙ e ∙ sym view)),
)

-- ---- what a set is
pub is_set : (room : ℕ) (ws : List ℕ) (s : Numbers) → AreWords room ws → set_of room ws ≡ s → IsSet s
is_set room ws s h view = subst IsSet view (record { ascending = IsAscendingFrom-numbers_of ws; below = numbers_of-below room ws h })

pub IsSet-insert : (s : Numbers) (k : ℕ) → IsSet s → k < s.room → IsSet (record s { items = with_number s.items k })
IsSet-insert s k h l = record {
  ascending = IsAscendingFrom-with_number 0 s.items k (omega arith) h.ascending;
  below = λ n is.
      ⊎_elim
      (λ same. let at : k ≡ n = eqb-true k n same in omega arith)
      (λ old. h.below n old)
      (or_cases (eqb k n) (has s.items n) (sym (has-with_number s.items k n) ∙ is));
}

pub IsSet-remove : (s : Numbers) (k : ℕ) → IsSet s → IsSet (record s { items = without_number s.items k })
IsSet-remove s k h = record {
  ascending = IsAscendingFrom-filter (λ n. not (eqb n k)) 0 s.items h.ascending;
  below = λ n is. h.below n (and_parts (has s.items n) (not (eqb n k)) (sym (has-without_number s.items k n) ∙ is)).0;
}

pub IsSet-union : (s t : Numbers) → IsSet s → IsSet t → s.room ≡ t.room → IsSet (record s { items = union s.items t.items })
IsSet-union s t h g same = record {
  ascending = IsAscendingFrom-union s.items t.items h.ascending;
  below = λ n is.
      ⊎_elim
      (λ old. h.below n old)
      (λ new. let inside : n < t.room = g.below n new in omega arith)
      (or_cases (has s.items n) (has t.items n) (sym (has-union s.items t.items n) ∙ is));
}

pub IsSet-meet : (s t : Numbers) → IsSet s → IsSet (record s { items = meet s.items t.items })
IsSet-meet s t h = record {
  ascending = IsAscendingFrom-filter (has t.items) 0 s.items h.ascending;
  below = λ n is. h.below n (and_parts (has s.items n) (has t.items n) (sym (has-meet s.items t.items n) ∙ is)).0;
}

pub numbers_of-cleared : (room : ℕ) (us ws : List ℕ) (s : Numbers) → AreWords room us → set_of room us ≡ s → ws ≡ replicate (length us) 0 → set_of room ws ≡ record s { items = [] }
numbers_of-cleared room us ws s h view e =
    ap (λ xs. let t : Numbers = record { items = xs; room = room } in t) (ap numbers_of e ∙ numbers_of-none (length us))
    ∙ ap (λ (t : Numbers). let r : Numbers = record t { items = [] } in r) view
