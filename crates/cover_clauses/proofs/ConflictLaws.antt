-- Rows to which numbers are added, and that what results are the conflicts.
use Rattle.std.proofs.Common.{◌≡◌, ◌≢◌, ⊎_elim, ℕ, zero, suc, ◌+◌, ◌<◌, ◌≤◌, ◌==◌, ◌&&◌, ◌||◌, not, Bool, true, false, eqb, leb, ltb, List, [], ◌∷◌, length, set, take, get_or, slice_get, Option, Some, None, refl, ap, sym, subst, ◌∙◌, arith}
use Rattle.std.proofs.Math.Bool.{or_assoc, or_comm}
use Rattle.std.proofs.lemmas.Bool.{and_parts, and_from, or_cases, or_left, or_right, cases_Bool, cases_eq, eq-eqb, eqb-true, ne_eqb, lt-ltb, ltb-true, le-leb, leb-true, le-ltb, ltb-false, true≢false, false≢true}
use Rattle.std.proofs.lemmas.List.{length-set}
use Rattle.std.specs.Cmp.{both_ways}
use Rattle.std.specs.List.{Contains, list_any}
use Rattle.c_tree.specs.Typing.{has}
use Rattle.mf_set.specs.Numbers.{Numbers, IsSet, has as has_number, IsAscendingFrom, next_from, numbers_from, union, with_number, without_number}
use Rattle.mf_set.proofs.NumberLaws.{has-filter, has-meet, has-union, has-with_number, has-without_number}
use Rattle.ts_domain.specs.declared.triples.Triple.{Triple}
use Rattle.cover_problem.specs.declared.types.Problem.{Problem}
use Rattle.cover_problem.specs.Covering.{is_usable}
use Rattle.cover_problem.proofs.CountLaws.{none_left}
use Rattle.cover_problem.proofs.Members.{any_at, any_from}
use Rattle.cover_clauses.specs.Conflicts.{has_at, is_pair, narrowed, shares, triple_sets, Adds, AreConflicts, AreEmpty, AreSquare, Conflict, by_pair, by_triple}
use Rattle.cover_clauses.specs.Parts.{IsFound}
use Rattle.cover_clauses.proofs.FoundLaws.{any_more}
use Rattle.cover_clauses.proofs.SetsOnce.{in_grown, of_grown}

-- lists with one element set anew

module _ {A : Type 0} where
  get_set : (xs : List A) (at : ℕ) (x y : A) → slice_get xs at ≡ Some x → slice_get (set xs at y) at ≡ Some y
  get_set [] at x y e = absurd cc
  get_set (z ∷ xs) zero x y e = refl
  get_set (z ∷ xs) (suc at) x y e = get_set xs at x y e

  get_other : (xs : List A) (at j : ℕ) (y : A) → j ≢ at → slice_get (set xs at y) j ≡ slice_get xs j
  get_other [] at j y h = refl
  get_other (z ∷ xs) zero zero y h = absurd (h refl)
  get_other (z ∷ xs) zero (suc j) y h = refl
  get_other (z ∷ xs) (suc at) zero y h = refl
  get_other (z ∷ xs) (suc at) (suc j) y h = get_other xs at j y (λ e. h (ap suc e))

  one_value : (o : Option A) (a b : A) → o ≡ Some a → o ≡ Some b → a ≡ b
  one_value o a b h k = let is : Some a ≡ Some b = sym h ∙ k in cc

-- numbers that are added

pub adds_same : (p q : ℕ → ℕ → Bool) (old new : List Numbers) → ((j k : ℕ) → p j k ≡ q j k) → Adds p old new → Adds q old new
adds_same p q old new same is = record { long = is.long; square = is.square; members = λ j k. is.members j k ∙ ap (λ b. has_at old j k || b) (same j k) }

or_false : (b : Bool) → b ≡ (b || false)
or_false true = refl
or_false false = refl

pub adds_none : (p : ℕ → ℕ → Bool) (old : List Numbers) → AreSquare old → ((j k : ℕ) → p j k ≡ false) → Adds p old old
adds_none p old square none = record { long = refl; square = square; members = λ j k. or_false (has_at old j k) ∙ ap (λ b. has_at old j k || b) (sym (none j k)) }

pub adds_both : (p q : ℕ → ℕ → Bool) (old mid new : List Numbers) → Adds p old mid → Adds q mid new → Adds (λ j k. p j k || q j k) old new
adds_both p q old mid new one two = record {
  long = two.long ∙ one.long;
  square = two.square;
  members = λ j k. two.members j k ∙ ap (λ b. b || q j k) (one.members j k) ∙ or_assoc (has_at old j k) (p j k) (q j k);
}

-- those of a list, one more
pub adds_more : {A : Type 0} (f : A → ℕ → ℕ → Bool) (xs : List A) (i : ℕ) (x : A) (old mid new : List Numbers) → i < length xs → x ≡ get_or xs i x
    → Adds (λ j k. list_any (λ y. f y j k) (take i xs)) old mid → Adds (f x) mid new → Adds (λ j k. list_any (λ y. f y j k) (take (i + 1) xs)) old new
adds_more f xs i x old mid new inside at before more =
    adds_same (λ j k. list_any (λ y. f y j k) (take i xs) || f x j k) (λ j k. list_any (λ y. f y j k) (take (i + 1) xs)) old new
    (λ j k. sym (any_more (λ y. f y j k) xs i x inside at)) (adds_both (λ j k. list_any (λ y. f y j k) (take i xs)) (f x) old mid new before more)

-- to the row at a place
pub adds_at : (at : ℕ) (old : List Numbers) (x y : Numbers) (p : ℕ → Bool) → AreSquare old → slice_get old at ≡ Some x → IsSet y → y.room ≡ x.room
    → ((k : ℕ) → has_number y.items k ≡ (has_number x.items k || p k)) → Adds (λ j k. j == at && p k) old (set old at y)
adds_at at old x y p square e good room is = record {
  long = length-set old at y;
  square = λ j r h. ⊎_elim (λ (here : j ≡ at). at_row j r h here) (λ (o : j ≢ at). let b = square j r (sym (get_other old at j y o) ∙ h) in (b.0, b.1 ∙ sym (length-set old at y))) (cases_eq j at);
  members = λ j k. ⊎_elim (λ (here : j ≡ at). subst (λ i. has_at (set old at y) i k ≡ (has_at old i k || (i == at && p k))) (sym here) (at_members k)) (λ (o : j ≢ at). off_members j k o) (cases_eq j at);
}
  where
    at_row : (j : ℕ) (r : Numbers) → slice_get (set old at y) j ≡ Some r → j ≡ at → IsSet r × (r.room ≡ length (set old at y))
    at_row j r h here =
        let same : y ≡ r = one_value (slice_get (set old at y) at) y r (get_set old at x y e) (subst (λ i. slice_get (set old at y) i ≡ Some r) here h) in
        subst (λ (z : Numbers). IsSet z × (z.room ≡ length (set old at y))) same (good, room ∙ (square at x e).1 ∙ sym (length-set old at y))

    at_members : (k : ℕ) → has_at (set old at y) at k ≡ (has_at old at k || (at == at && p k))
    at_members k =
        ap (has (λ (r : Numbers). has_number r.items k)) (get_set old at x y e) ∙ is k
        ∙ ap (λ b. b || p k) (sym (ap (has (λ (r : Numbers). has_number r.items k)) e))
        ∙ ap (λ b. has_at old at k || (b && p k)) (sym (eq-eqb at at refl))

    off_members : (j k : ℕ) → j ≢ at → has_at (set old at y) j k ≡ (has_at old j k || (j == at && p k))
    off_members j k o =
        ap (has (λ (r : Numbers). has_number r.items k)) (get_other old at j y o) ∙ or_false (has_at old j k)
        ∙ ap (λ b. has_at old j k || (b && p k)) (sym (ne_eqb j at o))

pub adds_row : (at : ℕ) (more : List ℕ) (old : List Numbers) (x y : Numbers) → AreSquare old → slice_get old at ≡ Some x → IsSet y → y ≡ record x { items = union x.items more }
    → Adds (λ j k. j == at && has_number more k) old (set old at y)
adds_row at more old x y square e good is =
    adds_at at old x y (has_number more) square e good (ap (λ (z : Numbers). z.room) is) (λ k. ap (λ (z : Numbers). has_number z.items k) is ∙ has-union x.items more k)

pub adds_number : (at number : ℕ) (old : List Numbers) (x y : Numbers) → AreSquare old → slice_get old at ≡ Some x → IsSet y → y ≡ record x { items = with_number x.items number }
    → Adds (λ j k. j == at && k == number) old (set old at y)
adds_number at number old x y square e good is =
    adds_at at old x y (λ k. k == number) square e good (ap (λ (z : Numbers). z.room) is)
    (λ k. ap (λ (z : Numbers). has_number z.items k) is ∙ has-with_number x.items number k ∙ or_comm (eqb number k) (has_number x.items k) ∙ ap (λ b. has_number x.items k || b) (turned number k))
  where
    turned : (a b : ℕ) → eqb a b ≡ eqb b a
    turned a b = both_ways (eqb a b) (eqb b a) (λ h. eq-eqb b a (sym (eqb-true a b h))) (λ h. eq-eqb a b (sym (eqb-true b a h)))

pub adds_if : (passes : Bool) (p : ℕ → ℕ → Bool) (old new : List Numbers) → passes ≡ true → Adds p old new → Adds (λ j k. passes && p j k) old new
adds_if passes p old new so is = adds_same p (λ j k. passes && p j k) old new (λ j k. ap (λ b. b && p j k) (sym so)) is

-- a set, number by number: what is left of it, and what is added so far

pub record Behind (s : Numbers) (from : ℕ) (rest : Numbers) (old rows : List Numbers) : Type 0 where
  pub room : rest.room ≡ s.room
  pub left : (k : ℕ) → has_number rest.items k ≡ (leb from k && has_number s.items k)
  pub adds : Adds (λ j k. shares s.items j k && ltb j from) old rows

and_false : (b : Bool) → (b && false) ≡ false
and_false true = refl
and_false false = refl

and_true : (b : Bool) → (b && true) ≡ b
and_true true = refl
and_true false = refl

pub behind_start : (s : Numbers) (old : List Numbers) → AreSquare old → Behind s 0 s old old
behind_start s old square = record {
  room = refl;
  left = λ k. ap (λ b. b && has_number s.items k) (sym (le-leb 0 k (omega arith)));
  adds = adds_none (λ j k. shares s.items j k && ltb j 0) old square (λ j k. ap (λ b. shares s.items j k && b) (le-ltb j 0 (omega arith)) ∙ and_false (shares s.items j k));
}

not_eqb : (k n : ℕ) → not (eqb k n) ≡ true → k ≢ n
not_eqb k n e same = true≢false (sym e ∙ ap not (eq-eqb k n same))

ne_not : (k n : ℕ) → k ≢ n → not (eqb k n) ≡ true
ne_not k n other = ap not (ne_eqb k n other)

module _ (s : Numbers) (from : ℕ) (rest : Numbers) (old rows : List Numbers) (so : Behind s from rest old rows) where
  pub behind_done : next_from rest.items from ≡ None → Adds (shares s.items) old rows
  behind_done none = adds_same (λ j k. shares s.items j k && ltb j from) (shares s.items) old rows (λ j k. both_ways (shares s.items j k && ltb j from) (shares s.items j k) (λ h. (and_parts (shares s.items j k) (ltb j from) h).0) (λ h. and_from (shares s.items j k) (ltb j from) h (below j k h))) so.adds
    where
      gone : (k : ℕ) → from ≤ k → has_number s.items k ≡ true → ⊥
      gone k low h =
          let there : has_number rest.items k ≡ true = so.left k ∙ and_from (leb from k) (has_number s.items k) (le-leb from k low) h in
          let from_on : has_number (numbers_from rest.items from) k ≡ true = has-filter (leb from) rest.items k ∙ and_from (has_number rest.items k) (leb from k) there (le-leb from k low) in
          false≢true (ap (λ xs. has_number xs k) (sym (none_left rest.items from none)) ∙ from_on)

      below : (j k : ℕ) → shares s.items j k ≡ true → ltb j from ≡ true
      below j k h =
          let here = (and_parts (has_number s.items j) (has_number s.items k && ltb j k) h).0 in
          ⊎_elim (λ yes. yes) (λ no. absurd (gone j (ltb_not j from no) here)) (cases_Bool (ltb j from))
        where
          ltb_not : (a b : ℕ) → ltb a b ≡ false → b ≤ a
          ltb_not a b e = ltb-false a b e

  module _ (n : ℕ) (rest' : Numbers) (rows' : List Numbers) (low : from ≤ n) (next : numbers_from rest.items from ≡ n ∷ numbers_from rest.items (n + 1))
      (is : rest' ≡ record rest { items = without_number rest.items n }) (added : Adds (λ j k. j == n && has_number rest'.items k) rows rows') where
    first : has_number rest.items n ≡ true
    first =
        let there : has_number (numbers_from rest.items from) n ≡ true = ap (λ xs. has_number xs n) next ∙ or_left (eqb n n) (has_number (numbers_from rest.items (n + 1)) n) (eq-eqb n n refl) in
        (and_parts (has_number rest.items n) (leb from n) (sym (has-filter (leb from) rest.items n) ∙ there)).0

    in_set : has_number s.items n ≡ true
    in_set = (and_parts (leb from n) (has_number s.items n) (sym (so.left n) ∙ first)).1

    -- no number of the set lies between
    upto : (k : ℕ) → from ≤ k → has_number s.items k ≡ true → n ≤ k
    upto k above h =
        let there : has_number rest.items k ≡ true = so.left k ∙ and_from (leb from k) (has_number s.items k) (le-leb from k above) h in
        let on : has_number (n ∷ numbers_from rest.items (n + 1)) k ≡ true = ap (λ xs. has_number xs k) (sym next) ∙ has-filter (leb from) rest.items k ∙ and_from (has_number rest.items k) (leb from k) there (le-leb from k above) in
        ⊎_elim
        (λ here. let same : n ≡ k = eqb-true n k here in omega arith)
        (λ later.
        let over : leb (n + 1) k ≡ true = (and_parts (has_number rest.items k) (leb (n + 1) k) (sym (has-filter (leb (n + 1)) rest.items k) ∙ later)).1 in
        let more : n + 1 ≤ k = leb-true (n + 1) k over in
        omega arith)
        (or_cases (eqb n k) (has_number (numbers_from rest.items (n + 1)) k) on)

    left_next : (k : ℕ) → has_number rest'.items k ≡ (leb (n + 1) k && has_number s.items k)
    left_next k =
        ap (λ (z : Numbers). has_number z.items k) is ∙ has-without_number rest.items n k ∙ ap (λ b. b && not (eqb k n)) (so.left k)
        ∙ both_ways ((leb from k && has_number s.items k) && not (eqb k n)) (leb (n + 1) k && has_number s.items k)
        (λ h.
        let one = and_parts (leb from k && has_number s.items k) (not (eqb k n)) h in
        let two = and_parts (leb from k) (has_number s.items k) one.0 in
        let over : n ≤ k = upto k (leb-true from k two.0) two.1 in
        let other : k ≢ n = not_eqb k n one.1 in
        and_from (leb (n + 1) k) (has_number s.items k) (le-leb (n + 1) k (omega arith)) two.1)
        (λ h.
        let two = and_parts (leb (n + 1) k) (has_number s.items k) h in
        let more : n + 1 ≤ k = leb-true (n + 1) k two.0 in
        and_from (leb from k && has_number s.items k) (not (eqb k n)) (and_from (leb from k) (has_number s.items k) (le-leb from k (omega arith)) two.1) (ne_not k n (λ same. absurd (omega arith))))

    shares_next : (j k : ℕ) → ((shares s.items j k && ltb j from) || (j == n && has_number rest'.items k)) ≡ (shares s.items j k && ltb j (n + 1))
    shares_next j k =
        both_ways ((shares s.items j k && ltb j from) || (j == n && has_number rest'.items k)) (shares s.items j k && ltb j (n + 1))
        (λ h.
        ⊎_elim
        (λ old.
        let one = and_parts (shares s.items j k) (ltb j from) old in
        let less : j < from = ltb-true j from one.1 in
        and_from (shares s.items j k) (ltb j (n + 1)) one.0 (lt-ltb j (n + 1) (omega arith)))
        (λ new.
        let one = and_parts (eqb j n) (has_number rest'.items k) new in
        let same : j ≡ n = eqb-true j n one.0 in
        let two = and_parts (leb (n + 1) k) (has_number s.items k) (sym (left_next k) ∙ one.1) in
        let more : n + 1 ≤ k = leb-true (n + 1) k two.0 in
        and_from (shares s.items j k) (ltb j (n + 1))
        (and_from (has_number s.items j) (has_number s.items k && ltb j k) (subst (λ i. has_number s.items i ≡ true) (sym same) in_set) (and_from (has_number s.items k) (ltb j k) two.1 (lt-ltb j k (omega arith))))
        (lt-ltb j (n + 1) (omega arith)))
        (or_cases (shares s.items j k && ltb j from) (j == n && has_number rest'.items k) h))
        (λ h.
        let one = and_parts (shares s.items j k) (ltb j (n + 1)) h in
        let two = and_parts (has_number s.items j) (has_number s.items k && ltb j k) one.0 in
        let three = and_parts (has_number s.items k) (ltb j k) two.1 in
        let over : j < n + 1 = ltb-true j (n + 1) one.1 in
        let order : j < k = ltb-true j k three.1 in
        ⊎_elim
        (λ yes. or_left (shares s.items j k && ltb j from) (j == n && has_number rest'.items k) (and_from (shares s.items j k) (ltb j from) one.0 yes))
        (λ no.
        let low' : from ≤ j = ltb-false j from no in
        let least : n ≤ j = upto j low' two.0 in
        or_right (shares s.items j k && ltb j from) (j == n && has_number rest'.items k)
        (and_from (eqb j n) (has_number rest'.items k) (eq-eqb j n (omega arith)) (left_next k ∙ and_from (leb (n + 1) k) (has_number s.items k) (le-leb (n + 1) k (omega arith)) three.0)))
        (cases_Bool (ltb j from)))

    pub behind_next : Behind s (n + 1) rest' old rows'
    behind_next = record {
      room = ap (λ (z : Numbers). z.room) is ∙ so.room;
      left = left_next;
      adds = adds_same (λ j k. (shares s.items j k && ltb j from) || (j == n && has_number rest'.items k)) (λ j k. shares s.items j k && ltb j (n + 1)) old rows' shares_next (adds_both (λ j k. shares s.items j k && ltb j from) (λ j k. j == n && has_number rest'.items k) old rows rows' so.adds added);
    }

-- conflicts

pub square_empty : (size : ℕ) (rows : List Numbers) → AreEmpty size size rows → AreSquare rows
square_empty size rows none j r h =
    let is = none.each j r h in
    (record { ascending = subst (λ xs. IsAscendingFrom 0 xs) (sym is.0) tt; below = λ k e. absurd (false≢true (ap (λ xs. has_number xs k) (sym is.0) ∙ e)) }, is.1 ∙ sym none.long)

no_number : (size : ℕ) (rows : List Numbers) → AreEmpty size size rows → (j k : ℕ) → has_at rows j k ≡ false
no_number size rows none j k = by (slice_get rows j) refl
  where
    by : (o : Option Numbers) → slice_get rows j ≡ o → has (λ (r : Numbers). has_number r.items k) o ≡ false
    by None e = refl
    by (Some r) e = ap (λ xs. has_number xs k) (none.each j r e).0

module _ (q : Problem) (usable : Numbers) (found : IsFound (length q.names.puts) (is_usable q) usable) where
  in_narrowed : (s : Numbers) (k : ℕ) → has_number (narrowed usable s).items k ≡ (has_number s.items k && is_usable q k)
  in_narrowed s k = has-meet s.items usable.items k ∙ ap (λ b. has_number s.items k && b) (found.members k)

  abbrev Paired : ℕ → ℕ → Bool
  Paired j k = list_any (λ p. is_pair usable.items p j k) q.derived.pairs

  abbrev Shared : ℕ → ℕ → Bool
  Shared j k = list_any (λ (s : Numbers). shares s.items j k) (triple_sets usable q.derived.triples)

  pair_conflicts : (j k : ℕ) → Paired j k ≡ true → Conflict q j k
  pair_conflicts j k h =
      let r = any_at (λ p. is_pair usable.items p j k) q.derived.pairs h in
      let one = and_parts (has_number usable.items r.0.0 && has_number usable.items r.0.1) (j == r.0.0 && k == r.0.1) r.2 in
      let both = and_parts (has_number usable.items r.0.0) (has_number usable.items r.0.1) one.0 in
      let same = and_parts (eqb j r.0.0) (eqb k r.0.1) one.1 in
      let ej : j ≡ r.0.0 = eqb-true j r.0.0 same.0 in
      let ek : k ≡ r.0.1 = eqb-true k r.0.1 same.1 in
      let is : r.0 ≡ (j, k) = λ i. (sym ej i, sym ek i) in
      by_pair (subst (λ p. Contains q.derived.pairs p) is r.1) (subst (λ i. is_usable q i ≡ true) (sym ej) (sym (found.members r.0.0) ∙ both.0)) (subst (λ i. is_usable q i ≡ true) (sym ek) (sym (found.members r.0.1) ∙ both.1))

  share_conflicts : (j k : ℕ) → Shared j k ≡ true → Conflict q j k
  share_conflicts j k h =
      let r = any_at (λ (s : Numbers). shares s.items j k) (triple_sets usable q.derived.triples) h in
      ⊎_elim (λ none. absurd (omega (arith, none.1)))
      (λ t.
      let shared : shares (narrowed usable t.part.puts).items j k ≡ true = ap (λ (s : Numbers). shares s.items j k) t.is ∙ r.2 in
      let one = and_parts (has_number (narrowed usable t.part.puts).items j) (has_number (narrowed usable t.part.puts).items k && ltb j k) shared in
      let two = and_parts (has_number (narrowed usable t.part.puts).items k) (ltb j k) one.1 in
      let hj = and_parts (has_number t.part.puts.items j) (is_usable q j) (sym (in_narrowed t.part.puts j) ∙ one.0) in
      let hk = and_parts (has_number t.part.puts.items k) (is_usable q k) (sym (in_narrowed t.part.puts k) ∙ two.0) in
      by_triple t.part t.listed hj.0 hk.0 (ltb-true j k two.1) hj.1 hk.1)
      (of_grown (λ (t : Triple). narrowed usable t.puts) q.derived.triples [] r.0 r.1)

  conflict_so : (j k : ℕ) → Conflict q j k → (Paired j k || Shared j k) ≡ true
  conflict_so j k (by_pair c uj uk) =
      or_left (Paired j k) (Shared j k)
      (any_from (λ p. is_pair usable.items p j k) q.derived.pairs (j, k) c
      (and_from (has_number usable.items j && has_number usable.items k) (j == j && k == k) (and_from (has_number usable.items j) (has_number usable.items k) (found.members j ∙ uj) (found.members k ∙ uk)) (and_from (eqb j j) (eqb k k) (eq-eqb j j refl) (eq-eqb k k refl))))
  conflict_so j k (by_triple t c hj hk less uj uk) =
      or_right (Paired j k) (Shared j k)
      (any_from (λ (s : Numbers). shares s.items j k) (triple_sets usable q.derived.triples) (narrowed usable t.puts) (in_grown (λ (t : Triple). narrowed usable t.puts) q.derived.triples [] t c)
      (and_from (has_number (narrowed usable t.puts).items j) (has_number (narrowed usable t.puts).items k && ltb j k) (in_narrowed t.puts j ∙ and_from (has_number t.puts.items j) (is_usable q j) hj uj)
      (and_from (has_number (narrowed usable t.puts).items k) (ltb j k) (in_narrowed t.puts k ∙ and_from (has_number t.puts.items k) (is_usable q k) hk uk) (lt-ltb j k less))))

  pub are_conflicts : (none paired rows : List Numbers) → AreEmpty (length q.names.puts) (length q.names.puts) none → Adds Paired none paired → Adds Shared paired rows → AreConflicts q rows
  are_conflicts none paired rows empty one two = record {
    long = two.long ∙ one.long ∙ empty.long;
    square = two.square;
    members = λ j k. (
      λ h. ⊎_elim (pair_conflicts j k) (share_conflicts j k) (or_cases (Paired j k) (Shared j k) (sym (all j k) ∙ h)),
      λ c. all j k ∙ conflict_so j k c,
    );
  }
    where
      all : (j k : ℕ) → has_at rows j k ≡ (Paired j k || Shared j k)
      all j k = two.members j k ∙ ap (λ b. b || Shared j k) (one.members j k ∙ ap (λ b. b || Paired j k) (no_number (length q.names.puts) none empty j k))

  -- the sets of the triples have room for all puts
  pub set_rooms : (size : ℕ) → ((t : Triple) → Contains q.derived.triples t → t.puts.room ≡ size) → (s : Numbers) → Contains (triple_sets usable q.derived.triples) s → s.room ≡ size
  set_rooms size rooms s c =
      ⊎_elim (λ none. absurd (omega (arith, none.1))) (λ t. sym (ap (λ (z : Numbers). z.room) t.is) ∙ rooms t.part t.listed)
      (of_grown (λ (t : Triple). narrowed usable t.puts) q.derived.triples [] s c)
