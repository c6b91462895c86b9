-- What joining more numbers to one set of a table does to the table.
use Rattle.std.proofs.Common.{◌≡◌, ◌≢◌, ◌↔◌, ℕ, zero, suc, ◌+◌, ◌-◌, ◌<◌, ◌≤◌, ◌==◌, ◌&&◌, ◌||◌, ◌⊎◌, inl, inr, ⊎_elim, Bool, true, false, cond, List, [], ◌∷◌, length, set, slice_get, Option, Some, refl, ap, sym, subst, ◌∙◌, arith, eqb, ltb}
use Rattle.std.proofs.lemmas.Bool.{true≢false, false≢true, eq-eqb, ne_eqb, cases_eq}
use Rattle.std.specs.Option.{option_and_then}
use Rattle.std.proofs.lemmas.List.{length-set}
use Rattle.mf_set.specs.Numbers.{Numbers, IsSet, has as has_number, union, with_number}
use Rattle.mf_set.proofs.NumberLaws.{has-union}
use Rattle.mf_set.proofs.CountLaws.{length_within}
use Rattle.alias_facts.specs.declared.table.Table.{Table}
use Rattle.alias_facts.specs.Flow.{cell_in, items_of}
use Rattle.alias_facts.specs.Growth.{AreRooms, CellJoins, Grows, IsSized, Joins, VarJoins, missing, missing_in, missing_rows}

-- a union that has a number more is longer

with_longer : (xs : List ℕ) (k : ℕ) → (with_number xs k ≡ xs) ⊎ (length xs < length (with_number xs k))
with_longer [] k = inr (omega arith)
with_longer (x ∷ xs) k =
    elim (ltb k x) as (λ b. (cond b (k ∷ x ∷ xs) (cond (eqb k x) (x ∷ xs) (x ∷ with_number xs k)) ≡ x ∷ xs) ⊎ (length (x ∷ xs) < length (cond b (k ∷ x ∷ xs) (cond (eqb k x) (x ∷ xs) (x ∷ with_number xs k))))) [
      | true ↦ inr (omega arith)
      | false ↦
          elim (eqb k x) as (λ b. (cond b (x ∷ xs) (x ∷ with_number xs k) ≡ x ∷ xs) ⊎ (length (x ∷ xs) < length (cond b (x ∷ xs) (x ∷ with_number xs k)))) [
            | true ↦ inl refl
            | false ↦ ⊎_elim (λ e. inl (ap (λ (ys : List ℕ). x ∷ ys) e)) (λ more. inr (omega (arith, more))) (with_longer xs k)
          ]
    ]

both_longer : (xs us ws : List ℕ) → (us ≡ xs) ⊎ (length xs < length us) → (ws ≡ us) ⊎ (length us < length ws) → (ws ≡ xs) ⊎ (length xs < length ws)
both_longer xs us ws (inl e) (inl h) = inl (h ∙ e)
both_longer xs us ws (inl e) (inr h) = inr (subst (λ (ys : List ℕ). length ys < length ws) e h)
both_longer xs us ws (inr e) (inl h) = inr (subst (λ (ys : List ℕ). length xs < length ys) (sym h) e)
both_longer xs us ws (inr e) (inr h) = inr (omega (arith, e, h))

union_longer : (xs ys : List ℕ) → (union xs ys ≡ xs) ⊎ (length xs < length (union xs ys))
union_longer xs [] = inl refl
union_longer xs (y ∷ ys) = both_longer xs (union xs ys) (with_number (union xs ys) y) (union_longer xs ys) (with_longer (union xs ys) y)

-- a set is no longer than its room
set_within : (x : Numbers) → IsSet x → length x.items ≤ x.room
set_within x is =
    let most : 0 + length x.items ≤ x.room = length_within 0 x.room x.items is.ascending is.below (omega arith) in
    omega (arith, most)

-- lists of sets

missing_set : (old : List Numbers) (at : ℕ) (x y : Numbers) → slice_get old at ≡ Some x → y.room - length y.items < x.room - length x.items → missing (set old at y) < missing old
missing_set [] at x y e h = absurd cc
missing_set (z ∷ old) zero x y e h = let same : z ≡ x = cc in let h' : y.room - length y.items < z.room - length z.items = subst (λ (w : Numbers). y.room - length y.items < w.room - length w.items) (sym same) h in omega (arith, h')
missing_set (z ∷ old) (suc at) x y e h = let rest = missing_set old at x y e h in omega (arith, rest)

pub missing_rows_set : (old : List (List Numbers)) (at : ℕ) (x y : List Numbers) → slice_get old at ≡ Some x → missing y < missing x → missing_rows (set old at y) < missing_rows old
missing_rows_set [] at x y e h = absurd cc
missing_rows_set (z ∷ old) zero x y e h = let same : z ≡ x = cc in let h' : missing y < missing z = subst (λ (w : List Numbers). missing y < missing w) (sym same) h in omega (arith, h')
missing_rows_set (z ∷ old) (suc at) x y e h = let rest = missing_rows_set old at x y e h in omega (arith, rest)

module _ {A : Type 0} where
  get_set : (xs : List A) (at : ℕ) (x y : A) → slice_get xs at ≡ Some x → slice_get (set xs at y) at ≡ Some y
  get_set [] at x y e = cc
  get_set (z ∷ xs) zero x y e = refl
  get_set (z ∷ xs) (suc at) x y e = get_set xs at x y e

  get_other : (xs : List A) (at j : ℕ) (y : A) → j ≢ at → slice_get (set xs at y) j ≡ slice_get xs j
  get_other [] at j y h = refl
  get_other (z ∷ xs) zero zero y h = absurd (h refl)
  get_other (z ∷ xs) zero (suc j) y h = refl
  get_other (z ∷ xs) (suc at) zero y h = refl
  get_other (z ∷ xs) (suc at) (suc j) y h = get_other xs at j y (λ e. h (ap suc e))

  set_same : (xs : List A) (at : ℕ) (x : A) → slice_get xs at ≡ Some x → set xs at x ≡ xs
  set_same [] at x e = cc
  set_same (z ∷ xs) zero x e = let same : z ≡ x = cc in ap (λ w. w ∷ xs) (sym same)
  set_same (z ∷ xs) (suc at) x e = ap (λ ws. z ∷ ws) (set_same xs at x e)

  -- what stands in a list with one element set anew
  set_all : (P : A → Type 0) (xs : List A) (at : ℕ) (x y : A) → slice_get xs at ≡ Some x → P y → ((i : ℕ) (z : A) → slice_get xs i ≡ Some z → P z) → (i : ℕ) (z : A) → slice_get (set xs at y) i ≡ Some z → P z
  set_all P xs at x y e there all i z h =
      ⊎_elim
      (λ same. let here : Some y ≡ Some z = sym (get_set xs at x y e) ∙ ap (slice_get (set xs at y)) (sym same) ∙ h in let is : y ≡ z = cc in subst P is there)
      (λ other. all i z (sym (get_other xs at i y other) ∙ h))
      (cases_eq i at)

or_none : (a b : Bool) → b ≡ false → a ≡ (a || b)
or_none true b h = refl
or_none false b h = sym h

items_set : (old : List Numbers) (at : ℕ) (x y : Numbers) (more : List ℕ) → slice_get old at ≡ Some x → y.items ≡ union x.items more
    → (j s : ℕ) → has_number (items_of (slice_get (set old at y) j)) s ≡ (has_number (items_of (slice_get old j)) s || (j == at && has_number more s))
items_set old at x y more e is j s =
    ⊎_elim
    (λ same.
    ap (λ i. has_number (items_of (slice_get (set old at y) i)) s) same
    ∙ ap (λ (o : Option Numbers). has_number (items_of o) s) (get_set old at x y e)
    ∙ ap (λ (xs : List ℕ). has_number xs s) is ∙ has-union x.items more s
    ∙ ap (λ (o : Option Numbers). has_number (items_of o) s || has_number more s) (sym e)
    ∙ ap (λ i. has_number (items_of (slice_get old i)) s || has_number more s) (sym same)
    ∙ ap (λ b. has_number (items_of (slice_get old j)) s || (b && has_number more s)) (sym (eq-eqb j at same)))
    (λ other.
    ap (λ (o : Option Numbers). has_number (items_of o) s) (get_other old at j y other)
    ∙ or_none (has_number (items_of (slice_get old j)) s) (j == at && has_number more s) (ap (λ b. b && has_number more s) (ne_eqb j at other)))
    (cases_eq j at)

shrinks : (x y : Numbers) (more : List ℕ) (changed : Bool) → y ≡ record x { items = union x.items more } → ((changed ≡ false) ↔ (y ≡ x)) → IsSet y → changed ≡ true → y.room - length y.items < x.room - length x.items
shrinks x y more changed is told good rose =
    let within : length y.items ≤ y.room = set_within y good in
    let room : y.room ≡ x.room = ap (λ (z : Numbers). z.room) is in
    let long : length y.items ≡ length (union x.items more) = ap (λ (z : Numbers). length z.items) is in
    ⊎_elim
    (λ e. absurd (true≢false (sym rose ∙ told.1 (is ∙ ap (λ (us : List ℕ). record x { items = us }) e))))
    (λ longer. omega (arith, within, room, long, longer))
    (union_longer x.items more)

pub joins_at : (room at : ℕ) (more : List ℕ) (changed : Bool) (old : List Numbers) (x y : Numbers) → slice_get old at ≡ Some x → AreRooms room old
    → y ≡ record x { items = union x.items more } → ((changed ≡ false) ↔ (y ≡ x)) → IsSet y → Joins room at more changed old (set old at y)
joins_at room at more changed old x y e rooms is told good = record {
  items = items_set old at x y more e (ap (λ (z : Numbers). z.items) is);
  rooms = set_all (λ (z : Numbers). z.room ≡ room) old at x y e (ap (λ (z : Numbers). z.room) is ∙ rooms at x e) rooms;
  long = length-set old at y;
  same = λ kept. ap (set old at) (told.0 kept) ∙ set_same old at x e;
  less = λ rose. missing_set old at x y e (shrinks x y more changed is told good rose);
}

-- tables

pub var_joins : (k : ℕ) (more : List ℕ) (changed : Bool) (old : Table) (vs : List Numbers) → IsSized old → Joins old.bounds.sites k more changed old.vars vs → VarJoins k more changed old (record old { vars = vs })
var_joins k more changed old vs sized is = record {
  grows = record {
    sized = record { vars = is.long ∙ sized.vars; var_rooms = is.rooms; cells = sized.cells; rows = sized.rows; cell_rooms = sized.cell_rooms };
    bounds = refl;
    same = λ kept. ap (λ (us : List Numbers). record old { vars = us }) (is.same kept);
    less = λ rose. let fewer = is.less rose in omega (arith, fewer);
  };
  vars = is.items;
  cells = refl;
}

cells_set : (old : List (List Numbers)) (t f : ℕ) (row row' : List Numbers) (more : List ℕ) → slice_get old t ≡ Some row
    → ((j s : ℕ) → has_number (items_of (slice_get row' j)) s ≡ (has_number (items_of (slice_get row j)) s || (j == f && has_number more s)))
    → (u d s : ℕ) → has_number (items_of (cell_in (set old t row') u d)) s ≡ (has_number (items_of (cell_in old u d)) s || ((u == t && d == f) && has_number more s))
cells_set old t f row row' more e is u d s =
    ⊎_elim
    (λ same.
    ap (λ i. has_number (items_of (cell_in (set old t row') i d)) s) same
    ∙ ap (λ (o : Option (List Numbers)). has_number (items_of (option_and_then (λ (r : List Numbers). slice_get r d) o)) s) (get_set old t row row' e)
    ∙ is d s
    ∙ ap (λ (o : Option (List Numbers)). has_number (items_of (option_and_then (λ (r : List Numbers). slice_get r d) o)) s || (d == f && has_number more s)) (sym e)
    ∙ ap (λ i. has_number (items_of (cell_in old i d)) s || (d == f && has_number more s)) (sym same)
    ∙ ap (λ b. has_number (items_of (cell_in old u d)) s || ((b && d == f) && has_number more s)) (sym (eq-eqb u t same)))
    (λ other.
    ap (λ (o : Option (List Numbers)). has_number (items_of (option_and_then (λ (r : List Numbers). slice_get r d) o)) s) (get_other old t u row' other)
    ∙ or_none (has_number (items_of (cell_in old u d)) s) ((u == t && d == f) && has_number more s) (ap (λ b. (b && d == f) && has_number more s) (ne_eqb u t other)))
    (cases_eq u t)

pub cell_joins : (t f : ℕ) (more : List ℕ) (changed : Bool) (old : Table) (row row' : List Numbers) → IsSized old → slice_get old.cells t ≡ Some row → Joins old.bounds.sites f more changed row row'
    → CellJoins t f more changed old (record old { cells = set old.cells t row' })
cell_joins t f more changed old row row' sized e is = record {
  grows = record {
    sized = record {
      vars = sized.vars;
      var_rooms = sized.var_rooms;
      cells = length-set old.cells t row' ∙ sized.cells;
      rows = set_all (λ (r : List Numbers). length r ≡ old.bounds.fields) old.cells t row row' e (is.long ∙ sized.rows t row e) sized.rows;
      cell_rooms = set_all (λ (r : List Numbers). AreRooms old.bounds.sites r) old.cells t row row' e is.rooms sized.cell_rooms;
    };
    bounds = refl;
    same = λ kept. ap (λ (cs : List (List Numbers)). record old { cells = cs }) (ap (set old.cells t) (is.same kept) ∙ set_same old.cells t row e);
    less = λ rose. let fewer = missing_rows_set old.cells t row row' e (is.less rose) in omega (arith, fewer);
  };
  vars = refl;
  cells = cells_set old.cells t f row row' more e is.items;
}

-- one growth behind another
pub grows_on : (a b : Bool) (x y z : Table) → Grows a x y → Grows b y z → Grows (a || b) x z
grows_on true true x y z p q = record { sized = q.sized; bounds = q.bounds ∙ p.bounds; same = λ kept. absurd (true≢false kept); less = λ rose. let one = p.less refl in let two = q.less refl in omega (arith, one, two) }
grows_on true false x y z p q = record { sized = q.sized; bounds = q.bounds ∙ p.bounds; same = λ kept. absurd (true≢false kept); less = λ rose. subst (λ (m : Table). missing_in m < missing_in x) (sym (q.same refl)) (p.less refl) }
grows_on false true x y z p q = record { sized = q.sized; bounds = q.bounds ∙ p.bounds; same = λ kept. absurd (true≢false kept); less = λ rose. subst (λ (m : Table). missing_in z < missing_in m) (p.same refl) (q.less refl) }
grows_on false false x y z p q = record { sized = q.sized; bounds = q.bounds ∙ p.bounds; same = λ kept. q.same refl ∙ p.same refl; less = λ rose. absurd (false≢true rose) }
