-- Sets that are worked out from a table, one part more.
use Rattle.std.proofs.Common.{◌≡◌, ℕ, zero, suc, ◌+◌, ◌<◌, ◌||◌, Bool, true, false, cond, List, [], ◌∷◌, ◌++◌, length, take, get_or, slice_get, Option, Some, None, refl, ap, sym, ◌∙◌, arith}
use Rattle.std.specs.List.{filter, range_with_len}
use Rattle.std.specs.Option.{option_and_then}
use Rattle.std.proofs.lemmas.List.Elements.{filter-append}
use Rattle.std.proofs.lemmas.List.Folds.{list_any_more}
use Rattle.mf_set.specs.Numbers.{Numbers, has as has_number, union}
use Rattle.mf_set.proofs.NumberLaws.{has-union}
use Rattle.alias_facts.specs.declared.table.Table.{Table}
use Rattle.alias_facts.specs.Flow.{cell_at, cell_items, in_cells, items_of}
use Rattle.alias_facts.specs.Growth.{Adds, IsFound, IsSized}

-- a cell has room for all sites
pub cell_room : (m : Table) (t f : ℕ) (x : Numbers) → IsSized m → cell_at m t f ≡ Some x → x.room ≡ m.bounds.sites
cell_room m t f x sized e = by (slice_get m.cells t) refl
  where
    by : (o : Option (List Numbers)) → slice_get m.cells t ≡ o → x.room ≡ m.bounds.sites
    by None h = let none : option_and_then (λ (row : List Numbers). slice_get row f) (slice_get m.cells t) ≡ None = ap (option_and_then (λ (row : List Numbers). slice_get row f)) h in absurd cc
    by (Some row) h = sized.cell_rooms t row h f x (sym (ap (option_and_then (λ (r : List Numbers). slice_get r f)) h) ∙ e)

pub adds_cell : (m : Table) (t f : ℕ) (x old new : Numbers) → cell_at m t f ≡ Some x → new ≡ record old { items = union old.items x.items } → Adds (cell_items m t f) old new
adds_cell m t f x old new e is = record {
  room = ap (λ (z : Numbers). z.room) is;
  items = λ s. ap (λ (z : Numbers). has_number z.items s) is ∙ has-union old.items x.items s ∙ ap (λ (o : Option Numbers). has_number old.items s || has_number (items_of o) s) (sym e);
}

or_none : (a : Bool) → a ≡ (a || false)
or_none true = refl
or_none false = refl

pub adds_none : (m : Table) (t f : ℕ) (old : Numbers) → cell_at m t f ≡ None → Adds (cell_items m t f) old old
adds_none m t f old e = record {
  room = refl;
  items = λ s. or_none (has_number old.items s) ∙ ap (λ (o : Option Numbers). has_number old.items s || has_number (items_of o) s) (sym e);
}

pub cells_more : (m : Table) (f room : ℕ) (ts : List ℕ) (i : ℕ) (old new : Numbers) → i < length ts → IsFound room (in_cells m f (take i ts)) old → Adds (cell_items m (get_or ts i 0) f) old new → IsFound room (in_cells m f (take (i + 1) ts)) new
cells_more m f room ts i old new within found added = record {
  room = added.room ∙ found.room;
  items = λ s. added.items s ∙ ap (λ b. b || has_number (cell_items m (get_or ts i 0) f) s) (found.items s) ∙ sym (list_any_more (λ t. has_number (cell_items m t f) s) ts i 0 within);
}

range_last : (a n j : ℕ) → a + n ≡ j → range_with_len a (suc n) ≡ range_with_len a n ++ j ∷ []
range_last a zero j e = let same : a ≡ j = omega arith in ap (λ k. k ∷ []) same
range_last a (suc n) j e = ap (λ l. a ∷ l) (range_last (a + 1) n j (omega arith))

-- one number more of a range
pub filter_range : (p : ℕ → Bool) (i : ℕ) → filter p (range_with_len 0 (i + 1)) ≡ filter p (range_with_len 0 i) ++ cond (p i) (i ∷ []) []
filter_range p i =
    let on : i + 1 ≡ suc i = omega arith in
    ap (λ n. filter p (range_with_len 0 n)) on ∙ ap (filter p) (range_last 0 i i (omega arith)) ∙ filter-append p (range_with_len 0 i) (i ∷ [])
