-- The table before any write is sound, and the answer has what its table has, in order.
use Rattle.std.proofs.Common.{◌≡◌, ◌≢◌, ℕ, zero, suc, ◌+◌, ◌<◌, ◌≤◌, ◌==◌, ◌&&◌, ◌||◌, ◌⊎◌, inl, inr, Bool, true, false, List, [], ◌∷◌, ◌++◌, append_assoc, length, take, drop, get_or, replicate, slice_get, Option, Some, None, refl, ap, sym, subst, ◌∙◌, arith}
use Rattle.std.specs.List.{All, AllPairs, list_any}
use Rattle.std.proofs.lemmas.Bool.{false≢true, eq-eqb, ne_eqb}
use Rattle.std.proofs.lemmas.List.{length-replicate}
use Rattle.std.proofs.lemmas.List.Elements.{All-append, All-push}
use Rattle.std.proofs.lemmas.List.Folds.{list_any-append}
use Rattle.std.proofs.lemmas.List.Kept.{AllPairs-cons}
use Rattle.std.proofs.lemmas.Option.{slice_get-get_or}
use Rattle.c_tree.specs.Typing.{has}
use Rattle.c_graph.specs.declared.graph.Graph.{Graph}
use Rattle.mf_set.specs.Numbers.{Numbers, has as has_number}
use Rattle.ts_domain.specs.declared.names.Names.{Names}
use Rattle.ts_domain.specs.May.{IsMay, flows_into, flows_to, precedes}
use Rattle.ts_domain.proofs.Arguments.{drop_some}
use Rattle.alias_facts.specs.declared.bounds.Bounds.{Bounds}
use Rattle.alias_facts.specs.declared.table.Table.{Table}
use Rattle.alias_facts.specs.Answer.{answer, empty_row, empty_set, empty_table, noted, noted_items, noted_row, noted_rows}
use Rattle.alias_facts.specs.Flow.{IsClosed, IsSound, cell_in, cell_items, items_of, var_items}
use Rattle.alias_facts.specs.Growth.{AreRooms, IsSized}
use Rattle.alias_facts.specs.Writes.{IsBound, all_writes}
use Rattle.alias_facts.specs.Writing.{Ended, Settles}
use Rattle.alias_facts.proofs.FlowLaws.{complete}
use Rattle.alias_facts.proofs.WriteLaws.{closed_by}
use Rattle.ts_domain.specs.declared.deed.Deed.{Deed}

-- the empty table

replicate_at : {A : Type 0} (n k : ℕ) (x y : A) → slice_get (replicate n x) k ≡ Some y → y ≡ x
replicate_at zero k x y e = cc
replicate_at (suc n) zero x y e = cc
replicate_at (suc n) (suc k) x y e = replicate_at n k x y e

pub empty_sized : (b : Bounds) → IsSized (empty_table b)
empty_sized b = record {
  vars = length-replicate b.vars (empty_set b.sites);
  var_rooms = λ i x e. ap (λ (z : Numbers). z.room) (replicate_at b.vars i (empty_set b.sites) x e);
  cells = length-replicate b.sites (empty_row b.fields b.sites);
  rows = λ t row e. ap (λ (r : List Numbers). length r) (replicate_at b.sites t (empty_row b.fields b.sites) row e) ∙ length-replicate b.fields (empty_set b.sites);
  cell_rooms = λ t row e i x h. ap (λ (z : Numbers). z.room) (replicate_at b.fields i (empty_set b.sites) x (ap (λ (r : List Numbers). slice_get r i) (sym (replicate_at b.sites t (empty_row b.fields b.sites) row e)) ∙ h));
}

none_in : (n k room s : ℕ) → has_number (items_of (slice_get (empty_row n room) k)) s ≡ false
none_in zero k room s = refl
none_in (suc n) zero room s = refl
none_in (suc n) (suc k) room s = none_in n k room s

none_at : (n t f count room s : ℕ) → has_number (items_of (cell_in (replicate n (empty_row count room)) t f)) s ≡ false
none_at zero t f count room s = refl
none_at (suc n) zero f count room s = none_in count f room s
none_at (suc n) (suc t) f count room s = none_at n t f count room s

pub empty_sound : (n : Names) (g : Graph) (b : Bounds) → IsSound n g (empty_table b)
empty_sound n g b = record {
  vars = λ k s h. absurd (false≢true (sym (none_in b.vars k b.sites s) ∙ h));
  cells = λ t f s h. absurd (false≢true (sym (none_at b.sites t f b.fields b.sites s) ∙ h));
}

-- one part more of the answer

pub row_more : (t i : ℕ) (row : List Numbers) (x : Numbers) → slice_get row i ≡ Some x → noted_row t i (drop i row) ≡ noted t i x ++ noted_row t (i + 1) (drop (i + 1) row)
row_more t i row x e = ap (noted_row t i) (drop_some row i x e)

pub rows_more : (i : ℕ) (rows : List (List Numbers)) (row : List Numbers) → slice_get rows i ≡ Some row → noted_rows i (drop i rows) ≡ noted_row i 0 row ++ noted_rows (i + 1) (drop (i + 1) rows)
rows_more i rows row e = ap (noted_rows i) (drop_some rows i row e)

-- the variables

take_at : {A : Type 0} (n k : ℕ) (xs : List A) → k < n → slice_get (take n xs) k ≡ slice_get xs k
take_at zero k xs h = absurd (omega arith)
take_at (suc n) k [] h = refl
take_at (suc n) zero (x ∷ xs) h = refl
take_at (suc n) (suc k) (x ∷ xs) h = take_at n k xs (omega arith)

has_items : (s : ℕ) (o : Option Numbers) → has (λ (x : Numbers). has_number x.items s) o ≡ has_number (items_of o) s
has_items s None = refl
has_items s (Some x) = refl

pub answer_vars : (n : ℕ) (m : Table) (k s : ℕ) → k < n → flows_to (answer n m) k s ≡ has_number (var_items m k) s
answer_vars n m k s h = ap (has (λ (x : Numbers). has_number x.items s)) (take_at n k m.vars h) ∙ has_items s (slice_get m.vars k)

-- the fields

abbrev is_noted : ℕ → ℕ → ℕ → ℕ × ℕ × Numbers → Bool
is_noted t f s x = x.0 == t && x.1 == f && has_number x.2.items s

or_false : (a : Bool) → (a || false) ≡ a
or_false true = refl
or_false false = refl

and_false : (a : Bool) → (a && false) ≡ false
and_false true = refl
and_false false = refl

noted_one : (t f s i j : ℕ) (x : Numbers) (items : List ℕ) → x.items ≡ items → list_any (is_noted t f s) (noted_items i j x items) ≡ (i == t && j == f && has_number x.items s)
noted_one t f s i j x [] e = sym (ap (λ (xs : List ℕ). i == t && j == f && has_number xs s) e ∙ and_false (i == t && j == f))
noted_one t f s i j x (y ∷ items) e = or_false (i == t && j == f && has_number x.items s)

not_here : (i t : ℕ) (b : Bool) (j f : ℕ) → (j ≡ f → ⊥) → (i == t && j == f && b) ≡ false
not_here i t b j f other = ap (λ c. i == t && c && b) (ne_eqb j f other) ∙ ap (λ c. c && b) (and_false (i == t))

row_below : (t f s i j : ℕ) (row : List Numbers) → f < j → list_any (is_noted t f s) (noted_row i j row) ≡ false
row_below t f s i j [] h = refl
row_below t f s i j (x ∷ row) h =
    list_any-append (is_noted t f s) (noted i j x) (noted_row i (j + 1) row)
    ∙ ap (λ b. b || list_any (is_noted t f s) (noted_row i (j + 1) row)) (noted_one t f s i j x x.items refl ∙ not_here i t (has_number x.items s) j f (λ e. absurd (omega (arith, e))))
    ∙ row_below t f s i (j + 1) row (omega arith)

same_here : (i t : ℕ) (b : Bool) (j f : ℕ) → j ≡ f → (i == t && j == f && b) ≡ (i == t && b)
same_here i t b j f e = ap (λ c. i == t && c && b) (eq-eqb j f e) ∙ by (i == t)
  where
    by : (c : Bool) → (c && true && b) ≡ (c && b)
    by true = refl
    by false = refl

row_at : (t s i j q : ℕ) (row : List Numbers) → list_any (is_noted t (j + q) s) (noted_row i j row) ≡ (i == t && has_number (items_of (slice_get row q)) s)
row_at t s i j q [] = sym (and_false (i == t))
row_at t s i j zero (x ∷ row) =
    list_any-append (is_noted t (j + 0) s) (noted i j x) (noted_row i (j + 1) row)
    ∙ ap (λ b. b || list_any (is_noted t (j + 0) s) (noted_row i (j + 1) row)) (noted_one t (j + 0) s i j x x.items refl ∙ same_here i t (has_number x.items s) j (j + 0) (omega arith))
    ∙ ap (λ b. (i == t && has_number x.items s) || b) (row_below t (j + 0) s i (j + 1) row (omega arith))
    ∙ or_false (i == t && has_number x.items s)
row_at t s i j (suc q) (x ∷ row) =
    list_any-append (is_noted t (j + suc q) s) (noted i j x) (noted_row i (j + 1) row)
    ∙ ap (λ b. b || list_any (is_noted t (j + suc q) s) (noted_row i (j + 1) row)) (noted_one t (j + suc q) s i j x x.items refl ∙ not_here i t (has_number x.items s) j (j + suc q) (λ e. absurd (omega (arith, e))))
    ∙ (let on : j + suc q ≡ j + 1 + q = omega arith in ap (λ f. list_any (is_noted t f s) (noted_row i (j + 1) row)) on)
    ∙ row_at t s i (j + 1) q row

row_zero : (t f s i : ℕ) (row : List Numbers) → list_any (is_noted t f s) (noted_row i 0 row) ≡ (i == t && has_number (items_of (slice_get row f)) s)
row_zero t f s i row = let on : f ≡ 0 + f = omega arith in ap (λ d. list_any (is_noted t d s) (noted_row i 0 row)) on ∙ row_at t s i 0 f row

not_row : (i t : ℕ) (b : Bool) → (i ≡ t → ⊥) → (i == t && b) ≡ false
not_row i t b other = ap (λ c. c && b) (ne_eqb i t other)

rows_below : (t f s i : ℕ) (rows : List (List Numbers)) → t < i → list_any (is_noted t f s) (noted_rows i rows) ≡ false
rows_below t f s i [] h = refl
rows_below t f s i (row ∷ rows) h =
    list_any-append (is_noted t f s) (noted_row i 0 row) (noted_rows (i + 1) rows)
    ∙ ap (λ b. b || list_any (is_noted t f s) (noted_rows (i + 1) rows)) (row_zero t f s i row ∙ not_row i t (has_number (items_of (slice_get row f)) s) (λ e. absurd (omega (arith, e))))
    ∙ rows_below t f s (i + 1) rows (omega arith)

rows_at : (f s i q : ℕ) (rows : List (List Numbers)) → list_any (is_noted (i + q) f s) (noted_rows i rows) ≡ has_number (items_of (cell_in rows q f)) s
rows_at f s i q [] = refl
rows_at f s i zero (row ∷ rows) =
    list_any-append (is_noted (i + 0) f s) (noted_row i 0 row) (noted_rows (i + 1) rows)
    ∙ ap (λ b. b || list_any (is_noted (i + 0) f s) (noted_rows (i + 1) rows)) (row_zero (i + 0) f s i row ∙ ap (λ c. c && has_number (items_of (slice_get row f)) s) (eq-eqb i (i + 0) (omega arith)))
    ∙ ap (λ b. has_number (items_of (slice_get row f)) s || b) (rows_below (i + 0) f s (i + 1) rows (omega arith))
    ∙ or_false (has_number (items_of (slice_get row f)) s)
rows_at f s i (suc q) (row ∷ rows) =
    list_any-append (is_noted (i + suc q) f s) (noted_row i 0 row) (noted_rows (i + 1) rows)
    ∙ ap (λ b. b || list_any (is_noted (i + suc q) f s) (noted_rows (i + 1) rows)) (row_zero (i + suc q) f s i row ∙ not_row i (i + suc q) (has_number (items_of (slice_get row f)) s) (λ e. absurd (omega (arith, e))))
    ∙ (let on : i + suc q ≡ i + 1 + q = omega arith in ap (λ t. list_any (is_noted t f s) (noted_rows (i + 1) rows)) on)
    ∙ rows_at f s (i + 1) q rows

pub answer_fields : (n : ℕ) (m : Table) (t f s : ℕ) → flows_into (answer n m) t f s ≡ has_number (cell_items m t f) s
answer_fields n m t f s = let on : t ≡ 0 + t = omega arith in ap (λ u. list_any (is_noted u f s) (noted_rows 0 m.cells)) on ∙ rows_at f s 0 t m.cells

length_take : {A : Type 0} (n : ℕ) (xs : List A) → n ≤ length xs → length (take n xs) ≡ n
length_take zero xs h = refl
length_take (suc n) [] h = absurd (omega arith)
length_take (suc n) (x ∷ xs) h = ap suc (length_take n xs (omega arith))

-- rooms

var_rooms : (n room : ℕ) (vs : List Numbers) → n ≤ length vs → AreRooms room vs → All (λ (x : Numbers). x.room ≡ room) (take n vs)
var_rooms n room vs long rooms k d within =
    let below : k < n = omega (arith, within, length_take n vs long) in
    rooms k (get_or (take n vs) k d) (sym (take_at n k vs below) ∙ slice_get-get_or (take n vs) k d within)

-- an entry of the answer: a set with that room, which isn't empty
abbrev IsEntry : ℕ → ℕ × ℕ × Numbers → Type 0
IsEntry room x = (x.2.room ≡ room) × (x.2.items ≢ [])

noted_entry : (room t f : ℕ) (x : Numbers) (items : List ℕ) → x.items ≡ items → x.room ≡ room → All (IsEntry room) (noted_items t f x items)
noted_entry room t f x [] e is = λ k d within. absurd (omega (arith, within))
noted_entry room t f x (s ∷ ss) e is = All-push (IsEntry room) [] (t, f, x) (λ k d within. absurd (omega (arith, within))) (is, λ none. let never : [] ≡ s ∷ ss = sym none ∙ e in absurd cc)

row_entries : (room t f : ℕ) (row : List Numbers) → AreRooms room row → All (IsEntry room) (noted_row t f row)
row_entries room t f [] rooms = λ k d within. absurd (omega (arith, within))
row_entries room t f (x ∷ row) rooms = All-append (IsEntry room) (noted t f x) (noted_row t (f + 1) row) (noted_entry room t f x x.items refl (rooms 0 x refl)) (row_entries room t (f + 1) row (λ i. rooms (suc i)))

rows_entries : (room t : ℕ) (rows : List (List Numbers)) → ((u : ℕ) (row : List Numbers) → slice_get rows u ≡ Some row → AreRooms room row) → All (IsEntry room) (noted_rows t rows)
rows_entries room t [] rooms = λ k d within. absurd (omega (arith, within))
rows_entries room t (row ∷ rows) rooms = All-append (IsEntry room) (noted_row t 0 row) (noted_rows (t + 1) rows) (row_entries room t 0 row (rooms 0 row refl)) (rows_entries room (t + 1) rows (λ u. rooms (suc u)))

-- order

abbrev Entry : Type 0
Entry = ℕ × ℕ × Numbers

-- an entry stands at a place or behind it
abbrev is_from : ℕ → ℕ → Entry → Type 0
is_from t f x = (t < x.0) ⊎ ((t ≡ x.0) × (f ≤ x.1))

-- entries in order, all of them from a place on
record Ordered (t f : ℕ) (xs : List Entry) : Type 0 where
  pairs : AllPairs precedes xs
  from : All (is_from t f) xs

ordered_none : (t f : ℕ) → Ordered t f []
ordered_none t f = record { pairs = λ i j d below within. absurd (omega (arith, within)); from = λ k d within. absurd (omega (arith, within)) }

all_map : (P Q : Entry → Type 0) (xs : List Entry) → ((x : Entry) → P x → Q x) → All P xs → All Q xs
all_map P Q xs f all k d within = f (get_or xs k d) (all k d within)

from_next : (t f : ℕ) (x : Entry) → is_from t (f + 1) x → is_from t f x
from_next t f x (inl h) = inl h
from_next t f x (inr h) = let behind = h.1 in inr (h.0, omega (arith, behind))

from_row : (t f : ℕ) (x : Entry) → is_from (t + 1) 0 x → is_from t f x
from_row t f x (inl h) = inl (omega (arith, h))
from_row t f x (inr h) = let at = h.0 in inl (omega (arith, at))

precedes_next : (t f : ℕ) (y : Numbers) (x : Entry) → is_from t (f + 1) x → precedes (t, f, y) x
precedes_next t f y x (inl h) = inl h
precedes_next t f y x (inr h) = let behind = h.1 in inr (h.0, omega (arith, behind))

from_here : (t f : ℕ) (y : Numbers) → is_from t f (t, f, y)
from_here t f y = inr (refl, omega arith)

all_cons : (P : Entry → Type 0) (x : Entry) (xs : List Entry) → P x → All P xs → All P (x ∷ xs)
all_cons P x xs here all = All-append P (x ∷ []) xs (All-push P [] x (λ k d within. absurd (omega (arith, within))) here) all

-- one entry more before those behind it
noted_ordered : (t f : ℕ) (y : Numbers) (items : List ℕ) (xs : List Entry) → Ordered t (f + 1) xs → Ordered t f (noted_items t f y items ++ xs)
noted_ordered t f y [] xs is = record { pairs = is.pairs; from = all_map (is_from t (f + 1)) (is_from t f) xs (from_next t f) is.from }
noted_ordered t f y (s ∷ ss) xs is = record {
  pairs = AllPairs-cons precedes (t, f, y) xs (all_map (is_from t (f + 1)) (precedes (t, f, y)) xs (precedes_next t f y) is.from) is.pairs;
  from = all_cons (is_from t f) (t, f, y) xs (from_here t f y) (all_map (is_from t (f + 1)) (is_from t f) xs (from_next t f) is.from);
}

row_ordered : (t f : ℕ) (row : List Numbers) (xs : List Entry) → Ordered (t + 1) 0 xs → Ordered t f (noted_row t f row ++ xs)
row_ordered t f [] xs is = record { pairs = is.pairs; from = all_map (is_from (t + 1) 0) (is_from t f) xs (from_row t f) is.from }
row_ordered t f (y ∷ row) xs is =
    subst (Ordered t f) (sym (append_assoc (noted t f y) (noted_row t (f + 1) row) xs)) (noted_ordered t f y y.items (noted_row t (f + 1) row ++ xs) (row_ordered t (f + 1) row xs is))

rows_ordered : (t : ℕ) (rows : List (List Numbers)) → Ordered t 0 (noted_rows t rows)
rows_ordered t [] = ordered_none t 0
rows_ordered t (row ∷ rows) = row_ordered t 0 row (noted_rows (t + 1) rows) (rows_ordered (t + 1) rows)

-- the answer of a sound and closed table is exact
pub answer_exact : (n : Names) (g : Graph) (m : Table) → length m.vars ≡ length n.vars → IsSized m → m.bounds.sites ≡ length n.sites → IsSound n g m → IsClosed n g m → IsMay n g (answer (length n.vars) m)
answer_exact n g m vars sized sites sound closed =
    let within : length n.vars ≤ length m.vars = omega (arith, vars) in
    let rooms : AreRooms (length n.sites) m.vars = subst (λ room. AreRooms room m.vars) sites sized.var_rooms in
    let entries : All (IsEntry (length n.sites)) (noted_rows 0 m.cells) = subst (λ room. All (IsEntry room) (noted_rows 0 m.cells)) sites (rows_entries m.bounds.sites 0 m.cells sized.cell_rooms) in
    let ordered = rows_ordered 0 m.cells in
    record {
      counted = length_take (length n.vars) m.vars within;
      variables = λ k s below. (λ h. sound.vars k s (sym (answer_vars (length n.vars) m k s below) ∙ h), λ flow. answer_vars (length n.vars) m k s below ∙ complete n g m closed flow);
      fields = λ t f s. (λ h. sound.cells t f s (sym (answer_fields (length n.vars) m t f s) ∙ h), λ flow. answer_fields (length n.vars) m t f s ∙ complete n g m closed flow);
      var_rooms = var_rooms (length n.vars) (length n.sites) m.vars within rooms;
      field_rooms = λ k d below. (entries k d below).0;
      some = λ k d below. (entries k d below).1;
      ascending = ordered.pairs;
    }

-- from the empty table
pub ended : (n : Names) (g : Graph) (ds : List Deed) (b : Bounds) (m : Table) → IsBound n ds b → Settles n g ds (empty_table b) m → Ended n g ds m
ended n g ds b m bound settles = record {
  vars = settles.sized.vars ∙ ap (λ (c : Bounds). c.vars) settles.bounds ∙ bound.vars;
  sized = settles.sized;
  sites = ap (λ (c : Bounds). c.sites) settles.bounds ∙ bound.sites;
  sound = settles.sound (empty_sound n g b);
  closed = settles.closed;
}

pub ended_exact : (n : Names) (g : Graph) (m : Table) → Ended n g (all_writes n g) m → IsMay n g (answer (length n.vars) m)
ended_exact n g m is = answer_exact n g m is.vars is.sized is.sites is.sound (closed_by n g m is.closed)
