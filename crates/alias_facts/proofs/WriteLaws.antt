-- The writes of a graph are done by its edges, and a table to which none of them adds anything is closed.
use Rattle.std.proofs.Common.{◌≡◌, ℕ, ◌+◌, ◌<◌, ◌≤◌, ◌==◌, ◌&&◌, ◌||◌, Bool, true, false, List, [], ◌∷◌, length, map, take, get_or, refl, sym, subst, ◌∙◌, arith}
use Rattle.std.specs.List.{All}
use Rattle.std.proofs.lemmas.Bool.{eq-eqb, and_from}
use Rattle.std.proofs.lemmas.List.{take_more}
use Rattle.std.proofs.lemmas.List.Elements.{All-push}
use Rattle.std.proofs.lemmas.Option.{slice_get-get_or, get_or_from_slice_get, slice_get_within}
use Rattle.call_contexts.proofs.Has.{Has, first, later, contains_has, has_contains, has_flat, has_flat_from, has_get, get_has, has_map}
use Rattle.c_graph.specs.declared.graph.Graph.{Graph}
use Rattle.mf_set.specs.Numbers.{has as has_number}
use Rattle.ts_domain.specs.declared.deed.Deed.{Deed}
use Rattle.ts_domain.specs.declared.deed.Deed.TheVariants.{Reads, Follows, Says, Sets, SetsField}
use Rattle.ts_domain.specs.declared.names.Names.{Names}
use Rattle.ts_domain.specs.Deeds.{edge_deeds}
use Rattle.ts_domain.specs.May.{IsDone}
use Rattle.ts_domain.specs.Ranges.{IsInRange}
use Rattle.alias_facts.specs.declared.table.Table.{Table}
use Rattle.alias_facts.specs.Flow.{IsClosed, cell_items, in_source, var_items, writes_cell}
use Rattle.alias_facts.specs.Writes.{FieldFits, IsBound, all_writes, written, writes_in}
use Rattle.alias_facts.specs.Writing.{DeedFits, IsApplied}

-- lists

all_from_has : {A : Type 0} (P : A → Type 0) (xs : List A) → ((x : A) → Has x xs → P x) → All P xs
all_from_has P xs f k d within = f (get_or xs k d) (has_get xs k (slice_get-get_or xs k d within))

has_from_all : {A : Type 0} (P : A → Type 0) (xs : List A) (x : A) → All P xs → Has x xs → P x
has_from_all P xs x all h =
    let at = get_has xs h in
    subst P (get_or_from_slice_get xs at.0 x x at.1) (all at.0 x (slice_get_within xs at.0 x at.1))

has_map_from : {A B : Type 0} {y : B} (f : A → B) (xs : List A) → Has y (map f xs) → (x : A) × Has x xs × (f x ≡ y)
has_map_from f [] h = elim h [ ]
has_map_from f (x ∷ xs) first = (x, first, refl)
has_map_from f (x ∷ xs) (later h) = let rest = has_map_from f xs h in (rest.0, later rest.1, rest.2)

-- writes

only_itself : (e d : Deed) → Has d (written e) → e ≡ d
only_itself (Reads r noted) d h = elim h [ ]
only_itself (Follows k) d h = elim h [ ]
only_itself (Says s) d h = elim h [ ]
only_itself (Sets k v) d first = refl
only_itself (Sets k v) d (later h) = elim h [ ]
only_itself (SetsField r c f v) d first = refl
only_itself (SetsField r c f v) d (later h) = elim h [ ]

-- the writes of all edges are done by them
done_by : (n : Names) (g : Graph) (d : Deed) → Has d (all_writes n g) → IsDone n g d
done_by n g d h =
    let row = has_flat_from writes_in (map (edge_deeds n g) g.edges) h in
    let deed = has_flat_from written row.0 row.2 in
    let edge = has_map_from (edge_deeds n g) g.edges row.1 in
    let same : deed.0 ≡ d = only_itself deed.0 d deed.2 in
    let there : Has d (edge_deeds n g edge.0) = subst (λ (ds : List Deed). Has d ds) (sym edge.2) (subst (λ (e : Deed). Has e row.0) same deed.1) in
    (edge.0, has_contains g.edges edge.1, has_contains (edge_deeds n g edge.0) there)

pub writes_done : (n : Names) (g : Graph) → All (IsDone n g) (all_writes n g)
writes_done n g = all_from_has (IsDone n g) (all_writes n g) (done_by n g)

-- each write that is done is among them
is_among : (n : Names) (g : Graph) (d : Deed) → IsDone n g d → Has d (written d) → Has d (all_writes n g)
is_among n g d done writes =
    has_flat writes_in (map (edge_deeds n g) g.edges) (has_map (edge_deeds n g) (contains_has g.edges done.0 done.1))
    (has_flat written (edge_deeds n g done.0) (contains_has (edge_deeds n g done.0) d done.2) writes)

adds_nothing : (a b : Bool) → a ≡ (a || b) → b ≡ true → a ≡ true
adds_nothing true b e h = refl
adds_nothing false b e h = e ∙ h

-- a table is closed where none of them adds anything
pub closed_by : (n : Names) (g : Graph) (m : Table) → All (λ d. IsApplied n g d m m) (all_writes n g) → IsClosed n g m
closed_by n g m all = record {
  vars = λ k v done s flows.
      let is = has_from_all (λ d. IsApplied n g d m m) (all_writes n g) (Sets k v) all (is_among n g (Sets k v) done first) in
      adds_nothing (has_number (var_items m k) s) (k == k && in_source n g m v s) (is.vars k s) (and_from (k == k) (in_source n g m v s) (eq-eqb k k refl) flows);
  cells = λ r c f v done t s target flows.
      let is = has_from_all (λ d. IsApplied n g d m m) (all_writes n g) (SetsField r c f v) all (is_among n g (SetsField r c f v) done first) in
      adds_nothing (has_number (cell_items m t f) s) (writes_cell n g m r c f t f && in_source n g m v s) (is.cells t f s) (and_from (writes_cell n g m r c f t f) (in_source n g m v s) target flows);
}

-- bounds

field_fits_on : (a b : ℕ) (d : Deed) → a ≤ b → FieldFits a d → FieldFits b d
field_fits_on a b (Reads r noted) wide fits = tt
field_fits_on a b (Follows k) wide fits = tt
field_fits_on a b (Says s) wide fits = tt
field_fits_on a b (Sets k v) wide fits = tt
field_fits_on a b (SetsField r c f v) wide fits = omega (arith, wide, fits)

pub fields_more : (ds : List Deed) (i : ℕ) (d : Deed) (a b c : ℕ) → i < length ds → a ≤ c → b ≤ c → All (FieldFits a) (take i ds) → FieldFits b (get_or ds i d) → All (FieldFits c) (take (i + 1) ds)
fields_more ds i d a b c within low high fit here =
    subst (All (FieldFits c)) (sym (take_more ds i d within))
    (All-push (FieldFits c) (take i ds) (get_or ds i d) (λ k e below. field_fits_on a c (get_or (take i ds) k e) low (fit k e below)) (field_fits_on b c (get_or ds i d) high here))

deed_fits : (n : Names) (fields : ℕ) (d : Deed) → IsInRange n d → FieldFits fields d → DeedFits (record { vars = length n.vars; sites = length n.sites; fields = fields }) d
deed_fits n fields (Reads r noted) is fits = tt
deed_fits n fields (Follows k) is fits = tt
deed_fits n fields (Says s) is fits = tt
deed_fits n fields (Sets k v) is fits = is
deed_fits n fields (SetsField r c f v) is fits = (fits, is.1)

bound_for : (n : Names) (ds : List Deed) (fields : ℕ) → All (IsInRange n) ds → All (FieldFits fields) ds → IsBound n ds (record { vars = length n.vars; sites = length n.sites; fields = fields })
bound_for n ds fields is fits = record {
  vars = refl;
  sites = refl;
  fit = λ k d within. deed_fits n fields (get_or ds k d) (is k d within) (fits k d within);
}

pub bound_by : (n : Names) (ds : List Deed) (vars sites fields : ℕ) → vars ≡ length n.vars → sites ≡ length n.sites → All (IsInRange n) ds → All (FieldFits fields) ds → IsBound n ds (record { vars = vars; sites = sites; fields = fields })
bound_by n ds vars sites fields v s is fits =
    subst (λ count. IsBound n ds (record { vars = count; sites = sites; fields = fields })) (sym v)
    (subst (λ count. IsBound n ds (record { vars = length n.vars; sites = count; fields = fields })) (sym s) (bound_for n ds fields is fits))
