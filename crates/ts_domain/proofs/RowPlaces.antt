-- The places in a row are those of its key.
use Rattle.std.proofs.Common.{◌≡◌, ◌≢◌, ℕ, zero, suc, ◌+◌, ◌<◌, ◌≤◌, ◌==◌, ⊎_elim, Bool, true, false, eqb, List, [], ◌∷◌, length, map, slice_get, get_or, Option, None, Some, refl, ap, sym, ◌∙◌, arith}
use Rattle.std.proofs.lemmas.Bool.{false≢true, eqb-true, eq-eqb, and_parts, and_from, cases_eq, or_left, or_right}
use Rattle.std.proofs.lemmas.Option.{slice_get_within, slice_get-map}
use Rattle.std.proofs.lemmas.List.Elements.{Contains-get_or}
use Rattle.std.specs.List.{All, Contains, range_with_len}
use Rattle.std.specs.Option.{option_map}
use Rattle.c_tree.specs.Typing.{has}
use Rattle.mf_set.specs.Numbers.{has as has_number}
use Rattle.mf_set.proofs.NumberLaws.{has-filter, has-Contains, Contains-has}
use Rattle.c_graph.specs.declared.graph.Edge.{Edge}
use Rattle.c_graph.specs.declared.graph.Graph.{Graph}
use Rattle.ts_domain.proofs.DerivedLaws.{place_from}
use Rattle.ts_domain.specs.Rows.{AreRows, is_key, places_of, row}
use Rattle.ts_domain.specs.Reaching.{from_of, BeginsAt}

has_range : (a m k : ℕ) → a ≤ k → k < a + m → has_number (range_with_len a m) k ≡ true
has_range a zero k p q = absurd (omega (arith, p, q))
has_range a (suc m) k p q =
    ⊎_elim (λ (e : a ≡ k). or_left (eqb a k) (has_number (range_with_len (a + 1) m) k) (eq-eqb a k e))
    (λ (o : a ≢ k). or_right (eqb a k) (has_number (range_with_len (a + 1) m) k) (has_range (a + 1) m k (omega (arith, p, o)) (omega (arith, q)))) (cases_eq a k)

-- a place of a key
pub place_in : (keys : List (Option ℕ)) (v k : ℕ) → slice_get keys k ≡ Some (Some v) → has_number (places_of keys v) k ≡ true
place_in keys v k at =
    let inside = slice_get_within keys k (Some v) at in
    has-filter (λ i. has (is_key v) (slice_get keys i)) (range_with_len 0 (length keys)) k
    ∙ and_from (has_number (range_with_len 0 (length keys)) k) (has (is_key v) (slice_get keys k)) (has_range 0 (length keys) k (omega arith) (omega (arith, inside)))
    (ap (has (is_key v)) at ∙ eq-eqb v v refl)

-- edges by their first nodes

edge_by : (g : Graph) (v k : ℕ) (o : Option Edge) → slice_get g.edges k ≡ o → option_map from_of o ≡ Some (Some v) → BeginsAt g v k
edge_by g v k None at h = absurd cc
edge_by g v k (Some e) at h = let same : e.from ≡ v = cc in (e, at, same)

pub row_begins : (g : Graph) (rows : List (List ℕ)) (v k : ℕ) → AreRows (map from_of g.edges) rows → has_number (row rows v) k ≡ true → BeginsAt g v k
row_begins g rows v k are h =
    let at = place_from (map from_of g.edges) v k (ap (λ xs. has_number xs k) (sym (are v)) ∙ h) in
    edge_by g v k (slice_get g.edges k) refl (sym (slice_get-map from_of g.edges k) ∙ at)

pub rows_begin : (g : Graph) (rows : List (List ℕ)) (v : ℕ) → AreRows (map from_of g.edges) rows → All (BeginsAt g v) (row rows v)
rows_begin g rows v are i d l = row_begins g rows v (get_or (row rows v) i d) are (Contains-has (row rows v) (get_or (row rows v) i d) (Contains-get_or (row rows v) i d l))

pub in_row : (g : Graph) (rows : List (List ℕ)) (v k : ℕ) (e : Edge) → AreRows (map from_of g.edges) rows → slice_get g.edges k ≡ Some e → e.from ≡ v → Contains (row rows v) k
in_row g rows v k e are at from =
    has-Contains (row rows v) k
    (ap (λ xs. has_number xs k) (are v) ∙ place_in (map from_of g.edges) v k (slice_get-map from_of g.edges k ∙ ap (option_map from_of) at ∙ ap (λ x. Some (Some x)) from))
