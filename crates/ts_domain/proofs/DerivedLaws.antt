-- What all that is derived has: candidates are puts, and so are those of pairs, the lesser first.
use Rattle.std.proofs.Common.{◌≡◌, ℕ, zero, suc, ◌+◌, ◌<◌, ◌≤◌, ⊎_elim, Bool, true, false, ltb, nat_lt, if◌then◌else◌, List, [], ◌∷◌, ◌++◌, length, map, slice_get, Option, None, Some, refl, ap, sym, ◌∙◌, subst, arith}
use Rattle.std.proofs.lemmas.Bool.{false≢true, eqb-true, and_parts, ltb-true, ltb-false}
use Rattle.std.proofs.lemmas.List.{length-map}
use Rattle.std.proofs.lemmas.List.Elements.{Contains-append_cases}
use Rattle.std.proofs.lemmas.Option.{slice_get_within}
use Rattle.std.specs.List.{Contains, range_with_len}
use Rattle.c_tree.specs.Typing.{has}
use Rattle.c_graph.specs.declared.graph.Graph.{Graph}
use Rattle.mf_set.specs.Numbers.{Numbers, has as has_number, with_number, IsSet}
use Rattle.mf_set.proofs.NumberLaws.{has-filter, Contains-has}
use Rattle.mf_set.proofs.SetLaws.{IsSet-insert}
use Rattle.ts_domain.specs.declared.facts.Facts.{Facts}
use Rattle.ts_domain.specs.declared.marks.Verdict.{Verdict}
use Rattle.ts_domain.specs.declared.marks.Verdict.TheVariants.{Yes, No, Open}
use Rattle.ts_domain.specs.declared.names.Names.{Names}
use Rattle.ts_domain.specs.declared.triples.Triple.{Triple}
use Rattle.ts_domain.specs.Derived.{behind, carried, gap_at, gap_puts, gathered, joined, ordered, pairs_at, pairs_with, put_follows, put_gap, put_verdict, puts_at, starts, follows, IsDerived, IsPair}
use Rattle.ts_domain.specs.Rows.{is_key, places_of}

-- puts at a node

key_by : (v : ℕ) (o : Option (Option ℕ)) → has (is_key v) o ≡ true → o ≡ Some (Some v)
key_by v None h = absurd (false≢true h)
key_by v (Some None) h = absurd (false≢true h)
key_by v (Some (Some w)) h = ap (λ x. Some (Some x)) (eqb-true w v h)

-- a place in the row of a key has that key
pub place_from : (keys : List (Option ℕ)) (v k : ℕ) → has_number (places_of keys v) k ≡ true → slice_get keys k ≡ Some (Some v)
place_from keys v k h =
    let both = and_parts (has_number (range_with_len 0 (length keys)) k) (has (is_key v) (slice_get keys k)) (sym (has-filter (λ i. has (is_key v) (slice_get keys i)) (range_with_len 0 (length keys)) k) ∙ h) in
    key_by v (slice_get keys k) both.1

below_by : (n : Names) (o : Option ℕ) (k : ℕ) → has_number (gap_puts n o) k ≡ true → k < length n.puts
below_by n None k h = absurd (false≢true h)
below_by n (Some gap) k h =
    let within = slice_get_within (map put_gap n.puts) k (Some gap) (place_from (map put_gap n.puts) gap k h) in
    let long : length (map put_gap n.puts) ≡ length n.puts = length-map n.puts put_gap in
    omega (arith, within, long)

pub puts_below : (n : Names) (g : Graph) (v k : ℕ) → has_number (puts_at n g v) k ≡ true → k < length n.puts
puts_below n g v k h = below_by n (gap_at g v) k h

-- candidates

first_under : (room k : ℕ) (ks : List ℕ) → ((j : ℕ) → Contains (k ∷ ks) j → j < room) → k < room
first_under room k ks h = h k (0, omega arith, refl)

rest_under : (room k : ℕ) (ks : List ℕ) → ((j : ℕ) → Contains (k ∷ ks) j → j < room) → (j : ℕ) → Contains ks j → j < room
rest_under room k ks h j c = h j (suc c.0, omega (arith, c.1), c.2)

joined_set : (v : Verdict) (k : ℕ) (s : Numbers) → IsSet s → k < s.room → IsSet (record s { items = joined v k s.items })
joined_set Yes k s is l = IsSet-insert s k is l
joined_set No k s is l = record { ascending = is.ascending; below = is.below }
joined_set Open k s is l = record { ascending = is.ascending; below = is.below }

gathered_set : (v : ℕ → Verdict) (ks : List ℕ) (s : Numbers) → IsSet s → ((j : ℕ) → Contains ks j → j < s.room) → IsSet (record s { items = gathered v ks s.items })
gathered_set v [] s is under = record { ascending = is.ascending; below = is.below }
gathered_set v (k ∷ ks) s is under = gathered_set v ks (record s { items = joined (v k) k s.items }) (joined_set (v k) k s is (first_under s.room k ks under)) (rest_under s.room k ks under)

carried_set : (b : Bool) (s : Numbers) → IsSet s → IsSet (record s { items = carried b s.items })
carried_set true s is = record { ascending = tt; below = λ m h. absurd (false≢true h) }
carried_set false s is = record { ascending = is.ascending; below = is.below }

-- the candidates of a derived triple are a set of puts
pub derived_set : (n : Names) (g : Graph) (f : Facts) (t : Triple) → IsDerived n g f t → IsSet t.puts × (t.puts.room ≡ length n.puts)
derived_set n g f t (starts u b) = (subst (λ (w : Triple). IsSet w.puts) (sym b.is) (record { ascending = tt; below = λ m h. absurd (false≢true h) }), ap (λ (w : Triple). w.puts.room) b.is)
derived_set n g f t (follows s u d next) =
    let before = derived_set n g f s d in
    let room : s.puts.room ≡ length n.puts = before.1 in
    let held : Numbers = record { items = s.puts.items; room = length n.puts } in
    let same : s.puts ≡ held = λ i. record { items = s.puts.items; room = room i } in
    let is : IsSet held = subst IsSet same before.0 in
    let more : IsSet (record held { items = behind n g s }) = gathered_set (put_verdict n s.mark) (puts_at n g s.node) held is (λ j c. puts_below n g s.node j (Contains-has (puts_at n g s.node) j c)) in
    (subst (λ (w : Triple). IsSet w.puts) (sym next.is) (carried_set next.step.touched (record held { items = behind n g s }) more), ap (λ (w : Triple). w.puts.room) next.is)

-- pairs

-- the lesser first, and both below a room
abbrev AreOrdered : ℕ → ℕ × ℕ → Type 0
AreOrdered room p = (p.0 ≤ p.1) × (p.1 < room)

ordered_by : (b : Bool) (room j k : ℕ) → ltb k j ≡ b → j < room → k < room → AreOrdered room (if b then (k, j) else (j, k))
ordered_by true room j k e l m = let less : k < j = ltb-true k j e in (omega (arith, less), l)
ordered_by false room j k e l m = (ltb-false k j e, m)

with_ordered : (room k : ℕ) (held : List ℕ) (p : ℕ × ℕ) → k < room → ((j : ℕ) → Contains held j → j < room) → Contains (map (λ j. ordered j k) held) p → (p.0 ≤ p.1) × (p.1 < room)
with_ordered room k [] p l under (i, m, e) = absurd (omega (arith, m))
with_ordered room k (j ∷ held) p l under (zero, m, e) = subst (AreOrdered room) e (ordered_by (ltb k j) room j k refl (first_under room j held under) l)
with_ordered room k (j ∷ held) p l under (suc i, m, e) = with_ordered room k held p l (rest_under room j held under) (i, omega (arith, m), e)

with_by : (b : Bool) (room k : ℕ) (held : List ℕ) (p : ℕ × ℕ) → k < room → ((j : ℕ) → Contains held j → j < room) → Contains (pairs_with b k held) p → (p.0 ≤ p.1) × (p.1 < room)
with_by true room k held p l under h = with_ordered room k held p l under h
with_by false room k held p l under (i, m, e) = absurd (omega (arith, m))

pairs_ordered : (v : ℕ → Verdict) (b : ℕ → Bool) (ks : List ℕ) (s : Numbers) (p : ℕ × ℕ) → IsSet s → ((j : ℕ) → Contains ks j → j < s.room) → Contains (pairs_at v b ks s.items) p → (p.0 ≤ p.1) × (p.1 < s.room)
pairs_ordered v b [] s p is under (i, m, e) = absurd (omega (arith, m))
pairs_ordered v b (k ∷ ks) s p is under h =
    let within = first_under s.room k ks under in
    ⊎_elim
    (λ here. with_by (b k) s.room k s.items p within (λ j c. is.below j (Contains-has s.items j c)) here)
    (λ later. pairs_ordered v b ks (record s { items = joined (v k) k s.items }) p (joined_set (v k) k s is within) (rest_under s.room k ks under) later)
    (Contains-append_cases (pairs_with (b k) k s.items) (pairs_at v b ks (joined (v k) k s.items)) p h)

-- the puts of a pair are puts, the lesser first
pub pair_ordered : (n : Names) (g : Graph) (f : Facts) (p : ℕ × ℕ) → IsPair n g f p → (p.0 ≤ p.1) × (p.1 < length n.puts)
pair_ordered n g f p (t, d, makes) =
    let set = derived_set n g f t d in
    let under : (j : ℕ) → Contains (puts_at n g t.node) j → j < t.puts.room = λ j c. subst (λ m. j < m) (sym set.1) (puts_below n g t.node j (Contains-has (puts_at n g t.node) j c)) in
    let both = pairs_ordered (put_verdict n t.mark) (put_follows n t.mark) (puts_at n g t.node) t.puts p set.0 under makes in
    (both.0, subst (λ m. p.1 < m) set.1 both.1)
