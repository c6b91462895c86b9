-- From one pending node to the next, and what holds when none is left.
use Rattle.std.proofs.Common.{◌≡◌, ◌≢◌, ℕ, zero, suc, ◌+◌, ◌-◌, ◌<◌, ◌≤◌, ◌==◌, ◌&&◌, ◌⊎◌, inl, inr, ⊎_elim, Bool, true, false, not, cond, nat_le, eqb, leb, List, [], ◌∷◌, length, map, drop, slice_get, get_or, Option, None, Some, refl, ap, sym, ◌∙◌, subst, arith}
use Rattle.std.proofs.lemmas.Bool.{true≢false, false≢true, eqb-true, eq-eqb, ne_eqb, le-leb, and_parts, and_from, cases_eq, cases_Bool, or_left, or_right}
use Rattle.std.proofs.lemmas.Option.{slice_get_within, slice_get-map}
use Rattle.std.proofs.lemmas.List.{length-map}
use Rattle.std.proofs.Math.Seq.{drop-cons}
use Rattle.std.specs.List.{All, filter, find, range_with_len}
use Rattle.std.specs.Option.{option_map}
use Rattle.c_tree.specs.Typing.{has}
use Rattle.mf_set.specs.Numbers.{Numbers, has as has_number, without_number}
use Rattle.mf_set.proofs.NumberLaws.{find_has, has-filter, has-without_number}
use Rattle.c_graph.specs.declared.graph.Edge.{Edge}
use Rattle.c_graph.specs.declared.graph.Graph.{Graph}
use Rattle.ts_domain.specs.declared.deed.Deed.{Deed}
use Rattle.ts_domain.specs.declared.names.Names.{Names}
use Rattle.ts_domain.specs.Deeds.{edge_deeds}
use Rattle.ts_domain.specs.Facts.{before_deeds}
use Rattle.ts_domain.specs.Path.{before_edge}
use Rattle.ts_domain.specs.Rows.{AreRows, is_key, row}
use Rattle.path_facts.specs.declared.worklist.Solving.{Solving}
use Rattle.path_facts.specs.Paths.{BeginsAt, EndsWithin, from_of}
use Rattle.path_facts.specs.Worklist.{Applies, Good, Passing, Steps, weight}
use Rattle.path_facts.proofs.WorklistLaws.{added_keeps, good_over, one_value, weight_over}

-- places of edges by their first nodes

has_range : (a m k : ℕ) → a ≤ k → k < a + m → has_number (range_with_len a m) k ≡ true
has_range a zero k p q = absurd (omega (arith, p, q))
has_range a (suc m) k p q =
    ⊎_elim (λ (e : a ≡ k). or_left (eqb a k) (has_number (range_with_len (a + 1) m) k) (eq-eqb a k e))
    (λ (o : a ≢ k). or_right (eqb a k) (has_number (range_with_len (a + 1) m) k) (has_range (a + 1) m k (omega (arith, p, o)) (omega (arith, q)))) (cases_eq a k)

key_at : (g : Graph) (v k : ℕ) → has (is_key v) (slice_get (map from_of g.edges) k) ≡ has (λ (e : Edge). e.from == v) (slice_get g.edges k)
key_at g v k = ap (has (is_key v)) (slice_get-map from_of g.edges k) ∙ by (slice_get g.edges k)
  where
    by : (o : Option Edge) → has (is_key v) (option_map from_of o) ≡ has (λ (e : Edge). e.from == v) o
    by None = refl
    by (Some e) = refl

pub in_row : (g : Graph) (rows : List (List ℕ)) (v k : ℕ) (e : Edge) → AreRows (map from_of g.edges) rows → slice_get g.edges k ≡ Some e → e.from ≡ v → has_number (row rows v) k ≡ true
in_row g rows v k e are at from =
    let keys : List (Option ℕ) = map from_of g.edges in
    let long : length keys ≡ length g.edges = length-map g.edges from_of in
    let within : k < length g.edges = slice_get_within g.edges k e at in
    ap (λ xs. has_number xs k) (are v) ∙ has-filter (λ i. has (is_key v) (slice_get keys i)) (range_with_len 0 (length keys)) k
    ∙ and_from (has_number (range_with_len 0 (length keys)) k) (has (is_key v) (slice_get keys k)) (has_range 0 (length keys) k (omega arith) (omega (arith, long, within)))
    (key_at g v k ∙ ap (has (λ (d : Edge). d.from == v)) at ∙ eq-eqb e.from v from)

begins_by : (g : Graph) (v k : ℕ) (o : Option Edge) → slice_get g.edges k ≡ o → has (λ (e : Edge). e.from == v) o ≡ true → BeginsAt g v k
begins_by g v k None at h = absurd (false≢true h)
begins_by g v k (Some e) at h = (e, at, eqb-true e.from v h)

row_begins : (g : Graph) (rows : List (List ℕ)) (v k : ℕ) → AreRows (map from_of g.edges) rows → has_number (row rows v) k ≡ true → BeginsAt g v k
row_begins g rows v k are h =
    let keys : List (Option ℕ) = map from_of g.edges in
    let both = and_parts (has_number (range_with_len 0 (length keys)) k) (has (is_key v) (slice_get keys k)) (sym (has-filter (λ i. has (is_key v) (slice_get keys i)) (range_with_len 0 (length keys)) k) ∙ ap (λ xs. has_number xs k) (sym (are v)) ∙ h) in
    begins_by g v k (slice_get g.edges k) refl (sym (key_at g v k) ∙ both.1)

has_at : (xs : List ℕ) (i d : ℕ) → i < length xs → has_number xs (get_or xs i d) ≡ true
has_at [] i d l = absurd (omega (arith, l))
has_at (x ∷ xs) zero d l = or_left (eqb x x) (has_number xs x) (eq-eqb x x refl)
has_at (x ∷ xs) (suc i) d l = or_right (eqb x (get_or xs i d)) (has_number xs (get_or xs i d)) (has_at xs i d (omega (arith, l)))

pub rows_begin : (g : Graph) (rows : List (List ℕ)) (v : ℕ) → AreRows (map from_of g.edges) rows → All (BeginsAt g v) (row rows v)
rows_begin g rows v are i d l = row_begins g rows v (get_or (row rows v) i d) are (has_at (row rows v) i d l)

-- a pending node is taken

abbrev pub taken : ℕ → Solving → Solving
taken v s = record s { pending = record s.pending { items = without_number s.pending.items v } }

without_other : (xs : List ℕ) (k u : ℕ) → u ≢ k → has_number (without_number xs k) u ≡ false → has_number xs u ≡ false
without_other xs k u o h =
    ⊎_elim (λ (t : has_number xs u ≡ true). absurd (true≢false (sym (has-without_number xs k u ∙ and_from (has_number xs u) (not (eqb u k)) t (ap not (ne_eqb u k o))) ∙ h))) (λ f. f) (cases_Bool (has_number xs u))

pub good_taken : (n : Names) (g : Graph) (rows : List (List ℕ)) (v : ℕ) (s : Solving) → AreRows (map from_of g.edges) rows → Good n g 0 [] s → Good n g v (row rows v) (taken v s)
good_taken n g rows v s are good = record {
  sized = record { rooms = good.sized.rooms; pending = good.sized.pending; reached = good.sized.reached };
  sound = good.sound;
  reached = good.reached;
  waiting = λ u h. good.waiting u (and_parts (has_number s.pending.items u) (not (eqb u v)) (sym (has-without_number s.pending.items v u) ∙ h)).0;
  first = good.first;
  starts = good.starts;
  closed = λ k e at r p.
      ⊎_elim
      (λ (same : e.from ≡ v). inr (same, in_row g rows v k e are at same))
      (λ (o : e.from ≢ v). ⊎_elim (λ settled. inl (record { reached = settled.reached; facts = settled.facts })) (λ left. absurd (false≢true left.1)) (good.closed k e at r (without_other s.pending.items v e.from o p)))
      (cases_eq e.from v);
}

filter_less : (p : ℕ → Bool) (xs : List ℕ) → (filter p xs ≡ xs) ⊎ (length (filter p xs) < length xs)
filter_less p [] = inl refl
filter_less p (x ∷ xs) = by (p x) (filter_less p xs)
  where
    by : (b : Bool) → (filter p xs ≡ xs) ⊎ (length (filter p xs) < length xs) → (cond b (x ∷ filter p xs) (filter p xs) ≡ x ∷ xs) ⊎ (length (cond b (x ∷ filter p xs) (filter p xs)) < length (x ∷ xs))
    by true (inl e) = inl (ap (λ ys. x ∷ ys) e)
    by true (inr l) = inr (omega (arith, l))
    by false (inl e) = inr (let long : length (filter p xs) ≡ length xs = ap length e in omega (arith, long))
    by false (inr l) = inr (omega (arith, l))

pub taken_less : (v : ℕ) (s : Solving) → has_number s.pending.items v ≡ true → weight (taken v s) < weight s
taken_less v s h =
    ⊎_elim
    (λ (e : without_number s.pending.items v ≡ s.pending.items). absurd (true≢false (sym h ∙ ap (λ xs. has_number xs v) (sym e) ∙ has-without_number s.pending.items v v ∙ no_more (has_number s.pending.items v))))
    (λ l. omega (arith, l))
    (filter_less (λ u. not (eqb u v)) s.pending.items)
  where
    no_more : (b : Bool) → (b && not (eqb v v)) ≡ false
    no_more true = ap not (eq-eqb v v refl)
    no_more false = refl

pub none_pending : (xs : List ℕ) → find (nat_le 0) xs ≡ None → xs ≡ []
none_pending [] h = refl
none_pending (x ∷ xs) h = let from : leb 0 x ≡ true = le-leb 0 x (omega arith) in let is : Some x ≡ None = ap (λ b. cond b (Some x) (find (nat_le 0) xs)) (sym from) ∙ h in cc

-- one edge of a node after the other

pub deeds_at : (n : Names) (g : Graph) (all : List (List Deed)) (k : ℕ) (edge : Edge) (ds : List Deed) → all ≡ map (edge_deeds n g) g.edges → slice_get g.edges k ≡ Some edge → slice_get all k ≡ Some ds → ds ≡ edge_deeds n g edge
deeds_at n g all k edge ds is at there =
    one_value (slice_get all k) ds (edge_deeds n g edge) there (ap (λ (xs : List (List Deed)). slice_get xs k) is ∙ slice_get-map (edge_deeds n g) g.edges k ∙ ap (option_map (edge_deeds n g)) at)

pub passing_on : (n : Names) (g : Graph) (v : ℕ) (places : List ℕ) (i : ℕ) (edge : Edge) (ds : List Deed) (old s t : Solving) → i < length places → BeginsAt g v (get_or places i 0) → slice_get g.edges (get_or places i 0) ≡ Some edge
    → ds ≡ edge_deeds n g edge → EndsWithin (length old.at) g → Passing n g v (drop i places) old s → Applies n (before_deeds n ds) edge.from edge.to s t → Passing n g v (drop (i + 1) places) old t
passing_on n g v places i edge ds old s t l begins at same ends p does =
    let on : suc i ≡ i + 1 = omega arith in
    let from : edge.from ≡ v = ap (λ (e : Edge). e.from) (one_value (slice_get g.edges (get_or places i 0)) edge begins.0 at begins.1) ∙ begins.2 in
    let left : drop i places ≡ get_or places i 0 ∷ drop (i + 1) places = drop-cons places i 0 l ∙ ap (λ j. get_or places i 0 ∷ drop j places) on in
    let good : Good n g v (get_or places i 0 ∷ drop (i + 1) places) s = subst (λ xs. Good n g v xs s) left p.good in
    let is : Applies n (before_edge n g edge) edge.from edge.to s t = subst (λ xs. Applies n (before_deeds n xs) edge.from edge.to s t) same does in
    let within : edge.to < length s.at = omega (arith, (ends (get_or places i 0) edge at).1, p.long) in
    let lighter : weight t ≤ weight s = weight_over n (before_edge n g edge) edge.from edge.to s t is in
    record {
      good = good_over n g v (get_or places i 0) edge (drop (i + 1) places) s t at from good p.reached within is;
      reached = added_keeps edge.to is.fresh s.reached t.reached is.reached v p.reached;
      long = is.meets.long ∙ p.long;
      weight = omega (arith, lighter, p.weight);
    }

-- one node after the other

pub step_good : (n : Names) (g : Graph) (rows : List (List ℕ)) (places : List ℕ) (v : ℕ) (s : Solving) (p : Numbers) → AreRows (map from_of g.edges) rows → places ≡ row rows v
    → p ≡ record s.pending { items = without_number s.pending.items v } → Good n g 0 [] s → Good n g v places (record s { pending = p })
step_good n g rows places v s p are is made good =
    subst (λ (q : Numbers). Good n g v places (record s { pending = q })) (sym made) (subst (λ xs. Good n g v xs (taken v s)) (sym is) (good_taken n g rows v s are good))

pub step_reached : (n : Names) (g : Graph) (v : ℕ) (s : Solving) → Good n g 0 [] s → find (nat_le 0) s.pending.items ≡ Some v → has_number s.reached.items v ≡ true
step_reached n g v s good next = good.waiting v (find_has (nat_le 0) s.pending.items v next)

pub step_done : (n : Names) (g : Graph) (v : ℕ) (s : Solving) (p : Numbers) (t : Solving) → find (nat_le 0) s.pending.items ≡ Some v → p ≡ record s.pending { items = without_number s.pending.items v }
    → Passing n g v [] (record s { pending = p }) t → Steps n g true s t
step_done n g v s p t next made passed =
    let q : Passing n g v [] (taken v s) t = subst (λ (r : Numbers). Passing n g v [] (record s { pending = r }) t) made passed in
    let lighter : weight (taken v s) < weight s = taken_less v s (find_has (nat_le 0) s.pending.items v next) in
    record {
      good = record {
        sized = q.good.sized;
        sound = q.good.sound;
        reached = q.good.reached;
        waiting = q.good.waiting;
        first = q.good.first;
        starts = q.good.starts;
        closed = λ k e at r w. ⊎_elim (λ settled. inl settled) (λ left. absurd (false≢true left.1)) (q.good.closed k e at r w);
      };
      long = q.long;
      ended = λ no'. absurd (true≢false no');
      less = λ yes'. omega (arith, lighter, q.weight);
    }

pub step_ended : (n : Names) (g : Graph) (s : Solving) → Good n g 0 [] s → find (nat_le 0) s.pending.items ≡ None → Steps n g false s s
step_ended n g s good none' = record { good = good; long = refl; ended = λ e. none_pending s.pending.items none'; less = λ yes'. absurd (false≢true yes') }
