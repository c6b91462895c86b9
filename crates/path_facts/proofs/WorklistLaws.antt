-- What carrying facts over an edge keeps, and how little can still change behind it.
use Rattle.std.proofs.Common.{◌≡◌, ◌≢◌, ◌↔◌, ℕ, zero, suc, ◌+◌, ◌-◌, ◌<◌, ◌≤◌, ◌==◌, ◌&&◌, ◌||◌, ◌⊎◌, inl, inr, ⊎_elim, Bool, true, false, not, cond, eqb, ltb, List, [], ◌∷◌, length, set, slice_get, get_or, Option, Some, refl, ap, sym, ◌∙◌, subst, arith}
use Rattle.std.proofs.lemmas.Bool.{true≢false, eqb-true, eq-eqb, or_cases, cases_eq, cases_Bool, or_left, or_right}
use Rattle.std.proofs.lemmas.List.{length-set}
use Rattle.std.proofs.lemmas.Option.{slice_get-get_or, slice_get_within, get_or_from_slice_get}
use Rattle.std.specs.List.{Contains, filter}
use Rattle.mf_set.specs.Numbers.{Numbers, IsSet, has as has_number, meet, with_number}
use Rattle.mf_set.proofs.NumberLaws.{has-meet, has-with_number}
use Rattle.mf_set.proofs.CountLaws.{length_within}
use Rattle.c_graph.specs.declared.graph.Edge.{Edge}
use Rattle.c_graph.specs.declared.graph.Graph.{Graph}
use Rattle.ts_domain.specs.declared.before.Before.{Before}
use Rattle.ts_domain.specs.declared.before.Before.TheVariants.{Always, Never, Where}
use Rattle.ts_domain.specs.declared.fact.Fact.{Fact}
use Rattle.ts_domain.specs.declared.names.Names.{Names}
use Rattle.ts_domain.specs.Deeds.{edge_deeds}
use Rattle.ts_domain.specs.Facts.{is_fact, number_of}
use Rattle.ts_domain.specs.Path.{Fails, along, starts, never, back, Reached, before_edge}
use Rattle.path_facts.specs.declared.worklist.Solving.{Solving}
use Rattle.path_facts.specs.Numbering.{holds, holds_before, is_known, room_of}
use Rattle.path_facts.specs.Worklist.{Adds, Applies, Good, IsSettled, Meets, total, weight}
use Rattle.path_facts.proofs.DeedLaws.{deeds_known}

-- lists with one element set anew

module _ {A : Type 0} where
  get_set : (xs : List A) (at : ℕ) (x y : A) → slice_get xs at ≡ Some x → slice_get (set xs at y) at ≡ Some y
  get_set [] at x y e = cc
  get_set (z ∷ xs) zero x y e = refl
  get_set (z ∷ xs) (suc at) x y e = get_set xs at x y e

  get_other : (xs : List A) (at j : ℕ) (y : A) → j ≢ at → slice_get (set xs at y) j ≡ slice_get xs j
  get_other [] at j y h = refl
  get_other (z ∷ xs) zero zero y h = absurd (h refl)
  get_other (z ∷ xs) zero (suc j) y h = refl
  get_other (z ∷ xs) (suc at) zero y h = refl
  get_other (z ∷ xs) (suc at) (suc j) y h = get_other xs at j y (λ e. h (ap suc e))

  set_same : (xs : List A) (at : ℕ) (x : A) → slice_get xs at ≡ Some x → set xs at x ≡ xs
  set_same [] at x e = cc
  set_same (z ∷ xs) zero x e = let same : z ≡ x = cc in ap (λ w. w ∷ xs) (sym same)
  set_same (z ∷ xs) (suc at) x e = ap (λ ws. z ∷ ws) (set_same xs at x e)

  pub one_value : (o : Option A) (a b : A) → o ≡ Some a → o ≡ Some b → a ≡ b
  one_value o a b h k = let is : Some a ≡ Some b = sym h ∙ k in cc

-- sets that meet

filter_shorter : (p : ℕ → Bool) (xs : List ℕ) → (filter p xs ≡ xs) ⊎ (length (filter p xs) < length xs)
filter_shorter p [] = inl refl
filter_shorter p (x ∷ xs) = by (p x) (filter_shorter p xs)
  where
    by : (b : Bool) → (filter p xs ≡ xs) ⊎ (length (filter p xs) < length xs) → (cond b (x ∷ filter p xs) (filter p xs) ≡ x ∷ xs) ⊎ (length (cond b (x ∷ filter p xs) (filter p xs)) < length (x ∷ xs))
    by true (inl e) = inl (ap (λ ys. x ∷ ys) e)
    by true (inr l) = inr (omega (arith, l))
    by false (inl e) = inr (let long : length (filter p xs) ≡ length xs = ap length e in omega (arith, long))
    by false (inr l) = inr (omega (arith, l))

total_set : (old : List Numbers) (at : ℕ) (x y : Numbers) → slice_get old at ≡ Some x → length y.items < length x.items → total (set old at y) < total old
total_set [] at x y e h = absurd cc
total_set (z ∷ old) zero x y e h = let same : z ≡ x = cc in let h' : length y.items < length z.items = subst (λ (w : Numbers). length y.items < length w.items) (sym same) h in omega (arith, h')
total_set (z ∷ old) (suc at) x y e h = let rest = total_set old at x y e h in omega (arith, rest)

shorter : (x y : Numbers) (more : List ℕ) (changed : Bool) → y ≡ record x { items = meet x.items more } → ((changed ≡ false) ↔ (y ≡ x)) → changed ≡ true → length y.items < length x.items
shorter x y more changed is told rose =
    let long : length y.items ≡ length (meet x.items more) = ap (λ (z : Numbers). length z.items) is in
    ⊎_elim (λ e. absurd (true≢false (sym rose ∙ told.1 (is ∙ ap (λ (us : List ℕ). record x { items = us }) e)))) (λ l. omega (arith, long, l)) (filter_shorter (has_number more) x.items)

pub meets_at : (to : ℕ) (other : Numbers) (changed : Bool) (old : List Numbers) (x y : Numbers) → slice_get old to ≡ Some x → y ≡ record x { items = meet x.items other.items } → ((changed ≡ false) ↔ (y ≡ x)) → Meets to other changed old (set old to y)
meets_at to other changed old x y at is told = record {
  there = λ z h. get_set old to x y at ∙ ap Some (is ∙ ap (λ (w : Numbers). record w { items = meet w.items other.items }) (one_value (slice_get old to) x z at h));
  apart = λ u o. get_other old to u y o;
  long = length-set old to y;
  same = λ kept. ap (set old to) (told.0 kept) ∙ set_same old to x at;
  less = λ rose. total_set old to x y at (shorter x y other.items changed is told rose);
  rooms = λ room all u z h. ⊎_elim (λ (e : u ≡ to). ap (λ (w : Numbers). w.room) (sym (one_value (slice_get (set old to y) u) y z (ap (slice_get (set old to y)) e ∙ get_set old to x y at) h) ∙ is) ∙ all to x at) (λ (o : u ≢ to). all u z (sym (get_other old to u y o) ∙ h)) (cases_eq u to);
}

-- one set behind a meeting, and the one before it
record Shrunk (n : Names) (to : ℕ) (carried : Numbers) (old : List Numbers) (u : ℕ) (y : Numbers) : Type 0 where
  x : Numbers
  at : slice_get old u ≡ Some x
  keeps : (f : Fact) → holds n x f ≡ false → holds n y f ≡ false
  loses : u ≡ to → (f : Fact) → holds n carried f ≡ false → holds n y f ≡ false
  from : (f : Fact) → holds n y f ≡ false → (holds n x f ≡ false) ⊎ ((u ≡ to) × (holds n carried f ≡ false))

and_first : (a b : Bool) → a ≡ false → (a && b) ≡ false
and_first true b h = absurd (true≢false h)
and_first false b h = refl

and_second : (a b : Bool) → b ≡ false → (a && b) ≡ false
and_second true b h = h
and_second false b h = refl

and_lost : (a b : Bool) → (a && b) ≡ false → (a ≡ false) ⊎ (b ≡ false)
and_lost true b h = inr h
and_lost false b h = inl refl

shrunk : (n : Names) (to : ℕ) (carried : Numbers) (b : Bool) (old new : List Numbers) → Meets to carried b old new → to < length old → (u : ℕ) (y : Numbers) → slice_get new u ≡ Some y → Shrunk n to carried old u y
shrunk n to carried b old new is l u y h =
    ⊎_elim
    (λ (e : u ≡ to).
    let none' : Numbers = record { items = []; room = 0 } in
    let x : Numbers = get_or old to none' in
    let before : slice_get old to ≡ Some x = slice_get-get_or old to none' l in
    let met : record x { items = meet x.items carried.items } ≡ y = one_value (slice_get new to) (record x { items = meet x.items carried.items }) y (is.there x before) (ap (slice_get new) (sym e) ∙ h) in
    here_shrunk x y before e met)
    (λ (o : u ≢ to). record { x = y; at = sym (is.apart u o) ∙ h; keeps = λ f k. k; loses = λ e f k. absurd (o e); from = λ f k. inl k })
    (cases_eq u to)
  where
    here_shrunk : (x y : Numbers) → slice_get old to ≡ Some x → u ≡ to → record x { items = meet x.items carried.items } ≡ y → Shrunk n to carried old u y
    here_shrunk x y before e met =
        let both : (f : Fact) → holds n y f ≡ (holds n x f && holds n carried f) = λ f. ap (λ (w : Numbers). has_number w.items (number_of n f)) (sym met) ∙ has-meet x.items carried.items (number_of n f) in
        record {
          x = x;
          at = ap (slice_get old) e ∙ before;
          keeps = λ f k. both f ∙ and_first (holds n x f) (holds n carried f) k;
          loses = λ same f k. both f ∙ and_second (holds n x f) (holds n carried f) k;
          from = λ f k. ⊎_elim (λ a. inl a) (λ c. inr (e, c)) (and_lost (holds n x f) (holds n carried f) (sym (both f) ∙ k));
        }

-- nodes that are added

added_same : (k : ℕ) (b : Bool) (old new : Numbers) → Adds k b old new → has_number new.items k ≡ true
added_same k b old new is = ap (λ (s : Numbers). has_number s.items k) is.is ∙ has-with_number old.items k k ∙ or_left (eqb k k) (has_number old.items k) (eq-eqb k k refl)

pub added_keeps : (k : ℕ) (b : Bool) (old new : Numbers) → Adds k b old new → (u : ℕ) → has_number old.items u ≡ true → has_number new.items u ≡ true
added_keeps k b old new is u h = ap (λ (s : Numbers). has_number s.items u) is.is ∙ has-with_number old.items k u ∙ or_right (eqb k u) (has_number old.items u) h

with_split : (xs : List ℕ) (k u : ℕ) → has_number (with_number xs k) u ≡ true → (k ≡ u) ⊎ (has_number xs u ≡ true)
with_split xs k u h = ⊎_elim (λ e. inl (eqb-true k u e)) (λ o. inr o) (or_cases (eqb k u) (has_number xs u) (sym (has-with_number xs k u) ∙ h))

added_split : (k : ℕ) (b : Bool) (old new : Numbers) → Adds k b old new → (u : ℕ) → has_number new.items u ≡ true → (k ≡ u) ⊎ (has_number old.items u ≡ true)
added_split k b old new is u h = with_split old.items k u (sym (ap (λ (s : Numbers). has_number s.items u) is.is) ∙ h)

-- pending nodes
pended_kept : (b : Bool) (xs : List ℕ) (k u : ℕ) → has_number (cond b (with_number xs k) xs) u ≡ false → has_number xs u ≡ false
pended_kept true xs k u h = ⊎_elim (λ (t : has_number xs u ≡ true). absurd (true≢false (sym (has-with_number xs k u ∙ or_right (eqb k u) (has_number xs u) t) ∙ h))) (λ f. f) (cases_Bool (has_number xs u))
pended_kept false xs k u h = h

pended_split : (b : Bool) (xs : List ℕ) (k u : ℕ) → has_number (cond b (with_number xs k) xs) u ≡ true → (k ≡ u) ⊎ (has_number xs u ≡ true)
pended_split true xs k u h = with_split xs k u h
pended_split false xs k u h = inr h

not_pended : (b : Bool) (xs : List ℕ) (k : ℕ) → has_number (cond b (with_number xs k) xs) k ≡ false → b ≡ false
not_pended true xs k h = absurd (true≢false (sym (has-with_number xs k k ∙ or_left (eqb k k) (has_number xs k) (eq-eqb k k refl)) ∙ h))
not_pended false xs k h = refl

neither : (a b : Bool) → (a || b) ≡ false → (a ≡ false) × (b ≡ false)
neither true b h = absurd (true≢false h)
neither false b h = (refl, h)

not_false : (b : Bool) → not b ≡ false → b ≡ true
not_false true h = refl
not_false false h = absurd (true≢false h)

-- an edge is gone over

module _ (n : Names) (before : Fact → Before) (from to : ℕ) (s t : Solving) (is : Applies n before from to s t) where
  abbrev pending_is : (u : ℕ) → has_number t.pending.items u ≡ has_number (cond (is.smaller || is.fresh) (with_number s.pending.items to) s.pending.items) u
  pending_is u = ap (λ (x : Numbers). has_number x.items u) is.pending

  pub was_not_pending : (u : ℕ) → has_number t.pending.items u ≡ false → has_number s.pending.items u ≡ false
  was_not_pending u h = pended_kept (is.smaller || is.fresh) s.pending.items to u (sym (pending_is u) ∙ h)

  pub was_pending : (u : ℕ) → has_number t.pending.items u ≡ true → (to ≡ u) ⊎ (has_number s.pending.items u ≡ true)
  was_pending u h = pended_split (is.smaller || is.fresh) s.pending.items to u (sym (pending_is u) ∙ h)

  -- a node that is not pending behind it is as before
  pub as_before : (u : ℕ) → has_number t.reached.items u ≡ true → has_number t.pending.items u ≡ false → (slice_get t.at u ≡ slice_get s.at u) × (has_number s.reached.items u ≡ true)
  as_before u r p =
      ⊎_elim
      (λ (e : u ≡ to).
      let kept = neither is.smaller is.fresh (not_pended (is.smaller || is.fresh) s.pending.items to (sym (pending_is to) ∙ ap (has_number t.pending.items) (sym e) ∙ p)) in
      (ap (λ (xs : List Numbers). slice_get xs u) (is.meets.same kept.0), ap (has_number s.reached.items) e ∙ not_false (has_number s.reached.items to) (sym is.reached.told ∙ kept.1)))
      (λ (o : u ≢ to). (is.meets.apart u o, ⊎_elim (λ (e : to ≡ u). absurd (o (sym e))) (λ h. h) (added_split to is.fresh s.reached t.reached is.reached u r)))
      (cases_eq u to)

contains_at : (g : Graph) (k : ℕ) (e : Edge) → slice_get g.edges k ≡ Some e → Contains g.edges e
contains_at g k e at = (k, slice_get_within g.edges k e at, get_or_from_slice_get g.edges k e e at)

module _ (n : Names) (g : Graph) (v k0 : ℕ) (e0 : Edge) (todo : List ℕ) (s t : Solving) (at0 : slice_get g.edges k0 ≡ Some e0) (from0 : e0.from ≡ v) (good : Good n g v (k0 ∷ todo) s) (come : has_number s.reached.items v ≡ true) (within : e0.to < length s.at) (is : Applies n (before_edge n g e0) e0.from e0.to s t) where
  reached_from : has_number s.reached.items e0.from ≡ true
  reached_from = ap (has_number s.reached.items) from0 ∙ come

  abbrev behind : (u : ℕ) (y : Numbers) → slice_get t.at u ≡ Some y → Shrunk n e0.to is.carried s.at u y
  behind u y h = shrunk n e0.to is.carried is.smaller s.at t.at is.meets within u y h

  fails_by : (f : Fact) (b : Before) → before_edge n g e0 f ≡ b → is_known n b ≡ true → holds_before n is.source b ≡ false → Fails n g e0.to f
  fails_by f Always e k h = absurd (true≢false h)
  fails_by f Never e k h = never e0 f (contains_at g k0 e0 at0) (good.reached e0.from reached_from) e
  fails_by f (Where p) e k h = back e0 f p (contains_at g k0 e0 at0) (good.reached e0.from reached_from) e (good.sound e0.from is.source p is.first k h)

  fails_over : (f : Fact) → is_fact n f ≡ true → holds n is.carried f ≡ false → Fails n g e0.to f
  fails_over f h lack = fails_by f (before_edge n g e0 f) refl (deeds_known n (edge_deeds n g e0) f h) (sym (is.carries.facts f h) ∙ lack)

  sound_over : (u : ℕ) (y : Numbers) (f : Fact) → slice_get t.at u ≡ Some y → is_fact n f ≡ true → holds n y f ≡ false → Fails n g u f
  sound_over u y f at h lack =
      let sh = behind u y at in
      ⊎_elim (λ old. good.sound u sh.x f sh.at h old) (λ new. subst (λ w. Fails n g w f) (sym new.0) (fails_over f h new.1)) (sh.from f lack)

  reached_over : (u : ℕ) → has_number t.reached.items u ≡ true → Reached g u
  reached_over u h =
      ⊎_elim (λ (e : e0.to ≡ u). subst (Reached g) e (along e0 (contains_at g k0 e0 at0) (good.reached e0.from reached_from))) (λ old. good.reached u old)
      (added_split e0.to is.fresh s.reached t.reached is.reached u h)

  -- an edge that was settled is settled still
  settled_still : (e : Edge) → slice_get t.at e.from ≡ slice_get s.at e.from → IsSettled n g s e → IsSettled n g t e
  settled_still e same old = record {
    reached = added_keeps e0.to is.fresh s.reached t.reached is.reached e.to old.reached;
    facts = λ x y f hx hy h lack. let sh = behind e.to y hy in sh.keeps f (old.facts x sh.x f (sym same ∙ hx) sh.at h lack);
  }

  settled_now : slice_get t.at e0.from ≡ slice_get s.at e0.from → IsSettled n g t e0
  settled_now same = record {
    reached = added_same e0.to is.fresh s.reached t.reached is.reached;
    facts = λ x y f hx hy h lack.
        let sh = behind e0.to y hy in
        let source : x ≡ is.source = one_value (slice_get s.at e0.from) x is.source (sym same ∙ hx) is.first in
        sh.loses refl f (is.carries.facts f h ∙ ap (λ (w : Numbers). holds_before n w (before_edge n g e0 f)) (sym source) ∙ lack);
  }

  closed_by : (k : ℕ) (e : Edge) → slice_get g.edges k ≡ Some e → slice_get t.at e.from ≡ slice_get s.at e.from → has_number (k0 ∷ todo) k ≡ true → e.from ≡ v → IsSettled n g t e ⊎ ((e.from ≡ v) × (has_number todo k ≡ true))
  closed_by k e at same left from =
      ⊎_elim
      (λ first.
      let one : e0 ≡ e = one_value (slice_get g.edges k) e0 e (ap (slice_get g.edges) (sym (eqb-true k0 k first)) ∙ at0) at in
      inl (subst (IsSettled n g t) one (settled_now (subst (λ (d : Edge). slice_get t.at d.from ≡ slice_get s.at d.from) (sym one) same))))
      (λ later. inr (from, later))
      (or_cases (k0 == k) (has_number todo k) left)

  pub good_over : Good n g v todo t
  good_over = record {
    sized = record {
      rooms = is.meets.rooms (room_of n) good.sized.rooms;
      pending = ap (λ (x : Numbers). x.room) is.pending ∙ good.sized.pending ∙ sym is.meets.long;
      reached = ap (λ (x : Numbers). x.room) is.reached.is ∙ good.sized.reached ∙ sym is.meets.long;
    };
    sound = sound_over;
    reached = reached_over;
    waiting = λ u h. ⊎_elim (λ (e : e0.to ≡ u). ap (has_number t.reached.items) (sym e) ∙ added_same e0.to is.fresh s.reached t.reached is.reached) (λ old. added_keeps e0.to is.fresh s.reached t.reached is.reached u (good.waiting u old)) (was_pending n (before_edge n g e0) e0.from e0.to s t is u h);
    first = added_keeps e0.to is.fresh s.reached t.reached is.reached 0 good.first;
    starts = λ y f h e k. let sh = behind 0 y h in sh.keeps f (good.starts sh.x f sh.at e k);
    closed = λ k e at r p.
        let old = as_before n (before_edge n g e0) e0.from e0.to s t is e.from r p in
        ⊎_elim (λ settled. inl (settled_still e old.0 settled)) (λ left. closed_by k e at old.0 left.1 left.0) (good.closed k e at old.1 (was_not_pending n (before_edge n g e0) e0.from e0.to s t is e.from p));
  }

-- what can still change

with_longer : (xs : List ℕ) (k : ℕ) → (length xs ≤ length (with_number xs k)) × ((length (with_number xs k) ≤ length xs + 1) × ((with_number xs k ≡ xs) ⊎ (length xs < length (with_number xs k))))
with_longer [] k = (omega arith, (omega arith, inr (omega arith)))
with_longer (x ∷ xs) k = by (ltb k x) (eqb k x) (with_longer xs k)
  where
    by : (a b : Bool) → (length xs ≤ length (with_number xs k)) × ((length (with_number xs k) ≤ length xs + 1) × ((with_number xs k ≡ xs) ⊎ (length xs < length (with_number xs k))))
        → (length (x ∷ xs) ≤ length (cond a (k ∷ x ∷ xs) (cond b (x ∷ xs) (x ∷ with_number xs k)))) × ((length (cond a (k ∷ x ∷ xs) (cond b (x ∷ xs) (x ∷ with_number xs k))) ≤ length (x ∷ xs) + 1) × ((cond a (k ∷ x ∷ xs) (cond b (x ∷ xs) (x ∷ with_number xs k)) ≡ x ∷ xs) ⊎ (length (x ∷ xs) < length (cond a (k ∷ x ∷ xs) (cond b (x ∷ xs) (x ∷ with_number xs k))))))
    by true b h = (omega arith, (omega arith, inr (omega arith)))
    by false true h = (omega arith, (omega arith, inl refl))
    by false false h = let low = h.0 in let high = h.1.0 in (omega (arith, low), (omega (arith, high), ⊎_elim (λ e. inl (ap (λ ys. x ∷ ys) e)) (λ l. inr (omega (arith, l))) h.1.1))

fresh_longer : (k : ℕ) (old new : Numbers) → Adds k true old new → length old.items < length new.items
fresh_longer k old new is =
    let long : length new.items ≡ length (with_number old.items k) = ap (λ (x : Numbers). length x.items) is.is in
    ⊎_elim (λ (e : with_number old.items k ≡ old.items). absurd (true≢false (is.told ∙ ap not (sym (ap (λ xs. has_number xs k) e) ∙ has-with_number old.items k k ∙ or_left (eqb k k) (has_number old.items k) (eq-eqb k k refl))))) (λ l. omega (arith, long, l)) (with_longer old.items k).1.1

added_long : (k : ℕ) (b : Bool) (old new : Numbers) → Adds k b old new → length old.items ≤ length new.items
added_long k b old new is =
    let long : length new.items ≡ length (with_number old.items k) = ap (λ (x : Numbers). length x.items) is.is in
    let low = (with_longer old.items k).0 in omega (arith, long, low)

set_within : (x : Numbers) → IsSet x → length x.items ≤ x.room
set_within x is =
    let most : 0 + length x.items ≤ x.room = length_within 0 x.room x.items is.ascending is.below (omega arith) in
    omega (arith, most)

pended_long : (b : Bool) (xs : List ℕ) (k : ℕ) → length (cond b (with_number xs k) xs) ≤ length xs + 1
pended_long true xs k = (with_longer xs k).1.0
pended_long false xs k = omega arith

weight_by : (to : ℕ) (a b : Bool) (carried : Numbers) (s t : Solving) → Meets to carried a s.at t.at → Adds to b s.reached t.reached → t.pending ≡ record s.pending { items = cond (a || b) (with_number s.pending.items to) s.pending.items } → weight t ≤ weight s
weight_by to true b carried s t meets adds pending =
    let less : total t.at < total s.at = meets.less refl in
    let room : t.reached.room ≡ s.reached.room = ap (λ (x : Numbers). x.room) adds.is in
    let more = added_long to b s.reached t.reached adds in
    let long : length t.pending.items ≡ length (with_number s.pending.items to) = ap (λ (x : Numbers). length x.items) pending in
    let most = (with_longer s.pending.items to).1.0 in
    omega (arith, less, room, more, long, most)
weight_by to false true carried s t meets adds pending =
    let same : total t.at ≡ total s.at = ap total (meets.same refl) in
    let room : t.reached.room ≡ s.reached.room = ap (λ (x : Numbers). x.room) adds.is in
    let more = fresh_longer to s.reached t.reached adds in
    let within = set_within t.reached adds.set in
    let long : length t.pending.items ≡ length (with_number s.pending.items to) = ap (λ (x : Numbers). length x.items) pending in
    let most = (with_longer s.pending.items to).1.0 in
    omega (arith, same, room, more, within, long, most)
weight_by to false false carried s t meets adds pending =
    let same : total t.at ≡ total s.at = ap total (meets.same refl) in
    let room : t.reached.room ≡ s.reached.room = ap (λ (x : Numbers). x.room) adds.is in
    let more = added_long to false s.reached t.reached adds in
    let long : length t.pending.items ≡ length s.pending.items = ap (λ (x : Numbers). length x.items) pending in
    omega (arith, same, room, more, long)

pub weight_over : (n : Names) (before : Fact → Before) (from to : ℕ) (s t : Solving) → Applies n before from to s t → weight t ≤ weight s
weight_over n before from to s t is = weight_by to is.smaller is.fresh is.carried s t is.meets is.reached is.pending
