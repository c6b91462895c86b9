-- Going through one triple more, and what holds when all have been gone through.
use Rattle.std.proofs.Common.{◌≡◌, ◌≢◌, ℕ, zero, suc, ◌+◌, ◌<◌, ◌≤◌, ◌||◌, ◌↔◌, ◌⊎◌, inl, inr, ⊎_elim, Bool, true, false, nat_eq, cond, List, [], ◌∷◌, length, map, slice_get, get_or, Option, None, Some, refl, ap, sym, ◌∙◌, subst, arith}
use Rattle.std.proofs.lemmas.Bool.{true≢false, false≢true, eqb-true, eq-eqb, cases_eq, cases_Bool, or_cases, or_left, or_right}
use Rattle.std.proofs.lemmas.Map.Made.{AllPairs-from_IsDistinct, IsDistinct-from_AllPairs, length-le_from_is_member}
use Rattle.std.proofs.lemmas.Option.{slice_get_within}
use Rattle.std.specs.List.{AllPairs, Contains, IsDistinct, flat_map, list_any}
use Rattle.c_tree.specs.Typing.{has}
use Rattle.indexmap.specs.IndexSet.{insert_all}
use Rattle.c_graph.specs.declared.graph.Edge.{Edge}
use Rattle.c_graph.specs.declared.graph.Graph.{Graph}
use Rattle.mf_set.specs.Numbers.{Numbers, has as has_number}
use Rattle.mf_set.proofs.NumberLaws.{has-Contains, Contains-has}
use Rattle.ts_domain.specs.declared.facts.Facts.{Facts}
use Rattle.ts_domain.specs.declared.marks.Mark.{Mark}
use Rattle.ts_domain.specs.declared.marks.Step.{Step}
use Rattle.ts_domain.specs.declared.names.Names.{Names}
use Rattle.ts_domain.specs.declared.triples.Derived.{Derived}
use Rattle.ts_domain.specs.declared.triples.Triple.{Triple}
use Rattle.ts_domain.specs.Derived.{carried, forbidden_at, gap_at, pairs_at, put_follows, put_verdict, puts_at, starts, follows, triple, AreDerived, Forbids, HasManyTriples, HasWideEdge, IsBorn, IsDerived, IsForbidden, IsNext, IsPair, Pairs, PassesStates, Touches}
use Rattle.ts_domain.specs.Path.{Reached}
use Rattle.ts_domain.specs.Post.{born, is_wide_edge, post}
use Rattle.ts_domain.specs.Rows.{row, AreRows}
use Rattle.ts_domain.proofs.Members.{any_at, any_from, at_first, in_flat_map, of_flat_map}
use Rattle.typestate_fixpoint.specs.Gaps.{same_pair, HasMore}
use Rattle.ts_domain.specs.Reaching.{from_of, BeginsAt, IsClosed}
use Rattle.typestate_fixpoint.specs.Steps.{born_from, born_over, born_triple, edge_forbids, edge_triples, is_wide_at, next_triple, place_forbids, place_triples, same_triple, touches, HasWide}
use Rattle.typestate_fixpoint.specs.Worklist.{behind_set, AreAll, Expands, Going}
use Rattle.ts_domain.proofs.KeyLaws.{closed_on, element_at, element_from, first_or, key_before, keys_from, keys_keep, keys_once, keys_stay, keys_to, one_element}
use Rattle.ts_domain.proofs.RowPlaces.{in_row, row_begins}
use Rattle.typestate_fixpoint.proofs.TripleLaws.{pair_decides, pair_is, pair_laws, triple_decides, triple_is, triple_laws}

module _ {A : Type 0} where
  nowhere : (x : A) → Contains [] x → ⊥
  nowhere x (k, l, e) = omega (arith, l)

module _ {A B : Type 0} where
  in_map : (f : A → B) (xs : List A) (x : A) → Contains xs x → Contains (map f xs) (f x)
  in_map f [] x h = absurd (nowhere x h)
  in_map f (y ∷ ys) x h =
      ⊎_elim (λ e. subst (λ z. Contains (map f (y ∷ ys)) (f z)) e (at_first (f y) (map f ys))) (λ c. let r = in_map f ys x c in (suc r.0, omega (arith, r.1), r.2)) (first_or y ys x h)

  of_map : (f : A → B) (xs : List A) (z : B) → Contains (map f xs) z → (x : A) × Contains xs x × (f x ≡ z)
  of_map f [] z h = absurd (nowhere z h)
  of_map f (y ∷ ys) z h =
      ⊎_elim (λ e. (y, at_first y ys, e)) (λ c. let r = of_map f ys z c in (r.0, (suc r.1.0, omega (arith, r.1.1), r.1.2), r.2)) (first_or (f y) (map f ys) z h)

not_any : {A : Type 0} (p : A → Bool) (xs : List A) (x : A) → list_any p xs ≡ false → Contains xs x → p x ≡ false
not_any p xs x none' h = ⊎_elim (λ t. absurd (true≢false (sym (any_from p xs x h t) ∙ none'))) (λ e. e) (cases_Bool (p x))

-- what one triple gives

-- an edge of a row isn't wide
edge_narrow : (n : Names) (g : Graph) (f : Facts) (t : Triple) (ps : List ℕ) (p : ℕ) (e : Edge) → list_any (is_wide_at n g f t) ps ≡ false → Contains ps p → slice_get g.edges p ≡ Some e → is_wide_edge n g f e t.mark ≡ false
edge_narrow n g f t ps p e narrow there at = sym (ap (has (λ (d : Edge). is_wide_edge n g f d t.mark)) at) ∙ not_any (is_wide_at n g f t) ps p narrow there

no_wide : (n : Names) (g : Graph) (f : Facts) (t : Triple) (rows : List (List ℕ)) → AreRows (map from_of g.edges) rows → list_any (is_wide_at n g f t) (row rows t.node) ≡ false → HasWide n g f t → ⊥
no_wide n g f t rows are narrow wide =
    let e = wide.0 in
    let place = element_at g.edges e wide.1 in
    true≢false (sym wide.3 ∙ edge_narrow n g f t (row rows t.node) place.0 e narrow (in_row g rows t.node place.0 e are place.1 wide.2) place.1)

next_from : (n : Names) (g : Graph) (f : Facts) (t u : Triple) (rows : List (List ℕ)) → AreRows (map from_of g.edges) rows → list_any (is_wide_at n g f t) (row rows t.node) ≡ false
    → Contains (flat_map (place_triples n g f t (behind_set n g t)) (row rows t.node)) u → IsNext n g f t u
next_from n g f t u rows are narrow h =
    let part = of_flat_map (place_triples n g f t (behind_set n g t)) (row rows t.node) u h in
    let begins : BeginsAt g t.node part.part = row_begins g rows t.node part.part are (Contains-has (row rows t.node) part.part part.listed) in
    let e = begins.0 in
    let goes = of_map (next_triple e.to (behind_set n g t)) (post n g f e t.mark) u (subst (λ xs. Contains xs u) (ap (edge_triples n g f t (behind_set n g t)) begins.1) part.inside) in
    record {
      edge = e;
      is_edge = element_from g.edges part.part e begins.1;
      leaves = begins.2;
      narrow = edge_narrow n g f t (row rows t.node) part.part e narrow part.listed begins.1;
      step = goes.0;
      goes = goes.1;
      is = sym goes.2;
    }

next_in : (n : Names) (g : Graph) (f : Facts) (t u : Triple) (rows : List (List ℕ)) → AreRows (map from_of g.edges) rows → IsNext n g f t u
    → Contains (flat_map (place_triples n g f t (behind_set n g t)) (row rows t.node)) u
next_in n g f t u rows are next =
    let e = next.edge in
    let place = element_at g.edges e next.is_edge in
    let made : Contains (map (next_triple e.to (behind_set n g t)) (post n g f e t.mark)) u =
    subst (Contains (map (next_triple e.to (behind_set n g t)) (post n g f e t.mark))) (sym next.is) (in_map (next_triple e.to (behind_set n g t)) (post n g f e t.mark) next.step next.goes) in
    in_flat_map (place_triples n g f t (behind_set n g t)) (row rows t.node) place.0 u (in_row g rows t.node place.0 e are place.1 next.leaves)
    (subst (λ xs. Contains xs u) (sym (ap (edge_triples n g f t (behind_set n g t)) place.1)) made)

in_cond : (b : Bool) (xs : List ℕ) (k : ℕ) → Contains (cond b xs []) k → (b ≡ true) × Contains xs k
in_cond true xs k h = (refl, h)
in_cond false xs k h = absurd (nowhere k h)

ban_from : (n : Names) (g : Graph) (f : Facts) (t : Triple) (k : ℕ) (rows : List (List ℕ)) → AreRows (map from_of g.edges) rows → list_any (is_wide_at n g f t) (row rows t.node) ≡ false
    → has_number (flat_map (place_forbids n g f t) (row rows t.node)) k ≡ true → Forbids n g f t k
ban_from n g f t k rows are narrow h =
    let part = of_flat_map (place_forbids n g f t) (row rows t.node) k (has-Contains (flat_map (place_forbids n g f t) (row rows t.node)) k h) in
    let begins : BeginsAt g t.node part.part = row_begins g rows t.node part.part are (Contains-has (row rows t.node) part.part part.listed) in
    let e = begins.0 in
    let there = in_cond (touches (post n g f e t.mark)) t.puts.items k (subst (λ xs. Contains xs k) (ap (edge_forbids n g f t) begins.1) part.inside) in
    let touched = any_at (λ (s : Step). s.touched) (post n g f e t.mark) there.0 in
    inl (
      record {
        edge = e;
        is_edge = element_from g.edges part.part e begins.1;
        leaves = begins.2;
        narrow = edge_narrow n g f t (row rows t.node) part.part e narrow part.listed begins.1;
        step = touched.0;
        goes = touched.1;
        touched = touched.2;
      },
      Contains-has t.puts.items k there.1,
    )

ban_in : (n : Names) (g : Graph) (f : Facts) (t : Triple) (k : ℕ) (rows : List (List ℕ)) → AreRows (map from_of g.edges) rows → Touches n g f t → has_number t.puts.items k ≡ true
    → has_number (flat_map (place_forbids n g f t) (row rows t.node)) k ≡ true
ban_in n g f t k rows are touch held =
    let e = touch.edge in
    let place = element_at g.edges e touch.is_edge in
    let any : touches (post n g f e t.mark) ≡ true = any_from (λ (s : Step). s.touched) (post n g f e t.mark) touch.step touch.goes touch.touched in
    let there : Contains (cond (touches (post n g f e t.mark)) t.puts.items []) k = subst (λ b. Contains (cond b t.puts.items []) k) (sym any) (has-Contains t.puts.items k held) in
    Contains-has (flat_map (place_forbids n g f t) (row rows t.node)) k
    (in_flat_map (place_forbids n g f t) (row rows t.node) place.0 k (in_row g rows t.node place.0 e are place.1 touch.leaves)
    (subst (λ xs. Contains xs k) (sym (ap (edge_forbids n g f t) place.1)) there))

-- sets that have more

more_cases : (xs : List ℕ) (old new : Numbers) (k : ℕ) → HasMore xs old new → has_number new.items k ≡ true → (has_number old.items k ≡ true) ⊎ (has_number xs k ≡ true)
more_cases xs old new k more h = or_cases (has_number old.items k) (has_number xs k) (sym (more.members k) ∙ h)

more_keeps : (xs : List ℕ) (old new : Numbers) (k : ℕ) → HasMore xs old new → has_number old.items k ≡ true → has_number new.items k ≡ true
more_keeps xs old new k more h = more.members k ∙ or_left (has_number old.items k) (has_number xs k) h

more_has : (xs : List ℕ) (old new : Numbers) (k : ℕ) → HasMore xs old new → has_number xs k ≡ true → has_number new.items k ≡ true
more_has xs old new k more h = more.members k ∙ or_right (has_number old.items k) (has_number xs k) h

-- one triple more

module _ (n : Names) (g : Graph) (f : Facts) (done : ℕ) (t : Triple) (us vs : List Triple) (old new : Numbers) (ps qs : List (ℕ × ℕ))
    (going : Going n g f done us old ps) (at : slice_get us done ≡ Some t) (goes : Expands n g f t us vs old new ps qs) where
  -- a triple among those gone through is this one, or was gone through before
  earlier : (i : ℕ) (u : Triple) → i < done + 1 → slice_get vs i ≡ Some u → (u ≡ t) ⊎ ((i < done) × (slice_get us i ≡ Some u))
  earlier i u l is =
      let xs = flat_map (place_triples n g f t (behind_set n g t)) (row goes.outgoing t.node) in
      let within : done < length us = slice_get_within us done t at in
      let is' : slice_get (insert_all same_triple us xs) i ≡ Some u = ap (λ ys. slice_get ys i) (sym goes.passes.keys) ∙ is in
      ⊎_elim
      (λ (e : i ≡ done). inl (one_element (slice_get (insert_all same_triple us xs) i) u t is' (ap (slice_get (insert_all same_triple us xs)) e ∙ keys_stay same_triple us xs done t at)))
      (λ (o : i ≢ done). inr (omega (arith, l, o), key_before same_triple us xs i u (let below : i < done = omega (arith, l, o) in omega (arith, below, within)) is'))
      (cases_eq i done)

  kept : (k : ℕ) → has_number old.items k ≡ true → has_number new.items k ≡ true
  kept k h = more_keeps (flat_map (place_forbids n g f t) (row goes.outgoing t.node)) goes.between new k goes.passes.forbidden (more_keeps (forbidden_at (put_verdict n t.mark) (puts_at n g t.node) t.puts.items) old goes.between k goes.forbids h)

  banned : (k : ℕ) → Forbids n g f t k → has_number new.items k ≡ true
  banned k (inl touch) = more_has (flat_map (place_forbids n g f t) (row goes.outgoing t.node)) goes.between new k goes.passes.forbidden (ban_in n g f t k goes.outgoing goes.rows touch.0 touch.1)
  banned k (inr gap) =
      more_keeps (flat_map (place_forbids n g f t) (row goes.outgoing t.node)) goes.between new k goes.passes.forbidden
      (more_has (forbidden_at (put_verdict n t.mark) (puts_at n g t.node) t.puts.items) old goes.between k goes.forbids gap)

  ban_cases : (k : ℕ) → has_number new.items k ≡ true → IsForbidden n g f k
  ban_cases k h =
      let this : IsDerived n g f t = going.derived t (element_from us done t at) in
      ⊎_elim
      (λ before.
      ⊎_elim (λ was. going.forbidden k was) (λ gap. (t, this, inr gap))
      (more_cases (forbidden_at (put_verdict n t.mark) (puts_at n g t.node) t.puts.items) old goes.between k goes.forbids before))
      (λ over. (t, this, ban_from n g f t k goes.outgoing goes.rows goes.passes.narrow over))
      (more_cases (flat_map (place_forbids n g f t) (row goes.outgoing t.node)) goes.between new k goes.passes.forbidden h)

  pub going_on : Going n g f (done + 1) vs new qs
  going_on =
      let xs = flat_map (place_triples n g f t (behind_set n g t)) (row goes.outgoing t.node) in
      let zs = pairs_at (put_verdict n t.mark) (put_follows n t.mark) (puts_at n g t.node) t.puts.items in
      let this : IsDerived n g f t = going.derived t (element_from us done t at) in
      let all : vs ≡ insert_all same_triple us xs = goes.passes.keys in
      let stands : slice_get vs done ≡ Some t = ap (λ ys. slice_get ys done) all ∙ keys_stay same_triple us xs done t at in
      let after = slice_get_within vs done t stands in
      record {
        derived = λ u h.
            ⊎_elim (λ was. going.derived u was) (λ new. follows t u this (next_from n g f t u goes.outgoing goes.rows goes.passes.narrow new))
            (keys_from same_triple us xs u (subst (λ ys. Contains ys u) all h));
        born = λ u b. subst (λ ys. Contains ys u) (sym all) (keys_keep same_triple us xs u (going.born u b));
        closed = subst (IsClosed (IsNext n g f) (done + 1)) (sym all) (closed_on same_triple (IsNext n g f) triple_is done us xs t going.closed at (λ u next. next_in n g f t u goes.outgoing goes.rows next));
        narrow = λ i u l is wide.
            ⊎_elim (λ e. no_wide n g f t goes.outgoing goes.rows goes.passes.narrow (subst (HasWide n g f) e wide)) (λ was. going.narrow i u was.0 was.1 wide) (earlier i u l is);
        once = subst (IsDistinct same_triple) (sym all) (keys_once same_triple triple_laws us xs going.once);
        within = omega (arith, after);
        room = goes.passes.forbidden.room ∙ goes.forbids.room ∙ going.room;
        forbidden = ban_cases;
        forbids = λ i u k l is bans. ⊎_elim (λ e. banned k (subst (λ w. Forbids n g f w k) e bans)) (λ was. kept k (going.forbids i u k was.0 was.1 bans)) (earlier i u l is);
        paired = λ p h. ⊎_elim (λ was. going.paired p was) (λ new. (t, this, new)) (keys_from same_pair ps zs p (subst (λ ys. Contains ys p) goes.pairs h));
        pairs = λ i u p l is makes.
            subst (λ ys. Contains ys p) (sym goes.pairs)
            (⊎_elim (λ e. keys_to same_pair pair_is ps zs p (subst (λ w. Pairs n g w p) e makes)) (λ was. keys_keep same_pair ps zs p (going.pairs i u p was.0 was.1 makes)) (earlier i u l is));
        pairs_once = subst (IsDistinct same_pair) (sym goes.pairs) (keys_once same_pair pair_laws ps zs going.pairs_once);
      }

-- the start

born_by : (n : Names) (g : Graph) (f : Facts) (e : Edge) (o : Option Mark) (t : Triple) → born n g f e ≡ o → Contains (born_triple n e.to o) t → Contains g.edges e → Reached g e.from → IsBorn n g f t
born_by n g f e None t made h c r = absurd (nowhere t h)
born_by n g f e (Some m) t made h c r =
    record { edge = e; is_edge = c; reached = r; mark = m; made = made; is = ⊎_elim (λ e. sym e) (λ none'. absurd (nowhere t none')) (first_or (triple n e.to m []) [] t h) }

in_born : (b : Bool) (xs : List Triple) (t : Triple) → Contains (cond b xs []) t → (b ≡ true) × Contains xs t
in_born true xs t h = (refl, h)
in_born false xs t h = absurd (nowhere t h)

among : (vs : List ℕ) (v : ℕ) → list_any (nat_eq v) vs ≡ true → Contains vs v
among vs v h = let is = any_at (nat_eq v) vs h in subst (Contains vs) (sym (eqb-true v is.0 is.2)) is.1

nothing : {A : Type 0} (eq : A → A → Bool) → IsDistinct eq []
unfolding IsDistinct
nothing eq = tt

pub going_begin : (n : Names) (g : Graph) (f : Facts) (nodes : List ℕ) (ts : List Triple) (fs : Numbers) (ps : List (ℕ × ℕ)) → ((v : ℕ) → Contains nodes v ↔ Reached g v)
    → ts ≡ insert_all same_triple [] (flat_map (born_from n g f nodes) g.edges) → fs ≡ (let s : Numbers = record { items = []; room = length n.puts } in s) → ps ≡ [] → Going n g f 0 ts fs ps
going_begin n g f nodes ts fs ps are made empty none' =
    let xs = flat_map (born_from n g f nodes) g.edges in
    record {
      derived = λ t h.
          let part = of_flat_map (born_from n g f nodes) g.edges t (⊎_elim (λ old. absurd (nowhere t old)) (λ new. new) (keys_from same_triple [] xs t (subst (λ ys. Contains ys t) made h))) in
          let e = part.part in
          let both = in_born (list_any (nat_eq e.from) nodes) (born_over n g f e) t part.inside in
          starts t (born_by n g f e (born n g f e) t refl both.1 part.listed ((are e.from).0 (among nodes e.from both.0)));
      born = λ t b.
          let e = b.edge in
          let there : list_any (nat_eq e.from) nodes ≡ true = any_from (nat_eq e.from) nodes e.from ((are e.from).1 b.reached) (eq-eqb e.from e.from refl) in
          let over : Contains (born_over n g f e) t = subst (λ o. Contains (born_triple n e.to o) t) (sym b.made) (subst (Contains (triple n e.to b.mark [] ∷ [])) (sym b.is) (at_first (triple n e.to b.mark []) [])) in
          subst (λ ys. Contains ys t) (sym made)
          (keys_to same_triple triple_is [] xs t (in_flat_map (born_from n g f nodes) g.edges e t b.is_edge (subst (λ c. Contains (cond c (born_over n g f e) []) t) (sym there) over)));
      closed = λ i s t l. absurd (omega (arith, l));
      narrow = λ i t l. absurd (omega (arith, l));
      once = subst (IsDistinct same_triple) (sym made) (keys_once same_triple triple_laws [] xs (nothing same_triple));
      within = omega arith;
      room = ap (λ (s : Numbers). s.room) empty;
      forbidden = λ k h. absurd (false≢true (sym (ap (λ (s : Numbers). has_number s.items k) empty) ∙ h));
      forbids = λ i t k l. absurd (omega (arith, l));
      paired = λ p h. absurd (nowhere p (subst (λ ys. Contains ys p) none' h));
      pairs = λ i t p l. absurd (omega (arith, l));
      pairs_once = subst (IsDistinct same_pair) (sym none') (nothing same_pair);
    }

-- the end

module _ (n : Names) (g : Graph) (f : Facts) (done : ℕ) (ts : List Triple) (fs : Numbers) (ps : List (ℕ × ℕ)) (going : Going n g f done ts fs ps) (past : length ts ≤ done) where
  below : (i : ℕ) (t : Triple) → slice_get ts i ≡ Some t → i < done
  below i t is = let l = slice_get_within ts i t is in omega (arith, l, past)

  complete : (t : Triple) → IsDerived n g f t → Contains ts t
  complete t (starts u b) = going.born u b
  complete t (follows s u d next) = let place = element_at ts s (complete s d) in going.closed place.0 s u (below place.0 s place.1) place.1 next

  bans_all : (k : ℕ) → IsForbidden n g f k → has_number fs.items k ≡ true
  bans_all k (t, d, bans) = let place = element_at ts t (complete t d) in going.forbids place.0 t k (below place.0 t place.1) place.1 bans

  pairs_all : (p : ℕ × ℕ) → IsPair n g f p → Contains ps p
  pairs_all p (t, d, makes) = let place = element_at ts t (complete t d) in going.pairs place.0 t p (below place.0 t place.1) place.1 makes

  pub derived_is : (d : Derived) → d ≡ (let e : Derived = record { triples = ts; forbidden = fs; pairs = ps } in e) → AreDerived n g f d
  derived_is d is = subst (AreDerived n g f) (sym is) (record {
    triples = λ t. (going.derived t, complete t);
    triples_once = AllPairs-from_IsDistinct triple_decides ts going.once;
    room = going.room;
    forbidden = λ k. (going.forbidden k, bans_all k);
    pairs = λ p. (going.paired p, pairs_all p);
    pairs_once = AllPairs-from_IsDistinct pair_decides ps going.pairs_once;
  })

  pub no_wide_edge : HasWideEdge n g f → ⊥
  no_wide_edge wide =
      let place = element_at ts wide.triple (complete wide.triple wide.derived) in
      going.narrow place.0 wide.triple (below place.0 wide.triple place.1) place.1 (wide.edge, wide.is_edge, wide.leaves, wide.wide)

-- limits

pub passes_many : (n : Names) (g : Graph) (f : Facts) (done : ℕ) (ts : List Triple) (fs : Numbers) (ps : List (ℕ × ℕ)) → Going n g f done ts fs ps → 100000 < length ts → PassesStates n g f
passes_many n g f done ts fs ps going many = inl (record { listed = ts; derived = going.derived; once = AllPairs-from_IsDistinct triple_decides ts going.once; many = many })

pub passes_wide : (n : Names) (g : Graph) (f : Facts) (done : ℕ) (ts : List Triple) (fs : Numbers) (ps : List (ℕ × ℕ)) (t : Triple) → Going n g f done ts fs ps → slice_get ts done ≡ Some t → HasWide n g f t → PassesStates n g f
passes_wide n g f done ts fs ps t going at wide =
    inr (record { triple = t; derived = going.derived t (element_from ts done t at); edge = wide.0; is_edge = wide.1; leaves = wide.2; wide = wide.3 })

-- where all are listed and few, there aren't many
pub few_not_many : (n : Names) (g : Graph) (f : Facts) (d : Derived) → AreDerived n g f d → length d.triples ≤ 100000 → HasManyTriples n g f → ⊥
few_not_many n g f d is few many =
    let less = length-le_from_is_member triple_laws many.listed d.triples (IsDistinct-from_AllPairs triple_decides many.listed many.once)
    (λ u h.
    let there = any_at (same_triple u) many.listed h in
    let same : u ≡ there.0 = triple_is u there.0 there.2 in
    any_from (same_triple u) d.triples u ((is.triples u).1 (many.derived u (subst (Contains many.listed) (sym same) there.1))) ((triple_decides u u).1 refl)) in
    let more = many.many in
    omega (arith, less, few, more)
