-- Bits that satisfy the clauses stand for a cover, and a cover's bits satisfy them.
use Rattle.std.proofs.Common.{◌≡◌, ◌≢◌, ◌⊎◌, inl, inr, ℕ, zero, suc, ◌<◌, ◌==◌, ◌&&◌, not, Bool, true, false, cond, List, [], ◌∷◌, length, slice_get, Option, Some, None, option_map, ⊎_elim, ap, sym, subst, ◌∙◌, arith}
use Rattle.std.proofs.lemmas.Bool.{and_parts, and_from, cases_Bool, cases_order, ne_eqb, true≢false, false≢true}
use Rattle.std.proofs.lemmas.Option.{slice_get_within, slice_get-map}
use Rattle.std.specs.List.{Contains, filter, range_with_len}
use Rattle.c_tree.specs.Typing.{has}
use Rattle.c_tree.specs.declared.choice.Choice.{Choice}
use Rattle.c_tree.specs.declared.choice.Put.{Put}
use Rattle.mf_set.specs.Numbers.{Numbers, has as has_number}
use Rattle.sat_log.specs.Clauses.{MakesTrue, Satisfies, SatisfiesClause}
use Rattle.sat_log.specs.declared.problem.Lit.{Lit}
use Rattle.ts_domain.specs.declared.triples.Triple.{Triple}
use Rattle.ts_domain.specs.Chosen.{is_chosen}
use Rattle.ts_domain.specs.Cover.{IsChosen}
use Rattle.ts_domain.proofs.ChosenLaws.{chosen, is_so}
use Rattle.cover_problem.specs.declared.types.Problem.{Problem}
use Rattle.cover_problem.specs.Covering.{is_held, is_usable}
use Rattle.cover_problem.specs.Problem.{AtExit, HasRooms, IsCoverOf}
use Rattle.cover_problem.proofs.CoverLaws.{not_true}
use Rattle.cover_problem.proofs.Members.{any_at, any_from, at_first, at_later, in_flat_map, of_flat_map}
use Rattle.cover_clauses.specs.Clauses.{bits_of, choice_of, is_true_at, literal, not_both, one_of, put_at, put_if, usable_puts, variable, IsClause, of_exit, of_pair, of_triple, IsOnce}
use Rattle.cover_clauses.proofs.Ranks.{ranked}
use Rattle.cover_clauses.proofs.Elements.{element, listed_at, in_map, of_map, in_filter, of_filter, in_range, of_has, as_has, once_at}

pub one_is : (x l : Lit) → Contains (x ∷ []) l → x ≡ l
one_is x l (zero, b, e) = e
one_is x l (suc k, b, e) = absurd (omega (arith, b))

pub two_are : (x y l : Lit) → Contains (x ∷ y ∷ []) l → (x ≡ l) ⊎ (y ≡ l)
two_are x y l (zero, b, e) = inl e
two_are x y l (suc zero, b, e) = inr e
two_are x y l (suc (suc k), b, e) = absurd (omega (arith, b))

-- bits of clauses

module _ (q : Problem) (bits : List Bool) where
  abbrev IsFalse : ℕ → Type 0
  IsFalse k = slice_get bits (variable q k) ≡ Some false

  pub false_by : (k : ℕ) (l : Lit) → literal q false k ≡ l → MakesTrue bits l → IsFalse k
  false_by k l is h = subst (MakesTrue bits) (sym is) h

  one_false : (j k : ℕ) (b : Bool) → SatisfiesClause bits (cond b (literal q false j ∷ []) (literal q false j ∷ literal q false k ∷ [])) → IsFalse j ⊎ IsFalse k
  one_false j k true (l, c, h) = inl (false_by j l (one_is (literal q false j) l c) h)
  one_false j k false (l, c, h) =
      ⊎_elim (λ is. inl (false_by j l is h)) (λ is. inr (false_by k l is h)) (two_are (literal q false j) (literal q false k) l c)

  pub not_both_so : (j k : ℕ) → SatisfiesClause bits (not_both q j k) → IsFalse j ⊎ IsFalse k
  not_both_so j k h = one_false j k (j == k) h

  true_by : (o : Option Bool) → has (λ b. b) o ≡ true → o ≡ Some true
  true_by None e = absurd (false≢true e)
  true_by (Some b) e = ap Some e

  pub true_bit : (k : ℕ) → is_true_at q bits k ≡ true → slice_get bits (variable q k) ≡ Some true
  true_bit k e = true_by (slice_get bits (variable q k)) e

  pub not_false : (k : ℕ) → is_true_at q bits k ≡ true → IsFalse k → ⊥
  not_false k one other = true≢false (some_same (sym (true_bit k one) ∙ other))
    where
      some_same : Some true ≡ Some false → true ≡ false
      some_same e = ap (λ o. has (λ b. b) o) e

  pub chosen_by : (c : List ℕ) → SatisfiesClause bits (one_of q c) → (j : ℕ) × Contains c j × (is_true_at q bits j ≡ true)
  chosen_by c (l, h, is) =
      let r = of_map (literal q true) c l h in
      (r.0, r.1, ap (has (λ b. b)) (subst (MakesTrue bits) (sym r.2) is))

-- a choice made of satisfying bits is a cover

module _ (q : Problem) (bits : List Bool) (once : IsOnce q.names.puts) where
  abbrev Made : Choice
  Made = choice_of q bits

  put_of : (p : Put) (o : Option Put) → Contains (put_if o) p → o ≡ Some p
  put_of p None (k, l, e) = absurd (omega (arith, l))
  put_of p (Some r) (zero, l, e) = ap Some e
  put_of p (Some r) (suc k, l, e) = absurd (omega (arith, l))

  -- a put of it stands at a place that is usable and whose bit is true
  from_choice : (p : Put) → Contains Made.puts p → (k : ℕ) × (slice_get q.names.puts k ≡ Some p) × (is_usable q k ≡ true) × (is_true_at q bits k ≡ true)
  from_choice p h =
      let r = of_flat_map (put_at q) (filter (is_true_at q bits) (usable_puts q)) p h in
      let t = of_filter (is_true_at q bits) (usable_puts q) r.part r.listed in
      let u = of_filter (is_usable q) (range_with_len 0 (length q.names.puts)) r.part t.listed in
      (r.part, put_of p (slice_get q.names.puts r.part) r.inside, u.passes, t.passes)

  chosen_is : (k : ℕ) → IsChosen q.names Made k → (is_usable q k ≡ true) × (is_true_at q bits k ≡ true)
  chosen_is k (p, c, at) =
      let r = from_choice p c in
      let same : r.0 ≡ k = once_at q.names.puts once r.0 k p r.1 at in
      (subst (λ j. is_usable q j ≡ true) same r.2, subst (λ j. is_true_at q bits j ≡ true) same r.3)

  so_chosen : (k : ℕ) → k < length q.names.puts → is_usable q k ≡ true → is_true_at q bits k ≡ true → IsChosen q.names Made k
  so_chosen k inside u t = by (element q.names.puts k inside)
    where
      listed : Contains (filter (is_true_at q bits) (usable_puts q)) k
      listed = in_filter (is_true_at q bits) (usable_puts q) k (in_filter (is_usable q) (range_with_len 0 (length q.names.puts)) k (in_range 0 (length q.names.puts) k (omega arith) (omega arith)) u) t

      by : (x : Put) × (slice_get q.names.puts k ≡ Some x) → IsChosen q.names Made k
      by (p, e) = (p, in_flat_map (put_at q) (filter (is_true_at q bits) (usable_puts q)) k p listed (subst (λ o. Contains (put_if o) p) (sym e) (at_first p [])), e)

  both_false : (cl : List (List Lit)) → Satisfies bits cl → (j k : ℕ) → Contains cl (not_both q j k) → IsChosen q.names Made j → IsChosen q.names Made k → ⊥
  both_false cl sat j k c hj hk =
      ⊎_elim
      (λ no. not_false q bits j (chosen_is j hj).1 no)
      (λ no. not_false q bits k (chosen_is k hk).1 no)
      (not_both_so q bits j k (sat (not_both q j k) c))

  allowed_part : (k : ℕ) → is_usable q k ≡ true → has_number q.allowed.items k ≡ true
  allowed_part k e = (and_parts (has_number q.allowed.items k) (not (has_number q.derived.forbidden.items k) && is_held q.derived.triples k) e).0

  other_parts : (k : ℕ) → is_usable q k ≡ true → (not (has_number q.derived.forbidden.items k) ≡ true) × (is_held q.derived.triples k ≡ true)
  other_parts k e = and_parts (not (has_number q.derived.forbidden.items k)) (is_held q.derived.triples k) (and_parts (has_number q.allowed.items k) (not (has_number q.derived.forbidden.items k) && is_held q.derived.triples k) e).1

  exit_below : HasRooms q → (c : Numbers) → AtExit q c → (k : ℕ) → has_number c.items k ≡ true → k < length q.names.puts
  exit_below rooms c (e, listed, is) k h =
      let set = rooms.exits e listed in
      subst (λ r. k < r) set.1 (set.0.below k (subst (λ (z : Numbers). has_number z.items k ≡ true) (sym is) h))

  pub satisfied_covers : HasRooms q → (cl : List (List Lit)) → ((l : List Lit) → IsClause q l → Contains cl l) → Satisfies bits cl → IsCoverOf q Made
  satisfied_covers rooms cl all sat = record {
    named = λ p c. let r = from_choice p c in listed_at q.names.puts r.0 p r.1;
    allowed = λ k h. allowed_part k (chosen_is k h).0;
    unforbidden = λ k h. not_true (has_number q.derived.forbidden.items k) (other_parts k (chosen_is k h).0).0;
    held = λ k h. any_at (λ (t : Triple). has_number t.puts.items k) q.derived.triples (other_parts k (chosen_is k h).0).1;
    apart = λ j k c hj hk. both_false cl sat j k (all (not_both q j k) (of_pair j k c (chosen_is j hj).0 (chosen_is k hk).0)) hj hk;
    at_most_one = one;
    one_at_exits = λ c at.
        let r = chosen_by q bits (filter (is_usable q) c.items) (sat (one_of q (filter (is_usable q) c.items)) (all (one_of q (filter (is_usable q) c.items)) (of_exit c at))) in
        let u = of_filter (is_usable q) c.items r.0 r.1 in
        let h : has_number c.items r.0 ≡ true = as_has c.items r.0 u.listed in
        (r.0, so_chosen r.0 (exit_below rooms c at r.0 h) u.passes r.2, h);
  }
    where
      apart_in : (t : Triple) → Contains q.derived.triples t → (j k : ℕ) → has_number t.puts.items j ≡ true → has_number t.puts.items k ≡ true → IsChosen q.names Made j → IsChosen q.names Made k → j < k → ⊥
      apart_in t c j k hj hk cj ck less = both_false cl sat j k (all (not_both q j k) (of_triple t j k c hj hk less (chosen_is j cj).0 (chosen_is k ck).0)) cj ck

      one : (t : Triple) → Contains q.derived.triples t → (j k : ℕ) → has_number t.puts.items j ≡ true → has_number t.puts.items k ≡ true → IsChosen q.names Made j → IsChosen q.names Made k → j ≡ k
      one t c j k hj hk cj ck =
          ⊎_elim
          (λ same. same)
          (λ other. ⊎_elim (λ less. absurd (apart_in t c j k hj hk cj ck less)) (λ more. absurd (apart_in t c k j hk hj ck cj more)) other)
          (cases_order j k)

-- a cover's bits satisfy the clauses

module _ (q : Problem) (s : Choice) (rooms : HasRooms q) where
  bit_at : (k : ℕ) → k < length q.names.puts → is_usable q k ≡ true → slice_get (bits_of q s) (variable q k) ≡ Some (is_chosen q.names s k)
  bit_at k inside u =
      slice_get-map (is_chosen q.names s) (usable_puts q) (variable q k) ∙ ap (option_map (is_chosen q.names s)) (ranked (is_usable q) k (length q.names.puts) inside u)

  bit_is : (k : ℕ) (b : Bool) → k < length q.names.puts → is_usable q k ≡ true → is_chosen q.names s k ≡ b → MakesTrue (bits_of q s) (literal q b k)
  bit_is k b inside u e = bit_at k inside u ∙ ap Some e

  first_false : (j k : ℕ) (b : Bool) → MakesTrue (bits_of q s) (literal q false j) → SatisfiesClause (bits_of q s) (cond b (literal q false j ∷ []) (literal q false j ∷ literal q false k ∷ []))
  first_false j k true h = (literal q false j, at_first (literal q false j) [], h)
  first_false j k false h = (literal q false j, at_first (literal q false j) (literal q false k ∷ []), h)

  second_false : (j k : ℕ) → j ≢ k → MakesTrue (bits_of q s) (literal q false k) → SatisfiesClause (bits_of q s) (not_both q j k)
  second_false j k other h =
      subst (λ b. SatisfiesClause (bits_of q s) (cond b (literal q false j ∷ []) (literal q false j ∷ literal q false k ∷ []))) (sym (ne_eqb j k other))
      (literal q false k, at_later (literal q false j) (literal q false k) (literal q false k ∷ []) (at_first (literal q false k) []), h)

  not_both_holds : (j k : ℕ) → j < length q.names.puts → k < length q.names.puts → is_usable q j ≡ true → is_usable q k ≡ true → (IsChosen q.names s j → IsChosen q.names s k → ⊥) → SatisfiesClause (bits_of q s) (not_both q j k)
  not_both_holds j k jn kn uj uk apart =
      ⊎_elim
      (λ yes.
      ⊎_elim
      (λ both. absurd (apart (chosen q.names s j yes) (chosen q.names s k both)))
      (λ not_k. second_false j k (λ same. false≢true (sym not_k ∙ ap (is_chosen q.names s) (sym same) ∙ yes)) (bit_is k false kn uk not_k))
      (cases_Bool (is_chosen q.names s k)))
      (λ not_j. first_false j k (j == k) (bit_is j false jn uj not_j))
      (cases_Bool (is_chosen q.names s j))

  cover_usable : IsCoverOf q s → (k : ℕ) → IsChosen q.names s k → is_usable q k ≡ true
  cover_usable h k c =
      let held = h.held k c in
      and_from (has_number q.allowed.items k) (not (has_number q.derived.forbidden.items k) && is_held q.derived.triples k) (h.allowed k c)
      (and_from (not (has_number q.derived.forbidden.items k)) (is_held q.derived.triples k) (ap not (h.unforbidden k c)) (any_from (λ (t : Triple). has_number t.puts.items k) q.derived.triples held.0 held.1 held.2))

  below : (t : Triple) → Contains q.derived.triples t → (k : ℕ) → has_number t.puts.items k ≡ true → k < length q.names.puts
  below t c k h = let both = rooms.derived.triples t c in subst (λ r. k < r) both.1 (both.0.below k h)

  pub cover_satisfies_clause : IsCoverOf q s → (l : List Lit) → IsClause q l → SatisfiesClause (bits_of q s) l
  cover_satisfies_clause h l (of_exit c at) =
      let r = h.one_at_exits c at in
      let inside = slice_get_within q.names.puts r.0 r.1.0 r.1.2 in
      let u = cover_usable h r.0 r.1 in
      (literal q true r.0, in_map (literal q true) (filter (is_usable q) c.items) r.0 (in_filter (is_usable q) c.items r.0 (of_has c.items r.0 r.2) u), bit_is r.0 true inside u (is_so q.names s r.0 r.1))
  cover_satisfies_clause h l (of_pair j k c uj uk) =
      let order = rooms.derived.pairs j k c in
      not_both_holds j k (omega (arith, order.0, order.1)) order.1 uj uk (h.apart j k c)
  cover_satisfies_clause h l (of_triple t j k c hj hk less uj uk) =
      not_both_holds j k (below t c j hj) (below t c k hk) uj uk
      (λ cj ck. let same : j ≡ k = h.at_most_one t c j k hj hk cj ck in omega arith)

  pub cover_satisfies : (cl : List (List Lit)) → ((l : List Lit) → Contains cl l → IsClause q l) → IsCoverOf q s → Satisfies (bits_of q s) cl
  cover_satisfies cl all h l c = cover_satisfies_clause h l (all l c)
