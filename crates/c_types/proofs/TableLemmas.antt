-- Tables of names: look-ups of a row that is new, of the last one taken away, and of a row by its place.
use Rattle.std.proofs.Common.{◌≡◌, ℕ, suc, ◌<◌, Ordering, Bool, true, false, cond, List, [], ◌∷◌, ◌++◌, length, get_or, Option, Some, None, option_map, refl, sym, ◌∙◌, ap, subst, arith}
use Rattle.std.specs.BTreeMap.{is_at}
use Rattle.std.specs.Cmp.{eq_by_cmp_equiv}
use Rattle.std.specs.Cmp.Lexicographic.{slice_cmp, texts_ties, bytes_decides, nat_list_cmp_total, nat_list_eq_equiv}
use Rattle.std.specs.Map.{lookup, KeepsOthers}
use Rattle.std.specs.Ordering.{nat_cmp, is_eq, eq_by_cmp}
use Rattle.c_types.specs.Tables.{same_name, found, place_of, HasNamesOnce, IsIndex}

-- names by bytes

turned : (a b : List ℕ) (s : Bool) → same_name a b ≡ s → same_name b a ≡ s
turned a b s h = nat_list_eq_equiv.symm b a ∙ h

apart : (a b k : List ℕ) → same_name a b ≡ false → is_eq (slice_cmp nat_cmp a k) ≡ true → is_eq (slice_cmp nat_cmp b k) ≡ false
apart a b k n y = sym (texts_ties b k) ∙ nat_list_eq_equiv.symm b k ∙ sym (nat_list_eq_equiv.congr a k b (texts_ties a k ∙ y)) ∙ n

module _ {K : Type 0} (bytes : K → List ℕ) where
  -- how a name compares to the keys
  abbrev by : List ℕ → K → Ordering
  by name k = slice_cmp nat_cmp name (bytes k)

  other_names : (at : List ℕ) (old new : List (K × ℕ)) → KeepsOthers (eq_by_cmp (λ x y. slice_cmp nat_cmp (bytes x) (bytes y))) (is_at (by at)) old new
      → (name : List ℕ) → same_name at name ≡ false → lookup (is_at (by name)) new ≡ lookup (is_at (by name)) old
  unfolding KeepsOthers
  other_names at old new h name e =
      h (is_at (by name)) (λ x y. (eq_by_cmp_equiv nat_list_cmp_total).congr name (bytes x) (bytes y)) (λ k. apart at name (bytes k) e)

  by_test : (at : List ℕ) (old new : List (K × ℕ)) (w : Option ℕ) → lookup (is_at (by at)) new ≡ w
      → (name : List ℕ) (s : Bool) → same_name at name ≡ s → (s ≡ false → lookup (is_at (by name)) new ≡ lookup (is_at (by name)) old)
      → lookup (is_at (by name)) new ≡ cond s w (lookup (is_at (by name)) old)
  by_test at old new w here name true e other = ap (λ n. lookup (is_at (by n)) new) (sym ((bytes_decides at name).0 e)) ∙ here
  by_test at old new w here name false e other = other refl

  -- a change at one name leaves the others as they were
  updated : (at : List ℕ) (old new : List (K × ℕ)) (w : Option ℕ) → lookup (is_at (by at)) new ≡ w
      → KeepsOthers (eq_by_cmp (λ x y. slice_cmp nat_cmp (bytes x) (bytes y))) (is_at (by at)) old new
      → (name : List ℕ) → lookup (is_at (by name)) new ≡ cond (same_name at name) w (lookup (is_at (by name)) old)
  updated at old new w here h name = by_test at old new w here name (same_name at name) refl (other_names at old new h name)

-- places of rows

abbrev or_place : Option ℕ → Option ℕ → Option ℕ
or_place None q = q
or_place (Some k) q = Some k

or_none : (o : Option ℕ) → or_place o None ≡ o
or_none None = refl
or_none (Some k) = refl

absent_head : (b : Bool) (o : Option ℕ) → cond b (Some 0) (option_map suc o) ≡ None → (b ≡ false) × (o ≡ None)
absent_head true o h = absurd (cc)
absent_head false None h = (refl, refl)
absent_head false (Some k) h = absurd (cc)

absent_both : (o : Option ℕ) (s : Bool) (n : ℕ) → or_place o (cond s (Some n) None) ≡ None → (o ≡ None) × (s ≡ false)
absent_both None true n h = absurd (cc)
absent_both None false n h = (refl, refl)
absent_both (Some k) s n h = absurd (cc)

module _ {A : Type 0} where
  -- a last row is found where no other is
  place_of-snoc : (rows : List (List ℕ × A)) (row : List ℕ × A) (name : List ℕ)
      → place_of (rows ++ row ∷ []) name ≡ or_place (place_of rows name) (cond (same_name name row.0) (Some (length rows)) None)
  place_of-snoc [] row name = refl
  place_of-snoc (r ∷ rows) row name =
      ap (λ o. cond (same_name name r.0) (Some 0) (option_map suc o)) (place_of-snoc rows row name)
      ∙ shifted (same_name name r.0) (place_of rows name) (same_name name row.0) (length rows)
    where
      shifted : (b : Bool) (o : Option ℕ) (s : Bool) (n : ℕ) → cond b (Some 0) (option_map suc (or_place o (cond s (Some n) None)))
          ≡ or_place (cond b (Some 0) (option_map suc o)) (cond s (Some (suc n)) None)
      shifted true o s n = refl
      shifted false None true n = refl
      shifted false None false n = refl
      shifted false (Some k) s n = refl

  once-snoc : (rows : List (List ℕ × A)) (row : List ℕ × A) → HasNamesOnce rows → place_of rows row.0 ≡ None → HasNamesOnce (rows ++ row ∷ [])
  once-snoc [] row once absent = (refl, tt)
  once-snoc (r ∷ rows) row once absent =
      let parts = absent_head (same_name row.0 r.0) (place_of rows row.0) absent in (
        place_of-snoc rows row r.0
            ∙ ap (λ o. or_place o (cond (same_name r.0 row.0) (Some (length rows)) None)) once.0
            ∙ ap (λ s. cond s (Some (length rows)) None) (turned row.0 r.0 false parts.0),
        once-snoc rows row once.1 parts.1,
      )

  once-front : (rows : List (List ℕ × A)) (row : List ℕ × A) → HasNamesOnce (rows ++ row ∷ []) → HasNamesOnce rows × (place_of rows row.0 ≡ None)
  once-front [] row once = (tt, refl)
  once-front (r ∷ rows) row once =
      let parts = absent_both (place_of rows r.0) (same_name r.0 row.0) (length rows) (sym (place_of-snoc rows row r.0) ∙ once.0) in
      let rest = once-front rows row once.1 in (
        (parts.0, rest.0),
        ap (λ b. cond b (Some 0) (option_map suc (place_of rows row.0))) (turned r.0 row.0 false parts.1) ∙ ap (option_map suc) rest.1,
      )

  -- a name without a value has no place
  pub place_of-absent : (rows : List (List ℕ × A)) (name : List ℕ) → found rows name ≡ None → place_of rows name ≡ None
  place_of-absent [] name h = refl
  place_of-absent (row ∷ rows) name h = by_head (same_name name row.0) (found rows name) h (place_of-absent rows name)
    where
      by_head : (b : Bool) (o : Option A) → cond b (Some row.1) o ≡ None → (o ≡ None → place_of rows name ≡ None)
          → cond b (Some 0) (option_map suc (place_of rows name)) ≡ None
      by_head true o h rest = absurd (cc)
      by_head false o h rest = ap (option_map suc) (rest h)

  -- a name without a place has no value
  pub found-absent : (rows : List (List ℕ × A)) (name : List ℕ) → place_of rows name ≡ None → found rows name ≡ None
  found-absent [] name h = refl
  found-absent (row ∷ rows) name h =
      let parts = absent_head (same_name name row.0) (place_of rows name) h in
      ap (λ b. cond b (Some row.1) (found rows name)) parts.0 ∙ found-absent rows name parts.1

  -- a name's place is that of a row with its value
  pub found-at : (rows : List (List ℕ × A)) (name : List ℕ) (k : ℕ) → place_of rows name ≡ Some k
      → (k < length rows) × ((d : List ℕ × A) → found rows name ≡ Some (get_or rows k d).1)
  found-at [] name k h = absurd (cc)
  found-at (row ∷ rows) name k h = by_head (same_name name row.0) (place_of rows name) h (found-at rows name)
    where
      by_head : (b : Bool) (o : Option ℕ) → cond b (Some 0) (option_map suc o) ≡ Some k
          → ((j : ℕ) → o ≡ Some j → (j < length rows) × ((d : List ℕ × A) → found rows name ≡ Some (get_or rows j d).1))
          → (k < suc (length rows)) × ((d : List ℕ × A) → cond b (Some row.1) (found rows name) ≡ Some (get_or (row ∷ rows) k d).1)
      by_head true o h rest =
          let e : 0 ≡ k = cc in
          subst (λ (i : ℕ). (i < suc (length rows)) × ((d : List ℕ × A) → Some row.1 ≡ Some (get_or (row ∷ rows) i d).1)) e (omega arith, λ d. refl)
      by_head false None h rest = absurd (cc)
      by_head false (Some j) h rest =
          let e : suc j ≡ k = cc in
          let below : j < length rows = (rest j refl).0 in
          subst (λ (i : ℕ). (i < suc (length rows)) × ((d : List ℕ × A) → found rows name ≡ Some (get_or (row ∷ rows) i d).1)) e (omega arith, (rest j refl).1)

module _ {K A : Type 0} (bytes : K → List ℕ) (old new : List (K × ℕ)) (rows : List (List ℕ × A)) (row : List ℕ × A) where
  with_last : (name : List ℕ) (s : Bool) → same_name row.0 name ≡ s → place_of rows row.0 ≡ None
      → cond s (Some (length rows)) (place_of rows name) ≡ or_place (place_of rows name) (cond (same_name name row.0) (Some (length rows)) None)
  with_last name true e absent =
      let none : place_of rows name ≡ None = ap (place_of rows) (sym ((bytes_decides row.0 name).0 e)) ∙ absent in
      sym (ap (λ o. or_place o (cond (same_name name row.0) (Some (length rows)) None)) none ∙ ap (λ b. cond b (Some (length rows)) None) (turned row.0 name true e))
  with_last name false e absent =
      sym (ap (λ b. or_place (place_of rows name) (cond b (Some (length rows)) None)) (turned row.0 name false e) ∙ or_none (place_of rows name))

  without_last : (name : List ℕ) (s : Bool) → same_name row.0 name ≡ s → place_of rows row.0 ≡ None
      → cond s None (or_place (place_of rows name) (cond (same_name name row.0) (Some (length rows)) None)) ≡ place_of rows name
  without_last name true e absent = sym (ap (place_of rows) (sym ((bytes_decides row.0 name).0 e)) ∙ absent)
  without_last name false e absent =
      ap (λ b. or_place (place_of rows name) (cond b (Some (length rows)) None)) (turned row.0 name false e) ∙ or_none (place_of rows name)

  -- the map with the place of a new last row finds the rows with it
  pub IsIndex-more : IsIndex bytes old rows → place_of rows row.0 ≡ None → lookup (is_at (by bytes row.0)) new ≡ Some (length rows)
      → KeepsOthers (eq_by_cmp (λ x y. slice_cmp nat_cmp (bytes x) (bytes y))) (is_at (by bytes row.0)) old new → IsIndex bytes new (rows ++ row ∷ [])
  IsIndex-more index absent here others = record {
    places = λ name.
        updated bytes row.0 old new (Some (length rows)) here others name
        ∙ ap (cond (same_name row.0 name) (Some (length rows))) (index.places name)
        ∙ with_last name (same_name row.0 name) refl absent
        ∙ sym (place_of-snoc rows row name);
    once = once-snoc rows row index.once absent;
  }

  -- the map without the name of the last row finds the others
  pub IsIndex-fewer : IsIndex bytes old (rows ++ row ∷ []) → lookup (is_at (by bytes row.0)) new ≡ None
      → KeepsOthers (eq_by_cmp (λ x y. slice_cmp nat_cmp (bytes x) (bytes y))) (is_at (by bytes row.0)) old new → IsIndex bytes new rows
  IsIndex-fewer index here others =
      let front = once-front rows row index.once in record {
        places = λ name.
            updated bytes row.0 old new None here others name
            ∙ ap (cond (same_name row.0 name) None) (index.places name ∙ place_of-snoc rows row name)
            ∙ without_last name (same_name row.0 name) refl front.1;
        once = front.0;
      }
