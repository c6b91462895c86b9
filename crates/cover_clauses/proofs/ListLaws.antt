-- What is listed are the clauses, each once.
use Rattle.std.proofs.Common.{◌≡◌, ◌⊎◌, inl, inr, ⊎_elim, ℕ, zero, suc, ◌+◌, ◌<◌, ◌≤◌, ◌==◌, Bool, true, false, cond, List, [], ◌∷◌, ◌++◌, length, map, slice_get, Option, Some, None, refl, ap, sym, subst, ◌∙◌, ltb, arith}
use Rattle.std.proofs.Math.Path.{fun_ext}
use Rattle.std.proofs.lemmas.Bool.{cases_Bool, eqb-true, ltb-false, ltb-true, true≢false, false≢true}
use Rattle.std.proofs.lemmas.List.{length-append, length-map}
use Rattle.std.proofs.lemmas.List.Elements.{Contains-append_cases, Contains-append_left, Contains-append_right}
use Rattle.std.proofs.lemmas.List.FromFn.{get_or-range_with_len, length-map-range_with_len, length-range_with_len}
use Rattle.std.proofs.lemmas.Option.{slice_get_within, slice_get-map, slice_get-get_or}
use Rattle.std.specs.List.{Contains, filter, range_with_len}
use Rattle.std.specs.Option.{option_map}
use Rattle.c_tree.specs.Typing.{has}
use Rattle.mf_set.specs.Numbers.{Numbers, IsAscendingFrom, has as has_number}
use Rattle.sat_log.specs.Clauses.{AreBelow}
use Rattle.sat_log.specs.declared.problem.Clauses.{Clauses}
use Rattle.sat_log.specs.declared.problem.Lit.{Lit}
use Rattle.cover_problem.specs.declared.types.Problem.{Problem}
use Rattle.cover_problem.specs.Covering.{is_usable}
use Rattle.cover_problem.specs.Problem.{HasRooms}
use Rattle.cover_problem.proofs.Members.{at_first, at_later}
use Rattle.cover_clauses.specs.declared.listing.Variables.{Variables}
use Rattle.cover_clauses.specs.Clauses.{literal, not_both, one_of, usable_puts, variable, variables, AreClauses, HasMore, IsClause, of_exit, of_pair, of_triple, IsOnce, once_none}
use Rattle.cover_clauses.specs.Conflicts.{exit_sets, narrowed, AreConflicts, Conflict, by_pair, by_triple}
use Rattle.cover_clauses.specs.Listing.{list_by, literal_by, not_both_by, number_in, one_by, rows_by, total, AreVariables}
use Rattle.cover_clauses.specs.Parts.{IsFound}
use Rattle.cover_clauses.proofs.BitLaws.{one_is, two_are}
use Rattle.cover_clauses.proofs.Elements.{in_map, of_map, of_filter, of_has, as_has, once_append, once_ascending, once_fits, once_map}
use Rattle.cover_clauses.proofs.Ranks.{ranked}
use Rattle.cover_clauses.proofs.SetsOnce.{grown_once, in_grown, of_grown}

-- lists of one function of each place and number

module _ (f : ℕ → ℕ → List Lit) where
  abbrev pub each_row : ℕ → List Numbers → List (List Lit)
  each_row a [] = []
  each_row a (r ∷ rs) = map (f a) r.items ++ each_row (a + 1) rs

  pub record InRow (a : ℕ) (rows : List Numbers) (l : List Lit) : Type 0 where
    pub place : ℕ
    pub row : Numbers
    pub at : slice_get rows place ≡ Some row
    pub number : ℕ
    pub inside : Contains row.items number
    pub is : f (a + place) number ≡ l

  pub of_rows : (rows : List Numbers) (a : ℕ) (l : List Lit) → Contains (each_row a rows) l → InRow a rows l
  of_rows [] a l h = absurd (omega (arith, h.1))
  of_rows (r ∷ rs) a l h =
      ⊎_elim
      (λ here. let x = of_map (f a) r.items l here in let same : a + 0 ≡ a = omega arith in record { place = 0; row = r; at = refl; number = x.0; inside = x.1; is = ap (λ n. f n x.0) same ∙ x.2 })
      (λ later. let x = of_rows rs (a + 1) l later in let same : a + suc x.place ≡ a + 1 + x.place = omega arith in record { place = suc x.place; row = x.row; at = x.at; number = x.number; inside = x.inside; is = ap (λ n. f n x.number) same ∙ x.is })
      (Contains-append_cases (map (f a) r.items) (each_row (a + 1) rs) l h)

  pub in_rows : (rows : List Numbers) (a j k : ℕ) (r : Numbers) → slice_get rows j ≡ Some r → Contains r.items k → Contains (each_row a rows) (f (a + j) k)
  in_rows [] a j k r e c = absurd cc
  in_rows (x ∷ rs) a zero k r e c =
      let same : x ≡ r = cc in
      let here : a + 0 ≡ a = omega arith in
      Contains-append_left (map (f a) x.items) (each_row (a + 1) rs) (f (a + 0) k) (subst (λ n. Contains (map (f a) x.items) (f n k)) (sym here) (in_map (f a) x.items k (subst (λ (z : Numbers). Contains z.items k) (sym same) c)))
  in_rows (x ∷ rs) a (suc j) k r e c =
      let same : a + suc j ≡ a + 1 + j = omega arith in
      Contains-append_right (map (f a) x.items) (each_row (a + 1) rs) (f (a + suc j) k) (subst (λ n. Contains (each_row (a + 1) rs) (f n k)) (sym same) (in_rows rs (a + 1) j k r e c))

  -- where different places and numbers give different clauses, each comes once
  pub rows_once : (P : ℕ → ℕ → Type 0) → ((i j k m : ℕ) → P i j → P k m → f i j ≡ f k m → (i ≡ k) × (j ≡ m))
      → (rows : List Numbers) (a : ℕ) → ((j : ℕ) (r : Numbers) → slice_get rows j ≡ Some r → IsAscendingFrom 0 r.items × ((k : ℕ) → Contains r.items k → P (a + j) k)) → IsOnce (each_row a rows)
  rows_once P apart [] a h = once_none
  rows_once P apart (r ∷ rs) a h =
      let same : a + 0 ≡ a = omega arith in
      let first = h 0 r refl in
      let here : (k : ℕ) → Contains r.items k → P a k = λ k c. subst (λ n. P n k) same (first.1 k c) in
      once_append (map (f a) r.items) (each_row (a + 1) rs)
      (once_map (f a) r.items (λ x y cx cy e. (apart a x a y (here x cx) (here y cy) e).1) (once_ascending 0 r.items first.0))
      (rows_once P apart rs (a + 1) (λ j s e. let on : a + suc j ≡ a + 1 + j = omega arith in let next = h (suc j) s e in (next.0, λ k c. subst (λ n. P n k) on (next.1 k c))))
      (λ l left right.
      let x = of_map (f a) r.items l left in
      let y = of_rows rs (a + 1) l right in
      let on : a + suc y.place ≡ a + 1 + y.place = omega arith in
      let next = h (suc y.place) y.row y.at in
      let one = (apart a x.0 (a + 1 + y.place) y.number (here x.0 x.1) (subst (λ n. P n y.number) on (next.1 y.number y.inside)) (x.2 ∙ sym y.is)).0 in
      absurd (omega (arith, one)))

  pub rows_long : (rows : List Numbers) (a : ℕ) → length (each_row a rows) ≡ total rows
  rows_long [] a = refl
  rows_long (r ∷ rs) a =
      let front : length (map (f a) r.items) ≡ length r.items = length-map r.items (f a) in
      let rest : length (each_row (a + 1) rs) ≡ total rs = rows_long rs (a + 1) in
      length-append (map (f a) r.items) (each_row (a + 1) rs) ∙ ap (λ n. n + length (each_row (a + 1) rs)) front ∙ ap (λ n. length r.items + n) rest

-- variables

module _ (q : Problem) where
  abbrev Size : ℕ
  Size = length q.names.puts

  one_option : {A : Type 0} (o : Option A) (a b : A) → o ≡ Some a → o ≡ Some b → a ≡ b
  one_option o a b h k = let is : Some a ≡ Some b = sym h ∙ k in cc

  -- puts with variables have different ones
  pub variable_one : (j k : ℕ) → j < Size → k < Size → is_usable q j ≡ true → is_usable q k ≡ true → variable q j ≡ variable q k → j ≡ k
  variable_one j k lj lk uj uk e =
      one_option (slice_get (usable_puts q) (variable q j)) j k (ranked (is_usable q) j Size lj uj) (ap (slice_get (usable_puts q)) e ∙ ranked (is_usable q) k Size lk uk)

  pub variable_below : (k : ℕ) → k < Size → is_usable q k ≡ true → variable q k < variables q
  variable_below k l u = slice_get_within (usable_puts q) (variable q k) k (ranked (is_usable q) k Size l u)

  -- what a clause of a pair is of
  abbrev Usable : ℕ → ℕ → Type 0
  Usable j k = (j < Size) × (k < Size) × (is_usable q j ≡ true) × (is_usable q k ≡ true)

  abbrev Pair : ℕ → ℕ → Bool → List Lit
  Pair j k b = cond b (literal q false j ∷ []) (literal q false j ∷ literal q false k ∷ [])

  first_lit : (j k i m : ℕ) (b c : Bool) → Pair j k b ≡ Pair i m c → literal q false j ≡ literal q false i
  first_lit j k i m true true e = cc
  first_lit j k i m true false e = cc
  first_lit j k i m false true e = cc
  first_lit j k i m false false e = cc

  second_lit : (j k i m : ℕ) (b c : Bool) → Pair j k b ≡ Pair i m c → ((b ≡ true) × (c ≡ true)) ⊎ (literal q false k ≡ literal q false m)
  second_lit j k i m true true e = inl (refl, refl)
  second_lit j k i m true false e = absurd cc
  second_lit j k i m false true e = absurd cc
  second_lit j k i m false false e = inr cc

  pub pair_one : (j k i m : ℕ) → Usable j k → Usable i m → not_both q j k ≡ not_both q i m → (j ≡ i) × (k ≡ m)
  pair_one j k i m u w e =
      let first : j ≡ i = variable_one j i u.0 w.0 u.2 w.2 (ap (λ (l : Lit). l.var) (first_lit j k i m (j == k) (i == m) e)) in (
        first,
        ⊎_elim
            (λ both. sym (eqb-true j k both.0) ∙ first ∙ eqb-true i m both.1)
            (λ second. variable_one k m u.1 w.1 u.3 w.3 (ap (λ (l : Lit). l.var) second))
            (second_lit j k i m (j == k) (i == m) e),
      )

  -- and a clause of an exit
  abbrev AllUsable : List ℕ → Type 0
  AllUsable ks = (k : ℕ) → Contains ks k → (k < Size) × (is_usable q k ≡ true)

  pub exit_one : (xs ys : List ℕ) → AllUsable xs → AllUsable ys → one_of q xs ≡ one_of q ys → xs ≡ ys
  exit_one [] [] u w e = refl
  exit_one [] (y ∷ ys) u w e = absurd cc
  exit_one (x ∷ xs) [] u w e = absurd cc
  exit_one (x ∷ xs) (y ∷ ys) u w e =
      let heads : literal q true x ≡ literal q true y = cc in
      let tails : one_of q xs ≡ one_of q ys = cc in
      let ux = u x (at_first x xs) in
      let wy = w y (at_first y ys) in
      let same : x ≡ y = variable_one x y ux.0 wy.0 ux.1 wy.1 (ap (λ (l : Lit). l.var) heads) in
      let rest : xs ≡ ys = exit_one xs ys (λ k c. u k (at_later x k xs c)) (λ k c. w k (at_later y k ys c)) tails in
      ap (λ z. z ∷ xs) same ∙ ap (λ zs. y ∷ zs) rest

  yes_no : (x y : ℕ) → literal q true x ≡ literal q false y → ⊥
  yes_no x y e = true≢false (ap (λ (l : Lit). l.yes) e)

  -- no clause is of both
  pub exit_pair : (xs : List ℕ) (j k : ℕ) (b : Bool) → one_of q xs ≡ Pair j k b → ⊥
  exit_pair [] j k true e = cc
  exit_pair [] j k false e = cc
  exit_pair (x ∷ xs) j k true e = let heads : literal q true x ≡ literal q false j = cc in yes_no x j heads
  exit_pair (x ∷ xs) j k false e = let heads : literal q true x ≡ literal q false j = cc in yes_no x j heads

-- literals as they are listed

module _ (q : Problem) (v : Variables) (are : AreVariables q v) where
  before_is : (k : ℕ) → k < length q.names.puts → slice_get v.before k ≡ Some (variable q k)
  before_is k inside =
      let at : 0 + k ≡ k = omega arith in
      let long : k < length (range_with_len 0 (length q.names.puts)) = subst (λ n. k < n) (sym (length-range_with_len 0 (length q.names.puts))) inside in
      ap (λ xs. slice_get xs k) are.before ∙ slice_get-map (variable q) (range_with_len 0 (length q.names.puts)) k
      ∙ ap (option_map (variable q)) (slice_get-get_or (range_with_len 0 (length q.names.puts)) k 0 long ∙ ap Some (get_or-range_with_len 0 (length q.names.puts) k 0 inside ∙ at))

  pub literal_is : (sign : Bool) (k : ℕ) → k < length q.names.puts → literal_by v sign k ≡ literal q sign k
  literal_is sign k inside = ap (λ n. (let l : Lit = record { var = n; yes = sign } in l)) (ap number_in (before_is k inside))

  pub one_is_of : (ks : List ℕ) → ((k : ℕ) → Contains ks k → k < length q.names.puts) → one_by v ks ≡ one_of q ks
  one_is_of [] h = refl
  one_is_of (k ∷ ks) h = ap (λ l. l ∷ one_by v ks) (literal_is true k (h k (at_first k ks))) ∙ ap (λ ls. literal q true k ∷ ls) (one_is_of ks (λ i c. h i (at_later k i ks c)))

  pub not_both_is : (j k : ℕ) → j < length q.names.puts → k < length q.names.puts → not_both_by v j k ≡ not_both q j k
  not_both_is j k lj lk =
      ap (λ (l : Lit). cond (j == k) (l ∷ []) (l ∷ literal_by v false k ∷ [])) (literal_is false j lj)
      ∙ ap (λ (l : Lit). cond (j == k) (literal q false j ∷ []) (literal q false j ∷ l ∷ [])) (literal_is false k lk)

pub before_long : (q : Problem) (v : Variables) → AreVariables q v → length v.before ≡ length q.names.puts
before_long q v are = ap length are.before ∙ length-map-range_with_len (variable q) 0 (length q.names.puts)

-- the clauses

module _ (q : Problem) (rooms : HasRooms q) (usable : Numbers) (found : IsFound (length q.names.puts) (is_usable q) usable) (rows : List Numbers) (are : AreConflicts q rows) where
  abbrev Keys : List Numbers
  Keys = exit_sets usable q.exits

  abbrev Third : ℕ × ℕ × Numbers → Numbers
  Third e = narrowed usable e.2

  -- the clauses as the definition has them
  abbrev Listed : List (List Lit)
  Listed = map (λ (s : Numbers). one_of q s.items) Keys ++ each_row (not_both q) 0 rows

  -- a conflict is of usable puts
  conflict_usable : (j k : ℕ) → Conflict q j k → Usable q j k
  conflict_usable j k (by_pair c uj uk) = let order = rooms.derived.pairs j k c in (omega (arith, order.0, order.1), order.1, uj, uk)
  conflict_usable j k (by_triple t c hj hk less uj uk) =
      let both = rooms.derived.triples t c in
      (subst (λ r. j < r) both.1 (both.0.below j hj), subst (λ r. k < r) both.1 (both.0.below k hk), uj, uk)

  conflict_clause : (j k : ℕ) → Conflict q j k → IsClause q (not_both q j k)
  conflict_clause j k (by_pair c uj uk) = of_pair j k c uj uk
  conflict_clause j k (by_triple t c hj hk less uj uk) = of_triple t j k c hj hk less uj uk

  at_row : (j k : ℕ) (r : Numbers) → slice_get rows j ≡ Some r → Contains r.items k → Conflict q j k
  at_row j k r e c = (are.members j k).0 (ap (has (λ (z : Numbers). has_number z.items k)) e ∙ as_has r.items k c)

  row_of : (j k : ℕ) → Conflict q j k → (r : Numbers) × (slice_get rows j ≡ Some r) × Contains r.items k
  row_of j k c = by (slice_get rows j) refl ((are.members j k).1 c)
    where
      by : (o : Option Numbers) → slice_get rows j ≡ o → has (λ (z : Numbers). has_number z.items k) o ≡ true → (r : Numbers) × (slice_get rows j ≡ Some r) × Contains r.items k
      by None e h = absurd (false≢true h)
      by (Some r) e h = (r, e, of_has r.items k h)

  -- the sets of candidates at exits
  items_is : (s : Numbers) → (narrowed usable s).items ≡ filter (is_usable q) s.items
  items_is s = ap (λ p. filter p s.items) (fun_ext found.members)

  key_of : (s : Numbers) → Contains Keys s → (e : ℕ × ℕ × Numbers) × Contains q.exits e × (Third e ≡ s)
  key_of s c = ⊎_elim (λ none. absurd (omega (arith, none.1))) (λ x. (x.part, x.listed, x.is)) (of_grown Third q.exits [] s c)

  key_usable : (s : Numbers) → Contains Keys s → AllUsable q s.items
  key_usable s c k h =
      let e = key_of s c in
      let inside : Contains (filter (is_usable q) e.0.2.items) k = subst (λ xs. Contains xs k) (items_is e.0.2) (subst (λ (z : Numbers). Contains z.items k) (sym e.2) h) in
      let u = of_filter (is_usable q) e.0.2.items k inside in
      let set = rooms.exits e.0 e.1 in
      (subst (λ r. k < r) set.1 (set.0.below k (as_has e.0.2.items k u.listed)), u.passes)

  pub key_room : (s : Numbers) → Contains Keys s → s.room ≡ length q.names.puts
  key_room s c = let e = key_of s c in sym (ap (λ (z : Numbers). z.room) e.2) ∙ (rooms.exits e.0 e.1).1

  keys_apart : (s t : Numbers) → Contains Keys s → Contains Keys t → one_of q s.items ≡ one_of q t.items → s ≡ t
  keys_apart s t cs ct e =
      let items = exit_one q s.items t.items (key_usable s cs) (key_usable t ct) e in
      let room = key_room s cs ∙ sym (key_room t ct) in
      λ i. record { items = items i; room = room i }

  -- what is listed is a clause, and each clause is listed
  listed_clause : (l : List Lit) → Contains Listed l → IsClause q l
  listed_clause l h =
      ⊎_elim
      (λ left.
      let s = of_map (λ (s : Numbers). one_of q s.items) Keys l left in
      let e = key_of s.0 s.1 in
      subst (IsClause q) (ap (one_of q) (sym (items_is e.0.2)) ∙ ap (λ (z : Numbers). one_of q z.items) e.2 ∙ s.2) (of_exit e.0.2 (e.0, e.1, refl)))
      (λ right.
      let x = of_rows (not_both q) rows 0 l right in
      let at : 0 + x.place ≡ x.place = omega arith in
      subst (IsClause q) (ap (λ n. not_both q n x.number) (sym at) ∙ x.is) (conflict_clause x.place x.number (at_row x.place x.number x.row x.at x.inside)))
      (Contains-append_cases (map (λ (s : Numbers). one_of q s.items) Keys) (each_row (not_both q) 0 rows) l h)

  pair_listed : (j k : ℕ) → Conflict q j k → Contains Listed (not_both q j k)
  pair_listed j k c =
      let r = row_of j k c in
      let at : 0 + j ≡ j = omega arith in
      Contains-append_right (map (λ (s : Numbers). one_of q s.items) Keys) (each_row (not_both q) 0 rows) (not_both q j k) (subst (λ n. Contains (each_row (not_both q) 0 rows) (not_both q n k)) at (in_rows (not_both q) rows 0 j k r.0 r.1 r.2))

  clause_listed : (l : List Lit) → IsClause q l → Contains Listed l
  clause_listed l (of_exit c (e, listed, is)) =
      let key : Contains Keys (narrowed usable c) = subst (λ (z : Numbers). Contains Keys (narrowed usable z)) is (in_grown Third q.exits [] e listed) in
      subst (λ xs. Contains Listed (one_of q xs)) (items_is c)
      (Contains-append_left (map (λ (s : Numbers). one_of q s.items) Keys) (each_row (not_both q) 0 rows) (one_of q (narrowed usable c).items) (in_map (λ (s : Numbers). one_of q s.items) Keys (narrowed usable c) key))
  clause_listed l (of_pair j k c uj uk) = pair_listed j k (by_pair c uj uk)
  clause_listed l (of_triple t j k c hj hk less uj uk) = pair_listed j k (by_triple t c hj hk less uj uk)

  listed_once : IsOnce Listed
  listed_once =
      once_append (map (λ (s : Numbers). one_of q s.items) Keys) (each_row (not_both q) 0 rows)
      (once_map (λ (s : Numbers). one_of q s.items) Keys keys_apart (grown_once Third q.exits [] once_none))
      (rows_once (not_both q) (Usable q) (pair_one q) rows 0
      (λ j r e. (
        (are.square j r e).0.ascending,
        λ k c. let at : 0 + j ≡ j = omega arith in subst (λ n. Usable q n k) (sym at) (conflict_usable j k (at_row j k r e c)),
      )))
      (λ l left right.
      let s = of_map (λ (s : Numbers). one_of q s.items) Keys l left in
      let x = of_rows (not_both q) rows 0 l right in
      exit_pair q s.0.items (0 + x.place) x.number ((0 + x.place) == x.number) (s.2 ∙ sym x.is))

  listed_long : length Listed ≡ length Keys + total rows
  listed_long =
      length-append (map (λ (s : Numbers). one_of q s.items) Keys) (each_row (not_both q) 0 rows)
      ∙ ap (λ n. n + length (each_row (not_both q) 0 rows)) (length-map Keys (λ (s : Numbers). one_of q s.items))
      ∙ ap (λ n. length Keys + n) (rows_long (not_both q) rows 0)

  pub more_clauses : (limit : ℕ) → limit < length Keys + total rows → HasMore q limit
  more_clauses limit more = record { list = Listed; each = listed_clause; once = listed_once; more = subst (λ n. limit < n) (sym listed_long) more }

  -- as they are listed
  module _ (v : Variables) (by : AreVariables q v) where
    exits_same : (sets : List Numbers) → ((s : Numbers) → Contains sets s → Contains Keys s) → map (λ (s : Numbers). one_by v s.items) sets ≡ map (λ (s : Numbers). one_of q s.items) sets
    exits_same [] h = refl
    exits_same (s ∷ sets) h =
        ap (λ l. l ∷ map (λ (s : Numbers). one_by v s.items) sets) (one_is_of q v by s.items (λ k c. (key_usable s (h s (at_first s sets)) k c).0))
        ∙ ap (λ ls. one_of q s.items ∷ ls) (exits_same sets (λ t c. h t (at_later s t sets c)))

    row_same : (a : ℕ) (ks : List ℕ) → a < length q.names.puts → ((k : ℕ) → Contains ks k → k < length q.names.puts) → map (not_both_by v a) ks ≡ map (not_both q a) ks
    row_same a [] l h = refl
    row_same a (k ∷ ks) l h = ap (λ c. c ∷ map (not_both_by v a) ks) (not_both_is q v by a k l (h k (at_first k ks))) ∙ ap (λ cs. not_both q a k ∷ cs) (row_same a ks l (λ i c. h i (at_later k i ks c)))

    rows_same : (a : ℕ) (rs : List Numbers) → ((j : ℕ) (r : Numbers) → slice_get rs j ≡ Some r → (k : ℕ) → Contains r.items k → Usable q (a + j) k) → rows_by v a rs ≡ each_row (not_both q) a rs
    rows_same a [] h = refl
    rows_same a (r ∷ rs) h =
        ap (λ ls. ls ++ rows_by v (a + 1) rs) (first r.items (h 0 r refl))
        ∙ ap (λ ls. map (not_both q a) r.items ++ ls) (rows_same (a + 1) rs (λ j s e k c. let on : a + suc j ≡ a + 1 + j = omega arith in subst (λ n. Usable q n k) on (h (suc j) s e k c)))
      where
        first : (ks : List ℕ) → ((k : ℕ) → Contains ks k → Usable q (a + 0) k) → map (not_both_by v a) ks ≡ map (not_both q a) ks
        first [] u = refl
        first (k ∷ ks) u =
            let at : a + 0 ≡ a = omega arith in
            let here = u k (at_first k ks) in
            row_same a (k ∷ ks) (subst (λ n. n < length q.names.puts) at here.0) (λ i c. (u i c).1)

    pub list_is : list_by v Keys rows ≡ Listed
    list_is =
        ap (λ ls. ls ++ rows_by v 0 rows) (exits_same Keys (λ s c. c))
        ∙ ap (λ ls. map (λ (s : Numbers). one_of q s.items) Keys ++ ls) (rows_same 0 rows (λ j r e k c. let at : 0 + j ≡ j = omega arith in subst (λ n. Usable q n k) (sym at) (conflict_usable j k (at_row j k r e c))))

    pub listed_clauses : (list : List (List Lit)) → list ≡ list_by v Keys rows → AreClauses q (let c : Clauses = record { vars = v.count; list = list } in c)
    listed_clauses list is =
        let same : Listed ≡ list = sym (is ∙ list_is) in
        record {
          vars = by.count;
          each = λ l. (λ h. listed_clause l (subst (λ ls. Contains ls l) (sym same) h), λ h. subst (λ ls. Contains ls l) same (clause_listed l h));
          once = subst IsOnce same listed_once;
        }

    pub list_long : (list : List (List Lit)) → list ≡ list_by v Keys rows → length list ≡ length Keys + total rows
    list_long list is = ap length (is ∙ list_is) ∙ listed_long

-- how many there are

pub not_more : (m n : ℕ) → (m < n → ⊥) → n ≤ m
not_more m n none = ⊎_elim (λ yes. absurd (none (ltb-true m n yes))) (λ no. ltb-false m n no) (cases_Bool (ltb m n))

pub no_more_clauses : (q : Problem) (clauses : Clauses) (limit : ℕ) → AreClauses q clauses → length clauses.list ≤ limit → HasMore q limit → ⊥
no_more_clauses q clauses limit are few more =
    let fits : length more.list ≤ length clauses.list = once_fits more.list clauses.list more.once (λ l c. (are.each l).1 (more.each l c)) in
    let over : limit < length more.list = more.more in
    omega (arith, fits, over, few)

-- the variables of clauses

pub clauses_below : (q : Problem) → HasRooms q → (clauses : Clauses) → AreClauses q clauses → AreBelow clauses.vars clauses.list
clauses_below q rooms clauses are c h l inside = subst (λ n. l.var < n) (sym are.vars) (clause_below c ((are.each c).0 h) l inside)
  where
    pair_below : (j k : ℕ) → Usable q j k → (b : Bool) (l : Lit) → Contains (cond b (literal q false j ∷ []) (literal q false j ∷ literal q false k ∷ [])) l → l.var < variables q
    pair_below j k u true l c = subst (λ (z : Lit). z.var < variables q) (one_is (literal q false j) l c) (variable_below q j u.0 u.2)
    pair_below j k u false l c =
        ⊎_elim
        (λ is. subst (λ (z : Lit). z.var < variables q) is (variable_below q j u.0 u.2))
        (λ is. subst (λ (z : Lit). z.var < variables q) is (variable_below q k u.1 u.3))
        (two_are (literal q false j) (literal q false k) l c)

    clause_below : (c : List Lit) → IsClause q c → (l : Lit) → Contains c l → l.var < variables q
    clause_below c (of_exit s (e, listed, is)) l h =
        let x = of_map (literal q true) (filter (is_usable q) s.items) l h in
        let u = of_filter (is_usable q) s.items x.0 x.1 in
        let set = rooms.exits e listed in
        let inside : x.0 < length q.names.puts = subst (λ r. x.0 < r) set.1 (set.0.below x.0 (subst (λ (z : Numbers). has_number z.items x.0 ≡ true) (sym is) (as_has s.items x.0 u.listed))) in
        subst (λ (z : Lit). z.var < variables q) x.2 (variable_below q x.0 inside u.passes)
    clause_below c (of_pair j k p uj uk) l h = let order = rooms.derived.pairs j k p in pair_below j k (omega (arith, order.0, order.1), order.1, uj, uk) (j == k) l h
    clause_below c (of_triple t j k p hj hk less uj uk) l h =
        let both = rooms.derived.triples t p in
        pair_below j k (subst (λ r. j < r) both.1 (both.0.below j hj), subst (λ r. k < r) both.1 (both.0.below k hk), uj, uk) (j == k) l h
