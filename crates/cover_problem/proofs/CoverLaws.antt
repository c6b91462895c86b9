-- What is computed of a choice says whether it is a cover.
use Rattle.std.proofs.Common.{◌≡◌, ◌≢◌, ◌↔◌, ℕ, zero, suc, ◌+◌, ◌-◌, ◌<◌, ◌≤◌, ◌==◌, ◌&&◌, ◌||◌, not, Bool, true, false, cond, eqb, leb, List, [], ◌∷◌, length, slice_get, Option, Some, None, ⊎_elim, refl, ap, sym, subst, ◌∙◌, arith}
use Rattle.std.proofs.lemmas.Bool.{and_parts, and_from, or_cases, or_left, or_right, cases_Bool, cases_eq, eq-eqb, eqb-true, ne_eqb, leb-true, le-leb, true≢false, false≢true}
use Rattle.std.proofs.lemmas.Option.{slice_get_within}
use Rattle.std.specs.List.{Contains, filter, list_all, list_any, range_with_len}
use Rattle.c_tree.specs.Typing.{has}
use Rattle.c_tree.specs.declared.choice.Choice.{Choice}
use Rattle.c_graph.specs.declared.graph.Graph.{Graph}
use Rattle.mf_set.specs.Numbers.{Numbers, has as has_number, IsAscendingFrom, IsSet}
use Rattle.mf_set.proofs.NumberLaws.{has_from_low}
use Rattle.ts_domain.specs.declared.facts.Path.{Path}
use Rattle.ts_domain.specs.declared.names.Names.{Names}
use Rattle.ts_domain.specs.declared.triples.Derived.{Derived}
use Rattle.ts_domain.specs.declared.triples.Triple.{Triple}
use Rattle.ts_domain.specs.Chosen.{has_put, is_chosen}
use Rattle.ts_domain.specs.Cover as domain
use Rattle.ts_domain.specs.Cover.{is_allowed, is_allowed_put, Covers, IsChosen, IsCover, IsHeld}
use Rattle.cover_problem.specs.declared.types.Problem.{Problem}
use Rattle.cover_problem.specs.Covering.{are_apart, are_named, are_sound, count_chosen, covers, hold_at_most_one, hold_one, is_held, is_sound}
use Rattle.cover_problem.specs.Problem.{AtExit, HasRooms, HasShape, IsCoverOf, IsProblem}
use Rattle.ts_domain.proofs.ChosenLaws.{chosen, is_so, put_found, put_there}
use Rattle.cover_problem.proofs.Members.{all_at, all_from, any_at, any_from}

-- numbers that pass a test, counted

count_first : (p : ℕ → Bool) (x : ℕ) (xs : List ℕ) → p x ≡ true → length (filter p (x ∷ xs)) ≡ suc (length (filter p xs))
count_first p x xs e = ap (λ b. length (cond b (x ∷ filter p xs) (filter p xs))) e

count_rest : (p : ℕ → Bool) (x : ℕ) (xs : List ℕ) → length (filter p xs) ≤ length (filter p (x ∷ xs))
count_rest p x xs =
    elim (p x) as (λ b. length (filter p xs) ≤ length (cond b (x ∷ filter p xs) (filter p xs))) [ true ↦ omega arith | false ↦ omega arith ]

-- a number that passes makes at least one
pub counted : (p : ℕ → Bool) (xs : List ℕ) (k : ℕ) → has_number xs k ≡ true → p k ≡ true → 1 ≤ length (filter p xs)
counted p [] k h e = absurd (false≢true h)
counted p (x ∷ xs) k h e =
    ⊎_elim
    (λ here. let count = count_first p x xs (subst (λ j. p j ≡ true) (sym (eqb-true x k here)) e) in omega arith)
    (λ later. let rest = counted p xs k later e in let more = count_rest p x xs in omega arith)
    (or_cases (eqb x k) (has_number xs k) h)

-- where one is counted, one passes
pub some_counted : (p : ℕ → Bool) (xs : List ℕ) → 1 ≤ length (filter p xs) → (k : ℕ) × (has_number xs k ≡ true) × (p k ≡ true)
some_counted p [] h = absurd (omega (arith, h))
some_counted p (x ∷ xs) h =
    ⊎_elim
    (λ yes. (x, or_left (eqb x x) (has_number xs x) (eq-eqb x x refl), yes))
    (λ no.
    let same : length (filter p (x ∷ xs)) ≡ length (filter p xs) = ap (λ b. length (cond b (x ∷ filter p xs) (filter p xs))) no in
    let r = some_counted p xs (omega arith) in
    (r.0, or_right (eqb x r.0) (has_number xs r.0) r.1, r.2))
    (cases_Bool (p x))

-- where at most one is counted, those that pass are one
pub at_most : (p : ℕ → Bool) (xs : List ℕ) → length (filter p xs) ≤ 1 → (j k : ℕ) → has_number xs j ≡ true → has_number xs k ≡ true → p j ≡ true → p k ≡ true → j ≡ k
at_most p [] few j k hj hk pj pk = absurd (false≢true hj)
at_most p (x ∷ xs) few j k hj hk pj pk =
    ⊎_elim
    (λ ej.
    ⊎_elim
    (λ ek. sym (eqb-true x j ej) ∙ eqb-true x k ek)
    (λ lk. absurd (two j k (eqb-true x j ej) pj lk pk))
    (or_cases (eqb x k) (has_number xs k) hk))
    (λ lj.
    ⊎_elim
    (λ ek. absurd (two k j (eqb-true x k ek) pk lj pj))
    (λ lk. let rest = count_rest p x xs in at_most p xs (omega arith) j k lj lk pj pk)
    (or_cases (eqb x k) (has_number xs k) hk))
    (or_cases (eqb x j) (has_number xs j) hj)
  where
    two : (a b : ℕ) → x ≡ a → p a ≡ true → has_number xs b ≡ true → p b ≡ true → ⊥
    two a b e pa hb pb =
        let first = count_first p x xs (subst (λ z. p z ≡ true) (sym e) pa) in
        let rest = counted p xs b hb pb in
        omega arith

fewer : (n : ℕ) → (1 ≤ n → ⊥) → n < 1
fewer zero none = omega arith
fewer (suc n) none = absurd (none (omega arith))

-- where those that pass are one and the first does, no other does
no_more : (p : ℕ → Bool) (x : ℕ) (xs : List ℕ) → IsAscendingFrom (suc x) xs → ((j k : ℕ) → has_number (x ∷ xs) j ≡ true → has_number (x ∷ xs) k ≡ true → p j ≡ true → p k ≡ true → j ≡ k) → p x ≡ true → 1 ≤ length (filter p xs) → ⊥
no_more p x xs up one passes h =
    let r = some_counted p xs h in
    let first : has_number (x ∷ xs) x ≡ true = or_left (eqb x x) (has_number xs x) (eq-eqb x x refl) in
    let later : has_number (x ∷ xs) r.0 ≡ true = or_right (eqb x r.0) (has_number xs r.0) r.1 in
    let same : x ≡ r.0 = one x r.0 first later passes r.2 in
    let above : suc x ≤ r.0 = has_from_low (suc x) xs r.0 up r.1 in
    omega arith

-- and where those that pass are one, at most one of numbers that ascend is counted
pub few_counted : (p : ℕ → Bool) (low : ℕ) (xs : List ℕ) → IsAscendingFrom low xs → ((j k : ℕ) → has_number xs j ≡ true → has_number xs k ≡ true → p j ≡ true → p k ≡ true → j ≡ k) → length (filter p xs) ≤ 1
few_counted p low [] up one = omega arith
few_counted p low (x ∷ xs) up one =
    ⊎_elim
    (λ passes.
    let count = count_first p x xs passes in
    let none : length (filter p xs) < 1 = fewer (length (filter p xs)) (no_more p x xs up.1 one passes) in
    omega arith)
    (λ fails.
    let same : length (filter p (x ∷ xs)) ≡ length (filter p xs) = ap (λ b. length (cond b (x ∷ filter p xs) (filter p xs))) fails in
    let rest = few_counted p (suc x) xs up.1 (λ j k hj hk. one j k (or_right (eqb x j) (has_number xs j) hj) (or_right (eqb x k) (has_number xs k) hk)) in
    omega arith)
    (cases_Bool (p x))

-- parts of a cover

pub not_true : (b : Bool) → not b ≡ true → b ≡ false
not_true true e = absurd (false≢true e)
not_true false e = refl

true_not : (b : Bool) → (b ≡ true → ⊥) → not b ≡ true
true_not true none = absurd (none refl)
true_not false none = refl

or_so : (a b : Bool) → (a ≡ true → b ≡ true) → (not a || b) ≡ true
or_so true b h = h refl
or_so false b h = refl

so_or : (a b : Bool) → (not a || b) ≡ true → a ≡ true → b ≡ true
so_or true b h e = h
so_or false b h e = absurd (false≢true e)

range_all : (f : ℕ → Bool) (a n k : ℕ) → list_all f (range_with_len a n) ≡ true → a ≤ k → k < a + n → f k ≡ true
range_all f a zero k h low high = absurd (omega arith)
range_all f a (suc n) k h low high =
    let both = and_parts (f a) (list_all f (range_with_len (a + 1) n)) h in
    ⊎_elim
    (λ (e : a ≡ k). subst (λ j. f j ≡ true) e both.0)
    (λ (e : a ≢ k). range_all f (a + 1) n k both.1 (omega arith) (omega arith))
    (cases_eq a k)

all_range : (f : ℕ → Bool) (a n : ℕ) → ((k : ℕ) → a ≤ k → k < a + n → f k ≡ true) → list_all f (range_with_len a n) ≡ true
all_range f a zero h = refl
all_range f a (suc n) h =
    and_from (f a) (list_all f (range_with_len (a + 1) n)) (h a (omega arith) (omega arith)) (all_range f (a + 1) n (λ k low high. h k (omega arith) (omega arith)))

module _ (q : Problem) (s : Choice) where
  abbrev n : Names
  n = q.names

  abbrev d : Derived
  d = q.derived

  abbrev Sound : ℕ → Bool
  Sound k = has_number q.allowed.items k && (not (has_number d.forbidden.items k) && is_held d.triples k)

  sound_at : are_sound q s ≡ true → (k : ℕ) → IsChosen n s k → Sound k ≡ true
  sound_at e k h =
      let inside : k < length n.puts = slice_get_within n.puts k h.0 h.2 in
      so_or (is_chosen n s k) (Sound k) (range_all (is_sound q s) 0 (length n.puts) k e (omega arith) (omega arith)) (is_so n s k h)

  allowed_at : (k : ℕ) → Sound k ≡ true → has_number q.allowed.items k ≡ true
  allowed_at k e = (and_parts (has_number q.allowed.items k) (not (has_number d.forbidden.items k) && is_held d.triples k) e).0

  rest_at : (k : ℕ) → Sound k ≡ true → (not (has_number d.forbidden.items k) ≡ true) × (is_held d.triples k ≡ true)
  rest_at k e = and_parts (not (has_number d.forbidden.items k)) (is_held d.triples k) (and_parts (has_number q.allowed.items k) (not (has_number d.forbidden.items k) && is_held d.triples k) e).1

  abbrev Apart : ℕ × ℕ → Bool
  Apart p = not (is_chosen n s p.0 && is_chosen n s p.1)

  abbrev Few : Triple → Bool
  Few t = leb (count_chosen n s t.puts) 1

  abbrev One : ℕ × ℕ × Numbers → Bool
  One e = leb 1 (count_chosen n s e.2)

  apart_at : are_apart n s d.pairs ≡ true → (j k : ℕ) → Contains d.pairs (j, k) → IsChosen n s j → IsChosen n s k → ⊥
  apart_at e j k c hj hk =
      let both = and_from (is_chosen n s j) (is_chosen n s k) (is_so n s j hj) (is_so n s k hk) in
      true≢false (sym both ∙ not_true (is_chosen n s j && is_chosen n s k) (all_at Apart d.pairs e (j, k) c))

  few_at : hold_at_most_one n s d.triples ≡ true → (t : Triple) → Contains d.triples t → (j k : ℕ) → has_number t.puts.items j ≡ true → has_number t.puts.items k ≡ true → IsChosen n s j → IsChosen n s k → j ≡ k
  few_at e t c j k hj hk cj ck =
      at_most (is_chosen n s) t.puts.items (leb-true (count_chosen n s t.puts) 1 (all_at Few d.triples e t c)) j k hj hk (is_so n s j cj) (is_so n s k ck)

  one_at : hold_one n s q.exits ≡ true → (c : Numbers) → AtExit q c → (k : ℕ) × IsChosen n s k × (has_number c.items k ≡ true)
  one_at e c (x, listed, is) =
      let many : 1 ≤ count_chosen n s x.2 = leb-true 1 (count_chosen n s x.2) (all_at One q.exits e x listed) in
      let r = some_counted (is_chosen n s) c.items (subst (λ (z : Numbers). 1 ≤ count_chosen n s z) is many) in
      (r.0, chosen n s r.0 r.2, r.1)

  pub covers_so : covers q s ≡ true → IsCoverOf q s
  covers_so e =
      let one = and_parts (are_named n s.puts) (are_sound q s && (are_apart n s d.pairs && (hold_at_most_one n s d.triples && hold_one n s q.exits))) e in
      let two = and_parts (are_sound q s) (are_apart n s d.pairs && (hold_at_most_one n s d.triples && hold_one n s q.exits)) one.1 in
      let three = and_parts (are_apart n s d.pairs) (hold_at_most_one n s d.triples && hold_one n s q.exits) two.1 in
      let four = and_parts (hold_at_most_one n s d.triples) (hold_one n s q.exits) three.1 in
      record {
        named = λ r c. put_found n.puts r (all_at (has_put n.puts) s.puts one.0 r c);
        allowed = λ k h. allowed_at k (sound_at two.0 k h);
        unforbidden = λ k h. not_true (has_number d.forbidden.items k) (rest_at k (sound_at two.0 k h)).0;
        held = λ k h. any_at (λ (t : Triple). has_number t.puts.items k) d.triples (rest_at k (sound_at two.0 k h)).1;
        apart = apart_at three.0;
        at_most_one = few_at four.0;
        one_at_exits = one_at four.1;
      }

  held_so : (k : ℕ) → IsHeld d k → is_held d.triples k ≡ true
  held_so k h = any_from (λ (t : Triple). has_number t.puts.items k) d.triples h.0 h.1 h.2

  sound_so : IsCoverOf q s → (k : ℕ) → is_sound q s k ≡ true
  sound_so h k =
      or_so (is_chosen n s k) (Sound k)
      (λ e.
      let c = chosen n s k e in
      and_from (has_number q.allowed.items k) (not (has_number d.forbidden.items k) && is_held d.triples k) (h.allowed k c)
      (and_from (not (has_number d.forbidden.items k)) (is_held d.triples k) (ap not (h.unforbidden k c)) (held_so k (h.held k c))))

  apart_so : IsCoverOf q s → (p : ℕ × ℕ) → Contains d.pairs p → Apart p ≡ true
  apart_so h p c =
      true_not (is_chosen n s p.0 && is_chosen n s p.1)
      (λ e.
      let both = and_parts (is_chosen n s p.0) (is_chosen n s p.1) e in
      h.apart p.0 p.1 c (chosen n s p.0 both.0) (chosen n s p.1 both.1))

  few_so : HasShape n d → IsCoverOf q s → (t : Triple) → Contains d.triples t → Few t ≡ true
  few_so shape h t c =
      le-leb (count_chosen n s t.puts) 1
      (few_counted (is_chosen n s) 0 t.puts.items (shape.triples t c).0.ascending (λ j k hj hk cj ck. h.at_most_one t c j k hj hk (chosen n s j cj) (chosen n s k ck)))

  one_so : IsCoverOf q s → (e : ℕ × ℕ × Numbers) → Contains q.exits e → One e ≡ true
  one_so h e c =
      let r = h.one_at_exits e.2 (e, c, refl) in
      le-leb 1 (count_chosen n s e.2) (counted (is_chosen n s) e.2.items r.0 r.2 (is_so n s r.0 r.1))

  pub so_covers : HasShape n d → IsCoverOf q s → covers q s ≡ true
  so_covers shape h =
      and_from (are_named n s.puts) (are_sound q s && (are_apart n s d.pairs && (hold_at_most_one n s d.triples && hold_one n s q.exits)))
      (all_from (has_put n.puts) s.puts (λ r c. put_there n.puts r (h.named r c)))
      (and_from (are_sound q s) (are_apart n s d.pairs && (hold_at_most_one n s d.triples && hold_one n s q.exits))
      (all_range (is_sound q s) 0 (length n.puts) (λ k low high. sound_so h k))
      (and_from (are_apart n s d.pairs) (hold_at_most_one n s d.triples && hold_one n s q.exits)
      (all_from Apart d.pairs (apart_so h))
      (and_from (hold_at_most_one n s d.triples) (hold_one n s q.exits)
      (all_from Few d.triples (few_so shape h))
      (all_from One q.exits (one_so h)))))

  pub covers_exact : HasShape n d → (covers q s ≡ true) ↔ IsCoverOf q s
  covers_exact shape = (covers_so, so_covers shape)

-- a cover of the problem is a cover of what it was made of

module _ (n : Names) (d : Derived) (s : Choice) where
  pub covers_alike : (f g : ℕ → Bool) (E F : Numbers → Type 0) → ((k : ℕ) → f k ≡ g k) → ((c : Numbers) → F c → E c) → Covers f E n d s → Covers g F n d s
  covers_alike f g E F same all h = record {
    named = h.named;
    allowed = λ k c. sym (same k) ∙ h.allowed k c;
    unforbidden = h.unforbidden;
    held = h.held;
    apart = h.apart;
    at_most_one = h.at_most_one;
    one_at_exits = λ c e. h.one_at_exits c (all c e);
  }

named_below : {A : Type 0} (f : A → Bool) (xs : List A) (k : ℕ) (o : Option A) → slice_get xs k ≡ o → has f o ≡ true → k < length xs
named_below f xs k None e h = absurd (false≢true h)
named_below f xs k (Some x) e h = slice_get_within xs k x e

-- a problem has the rooms of what it was made of
pub problem_rooms : (g : Graph) (n : Names) (p : Path) (d : Derived) (q : Problem) → IsProblem g n p d q → HasShape n d → HasRooms q
problem_rooms g n p d q is shape = record {
  derived = subst (λ (e : Derived). HasShape q.names e) (sym is.derived) (subst (λ (m : Names). HasShape m d) (sym is.names) shape);
  allowed = λ k h. subst (λ (m : Names). k < length m.puts) (sym is.names) (named_below (is_allowed_put g n p) n.puts k (slice_get n.puts k) refl (sym (is.allowed k) ∙ h));
  exits = λ e c.
      let x = (is.exits e).0 c in
      let t = shape.triples x.triple x.derived in
      let set : IsSet e.2 = subst (λ (z : ℕ × ℕ × Numbers). IsSet z.2) (sym x.is) t.0 in
      (set, ap (λ (z : ℕ × ℕ × Numbers). z.2.room) x.is ∙ t.1 ∙ ap (λ (m : Names). length m.puts) (sym is.names));
}

module _ (g : Graph) (p : Path) (q : Problem) (is : IsProblem g q.names p q.derived q) (s : Choice) where
  exit_listed : (c : Numbers) → AtExit q c → domain.AtExit g q.derived c
  exit_listed c (e, listed, same) =
      let x = (is.exits e).0 listed in
      (x.triple, x.derived, x.leaves, sym (ap (λ (z : ℕ × ℕ × Numbers). z.2) x.is) ∙ same)

  listed_exit : (c : Numbers) → domain.AtExit g q.derived c → AtExit q c
  listed_exit c (t, derived, leaves, same) =
      ((t.mark.site, t.node, t.puts), (is.exits (t.mark.site, t.node, t.puts)).1 (record { triple = t; derived = derived; leaves = leaves; is = refl }), same)

  pub cover_of_graph : IsCoverOf q s ↔ IsCover g q.names p q.derived s
  cover_of_graph = (
    covers_alike q.names q.derived s (has_number q.allowed.items) (is_allowed g q.names p) (AtExit q) (domain.AtExit g q.derived) is.allowed listed_exit,
    covers_alike q.names q.derived s (is_allowed g q.names p) (has_number q.allowed.items) (domain.AtExit g q.derived) (AtExit q) (λ k. sym (is.allowed k)) exit_listed,
  )

-- one place more in a loop over all

pub all_more : (f : ℕ → Bool) (i n : ℕ) (r : Bool) → i < n → f i ≡ true → list_all f (range_with_len i (n - i)) ≡ r → list_all f (range_with_len (i + 1) (n - (i + 1))) ≡ r
all_more f i n r inside passes h =
    let count : n - i ≡ suc (n - (i + 1)) = omega arith in
    ap (λ b. b && list_all f (range_with_len (i + 1) (n - (i + 1)))) (sym passes) ∙ ap (λ m. list_all f (range_with_len i m)) (sym count) ∙ h
