-- What sets of facts say of the facts that are noted at nodes.
use Rattle.std.proofs.Common.{◌≡◌, ℕ, zero, suc, ◌+◌, ◌-◌, ◌<◌, ◌≤◌, ◌==◌, Bool, true, false, ◌&&◌, not, List, [], ◌∷◌, length, slice_get, Option, None, Some, ⊎_elim, refl, ap, sym, ◌∙◌, subst, arith}
use Rattle.std.proofs.lemmas.Bool.{and_parts, and_from, or_cases, or_left, or_right, eq-eqb, eqb-true, eqb-false, false≢true, true≢false}
use Rattle.std.specs.Cmp.{both_ways}
use Rattle.std.specs.List.{list_all, list_any, range_with_len}
use Rattle.c_tree.specs.Typing.{has}
use Rattle.c_graph.specs.declared.graph.Edge.{Edge}
use Rattle.c_graph.specs.declared.graph.Graph.{Graph}
use Rattle.mf_set.specs.Numbers.{Numbers, IsBelow, IsSet, has as has_number, is_subset}
use Rattle.ts_domain.specs.declared.before.Before.{Before}
use Rattle.ts_domain.specs.declared.before.Before.TheVariants.{Always, Never, Where}
use Rattle.ts_domain.specs.declared.fact.Fact.{Fact}
use Rattle.ts_domain.specs.declared.facts.Path.{Path}
use Rattle.ts_domain.specs.declared.names.Names.{Names}
use Rattle.ts_domain.specs.Facts.{fact_at, is_fact, number_of}
use Rattle.ts_domain.specs.Marks.{items_of}
use Rattle.ts_domain.specs.Path.{before_edge, holds_at, true_at_start}
use Rattle.path_facts.specs.Corrections.{Carries}
use Rattle.path_facts.specs.Numbering.{holds, holds_before, room_of}
use Rattle.path_facts.specs.Start.{IsStart}
use Rattle.cover_certificate.specs.Closed.{adds_fact, is_false_at_start, some_fact, stands_before}
use Rattle.cert_checker.specs.Checking.{HasRooms, IsNotedAt, numbers_at}
use Rattle.cert_checker.proofs.FactsByNumber.{fact_of_number}

-- tests of numbers

not_all : (f : ℕ → Bool) (xs : List ℕ) → not (list_all f xs) ≡ true → (k : ℕ) × (has_number xs k ≡ true) × (f k ≡ false)
not_all f [] h = absurd (false≢true h)
not_all f (x ∷ xs) h = by_head (not_all f xs) (f x) refl
  where
    by_head : (not (list_all f xs) ≡ true → (k : ℕ) × (has_number xs k ≡ true) × (f k ≡ false)) → (b : Bool) → f x ≡ b → (k : ℕ) × (has_number (x ∷ xs) k ≡ true) × (f k ≡ false)
    by_head rest false is = (x, or_left (x == x) (has_number xs x) (eq-eqb x x refl), is)
    by_head rest true is =
        let it = rest (ap (λ b. not (b && list_all f xs)) (sym is) ∙ h) in
        (it.0, or_right (x == it.0) (has_number xs it.0) it.1, it.2)

all_has : (f : ℕ → Bool) (xs : List ℕ) (k : ℕ) → list_all f xs ≡ true → has_number xs k ≡ true → f k ≡ true
all_has f [] k all h = absurd (false≢true h)
all_has f (x ∷ xs) k all h =
    let both = and_parts (f x) (list_all f xs) all in
    ⊎_elim (λ (e : (x == k) ≡ true). subst (λ j. f j ≡ true) (eqb-true x k e) both.0) (λ (rest : has_number xs k ≡ true). all_has f xs k both.1 rest) (or_cases (x == k) (has_number xs k) h)

in_range : (f : ℕ → Bool) (a n k : ℕ) → a ≤ k → k < a + n → f k ≡ true → list_any f (range_with_len a n) ≡ true
in_range f a zero k low high h = absurd (omega (arith, low, high))
in_range f a (suc n) k low high h = by_head (λ more. in_range f (a + 1) n k more (omega (arith, high)) h) (a == k) refl
  where
    by_head : (a + 1 ≤ k → list_any f (range_with_len (a + 1) n) ≡ true) → (b : Bool) → (a == k) ≡ b → list_any f (range_with_len a (suc n)) ≡ true
    by_head rest true is = or_left (f a) (list_any f (range_with_len (a + 1) n)) (subst (λ j. f j ≡ true) (sym (eqb-true a k is)) h)
    by_head rest false is = let other = eqb-false a k is in or_right (f a) (list_any f (range_with_len (a + 1) n)) (rest (omega (arith, low, other)))

of_range : (f : ℕ → Bool) (a n : ℕ) → list_any f (range_with_len a n) ≡ true → (k : ℕ) × (a ≤ k) × (k < a + n) × (f k ≡ true)
of_range f a zero h = absurd (false≢true h)
of_range f a (suc n) h =
    ⊎_elim
    (λ (first : f a ≡ true). (a, omega arith, omega arith, first))
    (λ (rest : list_any f (range_with_len (a + 1) n) ≡ true). let it = of_range f (a + 1) n rest in (it.0, omega (arith, it.1), omega (arith, it.2), it.3))
    (or_cases (f a) (list_any f (range_with_len (a + 1) n)) h)

not_so : (b : Bool) → false ≡ not b → b ≡ true
not_so true h = refl
not_so false h = absurd (false≢true h)

twice : (b : Bool) → b ≡ not (not b)
twice true = refl
twice false = refl

noted_by : (k : ℕ) (o : Option Numbers) → has (λ (s : Numbers). has_number s.items k) o ≡ has_number (items_of o) k
noted_by k None = refl
noted_by k (Some s) = refl

-- a set that says of each fact whether it fails a test

module _ (n : Names) (p : Path) (v : ℕ) (test : Fact → Bool) (s : Numbers) (same : (f : Fact) → is_fact n f ≡ true → holds n s f ≡ not (test f)) (below : IsBelow (room_of n) (numbers_at p v)) where
  abbrev Passes : Fact → Bool
  Passes f = holds_at n p v f && test f

  noted : (f : Fact) → holds_at n p v f ≡ has_number (numbers_at p v) (number_of n f)
  noted f = noted_by (number_of n f) (slice_get p.at v)

  lacking : not (is_subset (numbers_at p v) s.items) ≡ true → some_fact n p v test ≡ true
  lacking h =
      let it = not_all (has_number s.items) (numbers_at p v) h in
      let low : it.0 < room_of n = below it.0 it.1 in
      let f = fact_of_number (length n.vars) (length n.fields) it.0 low in
      let there : holds_at n p v f.0 ≡ true = noted f.0 ∙ ap (has_number (numbers_at p v)) f.1.number ∙ it.1 in
      let passes : test f.0 ≡ true = not_so (test f.0) (sym (ap (has_number s.items) f.1.number ∙ it.2) ∙ same f.0 f.1.exists) in
      in_range (λ k. has Passes (fact_at (length n.vars) (length n.fields) k)) 0 (room_of n) it.0 (omega arith) (omega (arith, low))
      (ap (has Passes) f.1.found ∙ and_from (holds_at n p v f.0) (test f.0) there passes)

  passing : some_fact n p v test ≡ true → not (is_subset (numbers_at p v) s.items) ≡ true
  passing h =
      let it = of_range (λ k. has Passes (fact_at (length n.vars) (length n.fields) k)) 0 (room_of n) h in
      let low : it.0 < room_of n = omega (arith, it.2) in
      let f = fact_of_number (length n.vars) (length n.fields) it.0 low in
      let both = and_parts (holds_at n p v f.0) (test f.0) (ap (has Passes) (sym f.1.found) ∙ it.3) in
      let there : has_number (numbers_at p v) it.0 ≡ true = ap (has_number (numbers_at p v)) (sym f.1.number) ∙ sym (noted f.0) ∙ both.0 in
      let out : has_number s.items it.0 ≡ false = ap (has_number s.items) (sym f.1.number) ∙ same f.0 f.1.exists ∙ ap not both.1 in
      by_all it.0 there out (is_subset (numbers_at p v) s.items) refl
    where
      by_all : (k : ℕ) → has_number (numbers_at p v) k ≡ true → has_number s.items k ≡ false → (b : Bool) → is_subset (numbers_at p v) s.items ≡ b → not (is_subset (numbers_at p v) s.items) ≡ true
      by_all k there out true all = absurd (true≢false (sym (all_has (has_number s.items) (numbers_at p v) k all there) ∙ out))
      by_all k there out false all = ap not all

  pub facts_exact : not (is_subset (numbers_at p v) s.items) ≡ some_fact n p v test
  facts_exact = both_ways (not (is_subset (numbers_at p v) s.items)) (some_fact n p v test) lacking passing

-- over an edge, and at the start

stands_by : (n : Names) (p : Path) (v : ℕ) (s : Numbers) → IsNotedAt n p v s → (b : Before) → holds_before n s b ≡ stands_before n p v b
stands_by n p v s is Always = refl
stands_by n p v s is Never = refl
stands_by n p v s is (Where f) = is.facts f

pub adds_exact : (n : Names) (g : Graph) (p : Path) (e : Edge) (before carried : Numbers) → IsNotedAt n p e.from before → Carries n (before_edge n g e) before carried → IsBelow (room_of n) (numbers_at p e.to)
    → not (is_subset (numbers_at p e.to) carried.items) ≡ adds_fact n g p e
adds_exact n g p e before carried noted carries below =
    facts_exact n p e.to (λ (f : Fact). not (stands_before n p e.from (before_edge n g e f))) carried
    (λ f is. carries.facts f is ∙ stands_by n p e.from before noted (before_edge n g e f) ∙ twice (stands_before n p e.from (before_edge n g e f))) below

pub start_exact : (n : Names) (p : Path) (s : Numbers) → IsStart n s → IsBelow (room_of n) (numbers_at p 0) → not (is_subset (numbers_at p 0) s.items) ≡ is_false_at_start n p
start_exact n p s start below = facts_exact n p 0 (λ (f : Fact). not (true_at_start n f)) s (λ f is. start.facts f is ∙ twice (true_at_start n f)) below

-- sets at nodes

pub noted_from : (n : Names) (p : Path) (v : ℕ) (s : Numbers) → s.items ≡ numbers_at p v → s.room ≡ room_of n → IsNotedAt n p v s
noted_from n p v s items room = record {
  room = room;
  facts = λ f. ap (λ (xs : List ℕ). has_number xs (number_of n f)) items ∙ sym (noted_by (number_of n f) (slice_get p.at v));
}

pub below_at : (n : Names) (p : Path) (v : ℕ) → HasRooms n p → ((x : Numbers) → slice_get p.at v ≡ Some x → IsSet x) → IsBelow (room_of n) (numbers_at p v)
below_at n p v rooms sets = by_set (slice_get p.at v) refl
  where
    by_set : (o : Option Numbers) → slice_get p.at v ≡ o → IsBelow (room_of n) (items_of o)
    by_set None is = λ k h. absurd (false≢true h)
    by_set (Some x) is = λ k h. subst (λ (room : ℕ). k < room) (rooms v x is) ((sets x is).below k h)

pub set_at : (xs : List Numbers) (v : ℕ) (own : Numbers) → slice_get xs v ≡ Some own → IsSet own → (x : Numbers) → slice_get xs v ≡ Some x → IsSet x
set_at xs v own at set x is = let same : own ≡ x = cc in subst IsSet same set
