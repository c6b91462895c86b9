-- What is noted at all nodes of a gap is what the allowed puts need.
use Rattle.std.proofs.Common.{◌≡◌, ◌≢◌, ℕ, zero, suc, ◌+◌, ◌<◌, ◌≤◌, ◌==◌, ◌&&◌, ◌||◌, not, Bool, true, false, cond, eqb, ltb, List, [], ◌∷◌, map, length, slice_get, Option, Some, None, option_map, ⊎_elim, refl, ap, sym, subst, ◌∙◌, arith}
use Rattle.std.proofs.lemmas.Bool.{cases_eq, ne_eqb, eq-eqb, lt-ltb, le-ltb, ltb-true, ltb-false}
use Rattle.std.proofs.lemmas.Option.{slice_get_within}
use Rattle.std.specs.List.{filter, list_all, range_with_len}
use Rattle.std.specs.Option.{option_and_then}
use Rattle.c_tree.specs.Typing.{has}
use Rattle.c_tree.specs.declared.choice.Put.{Put}
use Rattle.c_graph.specs.declared.graph.Graph.{Graph}
use Rattle.c_graph.specs.declared.graph.Node.{Node}
use Rattle.c_graph.specs.declared.graph.NodeKind.{NodeKind}
use Rattle.c_graph.specs.declared.graph.NodeKind.TheVariants as kind
use Rattle.mf_set.specs.Numbers.{Numbers, has as has_number, with_number}
use Rattle.mf_set.proofs.NumberLaws.{has-with_number}
use Rattle.ts_domain.specs.declared.fact.Fact.{Fact}
use Rattle.ts_domain.specs.declared.fact.Fact.TheVariants.{Ready, Full, Filled}
use Rattle.ts_domain.specs.declared.facts.Path.{Path}
use Rattle.ts_domain.specs.declared.names.Names.{Names}
use Rattle.ts_domain.specs.Cover.{facts_of_place, is_allowed, is_allowed_put, is_free_there, is_gap, is_gap_at}
use Rattle.ts_domain.specs.Path.{holds_at}
use Rattle.ts_domain.specs.Pointers.{place_of, field_place}
use Rattle.ts_domain.specs.Rows.{row, places_of, is_key, AreRows}
use Rattle.ts_domain.proofs.RowLaws.{places_keyed}
use Rattle.cover_problem.specs.declared.allowed.Needs.TheVariants.{Field}
use Rattle.cover_problem.specs.Parts.{are_noted_at, gap_of, is_allowed_by, is_noted, needs_at, needs_of, AreAllowed, AreAllowedBy}

-- what a free asks for

and_true : (b : Bool) → b ≡ (b && true)
and_true true = refl
and_true false = refl

module _ (n : Names) (p : Path) (v : ℕ) where
  abbrev Noted : Option (List Fact) → Bool
  Noted facts = has (λ (fs : List Fact). list_all (holds_at n p v) fs) facts

  noted_field : (x : ℕ) (o : Option ℕ) →
      are_noted_at p (option_map (λ j. Field x (length n.vars + x) (length n.vars + length n.vars + j)) o) v ≡ Noted (option_map (λ j. Ready x ∷ Full x ∷ Filled j ∷ []) o)
  noted_field x None = refl
  noted_field x (Some j) =
      ap (λ b. is_noted p v x && (is_noted p v (length n.vars + x) && b)) (and_true (is_noted p v (length n.vars + length n.vars + j)))

  noted_place : (f : Option ℕ) (o : Option ℕ) → are_noted_at p (option_and_then (needs_at n f) o) v ≡ Noted (option_and_then (facts_of_place n f) o)
  noted_place f None = refl
  noted_place None (Some x) = and_true (is_noted p v x)
  noted_place (Some f) (Some x) = noted_field x (field_place n.fields x f)

  pub noted_needs : (q : Put) → are_noted_at p (needs_of n q) v ≡ is_free_there n p q v
  noted_needs q = noted_place q.field (place_of n q.var)

-- at all nodes of a gap

all_filter : (f p : ℕ → Bool) (xs : List ℕ) → list_all f (filter p xs) ≡ list_all (λ v. not (p v) || f v) xs
all_filter f p [] = refl
all_filter f p (x ∷ xs) =
    elim (p x) as (λ b. list_all f (cond b (x ∷ filter p xs) (filter p xs)) ≡ ((not b || f x) && list_all (λ v. not (p v) || f v) xs)) [
      | true ↦ ap (λ r. f x && r) (all_filter f p xs)
      | false ↦ all_filter f p xs
    ]

all_same : (f g : ℕ → Bool) (xs : List ℕ) → ((x : ℕ) → f x ≡ g x) → list_all f xs ≡ list_all g xs
all_same f g [] h = refl
all_same f g (x ∷ xs) h = ap (λ b. b && list_all f xs) (h x) ∙ ap (λ r. g x && r) (all_same f g xs h)

gap_same : (gap : ℕ) (k : NodeKind) → is_key gap (gap_of k) ≡ is_gap gap k
gap_same gap (kind.Gap number frees) = refl
gap_same gap (kind.Act action) = refl
gap_same gap (kind.Exit offset) = refl

pub allowed_same : (g : Graph) (n : Names) (p : Path) (nodes : List (List ℕ)) → AreRows (map (λ (v : Node). gap_of v.kind) g.nodes) nodes → (q : Put) → is_allowed_by n p nodes q ≡ is_allowed_put g n p q
allowed_same g n p nodes are q =
    ap (list_all (are_noted_at p (needs_of n q))) (are q.gap ∙ places_keyed (λ (v : Node). gap_of v.kind) (λ (v : Node). is_gap q.gap v.kind) q.gap (λ (v : Node). gap_same q.gap v.kind) g.nodes)
    ∙ all_filter (are_noted_at p (needs_of n q)) (is_gap_at g q.gap) (range_with_len 0 (length g.nodes))
    ∙ all_same (λ v. not (is_gap_at g q.gap v) || are_noted_at p (needs_of n q) v) (λ v. not (is_gap_at g q.gap v) || is_free_there n p q v) (range_with_len 0 (length g.nodes))
    (λ v. ap (λ b. not (is_gap_at g q.gap v) || b) (noted_needs n p v q))

has_same : {A : Type 0} (f g : A → Bool) (o : Option A) → ((x : A) → f x ≡ g x) → has f o ≡ has g o
has_same f g None h = refl
has_same f g (Some x) h = h x

-- the set of them

within : {A : Type 0} (f : A → Bool) (xs : List A) (k : ℕ) (o : Option A) → slice_get xs k ≡ o → (ltb k (length xs) && has f o) ≡ has f o
within f xs k None e = and_false (ltb k (length xs))
  where
    and_false : (b : Bool) → (b && false) ≡ false
    and_false true = refl
    and_false false = refl
within f xs k (Some x) e = ap (λ b. b && f x) (lt-ltb k (length xs) (slice_get_within xs k x e))

pub allowed_all : (g : Graph) (n : Names) (p : Path) (nodes : List (List ℕ)) (s : Numbers) → AreRows (map (λ (v : Node). gap_of v.kind) g.nodes) nodes → AreAllowedBy n p nodes (length n.puts) s → AreAllowed g n p s
allowed_all g n p nodes s are by = record {
  room = by.room;
  members = λ k.
      by.members k ∙ within (is_allowed_by n p nodes) n.puts k (slice_get n.puts k) refl
      ∙ has_same (is_allowed_by n p nodes) (is_allowed_put g n p) (slice_get n.puts k) (allowed_same g n p nodes are);
}

pub allowed_none : (n : Names) (p : Path) (nodes : List (List ℕ)) (s : Numbers) → s ≡ record { items = []; room = length n.puts } → AreAllowedBy n p nodes 0 s
allowed_none n p nodes s is = record {
  room = ap (λ (t : Numbers). t.room) is;
  members = λ k. ap (λ (t : Numbers). has_number t.items k) is ∙ ap (λ b. b && has (is_allowed_by n p nodes) (slice_get n.puts k)) (sym (le-ltb k 0 (omega arith)));
}

-- one put more

more_same : (i k : ℕ) → i ≢ k → ltb k (i + 1) ≡ ltb k i
more_same i k other =
    elim (ltb k i) as (λ b. ltb k i ≡ b → ltb k (i + 1) ≡ b) [
      | true ↦ λ e. let less : k < i = ltb-true k i e in lt-ltb k (i + 1) (omega arith)
      | false ↦ λ e. le-ltb k (i + 1) (above e)
    ] refl
  where
    above : ltb k i ≡ false → i + 1 ≤ k
    above e = let upto : i ≤ k = ltb-false k i e in omega arith

joined_here : (xs : List ℕ) (i : ℕ) (b : Bool) → has_number xs i ≡ false → has_number (cond b (with_number xs i) xs) i ≡ b
joined_here xs i true e = has-with_number xs i i ∙ ap (λ b. b || has_number xs i) (eq-eqb i i refl)
joined_here xs i false e = e

joined_other : (xs : List ℕ) (i k : ℕ) (b : Bool) → i ≢ k → has_number (cond b (with_number xs i) xs) k ≡ has_number xs k
joined_other xs i k true other = has-with_number xs i k ∙ ap (λ b. b || has_number xs k) (ne_eqb i k other)
joined_other xs i k false other = refl

pub allowed_more : (n : Names) (p : Path) (nodes : List (List ℕ)) (i : ℕ) (q : Put) (s t : Numbers) → slice_get n.puts i ≡ Some q → AreAllowedBy n p nodes i s
    → t ≡ record s { items = cond (is_allowed_by n p nodes q) (with_number s.items i) s.items } → AreAllowedBy n p nodes (i + 1) t
allowed_more n p nodes i q s t at by is = record {
  room = ap (λ (u : Numbers). u.room) is ∙ by.room;
  members = λ k. ap (λ (u : Numbers). has_number u.items k) is ∙ ⊎_elim (λ (e : i ≡ k). subst (λ j. has_number (cond (is_allowed_by n p nodes q) (with_number s.items i) s.items) j ≡ (ltb j (i + 1) && has (is_allowed_by n p nodes) (slice_get n.puts j))) e here) (λ (e : i ≢ k). there k e) (cases_eq i k);
}
  where
    none_here : has_number s.items i ≡ false
    none_here = by.members i ∙ ap (λ b. b && has (is_allowed_by n p nodes) (slice_get n.puts i)) (le-ltb i i (omega arith))

    here : has_number (cond (is_allowed_by n p nodes q) (with_number s.items i) s.items) i ≡ (ltb i (i + 1) && has (is_allowed_by n p nodes) (slice_get n.puts i))
    here =
        joined_here s.items i (is_allowed_by n p nodes q) none_here
        ∙ ap (λ (o : Option Put). has (is_allowed_by n p nodes) o) (sym at)
        ∙ ap (λ b. b && has (is_allowed_by n p nodes) (slice_get n.puts i)) (sym (lt-ltb i (i + 1) (omega arith)))

    there : (k : ℕ) → i ≢ k → has_number (cond (is_allowed_by n p nodes q) (with_number s.items i) s.items) k ≡ (ltb k (i + 1) && has (is_allowed_by n p nodes) (slice_get n.puts k))
    there k other =
        joined_other s.items i k (is_allowed_by n p nodes q) other ∙ by.members k
        ∙ ap (λ b. b && has (is_allowed_by n p nodes) (slice_get n.puts k)) (sym (more_same i k other))
