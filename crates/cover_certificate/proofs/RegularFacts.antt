-- The facts of a graph are regular.
use Rattle.std.proofs.Common.{◌≡◌, ◌≢◌, ℕ, suc, ◌==◌, ◌&&◌, nat_lt, true, List, [], ◌∷◌, length, refl, ap, sym, ◌∙◌, arith, ⊎_elim}
use Rattle.std.proofs.lemmas.Bool.{and_from, eq-eqb, lt-ltb}
use Rattle.std.proofs.lemmas.List.Elements.{All-contains}
use Rattle.std.specs.List.{AllPairs, Contains, list_all}
use Rattle.std.specs.Cmp.{nat_cmp_is}
use Rattle.std.specs.declared.cmp.Ordering.{Ordering}
use Rattle.std.specs.declared.cmp.Ordering.TheVariants.{Less, Equal}
use Rattle.c_tree.specs.Typing.{has}
use Rattle.c_graph.specs.declared.graph.Graph.{Graph}
use Rattle.mf_set.specs.Numbers.{Numbers, has as has_number}
use Rattle.mf_set.proofs.NumberLaws.{has_first}
use Rattle.ts_domain.specs.declared.deed.Deed.TheVariants.{SetsField}
use Rattle.ts_domain.specs.declared.facts.May.{May}
use Rattle.ts_domain.specs.declared.facts.Path.{Path}
use Rattle.ts_domain.specs.declared.names.Names.{Names}
use Rattle.ts_domain.specs.Facts.{fact_count}
use Rattle.ts_domain.specs.May.{flows_into, precedes, sets_field, Flows, FieldOf, IsMay}
use Rattle.ts_domain.specs.Path.{IsPath}
use Rattle.ts_domain.specs.Pointers.{field_type, is_pointer}
use Rattle.ts_domain.proofs.Members.{all_from, any_from}
use Rattle.ts_domain.proofs.RangeLaws.{done_in_range}
use Rattle.cover_certificate.specs.Regular.{are_facts, are_fields, are_vars, ascends, by_order, field_before, has_room, is_field, is_pointer_field}
use Rattle.cover_certificate.proofs.Ascents.{precede_ascends, Precede}

pub vars_regular : (n : Names) (g : Graph) (m : May) → IsMay n g m → are_vars n m ≡ true
vars_regular n g m is =
    and_from (length m.vars == length n.vars) (list_all (has_room (length n.sites)) m.vars) (eq-eqb (length m.vars) (length n.vars) is.counted)
    (all_from (has_room (length n.sites)) m.vars (λ x c. eq-eqb x.room (length n.sites) (All-contains (λ (y : Numbers). y.room ≡ length n.sites) m.vars x is.var_rooms c)))

pub facts_regular : (n : Names) (g : Graph) (p : Path) → IsPath n g p → are_facts n g p ≡ true
facts_regular n g p is =
    let room = fact_count (length n.vars) (length n.fields) in
    and_from (length p.at == length g.nodes) (list_all (has_room room) p.at) (eq-eqb (length p.at) (length g.nodes) is.counted)
    (all_from (has_room room) p.at (λ x c. eq-eqb x.room room (All-contains (λ (y : Numbers). y.room ≡ room) p.at x is.rooms c)))

-- fields of sites

-- a field to which a site flows is written somewhere, so it is a pointer field
written_field : {s t f : ℕ} (n : Names) (g : Graph) → Flows n g s (FieldOf t f) → is_pointer_field n g t f ≡ true
written_field n g (sets_field r c f v s t done base makes source) = ap (has (λ (k : ℕ). has is_pointer (field_type n k f))) makes ∙ (done_in_range n g (SetsField r c f v) done).0

some_number : (xs : List ℕ) → xs ≢ [] → (k : ℕ) × (has_number xs k ≡ true)
some_number [] h = absurd (h refl)
some_number (x ∷ xs) h = (x, has_first x xs)

filled : (xs : List ℕ) → xs ≢ [] → nat_lt 0 (length xs) ≡ true
filled [] h = absurd (h refl)
filled (x ∷ xs) h = lt-ltb 0 (length (x ∷ xs)) (omega arith)

precedes_before : (x y : ℕ × ℕ × Numbers) → precedes x y → field_before x y ≡ true
precedes_before x y h =
    ⊎_elim
    (λ less. ap (λ (o : Ordering). by_order o (nat_lt x.1 y.1)) (sym (nat_cmp_is x.0 y.0 Less less)))
    (λ both. ap (λ (o : Ordering). by_order o (nat_lt x.1 y.1)) (sym (nat_cmp_is x.0 y.0 Equal both.0)) ∙ lt-ltb x.1 y.1 both.1)
    h

precede : (xs : List (ℕ × ℕ × Numbers)) → AllPairs precedes xs → Precede field_before xs
precede [] h = tt
precede (x ∷ []) h = tt
precede (x ∷ y ∷ ys) h =
    (precedes_before x y (h 0 1 x (omega arith) (omega arith)), precede (y ∷ ys) (λ i j d l m. h (suc i) (suc j) d (omega arith) (omega arith)))

module _ (n : Names) (g : Graph) (m : May) (is : IsMay n g m) where
  entry_flows : (x : ℕ × ℕ × Numbers) (s : ℕ) → Contains m.fields x → has_number x.2.items s ≡ true → flows_into m x.0 x.1 s ≡ true
  entry_flows x s c h =
      any_from (λ (y : ℕ × ℕ × Numbers). y.0 == x.0 && y.1 == x.1 && has_number y.2.items s) m.fields x c
      (and_from (x.0 == x.0 && x.1 == x.1) (has_number x.2.items s) (and_from (x.0 == x.0) (x.1 == x.1) (eq-eqb x.0 x.0 refl) (eq-eqb x.1 x.1 refl)) h)

  entry_regular : (x : ℕ × ℕ × Numbers) → Contains m.fields x → is_field n g x ≡ true
  entry_regular x c =
      let any : x.2.items ≢ [] = All-contains (λ (y : ℕ × ℕ × Numbers). y.2.items ≢ []) m.fields x is.some c in
      let some = some_number x.2.items any in
      let room : x.2.room ≡ length n.sites = All-contains (λ (y : ℕ × ℕ × Numbers). y.2.room ≡ length n.sites) m.fields x is.field_rooms c in
      and_from (is_pointer_field n g x.0 x.1) (has_room (length n.sites) x.2 && nat_lt 0 (length x.2.items))
      (written_field n g ((is.fields x.0 x.1 some.0).0 (entry_flows x some.0 c some.1)))
      (and_from (has_room (length n.sites) x.2) (nat_lt 0 (length x.2.items)) (eq-eqb x.2.room (length n.sites) room) (filled x.2.items any))

  pub fields_regular : are_fields n g m ≡ true
  fields_regular =
      and_from (list_all (is_field n g) m.fields) (ascends field_before m.fields)
      (all_from (is_field n g) m.fields entry_regular)
      (precede_ascends field_before m.fields (precede m.fields is.ascending))
