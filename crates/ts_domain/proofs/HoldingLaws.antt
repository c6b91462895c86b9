-- Given sites and given facts are true of what runs meet where they are the least ones, and where they are closed.
use Rattle.std.proofs.Common.{◌≡◌, ℕ, ◌+◌, ◌-◌, ◌<◌, ◌==◌, ◌&&◌, inl, inr, ⊎_elim, Bool, true, false, cond, ltb, List, [], ◌∷◌, length, slice_get, Option, Some, None, option_and_then, refl, ap, sym, subst, ◌∙◌, arith}
use Rattle.std.specs.List.{list_any}
use Rattle.std.proofs.lemmas.Bool.{true≢false, false≢true, eqb-true, eq-eqb, lt-ltb, or_cases, and_parts, and_from, or_left, or_right}
use Rattle.std.proofs.lemmas.Option.{slice_get_within}
use Rattle.c_tree.specs.Typing.{has}
use Rattle.c_meaning.specs.declared.value.Value.TheVariants as value
use Rattle.c_meaning.specs.Machine.{Store}
use Rattle.c_graph.specs.declared.graph.Graph.{Graph}
use Rattle.c_graph.specs.declared.graph.Node.{Node}
use Rattle.mf_set.specs.Numbers.{Numbers, has as has_number}
use Rattle.ts_domain.specs.declared.before.Before.{Before}
use Rattle.ts_domain.specs.declared.fact.Fact.{Fact}
use Rattle.ts_domain.specs.declared.facts.May.{May}
use Rattle.ts_domain.specs.declared.facts.Path.{Path}
use Rattle.ts_domain.specs.declared.names.Names.{Names}
use Rattle.ts_domain.specs.declared.names.Read.TheVariants as read
use Rattle.ts_domain.specs.Deeds.{edge_deeds}
use Rattle.ts_domain.specs.Facts.{is_fact, number_of}
use Rattle.ts_domain.specs.Holding.{FactsHold, IsClosedMay, IsClosedPath, IsMayOfRuns, IsPathOfRuns, MayHolds, found_in, stands_before, taken_in}
use Rattle.ts_domain.specs.Marks.{is_beyond, makes_struct, some_beyond, some_in_field}
use Rattle.ts_domain.specs.May.{Flows, IsMay, Term, Variable, FieldOf, Found, Of, flows_into, flows_to, struct_of, struct_of_kind}
use Rattle.ts_domain.specs.Path.{Fails, IsPath, holds_at}
use Rattle.ts_domain.specs.TypedMachines.{IsTyped}
use Rattle.ts_domain.specs.Views.{AreNames, View, view_of, slot_seen}
use Rattle.ts_domain.proofs.FactsTrue.{IsFactBefore, deeds_fact}
use Rattle.ts_domain.proofs.MayRuns.{may_true}
use Rattle.ts_domain.proofs.MayTrue.{IsMayTrue}
use Rattle.ts_domain.proofs.NameLaws.{HasPlaces, has_places}
use Rattle.ts_domain.proofs.PathTrue.{AreTrueAt, true_at}

-- fields of some site of a base

any_from : {A : Type 0} (p q : A → Bool) (xs : List A) → ((x : A) → p x ≡ true → q x ≡ true) → list_any p xs ≡ true → list_any q xs ≡ true
any_from p q [] h e = absurd (false≢true e)
any_from p q (x ∷ xs) h e = ⊎_elim (λ one. or_left (q x) (list_any q xs) (h x one)) (λ rest. or_right (q x) (list_any q xs) (any_from p q xs h rest)) (or_cases (p x) (list_any p xs) e)

entry_beyond : (base : ℕ → Bool) (t f s : ℕ) → base t ≡ true → (x : ℕ × ℕ × Numbers) → (x.0 == t && x.1 == f && has_number x.2.items s) ≡ true → is_beyond base f (λ ss. has_number ss s) x ≡ true
entry_beyond base t f s h x e =
    let both = and_parts (x.0 == t && x.1 == f) (has_number x.2.items s) e in
    let at = and_parts (x.0 == t) (x.1 == f) both.0 in
    and_from (base x.0 && x.1 == f) (has_number x.2.items s) (and_from (base x.0) (x.1 == f) (ap base (eqb-true x.0 t at.0) ∙ h) at.1) both.1

flows_beyond : (m : May) (base : ℕ → Bool) (t f s : ℕ) → base t ≡ true → flows_into m t f s ≡ true → some_beyond m base f (λ ss. has_number ss s) ≡ true
flows_beyond m base t f s h e = any_from (λ (x : ℕ × ℕ × Numbers). x.0 == t && x.1 == f && has_number x.2.items s) (is_beyond base f (λ ss. has_number ss s)) m.fields (entry_beyond base t f s h) e

-- what reads find

found_variable : (n : Names) (g : Graph) (m : May) (k s : ℕ) → k < length n.vars → flows_to m k s ≡ true → found_in n g m (read.Name k) s ≡ true
found_variable n g m k s low h = ap (λ (b : Bool). cond b (flows_to m k s) (some_in_field m (λ ss. has_number ss s) (slice_get n.fields (k - length n.vars)))) (lt-ltb k (length n.vars) low) ∙ h

found_field : (n : Names) (g : Graph) (m : May) (j k f s t : ℕ) → slice_get n.fields j ≡ Some (k, f) → flows_to m k t ≡ true → flows_into m t f s ≡ true → found_in n g m (read.Name (length n.vars + j)) s ≡ true
found_field n g m j k f s t at base h =
    let past : ltb (length n.vars + j) (length n.vars) ≡ false = grind arith in
    let same : length n.vars + j - length n.vars ≡ j = omega arith in
    ap (λ (b : Bool). cond b (flows_to m (length n.vars + j) s) (some_in_field m (λ ss. has_number ss s) (slice_get n.fields (length n.vars + j - length n.vars)))) past
    ∙ ap (λ i. some_in_field m (λ ss. has_number ss s) (slice_get n.fields i)) same ∙ ap (λ (o : Option (ℕ × ℕ)). some_in_field m (λ ss. has_number ss s) o) at
    ∙ flows_beyond m (flows_to m k) t f s base h

found_deep : (n : Names) (g : Graph) (m : May) (c f s t : ℕ) → struct_of n g t ≡ Some c → flows_into m t f s ≡ true → found_in n g m (read.Deep c f) s ≡ true
found_deep n g m c f s t made h = flows_beyond m (makes_struct n g c) t f s (ap (has (λ d. d == c)) made ∙ eq-eqb c c refl) h

-- closed sites

-- a site is among those for a term
abbrev IsAmong : Names → Graph → May → ℕ → Term → Type 0
IsAmong n g m s (Variable k) = flows_to m k s ≡ true
IsAmong n g m s (FieldOf t f) = flows_into m t f s ≡ true
IsAmong n g m s (Found r) = found_in n g m r s ≡ true
IsAmong n g m s (Of v) = taken_in n g m v s ≡ true

-- sites that make a struct exist, and so do those to whose fields sites flow
struct_low : (n : Names) (g : Graph) (t c : ℕ) → struct_of n g t ≡ Some c → t < length n.sites
struct_low n g t c made = by_site (slice_get n.sites t) refl
  where
    by_site : (x : Option ℕ) → slice_get n.sites t ≡ x → t < length n.sites
    by_site None at = let nothing : None ≡ Some c = sym (ap (option_and_then (λ v. option_and_then (λ (node : Node). struct_of_kind node.kind) (slice_get g.nodes v))) at) ∙ made in absurd cc
    by_site (Some v) at = slice_get_within n.sites t v at

field_low : (n : Names) (g : Graph) {s t f : ℕ} → Flows n g s (FieldOf t f) → t < length n.sites
field_low n g (Flows.sets_field r c f v s t done base made flow) = struct_low n g t c made

module _ (n : Names) (g : Graph) (m : May) (closed : IsClosedMay n g m) where
  -- closed sites have all that flows, of the sites that exist
  pub has_all : {s : ℕ} {x : Term} → s < length n.sites → Flows n g s x → IsAmong n g m s x
  has_all low (Flows.sets k v s done flow) = closed.variables k v s low done (has_all low flow)
  has_all low (Flows.sets_field r c f v s t done base made flow) = let there = struct_low n g t c made in closed.fields r c f v t s there low done (has_all there base) made (has_all low flow)
  has_all low (Flows.of_variable k s within flow) = found_variable n g m k s within (has_all low flow)
  has_all low (Flows.of_field j k f s t at base flow) = found_field n g m j k f s t at (has_all (field_low n g flow) base) (has_all low flow)
  has_all low (Flows.deep c f s t made flow) = found_deep n g m c f s t made (has_all low flow)
  has_all low (Flows.content l s flow) = has_all low flow
  has_all low (Flows.new s) = eq-eqb s s refl

  -- so what the least ones say they say
  pub closed_holds : (sites : List ℕ) (v : View) → IsMayTrue n g sites v → MayHolds n m sites v
  closed_holds sites v h = record {
    slots = λ k o holds. let it = h.slots k o holds in (it.0, it.1, has_all (slice_get_within n.sites it.0 it.1.0 it.1.2) it.2);
    cells = λ o f q holds. let it = h.cells o f q holds in (it.0, it.1, it.2, it.3, has_all (slice_get_within n.sites it.0 it.2.0 it.2.2) it.4);
  }

-- only what has a place is seen
seen_low : (n : Names) (s : Store) (k o : ℕ) → (view_of n s).slot k ≡ value.Ptr o → k < length n.vars
seen_low n s k o h = by_var (slice_get n.vars k) refl
  where
    by_var : (x : Option ℕ) → slice_get n.vars k ≡ x → k < length n.vars
    by_var None at = let nothing : value.Undef ≡ value.Ptr o = sym (ap (slot_seen s) at) ∙ h in absurd cc
    by_var (Some x) at = slice_get_within n.vars k x at

-- the least ones themselves
pub least_holds : (n : Names) (g : Graph) (m : May) → IsMay n g m → (sites : List ℕ) (s : Store) → IsMayTrue n g sites (view_of n s) → MayHolds n m sites (view_of n s)
least_holds n g m may sites s h = record {
  slots = λ k o holds. let it = h.slots k o holds in (it.0, it.1, (may.variables k it.0 (seen_low n s k o holds)).1 it.2);
  cells = λ o f q holds. let it = h.cells o f q holds in (it.0, it.1, it.2, it.3, (may.fields it.1 f it.0).1 it.4);
}

-- closed facts

module _ (n : Names) (g : Graph) (p : Path) (places : HasPlaces n) (closed : IsClosedPath n g p) where
  -- no fact that stands fails
  pub stands_holds : {v : ℕ} {f : Fact} → Fails n g v f → is_fact n f ≡ true → holds_at n p v f ≡ true → ⊥
  stands_holds (Fails.starts f isnt) fact stands = true≢false (sym (closed.starts f fact stands) ∙ isnt)
  stands_holds (Fails.never e f among reached is) fact stands = true≢false (sym (closed.over e f among reached fact stands) ∙ ap (stands_before n p e.from) is)
  stands_holds (Fails.back e f h among reached is failed) fact stands =
      let known : is_fact n h ≡ true = subst (λ (b : Before). IsFactBefore n b) is (deeds_fact n (edge_deeds n g e) f places fact) in
      stands_holds failed known (sym (ap (stands_before n p e.from) is) ∙ closed.over e f among reached fact stands)

  pub closed_facts : (v : ℕ) (w : View) → AreTrueAt n g v w → FactsHold n p v w
  closed_facts v w h = λ f fact stands. h f fact (λ failed. stands_holds failed fact stands)

-- facts stand at nodes alone
stands_within : (n : Names) (p : Path) (v : ℕ) (f : Fact) → holds_at n p v f ≡ true → v < length p.at
stands_within n p v f h = by_set (slice_get p.at v) refl
  where
    by_set : (x : Option Numbers) → slice_get p.at v ≡ x → v < length p.at
    by_set None at = absurd (false≢true (sym (ap (has (λ (s : Numbers). has_number s.items (number_of n f))) at) ∙ h))
    by_set (Some x) at = slice_get_within p.at v x at

-- those that don't fail
pub least_facts : (n : Names) (g : Graph) (p : Path) → IsPath n g p → (v : ℕ) (w : View) → AreTrueAt n g v w → FactsHold n p v w
least_facts n g p path v w h = λ f fact stands.
    let low : v < length g.nodes = subst (λ k. v < k) path.counted (stands_within n p v f stands) in
    h f fact (λ failed. true≢false (sym stands ∙ path.holds v f low fact failed))

-- runs

may_of_runs : (n : Names) (g : Graph) (m : May) → ((sites : List ℕ) (s : Store) → IsMayTrue n g sites (view_of n s) → MayHolds n m sites (view_of n s)) → IsMayOfRuns n g m
may_of_runs n g m holds p w is names input fails x sites met =
    ⊎_elim
    (λ h. inl (subst (λ (u : Graph). IsTyped n u sites x.store) (sym is) h.0, holds sites x.store (subst (λ (u : Graph). IsMayTrue n u sites (view_of n x.store)) (sym is) h.1)))
    (λ lost. inr lost)
    (may_true p w n (subst (λ (u : Graph). AreNames p u n) is names) input fails met)

path_of_runs : (n : Names) (g : Graph) (q : Path) → (HasPlaces n → (v : ℕ) (w : View) → AreTrueAt n g v w → FactsHold n q v w) → IsPathOfRuns n g q
path_of_runs n g q hold p w is names input fails x sites met =
    ⊎_elim
    (λ h. inl (hold (has_places p g n names) x.node (view_of n x.store) (subst (λ (u : Graph). AreTrueAt n u x.node (view_of n x.store)) (sym is) h.2)))
    (λ lost. inr lost)
    (true_at p w n (subst (λ (u : Graph). AreNames p u n) is names) input fails met)

-- the least sites, and all that are closed
pub least_of_runs : (n : Names) (g : Graph) (m : May) → IsMay n g m → IsMayOfRuns n g m
least_of_runs n g m may = may_of_runs n g m (least_holds n g m may)

pub closed_of_runs : (n : Names) (g : Graph) (m : May) → IsClosedMay n g m → IsMayOfRuns n g m
closed_of_runs n g m closed = may_of_runs n g m (λ sites s. closed_holds n g m closed sites (view_of n s))

-- the facts that don't fail, and all that are closed
pub facts_of_runs : (n : Names) (g : Graph) (q : Path) → IsPath n g q → IsPathOfRuns n g q
facts_of_runs n g q path = path_of_runs n g q (λ places. least_facts n g q path)

pub closed_facts_of_runs : (n : Names) (g : Graph) (q : Path) → IsClosedPath n g q → IsPathOfRuns n g q
closed_facts_of_runs n g q closed = path_of_runs n g q (λ places. closed_facts n g q places closed)
