-- The facts of a program are closed for the graph that a choice fills: where sites flow, and what holds on every path to a node.
use Rattle.std.proofs.Common.{◌≡◌, ℕ, zero, suc, ◌+◌, ◌-◌, ◌<◌, ◌==◌, ◌&&◌, ◌||◌, ⊎_elim, Bool, true, false, not, List, ◌++◌, length, slice_get, Option, Some, None, option_map, refl, ap, sym, subst, ◌∙◌, arith}
use Rattle.std.specs.Prelude.{if◌then◌else◌, max, nat_lt}
use Rattle.std.specs.List.{Contains, list_all, list_any, range_with_len}
use Rattle.std.proofs.lemmas.Bool.{not-true, true≢false, false≢true, eqb-true, eq-eqb, or_cases, and_parts, and_from, ltb-true, ltb-false, lt-ltb}
use Rattle.std.proofs.lemmas.List.Folds.{list_all-append}
use Rattle.std.proofs.lemmas.Option.{slice_get_within}
use Rattle.c_tree.specs.Typing.{has}
use Rattle.c_tree.specs.declared.choice.Choice.{Choice}
use Rattle.c_tree.specs.declared.expr.Expr.{Expr}
use Rattle.c_tree.specs.declared.program.Program.{Program}
use Rattle.c_graph.specs.declared.graph.Action.{Action}
use Rattle.c_graph.specs.declared.graph.Edge.{Edge}
use Rattle.c_graph.specs.declared.graph.Graph.{Graph}
use Rattle.c_graph.specs.declared.graph.Node.{Node}
use Rattle.c_graph.specs.declared.graph.NodeKind.{NodeKind}
use Rattle.c_graph.specs.declared.graph.NodeKind.TheVariants as kind
use Rattle.c_graph.specs.declared.graph.Way.{Way}
use Rattle.c_graph.specs.declared.graph.Way.TheVariants as way
use Rattle.c_graph.specs.Executes.{callee_in, function_of}
use Rattle.c_graph.specs.Filled.{filled_graph}
use Rattle.mf_set.specs.Numbers.{Numbers, has as has_number}
use Rattle.ts_domain.specs.declared.before.Before.{Before}
use Rattle.ts_domain.specs.declared.before.Before.TheVariants.{Always, Never, Where}
use Rattle.ts_domain.specs.declared.deed.Deed.{Deed}
use Rattle.ts_domain.specs.declared.deed.Deed.TheVariants.{Reads, Follows, Says, Sets, SetsField}
use Rattle.ts_domain.specs.declared.deed.Source.{Source}
use Rattle.ts_domain.specs.declared.deed.Source.TheVariants.{Content, Null, New, Undef}
use Rattle.ts_domain.specs.declared.fact.Fact.{Fact}
use Rattle.ts_domain.specs.declared.fact.Fact.TheVariants.{Ready, Full, Filled, Equal, Apart}
use Rattle.ts_domain.specs.declared.facts.Facts.{Facts}
use Rattle.ts_domain.specs.declared.facts.Path.{Path}
use Rattle.ts_domain.specs.declared.names.Names.{Names}
use Rattle.ts_domain.specs.declared.names.Read.{Read}
use Rattle.ts_domain.specs.declared.names.Read.TheVariants as read
use Rattle.ts_domain.specs.declared.triples.Derived.{Derived}
use Rattle.ts_domain.specs.Deeds.{action_deeds, edge_deeds, kind_deeds, node_deeds, owned_by, parameters_of, said, site_of}
use Rattle.ts_domain.specs.Facts.{before_deeds, exists, fact_at, fact_count, is_fact, next_pair, number_of, pair_at, pair_count}
use Rattle.ts_domain.specs.Looks.{value_deeds}
use Rattle.ts_domain.specs.Marks.{Knowledge, flows, is_beyond, items_of, makes_struct, sites_to, some_beyond, some_in_field}
use Rattle.ts_domain.specs.May.{Flows, IsMay, Variable, FieldOf, Found, Of, flows_into, flows_to, read_of, struct_of}
use Rattle.ts_domain.specs.Path.{Fails, IsPath, Reached, before_edge, holds_at, true_at_start}
use Rattle.ts_domain.specs.Post.{at_edge}
use Rattle.ts_domain.proofs.DeedShapes.{Looks, nothing, reads, follows, Setting, no_more, sets_one, Quiet, settings, puts_one, Opposed, silent, null_first, null_second, equal_first, equal_second, Parts, value_looks, tested_opposed, owned_low, action_parts}
use Rattle.ts_domain.proofs.FactsTrue.{IsFactBefore, deeds_fact}
use Rattle.ts_domain.proofs.Members.{any_at, any_from, all_at}
use Rattle.ts_domain.proofs.NameLaws.{HasPlaces, has_places, low_fields}
use Rattle.cover_certificate.specs.declared.types.Cert.{Cert}
use Rattle.cover_certificate.specs.Closed.{adds_fact, adds_flow, adds_to_field, adds_to_variable, facts_of, failing, is_false_at_start, is_target, some_edge, some_fact, some_site, stands_before, takes}
use Rattle.cover_certificate.proofs.Covered.{Covered, facts_are, fails_by, some_true}
use Rattle.cover_certificate.proofs.FilledPosts.{deeds_same, flows_same, structs_same, reached_same}

-- a test that fails and passes
not_both : (b : Bool) → not b ≡ true → b ≡ true → ⊥
not_both b isnt is = true≢false (sym is ∙ not-true b isnt)

-- variables that deeds write

-- a variable that is written is one of those that have numbers
abbrev sets_known : Names → Deed → Bool
sets_known n (Reads r noted) = true
sets_known n (Follows x) = true
sets_known n (Says q) = true
sets_known n (Sets x v) = nat_lt x (length n.vars)
sets_known n (SetsField r c f v) = true

module _ (n : Names) where
  abbrev AreKnown : List Deed → Type 0
  AreKnown ds = list_all (sets_known n) ds ≡ true

  looks_known : {ds : List Deed} → Looks ds → AreKnown ds
  looks_known nothing = refl
  looks_known (reads r noted h) = looks_known h
  looks_known (follows k h) = looks_known h

  setting_known : {makes : Bool} {ds : List Deed} → Setting n makes ds → AreKnown ds
  setting_known no_more = refl
  setting_known (sets_one k v {ds} low is h) = and_from (nat_lt k (length n.vars)) (list_all (sets_known n) ds) (lt-ltb k (length n.vars) low) (setting_known h)

  quiet_known : {makes : Bool} {ds : List Deed} → Quiet n makes ds → AreKnown ds
  quiet_known (settings h) = setting_known h
  quiet_known (puts_one r c f v is) = refl

  opposed_known : {xs ys : List Deed} → Opposed xs ys → AreKnown xs × AreKnown ys
  opposed_known silent = (refl, refl)
  opposed_known (null_first k) = (refl, refl)
  opposed_known (null_second k) = (refl, refl)
  opposed_known (equal_first l r) = (refl, refl)
  opposed_known (equal_second l r) = (refl, refl)

  both_known : (xs ys : List Deed) → AreKnown xs → AreKnown ys → AreKnown (xs ++ ys)
  both_known xs ys h k = list_all-append (sets_known n) xs ys ∙ and_from (list_all (sets_known n) xs) (list_all (sets_known n) ys) h k

  parts_known : {makes : Bool} {ds : List Deed} → Parts (Quiet n makes) ds → AreKnown ds
  parts_known q = subst AreKnown (sym q.is) (both_known q.front q.back (looks_known q.looks) (quiet_known q.ending))

  said_known : (w : Way) (c : Expr) → AreKnown (said n w c)
  said_known way.True c = (opposed_known (tested_opposed n true c)).0
  said_known way.False c = (opposed_known (tested_opposed n true c)).1
  said_known _ c = refl

  module _ (g : Graph) (places : HasPlaces n) (e : Edge) where
    action_known : (x : ℕ) (a : Action) → AreKnown (action_deeds n (site_of n e.from) (parameters_of n (callee_in a)) (owned_by n (function_of g x)) e.way a)
    action_known x a =
        ⊎_elim
        (λ quiet. parts_known quiet)
        (λ test. subst (λ (b : Action). AreKnown (action_deeds n (site_of n e.from) (parameters_of n (callee_in b)) (owned_by n (function_of g x)) e.way b)) (sym test.1)
        (both_known (value_deeds n false test.0) (said n e.way test.0) (looks_known (value_looks n false test.0)) (said_known e.way test.0)))
        (action_parts n places (site_of n e.from) (parameters_of n (callee_in a)) (owned_by n (function_of g x)) e.way a (owned_low n places (function_of g x)))

    node_known : (o : Option Node) → AreKnown (node_deeds n g e o)
    node_known None = refl
    node_known (Some v) = by_kind v.kind
      where
        by_kind : (k : NodeKind) → AreKnown (kind_deeds n (site_of n e.from) (function_of g v.ctx) e.way k)
        by_kind (kind.Gap number frees) = refl
        by_kind (kind.Act a) = action_known v.ctx a
        by_kind (kind.Exit offset) = refl

    set_low : (x : ℕ) (v : Source) → Contains (edge_deeds n g e) (Sets x v) → x < length n.vars
    set_low x v there = ltb-true x (length n.vars) (all_at (sets_known n) (edge_deeds n g e) (node_known (slice_get g.nodes e.from)) (Sets x v) there)

-- where sites flow (2)

module _ (n : Names) (g : Graph) (f : Facts) (may : IsMay n g f.may) (low : (j : ℕ) (q : ℕ × ℕ) → slice_get n.fields j ≡ Some q → q.0 < length n.vars) (e : Edge) where
  -- a site that flows to a field of some site of a base
  beyond_flows : (base : ℕ → Bool) (x s : ℕ) → some_beyond f.may base x (λ ss. has_number ss s) ≡ true → (t : ℕ) × (base t ≡ true) × Flows n g s (FieldOf t x)
  beyond_flows base x s h =
      let it = any_at (is_beyond base x (λ ss. has_number ss s)) f.may.fields h in
      let t = it.0.0 in
      let both = and_parts (base t && it.0.1 == x) (has_number it.0.2.items s) it.2 in
      let at = and_parts (base t) (it.0.1 == x) both.0 in
      let noted = any_from (λ (y : ℕ × ℕ × Numbers). y.0 == t && y.1 == x && has_number y.2.items s) f.may.fields it.0 it.1
      (and_from (t == t && it.0.1 == x) (has_number it.0.2.items s) (and_from (t == t) (it.0.1 == x) (eq-eqb t t refl) at.1) both.1) in
      (t, at.0, (may.fields t x s).0 noted)

  set_flows : (k s : ℕ) → k < length n.vars → has_number (sites_to f.may k) s ≡ true → Flows n g s (Variable k)
  set_flows k s within h = (may.variables k s within).0 (by_set (slice_get f.may.vars k) h)
    where
      by_set : (o : Option Numbers) → has_number (items_of o) s ≡ true → has (λ (y : Numbers). has_number y.items s) o ≡ true
      by_set None h = absurd (false≢true h)
      by_set (Some y) h = h

  field_flows : (j s : ℕ) (o : Option (ℕ × ℕ)) → slice_get n.fields j ≡ o → some_in_field f.may (λ ss. has_number ss s) o ≡ true → Flows n g s (Found (read.Name (length n.vars + j)))
  field_flows j s None at h = absurd (false≢true h)
  field_flows j s (Some q) at h =
      let it = beyond_flows (flows_to f.may q.0) q.1 s h in
      Flows.of_field j q.0 q.1 s it.0 at ((may.variables q.0 it.0 (low j q at)).0 it.1) it.2

  name_flows : (k s : ℕ) (b : Bool) → nat_lt k (length n.vars) ≡ b
      → (if b then has_number (sites_to f.may k) s else some_in_field f.may (λ ss. has_number ss s) (if b then None else slice_get n.fields (k - length n.vars))) ≡ true → Flows n g s (Found (read.Name k))
  name_flows k s true is h = let within = ltb-true k (length n.vars) is in Flows.of_variable k s within (set_flows k s within h)
  name_flows k s false is h =
      let past = ltb-false k (length n.vars) is in
      let same : length n.vars + (k - length n.vars) ≡ k = omega (arith, past) in
      subst (λ i. Flows n g s (Found (read.Name i))) same (field_flows (k - length n.vars) s (slice_get n.fields (k - length n.vars)) refl h)

  from_struct : (c : ℕ) (o : Option ℕ) → has (λ d. d == c) o ≡ true → o ≡ Some c
  from_struct c None h = absurd (false≢true h)
  from_struct c (Some d) h = ap Some (eqb-true d c h)

  -- a site flows to what it is noted to flow to
  found_flows : (r : Read) (t : ℕ) → flows (at_edge n g f e) t r ≡ true → Flows n g t (Found r)
  found_flows (read.Name k) t h = name_flows k t (nat_lt k (length n.vars)) refl h
  found_flows (read.Deep c x) t h = let it = beyond_flows (makes_struct n g c) x t h in Flows.deep c x t it.0 (from_struct c (struct_of n g it.0) it.1) it.2

  -- no deed of an edge of the filled graph adds a flow
  module _ (s : Choice) (places : HasPlaces n) (among : Contains g.edges e) where
    abbrev now : Knowledge
    now = at_edge n (filled_graph s g) f e

    read_flows : (r : Read) (t : ℕ) → flows now t r ≡ true → Flows n g t (Found r)
    read_flows r t h = found_flows r t (sym (flows_same s g n f e.from t r) ∙ h)

    taken_flows : (v : Source) (t : ℕ) → takes now v t ≡ true → Flows n g t (Of v)
    taken_flows (Content l) t h = Flows.content l t (read_flows (read_of l) t h)
    taken_flows Null t h = absurd (false≢true h)
    taken_flows (New u) t h = subst (λ (x : ℕ). Flows n g t (Of (New x))) (sym (eqb-true u t h)) (Flows.new t)
    taken_flows Undef t h = absurd (false≢true h)

    set_adds : (x : ℕ) (v : Source) (t : ℕ) → Contains (edge_deeds n g e) (Sets x v) → adds_to_variable now x v t ≡ true → ⊥
    set_adds x v t there h =
        let both = and_parts (takes now v t) (not (flows_to f.may x t)) h in
        not_both (flows_to f.may x t) both.1 ((may.variables x t (set_low n g places e x v there)).1 (Flows.sets x v t (e, among, there) (taken_flows v t both.0)))

    put_adds : (r : Read) (c x : ℕ) (v : Source) (u t : ℕ) → Contains (edge_deeds n g e) (SetsField r c x v) → is_target now r c u ≡ true → adds_to_field now u x v t ≡ true → ⊥
    put_adds r c x v u t there aimed h =
        let base = and_parts (flows now u r) (makes_struct n (filled_graph s g) c u) aimed in
        let both = and_parts (takes now v t) (not (flows_into f.may u x t)) h in
        let makes : struct_of n g u ≡ Some c = sym (structs_same s g n u) ∙ from_struct c (struct_of n (filled_graph s g) u) base.1 in
        not_both (flows_into f.may u x t) both.1 ((may.fields u x t).1 (Flows.sets_field r c x v t u (e, among, there) (read_flows r u base.0) makes (taken_flows v t both.0)))

    deed_adds : (d : Deed) → Contains (edge_deeds n g e) d → adds_flow now d ≡ true → ⊥
    deed_adds (Reads r noted) there h = false≢true h
    deed_adds (Follows x) there h = false≢true h
    deed_adds (Says q) there h = false≢true h
    deed_adds (Sets x v) there h = let it = any_at (adds_to_variable now x v) (range_with_len 0 (length n.sites)) h in set_adds x v it.0 there it.2
    deed_adds (SetsField r c x v) there h =
        let it = any_at (λ u. is_target now r c u && some_site n (adds_to_field now u x v)) (range_with_len 0 (length n.sites)) h in
        let both = and_parts (is_target now r c it.0) (some_site n (adds_to_field now it.0 x v)) it.2 in
        let at = any_at (adds_to_field now it.0 x v) (range_with_len 0 (length n.sites)) both.1 in
        put_adds r c x v it.0 at.0 there both.0 at.2

    edge_adds : list_any (adds_flow now) (edge_deeds n (filled_graph s g) e) ≡ true → ⊥
    edge_adds h =
        let it = any_at (adds_flow now) (edge_deeds n (filled_graph s g) e) h in
        deed_adds it.0 (subst (λ (ds : List Deed). Contains ds it.0) (deeds_same s g n e) it.1) it.2

-- facts of numbers

if_some : {A : Type 0} {x y : Option A} {z : A} {P : Type 0} (b : Bool) → (if b then x else y) ≡ Some z → (b ≡ true → x ≡ Some z → P) → (b ≡ false → y ≡ Some z → P) → P
if_some true h so otherwise = so refl h
if_some false h so otherwise = otherwise refl h

-- the variables of a pair exist and ascend
pair_known : (m k : ℕ) (q : ℕ × ℕ) → pair_at m k ≡ Some q → (q.0 < q.1) × (q.1 < m)
pair_known zero k q h = absurd cc
pair_known (suc m) k q h = if_some (nat_lt k m) h here (λ past. by_rest (pair_at m (k - m)) (λ r at. pair_known m (k - m) r at) refl)
  where
    here : nat_lt k m ≡ true → Some (0, suc k) ≡ Some q → (q.0 < q.1) × (q.1 < suc m)
    here is h =
        let same : (0, suc k) ≡ q = cc in
        let less = ltb-true k m is in
        subst (λ (x : ℕ × ℕ). (x.0 < x.1) × (x.1 < suc m)) same (omega arith, omega (arith, less))

    by_rest : (o : Option (ℕ × ℕ)) → ((r : ℕ × ℕ) → pair_at m (k - m) ≡ Some r → (r.0 < r.1) × (r.1 < m)) → pair_at m (k - m) ≡ o → option_map next_pair o ≡ Some q → (q.0 < q.1) × (q.1 < suc m)
    by_rest None known at h = absurd cc
    by_rest (Some r) known at h =
        let same : next_pair r ≡ q = cc in
        let below = known r at in
        subst (λ (x : ℕ × ℕ). (x.0 < x.1) × (x.1 < suc m)) same (omega (arith, below.0), omega (arith, below.1))

module _ (m w k : ℕ) (h : Fact) where
  pair_exists : (x y : ℕ) → (x < y) × (y < m) → (nat_lt x y && nat_lt y m) ≡ true
  pair_exists x y b = and_from (nat_lt x y) (nat_lt y m) (lt-ltb x y b.0) (lt-ltb y m b.1)

  equal_known : (i : ℕ) (o : Option (ℕ × ℕ)) → pair_at m i ≡ o → option_map (λ (p : ℕ × ℕ). Equal p.0 p.1) o ≡ Some h → exists m w h ≡ true
  equal_known i None is e = absurd cc
  equal_known i (Some q) is e = let same : Equal q.0 q.1 ≡ h = cc in ap (exists m w) (sym same) ∙ pair_exists q.0 q.1 (pair_known m i q is)

  apart_known : (i : ℕ) (o : Option (ℕ × ℕ)) → pair_at m i ≡ o → option_map (λ (p : ℕ × ℕ). Apart p.0 p.1) o ≡ Some h → exists m w h ≡ true
  apart_known i None is e = absurd cc
  apart_known i (Some q) is e = let same : Apart q.0 q.1 ≡ h = cc in ap (exists m w) (sym same) ∙ pair_exists q.0 q.1 (pair_known m i q is)

  ready_known : nat_lt k m ≡ true → Some (Ready k) ≡ Some h → exists m w h ≡ true
  ready_known is e = let same : Ready k ≡ h = cc in ap (exists m w) (sym same) ∙ is

  full_known : nat_lt k m ≡ false → nat_lt k (m + m) ≡ true → Some (Full (k - m)) ≡ Some h → exists m w h ≡ true
  full_known past is e =
      let same : Full (k - m) ≡ h = cc in
      let low = ltb-false k m past in
      let high = ltb-true k (m + m) is in
      ap (exists m w) (sym same) ∙ lt-ltb (k - m) m (omega (arith, low, high))

  filled_known : nat_lt k (m + m) ≡ false → nat_lt k (m + m + w) ≡ true → Some (Filled (k - (m + m))) ≡ Some h → exists m w h ≡ true
  filled_known past is e =
      let same : Filled (k - (m + m)) ≡ h = cc in
      let low = ltb-false k (m + m) past in
      let high = ltb-true k (m + m + w) is in
      ap (exists m w) (sym same) ∙ lt-ltb (k - (m + m)) w (omega (arith, low, high))

  -- what a number stands for is a fact
  fact_known : fact_at m w k ≡ Some h → exists m w h ≡ true
  fact_known at =
      if_some (nat_lt k m) at ready_known (λ past rest.
      if_some (nat_lt k (m + m)) rest (full_known past) (λ past rest.
      if_some (nat_lt k (m + m + w)) rest (filled_known past) (λ past rest.
      if_some (nat_lt k (m + m + w + pair_count m)) rest (λ is. equal_known (k - (m + m + w)) (pair_at m (k - (m + m + w))) refl)
      (λ past. apart_known (k - (m + m + w + pair_count m)) (pair_at m (k - (m + m + w + pair_count m))) refl))))

-- a fact that is noted at a node and passes a test
fact_passes : (n : Names) (p : Path) (v : ℕ) (test : Fact → Bool) → some_fact n p v test ≡ true → (h : Fact) × (is_fact n h ≡ true) × (holds_at n p v h ≡ true) × (test h ≡ true)
fact_passes n p v test some =
    let it = any_at (λ k. has both (fact_at (length n.vars) (length n.fields) k)) (range_with_len 0 (fact_count (length n.vars) (length n.fields))) some in
    by_fact it.0 (fact_at (length n.vars) (length n.fields) it.0) refl it.2
  where
    both : Fact → Bool
    both h = holds_at n p v h && test h

    by_fact : (k : ℕ) (o : Option Fact) → fact_at (length n.vars) (length n.fields) k ≡ o → has both o ≡ true → (h : Fact) × (is_fact n h ≡ true) × (holds_at n p v h ≡ true) × (test h ≡ true)
    by_fact k None at passes = absurd (false≢true passes)
    by_fact k (Some h) at passes = let parts = and_parts (holds_at n p v h) (test h) passes in (h, fact_known (length n.vars) (length n.fields) k h at, parts.0, parts.1)

-- what holds on every path (3)

-- facts are noted at nodes alone
noted_low : (n : Names) (p : Path) (v : ℕ) (h : Fact) → holds_at n p v h ≡ true → v < length p.at
noted_low n p v h is = by_set (slice_get p.at v) refl
  where
    by_set : (o : Option Numbers) → slice_get p.at v ≡ o → v < length p.at
    by_set None at = absurd (false≢true (sym (ap (has (λ (x : Numbers). has_number x.items (number_of n h))) at) ∙ is))
    by_set (Some x) at = slice_get_within p.at v x at

module _ (n : Names) (g : Graph) (p : Path) (path : IsPath n g p) where
  noted_stands : (v : ℕ) (h : Fact) → is_fact n h ≡ true → holds_at n p v h ≡ true → Fails n g v h → ⊥
  noted_stands v h known noted failed =
      let low : v < length g.nodes = subst (λ (k : ℕ). v < k) path.counted (noted_low n p v h noted) in
      true≢false (sym noted ∙ path.holds v h low known failed)

  start_true : is_false_at_start n p ≡ true → ⊥
  start_true h =
      let it = fact_passes n p 0 (λ (x : Fact). not (true_at_start n x)) h in
      noted_stands 0 it.0 it.1 it.2 (Fails.starts it.0 (not-true (true_at_start n it.0) it.3))

  module _ (places : HasPlaces n) (s : Choice) (e : Edge) (among : Contains g.edges e) (bound : e.from < max 1 (length g.nodes)) (reached : Reached g e.from) where
    -- where what has to hold before doesn't stand, the fact fails
    before_fails : e.from < length g.nodes → (h : Fact) (b : Before) → is_fact n h ≡ true → before_edge n g e h ≡ b → not (stands_before n p e.from b) ≡ true → Fails n g e.to h
    before_fails low h Always known is isnt = absurd (false≢true isnt)
    before_fails low h Never known is isnt = Fails.never e h among reached is
    before_fails low h (Where x) known is isnt =
        let before : is_fact n x ≡ true = subst (λ (b : Before). IsFactBefore n b) is (deeds_fact n (edge_deeds n g e) h places known) in
        Fails.back e h x among reached is (path.fails e.from x low before (not-true (holds_at n p e.from x) isnt))

    fact_added : adds_fact n (filled_graph s g) p e ≡ true → ⊥
    fact_added h =
        let it = fact_passes n p e.to (λ (x : Fact). not (stands_before n p e.from (before_edge n (filled_graph s g) e x))) h in
        let same : before_edge n (filled_graph s g) e it.0 ≡ before_edge n g e it.0 = ap (λ (ds : List Deed). before_deeds n ds it.0) (deeds_same s g n e) in
        let low : e.from < length g.nodes = first_low (noted_low n p e.to it.0 it.2) in
        noted_stands e.to it.0 it.1 it.2
        (before_fails low it.0 (before_edge n g e it.0) it.1 refl (ap (λ (b : Before). not (stands_before n p e.from b)) (sym same) ∙ it.3))
      where
        first_low : e.to < length p.at → e.from < length g.nodes
        first_low within = let same = path.counted in omega (arith, within, same, bound)

-- of a cover

module _ (p : Program) (g : Graph) (n : Names) (f : Facts) (d : Derived) (s : Choice) (c : Cert) (is : Covered p g n f d s c) where
  -- no edge adds a flow (2)
  pub none_adds_flow : (v : ℕ) → slice_get (failing n (filled_graph s g) c v) 2 ≡ Some true → ⊥
  none_adds_flow v h =
      let it = fails_by g v (λ (e : Edge). list_any (adds_flow (at_edge n (filled_graph s g) (facts_of c) e)) (edge_deeds n (filled_graph s g) e)) h in
      edge_adds n g f is.may (low_fields p g n is.names) it.edge s (has_places p g n is.names) it.among
      (ap (λ (x : Facts). list_any (adds_flow (at_edge n (filled_graph s g) x it.edge)) (edge_deeds n (filled_graph s g) it.edge)) (sym (facts_are p g n f d s c is)) ∙ it.fails)

  -- what is noted at node 0 is true of the start, and no edge from a reached node adds a fact (3)
  pub none_adds_fact : (v : ℕ) → v < max 1 (length g.nodes) → Reached (filled_graph s g) v → slice_get (failing n (filled_graph s g) c v) 3 ≡ Some true → ⊥
  none_adds_fact v low reached h =
      ⊎_elim starts over
      (or_cases (v == 0 && is_false_at_start n c.path) (some_edge g v (adds_fact n (filled_graph s g) c.path)) (some_true (v == 0 && is_false_at_start n c.path || some_edge g v (adds_fact n (filled_graph s g) c.path)) h))
    where
      starts : (v == 0 && is_false_at_start n c.path) ≡ true → ⊥
      starts h = start_true n g f.path is.path (ap (is_false_at_start n) (sym is.made.path) ∙ (and_parts (v == 0) (is_false_at_start n c.path) h).1)

      over : some_edge g v (adds_fact n (filled_graph s g) c.path) ≡ true → ⊥
      over h =
          let it = fails_by g v (adds_fact n (filled_graph s g) c.path) (ap (λ (b : Bool). Some b) h) in
          fact_added n g f.path is.path (has_places p g n is.names) s it.edge it.among (subst (λ (u : ℕ). u < max 1 (length g.nodes)) (sym it.from) low) (subst (Reached g) (sym it.from) (reached_same s g reached))
          (ap (λ (q : Path). adds_fact n (filled_graph s g) q it.edge) (sym is.made.path) ∙ it.fails)
