-- What the conditions of a closed certificate say, one by one.
use Rattle.std.proofs.Common.{◌≡◌, ℕ, zero, suc, ◌+◌, ◌-◌, ◌<◌, ◌≤◌, ◌==◌, ◌&&◌, ◌||◌, ⊎_elim, Bool, true, false, not, List, [], ◌∷◌, length, slice_get, Option, Some, None, refl, ap, sym, subst, ◌∙◌, arith}
use Rattle.std.specs.Prelude.{max, nat_lt, if◌then◌else◌}
use Rattle.std.specs.List.{Contains, list_all, list_any, range_with_len}
use Rattle.std.proofs.lemmas.Bool.{true≢false, false≢true, eqb-true, eq-eqb, cases_eq, or_cases, or_parts, and_parts, not-false}
use Rattle.c_tree.specs.Typing.{has}
use Rattle.c_tree.specs.declared.program.Free.{Free}
use Rattle.call_contexts.proofs.Has.{Has, first, later, contains_has}
use Rattle.c_graph.specs.declared.graph.Edge.{Edge}
use Rattle.c_graph.specs.declared.graph.Graph.{Graph}
use Rattle.mf_set.specs.Numbers.{has as has_number, is_subset}
use Rattle.path_facts.proofs.FactNumbers.{fact_at_number, number_below}
use Rattle.ts_domain.specs.declared.before.Before.{Before}
use Rattle.ts_domain.specs.declared.before.Before.TheVariants.{Always, Never, Where}
use Rattle.ts_domain.specs.declared.deed.Deed.{Deed}
use Rattle.ts_domain.specs.declared.deed.Deed.TheVariants.{Sets, SetsField}
use Rattle.ts_domain.specs.declared.deed.Source.{Source}
use Rattle.ts_domain.specs.declared.deed.Source.TheVariants.{Content, Null, New, Undef}
use Rattle.ts_domain.specs.declared.fact.Fact.{Fact}
use Rattle.ts_domain.specs.declared.facts.Path.{Path}
use Rattle.ts_domain.specs.declared.marks.Mark.{Mark}
use Rattle.ts_domain.specs.declared.marks.Step.{Step}
use Rattle.ts_domain.specs.declared.names.Names.{Names}
use Rattle.ts_domain.specs.declared.names.Read.{Read}
use Rattle.ts_domain.specs.declared.names.Read.TheVariants as read
use Rattle.ts_domain.specs.Cover.{is_exit_at}
use Rattle.ts_domain.specs.Deeds.{edge_deeds}
use Rattle.ts_domain.specs.Facts.{fact_at, fact_count, is_fact, number_of}
use Rattle.ts_domain.specs.Holding.{IsClosedMay, IsClosedPath, found_in, stands_before as stands_earlier, taken_in}
use Rattle.ts_domain.specs.Marks.{Knowledge, flows, items_of, makes_struct, some_in_field, sites_to}
use Rattle.ts_domain.specs.May.{IsDone, flows_into, flows_to, read_of, struct_of}
use Rattle.ts_domain.specs.Path.{Reached, here, before_edge, holds_at, same_bool, true_at_start}
use Rattle.ts_domain.specs.Post.{at_edge, born, is_wide_edge, post}
use Rattle.cover_certificate.specs.declared.types.Cert.{Cert}
use Rattle.cover_certificate.specs.declared.types.CertMark.{CertMark}
use Rattle.cover_certificate.specs.Closed.{IsClosed, adds_fact, adds_flow, adds_to_field, adds_to_variable, asks_reached, facts_of, failing, frees_again, frees_at, frees_twice, freed_behind, is_false_at_start, is_matched, is_target, is_touched, is_unfreed, is_unmatched, is_unsure, lacks_birth, lacks_post, names_freed, posts, reads_freed, reads_when_freed, says_no_more, some_edge, some_fact, some_mark, some_site, stands_before, takes, touches}

-- lists and tests

pub all_has : {A : Type 0} (test : A → Bool) (xs : List A) {x : A} → list_all test xs ≡ true → Has x xs → test x ≡ true
all_has test [] all h = elim h [ ]
all_has test (y ∷ ys) all first = (and_parts (test y) (list_all test ys) all).0
all_has test (y ∷ ys) all (later h) = all_has test ys (and_parts (test y) (list_all test ys) all).1 h

pub none_has : {A : Type 0} (test : A → Bool) (xs : List A) {x : A} → list_any test xs ≡ false → Has x xs → test x ≡ false
none_has test [] none h = elim h [ ]
none_has test (y ∷ ys) none first = (or_parts (test y) (list_any test ys) none).0
none_has test (y ∷ ys) none (later h) = none_has test ys (or_parts (test y) (list_any test ys) none).1 h

pub some_has : {A : Type 0} (test : A → Bool) (xs : List A) → list_any test xs ≡ true → (x : A) × Has x xs × (test x ≡ true)
some_has test [] h = absurd (false≢true h)
some_has test (x ∷ xs) h = ⊎_elim (λ one. (x, first, one)) (λ rest. let it = some_has test xs rest in (it.0, later it.1, it.2)) (or_cases (test x) (list_any test xs) h)

pub and_rest : (a b : Bool) → a ≡ true → (a && b) ≡ false → b ≡ false
and_rest true b is h = h
and_rest false b is h = absurd (false≢true is)

in_range : (a k s : ℕ) → a ≤ s → s < a + k → Has s (range_with_len a k)
in_range a zero s low high = absurd (omega arith)
in_range a (suc k) s low high =
    ⊎_elim
    (λ e. subst (λ (m : ℕ). Has m (range_with_len a (suc k))) e first)
    (λ e. later (in_range (a + 1) k s (omega (arith, e)) (omega arith)))
    (cases_eq a s)

below_count : (k s : ℕ) → s < k → Has s (range_with_len 0 k)
below_count k s low = in_range 0 k s (omega arith) (omega (arith, low))

same_bits : (a b : Bool) → same_bool a b ≡ true → a ≡ b
same_bits true b h = sym h
same_bits false true h = absurd (false≢true h)
same_bits false false h = refl

-- flows

flows_found : (k : Knowledge) (r : Read) (s : ℕ) → flows k s r ≡ found_in k.names k.graph k.facts.may r s
flows_found k (read.Name e) s = by_low (nat_lt e (length k.names.vars))
  where
    by_set : (x : Option _) → has_number (items_of x) s ≡ has (λ y. has_number y.items s) x
    by_set None = refl
    by_set (Some x) = refl

    by_low : (b : Bool) → (if b then has_number (sites_to k.facts.may e) s else some_in_field k.facts.may (λ ss. has_number ss s) (if b then None else slice_get k.names.fields (e - length k.names.vars)))
        ≡ (if b then flows_to k.facts.may e s else some_in_field k.facts.may (λ ss. has_number ss s) (slice_get k.names.fields (e - length k.names.vars)))
    by_low true = by_set (slice_get k.facts.may.vars e)
    by_low false = refl
flows_found k (read.Deep c f) s = refl

takes_taken : (k : Knowledge) (v : Source) (s : ℕ) → takes k v s ≡ taken_in k.names k.graph k.facts.may v s
takes_taken k (Content l) s = flows_found k (read_of l) s
takes_taken k Null s = refl
takes_taken k (New t) s = refl
takes_taken k Undef s = refl

same_stands : (n : Names) (p : Path) (v : ℕ) (b : Before) → stands_before n p v b ≡ stands_earlier n p v b
same_stands n p v Always = refl
same_stands n p v Never = refl
same_stands n p v (Where f) = refl

-- at a node there are no more than the nodes of the graph, or node 0
pub node_low : (v many : ℕ) → v < many → v < max 1 many
node_low v many low = omega (arith, low)

module _ (n : Names) (g : Graph) (c : Cert) (closed : IsClosed n g c) where
  -- no condition fails at a node
  fails_not : (v r : ℕ) (b : Bool) → v < max 1 (length g.nodes) → (asks_reached r ≡ true → Reached g v) → slice_get (failing n g c v) r ≡ Some b → b ≡ false
  fails_not v r true low reached at = absurd (closed v r (record { node = low; fails = at; reached = reached }))
  fails_not v r false low reached at = refl

  -- what holds of no edge from a node, and of no mark there

  of_edge : (e : Edge) (test : Edge → Bool) → Contains g.edges e → some_edge g e.from test ≡ false → test e ≡ false
  of_edge e test among none = and_rest (e.from == e.from) (test e) (eq-eqb e.from e.from refl) (none_has (λ (d : Edge). d.from == e.from && test d) g.edges none (contains_has g.edges e among))

  pub of_mark : (v : ℕ) (m : CertMark) (test : CertMark → Bool) → Has m c.marks → m.node ≡ v → some_mark c v test ≡ false → test m ≡ false
  of_mark v m test among at none = and_rest (m.node == v) (test m) (eq-eqb m.node v at) (none_has (λ (x : CertMark). x.node == v && test x) c.marks none among)

  -- flows (2)

  module _ (within : (e : Edge) → Contains g.edges e → e.from < max 1 (length g.nodes)) where
    adds_none : (e : Edge) (d : Deed) → Contains g.edges e → Contains (edge_deeds n g e) d → adds_flow (at_edge n g (facts_of c) e) d ≡ false
    adds_none e d among there =
        none_has (adds_flow (at_edge n g (facts_of c) e)) (edge_deeds n g e)
        (of_edge e (λ (x : Edge). list_any (adds_flow (at_edge n g (facts_of c) x)) (edge_deeds n g x)) among
        (fails_not e.from 2 (some_edge g e.from (λ (x : Edge). list_any (adds_flow (at_edge n g (facts_of c) x)) (edge_deeds n g x))) (within e among) (λ asked. absurd cc) refl))
        (contains_has (edge_deeds n g e) d there)

    -- no site is missing
    of_site : (test : ℕ → Bool) (s : ℕ) → s < length n.sites → some_site n test ≡ false → test s ≡ false
    of_site test s low none = none_has test (range_with_len 0 (length n.sites)) none (below_count (length n.sites) s low)

    pub closed_may : IsClosedMay n g c.may
    closed_may = record { variables = variables; fields = fields }
      where
        variables : (k : ℕ) (v : Source) (s : ℕ) → s < length n.sites → IsDone n g (Sets k v) → taken_in n g c.may v s ≡ true → flows_to c.may k s ≡ true
        variables k v s low done taken =
            let known = at_edge n g (facts_of c) done.0 in
            not-false (flows_to c.may k s) (and_rest (takes known v s) (not (flows_to c.may k s)) (takes_taken known v s ∙ taken)
            (of_site (adds_to_variable known k v) s low (adds_none done.0 (Sets k v) done.1 done.2)))

        fields : (r : Read) (x f : ℕ) (v : Source) (t s : ℕ) → t < length n.sites → s < length n.sites → IsDone n g (SetsField r x f v) → found_in n g c.may r t ≡ true → struct_of n g t ≡ Some x → taken_in n g c.may v s ≡ true → flows_into c.may t f s ≡ true
        fields r x f v t s there low done found made taken =
            let known = at_edge n g (facts_of c) done.0 in
            let makes : makes_struct n g x t ≡ true = ap (has (λ d. d == x)) made ∙ eq-eqb x x refl in
            let targeted : is_target known r x t ≡ true = ap (λ (b : Bool). b && makes_struct n g x t) (flows_found known r t ∙ found) ∙ makes in
            let adds = of_site (λ t. is_target known r x t && some_site n (adds_to_field known t f v)) t there (adds_none done.0 (SetsField r x f v) done.1 done.2) in
            not-false (flows_into c.may t f s) (and_rest (takes known v s) (not (flows_into c.may t f s)) (takes_taken known v s ∙ taken)
            (of_site (adds_to_field known t f v) s low (and_rest (is_target known r x t) (some_site n (adds_to_field known t f v)) targeted adds)))

    -- facts (3)

    of_fact : (v : ℕ) (test : Fact → Bool) (f : Fact) → is_fact n f ≡ true → holds_at n c.path v f ≡ true → some_fact n c.path v test ≡ false → test f ≡ false
    of_fact v test f known stands none =
        let both : Fact → Bool = λ (h : Fact). holds_at n c.path v h && test h in
        let low = number_below (length n.vars) (length n.fields) f known in
        let it : has both (fact_at (length n.vars) (length n.fields) (number_of n f)) ≡ false =
        none_has (λ k. has both (fact_at (length n.vars) (length n.fields) k)) (range_with_len 0 (fact_count (length n.vars) (length n.fields))) none
        (below_count (fact_count (length n.vars) (length n.fields)) (number_of n f) low) in
        and_rest (holds_at n c.path v f) (test f) stands (sym (ap (has both) (fact_at_number (length n.vars) (length n.fields) f known)) ∙ it)

    third : (v : ℕ) → v < max 1 (length g.nodes) → Reached g v → (v == 0 && is_false_at_start n c.path || some_edge g v (adds_fact n g c.path)) ≡ false
    third v low reached = fails_not v 3 (v == 0 && is_false_at_start n c.path || some_edge g v (adds_fact n g c.path)) low (λ asked. reached) refl

    pub closed_path : 0 < max 1 (length g.nodes) → IsClosedPath n g c.path
    closed_path zero_low = record {
      starts = λ f known stands. not-false (true_at_start n f) (of_fact 0 (λ (h : Fact). not (true_at_start n h)) f known stands (or_parts (is_false_at_start n c.path) (some_edge g 0 (adds_fact n g c.path)) (third 0 zero_low here)).0);
      over = λ e f among reached known stands.
          let adds = of_edge e (adds_fact n g c.path) among (or_parts (e.from == 0 && is_false_at_start n c.path) (some_edge g e.from (adds_fact n g c.path)) (third e.from (within e among) reached)).1 in
          sym (same_stands n c.path e.from (before_edge n g e f))
          ∙ not-false (stands_before n c.path e.from (before_edge n g e f)) (of_fact e.to (λ (h : Fact). not (stands_before n c.path e.from (before_edge n g e h))) f known stands adds);
    }

    -- marks (4, 5, 9)

    pub birth_matched : (e : Edge) (m : Mark) → Contains g.edges e → Reached g e.from → born n g (facts_of c) e ≡ Some m → is_matched c e.to m false ≡ true
    birth_matched e m among reached is =
        let it : has (λ (x : Mark). not (is_matched c e.to x false)) (born n g (facts_of c) e) ≡ false =
        of_edge e (lacks_birth n g (facts_of c) (is_matched c)) among (fails_not e.from 4 (some_edge g e.from (lacks_birth n g (facts_of c) (is_matched c))) (within e among) (λ asked. reached) refl) in
        not-false (is_matched c e.to m false) (sym (ap (has (λ (x : Mark). not (is_matched c e.to x false))) is) ∙ it)

    abbrev lacks : Edge → ℕ → CertMark → Bool
    lacks e v m = lacks_post n g (facts_of c) (is_matched c) (names_freed n g v) e m

    abbrev missing : Edge → CertMark → Step → Bool
    missing e m s = is_unmatched (is_matched c) e.to (freed_behind m.mark (names_freed n g e.from) m.freed) s

    -- no edge lacks a post
    ninth : (e : Edge) (m : CertMark) → Contains g.edges e → Has m c.marks → m.node ≡ e.from → lacks e e.from m ≡ false
    ninth e m among there at =
        of_mark e.from m (lacks e e.from) there at
        (of_edge e (λ (x : Edge). some_mark c e.from (lacks x e.from)) among
        (fails_not e.from 9 (some_edge g e.from (λ (x : Edge). some_mark c e.from (lacks x e.from))) (within e among) (λ asked. absurd cc) refl))

    ninth_parts : (e : Edge) (m : CertMark) → Contains g.edges e → Has m c.marks → m.node ≡ e.from →
        (is_wide_edge n g (facts_of c) e m.mark ≡ false) × (list_any (missing e m) (posts n g (facts_of c) e m.mark) ≡ false)
    ninth_parts e m among there at = or_parts (is_wide_edge n g (facts_of c) e m.mark) (list_any (missing e m) (posts n g (facts_of c) e m.mark)) (ninth e m among there at)

    has_posts : (e : Edge) (m : CertMark) (s : Step) → Contains g.edges e → Has m c.marks → m.node ≡ e.from → Contains (post n g (facts_of c) e m.mark) s → Has s (posts n g (facts_of c) e m.mark)
    has_posts e m s among there at h =
        let same : posts n g (facts_of c) e m.mark ≡ post n g (facts_of c) e m.mark =
        ap (λ (b : Bool). if b then [] else post n g (facts_of c) e m.mark) (ninth_parts e m among there at).0 in
        subst (λ (xs : List Step). Has s xs) (sym same) (contains_has (post n g (facts_of c) e m.mark) s h)

    pub post_matched : (e : Edge) (m : CertMark) (s : Step) → Contains g.edges e → Has m c.marks → m.node ≡ e.from → Contains (post n g (facts_of c) e m.mark) s →
        is_matched c e.to s.mark (freed_behind m.mark (names_freed n g e.from) m.freed) ≡ true
    post_matched e m s among there at h =
        not-false (is_matched c e.to s.mark (freed_behind m.mark (names_freed n g e.from) m.freed))
        (none_has (missing e m) (posts n g (facts_of c) e m.mark) (ninth_parts e m among there at).1 (has_posts e m s among there at h))

    pub untouched : (e : Edge) (m : CertMark) (s : Step) → Contains g.edges e → Has m c.marks → m.node ≡ e.from → m.freed ≡ true → Contains (post n g (facts_of c) e m.mark) s → s.touched ≡ true → ⊥
    untouched e m s among there at freed h touched =
        let none : touches n g (facts_of c) e m ≡ false =
        of_mark e.from m (touches n g (facts_of c) e) there at
        (of_edge e (λ (x : Edge). some_mark c e.from (touches n g (facts_of c) x)) among
        (fails_not e.from 5 (some_edge g e.from (λ (x : Edge). some_mark c e.from (touches n g (facts_of c) x))) (within e among) (λ asked. absurd cc) refl)) in
        let all = and_rest m.freed (list_any is_touched (posts n g (facts_of c) e m.mark)) freed none in
        true≢false (sym touched ∙ none_has is_touched (posts n g (facts_of c) e m.mark) all (has_posts e m s among there at h))

  -- frees (6, 7, 8)

  pub sure_at : (v : ℕ) (f : Free) → v < max 1 (length g.nodes) → Has f (frees_at g v) → is_unsure n c v f ≡ false
  sure_at v f low there = none_has (is_unsure n c v) (frees_at g v) (fails_not v 6 (list_any (is_unsure n c v) (frees_at g v)) low (λ asked. absurd cc) refl) there

  pub none_reads : (v : ℕ) (m : CertMark) → v < max 1 (length g.nodes) → Has m c.marks → m.node ≡ v → reads_freed n m.mark (names_freed n g v) m.freed ≡ false
  none_reads v m low there at =
      of_mark v m (reads_when_freed n (names_freed n g v)) there at (fails_not v 7 (some_mark c v (reads_when_freed n (names_freed n g v))) low (λ asked. absurd cc) refl)

  pub none_again : (v : ℕ) (m : CertMark) → v < max 1 (length g.nodes) → Has m c.marks → m.node ≡ v → frees_again m.mark (names_freed n g v) m.freed ≡ false
  none_again v m low there at =
      of_mark v m (frees_twice (names_freed n g v)) there at (fails_not v 8 (some_mark c v (frees_twice (names_freed n g v))) low (λ asked. absurd cc) refl)

  -- exits (10)
  pub freed_at_exit : (v : ℕ) (m : CertMark) → v < max 1 (length g.nodes) → is_exit_at g v ≡ true → Has m c.marks → m.node ≡ v → m.freed ≡ true
  freed_at_exit v m low exit there at =
      not-false m.freed (of_mark v m is_unfreed there at (and_rest (is_exit_at g v) (some_mark c v is_unfreed) exit (fails_not v 10 (is_exit_at g v && some_mark c v is_unfreed) low (λ asked. absurd cc) refl)))

  -- a mark that matches another says no more, of the same site and bit
  pub record IsMatch (v : ℕ) (m : Mark) (freed : Bool) (x : CertMark) : Type 0 where
    pub among : Has x c.marks
    pub at : x.node ≡ v
    pub site : x.mark.site ≡ m.site
    pub bit : x.freed ≡ freed
    pub holds : is_subset x.mark.holds.items m.holds.items ≡ true
    pub lacks : is_subset x.mark.lacks.items m.lacks.items ≡ true

  pub match : (v : ℕ) (m : Mark) (freed : Bool) → is_matched c v m freed ≡ true → (x : CertMark) × IsMatch v m freed x
  match v m freed h =
      let it = some_has (λ (x : CertMark). x.node == v && says_no_more m freed x) c.marks h in
      let x = it.0 in
      let both = and_parts (x.node == v) (says_no_more m freed x) it.2 in
      let within = is_subset x.mark.holds.items m.holds.items && is_subset x.mark.lacks.items m.lacks.items in
      let says = and_parts (x.mark.site == m.site) (same_bool x.freed freed && within) both.1 in
      let bits = and_parts (same_bool x.freed freed) within says.1 in
      let sets = and_parts (is_subset x.mark.holds.items m.holds.items) (is_subset x.mark.lacks.items m.lacks.items) bits.1 in (
        it.0,
        record {
          among = it.1;
          at = eqb-true x.node v both.0;
          site = eqb-true x.mark.site m.site says.0;
          bit = same_bits x.freed freed bits.0;
          holds = sets.0;
          lacks = sets.1;
        },
      )
