-- The frees of a cover in the graph that it fills: each is readable and decided where it stands, none reads a freed object, and none frees an object again.
use Rattle.std.proofs.Common.{◌≡◌, ℕ, ◌+◌, ◌-◌, ◌<◌, ◌==◌, ◌&&◌, ◌||◌, inr, Bool, true, false, cond, not, List, [], ◌∷◌, filter, length, map, slice_get, Option, Some, None, option_map, option_and_then, refl, ap, sym, subst, ◌∙◌, arith}
use Rattle.std.specs.Prelude.{if◌then◌else◌, nat_lt}
use Rattle.std.specs.List.{Contains, list_all, list_any, range_with_len}
use Rattle.std.proofs.lemmas.Bool.{not_from_false, false_from_ne_true, true≢false, false≢true, eq-eqb, and_parts, and_from, or_right, lt-ltb}
use Rattle.std.proofs.lemmas.Option.{slice_get_within, slice_get-map}
use Rattle.c_tree.specs.Typing.{has}
use Rattle.c_tree.specs.declared.choice.Choice.{Choice}
use Rattle.c_tree.specs.declared.choice.Put.{Put}
use Rattle.c_tree.specs.declared.program.Free.{Free}
use Rattle.c_tree.specs.declared.program.Program.{Program}
use Rattle.call_contexts.proofs.Has.{Has, first, later, contains_has, has_contains, has_map}
use Rattle.c_graph.specs.declared.graph.Edge.{Edge}
use Rattle.c_graph.specs.declared.graph.Graph.{Graph}
use Rattle.c_graph.specs.declared.graph.Node.{Node}
use Rattle.c_graph.specs.declared.graph.NodeKind.{NodeKind}
use Rattle.c_graph.specs.declared.graph.NodeKind.TheVariants as kind
use Rattle.c_graph.specs.Filled.{filled_graph}
use Rattle.mf_set.specs.Numbers.{has as has_number}
use Rattle.mf_set.proofs.NumberLaws.{has_first}
use Rattle.ts_domain.specs.declared.fact.Fact.{Fact}
use Rattle.ts_domain.specs.declared.fact.Fact.TheVariants.{Ready, Full, Filled}
use Rattle.ts_domain.specs.declared.facts.Facts.{Facts}
use Rattle.ts_domain.specs.declared.facts.Path.{Path}
use Rattle.ts_domain.specs.declared.marks.Mark.{Mark}
use Rattle.ts_domain.specs.declared.marks.Verdict.TheVariants.{Yes, No, Open}
use Rattle.ts_domain.specs.declared.names.Names.{Names}
use Rattle.ts_domain.specs.declared.triples.Derived.{Derived}
use Rattle.ts_domain.specs.declared.triples.Triple.{Triple}
use Rattle.ts_domain.specs.Chosen.{is_chosen}
use Rattle.ts_domain.specs.Cover.{facts_of_place, facts_of_put, is_allowed_put, is_free_there, is_gap as is_that_gap, is_gap_at}
use Rattle.ts_domain.specs.Deeds.{edge_deeds, is_null}
use Rattle.ts_domain.specs.Derived.{base, base_at, behind, follows, forbidden_at, freed, freed_at, freed_verdict, gap_at, gap_puts, may_follow, ordered, pairs_at, put_follows, put_gap, put_verdict, puts_at, triple, IsDerived}
use Rattle.ts_domain.specs.Marks.{field_at, step, verdict}
use Rattle.ts_domain.specs.Path.{holds_at}
use Rattle.ts_domain.specs.Pointers.{field_place, place_of}
use Rattle.ts_domain.specs.Post.{at_edge, deeds_post, is_gap, leaves_gap}
use Rattle.ts_domain.specs.Puts.{gap_key}
use Rattle.ts_domain.proofs.ChosenLaws.{chosen}
use Rattle.ts_domain.proofs.DerivedLaws.{place_from}
use Rattle.ts_domain.proofs.Members.{any_at, all_at}
use Rattle.ts_domain.proofs.NameLaws.{HasPlaces, has_places, range_has}
use Rattle.cover_certificate.specs.declared.types.Cert.{Cert}
use Rattle.cover_certificate.specs.declared.types.CertMark.{CertMark}
use Rattle.cover_certificate.specs.Closed.{asked, failing, frees_again, frees_at, frees_twice, is_readable, is_sure, is_undecided, is_unsure, named, names_freed, reads_base, reads_freed, reads_when_freed, some_mark}
use Rattle.cover_certificate.specs.Making.{holds_chosen}
use Rattle.cover_certificate.proofs.Covered.{Covered, edge_narrow, fails_of, names_chosen, none_forbidden, some_true}
use Rattle.cover_certificate.proofs.GapPuts.{again_none, open_forbidden, reads_none}

-- what the put of a place frees
abbrev put_frees : Names → ℕ → Option ℕ
put_frees n k = option_and_then (freed n) (slice_get n.puts k)

-- what puts free, by the place of their variable

-- an expression that is freed, and that it asks for what a put of it asks for
pub record IsAskedFor (n : Names) (o : Option ℕ) (fs : List Fact) : Type 0 where
  pub number : ℕ
  pub is : o ≡ Some number
  pub asks : asked (length n.vars) number (field_at n number) ≡ fs

module _ (n : Names) (places : HasPlaces n) where
  place_low : (x k : ℕ) → place_of n x ≡ Some k → k < length n.vars
  place_low x k at = slice_get_within n.vars k x (places.there x k at)

  no_field : (k : ℕ) → k < length n.vars → field_at n k ≡ None
  no_field k low = ap (λ (b : Bool). if b then None else slice_get n.fields (k - length n.vars)) (lt-ltb k (length n.vars) low)

  its_field : (k f j : ℕ) → field_place n.fields k f ≡ Some j → field_at n (length n.vars + j) ≡ Some (k, f)
  its_field k f j at =
      let past : nat_lt (length n.vars + j) (length n.vars) ≡ false = grind arith in
      let same : length n.vars + j - length n.vars ≡ j = omega arith in
      ap (λ (b : Bool). if b then None else slice_get n.fields (length n.vars + j - length n.vars)) past ∙ ap (slice_get n.fields) same ∙ places.field_there k f j at

  asked_at : (field : Option ℕ) (k : ℕ) (fs : List Fact) → k < length n.vars → facts_of_place n field k ≡ Some fs → IsAskedFor n (freed_at n field k) fs
  asked_at None k fs low h = let same : Ready k ∷ [] ≡ fs = cc in record { number = k; is = refl; asks = ap (asked (length n.vars) k) (no_field k low) ∙ same }
  asked_at (Some f) k fs low h = by_place (field_place n.fields k f) refl h
    where
      by_place : (o : Option ℕ) → field_place n.fields k f ≡ o → option_map (λ j. Ready k ∷ Full k ∷ Filled j ∷ []) o ≡ Some fs → IsAskedFor n (option_map (λ j. length n.vars + j) (field_place n.fields k f)) fs
      by_place None at h = absurd cc
      by_place (Some j) at h =
          let same : Ready k ∷ Full k ∷ Filled j ∷ [] ≡ fs = cc in
          let back : length n.vars + j - length n.vars ≡ j = omega arith in
          record {
            number = length n.vars + j;
            is = ap (option_map (λ j. length n.vars + j)) at;
            asks = ap (asked (length n.vars) (length n.vars + j)) (its_field k f j at) ∙ ap (λ i. Ready k ∷ Full k ∷ Filled i ∷ []) back ∙ same;
          }

  -- what a put frees asks for what the put asks for
  put_asks : (q : Put) (fs : List Fact) → facts_of_put n q ≡ Some fs → IsAskedFor n (freed n q) fs
  put_asks q fs h = by_place (place_of n q.var) refl h
    where
      by_place : (o : Option ℕ) → place_of n q.var ≡ o → option_and_then (facts_of_place n q.field) o ≡ Some fs → IsAskedFor n (freed n q) fs
      by_place None at h = absurd cc
      by_place (Some k) at h = let it = asked_at q.field k fs (place_low q.var k at) h in record { number = it.number; is = ap (option_and_then (freed_at n q.field)) at ∙ it.is; asks = it.asks }

  -- a free that reads a variable which may point to the object is one of a put that follows it
  module _ (m : Mark) where
    reads_at : (field : Option ℕ) (k : ℕ) → k < length n.vars → reads_base n m (freed_at n field k) ≡ true → may_follow m (base_at field k) ≡ true
    reads_at None k low h = absurd (false≢true (sym (ap (has (λ (q : ℕ × ℕ). not (has_number m.lacks.items q.0))) (no_field k low)) ∙ h))
    reads_at (Some f) k low h = by_place (field_place n.fields k f) refl h
      where
        by_place : (o : Option ℕ) → field_place n.fields k f ≡ o → reads_base n m (option_map (λ j. length n.vars + j) o) ≡ true → not (has_number m.lacks.items k) ≡ true
        by_place None at h = absurd (false≢true h)
        by_place (Some j) at h = sym (ap (has (λ (q : ℕ × ℕ). not (has_number m.lacks.items q.0))) (its_field k f j at)) ∙ h

    put_reads : (q : Put) → reads_base n m (freed n q) ≡ true → may_follow m (base n q) ≡ true
    put_reads q h = by_place (place_of n q.var) refl h
      where
        by_place : (o : Option ℕ) → place_of n q.var ≡ o → reads_base n m (option_and_then (freed_at n q.field) o) ≡ true → may_follow m (base n q) ≡ true
        by_place None at h = absurd (false≢true h)
        by_place (Some k) at h = ap (λ (o : Option ℕ). may_follow m (option_and_then (base_at q.field) o)) at ∙ reads_at q.field k (place_low q.var k at) h

    number_reads : (k : ℕ) → reads_base n m (option_and_then (freed n) (slice_get n.puts k)) ≡ true → put_follows n m k ≡ true
    number_reads k h = by_put (slice_get n.puts k) h
      where
        by_put : (o : Option Put) → reads_base n m (option_and_then (freed n) o) ≡ true → may_follow m (option_and_then (base n) o) ≡ true
        by_put None h = absurd (false≢true h)
        by_put (Some q) h = put_reads q h

-- puts of a gap

-- one of some puts that is chosen frees it
abbrev IsFreedBy : (ℕ → Bool) → (ℕ → Option ℕ) → List ℕ → Option ℕ → Type 0
IsFreedBy chosen frees ks o = (k : ℕ) × (has_number ks k ≡ true) × (chosen k ≡ true) × (frees k ≡ o)

module _ (chosen : ℕ → Bool) (frees : ℕ → Option ℕ) where
  freed_later : (k : ℕ) (ks : List ℕ) (o : Option ℕ) → IsFreedBy chosen frees ks o → IsFreedBy chosen frees (k ∷ ks) o
  freed_later k ks o it = (it.0, or_right (k == it.0) (has_number ks it.0) it.1, it.2, it.3)

  freed_first : (k : ℕ) (ks : List ℕ) {o : Option ℕ} {xs : List (Option ℕ)} → chosen k ≡ true → Has o (frees k ∷ xs) → (Has o xs → IsFreedBy chosen frees ks o) → IsFreedBy chosen frees (k ∷ ks) o
  freed_first k ks is first rest = (k, has_first k ks, is, refl)
  freed_first k ks {o} is (later h) rest = freed_later k ks o (rest h)

  freed_more : (k : ℕ) (ks : List ℕ) (o : Option ℕ) (b : Bool) → chosen k ≡ b → Has o (map frees (cond b (k ∷ filter chosen ks) (filter chosen ks))) → (Has o (map frees (filter chosen ks)) → IsFreedBy chosen frees ks o) → IsFreedBy chosen frees (k ∷ ks) o
  freed_more k ks o true is h rest = freed_first k ks is h rest
  freed_more k ks o false is h rest = freed_later k ks o (rest h)

  -- what the chosen ones free, one of them frees
  freed_by : (ks : List ℕ) {o : Option ℕ} → Has o (map frees (filter chosen ks)) → IsFreedBy chosen frees ks o
  freed_by [] h = elim h [ ]
  freed_by (k ∷ ks) {o} h = freed_more k ks o (chosen k) refl h (λ g. freed_by ks g)

-- a gap stands where its puts are
gap_of : (n : Names) (o : Option ℕ) (k : ℕ) (q : Put) → slice_get n.puts k ≡ Some q → has_number (gap_puts n o) k ≡ true → o ≡ Some q.gap
gap_of n None k q at h = absurd (false≢true h)
gap_of n (Some gap) k q at h =
    let key : option_map put_gap (slice_get n.puts k) ≡ Some (Some gap) = sym (slice_get-map put_gap n.puts k) ∙ place_from (map put_gap n.puts) gap k h in
    let same : Some (Some q.gap) ≡ Some (Some gap) = sym (ap (option_map put_gap) at) ∙ key in
    let is : q.gap ≡ gap = cc in
    ap Some (sym is)

gap_stands : (g : Graph) (v gap : ℕ) → gap_at g v ≡ Some gap → (v < length g.nodes) × (is_gap_at g gap v ≡ true)
gap_stands g v gap h = by_node (slice_get g.nodes v) refl h
  where
    by_kind : (k : NodeKind) → gap_key k ≡ Some gap → is_that_gap gap k ≡ true
    by_kind (kind.Gap number frees) h = let same : number ≡ gap = cc in eq-eqb number gap same
    by_kind (kind.Act a) h = absurd cc
    by_kind (kind.Exit offset) h = absurd cc

    by_node : (o : Option Node) → slice_get g.nodes v ≡ o → option_and_then (λ (x : Node). gap_key x.kind) o ≡ Some gap → (v < length g.nodes) × (is_gap_at g gap v ≡ true)
    by_node None at h = absurd cc
    by_node (Some x) at h = (slice_get_within g.nodes v x at, ap (has (λ (y : Node). is_that_gap gap y.kind)) at ∙ by_kind x.kind h)

-- where it is that gap, it is a gap
some_gap : (gap : ℕ) (k : NodeKind) → is_that_gap gap k ≡ true → is_gap k ≡ true
some_gap gap (kind.Gap number frees) h = refl
some_gap gap (kind.Act a) h = h
some_gap gap (kind.Exit offset) h = h

gap_leaves : (g : Graph) (e : Edge) (v gap : ℕ) → e.from ≡ v → is_gap_at g gap v ≡ true → leaves_gap g e ≡ true
gap_leaves g e v gap from h = ap (λ (u : ℕ). has (λ (x : Node). is_gap x.kind) (slice_get g.nodes u)) from ∙ by_node (slice_get g.nodes v) h
  where
    by_node : (o : Option Node) → has (λ (x : Node). is_that_gap gap x.kind) o ≡ true → has (λ (x : Node). is_gap x.kind) o ≡ true
    by_node None h = h
    by_node (Some x) h = some_gap gap x.kind h

-- tests

undecided_open : (a b : Bool) → (not a && not b) ≡ true → (if a then Yes else if b then No else Open) ≡ Open
undecided_open true b h = absurd (false≢true h)
undecided_open false true h = absurd (false≢true h)
undecided_open false false h = refl

or_second : (a b : Bool) → (not a || b) ≡ true → a ≡ true → b ≡ true
or_second true b h is = h
or_second false b h is = absurd (false≢true is)

-- of a cover

module _ (p : Program) (g : Graph) (n : Names) (f : Facts) (d : Derived) (s : Choice) (c : Cert) (is : Covered p g n f d s c) where
  places : HasPlaces n
  places = has_places p g n is.names

  -- no two chosen puts are a pair
  not_paired : (j k : ℕ) (b : Bool) → Contains d.pairs (if b then (k, j) else (j, k)) → is_chosen n s j ≡ true → is_chosen n s k ≡ true → ⊥
  not_paired j k true h one other = is.cover.apart k j h (chosen n s k other) (chosen n s j one)
  not_paired j k false h one other = is.cover.apart j k h (chosen n s j one) (chosen n s k other)

  -- an edge leads on from a gap
  is_led : (v gap : ℕ) → is_gap_at g gap v ≡ true → (e : Edge) × Contains g.edges e × (e.from ≡ v)
  is_led v gap h = by_node (slice_get g.nodes v) refl h
    where
      by_node : (o : Option Node) → slice_get g.nodes v ≡ o → has (λ (x : Node). is_that_gap gap x.kind) o ≡ true → (e : Edge) × Contains g.edges e × (e.from ≡ v)
      by_node None at h = absurd (false≢true h)
      by_node (Some x) at h = is.leads v x at (some_gap gap x.kind h)

  module _ (t : Triple) (derived : IsDerived n g f t) where
    abbrev ks : List ℕ
    ks = puts_at n g t.node

    gap_forbids : (k : ℕ) → has_number (forbidden_at (put_verdict n t.mark) ks t.puts.items) k ≡ true → is_chosen n s k ≡ true → ⊥
    gap_forbids k h has_it = none_forbidden p g n f d s c is k (t, derived, inr h) has_it

    gap_pairs : (j k : ℕ) → Has (ordered j k) (pairs_at (put_verdict n t.mark) (put_follows n t.mark) ks t.puts.items) → is_chosen n s j ≡ true → is_chosen n s k ≡ true → ⊥
    gap_pairs j k h = not_paired j k (nat_lt k j) ((is.derived.pairs (ordered j k)).1 (t, derived, has_contains (pairs_at (put_verdict n t.mark) (put_follows n t.mark) ks t.puts.items) h))

    -- the frees of its gap read no freed object
    none_read : reads_freed n t.mark (names_freed n (filled_graph s g) t.node) (holds_chosen n s t) ≡ false
    none_read =
        ap (λ (xs : List (Option ℕ)). reads_freed n t.mark xs (holds_chosen n s t)) (names_chosen p g n f d s c is t.node)
        ∙ reads_none n t.mark (is_chosen n s) (put_frees n) (put_follows n t.mark) (number_reads n places t.mark) ks t.puts.items gap_pairs

    -- and none of them frees it again

    abbrev next : Edge → Triple
    next e = triple n e.to t.mark (behind n g t)

    goes_over : (e : Edge) → Contains g.edges e → e.from ≡ t.node → leaves_gap g e ≡ true → IsDerived n g f (next e)
    goes_over e among from leaves = follows t (next e) derived (record {
      edge = e;
      is_edge = among;
      leaves = from;
      narrow = edge_narrow p g n f d s c is e t among derived from;
      step = step t.mark false;
      goes = subst (λ (b : Bool). Contains (if b then step t.mark false ∷ [] else deeds_post (at_edge n g f e) (edge_deeds n g e) t.mark) (step t.mark false)) (sym leaves) (0, omega arith, refl);
      is = refl;
    })

    one_behind : (gap : ℕ) → gap_at g t.node ≡ Some gap → (j k : ℕ) → has_number (behind n g t) j ≡ true → has_number (behind n g t) k ≡ true → is_chosen n s j ≡ true → is_chosen n s k ≡ true → j ≡ k
    one_behind gap at j k hj hk one other =
        let stands = gap_stands g t.node gap at in
        let e = is_led t.node gap stands.1 in
        is.cover.at_most_one (next e.0) ((is.derived.triples (next e.0)).1 (goes_over e.0 e.1 e.2 (gap_leaves g e.0 t.node gap e.2 stands.1))) j k hj hk (chosen n s j one) (chosen n s k other)

    gap_again : (o : Option ℕ) → gap_at g t.node ≡ o → frees_again t.mark (map (put_frees n) (filter (is_chosen n s) (gap_puts n o))) (holds_chosen n s t) ≡ false
    gap_again None at = refl
    gap_again (Some gap) at =
        ap (λ (o : Option ℕ). frees_again t.mark (map (put_frees n) (filter (is_chosen n s) (gap_puts n o))) (holds_chosen n s t)) (sym at)
        ∙ again_none n t.mark (is_chosen n s) (put_frees n) ks t.puts.items gap_forbids (one_behind gap at)

    none_again : frees_again t.mark (names_freed n (filled_graph s g) t.node) (holds_chosen n s t) ≡ false
    none_again = ap (λ (xs : List (Option ℕ)). frees_again t.mark xs (holds_chosen n s t)) (names_chosen p g n f d s c is t.node) ∙ gap_again (gap_at g t.node) refl

  -- a chosen put of a gap is readable there, and each mark there decides what it frees (6)

  module _ (v k : ℕ) (q : Put) (at : slice_get n.puts k ≡ Some q) (listed : has_number (puts_at n g v) k ≡ true) (has_it : is_chosen n s k ≡ true) where
    free_there : is_free_there n f.path q v ≡ true
    free_there =
        let stands = gap_stands g v q.gap (gap_of n (gap_at g v) k q at listed) in
        let same : 0 + v ≡ v = omega arith in
        let allows : is_allowed_put g n f.path q ≡ true = sym (ap (has (is_allowed_put g n f.path)) at) ∙ is.cover.allowed k (chosen n s k has_it) in
        or_second (is_gap_at g q.gap v) (is_free_there n f.path q v)
        (all_at (λ u. not (is_gap_at g q.gap u) || is_free_there n f.path q u) (range_with_len 0 (length g.nodes)) allows v (has_contains (range_with_len 0 (length g.nodes)) (range_has 0 (length g.nodes) v v stands.0 same))) stands.1

    asked_there : (o : Option (List Fact)) → facts_of_put n q ≡ o → has (λ (fs : List Fact). list_all (holds_at n f.path v) fs) o ≡ true → (e : ℕ) × (freed n q ≡ Some e) × (is_readable n f.path v e ≡ true)
    asked_there None asks h = absurd (false≢true h)
    asked_there (Some fs) asks h = let it = put_asks n places q fs asks in (it.number, it.is, ap (list_all (holds_at n f.path v)) it.asks ∙ h)

    decided_there : (e : ℕ) → freed n q ≡ Some e → some_mark c v (is_undecided e) ≡ true → ⊥
    decided_there e frees h =
        let it = fails_of p g n f d s c is v (is_undecided e) h in
        let t = it.triple in
        let frees_there : put_verdict n t.mark k ≡ verdict t.mark e = ap (λ (o : Option Put). freed_verdict t.mark (option_and_then (freed n) o)) at ∙ ap (freed_verdict t.mark) frees in
        let undecided = undecided_open (has_number t.mark.holds.items e) (has_number t.mark.lacks.items e) it.fails in
        let there : has_number (puts_at n g t.node) k ≡ true = subst (λ (u : ℕ). has_number (puts_at n g u) k ≡ true) (sym it.node) listed in
        gap_forbids t it.derived k (open_forbidden (put_verdict n t.mark) (puts_at n g t.node) t.puts.items k there (frees_there ∙ undecided)) has_it

    put_sure : has (is_sure n c v) (freed n q) ≡ true
    put_sure =
        let it = asked_there (facts_of_put n q) refl free_there in
        ap (has (is_sure n c v)) it.1
        ∙ and_from (is_readable n c.path v it.0) (not (some_mark c v (is_undecided it.0))) (ap (λ (x : Path). is_readable n x v it.0) is.made.path ∙ it.2) (not_from_false (some_mark c v (is_undecided it.0)) (false_from_ne_true (some_mark c v (is_undecided it.0)) (decided_there it.0 it.1)))

  sure_number : (v k : ℕ) (o : Option Put) → slice_get n.puts k ≡ o → has_number (puts_at n g v) k ≡ true → is_chosen n s k ≡ true → has (is_sure n c v) (option_and_then (freed n) o) ≡ true
  sure_number v k None at listed has_it = let it = chosen n s k has_it in let never : None ≡ Some it.0 = sym at ∙ it.2 in absurd cc
  sure_number v k (Some q) at listed has_it = put_sure v k q at listed has_it

  -- no free is unsure
  pub frees_sure : (v : ℕ) → slice_get (failing n (filled_graph s g) c v) 6 ≡ Some true → ⊥
  frees_sure v h =
      let it = any_at (is_unsure n c v) (frees_at (filled_graph s g) v) (some_true (list_any (is_unsure n c v) (frees_at (filled_graph s g) v)) h) in
      let there : Has (named n it.0.expr) (names_freed n (filled_graph s g) v) = has_map (λ (x : Free). named n x.expr) (contains_has (frees_at (filled_graph s g) v) it.0 it.1) in
      let put = freed_by (is_chosen n s) (put_frees n) (puts_at n g v) (subst (λ (xs : List (Option ℕ)). Has (named n it.0.expr) xs) (names_chosen p g n f d s c is v) there) in
      let sure : has (is_sure n c v) (named n it.0.expr) ≡ true = ap (has (is_sure n c v)) (sym put.3) ∙ sure_number v put.0 (slice_get n.puts put.0) refl put.1 put.2 in
      true≢false (sym (and_parts (not (is_null it.0.expr)) (not (has (is_sure n c v) (named n it.0.expr))) it.2).1 ∙ ap not sure)

  -- none reads a freed object (7)
  pub none_reads_freed : (v : ℕ) → slice_get (failing n (filled_graph s g) c v) 7 ≡ Some true → ⊥
  none_reads_freed v h =
      let reads : CertMark → Bool = reads_when_freed n (names_freed n (filled_graph s g) v) in
      let it = fails_of p g n f d s c is v reads (some_true (some_mark c v reads) h) in
      let none = ap (λ (u : ℕ). reads_freed n it.triple.mark (names_freed n (filled_graph s g) u) (holds_chosen n s it.triple)) (sym it.node) ∙ none_read it.triple it.derived in
      true≢false (sym it.fails ∙ none)

  -- none frees an object again (8)
  pub none_freed_again : (v : ℕ) → slice_get (failing n (filled_graph s g) c v) 8 ≡ Some true → ⊥
  none_freed_again v h =
      let again : CertMark → Bool = frees_twice (names_freed n (filled_graph s g) v) in
      let it = fails_of p g n f d s c is v again (some_true (some_mark c v again) h) in
      let none = ap (λ (u : ℕ). frees_again it.triple.mark (names_freed n (filled_graph s g) u) (holds_chosen n s it.triple)) (sym it.node) ∙ none_again it.triple it.derived in
      true≢false (sym it.fails ∙ none)
