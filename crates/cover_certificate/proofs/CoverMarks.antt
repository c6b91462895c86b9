-- The marks of a cover's certificate: births and posts are matched, no object is touched once it is freed, and at exits all are freed.
use Rattle.std.proofs.Common.{◌≡◌, ℕ, zero, suc, ◌==◌, ◌&&◌, ⊎_elim, inl, Bool, true, false, not, if◌then◌else◌, List, [], ◌∷◌, slice_get, Option, Some, None, option_and_then, refl, ap, sym, subst, ◌∙◌, arith}
use Rattle.std.proofs.lemmas.Bool.{and_from, and_parts, eq-eqb, false≢true, or_cases, true≢false}
use Rattle.std.specs.List.{Contains, list_any}
use Rattle.c_tree.specs.Typing.{has}
use Rattle.c_tree.specs.declared.choice.Choice.{Choice}
use Rattle.c_tree.specs.declared.program.Program.{Program}
use Rattle.c_graph.specs.Filled.{filled_graph}
use Rattle.c_graph.specs.declared.graph.Edge.{Edge}
use Rattle.c_graph.specs.declared.graph.Graph.{Graph}
use Rattle.c_graph.specs.declared.graph.Node.{Node}
use Rattle.c_graph.specs.declared.graph.NodeKind.{NodeKind}
use Rattle.c_graph.specs.declared.graph.NodeKind.TheVariants.{Gap, Act, Exit}
use Rattle.mf_set.specs.Numbers.{is_subset}
use Rattle.mf_set.proofs.NumberLaws.{members-is_subset, Contains-has}
use Rattle.ts_domain.specs.Chosen.{is_chosen}
use Rattle.ts_domain.specs.Cover.{is_exit_at}
use Rattle.ts_domain.specs.Deeds.{edge_deeds}
use Rattle.ts_domain.specs.Derived.{behind, carried, freed, gap_at, gap_puts, gathered, put_verdict, puts_at, triple, starts, follows, IsDerived}
use Rattle.ts_domain.specs.Marks.{step}
use Rattle.ts_domain.specs.Path.{Reached, same_bool}
use Rattle.ts_domain.specs.Post.{at_edge, born, deeds_post, is_gap, is_wide_edge, leaves_gap, post}
use Rattle.ts_domain.specs.Puts.{gap_key}
use Rattle.ts_domain.specs.declared.facts.Facts.{Facts}
use Rattle.ts_domain.specs.declared.marks.Mark.{Mark}
use Rattle.ts_domain.specs.declared.marks.Step.{Step}
use Rattle.ts_domain.specs.declared.names.Names.{Names}
use Rattle.ts_domain.specs.declared.triples.Derived.{Derived}
use Rattle.ts_domain.specs.declared.triples.Triple.{Triple}
use Rattle.ts_domain.proofs.ChosenLaws.{is_so}
use Rattle.ts_domain.proofs.Members.{any_at, any_from}
use Rattle.cover_certificate.specs.Closed.{facts_of, failing, freed_behind, is_matched, is_touched, is_unfreed, is_unmatched, lacks_birth, lacks_post, names_freed, posts, says_no_more, some_mark, touches}
use Rattle.cover_certificate.specs.Making.{holds_chosen, mark_of}
use Rattle.cover_certificate.specs.declared.types.Cert.{Cert}
use Rattle.cover_certificate.specs.declared.types.CertMark.{CertMark}
use Rattle.cover_certificate.proofs.Covered.{Covered, edge_narrow, facts_are, fails_by, fails_of, mark_listed, names_chosen, none_forbidden, some_true}
use Rattle.cover_certificate.proofs.FilledPosts.{births_same, exits_same, posts_same, reached_same, wide_edges_same}
use Rattle.cover_certificate.proofs.GapPuts.{freed_gathered, number_any}

subset_itself : (xs : List ℕ) → is_subset xs xs ≡ true
subset_itself xs = members-is_subset xs xs (λ k h. h)

bit_itself : (b : Bool) → same_bool b b ≡ true
bit_itself true = refl
bit_itself false = refl

-- a node from which no gap's edge leads is no gap
kind_key : (k : NodeKind) → is_gap k ≡ false → gap_key k ≡ None
kind_key (Gap number frees) h = absurd (true≢false h)
kind_key (Act a) h = refl
kind_key (Exit offset) h = refl

no_gap : (o : Option Node) → has (λ (v : Node). is_gap v.kind) o ≡ false → option_and_then (λ (v : Node). gap_key v.kind) o ≡ None
no_gap None h = refl
no_gap (Some v) h = kind_key v.kind h

only_step : (x y : Step) → Contains (x ∷ []) y → x ≡ y
only_step x y (zero, b, e) = e
only_step x y (suc k, b, e) = absurd (omega (arith, b))

module _ (p : Program) (g : Graph) (n : Names) (f : Facts) (d : Derived) (s : Choice) (c : Cert) (is : Covered p g n f d s c) where
  abbrev filled : Graph
  filled = filled_graph s g

  -- the mark of a triple is matched at its node
  matched : (t : Triple) → IsDerived n g f t → is_matched c t.node t.mark (holds_chosen n s t) ≡ true
  matched t h =
      any_from (λ (x : CertMark). x.node == t.node && says_no_more t.mark (holds_chosen n s t) x) c.marks (mark_of n s t) (mark_listed p g n f d s c is t h)
      (and_from (t.node == t.node) (says_no_more t.mark (holds_chosen n s t) (mark_of n s t)) (eq-eqb t.node t.node refl)
      (and_from (t.mark.site == t.mark.site) (same_bool (holds_chosen n s t) (holds_chosen n s t) && (is_subset t.mark.holds.items t.mark.holds.items && is_subset t.mark.lacks.items t.mark.lacks.items)) (eq-eqb t.mark.site t.mark.site refl)
      (and_from (same_bool (holds_chosen n s t) (holds_chosen n s t)) (is_subset t.mark.holds.items t.mark.holds.items && is_subset t.mark.lacks.items t.mark.lacks.items) (bit_itself (holds_chosen n s t))
      (and_from (is_subset t.mark.holds.items t.mark.holds.items) (is_subset t.mark.lacks.items t.mark.lacks.items) (subset_itself t.mark.holds.items) (subset_itself t.mark.lacks.items)))))

  matched_not : (v : ℕ) (m : Mark) (b : Bool) → is_matched c v m b ≡ true → not (is_matched c v m b) ≡ true → ⊥
  matched_not v m b is_it isnt = true≢false (sym isnt ∙ ap not is_it)

  -- births (4)

  birth_by : (e : Edge) (o : Option Mark) → Contains g.edges e → Reached g e.from → born n g f e ≡ o → has (λ (m : Mark). not (is_matched c e.to m false)) o ≡ true → ⊥
  birth_by e None among reached made h = false≢true h
  birth_by e (Some m) among reached made h =
      matched_not e.to m false
      (matched (triple n e.to m []) (starts (triple n e.to m []) (record { edge = e; is_edge = among; reached = reached; mark = m; made = made; is = refl }))) h

  births_are : (e : Edge) → born n filled (facts_of c) e ≡ born n g f e
  births_are e = ap (λ (k : Facts). born n filled k e) (facts_are p g n f d s c is) ∙ births_same s g n f e

  pub births_matched : (v : ℕ) → Reached filled v → slice_get (failing n filled c v) 4 ≡ Some true → ⊥
  births_matched v reached h =
      let it = fails_by filled v (lacks_birth n filled (facts_of c) (is_matched c)) h in
      birth_by it.edge (born n g f it.edge) it.among (subst (Reached g) (sym it.from) (reached_same s g reached)) refl
      (sym (ap (has (λ (m : Mark). not (is_matched c it.edge.to m false))) (births_are it.edge)) ∙ it.fails)

  -- touches (5)

  -- a touch forbids the candidates, so none of them is chosen
  none_touched : (e : Edge) (t : Triple) (x : Step) → Contains g.edges e → IsDerived n g f t → e.from ≡ t.node → Contains (post n g f e t.mark) x → x.touched ≡ true → holds_chosen n s t ≡ true → ⊥
  none_touched e t x among h from goes touched holds =
      let it = any_at (is_chosen n s) t.puts.items holds in
      let narrow = edge_narrow p g n f d s c is e t among h from in
      none_forbidden p g n f d s c is it.0
      (t, h, inl (record { edge = e; is_edge = among; leaves = from; narrow = narrow; step = x; goes = goes; touched = touched }, Contains-has t.puts.items it.0 it.1)) it.2

  posts_are : (e : Edge) (t : Triple) → Contains g.edges e → IsDerived n g f t → e.from ≡ t.node → posts n filled (facts_of c) e t.mark ≡ post n g f e t.mark
  posts_are e t among h from =
      ap (λ (k : Facts). posts n filled k e t.mark) (facts_are p g n f d s c is)
      ∙ ap (λ (b : Bool). if b then [] else post n filled f e t.mark) (wide_edges_same s g n f e t.mark ∙ edge_narrow p g n f d s c is e t among h from)
      ∙ posts_same s g n f e t.mark

  pub none_freed_touched : (v : ℕ) → slice_get (failing n filled c v) 5 ≡ Some true → ⊥
  none_freed_touched v h =
      let it = fails_by filled v (λ (e : Edge). some_mark c v (touches n filled (facts_of c) e)) h in
      let of = fails_of p g n f d s c is v (touches n filled (facts_of c) it.edge) it.fails in
      let from : it.edge.from ≡ of.triple.node = it.from ∙ sym of.node in
      let both = and_parts (holds_chosen n s of.triple) (list_any is_touched (posts n filled (facts_of c) it.edge of.triple.mark)) of.fails in
      let x = any_at is_touched (post n g f it.edge of.triple.mark) (sym (ap (list_any is_touched) (posts_are it.edge of.triple it.among of.derived from)) ∙ both.1) in
      none_touched it.edge of.triple x.0 it.among of.derived from x.1 x.2 both.0

  -- posts (9)

  -- behind the frees of its node a mark's object is freed where a candidate is chosen
  freed_where_chosen : (t : Triple) → freed_behind t.mark (names_freed n filled t.node) (holds_chosen n s t) ≡ list_any (is_chosen n s) (behind n g t)
  freed_where_chosen t =
      ap (λ (ks : List (Option ℕ)). freed_behind t.mark ks (holds_chosen n s t)) (names_chosen p g n f d s c is t.node)
      ∙ freed_gathered n t.mark (is_chosen n s) (λ k. option_and_then (freed n) (slice_get n.puts k)) (puts_at n g t.node) t.puts.items

  -- where an edge touches the object, none is
  none_behind : (e : Edge) (t : Triple) (x : Step) → Contains g.edges e → IsDerived n g f t → e.from ≡ t.node → Contains (post n g f e t.mark) x → x.touched ≡ true → list_any (is_chosen n s) (behind n g t) ≡ false
  none_behind e t x among h from goes touched = by_gap (leaves_gap g e) refl
    where
      by_chosen : (b : Bool) → holds_chosen n s t ≡ b → list_any (is_chosen n s) t.puts.items ≡ false
      by_chosen true holds = absurd (none_touched e t x among h from goes touched holds)
      by_chosen false holds = holds

      by_gap : (b : Bool) → leaves_gap g e ≡ b → list_any (is_chosen n s) (behind n g t) ≡ false
      by_gap true gap =
          let same : step t.mark false ≡ x = only_step (step t.mark false) x (subst (λ (b : Bool). Contains (if b then step t.mark false ∷ [] else deeds_post (at_edge n g f e) (edge_deeds n g e) t.mark) x) gap goes) in
          absurd (true≢false (sym touched ∙ sym (ap (λ (y : Step). y.touched) same)))
      by_gap false gap =
          let none : gap_at g t.node ≡ None = ap (gap_at g) (sym from) ∙ no_gap (slice_get g.nodes e.from) gap in
          ap (λ (o : Option ℕ). list_any (is_chosen n s) (gathered (put_verdict n t.mark) (gap_puts n o) t.puts.items)) none ∙ by_chosen (holds_chosen n s t) refl

  carried_bit : (e : Edge) (t : Triple) (x : Step) → Contains g.edges e → IsDerived n g f t → e.from ≡ t.node → Contains (post n g f e t.mark) x →
      list_any (is_chosen n s) (behind n g t) ≡ list_any (is_chosen n s) (carried x.touched (behind n g t))
  carried_bit e t x among h from goes = by_touch x.touched refl
    where
      by_touch : (b : Bool) → x.touched ≡ b → list_any (is_chosen n s) (behind n g t) ≡ list_any (is_chosen n s) (carried b (behind n g t))
      by_touch true touched = none_behind e t x among h from goes touched
      by_touch false untouched = refl

  post_matched : (e : Edge) (t : Triple) (x : Step) → Contains g.edges e → IsDerived n g f t → e.from ≡ t.node → Contains (post n g f e t.mark) x →
      is_matched c e.to x.mark (freed_behind t.mark (names_freed n filled t.node) (holds_chosen n s t)) ≡ true
  post_matched e t x among h from goes =
      let next : Triple = triple n e.to x.mark (carried x.touched (behind n g t)) in
      let narrow = edge_narrow p g n f d s c is e t among h from in
      ap (is_matched c e.to x.mark) (freed_where_chosen t ∙ carried_bit e t x among h from goes)
      ∙ matched next (follows t next h (record { edge = e; is_edge = among; leaves = from; narrow = narrow; step = x; goes = goes; is = refl }))

  pub posts_matched : (v : ℕ) → slice_get (failing n filled c v) 9 ≡ Some true → ⊥
  posts_matched v h =
      let it = fails_by filled v (λ (e : Edge). some_mark c v (lacks_post n filled (facts_of c) (is_matched c) (names_freed n filled v) e)) h in
      let of = fails_of p g n f d s c is v (lacks_post n filled (facts_of c) (is_matched c) (names_freed n filled v) it.edge) it.fails in
      by_part it.edge of.triple it.among of.derived (it.from ∙ sym of.node)
      (subst (λ (w : ℕ). lacks_post n filled (facts_of c) (is_matched c) (names_freed n filled w) it.edge (mark_of n s of.triple) ≡ true) (sym of.node) of.fails)
    where
      by_part : (e : Edge) (t : Triple) → Contains g.edges e → IsDerived n g f t → e.from ≡ t.node → lacks_post n filled (facts_of c) (is_matched c) (names_freed n filled t.node) e (mark_of n s t) ≡ true → ⊥
      by_part e t among h from lacks =
          let freed_there : Bool = freed_behind t.mark (names_freed n filled t.node) (holds_chosen n s t) in
          ⊎_elim
          (λ wide. true≢false (sym wide ∙ ap (λ (k : Facts). is_wide_edge n filled k e t.mark) (facts_are p g n f d s c is) ∙ wide_edges_same s g n f e t.mark ∙ edge_narrow p g n f d s c is e t among h from))
          (λ some.
          let x = any_at (is_unmatched (is_matched c) e.to freed_there) (post n g f e t.mark) (sym (ap (list_any (is_unmatched (is_matched c) e.to freed_there)) (posts_are e t among h from)) ∙ some) in
          matched_not e.to x.0.mark freed_there (post_matched e t x.0 among h from x.1) x.2)
          (or_cases (is_wide_edge n filled (facts_of c) e t.mark) (list_any (is_unmatched (is_matched c) e.to freed_there) (posts n filled (facts_of c) e t.mark)) lacks)

  -- exits (10)

  pub exits_freed : (v : ℕ) → slice_get (failing n filled c v) 10 ≡ Some true → ⊥
  exits_freed v h =
      let both = and_parts (is_exit_at filled v) (some_mark c v is_unfreed) (some_true (is_exit_at filled v && some_mark c v is_unfreed) h) in
      let of = fails_of p g n f d s c is v is_unfreed both.1 in
      let ends : is_exit_at g of.triple.node ≡ true = ap (is_exit_at g) of.node ∙ sym (exits_same s g v) ∙ both.0 in
      let one = is.cover.one_at_exits of.triple.puts (of.triple, (is.derived.triples of.triple).1 of.derived, ends, refl) in
      let holds : holds_chosen n s of.triple ≡ true = number_any (is_chosen n s) of.triple.puts.items one.0 one.2 (is_so n s one.0 one.1) in
      true≢false (sym of.fails ∙ ap not holds)
