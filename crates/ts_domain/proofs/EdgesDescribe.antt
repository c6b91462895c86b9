-- The layer contract on marks over edges: some post describes the object after; a read that meets it is touched; the mark that is
-- born describes the new object.
use Rattle.std.proofs.Common.{◌≡◌, ◌⊎◌, inl, inr, ⊎_elim, ℕ, ◌+◌, ◌==◌, Bool, true, false, List, [], ◌∷◌, ◌++◌, length, slice_get, Option, Some, None, option_map, refl, ap, sym, subst, ◌∙◌, append-nil}
use Rattle.std.specs.Prelude.{if◌then◌else◌}
use Rattle.std.specs.List.{Contains}
use Rattle.std.proofs.lemmas.Bool.{eqb-true}
use Rattle.c_tree.specs.Typing.{has}
use Rattle.c_tree.specs.declared.expr.Expr.{Expr}
use Rattle.c_tree.specs.declared.program.Program.{Program}
use Rattle.c_meaning.specs.declared.value.Value.TheVariants as value
use Rattle.call_contexts.proofs.Has.{first, has_contains}
use Rattle.c_graph.specs.Executes.{callee_in, function_of}
use Rattle.c_graph.specs.declared.graph.Action.{Action}
use Rattle.c_graph.specs.declared.graph.Edge.{Edge}
use Rattle.c_graph.specs.declared.graph.Graph.{Graph}
use Rattle.c_graph.specs.declared.graph.Node.{Node}
use Rattle.c_graph.specs.declared.graph.NodeKind.{NodeKind}
use Rattle.c_graph.specs.declared.graph.NodeKind.TheVariants as kind
use Rattle.c_graph.specs.declared.graph.Way.{Way}
use Rattle.c_graph.specs.declared.graph.Way.TheVariants as way
use Rattle.ts_domain.specs.declared.deed.Deed.{Deed}
use Rattle.ts_domain.specs.declared.deed.Deed.TheVariants.{Reads}
use Rattle.ts_domain.specs.declared.facts.Facts.{Facts}
use Rattle.ts_domain.specs.declared.marks.Mark.{Mark}
use Rattle.ts_domain.specs.declared.marks.Step.{Step}
use Rattle.ts_domain.specs.declared.names.Names.{Names}
use Rattle.ts_domain.specs.declared.names.Read.{Read}
use Rattle.ts_domain.specs.Deeds.{said, test_deeds, action_deeds, site_of, parameters_of, owned_by, kind_deeds, node_deeds, edge_deeds}
use Rattle.ts_domain.specs.Describing.{Describes, SomeDescribes, SomeTouched, IsTestAt, opposite}
use Rattle.ts_domain.specs.Holding.{IsSite, MayHolds}
use Rattle.ts_domain.specs.Looks.{value_deeds}
use Rattle.ts_domain.specs.Marks.{step}
use Rattle.ts_domain.specs.MarkWrites.{birth}
use Rattle.ts_domain.specs.Post.{is_gap, leaves_gap, at_edge, deeds_post, post, made_site, born}
use Rattle.ts_domain.specs.Views.{AreNames, View, Seen, first_seen, IsFresh, Finds, DoesAll}
use Rattle.ts_domain.proofs.BirthsDescribe.{birth_describes}
use Rattle.ts_domain.proofs.DeedShapes.{nothing, Quiet, settings, no_more, Opposed, silent, null_first, null_second, equal_first, equal_second, Parts, value_looks, tested_opposed, makes_new, owned_low, action_parts}
use Rattle.ts_domain.proofs.NameLaws.{at_position, has_places}
use Rattle.ts_domain.proofs.PostsDescribe.{Ends, quietly, first_ends, second_ends, deeds_describe}
use Rattle.ts_domain.proofs.WritesDescribe.{IsTrueThere}
use Rattle.ts_domain.proofs.ReadsTouch.{DeedsTouch, met_quietly, met_in_test}

turned : {xs ys : List Deed} → Opposed xs ys → Opposed ys xs
turned silent = silent
turned (null_first k) = null_second k
turned (null_second k) = null_first k
turned (equal_first l r) = equal_second l r
turned (equal_second l r) = equal_first l r

none_read : (before after : List Deed) (r : Read) (noted : Bool) → before ++ Reads r noted ∷ after ≡ [] → ⊥
none_read [] after r noted is = absurd cc
none_read (d ∷ before) after r noted is = absurd cc

module _ (p : Program) (g : Graph) (n : Names) (names : AreNames p g n) (f : Facts) where
  -- what an edge leads on from: a gap, a test, or what reads and then writes
  data Leads (e : Edge) : Type 0 where
    a_gap : leaves_gap g e ≡ true → edge_deeds n g e ≡ [] → Leads e
    an_action : leaves_gap g e ≡ false → Parts (Quiet n (makes_new e.way)) (edge_deeds n g e) → Leads e
    a_test : (c : Expr) → leaves_gap g e ≡ false → edge_deeds n g e ≡ test_deeds n e.way c → IsTestAt g e c → Leads e

  no_deeds : (makes : Bool) → Parts (Quiet n makes) []
  no_deeds makes = record { front = []; back = []; is = refl; looks = nothing; ending = settings no_more }

  leads : (e : Edge) → Leads e
  leads e = by_node (slice_get g.nodes e.from) refl
    where
      gap_by : (o : Option Node) (b : Bool) → slice_get g.nodes e.from ≡ o → has (λ (v : Node). is_gap v.kind) o ≡ b → leaves_gap g e ≡ b
      gap_by o b at is = ap (has (λ (v : Node). is_gap v.kind)) at ∙ is

      deeds_by : (o : Option Node) → slice_get g.nodes e.from ≡ o → edge_deeds n g e ≡ node_deeds n g e o
      deeds_by o at = ap (node_deeds n g e) at

      by_action : (x : ℕ) (a : Action) → slice_get g.nodes e.from ≡ Some (record { ctx = x; kind = kind.Act a }) → Leads e
      by_action x a at = ⊎_elim
          (λ quiet. an_action (gap_by (Some (record { ctx = x; kind = kind.Act a })) false at refl)
          (subst (Parts (Quiet n (makes_new e.way))) (sym (deeds_by (Some (record { ctx = x; kind = kind.Act a })) at)) quiet))
          (λ test. a_test test.0 (gap_by (Some (record { ctx = x; kind = kind.Act a })) false at refl)
          (deeds_by (Some (record { ctx = x; kind = kind.Act a })) at
          ∙ ap (λ (b : Action). action_deeds n (site_of n e.from) (parameters_of n (callee_in b)) (owned_by n (function_of g x)) e.way b) test.1)
          (record { ctx = x; kind = kind.Act a }, at, ap (λ (b : Action). kind.Act b) test.1))
          (action_parts n (has_places p g n names) (site_of n e.from) (parameters_of n (callee_in a)) (owned_by n (function_of g x)) e.way a (owned_low n (has_places p g n names) (function_of g x)))

      by_kind : (x : ℕ) (what : NodeKind) → slice_get g.nodes e.from ≡ Some (record { ctx = x; kind = what }) → Leads e
      by_kind x (kind.Gap number frees) at = a_gap (gap_by (Some (record { ctx = x; kind = kind.Gap number frees })) true at refl) (deeds_by (Some (record { ctx = x; kind = kind.Gap number frees })) at)
      by_kind x (kind.Act a) at = by_action x a at
      by_kind x (kind.Exit offset) at =
          an_action (gap_by (Some (record { ctx = x; kind = kind.Exit offset })) false at refl)
          (subst (Parts (Quiet n (makes_new e.way))) (sym (deeds_by (Some (record { ctx = x; kind = kind.Exit offset })) at)) (no_deeds (makes_new e.way)))

      by_node : (o : Option Node) → slice_get g.nodes e.from ≡ o → Leads e
      by_node None at = an_action (gap_by None false at refl) (subst (Parts (Quiet n (makes_new e.way))) (sym (deeds_by None at)) (no_deeds (makes_new e.way)))
      by_node (Some v) at = by_kind v.ctx v.kind at

  quiet_ends : {makes : Bool} {ds : List Deed} → Parts (Quiet n makes) ds → Parts (Ends n makes) ds
  quiet_ends q = record { front = q.front; back = q.back; is = q.is; looks = q.looks; ending = quietly q.ending }

  said_ends : (makes : Bool) (w : Way) (c : Expr) → Ends n makes (said n w c)
  said_ends makes way.True c = first_ends (tested_opposed n true c)
  said_ends makes way.False c = second_ends (tested_opposed n true c)
  said_ends makes _ c = quietly (settings no_more)

  test_ends : (makes : Bool) (w : Way) (c : Expr) → Parts (Ends n makes) (test_deeds n w c)
  test_ends makes w c = record { front = value_deeds n false c; back = said n w c; is = refl; looks = value_looks n false c; ending = said_ends makes w c }

  gap_post : (e : Edge) (m : Mark) → leaves_gap g e ≡ true → post n g f e m ≡ step m false ∷ []
  gap_post e m is = ap (λ (b : Bool). if b then step m false ∷ [] else deeds_post (at_edge n g f e) (edge_deeds n g e) m) is

  action_post : (e : Edge) (m : Mark) → leaves_gap g e ≡ false → post n g f e m ≡ deeds_post (at_edge n g f e) (edge_deeds n g e) m
  action_post e m is = ap (λ (b : Bool). if b then step m false ∷ [] else deeds_post (at_edge n g f e) (edge_deeds n g e) m) is

  -- if a mark describes an object and the deeds of an edge are done, some post describes the object behind them
  pub post_describes : (e : Edge) (sites : List ℕ) (v : View) (t : Seen) (m : Mark) (o : ℕ) → IsTrueThere (at_edge n g f e) sites v → MayHolds n f.may sites t.view → Describes n sites v m o → (makes_new e.way ≡ true → length sites ≡ o + 1 → ⊥) →
      DoesAll n g sites (edge_deeds n g e) (first_seen v) t → SomeDescribes n sites t.view (post n g f e m) o
  post_describes e sites v t m o known may h older does = by_lead (leads e)
    where
      among : leaves_gap g e ≡ false → Parts (Ends n (makes_new e.way)) (edge_deeds n g e) → SomeDescribes n sites t.view (post n g f e m) o
      among isnt parts =
          let it = deeds_describe p (at_edge n g f e) names sites (makes_new e.way) (edge_deeds n g e) parts v t m o known may h older does in
          (it.0, subst (λ (ss : List Step). Contains ss it.0) (sym (action_post e m isnt)) it.1, it.2)

      by_lead : Leads e → SomeDescribes n sites t.view (post n g f e m) o
      by_lead (a_gap is deeds) =
          let nothing_done : t ≡ first_seen v = subst (λ (ds : List Deed). DoesAll n g sites ds (first_seen v) t) deeds does in
          (step m false, subst (λ (ss : List Step). Contains ss (step m false)) (sym (gap_post e m is)) (has_contains (step m false ∷ []) first), subst (λ (w : Seen). Describes n sites w.view m o) (sym nothing_done) h)
      by_lead (an_action isnt parts) = among isnt (quiet_ends parts)
      by_lead (a_test c isnt deeds at) = among isnt (subst (Parts (Ends n (makes_new e.way))) (sym deeds) (test_ends (makes_new e.way) e.way c))

  -- the other edge of a test
  opposed_edge : (e d : Edge) (w : Way) → d.from ≡ e.from → d.way ≡ w → d ≡ record { from = e.from; to = d.to; way = w }
  opposed_edge e d w from is = λ i. record { from = from i; to = d.to; way = is i }

  touched_by : (e : Edge) (m : Mark) (ds : List Deed) → leaves_gap g e ≡ false → edge_deeds n g e ≡ ds → DeedsTouch (at_edge n g f e) ds m → SomeTouched (post n g f e m)
  touched_by e m ds isnt is touch =
      (touch.0, subst (λ (ss : List Step). Contains ss touch.0) (sym (action_post e m isnt ∙ ap (λ (es : List Deed). deeds_post (at_edge n g f e) es m) is)) touch.1, touch.2)

  test_deeds_at : (e : Edge) (c : Expr) → IsTestAt g e c → edge_deeds n g e ≡ test_deeds n e.way c
  test_deeds_at e c at =
      ap (node_deeds n g e) at.1 ∙ ap (λ (what : NodeKind). kind_deeds n (site_of n e.from) (function_of g at.0.ctx) e.way what) at.2

  test_leaves : (e : Edge) (c : Expr) → IsTestAt g e c → leaves_gap g e ≡ false
  test_leaves e c at = ap (has (λ (v : Node). is_gap v.kind)) at.1 ∙ ap is_gap at.2

  -- some post is touched over the edge, or it is that of a test, and then over the other way on
  abbrev pub IsTouchedFrom : Edge → Mark → Type 0
  IsTouchedFrom e m = SomeTouched (post n g f e m) ⊎ ((c : Expr) × IsTestAt g e c × ((d : Edge) → d.from ≡ e.from → d.way ≡ opposite e.way → SomeTouched (post n g f d m)))

  -- if a mark describes an object and a read of an edge meets a pointer to it, some post is touched over some edge from that node
  pub met_is_touched : (e : Edge) (sites : List ℕ) (v : View) (m : Mark) (o : ℕ) → MayHolds n f.may sites v → Describes n sites v m o → (before after : List Deed) (r : Read) (noted : Bool) (u : Seen) →
      edge_deeds n g e ≡ before ++ Reads r noted ∷ after → DoesAll n g sites before (first_seen v) u → Finds n g sites u.view r (value.Ptr o) → IsTouchedFrom e m
  met_is_touched e sites v m o may h before after r noted u deeds does meets = by_lead (leads e)
    where
      quietly_met : leaves_gap g e ≡ false → (makes : Bool) → Parts (Quiet n makes) (edge_deeds n g e) → IsTouchedFrom e m
      quietly_met isnt makes parts = inl (touched_by e m (edge_deeds n g e) isnt refl (met_quietly (at_edge n g f e) p names sites v m o may h before after r noted u does meets (edge_deeds n g e) parts deeds))

      -- over the other way on
      other_way : (c : Expr) → IsTestAt g e c → (w : Way) → DeedsTouch (at_edge n g f e) (test_deeds n w c) m → (d : Edge) → d.from ≡ e.from → d.way ≡ w → SomeTouched (post n g f d m)
      other_way c at w touch d from is =
          subst (λ (x : Edge). SomeTouched (post n g f x m)) (sym (opposed_edge e d w from is))
          (touched_by (record { from = e.from; to = d.to; way = w }) m (test_deeds n w c) (test_leaves (record { from = e.from; to = d.to; way = w }) c at) (test_deeds_at (record { from = e.from; to = d.to; way = w }) c at) touch)

      in_test : (c : Expr) → leaves_gap g e ≡ false → IsTestAt g e c → (w other : Way) → e.way ≡ w → opposite w ≡ other → Opposed (said n w c) (said n other c) → edge_deeds n g e ≡ test_deeds n w c → IsTouchedFrom e m
      in_test c isnt at w other is opposed_is opposed same = ⊎_elim
          (λ own. inl (touched_by e m (test_deeds n w c) isnt same own))
          (λ others. inr (c, at, λ d from there. other_way c at other others d from (there ∙ ap opposite is ∙ opposed_is)))
          (met_in_test (at_edge n g f e) p names sites v m o may h before after r noted u does meets (value_deeds n false c) (said n w c) (said n other c) (value_looks n false c) opposed (sym same ∙ deeds))

      by_way : (c : Expr) → leaves_gap g e ≡ false → IsTestAt g e c → (w : Way) → e.way ≡ w → edge_deeds n g e ≡ test_deeds n w c → IsTouchedFrom e m
      by_way c isnt at way.True is same = in_test c isnt at way.True way.False is refl (tested_opposed n true c) same
      by_way c isnt at way.False is same = in_test c isnt at way.False way.True is refl (turned (tested_opposed n true c)) same
      by_way c isnt at way.On is same = in_test c isnt at way.On way.On is refl silent same
      by_way c isnt at way.Made is same = in_test c isnt at way.Made way.Made is refl silent same
      by_way c isnt at way.NotMade is same = in_test c isnt at way.NotMade way.NotMade is refl silent same
      by_way c isnt at way.Enter is same = in_test c isnt at way.Enter way.Enter is refl silent same
      by_way c isnt at (way.Leave target) is same = in_test c isnt at (way.Leave target) (way.Leave target) is refl silent same

      by_lead : Leads e → IsTouchedFrom e m
      by_lead (a_gap is none) = absurd (none_read before after r noted (sym deeds ∙ none))
      by_lead (an_action isnt parts) = quietly_met isnt (makes_new e.way) parts
      by_lead (a_test c isnt same at) = by_way c isnt at e.way refl same

  -- the mark that is born describes the new object
  pub born_describes : (e : Edge) (sites : List ℕ) (v : View) (t : Seen) (m : Mark) (o : ℕ) → born n g f e ≡ Some m → IsTrueThere (at_edge n g f e) sites v → MayHolds n f.may sites t.view → IsFresh v o → length sites ≡ o + 1 → slice_get sites o ≡ Some e.from →
      DoesAll n g sites (edge_deeds n g e) (first_seen v) t → Describes n sites t.view m o
  born_describes e sites v t m o is known may fresh last made does = by_way e.way refl (site_of n e.from) refl is
    where
      here : (site : ℕ) → site_of n e.from ≡ Some site → IsSite n sites o site
      here site at = let it = at_position (λ u. u == e.from) n.sites site at in (e.from, made, it.1 ∙ ap (λ (u : ℕ). Some u) (eqb-true it.0 e.from it.2))

      of_parts : (site : ℕ) → site_of n e.from ≡ Some site → Parts (Quiet n (makes_new e.way)) (edge_deeds n g e) → Describes n sites t.view (birth (at_edge n g f e) (edge_deeds n g e) site) o
      of_parts site at parts = birth_describes p (at_edge n g f e) names sites (edge_deeds n g e) parts v t o site known may fresh last (here site at) does

      as_parts : e.way ≡ way.Made → Leads e → Parts (Quiet n (makes_new e.way)) (edge_deeds n g e)
      as_parts w (a_gap g none) = subst (Parts (Quiet n (makes_new e.way))) (sym none) (no_deeds (makes_new e.way))
      as_parts w (an_action isnt parts) = parts
      as_parts w (a_test c isnt same at) =
          let quiet : edge_deeds n g e ≡ value_deeds n false c = same ∙ ap (λ (x : Way). test_deeds n x c) w ∙ append-nil (value_deeds n false c) in
          record { front = value_deeds n false c; back = []; is = quiet ∙ sym (append-nil (value_deeds n false c)); looks = value_looks n false c; ending = settings no_more }

      by_way : (w : Way) → e.way ≡ w → (s : Option ℕ) → site_of n e.from ≡ s → option_map (birth (at_edge n g f e) (edge_deeds n g e)) (made_site s w) ≡ Some m → Describes n sites t.view m o
      by_way way.Made at None none h = absurd cc
      by_way way.Made at (Some site) there h =
          let same : birth (at_edge n g f e) (edge_deeds n g e) site ≡ m = cc in
          subst (λ (x : Mark). Describes n sites t.view x o) same (of_parts site there (as_parts at (leads e)))
      by_way way.On at s none h = absurd cc
      by_way way.True at s none h = absurd cc
      by_way way.False at s none h = absurd cc
      by_way way.NotMade at s none h = absurd cc
      by_way way.Enter at s none h = absurd cc
      by_way (way.Leave target) at s none h = absurd cc
