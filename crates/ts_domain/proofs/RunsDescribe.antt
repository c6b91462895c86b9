-- The layer contract on marks, over edges that are executed.
use Rattle.std.proofs.Common.{◌≡◌, ◌≢◌, ⊎_elim, ℕ, ◌+◌, ◌<◌, ◌==◌, Bool, true, false, List, [], ◌∷◌, ◌++◌, length, slice_get, Option, Some, None, option_map, option_and_then, refl, ap, sym, subst, ◌∙◌, arith}
use Rattle.std.specs.Prelude.{if◌then◌else◌}
use Rattle.std.specs.List.{AllPairs, Contains, list_all}
use Rattle.std.proofs.lemmas.Bool.{and_parts, eqb-true, or_cases}
use Rattle.std.proofs.lemmas.List.{length-append, append-nil}
use Rattle.std.proofs.lemmas.Option.{slice_get_within}
use Rattle.c_tree.specs.WellFormed.{IsWellFormed}
use Rattle.c_tree.specs.declared.program.Program.{Program}
use Rattle.c_tree.specs.declared.program.Ty.TheVariants as ty
use Rattle.c_meaning.specs.declared.machine.Location.TheVariants.{Slot}
use Rattle.c_meaning.specs.declared.value.Value.{Value}
use Rattle.c_meaning.specs.declared.value.Value.TheVariants as value
use Rattle.c_meaning.specs.Machine.{Store}
use Rattle.call_contexts.proofs.Has.{get_left}
use Rattle.call_contexts.specs.Contexts.{contexts}
use Rattle.c_graph.specs.Executes.{Does as Comes, frees, unsets, assigns, makes, makes_none, gets, puts, prints, holds, fails, calls, returns, closes, ends, ends_last, Executes, sites_by, sites_over}
use Rattle.c_graph.specs.Nodes.{graph}
use Rattle.c_graph.specs.declared.graph.Edge.{Edge}
use Rattle.c_graph.specs.declared.graph.Graph.{Graph}
use Rattle.c_graph.specs.declared.graph.NodeKind.{NodeKind}
use Rattle.c_graph.specs.declared.graph.Way.{Way}
use Rattle.c_graph.specs.declared.graph.Way.TheVariants as way
use Rattle.mf_set.specs.Numbers.{has as has_number, is_subset}
use Rattle.ts_domain.specs.declared.facts.Facts.{Facts}
use Rattle.ts_domain.specs.declared.facts.May.{May}
use Rattle.ts_domain.specs.declared.marks.Mark.{Mark}
use Rattle.ts_domain.specs.declared.marks.Step.{Step}
use Rattle.ts_domain.specs.declared.names.Names.{Names}
use Rattle.ts_domain.specs.Deeds.{edge_deeds, site_of}
use Rattle.ts_domain.specs.Describing.{Describes, IsKnownOf, DescribeIn, DescribeAfter, TouchWhereMet, BornIn, BornDescribes}
use Rattle.ts_domain.specs.Holding.{IsSite, MayHolds}
use Rattle.ts_domain.specs.Marks.{step}
use Rattle.ts_domain.specs.MarkWrites.{birth}
use Rattle.ts_domain.specs.Numbering.{makes as makes_object}
use Rattle.ts_domain.specs.Pointers.{type_of}
use Rattle.ts_domain.specs.Post.{leaves_gap, at_edge, deeds_post, post, made_site, born}
use Rattle.ts_domain.specs.TypedMachines.{Fits, IsTyped}
use Rattle.ts_domain.specs.Views.{AreNames, View, view_of, slot_seen, EdgeDoes}
use Rattle.ts_domain.proofs.Answers.{same_is}
use Rattle.ts_domain.proofs.Bridge.{last_site}
use Rattle.ts_domain.proofs.DeedShapes.{makes_new}
use Rattle.ts_domain.proofs.EdgesDescribe.{post_describes, met_is_touched, born_describes}
use Rattle.ts_domain.proofs.EntryLists.{posts_differ}
use Rattle.ts_domain.proofs.NameLaws.{has_places}
use Rattle.ts_domain.proofs.NewObjects.{more_types, pointed, is_fresh, has_site}
use Rattle.ts_domain.proofs.Stores.{content}
use Rattle.ts_domain.proofs.TypedRuns.{executed_goes}
use Rattle.ts_domain.proofs.WritesDescribe.{PointersFit, IsTrueThere}

-- more objects

site_more : (n : Names) (sites more : List ℕ) (o t : ℕ) → IsSite n sites o t → IsSite n (sites ++ more) o t
site_more n sites more o t is = (is.0, get_left sites more is.0 o is.1, is.2)

may_more : (n : Names) (m : May) (sites more : List ℕ) (v : View) → MayHolds n m sites v → MayHolds n m (sites ++ more) v
may_more n m sites more v h = record {
  slots = λ k o is. let it = h.slots k o is in (it.0, site_more n sites more o it.0 it.1, it.2);
  cells = λ o f q is. let it = h.cells o f q is in (it.0, it.1, site_more n sites more q it.0 it.2, site_more n sites more o it.1 it.3, it.4);
}

describes_more : (n : Names) (sites more : List ℕ) (v : View) (m : Mark) (o : ℕ) → Describes n sites v m o → Describes n (sites ++ more) v m o
describes_more n sites more v m o h = record { site = site_more n sites more o m.site h.site; holds = h.holds; lacks = h.lacks }

sites_more : (v : ℕ) (w : Way) (sites : List ℕ) → (more : List ℕ) × (sites_by v w sites ≡ sites ++ more)
sites_more v way.Made sites = (v ∷ [], refl)
sites_more v way.On sites = ([], sym (append-nil sites))
sites_more v way.True sites = ([], sym (append-nil sites))
sites_more v way.False sites = ([], sym (append-nil sites))
sites_more v way.NotMade sites = ([], sym (append-nil sites))
sites_more v way.Enter sites = ([], sym (append-nil sites))
sites_more v (way.Leave target) sites = ([], sym (append-nil sites))

-- an object that was there is not the last behind an edge that makes one
older_by : (v : ℕ) (w : Way) (sites : List ℕ) (o : ℕ) → o < length sites → makes_new w ≡ true → length (sites_by v w sites) ≡ o + 1 → ⊥
older_by v way.Made sites o low is last = let longer : length (sites ++ v ∷ []) ≡ length sites + 1 = length-append sites (v ∷ []) in absurd (omega arith)
older_by v way.On sites o low is last = absurd cc
older_by v way.True sites o low is last = absurd cc
older_by v way.False sites o low is last = absurd cc
older_by v way.NotMade sites o low is last = absurd cc
older_by v way.Enter sites o low is last = absurd cc
older_by v (way.Leave target) sites o low is last = absurd cc

-- an edge that makes an object leads on from a node that makes objects
made_makes : {p : Program} {left : Option ℕ} {s : Store} {what : NodeKind} {w : Way} {t : Store} → Comes p left s what w t → w ≡ way.Made → makes_object what ≡ true
made_makes (makes place z offset l m at count granted) is = refl
made_makes (frees number list going) is = absurd cc
made_makes (unsets x) is = absurd cc
made_makes (assigns a e l v plain at new) is = absurd cc
made_makes (makes_none place z offset l c at count refused) is = absurd cc
made_makes (gets place l at) is = absurd cc
made_makes (puts e m at) is = absurd cc
made_makes (prints text es bytes at) is = absurd cc
made_makes (holds e says) is = absurd cc
made_makes (fails e says) is = absurd cc
made_makes (calls f es values at) is = absurd cc
made_makes (returns e v f target left at) is = absurd cc
made_makes (closes f target left) is = absurd cc
made_makes (ends e v at) is = absurd cc
made_makes ends_last is = absurd cc

-- what a typed machine's variables point to has their types
typed_fits : (p : Program) (g : Graph) (n : Names) → AreNames p g n → (sites more : List ℕ) (s : Store) → IsTyped n g sites s → PointersFit n g (sites ++ more) (view_of n s)
typed_fits p g n names sites more s typed z o c points made = by_var (slice_get n.vars z) refl points
  where
    by_var : (x : Option ℕ) → slice_get n.vars z ≡ x → slot_seen s x ≡ value.Ptr o → option_and_then (type_of n) (slice_get n.vars z) ≡ Some (ty.StructPtr c)
    by_var None at is = absurd cc
    by_var (Some x) at is =
        let it = (has_places p g n names).pointers z x at in
        let types = more_types n g sites more s typed.types typed.objects in
        let fits : Fits g (sites ++ more) it.0 (value.Ptr o) = subst (λ (w : Value). Fits g (sites ++ more) it.0 w) (pointed n g sites s typed (content s (Slot x)) o is) (types.contents (Slot x) it.0 it.1) in
        let same : Some it.0 ≡ Some (ty.StructPtr c) = sym fits.0 ∙ made in
        ap (option_and_then (type_of n)) at ∙ it.1 ∙ same

-- edges

module _ (p : Program) (w : IsWellFormed p) (n : Names) (names : AreNames p (graph p (contexts p)) n) (f : Facts) (e : Edge) (among : Contains (graph p (contexts p)).edges e) (s t : Store) (sites : List ℕ)
    (executes : Executes p (graph p (contexts p)) e s t) (known : IsKnownOf n (graph p (contexts p)) f e sites s) (may : MayHolds n f.may (sites_over e sites) (view_of n t)) where
  abbrev g : Graph
  g = graph p (contexts p)

  abbrev us : List ℕ
  us = sites_over e sites

  does : EdgeDoes n g sites e s t
  does = (executed_goes p w n names e s t sites among executes known.types).0

  more : (ms : List ℕ) × (us ≡ sites ++ ms)
  more = sites_more e.from e.way sites

  true_there : IsTrueThere (at_edge n g f e) us (view_of n s)
  true_there = subst (λ (zs : List ℕ). IsTrueThere (at_edge n g f e) zs (view_of n s)) (sym more.1)
      (record { may = may_more n f.may sites more.0 (view_of n s) known.may; facts = known.facts; types = typed_fits p g n names sites more.0 s known.types })

  may_behind : MayHolds n f.may us does.0.view
  may_behind = subst (λ (v : View). MayHolds n f.may us v) (sym (same_is does.2)) may

  pub described_after : (m : Mark) (o : ℕ) → Describes n sites (view_of n s) m o → (x : Step) × Contains (post n g f e m) x × Describes n us (view_of n t) x.mark o
  described_after m o h =
      let here : Describes n us (view_of n s) m o = subst (λ (zs : List ℕ). Describes n zs (view_of n s) m o) (sym more.1) (describes_more n sites more.0 (view_of n s) m o h) in
      let low = slice_get_within sites o h.site.0 h.site.1 in
      let it = post_describes p g n names f e us (view_of n s) does.0 m o true_there may_behind here (older_by e.from e.way sites o low) does.1 in
      (it.0, it.1, subst (λ (v : View). Describes n us v it.0.mark o) (same_is does.2) it.2)

  pub born_after : e.way ≡ way.Made → (m : Mark) × (born n g f e ≡ Some m) × Describes n us (view_of n t) m (length s.objects)
  born_after made =
      let site = has_site p g n names e.from executes.node executes.stands (made_makes executes.does made) in
      let m : Mark = birth (at_edge n g f e) (edge_deeds n g e) site.0 in
      let is : born n g f e ≡ Some m =
      ap (λ (x : Way). option_map (birth (at_edge n g f e) (edge_deeds n g e)) (made_site (site_of n e.from) x)) made
      ∙ ap (option_map (birth (at_edge n g f e) (edge_deeds n g e))) site.1 in
      let longer : us ≡ sites ++ e.from ∷ [] = ap (λ (x : Way). sites_by e.from x sites) made in
      let last : length us ≡ length s.objects + 1 = ap length longer ∙ length-append sites (e.from ∷ []) ∙ ap (λ (i : ℕ). i + 1) (sym known.types.objects) in
      let here : slice_get us (length s.objects) ≡ Some e.from = ap (λ (zs : List ℕ). slice_get zs (length s.objects)) longer ∙ last_site sites e.from (length s.objects) known.types.objects in
      let it = born_describes p g n names f e us (view_of n s) does.0 m (length s.objects) is true_there may_behind (is_fresh n g sites s known.types) last here does.1 in
      (m, is, subst (λ (v : View). Describes n us v m (length s.objects)) (same_is does.2) it)

-- the clauses

pub posts_describe : (n : Names) (g : Graph) (f : Facts) (e : Edge) (m : Mark) → DescribeAfter n g f e m (post n g f e m)
posts_describe n g f e m p w is = subst (λ (u : Graph). DescribeIn p n u f e m (post n u f e m)) (sym is)
    (λ names among s t sites o executes known may h. described_after p w n names f e among s t sites executes known may m o h)

pub posts_touch : (n : Names) (g : Graph) (f : Facts) (e : Edge) (m : Mark) → TouchWhereMet n g f e m (post n g f e m)
posts_touch n g f e m p names sites v o may h before after r noted u deeds does meets = met_is_touched p g n names f e sites v m o may h before after r noted u deeds does meets

pub births_describe : (n : Names) (g : Graph) (f : Facts) (e : Edge) → BornDescribes n g f e (born n g f e)
births_describe n g f e p w is = subst (λ (u : Graph). BornIn p n u f e (born n u f e)) (sym is)
    (λ names among s t sites executes known may made. born_after p w n names f e among s t sites executes known may made)

pub posts_once : (n : Names) (g : Graph) (f : Facts) (e : Edge) (m : Mark) → AllPairs (λ (x y : Step). x ≢ y) (post n g f e m)
posts_once n g f e m = by_gap (leaves_gap g e)
  where
    one_alone : AllPairs (λ (x y : Step). x ≢ y) (step m false ∷ [])
    one_alone i j d less low = absurd (omega arith)

    by_gap : (b : Bool) → AllPairs (λ (x y : Step). x ≢ y) (if b then step m false ∷ [] else deeds_post (at_edge n g f e) (edge_deeds n g e) m)
    by_gap true = one_alone
    by_gap false = posts_differ (at_edge n g f e) (edge_deeds n g e) m

-- a mark of the same site that says no more describes what another does

all_has : (p : ℕ → Bool) (xs : List ℕ) (e : ℕ) → list_all p xs ≡ true → has_number xs e ≡ true → p e ≡ true
all_has p [] e all h = absurd cc
all_has p (x ∷ xs) e all h =
    let both = and_parts (p x) (list_all p xs) all in
    ⊎_elim (λ here. ap p (sym (eqb-true x e here)) ∙ both.0) (λ rest. all_has p xs e both.1 rest) (or_cases (x == e) (has_number xs e) h)

pub less_describes : (n : Names) (sites : List ℕ) (v : View) (m less : Mark) (o : ℕ) → less.site ≡ m.site → is_subset less.holds.items m.holds.items ≡ true → is_subset less.lacks.items m.lacks.items ≡ true →
    Describes n sites v m o → Describes n sites v less o
less_describes n sites v m less o site within apart h = record {
  site = subst (λ (t : ℕ). IsSite n sites o t) (sym site) h.site;
  holds = λ e is. h.holds e (all_has (has_number m.holds.items) less.holds.items e within is);
  lacks = λ e is. h.lacks e (all_has (has_number m.lacks.items) less.lacks.items e apart is);
}
